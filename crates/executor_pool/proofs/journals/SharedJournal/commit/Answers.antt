use Rattle.std.proofs.Common.{◌≡◌, ℕ, List, Option, Err, ap, ◌∙◌, subst, sym, inl, inr}
use Rattle.std.specs.Prelude.{IfNone, IfOk, Result}
use Rattle.commit_journal.specs.Journal.{drawn_for}
use Rattle.sql_base.specs.declared.NoMemory.{NoMemory}
use Rattle.commit_journal.specs.declared.Drawn.{Drawn}
use Rattle.executor_pool.specs.Jobs.{Refuses}
use Rattle.executor_pool.proofs.Refusals.{is_drawn}
use Rattle.executor_pool.proofs.journals.SharedJournal.commit.Goals as goal
use Rattle.executor_pool.proofs.journals.SharedJournal.commit.Goals.{in-Ok, in-Err-AlreadyCommitted, in-Err-StampsSpent, in-Err-NoMemory}

pub returns-clause-refused : goal.returns-clause-refused
returns-clause-refused c =
    subst (λ (drawn : List Drawn). IfOk c.match-commit.result (λ stamp. IfNone stamp (Refuses drawn c.args.name c.args.floor))) c.self.view_is
    (elim c.match-commit.branch [
      | in-Ok w ↦ by w.result-is tt
      | in-Err-AlreadyCommitted w ↦ by w.result-is (inl (is_drawn (drawn_for c.args.name c.self.inside.journal) w.in-Err-AlreadyCommitted.field-0-0 ((c.commit.ensures.already w.in-Err-AlreadyCommitted.field-0-0).0 (w.in-Err-AlreadyCommitted.is ∙ ap Err w.in-Err-AlreadyCommitted.field-0-is))))
      | in-Err-StampsSpent w ↦ by w.result-is (inr (c.commit.ensures.spent.0 (w.in-Err-StampsSpent.is ∙ ap Err w.in-Err-StampsSpent.field-0-is)).1)
      | in-Err-NoMemory w ↦ by w.result-is tt
    ])
  where
    by : {r : Result (Option ℕ) NoMemory} → c.match-commit.result ≡ r → IfOk r (λ stamp. IfNone stamp (Refuses c.self.inside.journal c.args.name c.args.floor)) → IfOk c.match-commit.result (λ stamp. IfNone stamp (Refuses c.self.inside.journal c.args.name c.args.floor))
    by is h = subst (λ (r : Result (Option ℕ) NoMemory). IfOk r (λ stamp. IfNone stamp (Refuses c.self.inside.journal c.args.name c.args.floor))) (sym is) h
