-- The statements of a transaction, one after the other.
use Rattle.std.proofs.Common.{◌≡◌, ℕ, List, [], ◌∷◌, ◌++◌, map, Bool, true, false, cond, refl, ap, sym, ◌∙◌}
use Rattle.std.specs.Prelude.{Result, Ok, Err}
use Rattle.std.specs.List.{AllByRecursion}
use Rattle.sql_base.specs.Tables.{IsStatement}
use Rattle.sql_base.specs.declared.outcomes.Abort.{Abort}
use Rattle.sql_base.specs.declared.outcomes.Given.{Given}
use Rattle.sql_base.specs.declared.outcomes.Outcome.TheVariants.{Committed, RolledBack, Aborted}
use Rattle.sql_base.specs.declared.scripts.Work.{Work}
use Rattle.sql_base.specs.declared.statements.Statement.{Statement}
use Rattle.sql_base.specs.declared.tables.TableDef.{TableDef}
use Rattle.one_thread.specs.Answer.{outcome_of}
use Rattle.one_thread.specs.Scaffold.Cells.{before_of, befores, ended, now_of, nows}
use Rattle.one_thread.specs.One.{one, run_from, run_work, Aborts, Commits, Ran, RollsBack, World}
use Rattle.one_thread.specs.Scaffold.Runs.{RunsWork}
use Rattle.one_thread.specs.Scaffold.Worlds.{world_of, AreAll, Moves, Settled}
use Rattle.one_thread.specs.declared.cells.Cell.{Cell}
use Rattle.one_thread.specs.declared.transactions.Run.{Run}
use Rattle.one_thread.proofs.Moving.{after_commit, after_undo, settled}

pub record Running (tables : List TableDef) (work : Work) (old world : List (List Cell)) (given : List Given) (rest : List Statement) : Type 0 where
  pub now : AreAll now_of tables world
  pub before : AreAll before_of tables world
  pub same : map befores world ≡ map nows old
  pub goes_on : run_from (world_of tables old) work.commit given rest (world_of tables world) ≡ run_work (world_of tables old) work
  pub fits : AllByRecursion (IsStatement tables) rest

pub begins : (tables : List TableDef) (work : Work) (old : List (List Cell)) → Settled tables old → AllByRecursion (IsStatement tables) work.statements → Running tables work old old [] work.statements
begins tables work old h fits = record { now = h.now; before = h.before; same = h.same; goes_on = refl; fits = fits }

-- a statement that gives something
pub goes : (tables : List TableDef) (work : Work) (old world new : List (List Cell)) (given more : List Given) (s : Statement) (rest : List Statement) (g : Given) → Running tables work old world given (s ∷ rest) → Moves tables s world new (Ok g) → more ≡ given ++ g ∷ []
    → Running tables work old new more rest
goes tables work old world new given more s rest g r m is = record {
  now = m.1;
  before = m.2.keeps r.before;
  same = m.2.before ∙ r.same;
  goes_on = ap (λ gs. run_from (world_of tables old) work.commit gs rest (world_of tables new)) is ∙ sym (step (one (world_of tables world) s) refl (m.0)) ∙ r.goes_on;
  fits = r.fits.1;
}
  where
    step : (came : Result Given Abort × World) → one (world_of tables world) s ≡ came → one (world_of tables world) s ≡ (Ok g, world_of tables new)
        → run_from (world_of tables old) work.commit given (s ∷ rest) (world_of tables world) ≡ run_from (world_of tables old) work.commit (given ++ g ∷ []) rest (world_of tables new)
    step came e is = rw is refl

-- a statement that aborts the transaction
pub aborts : (tables : List TableDef) (work : Work) (stamp : ℕ) (old world new : List (List Cell)) (given : List Given) (s : Statement) (rest : List Statement) (abort : Abort) → Running tables work old world given (s ∷ rest) → Moves tables s world new (Err abort)
    → RunsWork tables work stamp old (map (map (ended false)) new) (record { outcome = Aborted abort; given = [] })
aborts tables work stamp old world new given s rest abort r m =
    let ran : run_work (world_of tables old) work ≡ record { ending = Aborts abort; given = []; world = world_of tables old } = sym r.goes_on ∙ stops (one (world_of tables world) s).0 refl m.0 in
    let undone : world_of tables (map (map (ended false)) new) ≡ world_of tables old = ap {B = World} (λ records. record { tables = tables; records = records }) (after_undo new ∙ m.1.before ∙ r.same) in
    record {
      outcome = ap (λ (x : Ran). outcome_of stamp x.ending) (sym ran);
      given = ap (λ (x : Ran). x.given) (sym ran);
      world = undone ∙ ap (λ (x : Ran). x.world) (sym ran);
      settled = settled false tables new (m.1.keeps r.before);
    }
  where
    stops : (o : Result Given Abort) → (one (world_of tables world) s).0 ≡ o → (one (world_of tables world) s).0 ≡ Err abort
        → run_from (world_of tables old) work.commit given (s ∷ rest) (world_of tables world) ≡ record { ending = Aborts abort; given = []; world = world_of tables old }
    stops o e is = rw is refl

-- the end of its statements
pub finishes : (tables : List TableDef) (work : Work) (stamp : ℕ) (old world : List (List Cell)) (given : List Given) (run : Run) (b : Bool) → Running tables work old world given [] → work.commit ≡ b → run.outcome ≡ cond b (Committed stamp) RolledBack → run.given ≡ given
    → RunsWork tables work stamp old (map (map (ended b)) world) run
finishes tables work stamp old world given run true r commits outcome-is given-is =
    let ran : run_work (world_of tables old) work ≡ record { ending = Commits; given = given; world = world_of tables world } = sym r.goes_on ∙ rw commits refl in
    record {
      outcome = outcome-is ∙ ap (λ (x : Ran). outcome_of stamp x.ending) (sym ran);
      given = given-is ∙ ap (λ (x : Ran). x.given) (sym ran);
      world = ap {B = World} (λ records. record { tables = tables; records = records }) (after_commit world) ∙ ap (λ (x : Ran). x.world) (sym ran);
      settled = settled true tables world r.now;
    }
finishes tables work stamp old world given run false r commits outcome-is given-is =
    let ran : run_work (world_of tables old) work ≡ record { ending = RollsBack; given = given; world = world_of tables old } = sym r.goes_on ∙ rw commits refl in
    record {
      outcome = outcome-is ∙ ap (λ (x : Ran). outcome_of stamp x.ending) (sym ran);
      given = given-is ∙ ap (λ (x : Ran). x.given) (sym ran);
      world = ap {B = World} (λ records. record { tables = tables; records = records }) (after_undo world ∙ r.same) ∙ ap (λ (x : Ran). x.world) (sym ran);
      settled = settled false tables world r.before;
    }
