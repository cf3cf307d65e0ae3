-- Where the code stands is where the definition does.
use Rattle.std.proofs.Common.{◌≡◌, ◌≤◌, ◌<◌, ◌-◌, ℕ, suc, ◌+◌, List, [], length, drop, get_or, Option, Some, None, Bool, false, refl, ap, sym, ◌∙◌, subst, arith}
use Rattle.std.specs.Prelude.{option_map, slice_get, unwrap_or, IfOk, IfSome, Result, Ok, Err}
use Rattle.std.proofs.lemmas.Option.{slice_get-get_or}
use Rattle.sql_base.specs.Scripts.{IsScript}
use Rattle.sql_base.specs.Tables.{IsStatement}
use Rattle.sql_base.specs.declared.faults.NoMemory.{NoMemory}
use Rattle.sql_base.specs.declared.scripts.Script.{Script}
use Rattle.sql_base.specs.declared.scripts.Work.{Work}
use Rattle.sql_base.specs.declared.statements.Statement.{Statement}
use Rattle.dp_messages.specs.Spelling.{IsAsk}
use Rattle.session_grammar.specs.Follows.{asker}
use Rattle.session_grammar.specs.Plans.{Asker, plan_of, sents_of}
use Rattle.session_grammar.specs.declared.plans.Plan.{Plan}
use Rattle.session_grammar.specs.declared.plans.Plan.TheVariants.{Subsets}
use Rattle.session_grammar.specs.declared.plans.Sent.{Sent}
use Rattle.session_laws.specs.Scaffold.Machine.{Asks, At, Place, Trying, are_subsets, retried, sents_at, statements_at, trying, works_at}
use Rattle.requester_fs.specs.Scaffold.Stages.{AreSuited, IsStage, Stands, doing_of, plan_at, statements_of, trying_of, work_of}
use Rattle.requester_fs.specs.declared.stages.Stage.{Stage}
use Rattle.requester_fs.specs.declared.stages.Stand.{Stand}
use Rattle.requester_fs.proofs.Lists.{all_at, drop_none}
use Rattle.requester_fs.proofs.Spelled.{plan_spelled}
use Rattle.sql_base.proofs.ListFacts.{drop-at}

-- what was planned for the statement at a place
pub plan_here : (r : Asker) (statements : List Statement) (i : ℕ) (s : Statement) → slice_get statements i ≡ Some s → plan_at r statements i ≡ plan_of r s
plan_here r statements i s is = ap (λ o. unwrap_or (option_map (plan_of r) o) (Subsets [])) is

module _ (script : Script) (statements : List Statement) (i : ℕ) (s : Statement) (here : slice_get statements i ≡ Some s) (plan : Plan)
    (is : (asker : Asker) → asker.tables ≡ script.tables → plan ≡ plan_of asker s) where
  pub planned_is : (number : ℕ) → plan ≡ plan_at (asker script number) statements i
  planned_is number = is (asker script number) refl ∙ sym (plan_here (asker script number) statements i s here)

  pub planned_spelled : (n : ℕ) → IsScript script → AreSuited script statements → IfSome (slice_get (sents_of plan) n) (λ sent. IsAsk sent.ask)
  planned_spelled n is_script suit =
      let suits : IsStatement script.tables s = subst (λ o. IfSome o (IsStatement script.tables)) here (all_at (IsStatement script.tables) statements i suit) in
      subst (λ p. IfSome (slice_get (sents_of p) n) (λ sent. IsAsk sent.ask)) (sym (is (asker script 1) refl))
      (all_at (λ (sent : Sent). IsAsk sent.ask) (sents_of (plan_of (asker script 1) s)) n (plan_spelled script 1 s is_script suits))

module _ (r : Asker) (t : Trying) (seen : List ℕ) (statements : List Statement) where
  -- the request of a statement that is open, or none where the statement asks no more
  pub sent_open : (i n : ℕ) (subset : Bool) (sent : Sent) (behind : Place) → slice_get (sents_of (plan_at r statements i)) n ≡ Some sent
      → At t seen (Asks subset sent.part sent.ask r.limits.patience (drop (n + 1) (sents_of (plan_at r statements i))) (drop (i + 1) statements))
      ≡ sents_at r t seen subset (drop n (sents_of (plan_at r statements i))) (drop (i + 1) statements) behind
  sent_open i n subset sent behind is = sym (ap (λ xs. sents_at r t seen subset xs (drop (i + 1) statements) behind) (drop-at (sents_of (plan_at r statements i)) n sent is))

  pub sent_none : (i n : ℕ) (subset : Bool) (behind : Place) → slice_get (sents_of (plan_at r statements i)) n ≡ None
      → sents_at r t seen subset (drop n (sents_of (plan_at r statements i))) (drop (i + 1) statements) behind ≡ behind
  sent_none i n subset behind is = ap (λ xs. sents_at r t seen subset xs (drop (i + 1) statements) behind) (drop_none (sents_of (plan_at r statements i)) n is)

  -- a statement, by what it asks
  pub statement_at : (i : ℕ) (s : Statement) (next : Place) → slice_get statements i ≡ Some s
      → statements_at r t seen (drop i statements) next
      ≡ sents_at r t seen (are_subsets (plan_at r statements i)) (drop 0 (sents_of (plan_at r statements i))) (drop (i + 1) statements) (statements_at r t seen (drop (i + 1) statements) next)
  statement_at i s next is =
      ap (λ ss. statements_at r t seen ss next) (drop-at statements i s is)
      ∙ ap (λ (p : Plan). sents_at r t seen (are_subsets p) (sents_of p) (drop (i + 1) statements) (statements_at r t seen (drop (i + 1) statements) next)) (sym (plan_here r statements i s is))

  -- the statement at this place asks this first, or nothing
  pub walk_here : (i : ℕ) (s : Statement) (next : Place) (subset : Bool) (sent : Sent) → slice_get statements i ≡ Some s → subset ≡ are_subsets (plan_at r statements i)
      → slice_get (sents_of (plan_at r statements i)) 0 ≡ Some sent
      → At t seen (Asks subset sent.part sent.ask r.limits.patience (drop (0 + 1) (sents_of (plan_at r statements i))) (drop (i + 1) statements)) ≡ statements_at r t seen (drop i statements) next
  walk_here i s next subset sent is subsets here =
      let rest = statements_at r t seen (drop (i + 1) statements) next in
      sent_open i 0 subset sent rest here ∙ ap (λ b. sents_at r t seen b (drop 0 (sents_of (plan_at r statements i))) (drop (i + 1) statements) rest) subsets ∙ sym (statement_at i s next is)

  pub walk_past : (i : ℕ) (s : Statement) (next : Place) → slice_get statements i ≡ Some s → slice_get (sents_of (plan_at r statements i)) 0 ≡ None
      → statements_at r t seen (drop (i + 1) statements) next ≡ statements_at r t seen (drop i statements) next
  walk_past i s next is none =
      let rest = statements_at r t seen (drop (i + 1) statements) next in
      sym (statement_at i s next is ∙ sent_none i 0 (are_subsets (plan_at r statements i)) rest none)

-- the transaction at a place, and the attempt of it
pub work_here : (works : List Work) (n : ℕ) (w : Work) → slice_get works n ≡ Some w → work_of works n ≡ w
work_here works n w is = ap (λ o. unwrap_or o (record { statements = []; commit = false })) is

pub first_here : (r : Asker) (ordinal : ℕ) (works : List Work) (from : ℕ) (w : Work) (stage : Stage) → slice_get works from ≡ Some w
    → ((t : Trying) (next : Place) → t.work ≡ w → At t [] (doing_of r w.statements stage) ≡ statements_at r t [] w.statements next)
    → At (trying ordinal r.limits.restart (work_of works from) (drop (from + 1) works)) [] (doing_of r (work_of works from).statements stage) ≡ works_at r ordinal (drop from works)
first_here r ordinal works from w stage is begins =
    let t = trying ordinal r.limits.restart w (drop (from + 1) works) in
    ap (λ (x : Work). At (trying ordinal r.limits.restart x (drop (from + 1) works)) [] (doing_of r x.statements stage)) (work_here works from w is)
    ∙ begins t (works_at r (ordinal + 1) (drop (from + 1) works)) refl ∙ ap (works_at r ordinal) (sym (drop-at works from w is))

pub first_past : (r : Asker) (ordinal : ℕ) (works : List Work) (from : ℕ) (w : Work) → slice_get works from ≡ Some w
    → ((t : Trying) (next : Place) → t.work ≡ w → next ≡ statements_at r t [] w.statements next)
    → works_at r (ordinal + 1) (drop (from + 1) works) ≡ works_at r ordinal (drop from works)
first_past r ordinal works from w is begins =
    let t = trying ordinal r.limits.restart w (drop (from + 1) works) in
    begins t (works_at r (ordinal + 1) (drop (from + 1) works)) refl ∙ ap (works_at r ordinal) (sym (drop-at works from w is))

pub statements_here : (works : List Work) (n : ℕ) (w : Work) → n < length works → (get_or works n w).statements ≡ (work_of works n).statements
statements_here works n w lt = ap (λ (x : Work). x.statements) (sym (work_here works n (get_or works n w) (slice_get-get_or works n w lt)))

pub commit_here : (works : List Work) (n : ℕ) (w : Work) → n < length works → w ≡ get_or works n w → w.commit ≡ (work_of works n).commit
commit_here works n w lt is = ap (λ (x : Work). x.commit) (sym (work_here works n w (slice_get-get_or works n w lt ∙ ap Some (sym is))))

pub statements_there : (works : List Work) (n : ℕ) (w : Work) → n < length works → w ≡ get_or works n w → w.statements ≡ (work_of works n).statements
statements_there works n w lt is = ap (λ (x : Work). x.statements) (sym (work_here works n w (slice_get-get_or works n w lt ∙ ap Some (sym is))))

-- the next attempt of the transaction
module _ (r : Asker) (works : List Work) (s : Stand) (w : Work) (is : slice_get works s.work ≡ Some w) (more : 0 < s.restarts) where
  more_is : s.restarts ≡ suc (s.restarts - 1)
  more_is = omega (arith, more)

  pub retried_here : (stage : Stage) → ((t : Trying) (next : Place) → t.work ≡ w → At t [] (doing_of r w.statements stage) ≡ statements_at r t [] w.statements next)
      → At (trying (s.ordinal + 1) (s.restarts - 1) (work_of works s.work) (drop (s.work + 1) works)) [] (doing_of r (work_of works s.work).statements stage) ≡ retried r (trying_of works s) s.restarts
  retried_here stage begins =
      let x = work_of works s.work in
      let t = trying (s.ordinal + 1) (s.restarts - 1) x (drop (s.work + 1) works) in
      let all = subst (λ (y : Work). (t : Trying) (next : Place) → t.work ≡ y → At t [] (doing_of r y.statements stage) ≡ statements_at r t [] y.statements next) (sym (work_here works s.work w is)) begins in
      all t (works_at r (s.ordinal + 1 + 1) (drop (s.work + 1) works)) refl ∙ sym (ap (retried r (trying_of works s)) more_is)

  pub retried_past : ((t : Trying) (next : Place) → t.work ≡ w → next ≡ statements_at r t [] w.statements next)
      → works_at r (s.ordinal + 1 + 1) (drop (s.work + 1) works) ≡ retried r (trying_of works s) s.restarts
  retried_past begins =
      let x = work_of works s.work in
      let t = trying (s.ordinal + 1) (s.restarts - 1) x (drop (s.work + 1) works) in
      let all = subst (λ (y : Work). (t : Trying) (next : Place) → t.work ≡ y → next ≡ statements_at r t [] y.statements next) (sym (work_here works s.work w is)) begins in
      all t (works_at r (s.ordinal + 1 + 1) (drop (s.work + 1) works)) refl ∙ sym (ap (retried r (trying_of works s)) more_is)

-- a stand at a place, and the same place by another name
pub stands_at : (script : Script) (works : List Work) (place : Asker → Place) (o : Option Stand) (s : Stand) (seen : List ℕ) (stage : Stage)
    → o ≡ Some (record { work = s.work; ordinal = s.ordinal; restarts = s.restarts; seen = seen; stage = stage }) → s.work < length works → 1 ≤ s.ordinal → IsStage s.ordinal (statements_of works s) stage
    → ((number : ℕ) → At (trying_of works s) seen (doing_of (asker script number) (statements_of works s) stage) ≡ place (asker script number)) → Stands script works place o
stands_at script works place o s seen stage is lt first staged placed_is = subst (Stands script works place) (sym is) ((lt, first, staged), placed_is)

pub stands_by : (x : Result (Option Stand) NoMemory) (script : Script) (works : List Work) (f g : Asker → Place) → ((number : ℕ) → f (asker script number) ≡ g (asker script number))
    → IfOk x (Stands script works f) → IfOk x (Stands script works g)
stands_by (Ok o) script works f g same h = (h.0, λ number. h.1 number ∙ same number)
stands_by (Err e) script works f g same h = tt
