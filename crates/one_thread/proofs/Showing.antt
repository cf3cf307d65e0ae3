-- The transactions of a session and the sessions of a script, one after the other.
use native.Mathlib.Numerals.{unary_clauses}
use Rattle.std.proofs.Common.{◌≡◌, ◌<◌, ◌≤◌, ◌+◌, ◌*◌, ℕ, List, [], ◌∷◌, ◌++◌, length, drop, get_or, refl, ap, sym, ◌∙◌, arith, append_assoc}
use Rattle.std.specs.Prelude.{sum_by}
use Rattle.std.proofs.lemmas.List.{append-nil, drop_all, drop_more}
use Rattle.std.proofs.lemmas.List.Sums.{sum_by-cons}
use Rattle.sql_base.specs.declared.outcomes.Outcome.{Outcome}
use Rattle.sql_base.specs.declared.outcomes.Outcome.TheVariants.{Committed, RolledBack, Aborted}
use Rattle.sql_base.specs.Scripts.{IsScript}
use Rattle.sql_base.specs.declared.scripts.Script.{Script}
use Rattle.sql_base.specs.declared.scripts.Work.{Work}
use Rattle.sql_base.specs.declared.tables.TableDef.{TableDef}
use Rattle.one_thread.specs.Answer.{outcome_of, session_shown, sessions_shown, stamp_after, stamp_behind, world_behind}
use Rattle.one_thread.specs.One.{one_run, run_work, world_after, Aborts, Commits, Ending, Ran, RollsBack, World}
use Rattle.one_thread.specs.Scaffold.Runs.{RunsWork}
use Rattle.one_thread.specs.Scaffold.Sessions.{next_stamp, HasRun, HaveRun}
use Rattle.one_thread.specs.Scaffold.Worlds.{world_of, Settled}
use Rattle.one_thread.specs.declared.cells.Cell.{Cell}
use Rattle.one_thread.specs.declared.shown.Shown.{Shown}
use Rattle.one_thread.specs.declared.transactions.Run.{Run}

abbrev shown_by : ℕ → ℕ → ℕ → Ran → Shown
shown_by session ordinal stamp ran = record { session = session; ordinal = ordinal; outcome = outcome_of stamp ran.ending; given = ran.given }

-- ---- one session

-- after the first i transactions
pub record InSession (tables : List TableDef) (works : List Work) (session first : ℕ) (old world : List (List Cell)) (before shown : List Shown) (stamp i : ℕ) : Type 0 where
  pub shows : shown ++ session_shown session (i + 1) stamp (one_run (drop i works) (world_of tables world)) ≡ before ++ session_shown session 1 first (one_run works (world_of tables old))
  pub stamps : stamp_behind stamp (one_run (drop i works) (world_of tables world)) ≡ stamp_behind first (one_run works (world_of tables old))
  pub worlds : world_after (drop i works) (world_of tables world) ≡ world_after works (world_of tables old)
  pub settled : Settled tables world
  pub few : stamp ≤ first + i

pub starts : (tables : List TableDef) (works : List Work) (session first : ℕ) (old : List (List Cell)) (before : List Shown) → Settled tables old → InSession tables works session first old old before before first 0
starts tables works session first old before h = record { shows = refl; stamps = refl; worlds = refl; settled = h; few = omega arith }

same_stamp : (stamp : ℕ) (ending : Ending) → next_stamp stamp (outcome_of stamp ending) ≡ stamp_after stamp ending
same_stamp stamp Commits = refl
same_stamp stamp RollsBack = refl
same_stamp stamp (Aborts abort) = refl

at_most_next : (stamp : ℕ) (outcome : Outcome) → next_stamp stamp outcome ≤ stamp + 1
at_most_next stamp (Committed n) = omega arith
at_most_next stamp RolledBack = omega arith
at_most_next stamp (Aborted abort) = omega arith

abbrev pub shown_as : ℕ → ℕ → Run → Shown
shown_as session ordinal run = record { session = session; ordinal = ordinal; outcome = run.outcome; given = run.given }

pub one_more : (tables : List TableDef) (works : List Work) (session first : ℕ) (old world new : List (List Cell)) (before shown : List Shown) (stamp i : ℕ) (d : Work) (run : Run) → i < length works → InSession tables works session first old world before shown stamp i
    → RunsWork tables (get_or works i d) stamp world new run → InSession tables works session first old new before (shown ++ shown_as session (i + 1) run ∷ []) (next_stamp stamp run.outcome) (i + 1)
one_more tables works session first old world new before shown stamp i d run lt h is =
    let rest = drop (i + 1) works in
    let w : World = world_of tables world in
    let ran = run_work w (get_or works i d) in
    let split = drop_more works i d lt in
    let next : next_stamp stamp run.outcome ≡ stamp_after stamp ran.ending = ap (next_stamp stamp) is.outcome ∙ same_stamp stamp ran.ending in
    let few = h.few in
    let most = at_most_next stamp run.outcome in
    let later = session_shown session (i + 1 + 1) (next_stamp stamp run.outcome) (one_run rest (world_of tables new)) in
    let same : shown_as session (i + 1) run ≡ record { session = session; ordinal = i + 1; outcome = outcome_of stamp ran.ending; given = ran.given } =
    ap {B = Shown} (λ o. record { session = session; ordinal = i + 1; outcome = o; given = run.given }) is.outcome ∙ ap {B = Shown} (λ g. record { session = session; ordinal = i + 1; outcome = outcome_of stamp ran.ending; given = g }) is.given in
    let all : shown_as session (i + 1) run ∷ later ≡ session_shown session (i + 1) stamp (one_run (drop i works) w) =
    ap (λ r. r ∷ later) same
    ∙ ap (λ n. shown_by session (i + 1) stamp ran ∷ session_shown session (i + 1 + 1) n (one_run rest (world_of tables new))) next
    ∙ ap (λ x. shown_by session (i + 1) stamp ran ∷ session_shown session (i + 1 + 1) (stamp_after stamp ran.ending) (one_run rest x)) is.world
    ∙ ap (λ ws. session_shown session (i + 1) stamp (one_run ws w)) (sym split) in
    record {
      shows = append_assoc shown (shown_as session (i + 1) run ∷ []) later ∙ ap (λ rs. shown ++ rs) all ∙ h.shows;
      stamps = ap (λ n. stamp_behind n (one_run rest (world_of tables new))) next ∙ ap (λ x. stamp_behind (stamp_after stamp ran.ending) (one_run rest x)) is.world ∙ ap (λ ws. stamp_behind stamp (one_run ws w)) (sym split) ∙ h.stamps;
      worlds = ap (world_after rest) is.world ∙ ap (λ ws. world_after ws w) (sym split) ∙ h.worlds;
      settled = is.settled;
      few = omega (arith, few, most);
    }

pub is_over : (tables : List TableDef) (works : List Work) (session first : ℕ) (old world : List (List Cell)) (before shown : List Shown) (stamp i : ℕ) → length works ≤ i → i ≤ length works → InSession tables works session first old world before shown stamp i
    → HasRun tables works session first old world before shown stamp
is_over tables works session first old world before shown stamp i past within h =
    let none : drop i works ≡ [] = drop_all i works past in
    let w : World = world_of tables world in
    let few = h.few in
    record {
      shown = sym (append-nil shown) ∙ ap (λ ws. shown ++ session_shown session (i + 1) stamp (one_run ws w)) (sym none) ∙ h.shows;
      stamps = ap (λ ws. stamp_behind stamp (one_run ws w)) (sym none) ∙ h.stamps;
      world = ap (λ ws. world_after ws w) (sym none) ∙ h.worlds;
      settled = h.settled;
      few = omega (arith, few, within);
    }

-- ---- the sessions

-- after the first i sessions
pub record InSessions (script : Script) (old world : List (List Cell)) (before shown : List Shown) (stamp i : ℕ) : Type 0 where
  pub shows : shown ++ sessions_shown (i + 1) stamp (drop i script.sessions) (world_of script.tables world) ≡ before ++ sessions_shown 1 1 script.sessions (world_of script.tables old)
  pub worlds : world_behind (drop i script.sessions) (world_of script.tables world) ≡ world_behind script.sessions (world_of script.tables old)
  pub settled : Settled script.tables world
  pub few : stamp + sum_by (λ works. length works) (drop i script.sessions) ≤ 1001

at_least : (n k : ℕ) → n * (k + 1) ≤ 1000 → 1 + n ≤ 1001
at_least n k h = let e : n * (k + 1) ≡ n * k + n = simp unary_clauses in omega (arith, h, e)

pub sessions_start : (script : Script) (old : List (List Cell)) (before : List Shown) → IsScript script → Settled script.tables old → InSessions script old old before before 1 0
sessions_start script old before is h = record { shows = refl; worlds = refl; settled = h; few = at_least (sum_by (λ works. length works) script.sessions) script.limits.restart is.works }

pub one_session : (script : Script) (old world new : List (List Cell)) (before shown after : List Shown) (stamp next i : ℕ) (d : List Work) → i < length script.sessions → InSessions script old world before shown stamp i
    → HasRun script.tables (get_or script.sessions i d) (i + 1) stamp world new shown after next → InSessions script old new before after next (i + 1)
one_session script old world new before shown after stamp next i d lt h is =
    let rest = drop (i + 1) script.sessions in
    let works = get_or script.sessions i d in
    let w : World = world_of script.tables world in
    let split = drop_more script.sessions i d lt in
    let first = session_shown (i + 1) 1 stamp (one_run works w) in
    let later = sessions_shown (i + 1 + 1) next rest (world_of script.tables new) in
    let all : first ++ later ≡ sessions_shown (i + 1) stamp (drop i script.sessions) w =
    ap (λ n. first ++ sessions_shown (i + 1 + 1) n rest (world_of script.tables new)) is.stamps
    ∙ ap (λ x. first ++ sessions_shown (i + 1 + 1) (stamp_behind stamp (one_run works w)) rest x) is.world
    ∙ ap (λ ss. sessions_shown (i + 1) stamp ss w) (sym split) in
    let sums : sum_by (λ (ws : List Work). length ws) (drop i script.sessions) ≡ length works + sum_by (λ (ws : List Work). length ws) rest = ap (sum_by (λ (ws : List Work). length ws)) split ∙ sum_by-cons (λ (ws : List Work). length ws) works rest in
    let few = h.few in
    let more = is.few in
    record {
      shows = ap (λ rs. rs ++ later) is.shown ∙ append_assoc shown first later ∙ ap (λ rs. shown ++ rs) all ∙ h.shows;
      worlds = ap (world_behind rest) is.world ∙ ap (λ ss. world_behind ss w) (sym split) ∙ h.worlds;
      settled = is.settled;
      few = omega (arith, few, more, sums);
    }

pub room : (script : Script) (old world : List (List Cell)) (before shown : List Shown) (stamp i : ℕ) (d : List Work) → i < length script.sessions → InSessions script old world before shown stamp i → stamp + length (get_or script.sessions i d) ≤ 1001
room script old world before shown stamp i d lt h =
    let rest = drop (i + 1) script.sessions in
    let sums : sum_by (λ (ws : List Work). length ws) (drop i script.sessions) ≡ length (get_or script.sessions i d) + sum_by (λ (ws : List Work). length ws) rest =
    ap (sum_by (λ (ws : List Work). length ws)) (drop_more script.sessions i d lt) ∙ sum_by-cons (λ (ws : List Work). length ws) (get_or script.sessions i d) rest in
    let few = h.few in
    omega (arith, few, sums)

pub all_over : (script : Script) (old world : List (List Cell)) (before shown : List Shown) (stamp i : ℕ) → length script.sessions ≤ i → InSessions script old world before shown stamp i → HaveRun script old world before shown
all_over script old world before shown stamp i past h =
    let none : drop i script.sessions ≡ [] = drop_all i script.sessions past in
    let w : World = world_of script.tables world in
    record {
      shown = sym (append-nil shown) ∙ ap (λ ss. shown ++ sessions_shown (i + 1) stamp ss w) (sym none) ∙ h.shows;
      world = ap (λ ss. world_behind ss w) (sym none) ∙ h.worlds;
    }
