-- The logs of a script's sessions, one for each, are in line.
use Rattle.std.proofs.Common.{◌≡◌, ◌≤◌, ◌<◌, ◌-◌, ℕ, suc, List, [], ◌∷◌, length, get_or, Option, Some, None, Ok, Err, IfOk, Result, ◌∙◌, subst, arith}
use Rattle.std.specs.Prelude.{slice_get, unwrap_or}
use Rattle.std.specs.List.{AllZip}
use Rattle.std.specs.Option.{IsSomeAnd, MatchOption}
use Rattle.std.proofs.lemmas.Option.{slice_get-get_or}
use Rattle.std.proofs.lemmas.Slice.Zip.{AllZip-left}
use Rattle.sql_base.specs.Scripts.{Lies}
use Rattle.sql_base.specs.declared.scripts.Script.{Script}
use Rattle.session_grammar.specs.Follows.{in_line}
use Rattle.session_grammar.specs.declared.logs.LogEntry.{LogEntry}
use Rattle.requester_fs.specs.Asking.{Asking}
use Rattle.requester_fs.specs.Beginnings.{AreNew}

-- what each allows of its log is that it is in line
abbrev Allows : Asking → List LogEntry → Type 0
Allows s log = in_line s.script s.number log

pub lines : (script : Script) (sessions : List Asking) (logs : List (List LogEntry)) → AreNew (λ s. s) script sessions → AllZip Allows sessions logs
    → (n : ℕ) → Lies 1 (length script.sessions) n → in_line script n (unwrap_or (slice_get logs (n - 1)) [])
lines script [] logs new allowed n lies = absurd (omega (arith, lies.0, lies.1, new.many))
lines script (first ∷ sessions) logs new allowed n lies =
    let within : n - 1 < length (first ∷ sessions) = omega (arith, lies.0, lies.1, new.many) in
    let s = get_or (first ∷ sessions) (n - 1) first in
    let there : slice_get (first ∷ sessions) (n - 1) ≡ Some s = slice_get-get_or (first ∷ sessions) (n - 1) first within in
    let is_new = new.each (n - 1) s there in
    let found = subst (λ o. MatchOption o (Unit {0}) (λ x. IsSomeAnd (slice_get logs (n - 1)) (Allows x))) there (AllZip-left Allows (first ∷ sessions) logs allowed (n - 1)) in
    let number : s.number ≡ n = is_new.number_is ∙ suc_of n lies.0 in
    by_log (slice_get logs (n - 1)) (subst (λ p. IsSomeAnd (slice_get logs (n - 1)) (λ log. in_line script p log)) number
    (subst (λ c. IsSomeAnd (slice_get logs (n - 1)) (λ log. in_line c s.number log)) is_new.script_is found))
  where
    suc_of : (n : ℕ) → 1 ≤ n → suc (n - 1) ≡ n
    suc_of n some = omega (arith, some)

    by_log : (o : Option (List LogEntry)) → IsSomeAnd o (λ log. in_line script n log) → in_line script n (unwrap_or o [])
    by_log None h = absurd h
    by_log (Some log) h = h

-- also where the run has them only if memory sufficed
pub if_lines : {K E : Type 0} (logs_of : K → List (List LogEntry)) (script : Script) (sessions : List Asking) (result : Result K E) → AreNew (λ s. s) script sessions
    → IfOk result (λ kept. AllZip Allows sessions (logs_of kept)) → IfOk result (λ kept. (n : ℕ) → Lies 1 (length script.sessions) n → in_line script n (unwrap_or (slice_get (logs_of kept) (n - 1)) []))
if_lines logs_of script sessions (Ok kept) new allowed = lines script sessions (logs_of kept) new allowed
if_lines logs_of script sessions (Err error) new allowed = tt
