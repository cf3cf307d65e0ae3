-- How the requesters of a run begin, and go on.
use Rattle.std.specs.Prelude.{◌≡◌, ℕ, suc, List, [], length, slice_get, Some}
use Rattle.sql_base.specs.declared.scripts.Script.{Script}
use Rattle.session_grammar.specs.declared.logs.LogEntry.{LogEntry}
use Rattle.requester_fs.specs.Asking.{Asking, IsAsking, places_of}

abbrev pub EachAt : {A : Type 0} → (ℕ → A → Type 0) → List A → Type 0
EachAt {A = A} P xs = (at : ℕ) (x : A) → slice_get xs at ≡ Some x → P at x

-- a new requester of the session with this number
pub record IsNew (script : Script) (number : ℕ) (a : Asking) : Type 0 where
  pub script_is : a.script ≡ script
  pub number_is : a.number ≡ number
  pub log : a.log ≡ []
  pub asking : IsAsking a
  pub one : places_of a.way ≡ 1

-- one for each session, in order
pub record AreNew {Q : Type 0} (asking : Q → Asking) (script : Script) (requesters : List Q) : Type 0 where
  pub each : EachAt (λ at q. IsNew script (suc at) (asking q)) requesters
  pub many : length requesters ≡ length script.sessions

-- the same requester, further on: what it allows it allowed before
pub record IsLater {Q : Type 0} (single : Q → Type 0) (allows : Q → List LogEntry → Type 0) (a b : Q) : Type 0 where
  pub single_still : single a → single b
  pub allowed : (log : List LogEntry) → allows b log → allows a log
