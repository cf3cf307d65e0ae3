-- How many actions of a run are left at most, by what its requesters may still take and what lies in mails.
use Rattle.std.specs.Prelude.{◌≤◌, ◌<◌, ℕ, ◌+◌, List, length}
use Rattle.sql_base.specs.declared.scripts.Script.{Script}
use Rattle.requester_fs.specs.Asking.{Asking}
use Rattle.ending_laws.specs.Keys.{above_in, keys_count}
use Rattle.ending_laws.specs.Measures.{run_left, session_left}
use Rattle.driver_laws.specs.Carrying.{Telling}
use Rattle.step_world.specs.Scaffold.Worlds.{Driving, Setting, scene}
use Rattle.step_world.specs.declared.processes.DiskProcess.{DiskProcess}
use Rattle.step_world.specs.declared.seats.Seat.{Seat}
use Rattle.step_world.specs.declared.worlds.World.{World}

abbrev pub seat_left : {Q : Type 0} → (Q → ℕ) → Seat Q → ℕ
seat_left answers s = session_left (answers s.requester) s.losses s.waits

abbrev pub mail_left : DiskProcess → ℕ
mail_left d = length d.mail

-- the answers that a requester may still take are counted over the keys of the script
abbrev pub actions_left : {Q : Type 0} → (Q → (List ℕ → ℕ) → ℕ → ℕ) → Script → World Q → ℕ
actions_left left script w = run_left (seat_left (λ q. left q (above_in script) (keys_count script))) mail_left w.seats.items w.processes.items

-- a sending leaves three less to its session, for itself and the messages that it leaves
abbrev pub Spends : {Q : Type 0} → (Q → (List ℕ → ℕ) → ℕ → ℕ) → Seat Q → Seat Q → Type 0
Spends left a b = (above : List ℕ → ℕ) (n : ℕ) → ((key : List ℕ) → above key ≤ n) → seat_left (λ q. left q above n) b + 3 ≤ seat_left (λ q. left q above n) a

-- an action leaves less of the run
abbrev pub LeavesLess : {Q : Type 0} → (Q → Asking) → (Q → (List ℕ → ℕ) → ℕ → ℕ) → World Q → World Q → Type 0
LeavesLess asking left a b = (setting : Setting) (tellings : List Telling) → Driving setting tellings (scene asking a) → actions_left left setting.script b < actions_left left setting.script a
