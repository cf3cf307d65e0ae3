-- How a run begins, goes on and ends.
use Rattle.std.specs.Prelude.{◌≡◌, ℕ, suc, List, length, map, Some, true, false}
use Rattle.sql_base.specs.Scripts.{Lies}
use Rattle.partition_core.specs.Kept.{rows_in}
use Rattle.run_record.specs.declared.records.RunRecord.{RunRecord}
use Rattle.driver_laws.specs.Carrying.{Telling}
use Rattle.driver_laws.specs.Scheduling.{Actor}
use Rattle.requester_fs.specs.Beginnings.{EachAt}
use Rattle.step_world.specs.Choosing.{acts_at, mail_at}
use Rattle.step_world.specs.Scaffold.Worlds.{Driving, Scene, Setting, next_actor, record_of}
use Rattle.step_world.specs.declared.choosing.Agent.{Agent}
use Rattle.step_world.specs.declared.choosing.Agent.TheVariants.{Session, Partition}
use Rattle.step_world.specs.declared.seats.Seat.{Seat}

-- their seats, with nothing done yet
abbrev pub new_seat : {Q : Type 0} → ℕ → Q → Seat Q
new_seat number q = record { number = number; requester = q; losses = 0; waits = false; is_served = false }

pub record AreSeated {Q : Type 0} (requesters : List Q) (seats : List (Seat Q)) : Type 0 where
  pub same : map (λ s. s.requester) seats ≡ requesters
  pub each : EachAt (λ at s. s ≡ new_seat (suc at) s.requester) seats

-- the agent is enabled
abbrev pub CanAct : Scene → Agent → Type 0
CanAct w (Session number) = Lies 1 (length w.seats) number × (acts_at w.seats number ≡ true)
CanAct w (Partition part) = mail_at w.processes part ≡ true

-- an action of an actor that was chosen, with what the wires tell before and after it
abbrev pub GoesOnFrom : Actor → List Telling → Scene → List Telling → Scene → Type 0
GoesOnFrom actor before a after b = (setting : Setting) → Driving setting before a → next_actor setting a ≡ Some actor → Driving setting after b

-- the record with the rows that are left
abbrev pub with_rows : Scene → RunRecord
with_rows w = record (record_of w) { rows = map (λ d. rows_in d.partition) w.processes }
