-- Who is enabled, as the code finds it.
use Rattle.std.specs.Prelude.{ℕ, ◌-◌, List, [], ◌∷◌, option_map, slice_get, unwrap_or, Bool, true, false}
use Rattle.driver_laws.specs.Scheduling.{Actor, OfPartition, OfSession}
use Rattle.requester_fs.specs.Asking.{Asking}
use Rattle.step_world.specs.Scaffold.Seats.{turn_of}
use Rattle.step_world.specs.declared.choosing.Agent.{Agent}
use Rattle.step_world.specs.declared.choosing.Agent.TheVariants.{Session, Partition}
use Rattle.step_world.specs.declared.processes.DiskProcess.{DiskProcess}
use Rattle.step_world.specs.declared.seats.Seat.{Seat}
use Rattle.step_world.specs.declared.seats.Turn.{Turn}
use Rattle.step_world.specs.declared.seats.Turn.TheVariants.{Wait, Rest}

abbrev pub actor_seen : Agent → Actor
actor_seen (Session number) = OfSession number
actor_seen (Partition part) = OfPartition part

abbrev pub is_acting : Turn → Bool
is_acting Wait = false
is_acting Rest = false
is_acting turn = true

-- the session with this number may act
abbrev pub acts_at : List (Seat Asking) → ℕ → Bool
acts_at seats n = unwrap_or (option_map (λ s. is_acting (turn_of s)) (slice_get seats (n - 1))) false

abbrev pub some_mail : {A : Type 0} → List A → Bool
some_mail [] = false
some_mail (m ∷ mail) = true

abbrev pub has_mail : DiskProcess → Bool
has_mail d = some_mail d.mail

abbrev pub mail_at : List DiskProcess → ℕ → Bool
mail_at processes part = unwrap_or (option_map has_mail (slice_get processes part)) false
