-- The history of a partition.
use Rattle.std.specs.Prelude.{◌≡◌, ℕ, List, [], ◌∷◌, take, Some}
use Rattle.sql_base.specs.Scripts.{Lies}
use Rattle.partition_state.specs.State.{State}
use Rattle.partition_state.specs.Step.{step}
use Rattle.partition_state.specs.declared.entries.Entry.{Entry}

-- the partition after the requests of a history
abbrev pub replay : State → List Entry → State
replay p [] = p
replay p (e ∷ es) = replay (step p e.opener e.sync e.request).state es

-- each opener's syncs rise, and each reply is the one that the step gives at its place
abbrev pub IsLegal : State → List Entry → Type 0
IsLegal p [] = Unit {0}
IsLegal p (e ∷ es) =
    Lies 1 8 e.opener × ((step p e.opener e.sync e.request).reply ≡ Some e.reply) × IsLegal (step p e.opener e.sync e.request).state es

-- the partition just before the entry at a place
abbrev pub before : State → List Entry → ℕ → State
before p history i = replay p (take i history)
