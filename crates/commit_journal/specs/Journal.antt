-- The rule of a journal: how its stamps rise.
use Rattle.std.specs.Prelude.{◌≡◌, ℕ, ◌+◌, max, find, List, [], ◌∷◌, Option}
use Rattle.sql_base.specs.Locks.{same_txn}
use Rattle.sql_base.specs.declared.lock_names.TxnName.{TxnName}
use Rattle.commit_journal.specs.declared.Drawn.{Drawn}

-- each stamp is one more than the greater of the stamp before it and its own floor
abbrev pub StampsRise : ℕ → List Drawn → Type 0
StampsRise last [] = Unit {0}
StampsRise last (d ∷ journal) = (d.stamp ≡ max last d.floor + 1) × StampsRise d.stamp journal

-- the stamp drawn last, or the one before all
abbrev pub last_stamp : ℕ → List Drawn → ℕ
last_stamp last [] = last
last_stamp last (d ∷ journal) = last_stamp d.stamp journal

-- what was drawn for a transaction
abbrev pub drawn_for : TxnName → List Drawn → Option Drawn
drawn_for name journal = find (λ d. same_txn d.name name) journal
