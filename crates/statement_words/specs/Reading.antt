-- What reading gives, or the first fault with its place.
use Rattle.std.specs.Prelude.{ℕ, ◌≡◌, Result, Ok, Err}
use Rattle.statement_words.specs.declared.faults.WordReason.{WordReason}
use Rattle.statement_words.specs.declared.faults.WordFault.{WordFault}
use Rattle.statement_words.specs.declared.faults.WordFault.TheVariants as faults

-- a reason and the byte that is at fault, counted from 0
pub record Place : Type 0 where
  pub reason : WordReason
  pub at : ℕ

abbrev pub fails : {A : Type 0} → WordReason → ℕ → Result A Place
fails why place = Err (record { reason = why; at = place })

-- what is read next, unless there is a fault already
infixl 10 ◌>>=◌
abbrev pub ◌>>=◌ : {A B : Type 0} → Result A Place → (A → Result B Place) → Result B Place
(Ok x) >>= f = f x
(Err e) >>= f = Err e

-- the fault that reading gives; want of memory may come at any time
abbrev pub Fails : {Y : Type 0} → WordFault → Result Y Place → Type 0
Fails faults.NoMemory read = Unit {0}
Fails (faults.At why place) read = read ≡ fails why place

-- what a call returned, seen by view, is what reading gives, unless memory ran out
abbrev pub Gives : {X Y : Type 0} → (X → Y) → Result X WordFault → Result Y Place → Type 0
Gives view (Ok x) read = read ≡ Ok (view x)
Gives view (Err e) read = Fails e read
