-- From what calls ensure to what an action keeps.
use Rattle.std.proofs.Common.{◌≡◌, ◌<◌, ℕ, zero, suc, List, [], ◌∷◌, length, map, get_or, Some, Ok, Err, false, refl, ap, sym, ◌∙◌, subst, arith}
use Rattle.std.specs.Prelude.{Result, OnOk, ◌==◌, slice_get, slice_set}
use Rattle.std.proofs.lemmas.Bool.{eqb-false}
use Rattle.std.proofs.lemmas.Option.{slice_get_within}
use Rattle.std.proofs.lemmas.List.{length-map}
use Rattle.requester_fs.specs.Asking.{Asking}
use Rattle.session_grammar.specs.Sessions.{MayCome}
use Rattle.session_grammar.specs.UnderWay.{Sending}
use Rattle.session_grammar.specs.declared.logs.Answer.TheVariants.{PathFailed}
use Rattle.session_grammar.specs.declared.logs.LogEntry.{LogEntry}
use Rattle.requester_fs.specs.Beginnings.{IsLater}
use Rattle.step_world.specs.Scaffold.Seats.{IsOut, MayFail}
use Rattle.step_world.specs.Scaffold.Worlds.{AreLater, Scene, Stands}
use Rattle.step_world.specs.declared.seats.Outgoing.{Outgoing}
use Rattle.step_world.specs.declared.seats.Seat.{Seat}

-- a place of a list is within what it was made of
pub within_map : {X Y : Type 0} (f : X → Y) (xs : List X) (at : ℕ) (y : Y) → slice_get (map f xs) at ≡ Some y → at < length xs
within_map f xs at y is = let less = slice_get_within (map f xs) at y is in let long = length-map xs f in omega arith

-- one loss more is at most the fourth
pub few_losses : (s : Seat Asking) (r : Sending) → Stands s (Some r) → (s.losses == 4) ≡ false → s.losses < 4
few_losses s r stands four = let differ = eqb-false s.losses 4 four in omega (arith, stands.0, differ)

-- what is no End may fail
pub may_fail : (s : Seat Asking) (out : Outgoing) → IsOut s out → MayFail s out.is_end
may_fail s out is = λ e. subst (λ next. MayCome next PathFailed 4) (sym is.sends) (refl, sym is.is_end ∙ e)

module _ {Q : Type 0} (single : Q → Type 0) (allows : Q → List LogEntry → Type 0) where
  pub all_later : (seats : List (Seat Q)) → AreLater single allows seats seats
  all_later [] = tt
  all_later (s ∷ seats) = (record { single_still = λ h. h; allowed = λ log h. h }, all_later seats)

  later_set : (seats : List (Seat Q)) (at : ℕ) (a b : Seat Q) → slice_get seats at ≡ Some a → IsLater single allows a.requester b.requester → AreLater single allows seats (slice_set seats at b)
  later_set [] at a b is h = tt
  later_set (s ∷ seats) zero a b is h = let same : s ≡ a = cc in (subst (λ (x : Seat Q). IsLater single allows x.requester b.requester) (sym same) h, all_later seats)
  later_set (s ∷ seats) (suc at) a b is h = (record { single_still = λ x. x; allowed = λ log x. x }, later_set seats at a b is h)

  pub later_one : {T E : Type 0} (result : Result T E) (seats : List (Seat Q)) (at : ℕ) (a b : Seat Q) → slice_get seats at ≡ Some a → OnOk result (single b.requester) → OnOk result ((log : List LogEntry) → allows b.requester log → allows a.requester log)
      → OnOk result (AreLater single allows seats (slice_set seats at b))
  later_one (Ok u) seats at a b is still allowed = later_set seats at a b is (record { single_still = λ h. still; allowed = allowed })
  later_one (Err e) seats at a b is still allowed = tt

-- a seat changed, but not its requester
pub later_same : {Q : Type 0} (single : Q → Type 0) (allows : Q → List LogEntry → Type 0) (seats : List (Seat Q)) (at : ℕ) (a b : Seat Q) → slice_get seats at ≡ Some a → b.requester ≡ a.requester → AreLater single allows seats (slice_set seats at b)
later_same single allows seats at a b is same =
    later_set single allows seats at a b is (record { single_still = λ h. subst single (sym same) h; allowed = λ log h. subst (λ q. allows q log) same h })

-- scenes with the same parts
pub same_scene : (a b : Scene) → a.seats ≡ b.seats → a.processes ≡ b.processes → a.journal ≡ b.journal → a.acts ≡ b.acts → a ≡ b
same_scene a b seats processes journal acts = (λ i. record { seats = seats i; processes = processes i; journal = journal i; acts = acts i })

-- what stands at a place
pub process_at : {X : Type 0} (xs : List X) (at : ℕ) (x : X) → at < length xs → x ≡ get_or xs at x → slice_get xs at ≡ Some x
process_at [] at x less is = absurd (omega arith)
process_at (y ∷ xs) zero x less is = ap Some (sym is)
process_at (y ∷ xs) (suc at) x less is = process_at xs at x (omega arith) is
