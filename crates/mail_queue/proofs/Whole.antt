-- What a hand that has every number knows: the others have posted and taken nothing.
use Rattle.std.proofs.Common.{◌≡◌, ◌≢◌, ℕ, ◌≤◌, List, [], ◌∷◌, map, length, Option, Some, None, sym, ap, ◌∙◌, refl, subst, arith}
use Rattle.std.proofs.lemmas.List.{length-map}
use Rattle.std.specs.List.{range_with_len, sum_by, Any}
use mathlib.Core.Option.{some}
use lib.ListN.{get_elem?}
use Rattle.std.specs.Prelude.{IsSome}
use Rattle.crossbeam_queue.specs.Fifo.{Learns, Held}
use Rattle.crossbeam_queue.specs.Passes.{Pass, view}
use Rattle.mail_queue.specs.Insides.{IsPosterPass}
use Rattle.mail_queue.specs.declared.hand.Crew.{Crew}
use Rattle.mail_queue.specs.declared.hand.Hand.{Hand}
use Rattle.mail_queue.specs.Messages.{times, times_number, HasNumbers, Balances}
use Rattle.mail_queue.specs.Rule.{posters_of, takers_of, Stands, Moment}
use Rattle.mail_queue.proofs.Sums.{term_le, terms_le, sum_by-single}
use Rattle.mail_queue.proofs.Times.{times_number-head, times_number-any, times_number-range-le, times_number-range-lt, length-le-times}

-- where one hand has every number, another has none
no_number_else : (numbers : Hand → List ℕ) (hands : List Hand) (n : ℕ)
    → ((x : ℕ) → sum_by (λ hand. times_number x (numbers hand)) hands ≡ times_number x (range_with_len 0 n))
    → (place : ℕ) (hand : Hand) → get_elem? hands place ≡ some hand → HasNumbers (λ x. x) n (numbers hand)
    → (j : ℕ) (other : Hand) → j ≢ place → get_elem? hands j ≡ some other → numbers other ≡ []
no_number_else numbers hands n once place hand at has j other apart is_there = none (numbers other) refl
  where
    none : (xs : List ℕ) → numbers other ≡ xs → xs ≡ []
    none [] e = refl
    none (x ∷ xs) e =
        let count : Hand → ℕ = λ h. times_number x (numbers h) in
        let theirs : 1 ≤ count other = subst (λ ys. 1 ≤ times_number x ys) (sym e) (times_number-head x xs) in
        let term = term_le count hands j other is_there in
        let total = once x in
        let below = times_number-range-lt x n (omega arith) in
        let mine = times_number-any (numbers hand) x (has x below) in
        let both = terms_le count hands j place other hand apart is_there at in
        let most = times_number-range-le x n in
        absurd (omega arith)

crew_known : (crew : Option Crew) → IsSome crew → (known : Crew) × (crew ≡ Some known)
crew_known (Some known) some_known = (known, refl)
crew_known None some_known = cc

module _ {M : Type 0} (spelling : M → List ℕ) where
  -- the hand with every poster's number has posted all that was posted
  posted_all : (items : List M) (hands : List Hand) (s : Stands spelling items hands) (place : ℕ) (hand : Hand)
      → get_elem? hands place ≡ some hand → HasNumbers (λ x. x) (posters_of s.crew) hand.posters
      → (message : List ℕ) → sum_by (λ h. times message h.posted) hands ≡ times message hand.posted
  posted_all items hands s place hand at has message =
      sum_by-single (λ h. times message h.posted) hands place hand at
      (λ j other apart is_there. ap (times message) ((s.fits j other is_there).no_poster (no_number_else (λ h. h.posters) hands _ s.posters place hand at has j other apart is_there)))

  taken_all : (items : List M) (hands : List Hand) (s : Stands spelling items hands) (place : ℕ) (hand : Hand)
      → get_elem? hands place ≡ some hand → HasNumbers (λ x. x) (takers_of s.crew) hand.takers
      → (message : List ℕ) → sum_by (λ h. times message h.taken) hands ≡ times message hand.taken
  taken_all items hands s place hand at has message =
      sum_by-single (λ h. times message h.taken) hands place hand at
      (λ j other apart is_there. ap (times message) ((s.fits j other is_there).no_taker (no_number_else (λ h. h.takers) hands _ s.takers place hand at has j other apart is_there)))

  -- the hand with every number knows what is left
  pub settles : (place : ℕ) (hand : Hand) (crew : Crew) → hand.crew ≡ Some crew → HasNumbers (λ x. x) crew.posters hand.posters → HasNumbers (λ x. x) crew.takers hand.takers
      → Learns (Stands spelling) place hand (λ left. Balances hand.posted hand.taken (map spelling left))
  settles place hand crew knows posters takers items hands s at message =
      let is = (s.fits place hand at).crew_is crew knows in
      let posted = posted_all items hands s place hand at (subst (λ c. HasNumbers (λ x. x) (posters_of c) hand.posters) (sym is) posters) message in
      let taken = taken_all items hands s place hand at (subst (λ c. HasNumbers (λ x. x) (takers_of c) hand.takers) (sym is) takers) message in
      let balance = s.balance message in
      omega arith

  -- the one poster has posted what the mail held at any moment
  held_by_only : (left : List M) (hand : Hand) (crew : Crew) (number : ℕ) → Moment spelling hand left
      → hand.crew ≡ Some crew → crew.posters ≡ 1 → hand.posters ≡ number ∷ [] → length left ≤ length hand.posted
  held_by_only left hand crew number moment knows one has =
      let s = moment.stands in
      let is = (s.fits moment.place hand moment.is_there).crew_is crew knows in
      let count : posters_of s.crew ≡ 1 = ap posters_of is ∙ one in
      let mine : 1 ≤ times_number number hand.posters = subst (λ ys. 1 ≤ times_number number ys) (sym has) (times_number-head number []) in
      let term = term_le (λ h. times_number number h.posters) moment.hands moment.place hand moment.is_there in
      let total = s.posters number in
      let below = times_number-range-lt number (posters_of s.crew) (omega arith) in
      let is_zero : number ≡ 0 = omega arith in
      let all : HasNumbers (λ x. x) (posters_of s.crew) hand.posters =
      λ x small. let same : number ≡ x = omega arith in subst (λ ys. Any (λ y. y ≡ x) ys) (sym has) (0, number, omega arith, refl, same) in
      let fewer = length-le-times (map spelling left) hand.posted (λ message.
      let posted = posted_all left moment.hands s moment.place hand moment.is_there all message in
      let balance = s.balance message in
      omega arith) in
      omega (arith, length-map left spelling)

  pub only_poster : (number n : ℕ) (pass : Pass M Hand) → IsPosterPass number pass → posters_of (view pass).crew ≡ 1
      → Held n (Moment spelling (view pass)) → n ≤ length (view pass).posted
  only_poster number n pass is one held =
      let known = crew_known (view pass).crew is.crew in
      let count : known.0.posters ≡ 1 = sym (ap posters_of known.1) ∙ one in
      let bound = held_by_only held.0 (view pass) known.0 number held.2 known.1 count is.posters in
      omega (arith, held.1)
