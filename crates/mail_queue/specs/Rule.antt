-- The rule that ties the hands of a mail's tokens to what lies in the mail.
use Rattle.std.specs.Prelude.{◌≡◌, ℕ, ◌+◌, List, [], map, sum_by, Option, Some, None, true}
use Rattle.std.specs.List.{range_with_len}
use mathlib.Core.Option.{some}
use lib.ListN.{get_elem?}
use Rattle.mail_queue.specs.declared.hand.Crew.{Crew}
use Rattle.mail_queue.specs.declared.hand.Hand.{Hand}
use Rattle.mail_queue.specs.Messages.{times, times_number}

-- how many posters and takers the mail is founded for
abbrev pub posters_of : Option Crew → ℕ
posters_of (Some crew) = crew.posters
posters_of None = 0

abbrev pub takers_of : Option Crew → ℕ
takers_of (Some crew) = crew.takers
takers_of None = 0

-- the first hand alone founds the mail, once; a hand knows the crew or nothing of it; and it posts and takes only where it has a number for that
pub record Fits (crew : Option Crew) (place : ℕ) (hand : Hand) : Type 0 where
  pub founder : hand.founds ≡ true → (place ≡ 0) × (crew ≡ None)
  pub crew_is : (known : Crew) → hand.crew ≡ Some known → crew ≡ Some known
  pub no_poster : hand.posters ≡ [] → hand.posted ≡ []
  pub no_taker : hand.takers ≡ [] → hand.taken ≡ []

-- the rule: each number that the mail was made with is in one hand, and each message stands among those posted as often as among those taken and those left
pub record Stands {M : Type 0} (spelling : M → List ℕ) (left : List M) (hands : List Hand) : Type 0 where
  pub crew : Option Crew
  pub fits : (place : ℕ) (hand : Hand) → get_elem? hands place ≡ some hand → Fits crew place hand
  pub posters : (x : ℕ) → sum_by (λ hand. times_number x hand.posters) hands ≡ times_number x (range_with_len 0 (posters_of crew))
  pub takers : (x : ℕ) → sum_by (λ hand. times_number x hand.takers) hands ≡ times_number x (range_with_len 0 (takers_of crew))
  pub balance : (message : List ℕ) → sum_by (λ hand. times message hand.posted) hands ≡ sum_by (λ hand. times message hand.taken) hands + times message (map spelling left)

-- a moment, as far as the token with this hand can tell, at which the mail held these messages
pub record Moment {M : Type 0} (spelling : M → List ℕ) (hand : Hand) (left : List M) : Type 0 where
  pub hands : List Hand
  pub place : ℕ
  pub is_there : get_elem? hands place ≡ some hand
  pub stands : Stands spelling left hands
