-- How the passes of a mail and of its tokens give what contracts see of them.
use Rattle.std.specs.Prelude.{◌≡◌, ◌<◌, ℕ, List, [], ◌∷◌, ◌++◌, map, Some, IsSome, false}
use Rattle.crossbeam_queue.specs.Passes.{Pass, view}
use Rattle.mail_queue.specs.declared.hand.Crew.{Crew}
use Rattle.mail_queue.specs.declared.hand.Hand.{Hand}
use Rattle.mail_queue.specs.Messages.{HasNumbers}
use Rattle.mail_queue.specs.Rule.{posters_of, takers_of}
use Rattle.mail_queue.specs.Tokens.{MailId, PosterToken, TakerToken}
use Rattle.mail_queue.specs.Gathering.{posted_by, taken_by}

module _ {M : Type 0} where
  -- what the pass knows
  abbrev pub hand_of : Pass M Hand → Hand
  hand_of pass = view pass

  -- the mail that the pass is of
  abbrev pub mail_of : Pass M Hand → MailId
  mail_of pass = record { place = pass.table_id; posters = posters_of (view pass).crew; takers = takers_of (view pass).crew }

  -- the pass is of this mail, and no slot is out with it
  abbrev pub IsIdlePassOf : MailId → Pass M Hand → Type 0
  IsIdlePassOf mail pass = (pass.table_id ≡ mail.place) × (pass.me.1 ≡ [])

  -- the pass may post under this number, and do nothing else
  pub record IsPosterPass (number : ℕ) (pass : Pass M Hand) : Type 0 where
    pub no_slot : pass.me.1 ≡ []
    pub founds : (view pass).founds ≡ false
    pub crew : IsSome (view pass).crew
    pub posters : (view pass).posters ≡ number ∷ []
    pub takers : (view pass).takers ≡ []
    pub taken : (view pass).taken ≡ []

  -- the pass may take under this number, and do nothing else
  pub record IsTakerPass (number : ℕ) (pass : Pass M Hand) : Type 0 where
    pub no_slot : pass.me.1 ≡ []
    pub founds : (view pass).founds ≡ false
    pub crew : IsSome (view pass).crew
    pub posters : (view pass).posters ≡ []
    pub takers : (view pass).takers ≡ number ∷ []
    pub posted : (view pass).posted ≡ []

-- a hand that knows the crew, and has posted and taken nothing
pub record CanDeal (hand : Hand) : Type 0 where
  pub crew : IsSome hand.crew
  pub posted : hand.posted ≡ []
  pub taken : hand.taken ≡ []

-- the hand after it took these posters in, or these takers
abbrev pub with_posters : Hand → List PosterToken → Hand
with_posters hand posters = record hand { posters = hand.posters ++ map (λ poster. poster.number) posters; posted = hand.posted ++ posted_by posters }

abbrev pub with_takers : Hand → List TakerToken → Hand
with_takers hand takers = record hand { takers = hand.takers ++ map (λ taker. taker.number) takers; taken = hand.taken ++ taken_by takers }

-- the hand has every number of its mail
pub record HasAllNumbers (hand : Hand) : Type 0 where
  pub crew : Crew
  pub knows : hand.crew ≡ Some crew
  pub all_posters : HasNumbers (λ x. x) crew.posters hand.posters
  pub all_takers : HasNumbers (λ x. x) crew.takers hand.takers
  pub some_taker : 0 < crew.takers
