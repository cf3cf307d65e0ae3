-- The passes that a keeper deals out.
use Rattle.std.proofs.Common.{◌≡◌, ℕ, suc, ◌+◌, ◌-◌, ◌<◌, List, [], ◌∷◌, take, ap, ◌∙◌, arith}
use Rattle.std.specs.Prelude.{IsSome, is_some}
use Rattle.std.specs.List.{range_with_len}
use Rattle.crossbeam_queue.specs.Passes.{Pass, view}
use Rattle.mail_queue.specs.declared.hand.Hand.{Hand}
use Rattle.mail_queue.specs.Hands.{next_poster, next_taker}
use Rattle.mail_queue.specs.Rule.{posters_of, takers_of}
use Rattle.mail_queue.specs.Insides.{mail_of, IsPosterPass, IsTakerPass}

-- the numbers from k up to count, cut after the first
pub range_with_len-next : (k count : ℕ) → k < count → range_with_len k (count - k) ≡ k ∷ range_with_len (k + 1) (count - (k + 1))
range_with_len-next k count below = let e : count - k ≡ suc (count - (k + 1)) = omega arith in ap (range_with_len k) e

module _ {M : Type 0} where
  pub dealt_poster : (number : ℕ) (rest : List ℕ) (pass : Pass M Hand) (hand : Hand) → view pass ≡ next_poster hand → pass.me.1 ≡ [] → IsSome hand.crew → hand.posters ≡ number ∷ rest → IsPosterPass number pass
  dealt_poster number rest pass hand is no_slot crew has = record {
    no_slot = no_slot;
    founds = ap (λ h. h.founds) is;
    crew = ap (λ h. is_some h.crew) is ∙ crew;
    posters = ap (λ h. h.posters) is ∙ ap (take 1) has;
    takers = ap (λ h. h.takers) is;
    taken = ap (λ h. h.taken) is;
  }

  pub dealt_taker : (number : ℕ) (rest : List ℕ) (pass : Pass M Hand) (hand : Hand) → view pass ≡ next_taker hand → pass.me.1 ≡ [] → IsSome hand.crew → hand.takers ≡ number ∷ rest → IsTakerPass number pass
  dealt_taker number rest pass hand is no_slot crew has = record {
    no_slot = no_slot;
    founds = ap (λ h. h.founds) is;
    crew = ap (λ h. is_some h.crew) is ∙ crew;
    posters = ap (λ h. h.posters) is;
    takers = ap (λ h. h.takers) is ∙ ap (take 1) has;
    posted = ap (λ h. h.posted) is;
  }

  pub same_mail : (pass other : Pass M Hand) → pass.table_id ≡ other.table_id → (view pass).crew ≡ (view other).crew → mail_of pass ≡ mail_of other
  same_mail pass other place crew = λ i. record { place = place i; posters = posters_of (crew i); takers = takers_of (crew i) }
