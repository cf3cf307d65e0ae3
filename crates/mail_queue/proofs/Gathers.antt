-- What a pass that has taken the tokens in knows.
use Rattle.std.proofs.Common.{◌≡◌, ◌≢◌, ℕ, ◌<◌, List, [], ◌∷◌, ◌++◌, map, length, Option, Some, None, sym, ap, ◌∙◌, refl, subst, arith}
use Rattle.std.specs.Prelude.{IsSome}
use Rattle.std.proofs.lemmas.List.{append-nil, append_assoc, length-map, get_or-map}
use Rattle.crossbeam_queue.specs.Fifo.{Learns, Held}
use Rattle.crossbeam_queue.specs.Passes.{Pass, view}
use Rattle.mail_queue.specs.declared.hand.Crew.{Crew}
use Rattle.mail_queue.specs.declared.hand.Hand.{Hand}
use Rattle.mail_queue.specs.Messages.{times, HasNumbers, Balances}
use Rattle.mail_queue.specs.Rule.{posters_of, takers_of, Stands}
use Rattle.mail_queue.specs.Hands.{idle_hand, both_hands}
use Rattle.mail_queue.specs.Tokens.{MailId, PosterToken, TakerToken, crew_of, poster_hand, taker_hand}
use Rattle.mail_queue.specs.Gathering.{IsComplete, posted_by, taken_by}
use Rattle.mail_queue.specs.Insides.{HasAllNumbers, with_posters, with_takers}
use Rattle.mail_queue.specs.Insides.{mail_of, IsPosterPass, IsTakerPass}
use Rattle.mail_queue.proofs.Times.{times-append}
use Rattle.mail_queue.proofs.Whole.{settles}

whole_crew : (crew : Option Crew) → IsSome crew → crew ≡ Some (record { posters = posters_of crew; takers = takers_of crew })
whole_crew (Some crew) known = refl
whole_crew None known = cc

module _ {M : Type 0} where
  -- a token's pass knows what contracts see of the token
  pub poster_knows : (number : ℕ) (pass : Pass M Hand) → IsPosterPass number pass → view pass ≡ poster_hand (record { mail = mail_of pass; number = number; posted = (view pass).posted })
  poster_knows number pass is = λ i. record {
    founds = is.founds i;
    crew = whole_crew (view pass).crew is.crew i;
    posters = is.posters i;
    takers = is.takers i;
    posted = (view pass).posted;
    taken = is.taken i;
  }

  pub taker_knows : (number : ℕ) (pass : Pass M Hand) → IsTakerPass number pass → view pass ≡ taker_hand (record { mail = mail_of pass; number = number; taken = (view pass).taken })
  taker_knows number pass is = λ i. record {
    founds = is.founds i;
    crew = whole_crew (view pass).crew is.crew i;
    posters = is.posters i;
    takers = is.takers i;
    posted = is.posted i;
    taken = (view pass).taken;
  }

-- to take one token in, and then the others, is to take them all in
pub with_posters-cons : (hand : Hand) (token : PosterToken) (rest : List PosterToken) → with_posters (both_hands hand (poster_hand token)) rest ≡ with_posters hand (token ∷ rest)
with_posters-cons hand token rest = λ i. record {
  founds = hand.founds;
  crew = hand.crew;
  posters = append_assoc hand.posters (token.number ∷ []) (map (λ poster. poster.number) rest) i;
  takers = append-nil hand.takers i;
  posted = append_assoc hand.posted token.posted (posted_by rest) i;
  taken = append-nil hand.taken i;
}

pub with_takers-cons : (hand : Hand) (token : TakerToken) (rest : List TakerToken) → with_takers (both_hands hand (taker_hand token)) rest ≡ with_takers hand (token ∷ rest)
with_takers-cons hand token rest = λ i. record {
  founds = hand.founds;
  crew = hand.crew;
  posters = append-nil hand.posters i;
  takers = append_assoc hand.takers (token.number ∷ []) (map (λ taker. taker.number) rest) i;
  posted = append-nil hand.posted i;
  taken = append_assoc hand.taken token.taken (taken_by rest) i;
}

-- the tokens' numbers are those that the tokens have
has_numbers : {T : Type 0} (number_of : T → ℕ) (n : ℕ) (tokens : List T) → HasNumbers number_of n tokens → HasNumbers (λ x. x) n (map number_of tokens)
has_numbers number_of n tokens all x below =
    let found = all x below in
    let number = number_of found.1 in
    (found.0, number, rw (length-map tokens number_of) found.2, get_or-map number_of tokens found.0 found.1 number found.2 ∙ ap number_of found.3, found.4)

-- the hand that has taken every token in has every number
pub gathers_all : (mail : MailId) (posters : List PosterToken) (takers : List TakerToken) → IsComplete mail posters takers → 0 < mail.takers → HasAllNumbers (with_takers (with_posters (idle_hand (Some (crew_of mail))) posters) takers)
gathers_all mail posters takers all some_taker = record {
  crew = crew_of mail;
  knows = refl;
  all_posters = has_numbers (λ poster. poster.number) mail.posters posters all.all_posters;
  all_takers = has_numbers (λ taker. taker.number) mail.takers takers all.all_takers;
  some_taker = some_taker;
}

-- a hand with every number may take
pub may_take : (hand : Hand) → HasAllNumbers hand → hand.takers ≢ []
may_take hand all none = let zeroth = all.all_takers 0 all.some_taker in absurd (omega (arith, zeroth.2, ap length none))

module _ {M : Type 0} (spelling : M → List ℕ) where
  -- a hand with every number knows what is left, also after it took more
  pub settles_after : (place : ℕ) (hand next : Hand) → HasAllNumbers hand → next.crew ≡ hand.crew → next.posters ≡ hand.posters → next.takers ≡ hand.takers
      → Learns (Stands spelling) place next (λ left. Balances next.posted next.taken (map spelling left))
  settles_after place hand next all crew posters takers =
      settles spelling place next all.crew (crew ∙ all.knows) (subst (HasNumbers (λ x. x) all.crew.posters) (sym posters) all.all_posters) (subst (HasNumbers (λ x. x) all.crew.takers) (sym takers) all.all_takers)

  -- at an empty mail, what was taken last was left before
  pub emptied : (hand next : Hand) (left : List M) → next ≡ record hand { taken = hand.taken ++ map spelling left } → Held 0 (λ (items : List M). Balances next.posted next.taken (map spelling items))
      → Balances hand.posted hand.taken (map spelling left)
  emptied hand next left is held message =
      let balance = held.2 message in
      let nothing = no_items held.0 held.1 message in
      let posted = ap (λ h. times message h.posted) is in
      let taken = ap (λ h. times message h.taken) is in
      let parts = times-append message hand.taken (map spelling left) in
      omega arith
    where
      no_items : (items : List M) → length items ≡ 0 → (message : List ℕ) → times message (map spelling items) ≡ 0
      no_items [] none message = refl
      no_items (x ∷ xs) none message = absurd (omega arith)
