-- Each step keeps the rule of a mail.
use Rattle.std.proofs.Common.{◌≡◌, ◌≢◌, ℕ, zero, suc, ◌+◌, List, [], ◌∷◌, ◌++◌, map, set, Option, Some, None, sym, ap, ◌∙◌, refl, subst, ⊎_elim, arith}
use Rattle.std.specs.List.{sum_by, range_with_len}
use Rattle.std.proofs.lemmas.List.{map-append}
use Rattle.std.proofs.lemmas.List.Sums.{sum_by_push}
use Rattle.std.proofs.lemmas.Option.{none-some}
use Rattle.std.proofs.lemmas.Bool.{false≢true}
use mathlib.Core.Option.{some, some-injective, some-ne-none}
use lib.ListN.{get_elem?}
use Rattle.crossbeam_queue.specs.Fifo.{Pushes, Pops, Forks, Merges, Learns}
use Rattle.crossbeam_queue.proofs.Lists.{at_set, at_snoc, set_else}
use Rattle.mail_queue.specs.declared.hand.Crew.{Crew}
use Rattle.mail_queue.specs.declared.hand.Hand.{Hand}
use Rattle.mail_queue.specs.Messages.{times, times_number}
use Rattle.mail_queue.specs.Rule.{posters_of, takers_of, Fits, Stands, Moment}
use Rattle.mail_queue.specs.Hands.{first_hand, idle_hand, founding_hand, without_poster, next_poster, without_taker, next_taker, both_hands, after_post, after_take}
use Rattle.mail_queue.proofs.Sums.{sum_by-set}
use Rattle.mail_queue.proofs.Times.{times-append, times-cons, times_number-append, times_number-cut}

abbrev AllFit : Option Crew → List Hand → Type 0
AllFit crew hands = (place : ℕ) (hand : Hand) → get_elem? hands place ≡ some hand → Fits crew place hand

fits_set : (crew : Option Crew) (hands : List Hand) (place : ℕ) (next : Hand)
    → ((j : ℕ) (hand : Hand) → j ≢ place → get_elem? hands j ≡ some hand → Fits crew j hand) → Fits crew place next → AllFit crew (set hands place next)
fits_set crew hands place next others mine j hand e =
    ⊎_elim (λ here. subst (λ (at : ℕ × Hand). Fits crew at.0 at.1) (λ i. (sym here.0 i, here.1 i)) mine) (λ else. others j hand else.0 else.1) (at_set hands place j next hand e)

fits_more : (crew : Option Crew) (hands : List Hand) (last : Hand) → AllFit crew hands → ((j : ℕ) → Fits crew j last) → AllFit crew (hands ++ last ∷ [])
fits_more crew hands last fits mine j hand e =
    ⊎_elim (fits j hand) (λ is. subst (Fits crew j) is (mine j)) (at_snoc hands last hand j e)

-- a sum stays where the changed hand counts as before
same_sum : (f : Hand → ℕ) (hands : List Hand) (place : ℕ) (hand next : Hand) (n : ℕ) → get_elem? hands place ≡ some hand → f next ≡ f hand → sum_by f hands ≡ n → sum_by f (set hands place next) ≡ n
same_sum f hands place hand next n at same is = let e = sum_by-set f hands place hand next at in omega arith

-- a sum after a hand was cut in two
cut_sum : (f : Hand → ℕ) (hands : List Hand) (place : ℕ) (hand left right : Hand) → get_elem? hands place ≡ some hand
    → sum_by f (set hands place left ++ right ∷ []) + f hand ≡ sum_by f hands + f left + f right
cut_sum f hands place hand left right at =
    omega (arith, sum_by-set f hands place hand left at, sum_by_push f (set hands place left) right)

-- a sum after a hand took another in
joined_sum : (f : Hand → ℕ) (hands : List Hand) (place other : ℕ) (hand both with_it spent : Hand) → get_elem? hands place ≡ some hand
    → get_elem? (set hands place both) other ≡ some with_it
    → sum_by f (set (set hands place both) other spent) + f hand + f with_it ≡ sum_by f hands + f both + f spent
joined_sum f hands place other hand both with_it spent at at' =
    omega (arith, sum_by-set f hands place hand both at, sum_by-set f (set hands place both) other with_it spent at')

left_none : {A : Type 0} (xs ys : List A) → xs ++ ys ≡ [] → xs ≡ []
left_none [] ys none = refl
left_none (x ∷ xs) ys none = cc

right_none : {A : Type 0} (xs ys : List A) → xs ++ ys ≡ [] → ys ≡ []
right_none [] ys none = none
right_none (x ∷ xs) ys none = cc

both_none : {A : Type 0} (xs ys : List A) → xs ≡ [] → ys ≡ [] → xs ++ ys ≡ []
both_none xs ys left right = rw left right

pub has_number : (numbers : List ℕ) (number : ℕ) → numbers ≡ number ∷ [] → numbers ≢ []
has_number numbers number is none = cc

module _ {M : Type 0} (spelling : M → List ℕ) where
  pub posts : (n place : ℕ) (hand : Hand) (x : M) → hand.posters ≢ [] → Pushes (Stands spelling) n place hand x (λ next. next ≡ after_post hand (spelling x))
  posts n place hand x may items hands room s at =
      let next = after_post hand (spelling x) in
      let f = s.fits place hand at in (
        next,
        record {
          crew = s.crew;
          fits = fits_set s.crew hands place next (λ j other _. s.fits j other) record { founder = f.founder; crew_is = f.crew_is; no_poster = λ none. absurd (may none); no_taker = f.no_taker };
          posters = λ k. same_sum _ hands place hand next _ at refl (s.posters k);
          takers = λ k. same_sum _ hands place hand next _ at refl (s.takers k);
          balance = λ message.
              let posted = sum_by-set (λ h. times message h.posted) hands place hand next at in
              let taken = sum_by-set (λ h. times message h.taken) hands place hand next at in
              let before = s.balance message in
              let more = times-append message hand.posted (spelling x ∷ []) in
              let left = times-append message (map spelling items) (spelling x ∷ []) in
              rw (map-append spelling items (x ∷ [])) (omega arith);
        },
        refl,
      )

  pub takes : (place : ℕ) (hand : Hand) → hand.takers ≢ [] → Pops (Stands spelling) place hand (λ x next. next ≡ after_take hand (spelling x))
  takes place hand may x items hands s at =
      let next = after_take hand (spelling x) in
      let f = s.fits place hand at in (
        next,
        record {
          crew = s.crew;
          fits = fits_set s.crew hands place next (λ j other _. s.fits j other) record { founder = f.founder; crew_is = f.crew_is; no_poster = f.no_poster; no_taker = λ none. absurd (may none) };
          posters = λ k. same_sum _ hands place hand next _ at refl (s.posters k);
          takers = λ k. same_sum _ hands place hand next _ at refl (s.takers k);
          balance = λ message.
              let posted = sum_by-set (λ h. times message h.posted) hands place hand next at in
              let taken = sum_by-set (λ h. times message h.taken) hands place hand next at in
              let before = s.balance message in
              let more = times-append message hand.taken (spelling x ∷ []) in
              let left = times-cons message (spelling x) (map spelling items) in
              omega arith;
        },
        refl,
      )

  pub moments : (place : ℕ) (hand : Hand) → Learns (Stands spelling) place hand (Moment spelling hand)
  moments place hand items hands s at = record { hands = hands; place = place; is_there = at; stands = s }

  pub starts : Stands spelling [] (first_hand ∷ [])
  starts = record {
    crew = None;
    fits = λ place hand e. first place hand e;
    posters = λ x. refl;
    takers = λ x. refl;
    balance = λ message. refl;
  }
    where
      first : (place : ℕ) (hand : Hand) → get_elem? (first_hand ∷ []) place ≡ some hand → Fits None place hand
      first zero hand e = subst (Fits None 0) (some-injective _ _ e) record { founder = λ _. (refl, refl); crew_is = λ known is. is; no_poster = λ _. refl; no_taker = λ _. refl }
      first (suc place) hand e = absurd (some-ne-none hand (sym e))

  -- the first hand founds the mail
  pub founds : (place : ℕ) (hand : Hand) (crew : Crew) → place ≡ 0 → hand ≡ first_hand → Forks (Stands spelling) place hand (founding_hand crew) (idle_hand (Some crew))
  founds place hand crew zeroth is items hands s at =
      let left = founding_hand crew in
      let right = idle_hand (Some crew) in
      let unfounded : s.crew ≡ None = ((s.fits place hand at).founder (ap (λ h. h.founds) is)).1 in
      let others : (j : ℕ) (other : Hand) → j ≢ place → get_elem? hands j ≡ some other → Fits (Some crew) j other =
      λ j other apart is_there.
      let f = s.fits j other is_there in
      record {
        founder = λ may. absurd (apart ((f.founder may).0 ∙ sym zeroth));
        crew_is = λ known knows. absurd (none-some known (sym unfounded ∙ f.crew_is known knows));
        no_poster = f.no_poster;
        no_taker = f.no_taker;
      } in
      record {
        crew = Some crew;
        fits = fits_more (Some crew) (set hands place left) right
            (fits_set (Some crew) hands place left others record { founder = λ may. absurd (false≢true may); crew_is = λ known knows. knows; no_poster = λ _. refl; no_taker = λ _. refl })
            (λ j. record { founder = λ may. absurd (false≢true may); crew_is = λ known knows. knows; no_poster = λ _. refl; no_taker = λ _. refl });
        posters = λ x.
            let cut = cut_sum (λ h. times_number x h.posters) hands place hand left right at in
            let before = s.posters x ∙ ap (λ c. times_number x (range_with_len 0 (posters_of c))) unfounded in
            let none = ap (λ h. times_number x h.posters) is in
            omega arith;
        takers = λ x.
            let cut = cut_sum (λ h. times_number x h.takers) hands place hand left right at in
            let before = s.takers x ∙ ap (λ c. times_number x (range_with_len 0 (takers_of c))) unfounded in
            let none = ap (λ h. times_number x h.takers) is in
            omega arith;
        balance = λ message.
            let posted = cut_sum (λ h. times message h.posted) hands place hand left right at in
            let taken = cut_sum (λ h. times message h.taken) hands place hand left right at in
            let none_posted = ap (λ h. times message h.posted) is in
            let none_taken = ap (λ h. times message h.taken) is in
            let before = s.balance message in
            omega arith;
      }

  -- the keeper gives a poster's number away
  pub deals_poster : (place : ℕ) (hand : Hand) → hand.posted ≡ [] → Forks (Stands spelling) place hand (without_poster hand) (next_poster hand)
  deals_poster place hand none items hands s at =
      let left = without_poster hand in
      let right = next_poster hand in
      let f = s.fits place hand at in
      record {
        crew = s.crew;
        fits = fits_more s.crew (set hands place left) right
            (fits_set s.crew hands place left (λ j other _. s.fits j other) record { founder = f.founder; crew_is = f.crew_is; no_poster = λ _. none; no_taker = f.no_taker })
            (λ j. record { founder = λ may. absurd (false≢true may); crew_is = f.crew_is; no_poster = λ _. refl; no_taker = λ _. refl });
        posters = λ x.
            let cut = cut_sum (λ h. times_number x h.posters) hands place hand left right at in
            omega (arith, s.posters x, times_number-cut x hand.posters);
        takers = λ x.
            let cut = cut_sum (λ h. times_number x h.takers) hands place hand left right at in
            omega (arith, s.takers x);
        balance = λ message.
            let posted = cut_sum (λ h. times message h.posted) hands place hand left right at in
            let taken = cut_sum (λ h. times message h.taken) hands place hand left right at in
            let before = s.balance message in
            omega arith;
      }

  -- the keeper gives a taker's number away
  pub deals_taker : (place : ℕ) (hand : Hand) → hand.taken ≡ [] → Forks (Stands spelling) place hand (without_taker hand) (next_taker hand)
  deals_taker place hand none items hands s at =
      let left = without_taker hand in
      let right = next_taker hand in
      let f = s.fits place hand at in
      record {
        crew = s.crew;
        fits = fits_more s.crew (set hands place left) right
            (fits_set s.crew hands place left (λ j other _. s.fits j other) record { founder = f.founder; crew_is = f.crew_is; no_poster = f.no_poster; no_taker = λ _. none })
            (λ j. record { founder = λ may. absurd (false≢true may); crew_is = f.crew_is; no_poster = λ _. refl; no_taker = λ _. refl });
        posters = λ x.
            let cut = cut_sum (λ h. times_number x h.posters) hands place hand left right at in
            omega (arith, s.posters x);
        takers = λ x.
            let cut = cut_sum (λ h. times_number x h.takers) hands place hand left right at in
            omega (arith, s.takers x, times_number-cut x hand.takers);
        balance = λ message.
            let posted = cut_sum (λ h. times message h.posted) hands place hand left right at in
            let taken = cut_sum (λ h. times message h.taken) hands place hand left right at in
            let before = s.balance message in
            omega arith;
      }

  -- the keeper takes another hand in
  pub gathers : (place : ℕ) (hand : Hand) (other : ℕ) (with_it : Hand)
      → Merges (Stands spelling) place hand other with_it (both_hands hand with_it) (idle_hand None)
  gathers place hand other with_it items hands s at apart at' =
      let both = both_hands hand with_it in
      let spent = idle_hand None in
      let f = s.fits place hand at in
      let was : get_elem? hands other ≡ some with_it = sym (set_else hands place other both apart) ∙ at' in
      let w = s.fits other with_it was in
      record {
        crew = s.crew;
        fits = fits_set s.crew (set hands place both) other spent
            (λ j one _. fits_set s.crew hands place both (λ k two _. s.fits k two) record {
              founder = f.founder;
              crew_is = f.crew_is;
              no_poster = λ none. both_none _ _ (f.no_poster (left_none _ _ none)) (w.no_poster (right_none _ _ none));
              no_taker = λ none. both_none _ _ (f.no_taker (left_none _ _ none)) (w.no_taker (right_none _ _ none));
            } j one)
            record { founder = λ may. absurd (false≢true may); crew_is = λ known knows. absurd (none-some known knows); no_poster = λ _. refl; no_taker = λ _. refl };
        posters = λ x.
            let joined = joined_sum (λ h. times_number x h.posters) hands place other hand both with_it spent at at' in
            omega (arith, s.posters x, times_number-append x hand.posters with_it.posters);
        takers = λ x.
            let joined = joined_sum (λ h. times_number x h.takers) hands place other hand both with_it spent at at' in
            omega (arith, s.takers x, times_number-append x hand.takers with_it.takers);
        balance = λ message.
            let posted = joined_sum (λ h. times message h.posted) hands place other hand both with_it spent at at' in
            let taken = joined_sum (λ h. times message h.taken) hands place other hand both with_it spent at at' in
            let before = s.balance message in
            let more_posted = times-append message hand.posted with_it.posted in
            let more_taken = times-append message hand.taken with_it.taken in
            omega arith;
      }
