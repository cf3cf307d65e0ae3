-- Each step keeps the rule, and tells what it says.
use Rattle.std.proofs.Common.{◌≡◌, ◌≢◌, ℕ, zero, suc, ◌+◌, ◌^◌, ◌<◌, ◌≤◌, eqb, List, [], ◌∷◌, ◌++◌, length, get_or, set, Option, Some, None, true, false, refl, sym, ap, ◌∙◌, subst, ⊎_elim, arith, length-append}
use Rattle.std.specs.List.{AllByRecursion, flat_map, range_with_len, enumerate_from}
use Rattle.std.specs.List.Sorted.{IsPermutation}
use Rattle.std.proofs.lemmas.List.{same_from_push}
use Rattle.std.proofs.lemmas.List.Sorted.{IsPermutation-trans}
use mathlib.Core.Logic.{dite}
use mathlib.Core.List.{IsPrefix}
use mathlib.Core.Option.{some, none, some-ne-none, some-injective}
use native.Mathlib.Decide.{ℕ_discrete}
use lib.ListN.{get_elem?}
use lib.Seq.{set-get_or}
use prog.Atomic.{either}
use Rattle.atomic_table.specs.Table.{Me, step, Act, keeps, takes, gives, Valid, carried_after, stepped, opening, Allows, Splits, Joins}
use Rattle.atomic_table.proofs.Lists.{at_snoc, set_here, set_else, set_again, at_longer, exchanged}
use Rattle.turn_lock.specs.declared.view.Start.{Start}
use Rattle.turn_lock.specs.declared.view.View.{View}
use Rattle.turn_lock.specs.View.{own, fresh, first_view, holding, lost_to, entered, given, drawn_as, rejoined}
use Rattle.turn_lock.specs.Rule.{Fits, took, counted, added, gave, drew}
use Rattle.turn_lock.proofs.Counts.{times}
use Rattle.turn_lock.proofs.Shares.{range_with_len-snoc, enumerate_from-snoc, flat_map-set_same, flat_map-set_more, flat_map-set_moved, flat_map-snoc_none}
use Rattle.turn_lock.proofs.Seats.{off, no_cons, in_range, both_none, times-own, IsPrefix-refl, IsPrefix-nil, IsPrefix-append, IsPrefix-longer, AllByRecursion-append, AllByRecursion-weaker, Table, Rule, word0, word1, word2, apart, is_drawn, holder_has, alone, fits_set, not_holder, still_taken, still}

module _ {V E R : Type 0} (history : V → List E) (root_of : V → R) (start : Start R) where
  abbrev S : Type 0
  S = Table history root_of start

  abbrev K : S → Type 0
  K = Rule history root_of start

  abbrev Sat : Type 0
  Sat = Me (Option V) (View E R)

  abbrev Goes : S → ℕ → ℕ → Sat → (ℕ → Sat → Type 0) → ℕ → Type 0
  Goes s i id m tells n = (w : View E R) × (a : Act (Option V)) × Valid s.homes m.1 a × K (stepped s i n id m.1 w a) × tells (get_or s.words i 0) (w, carried_after m.1 a)

  same_numbers : (s : S) (k : K s) (id : ℕ) (v w : View E R) → get_elem? s.views id ≡ some v → w.numbers ≡ v.numbers → IsPermutation (flat_map (λ (u : View E R). u.numbers) (set s.views id w)) (range_with_len 0 k.drawn)
  same_numbers s k id v w at e = subst (λ l. IsPermutation l (range_with_len 0 k.drawn)) (sym (flat_map-set_same (λ (u : View E R). u.numbers) s.views id v w at e)) k.numbers

  same_entries : (s : S) (k : K s) (id : ℕ) (v w : View E R) → get_elem? s.views id ≡ some v → w.mine ≡ v.mine → IsPermutation (flat_map (λ (u : View E R). u.mine) (set s.views id w)) (enumerate_from 0 k.log)
  same_entries s k id v w at e = subst (λ l. IsPermutation l (enumerate_from 0 k.log)) (sym (flat_map-set_same (λ (u : View E R). u.mine) s.views id v w at e)) k.entries

  begin_more : (log more : List E) (xs : List (List E)) → AllByRecursion (λ x. IsPrefix x log) xs → AllByRecursion (λ x. IsPrefix x (log ++ more)) xs
  begin_more log more xs = AllByRecursion-weaker (λ x. IsPrefix x log) (λ x. IsPrefix x (log ++ more)) (λ x. IsPrefix-append x log more) xs

  began_so : (began : Start R) (xs : List (Start R)) → xs ≡ began ∷ [] → AllByRecursion (λ x. x ≡ start) xs → began ≡ start
  began_so began xs is all = (subst (AllByRecursion (λ x. x ≡ start)) is all).0

  pub starts : (v : V) → history v ≡ [] → root_of v ≡ start.root → 1 ≤ start.passes → start.passes < 2 ^ 32 → K (opening (0 ∷ 0 ∷ 1 ∷ []) (Some v ∷ []) (first_view start))
  starts v empty is some-passes few = record {
    log = [];
    turn = 0;
    drawn = 1;
    words = refl;
    few = (some-passes, few);
    free = λ _. record { value = v; at_home = refl; history_is = empty; root_is = is };
    taken = λ n. absurd (n refl);
    fits = λ j u e. one j u e;
    numbers = Rattle.std.proofs.lemmas.List.Sorted.IsPermutation-refl (0 ∷ []);
    entries = Rattle.std.proofs.lemmas.List.Sorted.IsPermutation-refl [];
  }
    where
      one : (j : ℕ) (u : View E R) → get_elem? (first_view start ∷ []) j ≡ some u → Fits start [] 0 u
      one zero u e = subst (Fits start [] 0) (some-injective _ _ e) record {
        seen = IsPrefix-nil [];
        merged = tt;
        starts = (refl, tt);
        turn_is = λ h. absurd (off h);
        seen_all = λ h. absurd (off h);
        no_number = λ h. absurd (no_cons 0 [] h);
      }
      one (suc j) u e = absurd (some-ne-none u (sym e))

  -- a take that was lost, to the pass of this number
  loses : (s : S) (k : K s) (id : ℕ) (v : View E R) (holder : ℕ) → get_elem? s.views id ≡ some v → K (stepped s 0 (get_or s.words 0 0) id [] (lost_to v holder) keeps)
  loses s k id v holder at =
      let f = k.fits id v at in
      let w = lost_to v holder in
      record {
        log = k.log;
        turn = k.turn;
        drawn = k.drawn;
        words = set-get_or s.words 0 0 ∙ k.words;
        few = k.few;
        free = k.free;
        taken = λ busy. let t = k.taken busy in dite (ℕ_discrete t.0 id)
            (λ e. (id, w, set_here s.views id w (in_range s.views id v at), ap (λ (u : View E R). u.holds) (some-injective v t.1 (sym at ∙ ap (get_elem? s.views) (sym e) ∙ t.2)) ∙ t.3))
            (λ ne. (t.0, t.1, set_else s.views id t.0 w ne ∙ t.2, t.3));
        fits = fits_set history root_of start s.views id w k.log k.turn (λ j u _ e. k.fits j u e)
            record { seen = f.seen; merged = f.merged; starts = f.starts; turn_is = f.turn_is; seen_all = f.seen_all; no_number = f.no_number };
        numbers = same_numbers s k id v w at refl;
        entries = same_entries s k id v w at refl;
      }

  -- the turn was free, and a seat that does not hold takes it
  wins : (s : S) (k : K s) (id number : ℕ) (v : View E R) (value : V) (state : R) → get_elem? s.views id ≡ some v → v.numbers ≡ number ∷ [] → k.turn ≡ 0 → history value ≡ k.log
      → K (stepped s 0 (number + 1) id [] (holding v (history value) state) (takes 0 (Some value)))
  wins s k id number v value state at is free log_is =
      let f = k.fits id v at in
      let w = holding v (history value) state in
      let nobody : (j : ℕ) (u : View E R) → get_elem? s.views j ≡ some u → u.holds ≡ true → ⊥ = λ j u e h. omega (arith, (k.fits j u e).turn_is h) in
      record {
        log = k.log;
        turn = number + 1;
        drawn = k.drawn;
        words = ap (λ ws. set ws 0 (number + 1)) k.words;
        few = k.few;
        free = λ e. absurd (omega arith);
        taken = λ _. (id, w, set_here s.views id w (in_range s.views id v at), refl);
        fits = fits_set history root_of start s.views id w k.log (number + 1)
            (λ j u _ e. let g = k.fits j u e in record { seen = g.seen; merged = g.merged; starts = g.starts; turn_is = λ h. absurd (nobody j u e h); seen_all = g.seen_all; no_number = g.no_number })
            record {
              seen = subst (λ l. IsPrefix l k.log) (sym log_is) (IsPrefix-refl k.log);
              merged = f.merged;
              starts = f.starts;
              turn_is = λ _. ap (λ xs. own xs + 1) (sym is);
              seen_all = λ _. log_is;
              no_number = λ none-yet. absurd (no_cons number [] (sym is ∙ none-yet));
            };
        numbers = same_numbers s k id v w at refl;
        entries = same_entries s k id v w at refl;
      }

  takes_alone : (state_of : V → R) (slots id number : ℕ) (v : View E R) → v.holds ≡ false → v.numbers ≡ number ∷ []
      → Allows K slots id (v, []) 0 (λ n. either (eqb n 0) (number + 1) n) (took history root_of state_of (step slots 0 0 (number + 1) none) (v, []))
  takes_alone state_of slots id number v idle is s k size at _ =
      exchanged (get_or s.words 0 0) 0 (number + 1) (Goes s 0 id (v, []) (took history root_of state_of (step slots 0 0 (number + 1) none) (v, [])))
      (λ zero_found.
      let free : k.turn ≡ 0 = sym (word0 history root_of start s k) ∙ zero_found in
      let home = k.free free in
      let f = k.fits id v at in (
        holding v (history home.value) (state_of home.value),
        takes 0 (Some home.value),
        home.at_home,
        wins s k id number v home.value (state_of home.value) at is free home.history_is,
        ((λ _. (home.value, refl, subst (IsPrefix v.seen) (sym home.history_is) f.seen, AllByRecursion-weaker (λ x. x ≡ start) (λ x. root_of home.value ≡ x.root) (λ x e. home.root_is ∙ ap (λ (y : Start R). y.root) (sym e)) v.starts f.starts)), λ ne. absurd (ne zero_found)),
      ))
      (λ other.
      let busy : k.turn ≢ 0 = λ e. other (word0 history root_of start s k ∙ e) in
      let t = k.taken busy in
      let holder = own t.1.numbers in
      let found : get_or s.words 0 0 ≡ holder + 1 = word0 history root_of start s k ∙ (k.fits t.0 t.1 t.2).turn_is t.3 in
      let has = holder_has history root_of start s k t.0 t.1 t.2 t.3 in
      let low : holder < k.drawn = is_drawn history root_of start s k t.0 t.1 holder t.2 has in (
        lost_to v holder,
        keeps,
        tt,
        loses s k id v holder at,
        (
          (λ e. absurd (other e)),
          λ _. (
            holder,
            found,
            refl,
            (λ same. not_holder history root_of start s id t.0 v t.1 at t.2 idle t.3
                (apart history root_of start s k t.0 id t.1 v holder t.2 at has (subst (λ (x : ℕ). 1 ≤ times x v.numbers) (sym same) (times-own v.numbers (λ e. no_cons number [] (sym is ∙ e)))))),
            omega (arith, k.few.0, k.few.1),
            AllByRecursion-weaker (λ x. x ≡ start) (λ x. holder < x.passes) (λ x e. omega (arith, ap (λ (y : Start R). y.passes) e, k.few.0)) v.starts (k.fits id v at).starts,
          ),
        ),
      ))

  pub takes_turn : (state_of : V → R) (slots id number : ℕ) (m : Sat) → m.0.holds ≡ false → m.0.numbers ≡ number ∷ [] → m.1 ≡ []
      → Allows K slots id m 0 (λ n. either (eqb n 0) (number + 1) n) (took history root_of state_of (step slots 0 0 (number + 1) none) m)
  takes_turn state_of slots id number m idle is empty =
      subst (λ (c : List (ℕ × Option V)). Allows K slots id (m.0, c) 0 (λ n. either (eqb n 0) (number + 1) n) (took history root_of state_of (step slots 0 0 (number + 1) none) (m.0, c))) (sym empty) (takes_alone state_of slots id number m.0 idle is)

  pub counts : (slots id : ℕ) (m : Sat) → m.0.holds ≡ true → Allows K slots id m 1 (λ n. n) (counted history root_of (step slots 1 0 0 none) m)
  counts slots id m holds s k size at _ = (m.0, keeps, tt, still history root_of start s k 1 id m.0 m.1 at, (refl, word1 history root_of start s k ∙ ap length (sym ((k.fits id m.0 at).seen_all holds))))

  -- the holder adds an entry behind the history
  grows : (s : S) (k : K s) (id : ℕ) (v : View E R) (c : List (ℕ × Option V)) (e : E) → get_elem? s.views id ≡ some v → v.holds ≡ true
      → K (stepped s 1 (length v.seen + 1) id c (entered v e) keeps)
  grows s k id v c e at holds =
      let f = k.fits id v at in
      let all : v.seen ++ e ∷ [] ≡ k.log ++ e ∷ [] = ap (λ l. l ++ e ∷ []) (f.seen_all holds) in
      let w = entered v e in
      let longer_by : length v.seen + 1 ≡ length (k.log ++ e ∷ []) = omega (arith, ap length (f.seen_all holds), length-append k.log (e ∷ [])) in
      record {
        log = k.log ++ e ∷ [];
        turn = k.turn;
        drawn = k.drawn;
        words = ap (λ ws. set ws 1 (length v.seen + 1)) k.words ∙ ap (λ (y : ℕ). k.turn ∷ y ∷ k.drawn ∷ []) longer_by;
        few = k.few;
        free = λ z. absurd (omega (arith, f.turn_is holds));
        taken = λ _. (id, w, set_here s.views id w (in_range s.views id v at), holds);
        fits = fits_set history root_of start s.views id w (k.log ++ e ∷ []) k.turn
            (λ j u elsewhere there. let g = k.fits j u there in record {
              seen = IsPrefix-append u.seen k.log (e ∷ []) g.seen;
              merged = begin_more k.log (e ∷ []) u.merged g.merged;
              starts = g.starts;
              turn_is = g.turn_is;
              seen_all = λ h. absurd (elsewhere (alone history root_of start s k j id u v there at h holds));
              no_number = g.no_number;
            })
            record {
              seen = subst (λ l. IsPrefix l (k.log ++ e ∷ [])) (sym all) (IsPrefix-refl (k.log ++ e ∷ []));
              merged = begin_more k.log (e ∷ []) v.merged f.merged;
              starts = f.starts;
              turn_is = f.turn_is;
              seen_all = λ _. all;
              no_number = λ z. absurd (off (sym ((f.no_number z).1) ∙ holds));
            };
        numbers = same_numbers s k id v w at refl;
        entries = subst (IsPermutation _) (ap (λ l. enumerate_from 0 k.log ++ (length l, e) ∷ []) (f.seen_all holds) ∙ sym (enumerate_from-snoc 0 k.log e ∙ ap (λ (n : ℕ). enumerate_from 0 k.log ++ (n, e) ∷ []) (let z : 0 + length k.log ≡ length k.log = omega arith in z)))
            (IsPermutation-trans _ _ _
            (flat_map-set_more (λ (u : View E R). u.mine) s.views id v w ((length v.seen, e) ∷ []) at refl)
            (Rattle.std.proofs.lemmas.List.Sorted.IsPermutation-append_left ((length v.seen, e) ∷ []) _ _ k.entries));
      }

  adds_here : (slots id n : ℕ) (v : View E R) (x : V) (e : E) → v.holds ≡ true → history x ≡ v.seen ++ e ∷ [] → n ≡ length (history x)
      → Allows K slots id (v, (0, Some x) ∷ []) 1 (λ _. n) (λ _. added history root_of (step slots 1 n 0 none) (v, (0, Some x) ∷ []) n)
  adds_here slots id n v x e holds more long s k size at _ =
      let long' : length v.seen + 1 ≡ n = omega (arith, ap length more, length-append v.seen (e ∷ [])) in (
        entered v e,
        keeps,
        tt,
        subst (λ (y : ℕ). K (stepped s 1 y id ((0, Some x) ∷ []) (entered v e) keeps)) long' (grows s k id v ((0, Some x) ∷ []) e at holds),
        (λ x' e' has' more'.
            let same : x ≡ x' = one_value x x' has' in
            let last : e ≡ e' = (same_from_push v.seen v.seen e e' (sym more ∙ ap history same ∙ more')).1 in
            ap (λ (y : E). (entered v y, (0, Some x) ∷ [])) last),
      )
    where
      one_value : (x x' : V) → ◌≡◌ {A = List (ℕ × Option V)} ((0, Some x) ∷ []) ((0, Some x') ∷ []) → x ≡ x'
      one_value x x' a = let q : Some x ≡ Some x' = ap (λ (l : List (ℕ × Option V)). (get_or l 0 (0, None)).1) a in cc

  -- the seat with the value x in the slot that it has out
  pub adds : (slots id n : ℕ) (m : Sat) (v : View E R) (x : V) (e : E) → m ≡ (v, (0, Some x) ∷ []) → v.holds ≡ true → history x ≡ v.seen ++ e ∷ [] → n ≡ length (history x)
      → Allows K slots id m 1 (λ _. n) (λ _. added history root_of (step slots 1 n 0 none) m n)
  adds slots id n m v x e is holds more long = subst (λ (y : Sat). Allows K slots id y 1 (λ _. n) (λ _. added history root_of (step slots 1 n 0 none) y n)) (sym is) (adds_here slots id n v x e holds more long)

  -- the holder gives the turn back, with the value in the slot
  frees : (s : S) (k : K s) (id : ℕ) (v : View E R) (x : V) → get_elem? s.views id ≡ some v → length s.homes ≡ 1 → v.holds ≡ true → history x ≡ v.seen → root_of x ≡ start.root
      → K (stepped s 0 0 id ((0, Some x) ∷ []) (given v) gives)
  frees s k id v x at size holds same root_is =
      let f = k.fits id v at in
      record {
        log = k.log;
        turn = 0;
        drawn = k.drawn;
        words = ap (λ ws. set ws 0 0) k.words;
        few = k.few;
        free = λ _. record { value = x; at_home = set_here s.homes 0 (some (Some x)) (omega arith); history_is = same ∙ f.seen_all holds; root_is = root_is };
        taken = λ n. absurd (n refl);
        fits = fits_set history root_of start s.views id (given v) k.log 0
            (λ j u elsewhere there. let g = k.fits j u there in record {
              seen = g.seen;
              merged = g.merged;
              starts = g.starts;
              turn_is = λ h. absurd (elsewhere (alone history root_of start s k j id u v there at h holds));
              seen_all = g.seen_all;
              no_number = g.no_number;
            })
            record {
              seen = f.seen;
              merged = f.merged;
              starts = f.starts;
              turn_is = λ h. absurd (off h);
              seen_all = λ h. absurd (off h);
              no_number = λ z. ((f.no_number z).0, refl);
            };
        numbers = same_numbers s k id v (given v) at refl;
        entries = same_entries s k id v (given v) at refl;
      }

  gives_here : (id : ℕ) (v : View E R) (x : V) (began : Start R) → v.holds ≡ true → history x ≡ v.seen → v.starts ≡ began ∷ [] → root_of x ≡ began.root
      → Allows K 1 id (v, (0, Some x) ∷ []) 0 (λ _. 0) (λ _. gave history root_of (step 1 0 0 0 none) (v, (0, Some x) ∷ []) 0)
  gives_here id v x began holds same start_is root_is s k size at _ =
      (given v, gives, tt, frees s k id v x at size holds same (root_is ∙ ap (λ (y : Start R). y.root) (began_so began v.starts start_is (k.fits id v at).starts)), refl)

  pub gives_back : (slots id : ℕ) (m : Sat) (v : View E R) (x : V) (began : Start R) → slots ≡ 1 → m ≡ (v, (0, Some x) ∷ []) → v.holds ≡ true → history x ≡ v.seen → v.starts ≡ began ∷ [] → root_of x ≡ began.root
      → Allows K slots id m 0 (λ _. 0) (λ _. gave history root_of (step slots 0 0 0 none) m 0)
  gives_back slots id m v x began one is holds same start_is root_is =
      subst (λ (n : ℕ). Allows K n id m 0 (λ _. 0) (λ _. gave history root_of (step n 0 0 0 none) m 0)) (sym one)
      (subst (λ (y : Sat). Allows K 1 id y 0 (λ _. 0) (λ _. gave history root_of (step 1 0 0 0 none) y 0)) (sym is) (gives_here id v x began holds same start_is root_is))

  pub splits : (id : ℕ) (v : View E R) → Splits K id v v (fresh v.starts)
  splits id v s k at =
      let f = k.fits id v at in
      let same : set s.views id v ≡ s.views = set_again s.views id v at in
      let w = fresh v.starts in
      subst (λ vs. K record { words = s.words; homes = s.homes; views = vs ++ w ∷ [] }) (sym same) record {
        log = k.log;
        turn = k.turn;
        drawn = k.drawn;
        words = k.words;
        few = k.few;
        free = k.free;
        taken = λ busy. let t = k.taken busy in (t.0, t.1, at_longer s.views (w ∷ []) t.0 t.1 t.2, t.3);
        fits = λ j u there. ⊎_elim (λ e. k.fits j u e) (λ e. subst (Fits start k.log k.turn) e record {
          seen = IsPrefix-nil k.log;
          merged = tt;
          starts = f.starts;
          turn_is = λ h. absurd (off h);
          seen_all = λ h. absurd (off h);
          no_number = λ _. (refl, refl);
        }) (at_snoc s.views w u j there);
        numbers = subst (λ l. IsPermutation l (range_with_len 0 k.drawn)) (sym (flat_map-snoc_none (λ (u : View E R). u.numbers) s.views w refl)) k.numbers;
        entries = subst (λ l. IsPermutation l (enumerate_from 0 k.log)) (sym (flat_map-snoc_none (λ (u : View E R). u.mine) s.views w refl)) k.entries;
      }

  -- a seat without a number draws the next one
  numbers_one : (s : S) (k : K s) (id : ℕ) (v : View E R) (c : List (ℕ × Option V)) → get_elem? s.views id ≡ some v → v.holds ≡ false → v.numbers ≡ [] → k.drawn < start.passes
      → K (stepped s 2 (k.drawn + 1) id c (drawn_as v k.drawn) keeps)
  numbers_one s k id v c at idle none-yet below =
      let f = k.fits id v at in
      let w = drawn_as v k.drawn in
      record {
        log = k.log;
        turn = k.turn;
        drawn = k.drawn + 1;
        words = ap (λ ws. set ws 2 (k.drawn + 1)) k.words;
        few = (omega arith, k.few.1);
        free = k.free;
        taken = still_taken history root_of start s k id v w at idle;
        fits = fits_set history root_of start s.views id w k.log k.turn (λ j u _ there. k.fits j u there)
            record { seen = f.seen; merged = f.merged; starts = f.starts; turn_is = λ h. absurd (off (sym idle ∙ h)); seen_all = λ h. absurd (off (sym idle ∙ h)); no_number = λ z. absurd (no_cons k.drawn [] z) };
        numbers = subst (IsPermutation _) (sym (range_with_len-snoc 0 k.drawn ∙ ap (λ (n : ℕ). range_with_len 0 k.drawn ++ n ∷ []) (let z : 0 + k.drawn ≡ k.drawn = omega arith in z)))
            (IsPermutation-trans _ _ _
            (flat_map-set_more (λ (u : View E R). u.numbers) s.views id v w (k.drawn ∷ []) at (ap (λ l. l ++ k.drawn ∷ []) (sym none-yet)))
            (Rattle.std.proofs.lemmas.List.Sorted.IsPermutation-append_left (k.drawn ∷ []) _ _ k.numbers));
        entries = same_entries s k id v w at refl;
      }

  draws_here : (slots id n : ℕ) (began : Start R) → n < began.passes
      → Allows K slots id (fresh (began ∷ []), []) 2 (λ y. either (eqb y n) (n + 1) y) (drew history root_of (step slots 2 n (n + 1) none) (fresh (began ∷ []), []))
  draws_here slots id n began below s k size at _ =
      let v : View E R = fresh (began ∷ []) in
      exchanged (get_or s.words 2 0) n (n + 1) (Goes s 2 id (v, []) (drew history root_of (step slots 2 n (n + 1) none) (v, [])))
      (λ hit.
      let found : k.drawn ≡ n = sym (word2 history root_of start s k) ∙ hit in
      let low : k.drawn < start.passes = omega (arith, ap (λ (y : Start R). y.passes) ((k.fits id v at).starts.0)) in
      (drawn_as v n, keeps, tt, subst (λ (y : ℕ). K (stepped s 2 (y + 1) id [] (drawn_as v y) keeps)) found (numbers_one s k id v [] at refl refl low), ((λ _. refl), λ ne. absurd (ne hit))))
      (λ miss. (v, keeps, tt, still history root_of start s k 2 id v [] at, ((λ e. absurd (miss e)), λ _. refl)))

  pub draws : (slots id n : ℕ) (m : Sat) (began : Start R) → m ≡ (fresh (began ∷ []), []) → n < began.passes
      → Allows K slots id m 2 (λ y. either (eqb y n) (n + 1) y) (drew history root_of (step slots 2 n (n + 1) none) m)
  draws slots id n m began is low = subst (λ (y : Sat). Allows K slots id y 2 (λ y'. either (eqb y' n) (n + 1) y') (drew history root_of (step slots 2 n (n + 1) none) y)) (sym is) (draws_here slots id n began low)

  pub rejoins : (id : ℕ) (v : View E R) (other : ℕ) (w : View E R) → v.holds ≡ false → w.holds ≡ false → Joins K id v other w (rejoined v w) (fresh [])
  rejoins id v other w idle idle' s k at elsewhere there =
      let b = rejoined v w in
      let at' : get_elem? s.views other ≡ some w = sym (set_else s.views id other b elsewhere) ∙ there in
      let f = k.fits id v at in
      let f' = k.fits other w at' in
      record {
        log = k.log;
        turn = k.turn;
        drawn = k.drawn;
        words = k.words;
        few = k.few;
        free = k.free;
        taken = λ busy.
            let t = k.taken busy in (
              t.0,
              t.1,
              set_else (set s.views id b) other t.0 (fresh []) (not_holder history root_of start s other t.0 w t.1 at' t.2 idle' t.3)
                  ∙ set_else s.views id t.0 b (not_holder history root_of start s id t.0 v t.1 at t.2 idle t.3) ∙ t.2,
              t.3,
            );
        fits = fits_set history root_of start (set s.views id b) other (fresh []) k.log k.turn
            (λ j u _ e. fits_set history root_of start s.views id b k.log k.turn (λ i x _ e'. k.fits i x e')
            record {
              seen = IsPrefix-longer k.log v.seen w.seen f.seen f'.seen;
              merged = AllByRecursion-append (λ x. IsPrefix x k.log) (v.merged ++ w.merged) (v.seen ∷ w.seen ∷ []) (AllByRecursion-append (λ x. IsPrefix x k.log) v.merged w.merged f.merged f'.merged) (f.seen, (f'.seen, tt));
              starts = AllByRecursion-append (λ x. x ≡ start) v.starts w.starts f.starts f'.starts;
              turn_is = λ h. absurd (off (sym idle ∙ h));
              seen_all = λ h. absurd (off (sym idle ∙ h));
              no_number = λ z. let none-here = both_none v.numbers w.numbers z in (ap (λ l. l ++ w.mine) (f.no_number none-here.0).0 ∙ (f'.no_number none-here.1).0, idle);
            } j u e)
            record {
              seen = IsPrefix-nil k.log;
              merged = tt;
              starts = tt;
              turn_is = λ h. absurd (off h);
              seen_all = λ h. absurd (off h);
              no_number = λ _. (refl, refl);
            };
        numbers = IsPermutation-trans _ _ _ (flat_map-set_moved (λ (u : View E R). u.numbers) s.views id other v w b (fresh []) at elsewhere at' refl refl) k.numbers;
        entries = IsPermutation-trans _ _ _ (flat_map-set_moved (λ (u : View E R). u.mine) s.views id other v w b (fresh []) at elsewhere at' refl refl) k.entries;
      }
