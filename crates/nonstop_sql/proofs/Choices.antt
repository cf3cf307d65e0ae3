-- What `parse` gives is the number of a word of digits.
use Rattle.std.specs.Prelude.{codes, count_by, filter, not, String, string_bytes}
use Rattle.std.specs.declared.alloc.Global.{Global}
use Rattle.sql_base.proofs.ListFacts.{zip_length, zip-push}
use Rattle.std.proofs.Common.{◌≡◌, ◌≢◌, ◌<◌, ◌≤◌, ◌^◌, ◌+◌, ◌-◌, ℕ, Bool, drop, cond, zero, suc, List, [], ◌∷◌, ◌++◌, length, map, take, arith, get_or, append-nil, ap, ◌∙◌, refl, nat_eq, Ok, Err, Result, true, false, rules, subst, sym}
use Rattle.std.specs.List.{AllZip}
use Rattle.std.specs.Result.{OkIff}
use Rattle.std.specs.Str.{all_ascii_digits}
use Rattle.std.specs.Str.Parse.{ParsesUnsigned, digits_value}
use Rattle.std.proofs.lemmas.List.{map-append, take_all, take_more}
use Rattle.std.proofs.lemmas.List.Elements.{filter-append}
use Rattle.std.proofs.lemmas.Str.Parse.{IsNumeralModel, numerals_by_value, parse_plain}
use Rattle.std.proofs.lemmas.Result.{OkIff-at_ok}
use Rattle.nonstop_sql.specs.Commands.{AsksFor, AreChoices, AsksSteps, IsChoice, IsLine, IsNumeral, IsOneNumber, is_trace, other_words}
use Rattle.nonstop_sql.specs.declared.commands.Command.{Command}
use Rattle.nonstop_sql.specs.declared.commands.Command.TheVariants.{Check, Oracle, Steps, Make, Trial}

abbrev AreDigits : List ℕ → Type 0
AreDigits word = all_ascii_digits word ≡ true

own : IsNumeralModel AreDigits (digits_value 10)
own = numerals_by_value AreDigits (search rules)

no_sign : (byte : ℕ) → nat_eq byte 43 ≡ false → byte ≢ 43
no_sign byte differs same = cc

module _ {E : Type 0} (bits : ℕ) (word : List ℕ) (r : Result ℕ E) (parses : ParsesUnsigned bits 10 word r) (unsigned : nat_eq (get_or word 0 0) 43 ≡ false) where
  told : OkIff r (AreDigits word × (0 < length word) × (digits_value 10 word < 2 ^ bits)) (digits_value 10 word)
  told = parse_plain own bits word r parses (no_sign (get_or word 0 0) unsigned)

  pub is_numeral : (number : ℕ) → r ≡ Ok number → IsNumeral bits word number
  is_numeral number found =
      let h = OkIff-at_ok r _ _ number told found in
      record { digits = h.0.0; some = h.0.1; spelled = h.1; within = subst (λ n. n < 2 ^ bits) (sym h.1) h.0.2 }

  pub is_none : (error : E) → r ≡ Err error → (number : ℕ) → IsNumeral bits word number → ⊥
  is_none error failed number is =
      let refuses = subst (λ x. OkIff x (AreDigits word × (0 < length word) × (digits_value 10 word < 2 ^ bits)) (digits_value 10 word)) failed told in
      refuses (is.digits, is.some, subst (λ n. n < 2 ^ bits) is.spelled is.within)

map_more : {A B : Type 0} (f : A → B) (ws : List A) (i : ℕ) (w : A) → i < length ws → map f (take (i + 1) ws) ≡ map f (take i ws) ++ f (get_or ws i w) ∷ []
map_more f ws i w within = ap (map f) (take_more ws i w within) ∙ map-append f (take i ws) (get_or ws i w ∷ [])

-- lists that go together go on together
module _ {A B C : Type 0} (R : B → C → Type 0) (f : A → B) where
  -- of the words that pass a test, one more is left out
  pub passed_more : (p : B → Bool) (ws : List A) (xs : List C) (i : ℕ) (w : A) → i < length ws → get_or ws i w ≡ w → p (f w) ≡ false → AllZip R (filter p (map f (take i ws))) xs
      → AllZip R (filter p (map f (take (i + 1) ws))) xs
  passed_more p ws xs i w within at fails each =
      let front : filter p (map f (take (i + 1) ws)) ≡ filter p (map f (take i ws)) ++ filter p (f (get_or ws i w) ∷ []) = ap (filter p) (map_more f ws i w within) ∙ filter-append p (map f (take i ws)) (f (get_or ws i w) ∷ []) in
      let none : filter p (f (get_or ws i w) ∷ []) ≡ [] = ap (λ a. filter p (f a ∷ [])) at ∙ ap (λ b. cond b (f w ∷ []) []) fails in
      subst (λ bs. AllZip R bs xs) (sym (front ∙ ap (λ bs. filter p (map f (take i ws)) ++ bs) none ∙ append-nil (filter p (map f (take i ws))))) each

  -- or has its own
  pub taken_more : (p : B → Bool) (ws : List A) (xs : List C) (i : ℕ) (w : A) (x : C) → i < length ws → get_or ws i w ≡ w → p (f w) ≡ true → AllZip R (filter p (map f (take i ws))) xs → R (f w) x
      → AllZip R (filter p (map f (take (i + 1) ws))) (xs ++ x ∷ [])
  taken_more p ws xs i w x within at passes each r =
      let front : filter p (map f (take (i + 1) ws)) ≡ filter p (map f (take i ws)) ++ filter p (f (get_or ws i w) ∷ []) = ap (filter p) (map_more f ws i w within) ∙ filter-append p (map f (take i ws)) (f (get_or ws i w) ∷ []) in
      let one : filter p (f (get_or ws i w) ∷ []) ≡ f w ∷ [] = ap (λ a. filter p (f a ∷ [])) at ∙ ap (λ b. cond b (f w ∷ []) []) passes in
      subst (λ bs. AllZip R bs (xs ++ x ∷ [])) (sym (front ∙ ap (λ bs. filter p (map f (take i ws)) ++ bs) one)) (zip-push R (filter p (map f (take i ws))) xs (f w) x each r)

  -- each word that passes goes with one of the second
  pub passing_at : (p : B → Bool) (ws : List A) (xs : List C) (i : ℕ) (w : A) → i < length ws → get_or ws i w ≡ w → p (f w) ≡ true → AllZip R (filter p (map f ws)) xs → (x : C) × R (f w) x
  passing_at p [] xs i w within at passes each = absurd (omega (arith, within))
  passing_at p (v ∷ ws) xs i w within at passes each = by_passing (p (f v)) refl xs i within at each (λ ys j less is rest. passing_at p ws ys j w less is passes rest)
    where
      by_passing : (b : Bool) → p (f v) ≡ b → (xs : List C) (i : ℕ) → i < length (v ∷ ws) → get_or (v ∷ ws) i w ≡ w → AllZip R (cond b (f v ∷ filter p (map f ws)) (filter p (map f ws))) xs
          → ((ys : List C) (j : ℕ) → j < length ws → get_or ws j w ≡ w → AllZip R (filter p (map f ws)) ys → (x : C) × R (f w) x) → (x : C) × R (f w) x
      by_passing true e [] i within at each rest = absurd each
      by_passing true e (x ∷ xs) zero within at each rest = (x, subst (λ a. R (f a) x) at each.0)
      by_passing true e (x ∷ xs) (suc i) within at each rest = rest xs i (omega (arith, within)) at each.1
      by_passing false e xs zero within at each rest = let both : true ≡ false = sym passes ∙ ap (λ a. p (f a)) (sym at) ∙ e in absurd (cc)
      by_passing false e xs (suc i) within at each rest = rest xs i (omega (arith, within)) at each

-- words ask for one command at most
same_choices : (words : List (List ℕ)) (xs ys : List ℕ) → AllZip IsChoice words xs → AllZip IsChoice words ys → xs ≡ ys
same_choices [] [] [] a b = refl
same_choices [] (x ∷ xs) ys a b = absurd a
same_choices [] [] (y ∷ ys) a b = absurd b
same_choices (w ∷ words) [] ys a b = absurd a
same_choices (w ∷ words) (x ∷ xs) [] a b = absurd b
same_choices (w ∷ words) (x ∷ xs) (y ∷ ys) a b =
    let first : x ≡ y = a.0.spelled ∙ sym b.0.spelled in
    ap (λ z. z ∷ xs) first ∙ ap (λ zs. y ∷ zs) (same_choices words xs ys a.1 b.1)

same_trace : (n : ℕ) (a b : Bool) → n ≡ cond a 1 0 → n ≡ cond b 1 0 → a ≡ b
same_trace n true true h k = refl
same_trace n false false h k = refl
same_trace n true false h k = absurd (omega (arith, h, k))
same_trace n false true h k = absurd (omega (arith, h, k))

same_steps : (words : List (List ℕ)) (xs ys : List ℕ) (a b : Bool) → AsksSteps words xs a → AsksSteps words ys b → Steps xs a ≡ Steps ys b
same_steps words xs ys a b h k =
    let choices : xs ≡ ys = same_choices (other_words words) xs ys h.choices_are.each k.choices_are.each in
    let trace : a ≡ b = same_trace (count_by is_trace words) a b h.traced k.traced in
    λ i. Steps (choices i) (trace i)

one_number : (words : List (List ℕ)) (m n : ℕ) → IsOneNumber words m → IsOneNumber words n → m ≡ n
one_number [] m n a b = absurd a
one_number (word ∷ []) m n a b = a.spelled ∙ sym b.spelled
one_number (word ∷ other ∷ words) m n a b = absurd a

abbrev first_letter : List ℕ → ℕ
first_letter word = get_or word 0 0

module _ (name : List ℕ) (words : List (List ℕ)) where
  not_both : {n m : List ℕ} → first_letter n ≢ first_letter m → name ≡ n → name ≡ m → ⊥
  not_both differ a b = differ (ap first_letter (sym a ∙ b))

  pub one_asked : (a b : Command) → AsksFor name words a → AsksFor name words b → a ≡ b
  one_asked Check Check h k = refl
  one_asked Oracle Oracle h k = refl
  one_asked (Steps xs a) (Steps ys b) h k = same_steps words xs ys a b h.1 k.1
  one_asked (Make m) (Make n) h k = ap Make (one_number words m n h.1 k.1)
  one_asked (Trial m) (Trial n) h k = ap Trial (one_number words m n h.1 k.1)
  one_asked Check Oracle h k = absurd (not_both (λ e. omega (arith, e)) h.0 k.0)
  one_asked Check (Steps y b) h k = absurd (not_both (λ e. omega (arith, e)) h.0 k.0)
  one_asked Check (Make y) h k = absurd (not_both (λ e. omega (arith, e)) h.0 k.0)
  one_asked Check (Trial y) h k = absurd (not_both (λ e. omega (arith, e)) h.0 k.0)
  one_asked Oracle Check h k = absurd (not_both (λ e. omega (arith, e)) h.0 k.0)
  one_asked Oracle (Steps y b) h k = absurd (not_both (λ e. omega (arith, e)) h.0 k.0)
  one_asked Oracle (Make y) h k = absurd (not_both (λ e. omega (arith, e)) h.0 k.0)
  one_asked Oracle (Trial y) h k = absurd (not_both (λ e. omega (arith, e)) h.0 k.0)
  one_asked (Steps x a) Check h k = absurd (not_both (λ e. omega (arith, e)) h.0 k.0)
  one_asked (Steps x a) Oracle h k = absurd (not_both (λ e. omega (arith, e)) h.0 k.0)
  one_asked (Steps x a) (Make y) h k = absurd (not_both (λ e. omega (arith, e)) h.0 k.0)
  one_asked (Steps x a) (Trial y) h k = absurd (not_both (λ e. omega (arith, e)) h.0 k.0)
  one_asked (Make x) Check h k = absurd (not_both (λ e. omega (arith, e)) h.0 k.0)
  one_asked (Make x) Oracle h k = absurd (not_both (λ e. omega (arith, e)) h.0 k.0)
  one_asked (Make x) (Steps y b) h k = absurd (not_both (λ e. omega (arith, e)) h.0 k.0)
  one_asked (Make x) (Trial y) h k = absurd (not_both (λ e. omega (arith, e)) h.0 k.0)
  one_asked (Trial x) Check h k = absurd (not_both (λ e. omega (arith, e)) h.0 k.0)
  one_asked (Trial x) Oracle h k = absurd (not_both (λ e. omega (arith, e)) h.0 k.0)
  one_asked (Trial x) (Steps y b) h k = absurd (not_both (λ e. omega (arith, e)) h.0 k.0)
  one_asked (Trial x) (Make y) h k = absurd (not_both (λ e. omega (arith, e)) h.0 k.0)

pub one_line : (words : List (List ℕ)) (a b : Command) → IsLine words a → IsLine words b → a ≡ b
one_line [] a b h k = absurd h
one_line (program ∷ []) a b h k = absurd h
one_line (program ∷ name ∷ words) a b h k = one_asked name words a b h k

-- words that `steps` refuses are no line
pub refused_steps : (ws : List (String Global)) (name : String Global) (command : Command) → 2 ≤ length ws → name ≡ get_or ws 1 name → string_bytes name ≡ codes "steps"
    → ((choices : List ℕ) (trace : Bool) → AsksSteps (map string_bytes (take (length ws - 2) (drop 2 ws))) choices trace → ⊥) → IsLine (map string_bytes ws) command → ⊥
refused_steps [] name command many is steps refused line = absurd line
refused_steps (program ∷ []) name command many is steps refused line = absurd line
refused_steps (program ∷ word ∷ ws) name command many is steps refused line = refused_asks command line
  where
    named : string_bytes word ≡ codes "steps"
    named = ap string_bytes (sym is) ∙ steps

    differs : (other : List ℕ) → first_letter (codes "steps") ≢ first_letter other → string_bytes word ≡ other → ⊥
    differs other apart same = apart (ap first_letter (sym named ∙ same))

    refused_asks : (command : Command) → AsksFor (string_bytes word) (map string_bytes ws) command → ⊥
    refused_asks Check h = differs (codes "check") (λ e. omega (arith, e)) h.0
    refused_asks Oracle h = differs (codes "oracle") (λ e. omega (arith, e)) h.0
    refused_asks (Steps choices trace) h =
        let rest : take (length (program ∷ word ∷ ws) - 2) ws ≡ ws = take_all (length (program ∷ word ∷ ws) - 2) ws (omega arith) in
        refused choices trace (subst (λ l. AsksSteps (map string_bytes l) choices trace) (sym rest) h.1)
    refused_asks (Make number) h = differs (codes "make") (λ e. omega (arith, e)) h.0
    refused_asks (Trial number) h = differs (codes "trial") (λ e. omega (arith, e)) h.0

-- the choices of all words, once the last one was read
module _ (ws : List (String Global)) (i : ℕ) (xs : List ℕ) (all : length ws ≤ i) (each : AllZip IsChoice (other_words (map string_bytes (take i ws))) xs) where
  of_all : AllZip IsChoice (other_words (map string_bytes ws)) xs
  of_all = subst (λ l. AllZip IsChoice (other_words (map string_bytes l)) xs) (take_all i ws all) each

  pub are_choices : length xs ≤ 10000 → AreChoices (other_words (map string_bytes ws)) xs
  are_choices few = record { few = omega (arith, few, zip_length IsChoice (other_words (map string_bytes ws)) xs of_all); each = of_all }

  pub too_many : 10000 < length xs → (ys : List ℕ) → AreChoices (other_words (map string_bytes ws)) ys → ⊥
  too_many many ys are = let few = are.few in omega (arith, many, few, zip_length IsChoice (other_words (map string_bytes ws)) xs of_all)
