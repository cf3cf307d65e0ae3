-- The cells from a start on.
use Rattle.std.proofs.Common.{◌≡◌, ℕ, ◌+◌, List, [], ◌∷◌, ◌++◌, drop, filter, not, Bool, true, false, cond, Option, Some, None, refl, ap, sym, ◌∙◌}
use Rattle.std.specs.Prelude.{find, option_map, MatchOption}
use Rattle.std.specs.List.{prefix_len, AllByRecursion}
use Rattle.std.proofs.lemmas.List.Elements.{filter-append}
use Rattle.sql_base.specs.Keys.{is_from, key_le, key_lt}
use Rattle.sql_base.specs.declared.key_ranges.Start.{Start}
use Rattle.sql_base.specs.declared.key_ranges.Start.TheVariants.{At, After}
use Rattle.sql_base.proofs.KeyOrders.{key_le-not_lt, key_le-trans, le_from_lt, lt-trans, not_le_from_lt}
use Rattle.sql_base.proofs.ListFacts.{all-weaker, filter-none}
use Rattle.sql_base.proofs.Orderings.{key_lt-back}
use Rattle.sql_base.proofs.Truths.{plus-one}
use Rattle.key_sequenced.specs.Blocks.{start_key}
use Rattle.key_sequenced.specs.Cells.{AreCells}
use Rattle.key_sequenced.specs.declared.Cell.{Cell}
use Rattle.key_sequenced.proofs.Belonging.{above-first, AreAbove, AreBelow}
use Rattle.key_sequenced.proofs.Counts.{cells-rest}

-- the cells from a start on: none before the block of its key, and all behind it
not_from : (start : Start) (c : Cell) → key_lt c.key (start_key start) ≡ true → is_from start c.key ≡ false
not_from (At low) c h = not_le_from_lt low c.key h
not_from (After last) c h = key_lt-back c.key last h

yes_from : (start : Start) (c : Cell) → key_lt (start_key start) c.key ≡ true → is_from start c.key ≡ true
yes_from (At low) c h = le_from_lt low c.key h
yes_from (After last) c h = h

filter-all : (p : Cell → Bool) (cells : List Cell) → AllByRecursion (λ c. p c ≡ true) cells → filter p cells ≡ cells
filter-all p [] h = refl
filter-all p (c ∷ cells) h = rw h.0 (ap (λ cs. c ∷ cs) (filter-all p cells h.1))

pub from-home : (start : Start) (front block behind : List Cell) → AreBelow (start_key start) front → AreAbove (start_key start) behind → filter (λ c. is_from start c.key) (front ++ (block ++ behind)) ≡ filter (λ c. is_from start c.key) block ++ behind
from-home start front block behind below above =
    let p : Cell → Bool = λ c. is_from start c.key in
    let first : filter p front ≡ [] = filter-none p front (all-weaker (λ (c : Cell). key_lt c.key (start_key start) ≡ true) (λ c. p c ≡ false) (not_from start) front below) in
    let last : filter p behind ≡ behind = filter-all p behind (all-weaker (λ (c : Cell). key_lt (start_key start) c.key ≡ true) (λ c. p c ≡ true) (yes_from start) behind above) in
    filter-append p front (block ++ behind) ∙ ap (λ x. x ++ filter p (block ++ behind)) first ∙ filter-append p block behind ∙ ap (λ x. filter p block ++ x) last

-- within one block they are those behind the cells before the start
from_later : (start : Start) (c : Cell) → is_from start c.key ≡ true → (x : Cell) → key_lt c.key x.key ≡ true → is_from start x.key ≡ true
from_later (At low) c h x lt = key_le-trans low c.key x.key h (le_from_lt c.key x.key lt)
from_later (After last) c h x lt = lt-trans last c.key x.key h lt

rest-filtered : (start : Start) (cells : List Cell) → AreCells cells → drop (prefix_len (λ c. not (is_from start c.key)) cells) cells ≡ filter (λ c. is_from start c.key) cells
rest-filtered start [] h = refl
rest-filtered start (c ∷ cells) h = at (is_from start c.key) refl (rest-filtered start cells (cells-rest c cells h))
  where
    at : (b : Bool) → is_from start c.key ≡ b → drop (prefix_len (λ x. not (is_from start x.key)) cells) cells ≡ filter (λ x. is_from start x.key) cells
        → drop (prefix_len (λ x. not (is_from start x.key)) (c ∷ cells)) (c ∷ cells) ≡ filter (λ x. is_from start x.key) (c ∷ cells)
    at true e rest =
        let later = all-weaker (λ (x : Cell). key_lt c.key x.key ≡ true) (λ x. is_from start x.key ≡ true) (from_later start c e) cells (above-first c cells h) in
        rw e (ap (λ cs. c ∷ cs) (sym (filter-all (λ x. is_from start x.key) cells later)))
    at false e rest = rw (e, plus-one (prefix_len (λ x. not (is_from start x.key)) cells)) rest

not-twice : (b : Bool) → not (not b) ≡ b
not-twice true = refl
not-twice false = refl

prefix-same : (p q : Cell → Bool) → ((c : Cell) → p c ≡ q c) → (cells : List Cell) → prefix_len p cells ≡ prefix_len q cells
prefix-same p q same [] = refl
prefix-same p q same (c ∷ cells) = ap (λ b. cond b (1 + prefix_len p cells) 0) (same c) ∙ ap (λ n. cond (q c) (1 + n) 0) (prefix-same p q same cells)

pub from-low : (low : List ℕ) (cells : List Cell) → AreCells cells → drop (prefix_len (λ c. key_lt c.key low) cells) cells ≡ filter (λ c. key_le low c.key) cells
from-low low cells h =
    ap (λ n. drop n cells) (sym (prefix-same (λ c. not (key_le low c.key)) (λ c. key_lt c.key low) (λ c. ap not (key_le-not_lt low c.key) ∙ not-twice (key_lt c.key low)) cells))
    ∙ rest-filtered (At low) cells h

pub from-last : (last : List ℕ) (cells : List Cell) → AreCells cells → drop (prefix_len (λ c. key_le c.key last) cells) cells ≡ filter (λ c. key_lt last c.key) cells
from-last last cells h =
    ap (λ n. drop n cells) (sym (prefix-same (λ c. not (key_lt last c.key)) (λ c. key_le c.key last) (λ c. sym (key_le-not_lt c.key last)) cells))
    ∙ rest-filtered (After last) cells h

-- the first of those that pass is the first found
front-is : {B : Type 0} (view : B → Cell) (r : Option B) (left rest : List Cell) (c : Cell) (others : List Cell) → left ≡ c ∷ others → MatchOption r ((left ≡ []) × (rest ≡ [])) (λ x. left ≡ view x ∷ rest) → option_map view r ≡ Some c
front-is view None left rest c others e h = absurd (let nothing : c ∷ others ≡ [] = sym e ∙ h.0 in cc)
front-is view (Some x) left rest c others e h =
    let same : view x ∷ rest ≡ c ∷ others = sym h ∙ e in
    let one : view x ≡ c = cc in ap (λ y. Some y) one

pub first-passing : (p : Cell → Bool) (cells : List Cell) {B : Type 0} (view : B → Cell) (r : Option B) (left rest : List Cell) → left ≡ filter p cells → MatchOption r ((left ≡ []) × (rest ≡ [])) (λ x. left ≡ view x ∷ rest) → option_map view r ≡ find p cells
first-passing p [] view None left rest e h = refl
first-passing p [] view (Some x) left rest e h = absurd (let nothing : view x ∷ rest ≡ [] = sym h ∙ e in cc)
first-passing p (c ∷ cells) view r left rest e h = at (p c) e (λ k. first-passing p cells view r left rest k h)
  where
    at : (b : Bool) → left ≡ cond b (c ∷ filter p cells) (filter p cells) → (left ≡ filter p cells → option_map view r ≡ find p cells) → option_map view r ≡ cond b (Some c) (find p cells)
    at true e rest_is = front-is view r left rest c (filter p cells) e h
    at false e rest_is = rest_is e
