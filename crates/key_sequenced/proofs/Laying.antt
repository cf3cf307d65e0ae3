-- Records with_cell and rewritten at their places.
use Rattle.std.proofs.Common.{◌≡◌, ℕ, List, [], ◌∷◌, ◌++◌, map, Bool, true, false, cond, Option, Some, None, is_some, get_or, set, insert, refl, ap, sym, ◌∙◌, subst}
use Rattle.std.specs.Prelude.{slice_get}
use Rattle.std.specs.List.{prefix_len, AllByRecursion}
use Rattle.std.specs.Cmp.Lexicographic.{slice_cmp}
use Rattle.std.specs.Ordering.{is_lt, nat_cmp, ordering_reverse}
use Rattle.std.specs.declared.cmp.Ordering.{Ordering}
use Rattle.std.specs.declared.cmp.Ordering.TheVariants.{Less, Equal, Greater}
use Rattle.std.proofs.lemmas.Bool.{false≢true}
use Rattle.std.proofs.lemmas.Cmp.{nat_list_cmp_total}
use Rattle.sql_base.specs.Keys.{key_lt, key_le, key_eq}
use Rattle.sql_base.specs.declared.lock_names.TxnName.{TxnName}
use Rattle.sql_base.specs.declared.values.Value.{Value}
use Rattle.key_sequenced.specs.Cells.{AreCells, find_cell, inserted, rewritten}
use Rattle.key_sequenced.specs.Files.{is_key_of, with_cell, rewritten_at}
use Rattle.key_sequenced.specs.declared.Cell.{Cell}
use Rattle.key_sequenced.proofs.Counts.{cells-rest, none-above}
use Rattle.sql_base.proofs.Orderings.{less-is}
use Rattle.sql_base.proofs.Truths.{plus-one}

abbrev pub below : List ℕ → List Cell → ℕ
below key cells = prefix_len (λ c. key_lt c.key key) cells

turned : (a b : List ℕ) (o : Ordering) → slice_cmp nat_cmp a b ≡ o → slice_cmp nat_cmp b a ≡ ordering_reverse o
turned a b o e = nat_list_cmp_total.antisymm b a ∙ ap ordering_reverse e

pub laid-at : (cell : Cell) (cells : List Cell) → insert cells (prefix_len (λ c. key_le c.key cell.key) cells) cell ≡ with_cell cell cells
laid-at cell [] = refl
laid-at cell (c ∷ cells) = at (slice_cmp nat_cmp c.key cell.key) refl (laid-at cell cells)
  where
    at : (o : Ordering) → slice_cmp nat_cmp c.key cell.key ≡ o → insert cells (prefix_len (λ x. key_le x.key cell.key) cells) cell ≡ with_cell cell cells → insert (c ∷ cells) (prefix_len (λ x. key_le x.key cell.key) (c ∷ cells)) cell ≡ with_cell cell (c ∷ cells)
    at Less e rest = rw (e, turned c.key cell.key Less e, plus-one (prefix_len (λ x. key_le x.key cell.key) cells)) (ap (λ cs. c ∷ cs) rest)
    at Equal e rest = rw (e, turned c.key cell.key Equal e, plus-one (prefix_len (λ x. key_le x.key cell.key) cells)) (ap (λ cs. c ∷ cs) rest)
    at Greater e rest = rw (e, turned c.key cell.key Greater e) refl

-- a record is inserted into the cell of its key, or in a cell of its own
pub inserted-over : (t : TxnName) (key : List ℕ) (row : List Value) (cells : List Cell) → AreCells cells → is_some (find_cell key cells) ≡ true → rewritten_at t key (Some row) cells ≡ inserted t key row cells
inserted-over t key row [] h some = absurd (false≢true some)
inserted-over t key row (c ∷ cells) h some = at (slice_cmp nat_cmp c.key key) refl some (λ k. inserted-over t key row cells (cells-rest c cells h) k)
  where
    at : (o : Ordering) → slice_cmp nat_cmp c.key key ≡ o → is_some (find_cell key (c ∷ cells)) ≡ true → (is_some (find_cell key cells) ≡ true → rewritten_at t key (Some row) cells ≡ inserted t key row cells) → rewritten_at t key (Some row) (c ∷ cells) ≡ inserted t key row (c ∷ cells)
    at Less e some rest = rw (e, turned c.key key Less e) (ap (λ cs. c ∷ cs) (rest (sym (rw e refl) ∙ some)))
    at Equal e some rest = rw (e, turned c.key key Equal e) refl
    at Greater e some rest = absurd (false≢true (sym (ap is_some (none-above key c cells h e)) ∙ sym (rw e refl) ∙ some))

pub inserted-new : (t : TxnName) (key : List ℕ) (row : List Value) (cells : List Cell) → find_cell key cells ≡ None → with_cell (record { key = key; now = Some row; was = None; writer = Some t }) cells ≡ inserted t key row cells
inserted-new t key row [] none = refl
inserted-new t key row (c ∷ cells) none = at (slice_cmp nat_cmp c.key key) refl none (λ k. inserted-new t key row cells k)
  where
    new : Cell
    new = record { key = key; now = Some row; was = None; writer = Some t }

    at : (o : Ordering) → slice_cmp nat_cmp c.key key ≡ o → find_cell key (c ∷ cells) ≡ None → (find_cell key cells ≡ None → with_cell (record { key = key; now = Some row; was = None; writer = Some t }) cells ≡ inserted t key row cells)
        → with_cell (record { key = key; now = Some row; was = None; writer = Some t }) (c ∷ cells) ≡ inserted t key row (c ∷ cells)
    at Less e none rest = rw (turned c.key key Less e) (ap (λ cs. c ∷ cs) (rest (sym (rw e refl) ∙ none)))
    at Equal e none rest = absurd (let there : Some c ≡ None = sym (rw e refl) ∙ none in cc)
    at Greater e none rest = rw (turned c.key key Greater e) refl

pub rewritten-over : (t : TxnName) (key : List ℕ) (now : Option (List Value)) (cells : List Cell) (x : Cell) → is_key_of key (slice_get cells (below key cells)) ≡ true → x ≡ get_or cells (below key cells) x → set cells (below key cells) (rewritten t now x) ≡ rewritten_at t key now cells
rewritten-over t key now [] x h is = absurd (false≢true h)
rewritten-over t key now (c ∷ cells) x h is = at (slice_cmp nat_cmp c.key key) refl (λ k i. rewritten-over t key now cells x k i) h is
  where
    at : (o : Ordering) → slice_cmp nat_cmp c.key key ≡ o → (is_key_of key (slice_get cells (below key cells)) ≡ true → x ≡ get_or cells (below key cells) x → set cells (below key cells) (rewritten t now x) ≡ rewritten_at t key now cells)
        → is_key_of key (slice_get (c ∷ cells) (below key (c ∷ cells))) ≡ true → x ≡ get_or (c ∷ cells) (below key (c ∷ cells)) x → set (c ∷ cells) (below key (c ∷ cells)) (rewritten t now x) ≡ rewritten_at t key now (c ∷ cells)
    at Less e rest = rw (e, plus-one (below key cells)) (λ k i. ap (λ cs. c ∷ cs) (rest k i))
    at Equal e rest = rw (e, e) (λ k i. ap (λ y. rewritten t now y ∷ cells) i)
    at Greater e rest = rw (e, e) (λ k i. absurd (false≢true k))

-- a key that no cell has rewrites none
unfound : (t : TxnName) (key : List ℕ) (now : Option (List Value)) (cells : List Cell) → find_cell key cells ≡ None → rewritten_at t key now cells ≡ cells
unfound t key now [] h = refl
unfound t key now (c ∷ cells) h = at (key_eq c.key key) h (λ k. unfound t key now cells k)
  where
    at : (b : Bool) → cond b (Some c) (find_cell key cells) ≡ None → (find_cell key cells ≡ None → rewritten_at t key now cells ≡ cells) → cond b (rewritten t now c ∷ cells) (c ∷ rewritten_at t key now cells) ≡ c ∷ cells
    at true h rest = absurd (cc)
    at false h rest = ap (λ cs. c ∷ cs) (rest h)

pub rewritten-none : (t : TxnName) (key : List ℕ) (now : Option (List Value)) (cells : List Cell) → find_cell key cells ≡ None → cells ≡ rewritten_at t key now cells
rewritten-none t key now cells h = sym (unfound t key now cells h)

-- the same at a place that was found
pub rewrite-over : (t : TxnName) (key : List ℕ) (now : Option (List Value)) (cells : List Cell) (i : ℕ) (x y : Cell) → i ≡ below key cells → is_key_of key (slice_get cells i) ≡ true → x ≡ get_or cells i x → y ≡ rewritten t now x → set cells i y ≡ rewritten_at t key now cells
rewrite-over t key now cells i x y e k is w =
    ap (set cells i) w ∙ subst (λ n. is_key_of key (slice_get cells n) ≡ true → x ≡ get_or cells n x → set cells n (rewritten t now x) ≡ rewritten_at t key now cells) (sym e) (rewritten-over t key now cells x) k is

-- a cell above all others is with_cell at the end
pub laid-last : (cell : Cell) (cells : List Cell) → AllByRecursion (λ c. key_lt c.key cell.key ≡ true) cells → with_cell cell cells ≡ cells ++ cell ∷ []
laid-last cell [] h = refl
laid-last cell (c ∷ cells) h = at (slice_cmp nat_cmp c.key cell.key) refl h.0 (laid-last cell cells h.1)
  where
    at : (o : Ordering) → slice_cmp nat_cmp c.key cell.key ≡ o → key_lt c.key cell.key ≡ true → with_cell cell cells ≡ cells ++ cell ∷ [] → with_cell cell (c ∷ cells) ≡ c ∷ cells ++ cell ∷ []
    at Less e below rest = rw (turned c.key cell.key Less e) (ap (λ cs. c ∷ cs) rest)
    at Equal e below rest = absurd (false≢true (sym (ap is_lt e) ∙ below))
    at Greater e below rest = absurd (false≢true (sym (ap is_lt e) ∙ below))

abbrev change_of : TxnName → List ℕ → Option (List Value) → Cell → Cell
change_of t key now c = cond (key_eq c.key key) (rewritten t now c) c

none-mapped : (t : TxnName) (key : List ℕ) (now : Option (List Value)) (cells : List Cell) → find_cell key cells ≡ None → map (change_of t key now) cells ≡ cells
none-mapped t key now [] h = refl
none-mapped t key now (c ∷ cells) h = at (key_eq c.key key) h (λ k. none-mapped t key now cells k)
  where
    at : (b : Bool) → cond b (Some c) (find_cell key cells) ≡ None → (find_cell key cells ≡ None → map (change_of t key now) cells ≡ cells) → cond b (rewritten t now c) c ∷ map (change_of t key now) cells ≡ c ∷ cells
    at true h rest = absurd (cc)
    at false h rest = ap (λ cs. c ∷ cs) (rest h)

none-behind : (key : List ℕ) (c : Cell) (cells : List Cell) → AreCells (c ∷ cells) → slice_cmp nat_cmp c.key key ≡ Equal → find_cell key cells ≡ None
none-behind key c [] h e = refl
none-behind key c (x ∷ cells) h e =
    let above : slice_cmp nat_cmp x.key key ≡ Greater = turned key x.key Less (sym (nat_list_cmp_total.congr c.key key x.key e) ∙ less-is (slice_cmp nat_cmp c.key x.key) h.0) in
    rw above (none-above key x cells h.1 above)

pub rewritten-by_key : (t : TxnName) (key : List ℕ) (now : Option (List Value)) (cells : List Cell) → AreCells cells → rewritten_at t key now cells ≡ map (λ c. cond (key_eq c.key key) (rewritten t now c) c) cells
rewritten-by_key t key now [] h = refl
rewritten-by_key t key now (c ∷ cells) h = at (slice_cmp nat_cmp c.key key) refl (rewritten-by_key t key now cells (cells-rest c cells h))
  where
    at : (o : Ordering) → slice_cmp nat_cmp c.key key ≡ o → rewritten_at t key now cells ≡ map (change_of t key now) cells → rewritten_at t key now (c ∷ cells) ≡ map (change_of t key now) (c ∷ cells)
    at Less e rest = rw e (ap (λ cs. c ∷ cs) rest)
    at Equal e rest = rw e (ap (λ cs. rewritten t now c ∷ cs) (sym (none-mapped t key now cells (none-behind key c cells h e))))
    at Greater e rest = rw e (ap (λ cs. c ∷ cs) rest)
