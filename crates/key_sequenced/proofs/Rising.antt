-- The keys rise after each change.
use Rattle.std.proofs.Common.{◌≡◌, ℕ, List, [], ◌∷◌, Bool, true, false, cond, Option, Some, None, map, refl, ap, sym, ◌∙◌, subst}
use Rattle.std.specs.Prelude.{filter, filter_map}
use Rattle.std.specs.List.{cons_option}
use Rattle.std.specs.Cmp.Lexicographic.{slice_cmp}
use Rattle.std.specs.Ordering.{is_eq, nat_cmp}
use Rattle.std.proofs.lemmas.Bool.{false≢true, cond_both}
use Rattle.std.proofs.lemmas.Cmp.{nat_list_cmp_total, tied_back}
use Rattle.sql_base.specs.Keys.{key_lt, key_eq, Rise}
use Rattle.sql_base.specs.Locks.{same_txn}
use Rattle.sql_base.specs.declared.lock_names.TxnName.{TxnName}
use Rattle.sql_base.specs.declared.values.Value.{Value}
use Rattle.key_sequenced.specs.Cells.{AreCells, ending, find_cell, inserted, rewritten, settled_cell}
use Rattle.key_sequenced.specs.Files.{with_cell, rewritten_at}
use Rattle.key_sequenced.specs.declared.Cell.{Cell}
use Rattle.key_sequenced.proofs.Counts.{cells-rest, cells-without}
use Rattle.sql_base.proofs.Orderings.{equal-is, key_lt-other}

abbrev IsBelow : List ℕ → List Cell → Type 0
IsBelow key [] = Unit {0}
IsBelow key (c ∷ cells) = key_lt key c.key ≡ true

cells-cons : (c : Cell) (cells : List Cell) → IsBelow c.key cells → AreCells cells → AreCells (c ∷ cells)
cells-cons c [] h k = tt
cells-cons c (x ∷ cells) h k = (h, k)

cells-first : (c : Cell) (cells : List Cell) → AreCells (c ∷ cells) → IsBelow c.key cells
cells-first c [] h = tt
cells-first c (x ∷ cells) h = h.0

-- some cells are left out, and the others keep their keys
ended-key : (t u : TxnName) (kept : Cell → Option (List Value)) (c d : Cell) (o : Option TxnName) → ending t kept c o ≡ Some d → d.key ≡ c.key
ended-key t u kept c d None e = let same : c ≡ d = cc in ap (λ (x : Cell). x.key) (sym same)
ended-key t u kept c d (Some w) e = at (same_txn w t) (kept c) e
  where
    at : (b : Bool) (r : Option (List Value)) → cond b (settled_cell c.key r) (Some c) ≡ Some d → d.key ≡ c.key
    at true None e = absurd (cc)
    at true (Some row) e = let same : record { key = c.key; now = Some row; was = None; writer = None } ≡ d = cc in ap (λ (x : Cell). x.key) (sym same)
    at false r e = let same : c ≡ d = cc in ap (λ (x : Cell). x.key) (sym same)

module _ (t : TxnName) (kept : Cell → Option (List Value)) where
  abbrev after : List Cell → List Cell
  after cells = filter_map (λ c. ending t kept c c.writer) cells

  below-ended : (a : Cell) (cells : List Cell) → AreCells (a ∷ cells) → IsBelow a.key (after cells)
  below-ended a [] h = tt
  below-ended a (c ∷ cells) h = at (ending t kept c c.writer) refl (below-ended a cells (cells-without a c cells h))
    where
      at : (o : Option Cell) → ending t kept c c.writer ≡ o → IsBelow a.key (after cells) → IsBelow a.key (cons_option o (after cells))
      at None e rest = rest
      at (Some d) e rest = ap (key_lt a.key) (ended-key t t kept c d c.writer e) ∙ h.0

  pub rise-ended : (cells : List Cell) → AreCells cells → AreCells (after cells)
  rise-ended [] h = tt
  rise-ended (c ∷ cells) h = at (ending t kept c c.writer) refl (below-ended c cells h) (rise-ended cells (cells-rest c cells h))
    where
      at : (o : Option Cell) → ending t kept c c.writer ≡ o → IsBelow c.key (after cells) → AreCells (after cells) → AreCells (cons_option o (after cells))
      at None e first rest = rest
      at (Some d) e first rest = cells-cons d (after cells) (subst (λ k. IsBelow k (after cells)) (sym (ended-key t t kept c d c.writer e)) first) rest

keys-rewritten : (t : TxnName) (key : List ℕ) (now : Option (List Value)) (cells : List Cell) → map (λ (c : Cell). c.key) (rewritten_at t key now cells) ≡ map (λ (c : Cell). c.key) cells
keys-rewritten t key now [] = refl
keys-rewritten t key now (c ∷ cells) =
    cond_both (key_eq c.key key) (rewritten t now c ∷ cells) (c ∷ rewritten_at t key now cells) (λ cs. map (λ (x : Cell). x.key) cs ≡ c.key ∷ map (λ (x : Cell). x.key) cells)
    (λ _. refl) (λ _. ap (λ ks. c.key ∷ ks) (keys-rewritten t key now cells))

pub rise-rewritten : (t : TxnName) (key : List ℕ) (now : Option (List Value)) (cells : List Cell) → AreCells cells → AreCells (rewritten_at t key now cells)
rise-rewritten t key now cells h = subst Rise (sym (keys-rewritten t key now cells)) h

below-inserted : (t : TxnName) (key : List ℕ) (row : List Value) (a : List ℕ) (cells : List Cell) → IsBelow a cells → key_lt a key ≡ true → IsBelow a (inserted t key row cells)
below-inserted t key row a [] h k = k
below-inserted t key row a (c ∷ cells) h k =
    cond_both (key_lt key c.key) _ _ (IsBelow a) (λ _. k)
    (λ _. cond_both (key_eq key c.key) (rewritten t (Some row) c ∷ cells) (c ∷ inserted t key row cells) (IsBelow a) (λ _. h) (λ _. h))

pub rise-inserted : (t : TxnName) (key : List ℕ) (row : List Value) (cells : List Cell) → AreCells cells → AreCells (inserted t key row cells)
rise-inserted t key row [] h = tt
rise-inserted t key row (c ∷ cells) h =
    let rest = rise-inserted t key row cells (cells-rest c cells h) in
    cond_both (key_lt key c.key) _ _ AreCells (λ e. (e, h))
    (λ e. cond_both (key_eq key c.key) (rewritten t (Some row) c ∷ cells) (c ∷ inserted t key row cells) AreCells (λ _. h)
    (λ k. cells-cons c (inserted t key row cells) (below-inserted t key row c.key cells (cells-first c cells h) (key_lt-other key c.key e k)) rest))

below-laid : (cell : Cell) (a : List ℕ) (cells : List Cell) → IsBelow a cells → key_lt a cell.key ≡ true → IsBelow a (with_cell cell cells)
below-laid cell a [] h k = k
below-laid cell a (c ∷ cells) h k = cond_both (key_lt cell.key c.key) (cell ∷ c ∷ cells) (c ∷ with_cell cell cells) (IsBelow a) (λ _. k) (λ _. h)

not-eq : (a b : List ℕ) → key_eq b a ≡ false → key_eq a b ≡ false
not-eq a b h = at (key_eq a b) refl
  where
    at : (v : Bool) → key_eq a b ≡ v → v ≡ false
    at false e = refl
    at true e = absurd (false≢true (sym h ∙ ap is_eq (tied_back nat_list_cmp_total a b (equal-is (slice_cmp nat_cmp a b) e))))

free-parts : (c : Cell) (o : Option Cell) (b : Bool) → cond b (Some c) o ≡ None → (b ≡ false) × (o ≡ None)
free-parts c o true h = absurd (cc)
free-parts c o false h = (refl, h)

pub rise-laid : (cell : Cell) (cells : List Cell) → find_cell cell.key cells ≡ None → AreCells cells → AreCells (with_cell cell cells)
rise-laid cell [] free h = tt
rise-laid cell (c ∷ cells) free h =
    let parts = free-parts c (find_cell cell.key cells) (key_eq c.key cell.key) free in
    let rest = rise-laid cell cells parts.1 (cells-rest c cells h) in
    cond_both (key_lt cell.key c.key) (cell ∷ c ∷ cells) (c ∷ with_cell cell cells) AreCells (λ e. (e, h))
    (λ e. cells-cons c (with_cell cell cells) (below-laid cell c.key cells (cells-first c cells h) (key_lt-other cell.key c.key e (not-eq cell.key c.key parts.0))) rest)

-- some cells are left out
below-filter : (p : Cell → Bool) (a : Cell) (cells : List Cell) → AreCells (a ∷ cells) → IsBelow a.key (filter p cells)
below-filter p a [] h = tt
below-filter p a (c ∷ cells) h = cond_both (p c) (c ∷ filter p cells) (filter p cells) (IsBelow a.key) (λ _. h.0) (λ _. below-filter p a cells (cells-without a c cells h))

pub rise-filter : (p : Cell → Bool) (cells : List Cell) → AreCells cells → AreCells (filter p cells)
rise-filter p [] h = tt
rise-filter p (c ∷ cells) h =
    let rest = rise-filter p cells (cells-rest c cells h) in
    cond_both (p c) (c ∷ filter p cells) (filter p cells) AreCells (λ _. cells-cons c (filter p cells) (below-filter p c cells h) rest) (λ _. rest)
