-- Blocks put together: what is read and changed of all cells is read and changed in the block of the key.
use Rattle.std.proofs.Common.{◌≡◌, ℕ, zero, suc, ◌+◌, ◌<◌, List, [], ◌∷◌, ◌++◌, length, take, drop, map, filter, cond, Option, None, get_or, insert, set, append_assoc, length-append, refl, ap, sym, ◌∙◌, subst, arith}
use Rattle.std.specs.Prelude.{filter_map, sum}
use Rattle.std.specs.List.{AllByRecursion}
use Rattle.std.proofs.lemmas.List.Elements.{filter_map-append}
use Rattle.std.proofs.lemmas.List.Sums.{sum_by-cons}
use Rattle.std.proofs.lemmas.Bool.{cond_both}
use Rattle.sql_base.specs.Keys.{key_eq, key_lt}
use Rattle.sql_base.specs.declared.lock_names.TxnName.{TxnName}
use Rattle.sql_base.specs.declared.values.Value.{Value}
use Rattle.sql_base.proofs.Orderings.{key_gt-differs, key_lt-back, key_lt-differs}
use Rattle.key_sequenced.specs.Blocks.{joined, has_cells, HasCells}
use Rattle.key_sequenced.specs.Cells.{ending, find_cell, rewritten}
use Rattle.key_sequenced.specs.Files.{rewritten_at, with_cell}
use Rattle.key_sequenced.specs.declared.Cell.{Cell}
use Rattle.key_sequenced.proofs.Belonging.{AreAbove, AreBelow}
use Rattle.key_sequenced.proofs.Laying.{rewritten-none}

further : (n : ℕ) → suc n + 1 ≡ suc (n + 1)
further n = omega arith

-- all cells, as those before a block, its own and those behind it
pub joined-at : (blocks : List (List Cell)) (place : ℕ) (block : List Cell) → place < length blocks → block ≡ get_or blocks place block → joined blocks ≡ joined (take place blocks) ++ (block ++ joined (drop (place + 1) blocks))
joined-at [] place block lt is = absurd (omega arith)
joined-at (b ∷ blocks) zero block lt is = ap (λ x. x ++ joined blocks) (sym is)
joined-at (b ∷ blocks) (suc place) block lt is =
    rw (further place) (ap (λ x. b ++ x) (joined-at blocks place block (omega arith) is) ∙ sym (append_assoc b (joined (take place blocks)) (block ++ joined (drop (place + 1) blocks))))

pub joined-set : (blocks : List (List Cell)) (place : ℕ) (block : List Cell) → place < length blocks → joined (set blocks place block) ≡ joined (take place blocks) ++ (block ++ joined (drop (place + 1) blocks))
joined-set [] place block lt = absurd (omega arith)
joined-set (b ∷ blocks) zero block lt = refl
joined-set (b ∷ blocks) (suc place) block lt =
    rw (further place) (ap (λ x. b ++ x) (joined-set blocks place block (omega arith)) ∙ sym (append_assoc b (joined (take place blocks)) (block ++ joined (drop (place + 1) blocks))))

-- a block is halved
pub joined-halved : (blocks : List (List Cell)) (place : ℕ) (front back : List Cell) → place < length blocks → joined (insert (set blocks place front) (place + 1) back) ≡ joined (take place blocks) ++ ((front ++ back) ++ joined (drop (place + 1) blocks))
joined-halved [] place front back lt = absurd (omega arith)
joined-halved (b ∷ blocks) zero front back lt = sym (append_assoc front back (joined blocks))
joined-halved (b ∷ blocks) (suc place) front back lt =
    rw (further place) (ap (λ x. b ++ x) (joined-halved blocks place front back (omega arith)) ∙ sym (append_assoc b (joined (take place blocks)) ((front ++ back) ++ joined (drop (place + 1) blocks))))

-- a cell is laid among those round its key
module _ (cell : Cell) where
  pub laid-before : (block behind : List Cell) → AreAbove cell.key behind → with_cell cell (block ++ behind) ≡ with_cell cell block ++ behind
  laid-before [] [] h = refl
  laid-before [] (c ∷ behind) h = rw h.0 refl
  laid-before (c ∷ block) behind h =
      cond_both (key_lt cell.key c.key) (cell ∷ c ∷ block) (c ∷ with_cell cell block) (λ x. cond (key_lt cell.key c.key) (cell ∷ c ∷ block ++ behind) (c ∷ with_cell cell (block ++ behind)) ≡ x ++ behind)
      (λ e. rw e refl) (λ e. rw e (ap (λ cs. c ∷ cs) (laid-before block behind h)))

  pub laid-home : (front block behind : List Cell) → AreBelow cell.key front → AreAbove cell.key behind → with_cell cell (front ++ (block ++ behind)) ≡ front ++ (with_cell cell block ++ behind)
  laid-home [] block behind below above = laid-before block behind above
  laid-home (c ∷ front) block behind below above = rw (key_lt-back c.key cell.key below.0) (ap (λ cs. c ∷ cs) (laid-home front block behind below.1 above))

  pub laid-behind : (front cells : List Cell) → AreBelow cell.key front → with_cell cell (front ++ cells) ≡ front ++ with_cell cell cells
  laid-behind [] cells h = refl
  laid-behind (c ∷ front) cells h = rw (key_lt-back c.key cell.key h.0) (ap (λ cs. c ∷ cs) (laid-behind front cells h.1))

  pub laid-some : (cells : List Cell) → 0 < length (with_cell cell cells)
  laid-some [] = omega arith
  laid-some (c ∷ cells) =
      cond_both (key_lt cell.key c.key) (cell ∷ c ∷ cells) (c ∷ with_cell cell cells) (λ x. 0 < length x) (λ _. omega arith) (λ _. omega arith)

-- no cell above a key has it
none-of : (key : List ℕ) (cells : List Cell) → AreAbove key cells → find_cell key cells ≡ None
none-of key [] h = refl
none-of key (c ∷ cells) h = rw (key_gt-differs c.key key h.0) (none-of key cells h.1)

pub found-home : (key : List ℕ) (front block behind : List Cell) → AreBelow key front → AreAbove key behind → find_cell key (front ++ (block ++ behind)) ≡ find_cell key block
found-home key [] [] behind below above = none-of key behind above
found-home key [] (c ∷ block) behind below above =
    cond_both (key_eq c.key key) (Option.Some c) (find_cell key block) (λ x. cond (key_eq c.key key) (Option.Some c) (find_cell key (block ++ behind)) ≡ x)
    (λ e. rw e refl) (λ e. rw e (found-home key [] block behind below above))
found-home key (c ∷ front) block behind below above = rw (key_lt-differs c.key key below.0) (found-home key front block behind below.1 above)

-- the cell of a key is rewritten among those round it
module _ (t : TxnName) (key : List ℕ) (now : Option (List Value)) where
  changed-before : (block behind : List Cell) → AreAbove key behind → rewritten_at t key now (block ++ behind) ≡ rewritten_at t key now block ++ behind
  changed-before [] behind h = sym (rewritten-none t key now behind (none-of key behind h))
  changed-before (c ∷ block) behind h =
      cond_both (key_eq c.key key) (rewritten t now c ∷ block) (c ∷ rewritten_at t key now block) (λ x. cond (key_eq c.key key) (rewritten t now c ∷ block ++ behind) (c ∷ rewritten_at t key now (block ++ behind)) ≡ x ++ behind)
      (λ e. rw e refl) (λ e. rw e (ap (λ cs. c ∷ cs) (changed-before block behind h)))

  pub changed-home : (front block behind : List Cell) → AreBelow key front → AreAbove key behind → rewritten_at t key now (front ++ (block ++ behind)) ≡ front ++ (rewritten_at t key now block ++ behind)
  changed-home [] block behind below above = changed-before block behind above
  changed-home (c ∷ front) block behind below above = rw (key_lt-differs c.key key below.0) (ap (λ cs. c ∷ cs) (changed-home front block behind below.1 above))

  pub length-changed : (cells : List Cell) → length (rewritten_at t key now cells) ≡ length cells
  length-changed [] = refl
  length-changed (c ∷ cells) =
      cond_both (key_eq c.key key) (rewritten t now c ∷ cells) (c ∷ rewritten_at t key now cells) (λ x. length x ≡ length (c ∷ cells)) (λ _. refl) (λ _. ap suc (length-changed cells))

-- no block becomes empty
pub filled-set : (blocks : List (List Cell)) (place : ℕ) (block : List Cell) → AllByRecursion HasCells blocks → 0 < length block → AllByRecursion HasCells (set blocks place block)
filled-set [] place block h lt = tt
filled-set (b ∷ blocks) zero block h lt = (lt, h.1)
filled-set (b ∷ blocks) (suc place) block h lt = (h.0, filled-set blocks place block h.1 lt)

pub filled-insert : (blocks : List (List Cell)) (place : ℕ) (block : List Cell) → AllByRecursion HasCells blocks → 0 < length block → AllByRecursion HasCells (insert blocks place block)
filled-insert blocks zero block h lt = (lt, h)
filled-insert [] (suc place) block h lt = (lt, tt)
filled-insert (b ∷ blocks) (suc place) block h lt = (h.0, filled-insert blocks place block h.1 lt)

pub filled-at : (blocks : List (List Cell)) (place : ℕ) (block : List Cell) → AllByRecursion HasCells blocks → place < length blocks → block ≡ get_or blocks place block → 0 < length block
filled-at [] place block h lt is = absurd (omega arith)
filled-at (b ∷ blocks) zero block h lt is = subst (λ x. 0 < length x) (sym is) h.0
filled-at (b ∷ blocks) (suc place) block h lt is = filled-at blocks place block h.1 (omega arith) is

-- the cells of each block end as those of all
pub ended-joined : (t : TxnName) (kept : Cell → Option (List Value)) (blocks : List (List Cell)) → joined (map (λ block. filter_map (λ c. ending t kept c c.writer) block) blocks) ≡ filter_map (λ c. ending t kept c c.writer) (joined blocks)
ended-joined t kept [] = refl
ended-joined t kept (block ∷ blocks) =
    ap (λ cs. filter_map (λ c. ending t kept c c.writer) block ++ cs) (ended-joined t kept blocks) ∙ sym (filter_map-append (λ c. ending t kept c c.writer) block (joined blocks))

-- empty blocks hold no cell
pub joined-filled : (blocks : List (List Cell)) → joined (filter has_cells blocks) ≡ joined blocks
joined-filled [] = refl
joined-filled ([] ∷ blocks) = joined-filled blocks
joined-filled ((c ∷ cells) ∷ blocks) = ap (λ cs. (c ∷ cells) ++ cs) (joined-filled blocks)

pub filled-filter : (blocks : List (List Cell)) → AllByRecursion HasCells (filter has_cells blocks)
filled-filter [] = tt
filled-filter ([] ∷ blocks) = filled-filter blocks
filled-filter ((c ∷ cells) ∷ blocks) = (omega arith, filled-filter blocks)

pub sizes-sum : (blocks : List (List Cell)) → sum (map length blocks) ≡ length (joined blocks)
sizes-sum [] = refl
sizes-sum (block ∷ blocks) =
    sum_by-cons (λ n. n) (length block) (map length blocks) ∙ ap (λ n. length block + n) (sizes-sum blocks) ∙ sym (length-append block (joined blocks))
