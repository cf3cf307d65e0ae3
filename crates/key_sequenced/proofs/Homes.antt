-- The block of a key: what a change of it makes of all cells.
use Rattle.std.proofs.Common.{◌≡◌, ℕ, zero, suc, ◌+◌, ◌<◌, ◌≤◌, List, [], ◌∷◌, ◌++◌, length, take, drop, filter, Option, None, get_or, insert, set, refl, ap, sym, ◌∙◌, subst, arith}
use Rattle.sql_base.specs.Keys.{is_from}
use Rattle.sql_base.specs.declared.key_ranges.Start.{Start}
use Rattle.sql_base.specs.declared.lock_names.TxnName.{TxnName}
use Rattle.sql_base.specs.declared.values.Value.{Value}
use Rattle.key_sequenced.specs.Blocks.{home, joined, start_key, AreBlocks}
use Rattle.key_sequenced.specs.Cells.{AreCells, find_cell}
use Rattle.key_sequenced.specs.Files.{rewritten_at, with_cell}
use Rattle.key_sequenced.specs.declared.Cell.{Cell}
use Rattle.key_sequenced.proofs.Belonging.{IsHome, at_home, cells-back, cells-front, home-within}
use Rattle.key_sequenced.proofs.Joining.{changed-home, filled-at, filled-insert, filled-set, found-home, joined-at, joined-halved, joined-set, laid-home, length-changed}
use Rattle.key_sequenced.proofs.Starts.{from-home}
use Rattle.key_sequenced.proofs.Rising.{rise-laid, rise-rewritten}

-- a place that isn't within all blocks, though that of a key is, is the first of none
pub no_blocks : (blocks : List (List Cell)) (place : ℕ) → (0 < length blocks → place < length blocks) → length blocks ≤ place → blocks ≡ []
no_blocks [] place within le = refl
no_blocks (block ∷ blocks) place within le = absurd (let lt = within (omega arith) in omega (arith, lt, le))

pub first_home : (key : List ℕ) (blocks : List (List Cell)) (place : ℕ) → place ≡ home key blocks → length blocks ≤ place → (blocks ≡ []) × (place ≡ 0)
first_home key [] place e le = (refl, e)
first_home key (block ∷ blocks) place e le = absurd (let lt = home-within key block blocks in omega (arith, lt, le, e))

-- the first cell of all
pub laid-first : (cell : Cell) (blocks : List (List Cell)) (place : ℕ) (block y : List Cell) → blocks ≡ [] → place ≡ 0 → length block ≡ 0 → y ≡ with_cell cell block
    → (joined (insert blocks place y) ≡ with_cell cell (joined blocks)) × AreBlocks (insert blocks place y)
laid-first cell (b ∷ blocks) place block y none e empty w = absurd (cc)
laid-first cell [] (suc place) block y none e empty w = absurd (omega arith)
laid-first cell [] zero (c ∷ block) y none e empty w = absurd (omega arith)
laid-first cell [] zero [] y none e empty w = rw w (refl, record { rise = tt; filled = (omega arith, tt) })

-- a block, at the place to which a key belongs
pub record IsAt (key : List ℕ) (blocks : List (List Cell)) (place : ℕ) (block : List Cell) : Type 0 where
  pub lt : place < length blocks
  pub is : block ≡ get_or blocks place block
  pub home_is : place ≡ home key blocks

module _ (key : List ℕ) (blocks : List (List Cell)) (place : ℕ) (block : List Cell) (h : AreBlocks blocks) (here : IsAt key blocks place block) where
  abbrev front : List Cell
  front = joined (take place blocks)

  abbrev behind : List Cell
  behind = joined (drop (place + 1) blocks)

  round : IsHome key blocks place
  round = subst (IsHome key blocks) (sym here.home_is) (at_home key blocks h)

  whole : joined blocks ≡ front ++ (block ++ behind)
  whole = joined-at blocks place block here.lt here.is

  pub cells-at : AreCells block
  cells-at = cells-front block behind (cells-back front (block ++ behind) (subst AreCells whole h.rise))

  pub found-at : find_cell key block ≡ find_cell key (joined blocks)
  found-at = sym (ap (find_cell key) whole ∙ found-home key front block behind round.below round.above)

  pub changed-at : (t : TxnName) (now : Option (List Value)) (y : List Cell) → y ≡ rewritten_at t key now block → joined (set blocks place y) ≡ rewritten_at t key now (joined blocks)
  changed-at t now y w =
      joined-set blocks place y here.lt ∙ ap (λ x. front ++ (x ++ behind)) w
      ∙ sym (ap (rewritten_at t key now) whole ∙ changed-home t key now front block behind round.below round.above)

  pub changed-blocks : (t : TxnName) (now : Option (List Value)) (y : List Cell) → y ≡ rewritten_at t key now block → AreBlocks (set blocks place y)
  changed-blocks t now y w =
      let size : length y ≡ length block = ap length w ∙ length-changed t key now block in
      let filled = filled-at blocks place block h.filled here.lt here.is in
      record {
        rise = subst AreCells (sym (changed-at t now y w)) (rise-rewritten t key now (joined blocks) h.rise);
        filled = filled-set blocks place y h.filled (omega (arith, size, filled));
      }

-- a cell is laid in the block of its key
module _ (cell : Cell) (blocks : List (List Cell)) (place : ℕ) (block : List Cell) (h : AreBlocks blocks) (here : IsAt cell.key blocks place block) where
  abbrev before : List Cell
  before = joined (take place blocks)

  abbrev after : List Cell
  after = joined (drop (place + 1) blocks)

  sides : IsHome cell.key blocks place
  sides = subst (IsHome cell.key blocks) (sym here.home_is) (at_home cell.key blocks h)

  with-whole : with_cell cell (joined blocks) ≡ before ++ (with_cell cell block ++ after)
  with-whole = ap (with_cell cell) (joined-at blocks place block here.lt here.is) ∙ laid-home cell before block after sides.below sides.above

  pub laid-here : (y : List Cell) → y ≡ with_cell cell block → joined (set blocks place y) ≡ with_cell cell (joined blocks)
  laid-here y w = joined-set blocks place y here.lt ∙ ap (λ x. before ++ (x ++ after)) w ∙ sym with-whole

  pub laid-halved : (y z : List Cell) → y ++ z ≡ with_cell cell block → joined (insert (set blocks place y) (place + 1) z) ≡ with_cell cell (joined blocks)
  laid-halved y z w = joined-halved blocks place y z here.lt ∙ ap (λ x. before ++ (x ++ after)) w ∙ sym with-whole

  pub laid-blocks : find_cell cell.key (joined blocks) ≡ None → (y : List Cell) → y ≡ with_cell cell block → 0 < length y → AreBlocks (set blocks place y)
  laid-blocks free y w lt = record {
    rise = subst AreCells (sym (laid-here y w)) (rise-laid cell (joined blocks) free h.rise);
    filled = filled-set blocks place y h.filled lt;
  }

  pub halved-blocks : find_cell cell.key (joined blocks) ≡ None → (y z : List Cell) → y ++ z ≡ with_cell cell block → 0 < length y → 0 < length z → AreBlocks (insert (set blocks place y) (place + 1) z)
  halved-blocks free y z w front_lt back_lt = record {
    rise = subst AreCells (sym (laid-halved y z w)) (rise-laid cell (joined blocks) free h.rise);
    filled = filled-insert (set blocks place y) (place + 1) z (filled-set blocks place y h.filled front_lt) back_lt;
  }

-- the cells from a start on are those of its block, and all behind it
pub from-at : (start : Start) (blocks : List (List Cell)) (place : ℕ) (block : List Cell) → AreBlocks blocks → IsAt (start_key start) blocks place block
    → filter (λ c. is_from start c.key) block ++ joined (drop (place + 1) blocks) ≡ filter (λ c. is_from start c.key) (joined blocks)
from-at start blocks place block h here =
    let sides : IsHome (start_key start) blocks place = subst (IsHome (start_key start) blocks) (sym here.home_is) (at_home (start_key start) blocks h) in
    sym (ap (filter (λ c. is_from start c.key)) (joined-at blocks place block here.lt here.is)
    ∙ from-home start (joined (take place blocks)) block (joined (drop (place + 1) blocks)) sides.below sides.above)
