-- Cells without writers: the end of a transaction leaves them as they are.
use Rattle.std.proofs.Common.{◌≡◌, List, [], ◌∷◌, ◌++◌, ◌||◌, Bool, true, false, Option, Some, None, is_some, refl, ap, sym, ◌∙◌, subst}
use Rattle.std.specs.Prelude.{filter_map}
use Rattle.std.specs.List.{cons_option, list_any, AllByRecursion}
use Rattle.std.proofs.lemmas.Bool.{cond_both}
use Rattle.sql_base.specs.Keys.{key_lt}
use Rattle.sql_base.specs.declared.lock_names.TxnName.{TxnName}
use Rattle.sql_base.specs.declared.values.Value.{Value}
use Rattle.sql_base.proofs.ListFacts.{all_left, all_right}
use Rattle.key_sequenced.specs.Blocks.{IsMarked}
use Rattle.key_sequenced.specs.Cells.{ending}
use Rattle.key_sequenced.specs.Files.{with_cell}
use Rattle.key_sequenced.specs.declared.Cell.{Cell}
use Rattle.sql_base.proofs.Truths.{neither_holds, none-is}

abbrev pub AreFree : List Cell → Type 0
AreFree cells = AllByRecursion (λ c. c.writer ≡ None) cells

pub ended-free : (t : TxnName) (kept : Cell → Option (List Value)) (cells : List Cell) → AreFree cells → filter_map (λ c. ending t kept c c.writer) cells ≡ cells
ended-free t kept [] h = refl
ended-free t kept (c ∷ cells) h =
    ap (λ o. cons_option (ending t kept c o) (filter_map (λ x. ending t kept x x.writer) cells)) h.0 ∙ ap (λ cs. c ∷ cs) (ended-free t kept cells h.1)

-- the mark after a search for writers
pub marked-found : (cells : List Cell) → IsMarked (list_any (λ c. is_some c.writer) cells) cells
marked-found [] h = tt
marked-found (c ∷ cells) h =
    let parts = neither_holds (is_some c.writer) (list_any (λ x. is_some x.writer) cells) h in
    (none-is c.writer parts.0, marked-found cells parts.1)

laid-free : (cell : Cell) (cells : List Cell) → cell.writer ≡ None → AreFree cells → AreFree (with_cell cell cells)
laid-free cell [] none h = (none, tt)
laid-free cell (c ∷ cells) none h =
    cond_both (key_lt cell.key c.key) (cell ∷ c ∷ cells) (c ∷ with_cell cell cells) AreFree (λ _. (none, h)) (λ _. (h.0, laid-free cell cells none h.1))

-- the mark after one more cell
pub marked-laid : (mark : Bool) (cell : Cell) (cells : List Cell) → IsMarked mark cells → IsMarked (mark || is_some cell.writer) (with_cell cell cells)
marked-laid mark cell cells h off =
    let parts = neither_holds mark (is_some cell.writer) off in
    laid-free cell cells (none-is cell.writer parts.1) (h parts.0)

-- the mark of a block is one of each of its halves
pub marked-front : (mark : Bool) (front back all : List Cell) → front ++ back ≡ all → IsMarked mark all → IsMarked mark front
marked-front mark front back all is h off = all_left (λ (c : Cell). c.writer ≡ None) front back (subst AreFree (sym is) (h off))

pub marked-back : (mark : Bool) (front back all : List Cell) → front ++ back ≡ all → IsMarked mark all → IsMarked mark back
marked-back mark front back all is h off = all_right (λ (c : Cell). c.writer ≡ None) front back (subst AreFree (sym is) (h off))
