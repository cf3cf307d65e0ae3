-- The candidates among the cells, as far as a walk over them has come.
use Rattle.std.proofs.Common.{◌≡◌, ℕ, ◌+◌, ◌<◌, List, [], ◌∷◌, ◌++◌, length, take, drop, get_or, Bool, true, false, cond, refl, ap, sym, ◌∙◌, filter, map}
use Rattle.std.proofs.lemmas.List.{take_more, drop_more, take-append-drop, map-append}
use Rattle.std.proofs.lemmas.List.Elements.{filter-append}
use Rattle.sql_base.specs.declared.lock_names.Lock.{Lock}
use Rattle.sql_base.specs.declared.tables.TableDef.{TableDef}
use Rattle.key_sequenced.specs.declared.Cell.{Cell}
use Rattle.subset_blocks.specs.declared.Block.{Block}
use Rattle.quantum_core.specs.Verdicts.{Judged, judged, is_candidate, verdict}
use Rattle.quantum_core.specs.declared.works.SetWork.{SetWork}

abbrev pub as_judged : TableDef → List Lock → Block SetWork → Cell → Judged
as_judged table locks block cell = record { key = cell.key; verdict = verdict table locks block cell }

judged-append : (table : TableDef) (locks : List Lock) (block : Block SetWork) (xs ys : List Cell) → judged table locks block (xs ++ ys) ≡ judged table locks block xs ++ judged table locks block ys
judged-append table locks block xs ys = simp (filter-append, map-append)

judged_one : (table : TableDef) (locks : List Lock) (block : Block SetWork) (cell : Cell) (b : Bool) → is_candidate block cell ≡ b → judged table locks block (cell ∷ []) ≡ cond b (as_judged table locks block cell ∷ []) []
judged_one table locks block cell b e = rw e (elim b as (λ b. map (as_judged table locks block) (cond b (cell ∷ []) []) ≡ cond b (as_judged table locks block cell ∷ []) []) [ true ↦ refl | false ↦ refl ])

pub judged_more : (table : TableDef) (locks : List Lock) (block : Block SetWork) (cells : List Cell) (i : ℕ) (cell : Cell) → i < length cells → cell ≡ get_or cells i cell → (b : Bool) → is_candidate block cell ≡ b → judged table locks block (take (i + 1) cells) ≡ judged table locks block (take i cells) ++ cond b (as_judged table locks block cell ∷ []) []
judged_more table locks block cells i cell lt e b seen =
    ap (judged table locks block) (take_more cells i cell lt ∙ ap (λ x. take i cells ++ x ∷ []) (sym e)) ∙ judged-append table locks block (take i cells) (cell ∷ []) ∙ ap (λ xs. judged table locks block (take i cells) ++ xs) (judged_one table locks block cell b seen)

judged_cons : (table : TableDef) (locks : List Lock) (block : Block SetWork) (cell : Cell) (cells : List Cell) → is_candidate block cell ≡ true → judged table locks block (cell ∷ cells) ≡ as_judged table locks block cell ∷ judged table locks block cells
judged_cons table locks block cell cells e = ap (λ b. map (as_judged table locks block) (cond b (cell ∷ filter (is_candidate block) cells) (filter (is_candidate block) cells))) e

pub judged_split : (table : TableDef) (locks : List Lock) (block : Block SetWork) (cells : List Cell) (i : ℕ) (cell : Cell) → i < length cells → cell ≡ get_or cells i cell → is_candidate block cell ≡ true → judged table locks block cells ≡ judged table locks block (take i cells) ++ as_judged table locks block cell ∷ judged table locks block (drop (i + 1) cells)
judged_split table locks block cells i cell lt e seen =
    ap (judged table locks block) (sym (take-append-drop i cells)) ∙ judged-append table locks block (take i cells) (drop i cells) ∙ ap (λ xs. judged table locks block (take i cells) ++ judged table locks block xs) (drop_more cells i cell lt ∙ ap (λ x. x ∷ drop (i + 1) cells) (sym e)) ∙ ap (λ xs. judged table locks block (take i cells) ++ xs) (judged_cons table locks block cell (drop (i + 1) cells) seen)
