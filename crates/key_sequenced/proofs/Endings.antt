-- The end of a transaction, in two steps: the cells that stay, and what they are then.
use Rattle.std.proofs.Common.{◌≡◌, List, [], ◌∷◌, ◌||◌, not, Bool, true, false, cond, Option, Some, None, is_some, map, refl, ap, ◌∙◌}
use Rattle.std.specs.Prelude.{filter, filter_map, unwrap_or}
use Rattle.std.specs.List.{cons_option}
use Rattle.sql_base.specs.Locks.{same_txn}
use Rattle.sql_base.specs.declared.lock_names.TxnName.{TxnName}
use Rattle.sql_base.specs.declared.values.Value.{Value}
use Rattle.key_sequenced.specs.Cells.{ending}
use Rattle.key_sequenced.specs.Files.{cell_ended}
use Rattle.key_sequenced.specs.Changes.{is_written_by}
use Rattle.key_sequenced.specs.declared.Cell.{Cell}

abbrev pub stays : TxnName → (Cell → Option (List Value)) → Cell → Bool
stays t kept cell = not (is_written_by t cell.writer) || is_some (kept cell)

ended-one : (t : TxnName) (kept : Cell → Option (List Value)) (c : Cell) (cells : List Cell) (o : Option TxnName) (r : Option (List Value)) → kept c ≡ r
    → cons_option (ending t kept c o) cells ≡ cond (not (is_written_by t o) || is_some (kept c)) (unwrap_or (ending t kept c o) c ∷ cells) cells
ended-one t kept c cells None r k = refl
ended-one t kept c cells (Some u) r k = here (same_txn u t) refl r k
  where
    here : (b : Bool) → same_txn u t ≡ b → (r : Option (List Value)) → kept c ≡ r → cons_option (ending t kept c (Some u)) cells ≡ cond (not (is_written_by t (Some u)) || is_some (kept c)) (unwrap_or (ending t kept c (Some u)) c ∷ cells) cells
    here true s None k = rw (s, k) refl
    here true s (Some row) k = rw (s, k) refl
    here false s r k = rw s refl

one-more : (f : Cell → Cell) (c : Cell) (cells left : List Cell) (b : Bool) → cells ≡ map f left → cond b (f c ∷ cells) cells ≡ map f (cond b (c ∷ left) left)
one-more f c cells left true h = ap (λ cs. f c ∷ cs) h
one-more f c cells left false h = h

pub ended-all : (t : TxnName) (kept : Cell → Option (List Value)) (cells : List Cell) → filter_map (λ c. ending t kept c c.writer) cells ≡ map (cell_ended t kept) (filter (stays t kept) cells)
ended-all t kept [] = refl
ended-all t kept (c ∷ cells) =
    ended-one t kept c (filter_map (λ x. ending t kept x x.writer) cells) c.writer (kept c) refl
    ∙ one-more (cell_ended t kept) c (filter_map (λ x. ending t kept x x.writer) cells) (filter (stays t kept) cells) (stays t kept c) (ended-all t kept cells)
