-- The texts that bound a column on one side, one after the other.
use Rattle.std.proofs.Common.{◌≡◌, ◌<◌, ℕ, ◌+◌, List, ◌∷◌, length, drop, get_or, map, Bool, true, false, ◌&&◌, Some, None, Option, refl, ap, sym, ◌∙◌}
use Rattle.std.specs.Prelude.{filter_map, nat_le, ◌==◌, if◌then◌else◌}
use Rattle.std.specs.List.{cons_option}
use Rattle.std.proofs.lemmas.List.{drop_more}
use Rattle.sql_base.specs.Rows.{is_printable}
use Rattle.sql_base.specs.Tables.{is_literal_of}
use Rattle.sql_base.specs.declared.expressions.CompareOp.{CompareOp}
use Rattle.sql_base.specs.declared.expressions.CompareOp.TheVariants.{Eq, Ne, Lt, Le, Gt, Ge}
use Rattle.sql_base.specs.declared.tables.ColumnKind.TheVariants.{Char}
use Rattle.sql_base.specs.declared.values.Value.TheVariants as value
use Rattle.range_finder.specs.Range.{Bound, usable}
use Rattle.key_ranges.specs.Bounds.{bound_of}
use Rattle.key_ranges.specs.Texts.{best_from, bounding, fitting_text, kept_better, literal_text, sets, side_text, texts_of}
use Rattle.key_ranges.specs.declared.bounds.ColumnBound.{ColumnBound}
use Rattle.key_ranges.specs.declared.texts.Side.{Side}
use Rattle.key_ranges.specs.declared.texts.Side.TheVariants.{Low, High}

neither : (b : Bool) → ◌≡◌ {A = Option (List ℕ)} (if b then None else None) None
neither true = refl
neither false = refl

-- a text that isn't set on a side, and one that is
pub text_set : (side : Side) (width : ℕ) (op : CompareOp) (text : List ℕ) → sets side op ≡ true → literal_text side width op (value.Text text) ≡ fitting_text width text
text_set Low width Eq text e = refl
text_set Low width Gt text e = refl
text_set Low width Ge text e = refl
text_set Low width Ne text e = absurd (cc)
text_set Low width Lt text e = absurd (cc)
text_set Low width Le text e = absurd (cc)
text_set High width Eq text e = refl
text_set High width Lt text e = refl
text_set High width Le text e = refl
text_set High width Ne text e = absurd (cc)
text_set High width Gt text e = absurd (cc)
text_set High width Ge text e = absurd (cc)

pub text_unset : (side : Side) (width : ℕ) (op : CompareOp) (text : List ℕ) → sets side op ≡ false → literal_text side width op (value.Text text) ≡ None
text_unset Low width Ne text e = neither (nat_le (length text) width && is_printable text)
text_unset Low width Lt text e = neither (nat_le (length text) width && is_printable text)
text_unset Low width Le text e = neither (nat_le (length text) width && is_printable text)
text_unset Low width Eq text e = absurd (cc)
text_unset Low width Gt text e = absurd (cc)
text_unset Low width Ge text e = absurd (cc)
text_unset High width Ne text e = neither (nat_le (length text) width && is_printable text)
text_unset High width Gt text e = neither (nat_le (length text) width && is_printable text)
text_unset High width Ge text e = neither (nat_le (length text) width && is_printable text)
text_unset High width Eq text e = absurd (cc)
text_unset High width Lt text e = absurd (cc)
text_unset High width Le text e = absurd (cc)

module _ (side : Side) (column width : ℕ) where
  texts-cons : (b : Bound) (bs : List Bound) → texts_of side column width (b ∷ bs) ≡ cons_option (bounding side column width b) (texts_of side column width bs)
  texts-cons b bs = at (b.column == column) (is_literal_of (Char width) b.literal)
    where
      at : (here fits : Bool) → filter_map (λ (bound : Bound). side_text side width bound.op bound.literal) (if here && fits then b ∷ usable column (Char width) bs else usable column (Char width) bs)
          ≡ cons_option (if here then (if fits then side_text side width b.op b.literal else None) else None) (texts_of side column width bs)
      at true true = refl
      at true false = refl
      at false fits = refl

  best-step : (kept text : Option (List ℕ)) (texts : List (List ℕ)) → best_from side (kept_better side kept text) texts ≡ best_from side kept (cons_option text texts)
  best-step None None texts = refl
  best-step None (Some text) texts = refl
  best-step (Some kept) None texts = refl
  best-step (Some kept) (Some text) texts = refl

  -- one more bound
  pub best-more : (kept : Option (List ℕ)) (bs : List ColumnBound) (i : ℕ) (b : ColumnBound) → i < length bs → b ≡ get_or bs i b
      → best_from side (kept_better side kept (bounding side column width (bound_of b))) (texts_of side column width (map bound_of (drop (i + 1) bs))) ≡ best_from side kept (texts_of side column width (map bound_of (drop i bs)))
  best-more kept bs i b within is =
      best-step kept (bounding side column width (bound_of b)) (texts_of side column width (map bound_of (drop (i + 1) bs)))
      ∙ ap (best_from side kept) (sym (texts-cons (bound_of b) (map bound_of (drop (i + 1) bs))))
      ∙ ap (λ (xs : List ColumnBound). best_from side kept (texts_of side column width (map bound_of xs))) (sym (drop_more bs i b within ∙ ap (λ (x : ColumnBound). x ∷ drop (i + 1) bs) (sym is)))
