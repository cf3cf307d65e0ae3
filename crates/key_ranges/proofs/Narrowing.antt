-- One more bound narrows the numbers that are left.
use Rattle.std.proofs.Common.{◌≡◌, ◌<◌, ◌+◌, ℕ, zero, suc, List, [], ◌∷◌, length, drop, get_or, map, Bool, true, false, ◌&&◌, Some, None, refl, ap, sym, ◌∙◌, arith}
use Rattle.std.specs.Prelude.{fold, int_lt, ◌==◌, if◌then◌else◌}
use Rattle.std.specs.Ordering.{int_eq}
use Rattle.sql_base.specs.Rows.{in_i64, key_value}
use Rattle.sql_base.specs.Tables.{is_literal_of}
use Rattle.sql_base.specs.declared.expressions.CompareOp.{CompareOp}
use Rattle.sql_base.specs.declared.tables.ColumnKind.TheVariants.{Int}
use Rattle.sql_base.specs.declared.values.Value.{Value}
use Rattle.sql_base.specs.declared.values.Value.TheVariants as value
use Rattle.range_finder.specs.Range.{Bound, Numbers, narrowed, number_bound, usable}
use Rattle.key_ranges.specs.Bounds.{bound_of}
use Rattle.key_ranges.specs.Intervals.{all_numbers, left_of}
use Rattle.key_ranges.specs.Spans.{span_left}
use Rattle.key_ranges.specs.declared.bounds.ColumnBound.{ColumnBound}

-- what one bound leaves
left-parts : (column : ℕ) (i : Numbers) (c : ℕ) (op : CompareOp) (v : Value)
    → left_of column (record { column = c; op = op; literal = v }) i ≡ fold number_bound i (usable column Int (record { column = c; op = op; literal = v } ∷ []))
left-parts column i c op (value.Int n) = at (c == column) (in_i64 n)
  where
    at : (here fits : Bool)
        → (if here then (if fits then narrowed op n i else i) else i) ≡ fold number_bound i (if here && fits then record { column = c; op = op; literal = value.Int n } ∷ [] else [])
    at true true = refl
    at true false = refl
    at false fits = refl
left-parts column i c op (value.Text text) = at (c == column)
  where
    at : (here : Bool) → (if here then i else i) ≡ fold number_bound i (if here && false then record { column = c; op = op; literal = value.Text text } ∷ [] else [])
    at true = refl
    at false = refl

pub left-one : (column : ℕ) (i : Numbers) (b : Bound) → left_of column b i ≡ fold number_bound i (usable column Int (b ∷ []))
left-one column i b = left-parts column i b.column b.op b.literal

narrow_one : (column : ℕ) (i : Numbers) (x : ColumnBound) (rest : List Bound)
    → fold number_bound (fold number_bound i (usable column Int (bound_of x ∷ []))) (usable column Int rest) ≡ fold number_bound i (usable column Int (bound_of x ∷ rest))
narrow_one column i x rest = at ((x.column == column) && is_literal_of Int x.literal)
  where
    at : (t : Bool) → fold number_bound (fold number_bound i (if t then bound_of x ∷ [] else [])) (usable column Int rest) ≡ fold number_bound i (if t then bound_of x ∷ usable column Int rest else usable column Int rest)
    at true = refl
    at false = refl

narrow_step : (column : ℕ) (i : Numbers) (bs : List ColumnBound) (n : ℕ) (b : ColumnBound) → n < length bs → b ≡ get_or bs n b
    → fold number_bound (fold number_bound i (usable column Int (map bound_of (b ∷ [])))) (usable column Int (map bound_of (drop (suc n) bs))) ≡ fold number_bound i (usable column Int (map bound_of (drop n bs)))
narrow_step column i [] n b lt e = absurd (omega arith)
narrow_step column i (x ∷ bs) zero b lt e =
    ap (λ y. fold number_bound (fold number_bound i (usable column Int (bound_of y ∷ []))) (usable column Int (map bound_of bs))) e ∙ narrow_one column i x (map bound_of bs)
narrow_step column i (x ∷ bs) (suc n) b lt e = narrow_step column i bs n b (omega arith) e

pub narrow_more : (column : ℕ) (i : Numbers) (bs : List ColumnBound) (n : ℕ) (b : ColumnBound) → n < length bs → b ≡ get_or bs n b
    → fold number_bound (fold number_bound i (usable column Int (map bound_of (b ∷ [])))) (usable column Int (map bound_of (drop (n + 1) bs))) ≡ fold number_bound i (usable column Int (map bound_of (drop n bs)))
narrow_more column i bs n b lt e =
    let more : n + 1 ≡ suc n = omega arith in
    ap (λ m. fold number_bound (fold number_bound i (usable column Int (map bound_of (b ∷ [])))) (usable column Int (map bound_of (drop m bs)))) more ∙ narrow_step column i bs n b lt e

-- what isn't empty, as bytes of a key
pub number-span : (bounds : List Bound) (column : ℕ) (i : Numbers) (low high : List ℕ) (one : Bool) → i ≡ fold number_bound all_numbers (usable column Int bounds) → int_lt i.high i.low ≡ false
    → low ≡ key_value Int (value.Int i.low) → high ≡ key_value Int (value.Int i.high) → one ≡ int_eq i.low i.high → Some (record { low = low; high = high; is_one = one }) ≡ span_left bounds column Int
number-span bounds column i low high one is some is_low is_high is_one =
    ap (λ l. Some (record { low = l; high = high; is_one = one })) is_low
    ∙ ap (λ h. Some (record { low = key_value Int (value.Int i.low); high = h; is_one = one })) is_high
    ∙ ap (λ b. Some (record { low = key_value Int (value.Int i.low); high = key_value Int (value.Int i.high); is_one = b })) is_one
    ∙ sym (ap (λ (b : Bool). if b then None else Some (record { low = key_value Int (value.Int i.low); high = key_value Int (value.Int i.high); is_one = int_eq i.low i.high })) some)
    ∙ ap (λ (j : Numbers). if int_lt j.high j.low then None else Some (record { low = key_value Int (value.Int j.low); high = key_value Int (value.Int j.high); is_one = int_eq j.low j.high })) is
