-- What the rows of FIRST KEY leave: first keys that rise from above the least key.
use Rattle.std.proofs.Common.{◌≡◌, ◌≤◌, ◌<◌, ◌+◌, ◌-◌, ℕ, not, ◌&&◌, List, [], ◌∷◌, ◌++◌, length, map, Bool, true, false, Some, None, refl, sym, ap, subst, ◌∙◌, arith}
use Rattle.std.specs.Prelude.{nat_le, is_some, replicate}
use Rattle.std.specs.List.{AllByRecursion}
use Rattle.std.proofs.lemmas.Bool.Decides.{nat_tests}
use Rattle.std.proofs.lemmas.List.{length-append, map-append}
use Rattle.sql_base.specs.Keys.{Rise, key_lt}
use Rattle.sql_base.specs.Kinds.{OfTruth, IsExpr}
use Rattle.sql_base.specs.Rows.{key_kinds, key_values, key_width}
use Rattle.sql_base.specs.Scripts.{parts_of}
use Rattle.sql_base.specs.Tables.{are_leading, first_key, first_keys}
use Rattle.sql_base.specs.declared.expressions.Expr.{Expr}
use Rattle.sql_base.specs.declared.tables.TableDef.{TableDef}
use Rattle.sql_base.specs.declared.values.Value.{Value}
use Rattle.statement_draft.specs.Faults.{noted}
use Rattle.statement_draft.specs.TableEvents.{filled_key, row_first_key, first_keys_begin, first_key_ends}
use Rattle.statement_draft.specs.declared.faults.Reason.TheVariants.{OverLimit, NotRising}
use Rattle.statement_draft.specs.declared.draft.Draft.{Draft}
use Rattle.statement_draft.specs.declared.draft.RowOf.TheVariants as row_of
use Rattle.statement_draft.proofs.Clean.{noted-none}
use Rattle.statement_rules.proofs.States.{Declares, Declared, last_of, Firsting, Whole}
use Rattle.sql_base.proofs.ListFacts.{all-push, all-weaker}
use Rattle.statement_rules.proofs.Stays.{is_none}

-- one key more, above the last
rise_more : (k : List ℕ) (ks : List (List ℕ)) (new : List ℕ) → Rise (k ∷ ks) → key_lt (last_of k ks) new ≡ true → Rise (k ∷ (ks ++ new ∷ []))
rise_more k [] new h e = (e, tt)
rise_more k (next ∷ ks) new h e = (h.0, rise_more next ks new h.1 e)

last_is : (k : List ℕ) (ks : List (List ℕ)) (new : List ℕ) → last_of k (ks ++ new ∷ []) ≡ new
last_is k [] new = refl
last_is k (next ∷ ks) new = last_is next ks new

-- a predicate of a table doesn't look at its first keys
same_predicate : (def : TableDef) (firsts : List (List Value)) (e : Expr) → IsExpr def OfTruth e → IsExpr (record def { firsts = firsts }) OfTruth e
same_predicate def firsts e h = record { typed = h.typed; depth = h.depth; code = h.code }

-- a row of FIRST KEY is for the key columns
abbrev pub ForKeys : Draft → Type 0
ForKeys d = (d.row.of ≡ row_of.FirstKey) × (d.row.kinds ≡ Some (key_kinds d.table.def))

width_is : (d : Draft) → Declares d.tables d.table.def d.table.width d.table.key_width → (key : List ℕ)
    → filled_key d.table.key_width key ≡ key ++ replicate (key_width d.table.def - length key) 0
width_is d h key = ap (λ n. key ++ replicate (n - length key) 0) h.key.counted

-- FIRST
pub firsts_begin : (d : Draft) → Declared d → Firsting (first_keys_begin d) × ForKeys (first_keys_begin d)
firsts_begin d h = (
  (
    h.0,
    h.1,
    record {
      some = subst (AllByRecursion (λ (first : List Value). 0 < length first)) (sym h.2) tt;
      leading = subst (AllByRecursion (λ (first : List Value). are_leading (key_kinds d.table.def) first ≡ true)) (sym h.2) tt;
      rise = subst (λ (l : List (List Value)). Rise (replicate (key_width d.table.def) 0 ∷ map (first_key d.table.def) l)) (sym h.2) tt;
      last = ap (λ n. replicate n 0) h.1.key.counted
          ∙ subst (λ (l : List (List Value)). replicate (key_width d.table.def) 0 ≡ last_of (replicate (key_width d.table.def) 0) (map (first_key d.table.def) l)) (sym h.2) refl;
    },
  ),
  (refl, refl),
)

above : (b c : Bool) → b ≡ false → not b && not c ≡ false → c ≡ true
above false true h e = refl
above false false h e = absurd (cc (e))
above true c h e = absurd (cc (h))

-- a whole row of FIRST KEY
pub first_step : (d : Draft) → Firsting d → ForKeys d → 0 < length d.row.values → are_leading (key_kinds d.table.def) d.row.values ≡ true
    → (first_key_ends d).first ≡ None → Firsting (first_key_ends d) × ForKeys (first_key_ends d)
first_step d h for some leading clean =
    let def = d.table.def in
    let values = d.row.values in
    let zeros = replicate (key_width def) 0 in
    let counted = noted (nat_le 15 (parts_of d.tables + length def.firsts)) OverLimit d.row.at d.first in
    let outer = noted-none (not (is_some counted) && not (key_lt d.table.last (row_first_key d))) NotRising d.row.at counted clean in
    let room = (noted-none (nat_le 15 (parts_of d.tables + length def.firsts)) OverLimit d.row.at d.first outer.1).0 in
    let rises = above (is_some counted) (key_lt d.table.last (row_first_key d)) (is_none counted outer.1) outer.0 in
    let key : row_first_key d ≡ first_key def values = width_is d h.1 (key_values (key_kinds def) values) in
    let up : key_lt (last_of zeros (first_keys def)) (first_key def values) ≡ true = ap (λ k. key_lt k (first_key def values)) (sym h.2.last) ∙ ap (key_lt d.table.last) (sym key) ∙ rises in
    let keys : first_keys def ++ first_key def values ∷ [] ≡ map (first_key def) (def.firsts ++ values ∷ []) = sym (map-append (first_key def) def.firsts (values ∷ [])) in
    let longer = length-append def.firsts (values ∷ []) in
    let had = h.1.room.parts in (
      (
        h.0,
        record {
          short = h.1.short;
          room = record { new = h.1.room.new; few = h.1.room.few; parts = grind (arith, nat_tests, room, longer) };
          columns = h.1.columns;
          key = h.1.key;
          some = h.1.some;
          few_checks = h.1.few_checks;
          checks = all-weaker (IsExpr def OfTruth) (IsExpr (record def { firsts = def.firsts ++ values ∷ [] }) OfTruth) (same_predicate def (def.firsts ++ values ∷ [])) def.checks h.1.checks;
        },
        record {
          some = all-push (λ (first : List Value). 0 < length first) def.firsts values h.2.some some;
          leading = all-push (λ (first : List Value). are_leading (key_kinds def) first ≡ true) def.firsts values h.2.leading leading;
          rise = subst (λ (ks : List (List ℕ)). Rise (zeros ∷ ks)) keys (rise_more zeros (first_keys def) (first_key def values) h.2.rise up);
          last = key ∙ sym (last_is zeros (first_keys def) (first_key def values)) ∙ ap (last_of zeros) keys;
        },
      ),
      for,
    )

-- a table with all its parts may be kept
pub whole_table : (d : Draft) → Firsting d → Whole d
whole_table d h = (
  h.0,
  record {
    name = h.1.short;
    columns = h.1.columns.few;
    column_names = h.1.columns.names;
    names_differ = h.1.columns.differ;
    widths = h.1.columns.widths;
    row = h.1.columns.bytes;
    key = record { some = h.1.some; within = h.1.key.within; differ = h.1.key.differ };
    key_bytes = subst (λ n. n ≤ 32) h.1.key.counted h.1.key.bytes;
    few_checks = h.1.few_checks;
    checks = h.1.checks;
    firsts = record { some = h.2.some; leading = h.2.leading; rise = h.2.rise };
  },
  h.1.room,
)

-- without FIRST KEY, too
pub whole_without : (d : Draft) → Declared d → Whole d
whole_without d h =
    let def = d.table.def in
    let firsting = firsts_begin d h in
    whole_table (record d { table = record d.table { last = replicate d.table.key_width 0 } }) firsting.0
