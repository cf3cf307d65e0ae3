-- Values of the table's kinds that have no key, and those that have.
use Rattle.std.proofs.Common.{◌≡◌, ◌<◌, ℕ, ◌+◌, suc, List, [], ◌∷◌, length, drop, get_or, Some, None, Option, true, refl, ap, sym, ◌∙◌}
use Rattle.std.specs.Prelude.{filter_map, slice_get}
use Rattle.std.specs.List.{cons_option}
use Rattle.std.specs.Option.{option_or}
use Rattle.std.proofs.lemmas.Bool.{and_parts}
use Rattle.std.proofs.lemmas.List.{drop_more}
use Rattle.sql_base.specs.KeyFaults.{has_kind, have_kinds, key_fault_at}
use Rattle.sql_base.specs.declared.keys.KeyFault.{KeyFault}
use Rattle.sql_base.specs.declared.tables.ColumnKind.{ColumnKind}
use Rattle.sql_base.specs.declared.tables.TableDef.{TableDef}
use Rattle.sql_base.specs.declared.values.Value.{Value}

-- as many values as kinds
pub have_kinds-length : (ks : List ColumnKind) (vs : List Value) → have_kinds ks vs ≡ true → length ks ≡ length vs
have_kinds-length [] [] h = refl
have_kinds-length [] (v ∷ vs) h = absurd (cc)
have_kinds-length (k ∷ ks) [] h = absurd (cc)
have_kinds-length (k ∷ ks) (v ∷ vs) h = ap suc (have_kinds-length ks vs (and_parts (has_kind k v) (have_kinds ks vs) h).1)

-- the first of some faults
abbrev pub first_of : List KeyFault → Option KeyFault
first_of faults = slice_get faults 0

first_more : (o : Option KeyFault) (faults : List KeyFault) → first_of (cons_option o faults) ≡ option_or o (first_of faults)
first_more None faults = refl
first_more (Some fault) faults = refl

-- the column at a place, and those behind it
pub first_at : (table : TableDef) (row : List Value) (places : List ℕ) (i column : ℕ) → i < length places → column ≡ get_or places i column
    → first_of (filter_map (key_fault_at table row) (drop i places)) ≡ option_or (key_fault_at table row column) (first_of (filter_map (key_fault_at table row) (drop (i + 1) places)))
first_at table row places i column within is =
    ap (λ ps. first_of (filter_map (key_fault_at table row) ps)) (drop_more places i column within ∙ ap (λ p. p ∷ drop (i + 1) places) (sym is))
    ∙ first_more (key_fault_at table row column) (filter_map (key_fault_at table row) (drop (i + 1) places))

pub or-some : (a b : Option KeyFault) (fault : KeyFault) → a ≡ Some fault → option_or a b ≡ Some fault
or-some a b fault e = ap (λ o. option_or o b) e

pub or-none : (a b : Option KeyFault) → a ≡ None → option_or a b ≡ b
or-none a b e = ap (λ o. option_or o b) e
