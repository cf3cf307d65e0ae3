-- Worked rows of refusals: the first fault of a SET list.
use Rattle.std.proofs.Common.{◌≡◌, pos, [], ◌∷◌, Some, None, refl}
use Rattle.sql_base.specs.declared.expressions.Expr.{roll-Expr}
use Rattle.sql_base.specs.declared.expressions.Expr.TheOpen.{Number, Text}
use Rattle.sql_base.specs.declared.tables.ColumnKind.TheVariants.{Int, Char}
use Rattle.sql_base.specs.declared.tables.TableDef.{TableDef}
use Rattle.predicate_codes.proofs.Layers.{kind_layer}
use Rattle.update_expressions.specs.Refusing.{first_set_fault}
use Rattle.update_expressions.specs.declared.faults.SetFault.TheVariants.{UnknownColumn, KeyColumn, Twice, WrongType, TextTooLong}

-- t (k INT, v INT, c CHAR(2), PRIMARY KEY (k))
abbrev t : TableDef
t = record {
  name = 116 ∷ [];
  columns = record { name = 107 ∷ []; kind = Int } ∷ record { name = 118 ∷ []; kind = Int } ∷ record { name = 99 ∷ []; kind = Char 2 } ∷ [];
  key = 0 ∷ [];
  checks = [];
  firsts = [];
}

-- SET v = 1, c = 'A'
none : first_set_fault t (record { column = 1; value = roll-Expr (Number (pos 1)) } ∷ record { column = 2; value = roll-Expr (Text (65 ∷ [])) } ∷ []) ≡ None
none = rw (kind_layer t (Number (pos 1)), kind_layer t (Text (65 ∷ []))) refl

-- SET v = 1, v = 1
twice : first_set_fault t (record { column = 1; value = roll-Expr (Number (pos 1)) } ∷ record { column = 1; value = roll-Expr (Number (pos 1)) } ∷ []) ≡ Some (Twice 1)
twice = rw (kind_layer t (Number (pos 1))) refl

-- SET k = 1
key_column : first_set_fault t (record { column = 0; value = roll-Expr (Number (pos 1)) } ∷ []) ≡ Some (KeyColumn 0)
key_column = refl

-- a column that there isn't
unknown : first_set_fault t (record { column = 3; value = roll-Expr (Number (pos 1)) } ∷ []) ≡ Some (UnknownColumn 0)
unknown = refl

-- SET v = 'A'
wrong_type : first_set_fault t (record { column = 1; value = roll-Expr (Text (65 ∷ [])) } ∷ []) ≡ Some (WrongType 0)
wrong_type = rw (kind_layer t (Text (65 ∷ []))) refl

-- SET v = 1, c = 'ABC'
too_long : first_set_fault t (record { column = 1; value = roll-Expr (Number (pos 1)) } ∷ record { column = 2; value = roll-Expr (Text (65 ∷ 66 ∷ 67 ∷ [])) } ∷ []) ≡ Some (TextTooLong 1)
too_long = rw (kind_layer t (Number (pos 1)), kind_layer t (Text (65 ∷ 66 ∷ 67 ∷ []))) refl
