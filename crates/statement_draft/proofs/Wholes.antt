-- What is known of all operands stays so, and a whole predicate without fault is one.
use Rattle.std.proofs.Common.{◌≡◌, ℕ, ◌+◌, ◌≤◌, List, [], ◌∷◌, length, ◌||◌, ap, ◌∙◌}
use Rattle.std.specs.Prelude.{option_map}
use Rattle.std.specs.List.{AllByRecursion}
use Rattle.sql_base.specs.Codes.{code_of}
use Rattle.sql_base.specs.Kinds.{depth_of}
use Rattle.sql_base.specs.declared.tables.TableDef.{TableDef}
use Rattle.statement_draft.specs.Describing.{meant, DescribesItsTree, OperandsKept, WholeIsPredicate}
use Rattle.statement_draft.specs.Expressions.{joined, turned}
use Rattle.statement_draft.specs.declared.draft.NewExpression.{NewExpression}
use Rattle.statement_draft.specs.declared.kinds.Op.{Op}
use Rattle.statement_draft.specs.declared.kinds.Operand.{Operand}
use Rattle.statement_draft.specs.declared.kinds.Operator.TheVariants as operator
use Rattle.statement_draft.proofs.Summaries.{binary_describes, negation_describes}
use Rattle.sql_base.proofs.Truths.{counted, or_left, or_right}

abbrev Known : TableDef → List Operand → Type 0
Known table xs = AllByRecursion (DescribesItsTree table) xs

turned_kept : (table : TableDef) (at : ℕ) (xs : List Operand) (e : NewExpression) → Known table xs → Known table e.operands → Known table (turned at xs e).operands
turned_kept table at [] e hx he = he
turned_kept table at (a ∷ xs) e hx he = (negation_describes table a hx.0, hx.1)

joined_kept : (table : TableDef) (o : Op) (at : ℕ) (xs : List Operand) (e : NewExpression) → Known table xs → Known table e.operands → Known table (joined o at xs e).operands
joined_kept table o at [] e hx he = he
joined_kept table o at (a ∷ []) e hx he = he
joined_kept table o at (b ∷ a ∷ xs) e hx he = (binary_describes table o a b hx.1.0 hx.0, hx.1.1)

pub operands_kept : OperandsKept
operands_kept table (operator.Not at) e h = turned_kept table at e.operands e h h
operands_kept table (operator.Joins o at) e h = joined_kept table o at e.operands e h h

pub whole_is_predicate : WholeIsPredicate
whole_is_predicate table x e h tree truth fits = let d = h e tree in record {
  typed = d.typed ∙ ap (option_map meant) truth;
  depth = counted 32 x.depth (depth_of e) d.depth (or_left _ _ fits);
  code = counted 8192 x.code (length (code_of e)) d.code (or_right _ _ fits);
}
