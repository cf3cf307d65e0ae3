-- Expressions, as their words come: what is known of each operand.
use Rattle.std.specs.Prelude.{ℕ, pos, ◌+◌, ◌-◌, ◌^◌, min, max, List, [], ◌∷◌, ◌++◌, length, nat_lt, nat_le, Bool, true, false, not, ◌&&◌, ◌||◌, is_some, Option, Some, None, option_map, option_and_then, slice_get, if◌then◌else◌}
use Rattle.sql_base.specs.declared.expressions.Expr.{Expr}
use Rattle.sql_base.specs.declared.expressions.Expr.TheVariants as expr
use Rattle.sql_base.specs.declared.expressions.ArithOp.TheVariants.{Add, Sub, Mul, Div}
use Rattle.sql_base.specs.declared.expressions.CompareOp.TheVariants.{Eq, Ne, Lt, Le, Gt, Ge}
use Rattle.sql_base.specs.declared.tables.ColumnKind.{ColumnKind}
use Rattle.sql_base.specs.declared.tables.ColumnKind.TheVariants.{Int, Char}
use Rattle.sql_base.specs.declared.tables.Column.{Column}
use Rattle.statement_words.specs.declared.keywords.Keyword.TheVariants as keyword
use Rattle.statement_words.specs.declared.tokens.Sign.TheVariants as sign
use Rattle.statement_words.specs.declared.tokens.Word.{Word}
use Rattle.statement_words.specs.declared.tokens.Word.TheVariants as word
use Rattle.statement_grammar.specs.WordsAt.{is_key, is_sign}
use Rattle.statement_draft.specs.Faults.{noted, sooner}
use Rattle.statement_draft.specs.RowEvents.{negative}
use Rattle.statement_draft.specs.Names.{is_long, is_wide, column_named}
use Rattle.statement_draft.specs.declared.faults.Fault.{Fault}
use Rattle.statement_draft.specs.declared.faults.Reason.TheVariants.{NumberTooWide, UnknownName, WrongType, OverLimit}
use Rattle.statement_draft.specs.declared.kinds.Kind.{Kind}
use Rattle.statement_draft.specs.declared.kinds.Kind.TheVariants as kind
use Rattle.statement_draft.specs.declared.kinds.Operand.{Operand}
use Rattle.statement_draft.specs.declared.kinds.Op.{Op}
use Rattle.statement_draft.specs.declared.kinds.Op.TheVariants as op
use Rattle.statement_draft.specs.declared.kinds.Operator.{Operator}
use Rattle.statement_draft.specs.declared.kinds.Operator.TheVariants as operator
use Rattle.statement_draft.specs.declared.draft.Draft.{Draft}
use Rattle.statement_draft.specs.declared.draft.NewExpression.{NewExpression}
use Rattle.statement_draft.specs.declared.draft.Scope.{Scope}
use Rattle.statement_draft.specs.declared.draft.Scope.TheVariants as scope

-- one level deeper, counted up to 33
abbrev pub deeper : ℕ → ℕ → ℕ
deeper a b = min 32 (max a b) + 1

-- the bytes of a code, counted up to 8,193
abbrev pub bytes_up : ℕ → ℕ
bytes_up n = min 8193 n

-- the kinds that operators give; None where they are wrong
abbrev pub of_arith : Option Kind → Option Kind → Option Kind
of_arith (Some kind.Number) (Some kind.Number) = Some kind.Number
of_arith a b = None

abbrev pub of_compare : Option Kind → Option Kind → Option Kind
of_compare (Some kind.Number) (Some kind.Number) = Some kind.Truth
of_compare (Some (kind.Text m)) (Some (kind.Text n)) = Some kind.Truth
of_compare a b = None

abbrev pub of_truths : Option Kind → Option Kind → Option Kind
of_truths (Some kind.Truth) (Some kind.Truth) = Some kind.Truth
of_truths a b = None

abbrev pub op_kind : Op → Option Kind → Option Kind → Option Kind
op_kind (op.Arith o) a b = of_arith a b
op_kind (op.Compare o) a b = of_compare a b
op_kind op.And a b = of_truths a b
op_kind op.Or a b = of_truths a b

-- the bytes of an operator in a code
abbrev pub op_bytes : Op → ℕ
op_bytes (op.Arith o) = 1
op_bytes (op.Compare o) = 1
op_bytes op.And = 3
op_bytes op.Or = 3

abbrev pub op_tree : Op → Expr → Expr → Expr
op_tree (op.Arith o) a b = expr.Arith o a b
op_tree (op.Compare o) a b = expr.Compare o a b
op_tree op.And a b = expr.And a b
op_tree op.Or a b = expr.Or a b

-- the tree of an operator, unless it is deeper than 32
abbrev pub tree_up : Bool → Option Expr → Option Expr
tree_up deep tree = if deep then None else tree

abbrev pub binary : Op → Operand → Operand → Operand
binary o a b = record {
  kind = op_kind o a.kind b.kind;
  depth = deeper a.depth b.depth;
  code = bytes_up (a.code + b.code + op_bytes o);
  tree = tree_up (nat_le 32 (max a.depth b.depth)) (option_and_then (λ x. option_map (λ y. op_tree o x y) b.tree) a.tree);
}

abbrev pub negation : Operand → Operand
negation a = record {
  kind = of_truths a.kind a.kind;
  depth = deeper a.depth a.depth;
  code = bytes_up (a.code + 1);
  tree = tree_up (nat_le 32 a.depth) (option_map (λ x. expr.Not x) a.tree);
}

-- an operator is wrong where its operands are well typed and it isn't
abbrev pub is_wrong : Option Kind → Option Kind → Option Kind → Bool
is_wrong a b result = is_some a && is_some b && not (is_some result)

-- an operator between the two operands on top
abbrev pub joined : Op → ℕ → List Operand → NewExpression → NewExpression
joined o at [] e = e
joined o at (a ∷ []) e = e
joined o at (b ∷ a ∷ operands) e = let x = binary o a b in
    record e { operands = x ∷ operands; first = noted (is_wrong a.kind b.kind x.kind) WrongType at e.first }

-- NOT before the operand on top
abbrev pub turned : ℕ → List Operand → NewExpression → NewExpression
turned at [] e = e
turned at (a ∷ operands) e = let x = negation a in
    record e { operands = x ∷ operands; first = noted (is_wrong a.kind a.kind x.kind) WrongType at e.first }

abbrev pub applied : Operator → NewExpression → NewExpression
applied (operator.Not at) e = turned at e.operands e
applied (operator.Joins o at) e = joined o at e.operands e

-- the last operator, with its operands on top
abbrev pub operated : List Operator → NewExpression → NewExpression
operated [] e = e
operated (o ∷ operators) e = applied o (record e { operators = operators })

abbrev pub operator_ends : Draft → Draft
operator_ends d = record d { expression = operated d.expression.operators d.expression }

abbrev pub inside_ends : Draft → Draft
inside_ends d = record d { expression = record d.expression { inside = d.expression.inside - 1 } }

abbrev pub no_expression : ℕ → NewExpression
no_expression at = record { at = at; inside = 0; operands = []; operators = []; first = None }

-- the first word of a whole expression
abbrev pub expression_begins : ℕ → Draft → Draft
expression_begins at d = record d { expression = no_expression at }

abbrev pub with_operand : Operand → Draft → Draft
with_operand x d = record d { expression = record d.expression { operands = x ∷ d.expression.operands } }

-- a number has 9 bytes of code; one that is too wide has no tree
abbrev pub number_operand : ℕ → Operand
number_operand n = record {
  kind = Some kind.Number;
  depth = 1;
  code = 9;
  tree = if nat_lt n (2 ^ 63) then Some (expr.Number (pos n)) else None;
}

abbrev pub negative_operand : ℕ → Operand
negative_operand n = record { kind = Some kind.Number; depth = 1; code = 9; tree = Some (expr.Number (negative n)) }

abbrev pub text_operand : List ℕ → Operand
text_operand text = record {
  kind = Some (kind.Text (length text));
  depth = 1;
  code = 2 + min 8191 (length text);
  tree = Some (expr.Text text);
}

abbrev pub column_kind : ColumnKind → Kind
column_kind Int = kind.Number
column_kind (Char n) = kind.Text n

-- the columns that a name may be one of, unless the table is unknown
abbrev pub columns_in : Scope → Draft → Option (List Column)
columns_in scope.NewTable d = Some d.table.def.columns
columns_in (scope.Table t) d = option_map (λ table. table.columns) (slice_get d.tables t)
columns_in scope.Unknown d = None

-- a name has 2 bytes of code; one that is unknown has no kind and no tree
abbrev pub name_operand : List Column → Option ℕ → Operand
name_operand columns place = record {
  kind = option_map (λ column. column_kind column.kind) (option_and_then (slice_get columns) place);
  depth = 1;
  code = 2;
  tree = option_map expr.Column place;
}

-- a name among columns, and the first fault with its own; none is judged of an unknown table
abbrev pub found_name : Option (List Column) → List ℕ → ℕ → Option Fault → Operand × Option Fault
found_name None name at first = (name_operand [] None, first)
found_name (Some columns) name at first =
    (name_operand columns (column_named columns name), noted (not (is_some (column_named columns name))) UnknownName at first)

abbrev pub name_found : Operand × Option Fault → Draft → Draft
name_found found d = with_operand found.0 (record d { first = found.1 })

abbrev pub name_came : List ℕ → ℕ → Draft → Draft
name_came name at d = name_found (found_name (columns_in d.scope d) name at (noted (is_long name) OverLimit at d.first)) d

abbrev pub number_came : ℕ → ℕ → Draft → Draft
number_came n at d = with_operand (number_operand n) (record d { first = noted (is_wide n) NumberTooWide at d.first })

abbrev pub negative_came : ℕ → Draft → Draft
negative_came n d = with_operand (negative_operand n) d

abbrev pub with_operator : Operator → Draft → Draft
with_operator o d = record d { expression = record d.expression { operators = o ∷ d.expression.operators } }

-- the 65th `(` open at once is one too many
abbrev pub opened : ℕ → Draft → Draft
opened at d = record d {
  first = noted (nat_le 64 d.expression.inside) OverLimit at d.first;
  expression = record d.expression { inside = min 64 d.expression.inside + 1 };
}

-- NOT, `(`, or the `-` of a number
abbrev pub other_came : Word → ℕ → Draft → Draft
other_came w at d = if is_key w keyword.Not then with_operator (operator.Not at) d else (if is_sign w sign.Open then opened at d else d)

-- the first word of an operand
abbrev pub operand_came : Word → ℕ → Draft → Draft
operand_came (word.Number n) at d = number_came n at d
operand_came (word.Text text) at d = with_operand (text_operand text) d
operand_came (word.Name name) at d = name_came name at d
operand_came w at d = other_came w at d

-- what an operator's word stands for between operands
abbrev pub op_of : Word → Op
op_of w =
    if is_sign w sign.Plus then op.Arith Add
    else (if is_sign w sign.Minus then op.Arith Sub
    else (if is_sign w sign.Times then op.Arith Mul
    else (if is_sign w sign.Over then op.Arith Div
    else (if is_sign w sign.Equal then op.Compare Eq
    else (if is_sign w sign.Unequal then op.Compare Ne
    else (if is_sign w sign.Less then op.Compare Lt
    else (if is_sign w sign.AtMost then op.Compare Le
    else (if is_sign w sign.Greater then op.Compare Gt
    else (if is_sign w sign.AtLeast then op.Compare Ge
    else (if is_key w keyword.And then op.And
    else op.Or))))))))))

-- an operator's word between operands
abbrev pub joins : Word → ℕ → Draft → Draft
joins w at d = with_operator (operator.Joins (op_of w) at) d

-- nothing, of an expression that isn't there
abbrev pub no_operand : Operand
no_operand = record { kind = None; depth = 0; code = 0; tree = None }

abbrev pub top : List Operand → Operand
top [] = no_operand
top (x ∷ operands) = x

-- the whole expression
abbrev pub whole : NewExpression → Operand
whole e = top e.operands

-- the faults of a whole expression: of its operators, its depth and its code
abbrev pub expression_faults : Operand → ℕ → Option Fault → Option Fault → Option Fault
expression_faults x at of_operators first = noted (nat_lt 32 x.depth || nat_lt 8192 x.code) OverLimit at (sooner first of_operators)

abbrev pub expression_judged : Draft → Draft
expression_judged d = record d { first = expression_faults (whole d.expression) d.expression.at d.expression.first d.first }

-- CHECK and WHERE want a truth value
abbrev pub is_no_truth : Option Kind → Bool
is_no_truth (Some kind.Number) = true
is_no_truth (Some (kind.Text n)) = true
is_no_truth (Some kind.Truth) = false
is_no_truth None = false

abbrev pub predicate_judged : ℕ → Draft → Draft
predicate_judged at d = let e = expression_judged d in
    record e { first = noted (is_no_truth (whole d.expression).kind) WrongType at e.first }

abbrev pub listed : Option Expr → List Expr → List Expr
listed None checks = checks
listed (Some e) checks = checks ++ e ∷ []

abbrev pub check_ends : Draft → Draft
check_ends d = let e = predicate_judged d.table.check_at d in
    record e {
      table = record e.table { def = record e.table.def { checks = listed (whole d.expression).tree e.table.def.checks } };
      expression = no_expression 0;
    }

abbrev pub filter_ends : Draft → Draft
filter_ends d = let e = predicate_judged d.statement.where_at d in
    record e { statement = record e.statement { filter = (whole d.expression).tree }; expression = no_expression 0 }
