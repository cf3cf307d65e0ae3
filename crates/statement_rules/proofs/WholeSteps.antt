-- What a whole expression leaves: a predicate of its table, or a value.
use Rattle.std.proofs.Common.{◌≡◌, ◌≤◌, ◌<◌, ℕ, ◌||◌, ◌⊎◌, inl, inr, List, [], ◌∷◌, length, true, false, Option, Some, None, refl, sym, ap, subst, ◌∙◌, arith}
use Rattle.std.specs.Prelude.{nat_lt, nat_le, is_some}
use Rattle.std.specs.List.{AllByRecursion}
use Rattle.std.proofs.lemmas.Bool.Decides.{nat_tests}
use Rattle.std.proofs.lemmas.List.{length-append}
use Rattle.sql_base.specs.Kinds.{OfTruth, IsExpr}
use Rattle.sql_base.specs.declared.expressions.Expr.{Expr}
use Rattle.sql_base.specs.declared.tables.TableDef.{TableDef}
use Rattle.statement_draft.specs.Describing.{DescribesItsTree}
use Rattle.statement_draft.specs.Expressions.{top, whole, expression_begins, expression_judged, is_no_truth, predicate_judged, listed, check_ends}
use Rattle.statement_draft.specs.Faults.{sooner}
use Rattle.statement_draft.specs.TableEvents.{check_begins}
use Rattle.statement_draft.specs.declared.draft.Draft.{Draft}
use Rattle.statement_draft.specs.declared.draft.NewExpression.{NewExpression}
use Rattle.statement_draft.specs.declared.faults.Fault.{Fault}
use Rattle.statement_draft.specs.declared.faults.Reason.TheVariants.{WrongType, OverLimit}
use Rattle.statement_draft.specs.declared.kinds.Kind.{Kind}
use Rattle.statement_draft.specs.declared.kinds.Kind.TheVariants as kind
use Rattle.statement_draft.specs.declared.kinds.Operand.{Operand}
use Rattle.statement_draft.proofs.Clean.{noted-none, sooner-some}
use Rattle.statement_draft.proofs.Wholes.{whole_is_predicate}
use Rattle.statement_rules.proofs.ExpressionSteps.{Sound, Sees, sees_kept, OneMore, expression_of}
use Rattle.statement_rules.proofs.States.{Declares, Declared}
use Rattle.sql_base.proofs.ListFacts.{all-push, all-weaker}

-- a whole expression without fault
pub record Expressed (table : TableDef) (x : Operand) : Type 0 where
  pub describes : DescribesItsTree table x
  pub kind : is_some x.kind ≡ true
  pub small : nat_lt 32 x.depth || nat_lt 8192 x.code ≡ false
  pub tree : is_some x.tree ≡ true

-- a whole expression was read, from where its first word came
pub record Begun (d e : Draft) : Type 0 where
  pub place : ℕ
  pub read : OneMore (expression_begins place d) e

later_none : (f g : Option Fault) → sooner f g ≡ None → g ≡ None
later_none None g h = h
later_none (Some a) None h = refl
later_none (Some a) (Some b) h = absurd (sooner-some (Some a) b h)

not_deep : (d c : ℕ) → nat_lt 32 d || nat_lt 8192 c ≡ false → d ≡ 33 → ⊥
not_deep d c h e = absurd (grind (arith, nat_tests, h, e))

grown_tree : (x : Operand) → (is_some x.tree ≡ true) ⊎ (x.depth ≡ 33) → nat_lt 32 x.depth || nat_lt 8192 x.code ≡ false → is_some x.tree ≡ true
grown_tree x (inl h) small = h
grown_tree x (inr h) small = absurd (not_deep x.depth x.code small h)

-- the operand that a whole expression left
pub whole_is : (d e : Draft) (b : Begun d e) → whole e.expression ≡ b.read.top
whole_is d e b = ap (λ (x : NewExpression). top x.operands) (expression_of (expression_begins b.place d) e b.read.expression b.read.first b.read.same) ∙ ap top b.read.operands

pub expressed : (d e : Draft) (b : Begun d e) (table : TableDef) → Sees d table → (expression_judged e).first ≡ None → Expressed table (whole e.expression)
expressed d e b table sees clean =
    let x = whole e.expression in
    let begun = expression_begins b.place d in
    let outer = noted-none (nat_lt 32 x.depth || nat_lt 8192 x.code) OverLimit e.expression.at (sooner e.first e.expression.first) clean in
    let none : e.expression.first ≡ None = later_none e.first e.expression.first outer.1 in
    let is = expression_of begun e b.read.expression b.read.first b.read.same in
    let saw : Sees begun table = sees_kept d begun.expression d.first table sees in
    let typed = b.read.typed table saw (sym (ap (λ (y : NewExpression). y.first) is) ∙ none) in
    let same = sym (whole_is d e b) in
    let sound : Sound table x = subst (Sound table) same (b.read.sound table saw) in
    record {
      describes = sound.0;
      kind = subst (λ (y : Operand). is_some y.kind ≡ true) same typed.1;
      small = outer.0;
      tree = grown_tree x sound.1 outer.0;
    }

is_truth : (k : Option Kind) → is_some k ≡ true → is_no_truth k ≡ false → k ≡ Some kind.Truth
is_truth (Some kind.Truth) h e = refl
is_truth (Some kind.Number) h e = absurd (cc (e))
is_truth (Some (kind.Text n)) h e = absurd (cc (e))
is_truth None h e = absurd (cc (h))

-- a whole predicate without fault
pub predicate : (d e : Draft) (b : Begun d e) (table : TableDef) (at : ℕ) → Sees d table → (predicate_judged at e).first ≡ None
    → (tree : Expr) → (whole e.expression).tree ≡ Some tree → IsExpr table OfTruth tree
predicate d e b table at sees clean tree h =
    let outer = noted-none (is_no_truth (whole e.expression).kind) WrongType at (expression_judged e).first clean in
    let x = expressed d e b table sees outer.1 in
    whole_is_predicate table (whole e.expression) tree x.describes h (is_truth (whole e.expression).kind x.kind outer.0) x.small

-- ---- CHECK

all_listed : (P : Expr → Type 0) (t : Option Expr) (cs : List Expr) → AllByRecursion P cs → ((e : Expr) → t ≡ Some e → P e) → AllByRecursion P (listed t cs)
all_listed P None cs h f = h
all_listed P (Some e) cs h f = all-push P cs e h (f e refl)

few_listed : (t : Option Expr) (cs : List Expr) → length cs < 8 → length (listed t cs) ≤ 8
few_listed None cs h = omega (arith, h)
few_listed (Some e) cs h = let longer = length-append cs (e ∷ []) in omega (arith, h, longer)

same_check : (def : TableDef) (checks : List Expr) (e : Expr) → IsExpr def OfTruth e → IsExpr (record def { checks = checks }) OfTruth e
same_check def checks e h = record { typed = h.typed; depth = h.depth; code = h.code }

-- room for another CHECK, whose names are columns of the table
pub room_for_check : (at : ℕ) (d : Draft) → (check_begins at d).first ≡ None → length d.table.def.checks < 8
room_for_check at d h = let no = (noted-none (nat_le 8 (length d.table.def.checks)) OverLimit at d.first h).0 in grind (arith, nat_tests, no)

with_checks : (tables : List TableDef) (def : TableDef) (row_bytes key_bytes : ℕ) (checks : List Expr) → Declares tables def row_bytes key_bytes → length checks ≤ 8
    → AllByRecursion (IsExpr def OfTruth) checks → Declares tables (record def { checks = checks }) row_bytes key_bytes
with_checks tables def row_bytes key_bytes checks h few all = record {
  short = h.short;
  room = h.room;
  columns = h.columns;
  key = h.key;
  some = h.some;
  few_checks = few;
  checks = all-weaker (IsExpr def OfTruth) (IsExpr (record def { checks = checks }) OfTruth) (same_check def checks) checks all;
}

-- what was known before the words of an expression is still so
pub still : (P : Draft → Type 0) (d e : Draft) → ((x : NewExpression) (f : Option Fault) → P (record d { expression = x; first = f })) → Begun d e → P e
still P d e p b = subst P (sym b.read.same) (p b.read.expression b.read.first)

check_of : (d1 e : Draft) → Declared e → length e.table.def.checks < 8 → Begun d1 e → Sees d1 e.table.def → (check_ends e).first ≡ None → Declared (check_ends e)
check_of d1 e h few b sees clean =
    let t = (whole e.expression).tree in (
      h.0,
      with_checks e.tables e.table.def e.table.width e.table.key_width (listed t e.table.def.checks) h.1 (few_listed t e.table.def.checks few)
          (all_listed (IsExpr e.table.def OfTruth) t e.table.def.checks h.1.checks (λ tree is. predicate d1 e b e.table.def e.table.check_at sees clean tree is)),
      h.2,
    )

pub check_step : (at : ℕ) (d e : Draft) → Declared d → (check_begins at d).first ≡ None → Begun (check_begins at d) e → (check_ends e).first ≡ None → Declared (check_ends e)
check_step at d e h begins b clean =
    let d1 = check_begins at d in
    let P : Draft → Type 0 = λ x. Declared x × (length x.table.def.checks < 8) × Sees d1 x.table.def in
    let known : P e = still P d1 e (λ x f. (h, room_for_check at d begins, refl)) b in
    check_of d1 e known.0 known.1 b known.2 clean
