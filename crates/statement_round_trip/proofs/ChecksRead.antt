-- The CHECKs of a table are read as they are printed.
use Rattle.std.proofs.Common.{◌≡◌, ◌≤◌, ◌<◌, ℕ, suc, ◌+◌, List, [], ◌∷◌, ◌++◌, length, Bool, false, ◌||◌, Option, Some, None, refl, sym, ap, ◌∙◌, append_assoc, append-nil, arith}
use Rattle.std.proofs.lemmas.Bool.Decides.{nat_tests}
use Rattle.std.proofs.lemmas.List.{length-append}
use Rattle.std.specs.Prelude.{flat_map, nat_le, nat_lt}
use Rattle.std.specs.List.{AllByRecursion}
use Rattle.sql_base.specs.Kinds.{OfTruth, IsExpr}
use Rattle.sql_base.specs.Tables.{IsTable}
use Rattle.sql_base.specs.declared.expressions.Expr.{Expr}
use Rattle.sql_base.specs.declared.tables.TableDef.{TableDef}
use Rattle.statement_words.specs.declared.keywords.Keyword.TheVariants as keys
use Rattle.statement_words.specs.declared.tokens.Sign.TheVariants as signs
use Rattle.statement_words.specs.declared.tokens.Word.{Word}
use Rattle.statement_grammar.specs.Grammar.{behind, part}
use Rattle.statement_grammar.specs.Grammar as grammar
use Rattle.statement_grammar.specs.Machine.{advance}
use Rattle.statement_grammar.specs.declared.symbols.End.TheVariants as ends
use Rattle.statement_grammar.specs.declared.symbols.Part.TheVariants as parts
use Rattle.statement_grammar.specs.declared.symbols.Symbol.{Symbol}
use Rattle.statement_draft.specs.Expressions.{expression_begins, is_no_truth, listed, no_expression, with_operand}
use Rattle.statement_draft.specs.Faults.{noted, sooner}
use Rattle.statement_draft.specs.Judging.{all_ended, came, ended, read_from, word_read}
use Rattle.statement_draft.specs.TableEvents.{check_begins}
use Rattle.statement_draft.specs.declared.draft.Draft.{Draft}
use Rattle.statement_draft.specs.declared.draft.NewExpression.{NewExpression}
use Rattle.statement_draft.specs.declared.draft.NewTable.{NewTable}
use Rattle.statement_draft.specs.declared.draft.Scope.{Scope}
use Rattle.statement_draft.specs.declared.draft.Scope.TheVariants as scope
use Rattle.statement_draft.specs.declared.faults.Fault.{Fault}
use Rattle.statement_draft.specs.declared.faults.Reason.TheVariants.{OverLimit, WrongType}
use Rattle.statement_draft.specs.declared.kinds.Kind.{Kind}
use Rattle.statement_draft.specs.declared.kinds.Kind.TheVariants as kind
use Rattle.statement_draft.specs.declared.kinds.Operand.{Operand}
use Rattle.statement_printer.specs.Printing.{check_words, expr_words, key, sign}
use Rattle.statement_round_trip.specs.Onward.{ReadsOn}
use Rattle.statement_round_trip.specs.Rereading.{summary}
use Rattle.statement_round_trip.proofs.AssignsRead.{value_known, value_reads, Value}
use Rattle.statement_round_trip.proofs.ColumnsRead.{open_steps}
use Rattle.statement_round_trip.proofs.Ends.{expressions_end, sooner_alone}
use Rattle.statement_round_trip.proofs.Onward.{end_before, from, skip, spelled, step, StepsTo}
use Rattle.statement_round_trip.proofs.RowsRead.{close_steps}
use Rattle.statement_round_trip.proofs.Typed.{as_truth}

-- a table whose columns and key have been read
abbrev pub front_of : TableDef → List Expr → ℕ → List ℕ → ℕ → ℕ → ℕ → NewTable
front_of table checks at column column_at bytes key_bytes = record {
  def = record { name = table.name; columns = table.columns; key = table.key; checks = checks; firsts = [] };
  column = column;
  column_at = column_at;
  width = bytes;
  key_width = key_bytes;
  check_at = at;
  last = [];
}

abbrev pub checking : NewTable → Scope → NewExpression → Draft → Draft
checking table names e d = record d { table = table; scope = names; expression = e }

comma_steps : (s : List Symbol) (d : Draft) → StepsTo (part parts.MoreChecks ∷ s) d (sign signs.Comma) (part parts.Check ∷ part parts.MoreChecks ∷ s) (λ place. d)
unfolding read_from word_read advance all_ended came behind
comma_steps s d first end ts at = refl

-- behind CHECK
abbrev check_symbols : List Symbol → List Symbol
check_symbols s =
    grammar.sign signs.Open ∷ part parts.Expression ∷ part parts.AndRest ∷ part parts.OrRest ∷ grammar.ended ends.Check ∷ grammar.sign signs.Close ∷ s

check_steps : (s : List Symbol) (d : Draft) → StepsTo (part parts.Check ∷ s) d (key keys.Check) (check_symbols s) (λ place. check_begins place d)
unfolding read_from word_read advance all_ended came behind
check_steps s d first end ts at = refl

no_more : behind parts.MoreChecks (sign signs.Close) ≡ None
unfolding behind
no_more = refl

module _ (table : TableDef) (column : List ℕ) (column_at bytes key_bytes : ℕ) (d : Draft) where
  abbrev at_checks : List Expr → ℕ → Scope → NewExpression → Draft
  at_checks checks at names e = checking (front_of table checks at column column_at bytes key_bytes) names e d

  abbrev noted_check : List Expr → ℕ → NewExpression → Bool → Draft
  noted_check checks at e many = record (at_checks checks at scope.NewTable e) { first = noted many OverLimit at d.first }

  begins_is : (checks : List Expr) (at old : ℕ) (names : Scope) (e : NewExpression) → length checks < 8
      → check_begins at (at_checks checks old names e) ≡ at_checks checks at scope.NewTable e
  begins_is checks at old names e few =
      let room : nat_le 8 (length checks) ≡ false = grind (arith, nat_tests, few) in
      ap (noted_check checks at e) room

  abbrev ended_with : List Expr → ℕ → ℕ → Option Kind → Bool → Option Fault → Option Expr → Draft
  ended_with checks at place k over first tree = record (at_checks (listed tree checks) at scope.NewTable (no_expression 0)) {
    first = noted (is_no_truth k) WrongType at (noted over OverLimit place first);
  }

  check_is : (checks : List Expr) (at place : ℕ) (e : NewExpression) (x : Operand) (c : Expr) → Value table OfTruth c x
      → ended ends.Check (with_operand x (expression_begins place (at_checks checks at scope.NewTable e))) ≡ at_checks (checks ++ c ∷ []) at scope.NewTable (no_expression 0)
  unfolding ended
  check_is checks at place e x c known =
      let to = ended_with checks at place in
      let over = nat_lt 32 x.depth || nat_lt 8192 x.code in
      let first = sooner d.first None in
      ap (λ (k : Option Kind). to k over first x.tree) (as_truth x.kind known.typed)
      ∙ ap (λ (b : Bool). to (Some kind.Truth) b first x.tree) known.small
      ∙ ap (λ (f : Option Fault). to (Some kind.Truth) false f x.tree) (sooner_alone d.first)
      ∙ ap (to (Some kind.Truth) false d.first) known.tree

  one_longer : (checks : List Expr) (c : Expr) (rest : List Expr) → length checks + suc (length rest) ≤ 8 → length (checks ++ c ∷ []) + length rest ≤ 8
  one_longer checks c rest h = let long = length-append checks (c ∷ []) in omega (arith, long, h)

  -- the CHECKs that are left, and the `)` behind them
  pub checks_read : (rest before : List Expr) (at : ℕ) (names : Scope) (e : NewExpression) → IsTable table → AllByRecursion (IsExpr table OfTruth) rest
      → length before + length rest ≤ 8 → (s : List Symbol) (ws : List Word) (Last : Draft → Type 0)
      → ((at : ℕ) (names : Scope) (e : NewExpression) → ReadsOn s (at_checks (before ++ rest) at names e) ws Last)
      → ReadsOn (part parts.MoreChecks ∷ grammar.sign signs.Close ∷ s) (at_checks before at names e) (flat_map (check_words table.columns) rest ++ sign signs.Close ∷ ws) Last
  checks_read [] before at names e is all few s ws Last more =
      let d1 = at_checks before at names e in
      skip parts.MoreChecks _ d1 (sign signs.Close) ws Last refl no_more
      (step _ d1 _ _ Last _ _ (close_steps s d1) (λ i.
      from s _ _ ws Last (ap (λ (l : List Expr). at_checks l at names e) (sym (append-nil before))) (more at names e)))
  checks_read (c ∷ rest) before at names e is all few s ws Last more =
      let x = summary table.columns c in
      let behind = flat_map (check_words table.columns) rest ++ sign signs.Close ∷ ws in
      let d1 = at_checks before at names e in
      spelled _ d1 _ _ Last
      (ap (λ (l : List Word). sign signs.Comma ∷ key keys.Check ∷ sign signs.Open ∷ l)
      (append_assoc (expr_words table.columns c ++ sign signs.Close ∷ []) (flat_map (check_words table.columns) rest) (sign signs.Close ∷ ws)
      ∙ append_assoc (expr_words table.columns c) (sign signs.Close ∷ []) behind))
      (step _ d1 _ _ Last _ _ (comma_steps _ d1) (λ i.
      step _ d1 _ _ Last _ _ (check_steps _ d1) (λ j.
      let d2 = at_checks before j scope.NewTable e in
      from _ _ d2 _ Last (begins_is before j at names e (omega (arith, few)))
      (step _ d2 _ _ Last _ _ (open_steps _ d2) (λ k.
      value_reads table is OfTruth c all.0 _ d2 (sign signs.Close) behind Last refl expressions_end.close (λ q.
      end_before ends.Check _ (with_operand x (expression_begins q d2)) (sign signs.Close) behind Last
      (from _ _ (at_checks (before ++ c ∷ []) j scope.NewTable (no_expression 0)) _ Last (check_is before j q e x c (value_known table OfTruth c all.0))
      (step _ _ _ _ Last _ _ (close_steps _ (at_checks (before ++ c ∷ []) j scope.NewTable (no_expression 0))) (λ l.
      checks_read rest (before ++ c ∷ []) j scope.NewTable (no_expression 0) is all.1 (one_longer before c rest few) s ws Last (λ m n f.
      from s _ _ ws Last (ap (λ (l : List Expr). at_checks l m n f) (append_assoc before (c ∷ []) rest)) (more m n f)))))))))))
