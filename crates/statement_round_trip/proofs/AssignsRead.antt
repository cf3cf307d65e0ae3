-- An assignment of a SET list is read as it is printed.
use Rattle.std.proofs.Common.{◌≡◌, ◌≤◌, ℕ, ◌+◌, min, List, [], ◌∷◌, ◌++◌, length, Bool, false, ◌||◌, Option, Some, None, cond, refl, sym, ap, subst, ◌∙◌, arith}
use Rattle.std.proofs.lemmas.Bool.Decides.{nat_tests}
use Rattle.std.proofs.lemmas.Option.{slice_get-map}
use Rattle.std.specs.Prelude.{nat_eq, nat_lt, option_and_then, option_map, slice_get}
use Rattle.std.specs.List.{list_any}
use Rattle.sql_base.specs.Codes.{code_of}
use Rattle.sql_base.specs.Kinds as base
use Rattle.sql_base.specs.Kinds.{IsExpr}
use Rattle.sql_base.specs.Rows.{kinds}
use Rattle.sql_base.specs.Tables.{IsAssign, IsTable, Stores}
use Rattle.sql_base.specs.declared.expressions.Expr.{Expr}
use Rattle.sql_base.specs.declared.statements.Assign.{Assign}
use Rattle.sql_base.specs.declared.tables.Column.{Column}
use Rattle.sql_base.specs.declared.tables.ColumnKind.{ColumnKind}
use Rattle.sql_base.specs.declared.tables.ColumnKind.TheVariants.{Int, Char}
use Rattle.sql_base.specs.declared.tables.TableDef.{TableDef}
use Rattle.statement_words.specs.declared.tokens.Sign.TheVariants as signs
use Rattle.statement_words.specs.declared.tokens.Word.{Word}
use Rattle.statement_grammar.specs.Grammar.{part}
use Rattle.statement_grammar.specs.Grammar as grammar
use Rattle.statement_grammar.specs.Machine.{advance}
use Rattle.statement_grammar.specs.declared.symbols.End.TheVariants as ends
use Rattle.statement_grammar.specs.declared.symbols.NameRole.TheVariants as roles
use Rattle.statement_grammar.specs.declared.symbols.Part.TheVariants as parts
use Rattle.statement_grammar.specs.declared.symbols.Symbol.{Symbol}
use Rattle.statement_draft.specs.Describing.{meant}
use Rattle.statement_draft.specs.Expressions.{bytes_up, columns_in, expression_begins, no_expression, with_operand}
use Rattle.statement_draft.specs.Faults.{noted, noted_as, sooner}
use Rattle.statement_draft.specs.Judging.{all_ended, came, ended, read_from, word_read}
use Rattle.statement_draft.specs.Names.{column_named, is_long}
use Rattle.statement_draft.specs.StatementEvents.{with_assign, set_came, set_fault, set_found, column_set, set_named}
use Rattle.statement_draft.specs.declared.draft.Draft.{Draft}
use Rattle.statement_draft.specs.declared.draft.NewExpression.{NewExpression}
use Rattle.statement_draft.specs.declared.faults.Fault.{Fault}
use Rattle.statement_draft.specs.declared.faults.Reason.{Reason}
use Rattle.statement_draft.specs.declared.faults.Reason.TheVariants.{OverLimit, Repeated, TextTooLong, WrongType}
use Rattle.statement_draft.specs.declared.kinds.Kind.{Kind}
use Rattle.statement_draft.specs.declared.kinds.Operand.{Operand}
use Rattle.statement_printer.specs.Printing.{expr_words, name, name_word, set_words, sign}
use Rattle.statement_round_trip.specs.Onward.{ReadsOn}
use Rattle.statement_round_trip.specs.Rereading.{summary, EndsExpression}
use Rattle.statement_round_trip.proofs.Beginning.{on_table}
use Rattle.statement_round_trip.proofs.Described.{small, summary_describes}
use Rattle.statement_round_trip.proofs.Ends.{is_there, sooner_alone}
use Rattle.statement_round_trip.proofs.Leaves.{typed_leaves}
use Rattle.statement_round_trip.proofs.Naming.{columns_named}
use Rattle.statement_round_trip.proofs.Onward.{end_before, from, spelled, step, through, StepsTo}
use Rattle.statement_round_trip.proofs.Summaries.{summaries_tell}
use Rattle.statement_round_trip.proofs.Typed.{as_number, as_text, typed_for_reader}
use Rattle.statement_round_trip.proofs.Wholes.{wholes_read_back}

-- what the reader knows of a value
pub record Value (table : TableDef) (k : base.Kind) (e : Expr) (x : Operand) : Type 0 where
  pub tree : x.tree ≡ Some e
  pub typed : option_map meant x.kind ≡ Some k
  pub small : nat_lt 32 x.depth || nat_lt 8192 x.code ≡ false
  pub code : x.code ≡ min 8193 (length (code_of e))

pub value_known : (table : TableDef) (k : base.Kind) (e : Expr) → IsExpr table k e → Value table k e (summary table.columns e)
value_known table k e is =
    let tree = summaries_tell table.columns e (typed_leaves table e k is.typed) is.depth in
    let described = summary_describes table e k is.typed in
    record {
      tree = tree;
      typed = typed_for_reader table e k is.typed;
      small = small table e (summary table.columns e) k is described tree;
      code = (described e tree).code;
    }

pub value_reads : (table : TableDef) → IsTable table → (k : base.Kind) (e : Expr) → IsExpr table k e → (s : List Symbol) (d : Draft) (v : Word) (ws : List Word) (Last : Draft → Type 0)
    → columns_in d.scope d ≡ Some table.columns → EndsExpression v
    → ((place : ℕ) → ReadsOn s (with_operand (summary table.columns e) (expression_begins place d)) (v ∷ ws) Last)
    → ReadsOn (part parts.Expression ∷ part parts.AndRest ∷ part parts.OrRest ∷ s) d (expr_words table.columns e ++ v ∷ ws) Last
value_reads table declared k e is s d v ws Last scope ends_it more =
    through _ s d (expr_words table.columns e) v ws Last (λ place. with_operand (summary table.columns e) (expression_begins place d))
    (λ tokens t ts at h word. wholes_read_back table.columns (columns_named table declared) e (typed_leaves table e k is.typed)
    (is_there k (summary table.columns e).kind (typed_for_reader table e k is.typed)) (omega (arith, is.depth)) s d tokens t ts at scope (subst EndsExpression (sym word) ends_it) h)
    more

-- a SET list that is being read
abbrev pub setting : ℕ → Option ℕ → ℕ → List ℕ → List Assign → ℕ → NewExpression → Draft → Draft
setting at column place columns sets code e d = record d {
  statement = record d.statement { sets_at = at; column = column; column_at = place; columns = columns; sets = sets; code = code };
  expression = e;
}

name_steps : (n : List ℕ) (s : List Symbol) (d : Draft) → StepsTo (grammar.name roles.SetColumn ∷ s) d (name n) s (λ place. set_came n place d)
unfolding read_from word_read advance all_ended came
name_steps n s d first end ts at = refl

equal_steps : (s : List Symbol) (d : Draft) → StepsTo (grammar.sign signs.Equal ∷ s) d (sign signs.Equal) s (λ place. d)
unfolding read_from word_read advance all_ended came
equal_steps s d first end ts at = refl

set_is : (t : ℕ) (table : TableDef) (c : ℕ) (n : List ℕ) (at p : ℕ) (column : Option ℕ) (place : ℕ) (before : List ℕ) (sets : List Assign) (code : ℕ) (e : NewExpression) (d : Draft)
    → slice_get d.tables t ≡ Some table → column_named table.columns n ≡ Some c → is_long n ≡ false → list_any (nat_eq c) table.key ≡ false → list_any (nat_eq c) before ≡ false
    → set_came n p (setting at column place before sets code e (on_table t d)) ≡ setting at (Some c) p (before ++ c ∷ []) sets code e (on_table t d)
set_is t table c n at p column place before sets code e d here named short no_key new =
    let d1 = setting at column place before sets code e (on_table t d) in
    ap (λ (long : Bool). set_named (column_set (option_and_then (slice_get d.tables) (Some t)) n p before (noted long OverLimit p d.first)) p d1) short
    ∙ ap (λ (o : Option TableDef). set_named (column_set o n p before d.first) p d1) here
    ∙ ap (λ (o : Option ℕ). set_named (set_found table o p before d.first) p d1) named
    ∙ ap (λ (b : Bool). set_named (Some c, noted b WrongType p (noted (list_any (nat_eq c) before) Repeated p d.first)) p d1) no_key
    ∙ ap (λ (b : Bool). set_named (Some c, noted b Repeated p d.first) p d1) new

no_longer : (w m : ℕ) → m ≤ w → cond (nat_lt w m) (Some TextTooLong) None ≡ None
no_longer w m h =
    let test : nat_lt w m ≡ false = grind (arith, nat_tests, h) in
    ap (λ (b : Bool). cond b (Some TextTooLong) None) test

stores : (column : ColumnKind) (k : base.Kind) (x : Option Kind) → Stores column k → option_map meant x ≡ Some k → set_fault (Some column) x ≡ None
stores Int base.OfNumber x h typed = ap (set_fault (Some Int)) (as_number x typed)
stores Int (base.OfText m) x h typed = absurd h
stores Int base.OfTruth x h typed = absurd h
stores (Char w) base.OfNumber x h typed = absurd h
stores (Char w) (base.OfText m) x h typed = ap (set_fault (Some (Char w))) (as_text x m typed) ∙ no_longer w m h
stores (Char w) base.OfTruth x h typed = absurd h

abbrev one_set : ℕ → Expr → Assign
one_set c e = record { column = c; value = e }

abbrev ended_with : ℕ → ℕ → ℕ → ℕ → List ℕ → List Assign → ℕ → Draft → Option Reason → Bool → Option Fault → Option Expr → Draft
ended_with at c p q columns sets code d fault deep first tree = record (setting at (Some c) p columns (with_assign (Some c) tree sets) code (no_expression 0) d) {
  first = noted_as fault p (noted deep OverLimit q first);
}

abbrev kind_at : ℕ → Option TableDef → Option ColumnKind
kind_at c table = option_and_then (λ (table : TableDef). option_map (λ (column : Column). column.kind) (slice_get table.columns c)) table

assign_is : (t : ℕ) (table : TableDef) (c : ℕ) (v : Expr) (column : ColumnKind) (k : base.Kind) (x : Operand) (at p q : ℕ) (columns : List ℕ) (sets : List Assign) (code : ℕ) (e : NewExpression) (d : Draft)
    → slice_get d.tables t ≡ Some table → slice_get (kinds table) c ≡ Some column → Stores column k → Value table k v x
    → ended ends.Assign (with_operand x (expression_begins q (setting at (Some c) p columns sets code e (on_table t d))))
    ≡ setting at (Some c) p columns (sets ++ one_set c v ∷ []) (bytes_up (code + 3 + x.code)) (no_expression 0) (on_table t d)
unfolding ended
assign_is t table c v column k x at p q columns sets code e d here found fits known =
    let to = ended_with at c p q columns sets (bytes_up (code + 3 + x.code)) (on_table t d) in
    let deep = nat_lt 32 x.depth || nat_lt 8192 x.code in
    let first = sooner d.first None in
    ap (λ (o : Option TableDef). to (set_fault (kind_at c o) x.kind) deep first x.tree) here
    ∙ ap (λ (o : Option ColumnKind). to (set_fault o x.kind) deep first x.tree) (sym (slice_get-map (λ (column : Column). column.kind) table.columns c) ∙ found)
    ∙ ap (λ (f : Option Reason). to f deep first x.tree) (stores column k x.kind fits known.typed)
    ∙ ap (λ (b : Bool). to None b first x.tree) known.small
    ∙ ap (λ (f : Option Fault). to None false f x.tree) (sooner_alone d.first)
    ∙ ap (λ (o : Option Expr). to None false d.first o) known.tree

-- what must come for an assignment
abbrev pub set_symbols : List Symbol → List Symbol
set_symbols s = grammar.name roles.SetColumn ∷ grammar.sign signs.Equal ∷ part parts.Expression ∷ part parts.AndRest ∷ part parts.OrRest ∷ grammar.ended ends.Assign ∷ s

-- k = .. , and a word behind it
pub assign_reads : (t : ℕ) (table : TableDef) → IsTable table → (set : Assign) → IsAssign table set
    → (at : ℕ) (column : Option ℕ) (place : ℕ) (before : List ℕ) (sets : List Assign) (code : ℕ) (e : NewExpression) (d : Draft)
    → slice_get d.tables t ≡ Some table → (named : Column) → slice_get table.columns set.column ≡ Some named → list_any (nat_eq set.column) before ≡ false
    → (s : List Symbol) (v : Word) (ws : List Word) (Last : Draft → Type 0) → EndsExpression v
    → ((p bytes : ℕ) → bytes ≡ min 8193 (length (code_of set.value))
    → ReadsOn s (setting at (Some set.column) p (before ++ set.column ∷ []) (sets ++ set ∷ []) (bytes_up (code + 3 + bytes)) (no_expression 0) (on_table t d)) (v ∷ ws) Last)
    → ReadsOn (set_symbols s) (setting at column place before sets code e (on_table t d)) (set_words table.columns set ++ v ∷ ws) Last
assign_reads t table declared set is at column place before sets code e d here named found new s v ws Last ends_it more =
    let d1 = setting at column place before sets code e (on_table t d) in
    let names = columns_named table declared set.column named found in
    let known = value_known table is.1 set.value is.5 in
    let x = summary table.columns set.value in
    spelled _ d1 _ _ Last (ap (λ (o : Option Column). name_word o ∷ sign signs.Equal ∷ (expr_words table.columns set.value ++ v ∷ ws)) found)
    (step _ d1 _ _ Last _ _ (name_steps named.name _ d1) (λ p.
    let d2 = setting at (Some set.column) p (before ++ set.column ∷ []) sets code e (on_table t d) in
    from _ _ d2 _ Last (set_is t table set.column named.name at p column place before sets code e d here names.0 names.1 is.3 new)
    (step _ d2 _ _ Last _ _ (equal_steps _ d2) (λ i.
    value_reads table declared is.1 set.value is.5 _ d2 v ws Last (ap (option_map (λ table. table.columns)) here) ends_it (λ q.
    end_before ends.Assign s (with_operand x (expression_begins q d2)) v ws Last
    (from _ _ _ _ Last (assign_is t table set.column set.value is.0 is.1 x at p q (before ++ set.column ∷ []) sets code e d here is.2 is.4 known)
    (more p x.code known.code)))))))
