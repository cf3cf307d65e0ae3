-- INSERT is read as it is printed.
use Rattle.std.proofs.Common.{◌≡◌, ℕ, ◌+◌, min, List, [], ◌∷◌, ◌++◌, length, Bool, true, false, Option, Some, refl, ap, ◌∙◌, append_assoc}
use Rattle.std.specs.Prelude.{nat_eq, nat_le, not, option_and_then, option_map, slice_get}
use Rattle.sql_base.specs.Rows.{are_of_kinds, kinds}
use Rattle.sql_base.specs.declared.statements.Statement.TheVariants as statement
use Rattle.sql_base.specs.declared.tables.ColumnKind.{ColumnKind}
use Rattle.sql_base.specs.declared.tables.TableDef.{TableDef}
use Rattle.sql_base.specs.declared.values.Value.{Value}
use Rattle.statement_words.specs.declared.keywords.Keyword.TheVariants as keys
use Rattle.statement_words.specs.declared.tokens.Sign.TheVariants as signs
use Rattle.statement_words.specs.declared.tokens.Word.{Word}
use Rattle.statement_grammar.specs.Grammar.{part}
use Rattle.statement_grammar.specs.Grammar as grammar
use Rattle.statement_grammar.specs.Machine.{advance}
use Rattle.statement_grammar.specs.declared.symbols.End.TheVariants as ends
use Rattle.statement_grammar.specs.declared.symbols.NameRole.TheVariants as roles
use Rattle.statement_grammar.specs.declared.symbols.Part.{Part}
use Rattle.statement_grammar.specs.declared.symbols.Symbol.{Symbol}
use Rattle.statement_draft.specs.Faults.{noted}
use Rattle.statement_draft.specs.Judging.{all_ended, came, ended, read_from, word_read}
use Rattle.statement_draft.specs.StatementEvents.{insert_came}
use Rattle.statement_draft.specs.declared.draft.Draft.{Draft}
use Rattle.statement_draft.specs.declared.draft.RowOf.TheVariants as row_of
use Rattle.statement_draft.specs.declared.draft.Scope.TheVariants as scope
use Rattle.statement_draft.specs.declared.draft.StatementKind.TheVariants as statement_kinds
use Rattle.statement_draft.specs.declared.faults.Reason.TheVariants.{OverLimit, WrongType}
use Rattle.statement_printer.specs.Printing.{insert_words, in_parentheses, into_words, key, name, row_words, sign, value_words, with_commas, words_on}
use Rattle.statement_round_trip.specs.Onward.{ReadsOn}
use Rattle.statement_round_trip.proofs.Beginning.{begun, done, on_table, table_is, Begins}
use Rattle.statement_round_trip.proofs.LimitsRead.{semicolon_steps}
use Rattle.statement_round_trip.proofs.LocksRead.{Behind}
use Rattle.statement_round_trip.proofs.Onward.{end_before, from, spelled, step, StepsTo}
use Rattle.statement_round_trip.proofs.RowsFit.{all_fit, counts, insert_fills, prints_unpadded, some_value, unpadded}
use Rattle.statement_round_trip.proofs.RowsRead.{new_row, row_reads, rowed}
use Rattle.statement_round_trip.proofs.TableNames.{Declared}

into_steps : (s : List Symbol) (d : Draft) → StepsTo (grammar.key keys.Into ∷ s) d (key keys.Into) s (λ place. d)
unfolding read_from word_read advance all_ended came
into_steps s d first end ts at = refl

values_steps : (s : List Symbol) (d : Draft) → StepsTo (grammar.key keys.Values ∷ s) d (key keys.Values) s (λ place. d)
unfolding read_from word_read advance all_ended came
values_steps s d first end ts at = refl

table_steps : (n : List ℕ) (s : List Symbol) (d : Draft) → StepsTo (grammar.name roles.InsertTable ∷ s) d (name n) s (λ place. insert_came n place d)
unfolding read_from word_read advance all_ended came
table_steps n s d first end ts at = refl

abbrev for_insert : Draft → Option (List ColumnKind) → Draft
for_insert d ks = record d { row = record d.row { of = row_of.Insert; kinds = ks } }

abbrev of_row : TableDef → Draft → Draft
of_row table d = rowed row_of.Insert (kinds table) d.row.at d.row.minus d.row.values d

insert_is : (t : ℕ) (table : TableDef) (at : ℕ) (d : Draft) → Declared d.tables t table → slice_get d.tables t ≡ Some table
    → insert_came table.name at d ≡ of_row table (on_table t d)
insert_is t table at d is here =
    ap (λ (e : Draft). for_insert e (option_map kinds (option_and_then (slice_get e.tables) e.statement.table))) (table_is t table at d is)
    ∙ ap (λ (o : Option TableDef). for_insert (on_table t d) (option_map kinds o)) here

-- a record more
abbrev pub recorded : Draft → Draft
recorded d = record d { records = min 4000 d.records + 1 }

abbrev noted_record : Draft → Bool → Bool → Draft
noted_record d many other = record d {
  first = noted many OverLimit d.statement.at (noted other WrongType d.row.at d.first);
  records = min 4000 d.records + 1;
}

abbrev pub FewRecords : Draft → Type 0
FewRecords d = nat_le 4000 d.records ≡ false

row_ends : (ks : List ColumnKind) (at minus : ℕ) (vs : List Value) (d : Draft) → are_of_kinds ks vs ≡ true → FewRecords d
    → ended ends.InsertRow (rowed row_of.Insert ks at minus vs d) ≡ recorded (rowed row_of.Insert ks at minus vs d)
unfolding ended
row_ends ks at minus vs d fits few =
    ap (λ (b : Bool). noted_record (rowed row_of.Insert ks at minus vs d) b (not (nat_eq (length vs) (length ks)))) few
    ∙ ap (noted_record (rowed row_of.Insert ks at minus vs d) false) (counts ks vs fits)

insert_ends : (t : ℕ) (ks : List ColumnKind) (at minus : ℕ) (vs : List Value) (place : ℕ) (d : Draft)
    → ended ends.Statement (recorded (rowed row_of.Insert ks at minus vs (on_table t (begun statement_kinds.Insert place d))))
    ≡ done (statement.Insert t vs) (scope.Table t) d.expression (new_row row_of.Insert ks at minus vs) (recorded d)
unfolding ended
insert_ends t ks at minus vs place d = refl

-- INSERT INTO t VALUES ( .. ) ;
pub insert_reads : (p : Part) (d after : Draft) → Begins p d after → (t : ℕ) (table : TableDef) (row : List Value)
    → Declared after.tables t table → slice_get after.tables t ≡ Some table → are_of_kinds (kinds table) row ≡ true → FewRecords after
    → (s : List Symbol) (w : Word) (ws : List Word) (Last : Draft → Type 0) → Behind (statement.Insert t row) (recorded after) s w ws Last
    → ReadsOn (part p ∷ s) d (words_on (Some table) (statement.Insert t row) ++ w ∷ ws) Last
unfolding insert_words into_words row_words
insert_reads p d after begins t table [] is here fits few s w ws Last more = absurd (some_value table is.is.key fits)
insert_reads p d after begins t table (v ∷ vs) is here fits few s w ws Last more =
    step _ d _ _ Last _ _ (begins statement_kinds.Insert s) (λ a.
    let d1 = begun statement_kinds.Insert a after in
    step _ d1 _ _ Last _ _ (into_steps _ d1) (λ b.
    step _ d1 _ _ Last _ _ (table_steps table.name _ d1) (λ c.
    let d2 = on_table t d1 in
    from _ _ (of_row table d2) _ Last (insert_is t table c d1 is here)
    (step _ (of_row table d2) _ _ Last _ _ (values_steps _ (of_row table d2)) (λ i.
    spelled _ _ _ _ Last (append_assoc (in_parentheses (with_commas value_words (v ∷ vs))) (sign signs.Semicolon ∷ []) (w ∷ ws))
    (row_reads value_words unpadded prints_unpadded row_of.Insert (kinds table) d2.row.at d2.row.minus d2.row.values v vs d2
    (all_fit row_of.Insert insert_fills (kinds table) (v ∷ vs) fits) _ _ Last (λ at minus.
    let d3 = rowed row_of.Insert (kinds table) at minus (v ∷ vs) d2 in
    end_before ends.InsertRow _ d3 (sign signs.Semicolon) (w ∷ ws) Last
    (from _ _ (recorded d3) _ Last (row_ends (kinds table) at minus (v ∷ vs) d2 fits few)
    (step _ (recorded d3) _ _ Last _ _ (semicolon_steps _ (recorded d3)) (λ l.
    end_before ends.Statement _ (recorded d3) w ws Last
    (from _ _ _ (w ∷ ws) Last (insert_ends t (kinds table) at minus (v ∷ vs) a after) (more (scope.Table t) after.expression (new_row row_of.Insert (kinds table) at minus (v ∷ vs))))))))))))))
