-- How a statement begins, and what is left where it has been read.
use Rattle.std.proofs.Common.{◌≡◌, ℕ, ◌+◌, ◌*◌, min, List, [], ◌∷◌, ◌++◌, Bool, false, Option, Some, refl, ap, ◌∙◌}
use Rattle.std.specs.Prelude.{nat_lt}
use Rattle.sql_base.specs.declared.statements.Statement.{Statement}
use Rattle.sql_base.specs.declared.tables.TableDef.{TableDef}
use Rattle.statement_words.specs.declared.keywords.Keyword.{Keyword}
use Rattle.statement_words.specs.declared.keywords.Keyword.TheVariants as keys
use Rattle.statement_words.specs.declared.tokens.Sign.TheVariants as signs
use Rattle.statement_grammar.specs.Grammar.{behind, part}
use Rattle.statement_grammar.specs.Grammar as grammar
use Rattle.statement_grammar.specs.Machine.{advance}
use Rattle.statement_grammar.specs.declared.symbols.End.TheVariants as ends
use Rattle.statement_grammar.specs.declared.symbols.NameRole.TheVariants as names
use Rattle.statement_grammar.specs.declared.symbols.Part.{Part}
use Rattle.statement_grammar.specs.declared.symbols.Part.TheVariants as parts
use Rattle.statement_grammar.specs.declared.symbols.Symbol.{Symbol}
use Rattle.statement_draft.specs.Faults.{noted}
use Rattle.statement_draft.specs.Judging.{all_ended, came, read_from, word_read}
use Rattle.statement_draft.specs.Names.{is_long}
use Rattle.statement_draft.specs.StatementEvents.{no_statement, table_came, table_found, times}
use Rattle.statement_draft.specs.declared.draft.Draft.{Draft}
use Rattle.statement_draft.specs.declared.draft.NewExpression.{NewExpression}
use Rattle.statement_draft.specs.declared.draft.NewRow.{NewRow}
use Rattle.statement_draft.specs.declared.draft.Scope.{Scope}
use Rattle.statement_draft.specs.declared.draft.Scope.TheVariants as scope
use Rattle.statement_draft.specs.declared.draft.StatementKind.{StatementKind}
use Rattle.statement_draft.specs.declared.draft.StatementKind.TheVariants as kinds
use Rattle.statement_draft.specs.declared.faults.Reason.TheVariants.{OverLimit}
use Rattle.statement_printer.specs.Printing.{key, name}
use Rattle.statement_round_trip.proofs.Onward.{StepsTo}
use Rattle.statement_round_trip.proofs.TableNames.{Declared}

-- behind a statement
abbrev pub behind_statement : List Symbol → List Symbol
behind_statement s = grammar.sign signs.Semicolon ∷ grammar.ended ends.Statement ∷ part parts.MoreStatements ∷ s

abbrev pub access_symbols : Part → List Symbol → List Symbol
access_symbols p s = part parts.Where ∷ grammar.key keys.For ∷ part p ∷ grammar.key keys.Access ∷ behind_statement s

-- what must come behind the first word of a statement
abbrev pub symbols_of : StatementKind → List Symbol → List Symbol
symbols_of kinds.Select s = part parts.Selected ∷ grammar.key keys.From ∷ grammar.name names.SelectTable ∷ access_symbols parts.ReadAccess s
symbols_of kinds.Update s = grammar.name names.OtherTable ∷ part parts.Sets ∷ grammar.ended ends.Sets ∷ access_symbols parts.ChangeAccess s
symbols_of kinds.Delete s = grammar.key keys.From ∷ grammar.name names.OtherTable ∷ access_symbols parts.ChangeAccess s
symbols_of kinds.Insert s =
    grammar.key keys.Into ∷ grammar.name names.InsertTable ∷ grammar.key keys.Values ∷ part parts.Row ∷ grammar.ended ends.InsertRow ∷ behind_statement s
symbols_of kinds.Lock s =
    grammar.key keys.Table ∷ grammar.name names.OtherTable ∷ grammar.key keys.In ∷ part parts.LockMode ∷ grammar.key keys.Mode ∷ behind_statement s

abbrev pub key_of : StatementKind → Keyword
key_of kinds.Select = keys.Select
key_of kinds.Update = keys.Update
key_of kinds.Delete = keys.Delete
key_of kinds.Insert = keys.Insert
key_of kinds.Lock = keys.Lock

-- where a statement has begun
abbrev pub begun : StatementKind → ℕ → Draft → Draft
begun kind place d = record d { statement = no_statement kind place }

-- a statement begins in this part, and makes one draft of another
abbrev pub Begins : Part → Draft → Draft → Type 0
Begins p d after = (kind : StatementKind) (s : List Symbol) → StepsTo (part p ∷ s) d (key (key_of kind)) (symbols_of kind s) (λ place. begun kind place after)

-- a statement of a work, counted
abbrev pub counted : Draft → Draft
counted d = record d { statements = min 500 d.statements + 1 }

-- the first of a work, counted with it
abbrev pub work_counted : Draft → Draft
work_counted d = record d { works = min 1000 d.works + 1; work = []; statements = min 500 d.statements + 1 }

abbrev pub FewStatements : Draft → Type 0
FewStatements d = nat_lt 500 ((min 500 d.statements + 1) * times d) ≡ false

abbrev pub FewWorks : Draft → Type 0
FewWorks d = nat_lt 1000 ((min 1000 d.works + 1) * times d) ≡ false

abbrev noted_statement : Draft → StatementKind → ℕ → Bool → Draft
noted_statement d kind place over = record (begun kind place (counted d)) { first = noted over OverLimit place d.first }

more_steps : (kind : StatementKind) (s : List Symbol) (d : Draft)
    → StepsTo (part parts.MoreStatements ∷ s) d (key (key_of kind)) (symbols_of kind s) (λ place. noted_statement d kind place (nat_lt 500 ((min 500 d.statements + 1) * times d)))
unfolding read_from word_read advance all_ended came behind
more_steps kinds.Select s d first end ts at = refl
more_steps kinds.Update s d first end ts at = refl
more_steps kinds.Delete s d first end ts at = refl
more_steps kinds.Insert s d first end ts at = refl
more_steps kinds.Lock s d first end ts at = refl

pub more_begin : (d : Draft) → FewStatements d → Begins parts.MoreStatements d (counted d)
more_begin d few kind s first end ts at =
    more_steps kind s d first end ts at ∙ ap (λ (over : Bool). read_from (symbols_of kind s) (noted_statement d kind first over) ts at) few

abbrev noted_work : Draft → StatementKind → ℕ → Bool → Bool → Draft
noted_work d kind place over_works over = record (begun kind place (work_counted d)) { first = noted over OverLimit place (noted over_works OverLimit place d.first) }

work_steps : (kind : StatementKind) (s : List Symbol) (d : Draft)
    → StepsTo (part parts.Work ∷ s) d (key (key_of kind)) (symbols_of kind s)
    (λ place. noted_work d kind place (nat_lt 1000 ((min 1000 d.works + 1) * times d)) (nat_lt 500 ((min 500 d.statements + 1) * times d)))
unfolding read_from word_read advance all_ended came behind
work_steps kinds.Select s d first end ts at = refl
work_steps kinds.Update s d first end ts at = refl
work_steps kinds.Delete s d first end ts at = refl
work_steps kinds.Insert s d first end ts at = refl
work_steps kinds.Lock s d first end ts at = refl

more_works_steps : (kind : StatementKind) (s : List Symbol) (d : Draft)
    → StepsTo (part parts.MoreWorks ∷ s) d (key (key_of kind)) (symbols_of kind s)
    (λ place. noted_work d kind place (nat_lt 1000 ((min 1000 d.works + 1) * times d)) (nat_lt 500 ((min 500 d.statements + 1) * times d)))
unfolding read_from word_read advance all_ended came behind
more_works_steps kinds.Select s d first end ts at = refl
more_works_steps kinds.Update s d first end ts at = refl
more_works_steps kinds.Delete s d first end ts at = refl
more_works_steps kinds.Insert s d first end ts at = refl
more_works_steps kinds.Lock s d first end ts at = refl

pub work_begin : (d : Draft) → FewWorks d → FewStatements d → Begins parts.Work d (work_counted d)
work_begin d works few kind s first end ts at =
    work_steps kind s d first end ts at
    ∙ ap (λ (over : Bool). read_from (symbols_of kind s) (noted_work d kind first over (nat_lt 500 ((min 500 d.statements + 1) * times d))) ts at) works
    ∙ ap (λ (over : Bool). read_from (symbols_of kind s) (noted_work d kind first false over) ts at) few

pub more_works_begin : (d : Draft) → FewWorks d → FewStatements d → Begins parts.MoreWorks d (work_counted d)
more_works_begin d works few kind s first end ts at =
    more_works_steps kind s d first end ts at
    ∙ ap (λ (over : Bool). read_from (symbols_of kind s) (noted_work d kind first over (nat_lt 500 ((min 500 d.statements + 1) * times d))) ts at) works
    ∙ ap (λ (over : Bool). read_from (symbols_of kind s) (noted_work d kind first false over) ts at) few

-- the table of a statement is known
abbrev pub on_table : ℕ → Draft → Draft
on_table t d = record d { scope = scope.Table t; statement = record d.statement { table = Some t } }

pub table_is : (t : ℕ) (table : TableDef) (at : ℕ) (d : Draft) → Declared d.tables t table → table_came table.name at d ≡ on_table t d
table_is t table at d is =
    ap (λ (found : Option ℕ). table_found found at (record d { first = noted (is_long table.name) OverLimit at d.first })) is.named
    ∙ ap (λ (long : Bool). table_found (Some t) at (record d { first = noted long OverLimit at d.first })) is.short

other_steps : (n : List ℕ) (s : List Symbol) (d : Draft) → StepsTo (grammar.name names.OtherTable ∷ s) d (name n) s (λ place. table_came n place d)
unfolding read_from word_read advance all_ended came
other_steps n s d first end ts at = refl

pub other_table : (t : ℕ) (table : TableDef) (s : List Symbol) (d : Draft) → Declared d.tables t table
    → StepsTo (grammar.name names.OtherTable ∷ s) d (name table.name) s (λ place. on_table t d)
other_table t table s d is first end ts at =
    other_steps table.name s d first end ts at ∙ ap (λ (e : Draft). read_from s e ts at) (table_is t table first d is)

-- where a statement has been read: it is of the work, and what else was noted isn't looked at any more
abbrev pub done : Statement → Scope → NewExpression → NewRow → Draft → Draft
done statement names e row d = record d {
  work = d.work ++ statement ∷ [];
  statement = no_statement kinds.Lock 0;
  scope = names;
  expression = e;
  row = record row { values = [] };
}
