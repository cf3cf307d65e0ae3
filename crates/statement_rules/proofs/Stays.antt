-- A fault stays, whatever comes: statements, expressions, and all words.
use Rattle.std.proofs.Common.{◌≡◌, ◌+◌, ◌*◌, min, ℕ, List, [], ◌∷◌, Bool, true, false, Option, Some, None, refl}
use Rattle.std.specs.Prelude.{nat_lt, is_some, if◌then◌else◌, option_and_then, slice_get}
use Rattle.sql_base.specs.declared.tables.ColumnKind.TheVariants.{Int}
use Rattle.sql_base.specs.declared.tables.Column.{Column}
use Rattle.sql_base.specs.declared.tables.TableDef.{TableDef}
use Rattle.statement_words.specs.declared.tokens.Word.{Word}
use Rattle.statement_words.specs.declared.tokens.Word.TheVariants as word
use Rattle.statement_draft.specs.Faults.{noted, sooner}
use Rattle.statement_draft.specs.Names.{is_long, is_wide, column_named, name_in, number_in}
use Rattle.statement_draft.specs.TableEvents as tables
use Rattle.statement_draft.specs.RowEvents as rows
use Rattle.statement_draft.specs.Expressions as expressions
use Rattle.statement_draft.specs.StatementEvents as statements
use Rattle.statement_draft.specs.StatementEvents.{Selected, select_found, selected, selected_from, column_set, set_found, statement_table}
use Rattle.statement_draft.specs.declared.faults.Fault.{Fault}
use Rattle.statement_draft.specs.declared.faults.Reason.{Reason}
use Rattle.statement_draft.specs.declared.faults.Reason.TheVariants.{NumberTooWide, UnknownName, OverLimit, Unexpected}
use Rattle.statement_draft.specs.declared.draft.Draft.{Draft}
use Rattle.statement_draft.specs.declared.draft.NameAt.{NameAt}
use Rattle.statement_draft.proofs.Kept.{one, as_one, Keeps as Stays, table_keeps, limit_keeps, table_begins_keeps, column_keeps, kind_keeps, width_keeps, key_keeps, check_keeps, first_key_keeps, literal_keeps, literal_begins_keeps, load_keeps, record_keeps}
use Rattle.statement_draft.proofs.Clean.{sooner-some}
use Rattle.sql_base.specs.declared.values.Value.TheVariants as value
use Rattle.statement_words.specs.declared.keywords.Keyword.TheVariants as keyword
use Rattle.statement_words.specs.declared.tokens.Sign.TheVariants as sign
use Rattle.statement_words.specs.declared.tokens.Token.{Token}
use Rattle.statement_grammar.specs.WordsAt.{is_key, is_name, is_sign}
use Rattle.statement_grammar.specs.Machine.{Taken, advance, finish}
use Rattle.statement_grammar.specs.declared.symbols.NameRole.{NameRole}
use Rattle.statement_grammar.specs.declared.symbols.NameRole.TheVariants as names
use Rattle.statement_grammar.specs.declared.symbols.NumberRole.{NumberRole}
use Rattle.statement_grammar.specs.declared.symbols.NumberRole.TheVariants as numbers
use Rattle.statement_grammar.specs.declared.symbols.Part.{Part}
use Rattle.statement_grammar.specs.declared.symbols.Part.TheVariants as parts
use Rattle.statement_grammar.specs.declared.symbols.End.{End}
use Rattle.statement_grammar.specs.declared.symbols.End.TheVariants as ends
use Rattle.statement_grammar.specs.declared.symbols.Symbol.{Symbol}
use Rattle.statement_grammar.specs.declared.symbols.Symbol.TheVariants as symbols
use Rattle.statement_draft.specs.Judging.{name_came, number_came, part_came, came, ended, all_ended, after, go_on, word_read, end_read, read_from}
use Rattle.statement_draft.specs.declared.kinds.Operator.TheVariants as operator

-- one work more, before its first statement
abbrev pub work_counted : ℕ → Draft → Draft
work_counted at d = let count = min 1000 d.works + 1 in
    record d { first = noted (nat_lt 1000 (count * statements.times d)) OverLimit at d.first; works = count; work = [] }

pub either : (f g : Option Fault) → sooner f g ≡ None → f ≡ None
either None g h = refl
either (Some a) None h = h
either (Some a) (Some b) h = absurd (sooner-some (Some a) b h)

pub statement_begins_stays : (w : Word) (at : ℕ) → Stays (statements.statement_begins w at)
statement_begins_stays w at d h = one _ _ _ _ h

pub table_found_stays : (t : Option ℕ) (at : ℕ) → Stays (statements.table_found t at)
table_found_stays t at d h = one _ _ _ _ h

pub table_came_stays : (name : List ℕ) (at : ℕ) → Stays (statements.table_came name at)
table_came_stays name at d h = one _ _ _ _ (one _ _ _ _ h)

pub select_found_stays : (c : Option ℕ) (at : ℕ) (s : Selected) → (select_found c at s).first ≡ None → s.first ≡ None
select_found_stays None at s h = one true UnknownName at s.first h
select_found_stays (Some c) at s h = one _ _ _ _ h

pub selected_from_stays : (columns : List Column) (names : List NameAt) (s : Selected) → (selected_from columns names s).first ≡ None → s.first ≡ None
unfolding selected_from
selected_from_stays columns [] s h = h
selected_from_stays columns (n ∷ names) s h = select_found_stays (column_named columns n.name) n.at s (selected_from_stays columns names _ h)

pub selected_stays : (columns : List Column) (names : List NameAt) (f : Option Fault) → (selected columns names f).first ≡ None → f ≡ None
selected_stays columns [] f h = h
selected_stays columns (n ∷ names) f h = selected_from_stays columns (n ∷ names) _ h

pub names_judged_stays : (t : Option TableDef) → Stays (statements.names_judged t)
names_judged_stays None d h = h
names_judged_stays (Some table) d h = selected_stays table.columns d.statement.names d.first h

pub set_found_stays : (table : TableDef) (c : Option ℕ) (at : ℕ) (before : List ℕ) (f : Option Fault) → (set_found table c at before f).1 ≡ None → f ≡ None
set_found_stays table None at before f h = one true UnknownName at f h
set_found_stays table (Some c) at before f h = one _ _ _ _ (one _ _ _ _ h)

pub set_in_stays : (t : Option TableDef) (name : List ℕ) (at : ℕ) (before : List ℕ) (f : Option Fault) → (column_set t name at before f).1 ≡ None → f ≡ None
set_in_stays None name at before f h = h
set_in_stays (Some table) name at before f h = set_found_stays table (column_named table.columns name) at before f h

pub set_came_stays : (name : List ℕ) (at : ℕ) → Stays (statements.set_came name at)
set_came_stays name at d h = one _ _ _ _ (set_in_stays (statement_table d) name at d.statement.columns (noted (is_long name) OverLimit at d.first) h)

pub judged_stays : Stays expressions.expression_judged
judged_stays d h = either d.first d.expression.first (one _ _ _ _ h)

pub predicate_stays : (at : ℕ) → Stays (expressions.predicate_judged at)
predicate_stays at d h = judged_stays d (one _ _ _ _ h)

pub check_ends_stays : Stays expressions.check_ends
check_ends_stays d h = predicate_stays d.table.check_at d h

pub filter_ends_stays : Stays expressions.filter_ends
filter_ends_stays d h = predicate_stays d.statement.where_at d h

pub assign_ends_stays : Stays statements.assign_ends
assign_ends_stays d h = judged_stays d (as_one _ _ _ h)

pub found_name_stays : (cs : Option (List Column)) (name : List ℕ) (at : ℕ) (f : Option Fault) → (expressions.found_name cs name at f).1 ≡ None → f ≡ None
found_name_stays None name at f h = h
found_name_stays (Some columns) name at f h = one _ _ _ _ h

pub name_stays : (name : List ℕ) (at : ℕ) → Stays (expressions.name_came name at)
name_stays name at d h = one _ _ _ _ (found_name_stays (expressions.columns_in d.scope d) name at (noted (is_long name) OverLimit at d.first) h)

row_loaded_stays : (table : TableDef) → Stays (rows.row_loaded table)
row_loaded_stays table d h = one _ _ _ _ (one _ _ _ _ h)

pub row_judged_stays : (t : Option TableDef) → Stays (rows.row_judged t)
row_judged_stays None d h = h
row_judged_stays (Some table) d h = by_first d.first refl h
  where
    by_first : (f : Option Fault) → d.first ≡ f → (if is_some f then d else rows.row_loaded table d).first ≡ None → d.first ≡ None
    by_first None e h = e
    by_first (Some g) e h = h

pub load_row_stays : Stays rows.load_row_ends
load_row_stays d h = one _ _ _ _ (one _ _ _ _ (row_judged_stays (option_and_then (slice_get d.tables) d.load.table) (rows.record_counted d.row.at d) h))

pub load_ends_stays : (t : Option ℕ) → Stays (rows.load_kept t)
load_ends_stays None d h = h
load_ends_stays (Some t) d h = h

pub statement_kept_stays : (t : Option ℕ) → Stays (statements.statement_kept t)
statement_kept_stays None d h = h
statement_kept_stays (Some t) d h = h

pub unknown : (reason : Reason) (at : ℕ) (f : Option Fault) → noted true reason at f ≡ None → ⊥
unknown reason at f h = sooner-some f _ h

pub is_none : (f : Option Fault) → f ≡ None → is_some f ≡ false
is_none None e = refl
is_none (Some f) e = absurd (cc)

choice_stays : (b : Bool) (f g : Draft → Draft) → Stays f → Stays g → (d : Draft) → (if b then f d else g d).first ≡ None → d.first ≡ None
choice_stays true f g kf kg d h = kf d h
choice_stays false f g kf kg d h = kg d h

same : Stays (λ d. d)
same d h = h

pub statement_came_stays : (w : Word) (at : ℕ) → Stays (statements.statement_came w at)
statement_came_stays w at d h =
    choice_stays (is_key w keyword.Commit) (λ d. record d { commit = true })
    (λ d. if is_key w keyword.Rollback then record d { commit = false } else statements.statement_begins w at d) (λ d h. h)
    (choice_stays (is_key w keyword.Rollback) (λ d. record d { commit = false }) (statements.statement_begins w at) (λ d h. h) (statement_begins_stays w at)) d h

pub work_stays : (w : Word) (at : ℕ) → Stays (statements.work_begins w at)
work_stays w at d h = one _ _ _ _ (statement_came_stays w at (work_counted at d) h)

other_stays : (w : Word) (at : ℕ) → Stays (expressions.other_came w at)
other_stays w at d h =
    choice_stays (is_key w keyword.Not) (expressions.with_operator (operator.Not at)) (λ d. if is_sign w sign.Open then expressions.opened at d else d)
    (λ d h. h) (choice_stays (is_sign w sign.Open) (expressions.opened at) (λ d. d) (λ d h. one _ _ _ _ h) same) d h

pub operand_stays : (w : Word) (at : ℕ) → Stays (expressions.operand_came w at)
operand_stays (word.Number n) at d h = one _ _ _ _ h
operand_stays (word.Text text) at d h = h
operand_stays (word.Name name) at d h = name_stays name at d h
operand_stays (word.Keyword w) at d h = other_stays (word.Keyword w) at d h
operand_stays (word.Sign s) at d h = other_stays (word.Sign s) at d h

pub select_table_stays : (name : List ℕ) (at : ℕ) → Stays (statements.select_table_came name at)
select_table_stays name at d h = let e = statements.table_came name at d in table_came_stays name at d (names_judged_stays (statement_table e) e h)

name_came_stays : (role : NameRole) (name : List ℕ) (at : ℕ) → Stays (name_came role name at)
name_came_stays names.NewTable name at d h = table_keeps name at d h
name_came_stays names.FirstColumn name at d h = column_keeps name at d h
name_came_stays names.KeyColumn name at d h = key_keeps name at d h
name_came_stays names.LoadTable name at d h = load_keeps name at d h
name_came_stays names.SelectTable name at d h = select_table_stays name at d h
name_came_stays names.OtherTable name at d h = table_came_stays name at d h
name_came_stays names.InsertTable name at d h = table_came_stays name at d h
name_came_stays names.SetColumn name at d h = set_came_stays name at d h
name_came_stays names.SelectColumn name at d h = one _ _ _ _ h

number_came_stays : (role : NumberRole) (n at : ℕ) → Stays (number_came role n at)
number_came_stays (numbers.Limit l) n at d h = limit_keeps l n at d h
number_came_stays numbers.Width n at d h = width_keeps n at d h
number_came_stays numbers.Negative n at d h = literal_keeps (value.Int (rows.negative n)) d.row.minus d h
number_came_stays numbers.NegativeOperand n at d h = h

selected_came_stays : (name : List ℕ) (at : ℕ) → Stays (statements.selected_came name at)
selected_came_stays name at d h = one _ _ _ _ h

part_stays : (part : Part) (w : Word) (at : ℕ) → Stays (part_came part w at)
part_stays (parts.Limit l) w at d h = h
part_stays parts.Table w at d h = table_begins_keeps at d h
part_stays parts.MoreTables w at d h = table_begins_keeps at d h
part_stays parts.ColumnKind w at d h = choice_stays (is_key w keyword.Int) (tables.kind_came Int 8) (λ d. d) (kind_keeps Int 8) same d h
part_stays parts.ColumnOrKey w at d h = choice_stays (is_name w) (tables.column_came (name_in w) at) (λ d. d) (column_keeps (name_in w) at) same d h
part_stays parts.MoreKeyColumns w at d h = h
part_stays parts.MoreChecks w at d h = h
part_stays parts.Check w at d h = check_keeps at d h
part_stays parts.FirstKeys w at d h = h
part_stays parts.MoreFirstKeys w at d h = h
part_stays parts.Row w at d h = h
part_stays parts.Literal w at d h = literal_begins_keeps w at d h
part_stays parts.MoreLiterals w at d h = h
part_stays parts.Loads w at d h = h
part_stays parts.MoreLoadRows w at d h = h
part_stays parts.Session w at d h = one _ _ _ _ h
part_stays parts.MoreSessions w at d h = one _ _ _ _ h
part_stays parts.Work w at d h = work_stays w at d h
part_stays parts.MoreStatements w at d h = statement_came_stays w at d h
part_stays parts.MoreWorks w at d h = work_stays w at d h
part_stays parts.Selected w at d h = choice_stays (is_name w) (statements.selected_came (name_in w) at) (λ d. d) (selected_came_stays (name_in w) at) same d h
part_stays parts.MoreSelected w at d h = h
part_stays parts.Where w at d h = h
part_stays parts.Sets w at d h = h
part_stays parts.MoreSets w at d h = h
part_stays parts.ReadAccess w at d h = h
part_stays parts.ChangeAccess w at d h = h
part_stays parts.LockMode w at d h = h
part_stays parts.Expression w at d h = operand_stays w at (expressions.expression_begins at d) h
part_stays parts.Condition w at d h = operand_stays w at d h
part_stays parts.Operand w at d h = operand_stays w at d h
part_stays parts.ProductRest w at d h = h
part_stays parts.SumRest w at d h = h
part_stays parts.CompareRest w at d h = h
part_stays parts.AndRest w at d h = h
part_stays parts.OrRest w at d h = h

pub came_stays : (s : Symbol) (w : Word) (at : ℕ) → Stays (came s w at)
unfolding came
came_stays (symbols.Fixed f) w at d h = h
came_stays (symbols.Name role) w at d h = name_came_stays role (name_in w) at d h
came_stays (symbols.Number role) w at d h = number_came_stays role (number_in w) at d h
came_stays (symbols.Part part) w at d h = part_stays part w at d h
came_stays (symbols.Ended e) w at d h = h

pub ended_stays : (e : End) → Stays (ended e)
unfolding ended
ended_stays ends.Table d h = h
ended_stays ends.FirstKey d h = first_key_keeps d h
ended_stays ends.LoadRow d h = load_row_stays d h
ended_stays ends.Load d h = load_ends_stays d.load.table d h
ended_stays ends.InsertRow d h = record_keeps d.statement.at d h
ended_stays ends.Check d h = check_ends_stays d h
ended_stays ends.Filter d h = filter_ends_stays d h
ended_stays ends.Assign d h = assign_ends_stays d h
ended_stays ends.Sets d h = one _ _ _ _ h
ended_stays ends.Operator d h = h
ended_stays ends.Inside d h = h
ended_stays ends.Statement d h = statement_kept_stays d.statement.table d h
ended_stays ends.Work d h = h
ended_stays ends.Session d h = h

pub all_ended_stays : (es : List End) → Stays (all_ended es)
unfolding all_ended
all_ended_stays [] d h = h
all_ended_stays (e ∷ es) d h = ended_stays e d (all_ended_stays es (ended e d) h)

pub after_stays : (taken : Option Taken) (t : Token) (d : Draft) → (after taken t d).draft.first ≡ None → d.first ≡ None
after_stays None t d h =
    one (is_wide (number_in t.word)) NumberTooWide t.first d.first
    (one true Unexpected t.first (noted (is_wide (number_in t.word)) NumberTooWide t.first d.first) h)
after_stays (Some taken) t d h = came_stays taken.role t.word t.first d h

pub word_stays : (s : List Symbol) (d : Draft) (t : Token) → (word_read s d t).draft.first ≡ None → d.first ≡ None
unfolding word_read
word_stays s d t h = let next = advance [] s t.word in all_ended_stays next.ends d (after_stays next.taken t (all_ended next.ends d) h)

pub end_stays : (s : List Symbol) (d : Draft) (at : ℕ) → (end_read s d at).first ≡ None → d.first ≡ None
unfolding end_read
end_stays s d at h = let f = finish [] s in all_ended_stays f.ends d (one _ _ _ _ h)

pub read_stays : (s : List Symbol) (d : Draft) (ts : List Token) (at : ℕ) → (read_from s d ts at).first ≡ None → d.first ≡ None
unfolding read_from
read_stays s d [] at h = end_stays s d at h
read_stays s d (t ∷ ts) at h = on (word_read s d t).rest (λ rest. read_stays rest (word_read s d t).draft ts at) h
  where
    on : (r : Option (List Symbol)) → ((rest : List Symbol) → (read_from rest (word_read s d t).draft ts at).first ≡ None → (word_read s d t).draft.first ≡ None) → (go_on r (word_read s d t).draft (λ rest. read_from rest (word_read s d t).draft ts at)).first ≡ None → d.first ≡ None
    on None later h2 = word_stays s d t h2
    on (Some rest) later h2 = word_stays s d t (later rest h2)
