-- Reading a script: its words one by one, its faults, and what it says.
use Rattle.std.specs.Prelude.{ℕ, List, [], ◌∷◌, Bool, true, false, not, Option, Some, None, Result, Ok, Err, if◌then◌else◌}
use Rattle.sql_base.specs.declared.scripts.Script.{Script}
use Rattle.sql_base.specs.declared.tables.ColumnKind.TheVariants.{Int}
use Rattle.statement_words.specs.declared.keywords.Keyword.TheVariants as keyword
use Rattle.statement_words.specs.declared.tokens.Word.{Word}
use Rattle.statement_words.specs.declared.tokens.Token.{Token}
use Rattle.statement_grammar.specs.WordsAt.{is_key, is_name}
use Rattle.statement_grammar.specs.Grammar.{script}
use Rattle.statement_grammar.specs.Machine.{Taken, advance, finish}
use Rattle.statement_grammar.specs.declared.symbols.NameRole.{NameRole}
use Rattle.statement_grammar.specs.declared.symbols.NameRole.TheVariants as names
use Rattle.statement_grammar.specs.declared.symbols.NumberRole.{NumberRole}
use Rattle.statement_grammar.specs.declared.symbols.NumberRole.TheVariants as numbers
use Rattle.statement_grammar.specs.declared.symbols.Part.{Part}
use Rattle.statement_grammar.specs.declared.symbols.Part.TheVariants as parts
use Rattle.statement_grammar.specs.declared.symbols.End.{End}
use Rattle.statement_grammar.specs.declared.symbols.End.TheVariants as ends
use Rattle.statement_grammar.specs.declared.symbols.Symbol.{Symbol}
use Rattle.statement_grammar.specs.declared.symbols.Symbol.TheVariants as symbols
use Rattle.statement_draft.specs.Faults.{noted}
use Rattle.statement_draft.specs.Names.{is_wide, name_in, number_in}
use Rattle.statement_draft.specs.TableEvents as tables
use Rattle.statement_draft.specs.TableEvents.{no_table}
use Rattle.statement_draft.specs.RowEvents as rows
use Rattle.statement_draft.specs.Expressions as expressions
use Rattle.statement_draft.specs.StatementEvents as statements
use Rattle.statement_draft.specs.declared.faults.Fault.{Fault}
use Rattle.statement_draft.specs.declared.faults.Reason.TheVariants.{NumberTooWide, Unexpected}
use Rattle.statement_draft.specs.declared.draft.Draft.{Draft}
use Rattle.statement_draft.specs.declared.draft.RowOf.TheVariants as row_of
use Rattle.statement_draft.specs.declared.draft.Scope.TheVariants as scope
use Rattle.statement_draft.specs.declared.draft.StatementKind.TheVariants as statement_kind

-- a name came as what its place says
abbrev pub name_came : NameRole → List ℕ → ℕ → Draft → Draft
name_came names.NewTable name at d = tables.table_came name at d
name_came names.FirstColumn name at d = tables.column_came name at d
name_came names.KeyColumn name at d = tables.key_column_came name at d
name_came names.LoadTable name at d = rows.load_came name at d
name_came names.SelectTable name at d = statements.select_table_came name at d
name_came names.OtherTable name at d = statements.table_came name at d
name_came names.InsertTable name at d = statements.insert_came name at d
name_came names.SetColumn name at d = statements.set_came name at d
name_came names.SelectColumn name at d = statements.selected_came name at d

-- a number came
abbrev pub number_came : NumberRole → ℕ → ℕ → Draft → Draft
number_came (numbers.Limit l) n at d = tables.limit_came l n at d
number_came numbers.Width n at d = tables.width_came n at d
number_came numbers.Negative n at d = rows.negative_came n d
number_came numbers.NegativeOperand n at d = expressions.negative_came n d

-- the first word of a part came
abbrev pub part_came : Part → Word → ℕ → Draft → Draft
part_came (parts.Limit l) w at d = d
part_came parts.Table w at d = tables.table_begins at d
part_came parts.MoreTables w at d = tables.table_begins at d
part_came parts.ColumnKind w at d = if is_key w keyword.Int then tables.kind_came Int 8 d else d
part_came parts.ColumnOrKey w at d = if is_name w then tables.column_came (name_in w) at d else d
part_came parts.MoreKeyColumns w at d = d
part_came parts.MoreChecks w at d = d
part_came parts.Check w at d = tables.check_begins at d
part_came parts.FirstKeys w at d = tables.first_keys_begin d
part_came parts.MoreFirstKeys w at d = d
part_came parts.Row w at d = rows.row_begins at d
part_came parts.Literal w at d = rows.literal_begins w at d
part_came parts.MoreLiterals w at d = d
part_came parts.Loads w at d = d
part_came parts.MoreLoadRows w at d = d
part_came parts.Session w at d = statements.session_begins at d
part_came parts.MoreSessions w at d = statements.session_begins at d
part_came parts.Work w at d = statements.work_begins w at d
part_came parts.MoreStatements w at d = statements.statement_came w at d
part_came parts.MoreWorks w at d = statements.work_begins w at d
part_came parts.Selected w at d = if is_name w then statements.selected_came (name_in w) at d else d
part_came parts.MoreSelected w at d = d
part_came parts.Where w at d = statements.where_came at d
part_came parts.Sets w at d = statements.sets_begin at d
part_came parts.MoreSets w at d = d
part_came parts.ReadAccess w at d = statements.access_came w d
part_came parts.ChangeAccess w at d = statements.access_came w d
part_came parts.LockMode w at d = statements.mode_came w d
part_came parts.Expression w at d = expressions.operand_came w at (expressions.expression_begins at d)
part_came parts.Condition w at d = expressions.operand_came w at d
part_came parts.Operand w at d = expressions.operand_came w at d
part_came parts.ProductRest w at d = expressions.joins w at d
part_came parts.SumRest w at d = expressions.joins w at d
part_came parts.CompareRest w at d = expressions.joins w at d
part_came parts.AndRest w at d = expressions.joins w at d
part_came parts.OrRest w at d = expressions.joins w at d

-- a word came
unfoldable pub came : Symbol → Word → ℕ → Draft → Draft
came (symbols.Fixed f) w at d = d
came (symbols.Name role) w at d = name_came role (name_in w) at d
came (symbols.Number role) w at d = number_came role (number_in w) at d
came (symbols.Part p) w at d = part_came p w at d
came (symbols.Ended e) w at d = d

-- all words of something have come
unfoldable pub ended : End → Draft → Draft
ended ends.Table d = tables.table_ends d
ended ends.FirstKey d = tables.first_key_ends d
ended ends.LoadRow d = rows.load_row_ends d
ended ends.Load d = rows.load_ends d
ended ends.InsertRow d = statements.insert_row_ends d
ended ends.Check d = expressions.check_ends d
ended ends.Filter d = expressions.filter_ends d
ended ends.Assign d = statements.assign_ends d
ended ends.Sets d = statements.sets_end d
ended ends.Operator d = expressions.operator_ends d
ended ends.Inside d = expressions.inside_ends d
ended ends.Statement d = statements.statement_ends d
ended ends.Work d = statements.work_ends d
ended ends.Session d = statements.session_ends d

unfoldable pub all_ended : List End → Draft → Draft
all_ended [] d = d
all_ended (e ∷ es) d = all_ended es (ended e d)

-- the word at which the words begin no script any more; it may be a number that is too wide as well
abbrev pub unexpected : Word → ℕ → Draft → Draft
unexpected w at d = record d { first = noted true Unexpected at (noted (is_wide (number_in w)) NumberTooWide at d.first) }

-- the end of the bytes
abbrev pub end_judged : Bool → ℕ → Draft → Draft
end_judged whole at d = record d { first = noted (not whole) Unexpected at d.first }

-- what a word leaves: what must come behind it, unless it is unexpected, and the draft
pub record After : Type 0 where
  pub rest : Option (List Symbol)
  pub draft : Draft

abbrev pub after : Option Taken → Token → Draft → After
after None t d = record { rest = None; draft = unexpected t.word t.first d }
after (Some taken) t d = record { rest = Some taken.rest; draft = came taken.role t.word t.first d }

-- a word, before which something may have ended
unfoldable pub word_read : List Symbol → Draft → Token → After
word_read s d t = let next = advance [] s t.word in after next.taken t (all_ended next.ends d)

-- where no word follows
unfoldable pub end_read : List Symbol → Draft → ℕ → Draft
end_read s d at = let f = finish [] s in end_judged f.whole at (all_ended f.ends d)

-- nothing is judged behind an unexpected word
abbrev pub go_on : Option (List Symbol) → Draft → (List Symbol → Draft) → Draft
go_on None d rest_read = d
go_on (Some rest) d rest_read = rest_read rest

-- the rest of the words, where these symbols must come, and the bytes end at a place
unfoldable pub read_from : List Symbol → Draft → List Token → ℕ → Draft
read_from s d [] at = end_read s d at
read_from s d (t ∷ ts) at = let next = word_read s d t in go_on next.rest next.draft (λ rest. read_from rest next.draft ts at)

-- before the first word
abbrev pub empty : Draft
empty = record {
  first = None;
  limits = record { quantum = 50; buffer = 4096; patience = 8; servers = 2; restart = 0 };
  tables = [];
  loads = [];
  sessions = [];
  records = 0;
  works = 0;
  statements = 0;
  table = no_table;
  row = record { of = row_of.Load; kinds = None; at = 0; minus = 0; values = [] };
  load = rows.no_load;
  scope = scope.Unknown;
  expression = expressions.no_expression 0;
  statement = statements.no_statement statement_kind.Lock 0;
  work = [];
  commit = false;
  session = [];
}

-- what the words say, and their first fault
abbrev pub read : List Token → ℕ → Draft
read tokens at = read_from script empty tokens at

-- the script that is there where there is no fault
abbrev pub script_of : Draft → Script
script_of d = record { limits = d.limits; tables = d.tables; loads = d.loads; sessions = d.sessions }

abbrev pub judged_script : Draft → Result Script Fault
judged_script d = elim d.first [ None ↦ Ok (script_of d) | Some fault ↦ Err fault ]
