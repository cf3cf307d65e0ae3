-- Faults that the checker computes, in scripts of one or two lines.
use Rattle.std.proofs.Common.{◌≡◌, ℕ, List, [], length, Option, Some, None, Ok, Err, Result, refl}
use Rattle.std.specs.Prelude.{codes}
use Rattle.statement_words.specs.Keywords.{keyword_of}
use Rattle.statement_words.specs.Reading.{Place}
use Rattle.statement_words.specs.declared.tokens.Token.{Token}
use Rattle.statement_words.specs.Words.{words_of, words_from, word_at, name_at, number_at, text_at, text_from, sign_at}
use Rattle.statement_grammar.specs.Grammar.{behind}
use Rattle.statement_grammar.specs.Machine.{advance, finish}
use Rattle.statement_draft.specs.Names.{column_from, table_from}
use Rattle.statement_draft.specs.StatementEvents.{selected_from, places_from}
use Rattle.statement_draft.specs.Judging.{came, ended, all_ended, word_read, end_read, read_from, read}
use Rattle.statement_draft.specs.declared.faults.Fault.{Fault}
use Rattle.statement_draft.specs.declared.faults.Reason.TheVariants.{NumberTooWide, TextTooLong, Unexpected, UnknownName, Repeated, WrongType, OverLimit, NotRising}
use Rattle.std.proofs.Common.{◌∷◌, pos, negsuc, false}
use Rattle.sql_base.specs.declared.expressions.ArithOp.TheVariants.{Add, Mul}
use Rattle.sql_base.specs.declared.expressions.CompareOp.TheVariants.{Gt, Ne}
use Rattle.sql_base.specs.declared.expressions.Expr.TheVariants as expr
use Rattle.sql_base.specs.declared.lock_names.Access.TheVariants as access
use Rattle.sql_base.specs.declared.scripts.Script.{Script}
use Rattle.sql_base.specs.declared.statements.Statement.TheVariants as statement
use Rattle.sql_base.specs.declared.tables.ColumnKind.TheVariants.{Int, Char}
use Rattle.sql_base.specs.declared.values.Value.TheVariants as value
use Rattle.statement_draft.specs.Judging.{judged_script}

-- the first fault of bytes whose words have none
abbrev first_of : List ℕ → Result (List Token) Place → Option Fault
first_of bytes (Ok tokens) = (read tokens (length bytes)).first
first_of bytes (Err place) = None

abbrev first_fault : List ℕ → Option Fault
first_fault bytes = first_of bytes (words_of bytes)

pub key_name_unknown_in_a_cut_table : first_fault (codes "TABLE acct (no INT, PRIMARY KEY (n") ≡ Some (record { at = 33; reason = UnknownName })
unfolding words_from word_at name_at number_at text_at text_from sign_at keyword_of behind advance finish column_from table_from selected_from places_from came ended all_ended word_read end_read read_from
key_name_unknown_in_a_cut_table = refl

pub wide_char_counts_towards_the_row : first_fault (codes "TABLE t (k INT, c CHAR(256), PRIMARY KEY (k));") ≡ Some (record { at = 16; reason = OverLimit })
unfolding words_from word_at name_at number_at text_at text_from sign_at keyword_of behind advance finish column_from table_from selected_from places_from came ended all_ended word_read end_read read_from
wide_char_counts_towards_the_row = refl

pub char_alone_out_of_range : first_fault (codes "TABLE t (c CHAR(256), PRIMARY KEY (c));") ≡ Some (record { at = 16; reason = OverLimit })
unfolding words_from word_at name_at number_at text_at text_from sign_at keyword_of behind advance finish column_from table_from selected_from places_from came ended all_ended word_read end_read read_from
char_alone_out_of_range = refl

pub operators_wait_for_the_whole : first_fault (codes "TABLE t (k INT, v INT, PRIMARY KEY (k)); SESSION; SELECT k FROM t WHERE k + 'a' = ;") ≡ Some (record { at = 82; reason = Unexpected })
unfolding words_from word_at name_at number_at text_at text_from sign_at keyword_of behind advance finish column_from table_from selected_from places_from came ended all_ended word_read end_read read_from
operators_wait_for_the_whole = refl

pub an_expression_that_stands : first_fault (codes "TABLE t (k INT, v INT, PRIMARY KEY (k)); SESSION; SELECT k FROM t WHERE k") ≡ Some (record { at = 66; reason = WrongType })
unfolding words_from word_at name_at number_at text_at text_from sign_at keyword_of behind advance finish column_from table_from selected_from places_from came ended all_ended word_read end_read read_from
an_expression_that_stands = refl

pub wide_number_is_a_number : first_fault (codes "TABLE t (k INT, v INT, PRIMARY KEY (k)); SESSION; SELECT k FROM t WHERE 9223372036854775808 FOR BROWSE ACCESS;") ≡ Some (record { at = 66; reason = WrongType })
unfolding words_from word_at name_at number_at text_at text_from sign_at keyword_of behind advance finish column_from table_from selected_from places_from came ended all_ended word_read end_read read_from
wide_number_is_a_number = refl

pub unexpected_wide_number : first_fault (codes "TABLE 9223372036854775808") ≡ Some (record { at = 6; reason = NumberTooWide })
unfolding words_from word_at name_at number_at text_at text_from sign_at keyword_of behind advance finish column_from table_from selected_from places_from came ended all_ended word_read end_read read_from
unexpected_wide_number = refl

pub browse_changes_nothing : first_fault (codes "TABLE t (k INT, v INT, PRIMARY KEY (k)); SESSION; DELETE FROM t FOR BROWSE ACCESS;") ≡ Some (record { at = 68; reason = Unexpected })
unfolding words_from word_at name_at number_at text_at text_from sign_at keyword_of behind advance finish column_from table_from selected_from places_from came ended all_ended word_read end_read read_from
browse_changes_nothing = refl

pub limits_in_order : first_fault (codes "BUFFER 400; QUANTUM 4;") ≡ Some (record { at = 12; reason = Unexpected })
unfolding words_from word_at name_at number_at text_at text_from sign_at keyword_of behind advance finish column_from table_from selected_from places_from came ended all_ended word_read end_read read_from
limits_in_order = refl

pub names_of_an_unknown_table : first_fault (codes "TABLE t (k INT, v INT, PRIMARY KEY (k)); SESSION; SELECT x, x FROM u FOR STABLE ACCESS;") ≡ Some (record { at = 67; reason = UnknownName })
unfolding words_from word_at name_at number_at text_at text_from sign_at keyword_of behind advance finish column_from table_from selected_from places_from came ended all_ended word_read end_read read_from
names_of_an_unknown_table = refl

pub long_name_before_an_unknown_table : first_fault (codes "TABLE t (k INT, v INT, PRIMARY KEY (k)); SESSION; SELECT a234567890123456789012345678901 FROM FOR STABLE ACCESS;") ≡ Some (record { at = 57; reason = OverLimit })
unfolding words_from word_at name_at number_at text_at text_from sign_at keyword_of behind advance finish column_from table_from selected_from places_from came ended all_ended word_read end_read read_from
long_name_before_an_unknown_table = refl

pub rows_rise : first_fault (codes "TABLE t (k INT, v INT, PRIMARY KEY (k)); LOAD t (1, 1), (1, 2);") ≡ Some (record { at = 56; reason = NotRising })
unfolding words_from word_at name_at number_at text_at text_from sign_at keyword_of behind advance finish column_from table_from selected_from places_from came ended all_ended word_read end_read read_from
rows_rise = refl

pub first_keys_rise : first_fault (codes "TABLE t (k INT, PRIMARY KEY (k)) FIRST KEY (4), (4);") ≡ Some (record { at = 48; reason = NotRising })
unfolding words_from word_at name_at number_at text_at text_from sign_at keyword_of behind advance finish column_from table_from selected_from places_from came ended all_ended word_read end_read read_from
first_keys_rise = refl

pub a_literal_past_the_key : first_fault (codes "TABLE t (k INT, v INT, PRIMARY KEY (k)) FIRST KEY (4, 4);") ≡ Some (record { at = 54; reason = WrongType })
unfolding words_from word_at name_at number_at text_at text_from sign_at keyword_of behind advance finish column_from table_from selected_from places_from came ended all_ended word_read end_read read_from
a_literal_past_the_key = refl

pub a_row_of_another_length : first_fault (codes "TABLE t (k INT, v INT, PRIMARY KEY (k)); LOAD t (1);") ≡ Some (record { at = 48; reason = WrongType })
unfolding words_from word_at name_at number_at text_at text_from sign_at keyword_of behind advance finish column_from table_from selected_from places_from came ended all_ended word_read end_read read_from
a_row_of_another_length = refl

pub a_key_column_set : first_fault (codes "TABLE t (k INT, v INT, PRIMARY KEY (k)); SESSION; UPDATE t SET k = 1, v = 'a' FOR STABLE ACCESS; COMMIT WORK;") ≡ Some (record { at = 63; reason = WrongType })
unfolding words_from word_at name_at number_at text_at text_from sign_at keyword_of behind advance finish column_from table_from selected_from places_from came ended all_ended word_read end_read read_from
a_key_column_set = refl

pub a_comparison_compared : first_fault (codes "TABLE t (k INT, v INT, PRIMARY KEY (k)); SESSION; SELECT k FROM t WHERE k = v = 1 FOR STABLE ACCESS;") ≡ Some (record { at = 78; reason = Unexpected })
unfolding words_from word_at name_at number_at text_at text_from sign_at keyword_of behind advance finish column_from table_from selected_from places_from came ended all_ended word_read end_read read_from
a_comparison_compared = refl

pub set_value_wider_than_its_column : first_fault (codes "TABLE t (k INT, c CHAR(2), d CHAR(3), PRIMARY KEY (k)); SESSION; UPDATE t SET c = d FOR STABLE ACCESS; COMMIT WORK;") ≡ Some (record { at = 78; reason = TextTooLong })
unfolding words_from word_at name_at number_at text_at text_from sign_at keyword_of behind advance finish column_from table_from selected_from places_from came ended all_ended word_read end_read read_from
set_value_wider_than_its_column = refl

pub key_column_set_to_a_long_text : first_fault (codes "TABLE t (c CHAR(2), PRIMARY KEY (c)); SESSION; UPDATE t SET c = 'abc' FOR STABLE ACCESS; COMMIT WORK;") ≡ Some (record { at = 60; reason = TextTooLong })
unfolding words_from word_at name_at number_at text_at text_from sign_at keyword_of behind advance finish column_from table_from selected_from places_from came ended all_ended word_read end_read read_from
key_column_set_to_a_long_text = refl

pub the_65th_parenthesis : first_fault (codes "TABLE t (k INT, v INT, PRIMARY KEY (k)); SESSION; DELETE FROM t WHERE ((((((((((((((((((((((((((((((((((((((((((((((((((((((((((((((((( FOR STABLE ACCESS;") ≡ Some (record { at = 134; reason = OverLimit })
unfolding words_from word_at name_at number_at text_at text_from sign_at keyword_of behind advance finish column_from table_from selected_from places_from came ended all_ended word_read end_read read_from
the_65th_parenthesis = refl

pub deeper_than_32 : first_fault (codes "TABLE t (k INT, v INT, PRIMARY KEY (k)); SESSION; DELETE FROM t WHERE NOT NOT NOT NOT NOT NOT NOT NOT NOT NOT NOT NOT NOT NOT NOT NOT NOT NOT NOT NOT NOT NOT NOT NOT NOT NOT NOT NOT NOT NOT NOT k = 1 FOR STABLE ACCESS; COMMIT WORK;") ≡ Some (record { at = 70; reason = OverLimit })
unfolding words_from word_at name_at number_at text_at text_from sign_at keyword_of behind advance finish column_from table_from selected_from places_from came ended all_ended word_read end_read read_from
deeper_than_32 = refl

pub second_load : first_fault (codes "TABLE t (k INT, v INT, PRIMARY KEY (k)); LOAD t (1, 1); LOAD t (2, 2);") ≡ Some (record { at = 61; reason = Repeated })
unfolding words_from word_at name_at number_at text_at text_from sign_at keyword_of behind advance finish column_from table_from selected_from places_from came ended all_ended word_read end_read read_from
second_load = refl

-- a script of two tables, a LOAD and an UPDATE, and what it says
abbrev answer_of : List ℕ → Result (List Token) Place → Result Script Fault
answer_of bytes (Ok tokens) = judged_script (read tokens (length bytes))
answer_of bytes (Err place) = Err (record { at = 0; reason = Unexpected })

abbrev script_of_bytes : List ℕ → Result Script Fault
script_of_bytes bytes = answer_of bytes (words_of bytes)

pub an_update : script_of_bytes (codes "RESTART 1; TABLE t (k INT, c CHAR(3), PRIMARY KEY (k)) FIRST KEY (4); LOAD t (-1, 'a'), (7, ''); SESSION; UPDATE t SET c = 'b' WHERE NOT k + 1 > 2 * k AND c <> 'a' FOR STABLE ACCESS; SELECT * FROM t FOR BROWSE ACCESS; ROLLBACK WORK;") ≡ Ok (record {
  limits = record { quantum = 50; buffer = 4096; patience = 8; servers = 2; restart = 1 };
  tables = record {
    name = codes "t";
    columns = record { name = codes "k"; kind = Int } ∷ record { name = codes "c"; kind = Char 3 } ∷ [];
    key = 0 ∷ [];
    checks = [];
    firsts = (value.Int (pos 4) ∷ []) ∷ [];
  } ∷ [];
  loads = record { table = 0; rows = (value.Int (negsuc 0) ∷ value.Text (codes "a  ") ∷ []) ∷ (value.Int (pos 7) ∷ value.Text (codes "   ") ∷ []) ∷ [] } ∷ [];
  sessions = (record {
    statements =
        statement.Update 0 (record { column = 1; value = expr.Text (codes "b") } ∷ [])
        (Some (expr.And
        (expr.Not (expr.Compare Gt (expr.Arith Add (expr.Column 0) (expr.Number (pos 1))) (expr.Arith Mul (expr.Number (pos 2)) (expr.Column 0))))
        (expr.Compare Ne (expr.Column 1) (expr.Text (codes "a"))))) access.Stable
        ∷ statement.Select 0 (0 ∷ 1 ∷ []) None access.Browse ∷ [];
    commit = false;
  } ∷ []) ∷ [];
})
unfolding words_from word_at name_at number_at text_at text_from sign_at keyword_of behind advance finish column_from table_from selected_from places_from came ended all_ended word_read end_read read_from
an_update = refl
