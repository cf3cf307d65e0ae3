-- Each part of the grammar keeps its contract, so a script that is read meets every rule.
use Rattle.std.proofs.Common.{◌≡◌, ◌≤◌, ◌<◌, ◌+◌, ◌*◌, ℕ, List, length, true, Some, None, refl, arith}
use Rattle.std.specs.Prelude.{sum_by}
use Rattle.std.specs.List.{AllByRecursion}
use Rattle.sql_base.specs.Scripts.{IsScript}
use Rattle.sql_base.specs.declared.scripts.Work.{Work}
use Rattle.statement_words.specs.Spans.{IsFormed, IsFormedWord}
use Rattle.statement_words.specs.declared.tokens.Token.{Token}
use Rattle.statement_words.specs.declared.tokens.Word.{Word}
use Rattle.statement_grammar.specs.Grammar.{behind, may_be_empty, script}
use Rattle.statement_grammar.specs.declared.symbols.Part.{Part}
use Rattle.statement_grammar.specs.declared.symbols.Part.TheVariants as parts
use Rattle.statement_grammar.specs.declared.symbols.Symbol.{Symbol}
use Rattle.statement_draft.specs.Judging.{part_came, read, script_of, empty}
use Rattle.statement_draft.specs.Expressions.{expression_begins}
use Rattle.statement_draft.specs.declared.draft.Draft.{Draft}
use Rattle.statement_rules.proofs.Demands.{Contracts, weaker, read_meets}
use Rattle.statement_rules.proofs.ExpressionParts.{operand_meets, condition_meets, and_meets, or_meets, compare_meets, sum_meets, product_meets}
use Rattle.statement_rules.proofs.ExpressionSteps.{OneMore, unchanged}
use Rattle.statement_rules.proofs.FirstSteps.{whole_table, whole_without}
use Rattle.statement_rules.proofs.LoadSteps.{loads_begin}
use Rattle.statement_rules.proofs.PartContracts.{Pre, Post, Demand}
use Rattle.statement_rules.proofs.RowSteps.{no_step}
use Rattle.statement_rules.proofs.SessionParts.{selected_meets, more_selected_meets, where_meets, change_meets, read_meets_access, mode_meets, sets_meets, more_sets_meets, statement_meets, work_meets, session_meets, no_names}
use Rattle.statement_rules.proofs.SessionSteps.{sessions_begin}
use Rattle.statement_rules.proofs.States.{Tabling, Between}
use Rattle.statement_rules.proofs.StatementSteps.{no_filter}
use Rattle.statement_rules.proofs.TableParts.{limit_meets, table_meets, kind_meets, column_or_key_meets, more_keys_meets, more_checks_meets, check_meets, first_keys_meets, more_firsts_meets, row_meets, literal_meets, more_literals_meets, loads_meets, more_rows_meets}
use Rattle.statement_rules.proofs.WholeSteps.{Begun}
use Rattle.sql_base.proofs.Truths.{times-fewer}

expression_meets : (w : Word) (at : ℕ) (more : List Symbol) (d : Draft) → IsFormedWord w → behind parts.Condition w ≡ Some more → (part_came parts.Expression w at d).first ≡ None
    → Demand more (Begun d) (part_came parts.Expression w at d)
unfolding behind
expression_meets w at more d f h clean =
    weaker Pre Post more (OneMore (expression_begins at d)) (Begun d) (part_came parts.Expression w at d) (λ e m. record { place = at; read = m })
    (condition_meets w at more (expression_begins at d) f h clean)

all_begin : (p : Part) (w : Word) (at : ℕ) (more : List Symbol) (d : Draft) → IsFormedWord w → behind p w ≡ Some more
    → (part_came p w at d).first ≡ None → Pre p d → Demand more (Post p d) (part_came p w at d)
unfolding behind
all_begin (parts.Limit l) w at more d f h c p = limit_meets l w more d h p
all_begin parts.Table w at more d f h c p = table_meets w at more d h c p
all_begin parts.MoreTables w at more d f h c p = table_meets w at more d h c p.0
all_begin parts.ColumnKind w at more d f h c p = kind_meets w at more d h c p.0 p.1
all_begin parts.ColumnOrKey w at more d f h c p = column_or_key_meets w at more d f h c p
all_begin parts.MoreKeyColumns w at more d f h c p = more_keys_meets w more d h p
all_begin parts.MoreChecks w at more d f h c p = more_checks_meets w more d h p
all_begin parts.Check w at more d f h c p = check_meets w at more d h c p
all_begin parts.FirstKeys w at more d f h c p = first_keys_meets w more d h p
all_begin parts.MoreFirstKeys w at more d f h c p = more_firsts_meets w more d h p.0 p.1
all_begin parts.Row w at more d f h c p = row_meets w at more d h
all_begin parts.Literal w at more d f h c p = literal_meets w at more d f h c
all_begin parts.MoreLiterals w at more d f h c p = more_literals_meets w more d h
all_begin parts.Loads w at more d f h c p = loads_meets w more d h p
all_begin parts.MoreLoadRows w at more d f h c p = more_rows_meets w more d h p
all_begin parts.Session w at more d f h c p = session_meets w at more d h c p
all_begin parts.MoreSessions w at more d f h c p = session_meets w at more d h c p.0
all_begin parts.Work w at more d f h c p = work_meets w at more d h c p
all_begin parts.MoreStatements w at more d f h c p = statement_meets w at more d h p
all_begin parts.MoreWorks w at more d f h c p = work_meets w at more d h c p.0
all_begin parts.Selected w at more d f h c p = selected_meets w at more d h
all_begin parts.MoreSelected w at more d f h c p = more_selected_meets w more d h
all_begin parts.Where w at more d f h c p = where_meets w at more d h
all_begin parts.Sets w at more d f h c p = sets_meets w at more d h p
all_begin parts.MoreSets w at more d f h c p = more_sets_meets w more d h p
all_begin parts.ReadAccess w at more d f h c p = read_meets_access w more d h
all_begin parts.ChangeAccess w at more d f h c p = change_meets w more d h
all_begin parts.LockMode w at more d f h c p = mode_meets w more d h
all_begin parts.Expression w at more d f h c p = expression_meets w at more d f h c
all_begin parts.Condition w at more d f h c p = condition_meets w at more d f h c
all_begin parts.Operand w at more d f h c p = operand_meets w at more d f h c
all_begin parts.ProductRest w at more d f h c p = product_meets w at more d h
all_begin parts.SumRest w at more d f h c p = sum_meets w at more d h
all_begin parts.CompareRest w at more d f h c p = compare_meets w at more d h
all_begin parts.AndRest w at more d f h c p = and_meets w at more d h
all_begin parts.OrRest w at more d f h c p = or_meets w at more d h

all_skip : (p : Part) (d : Draft) → may_be_empty p ≡ true → Pre p d → Post p d d
all_skip (parts.Limit l) d e p = p
all_skip parts.MoreTables d e p = p
all_skip parts.MoreKeyColumns d e p = p
all_skip parts.MoreChecks d e p = p
all_skip parts.FirstKeys d e p = whole_without d p
all_skip parts.MoreFirstKeys d e p = whole_table d p.0
all_skip parts.MoreLiterals d e p = no_step d
all_skip parts.Loads d e p = p
all_skip parts.MoreLoadRows d e p = p
all_skip parts.MoreSessions d e p = p
all_skip parts.MoreWorks d e p = p
all_skip parts.MoreSelected d e p = no_names d
all_skip parts.Where d e p = no_filter d
all_skip parts.MoreSets d e p = p
all_skip parts.ProductRest d e p = unchanged d
all_skip parts.SumRest d e p = unchanged d
all_skip parts.CompareRest d e p = unchanged d
all_skip parts.AndRest d e p = unchanged d
all_skip parts.OrRest d e p = unchanged d
all_skip parts.Table d e p = absurd (cc (e))
all_skip parts.ColumnKind d e p = absurd (cc (e))
all_skip parts.ColumnOrKey d e p = absurd (cc (e))
all_skip parts.Check d e p = absurd (cc (e))
all_skip parts.Row d e p = absurd (cc (e))
all_skip parts.Literal d e p = absurd (cc (e))
all_skip parts.Session d e p = absurd (cc (e))
all_skip parts.Work d e p = absurd (cc (e))
all_skip parts.MoreStatements d e p = absurd (cc (e))
all_skip parts.Selected d e p = absurd (cc (e))
all_skip parts.Sets d e p = absurd (cc (e))
all_skip parts.ReadAccess d e p = absurd (cc (e))
all_skip parts.ChangeAccess d e p = absurd (cc (e))
all_skip parts.LockMode d e p = absurd (cc (e))
all_skip parts.Expression d e p = absurd (cc (e))
all_skip parts.Condition d e p = absurd (cc (e))
all_skip parts.Operand d e p = absurd (cc (e))

contracts : Contracts Pre Post
contracts = record { begins = all_begin; skips = all_skip }

-- what stands at the end
abbrev Finished : Draft → Type 0
Finished d = Between d × (0 < length d.sessions)

before_all : Tabling empty
before_all = record {
  limits = record {
    quantum = (omega arith, omega arith);
    buffer = (omega arith, omega arith);
    patience = omega arith;
    servers = (omega arith, omega arith);
    restart = omega arith;
  };
  tables = record { few = omega arith; all = tt; differ = refl; parts = omega arith };
  loads = refl;
  sessions = refl;
  works = refl;
}

whole_script : (d : Draft) → Tabling d → Demand script Finished d
whole_script d t =
    (t, λ e1 t1. (t1, λ e2 t2. (t2, λ e3 t3. (t3, λ e4 t4. (t4, λ e5 t5. (t5, λ e6 tabled. (loads_begin e6 tabled, λ e7 loading. (sessions_begin e7 loading, λ e8 done. done))))))))

is_script : (d : Draft) → Finished d → IsScript (script_of d)
is_script d f = let b = f.0 in record {
  limits = b.limits;
  some_tables = (b.some, b.tables.few);
  tables = b.tables.all;
  names_differ = b.tables.differ;
  parts = b.tables.parts;
  loads = b.loads.all;
  loads_differ = b.loads.differ;
  some_sessions = (f.1, b.few);
  some_works = b.some_works;
  works = times-fewer (sum_by (λ (works : List Work). length works) d.sessions) d.works (d.limits.restart + 1) b.counted b.within;
  statements = b.statements;
}

-- words in their form that have no fault say a script
pub clean_is_script : (tokens : List Token) (at : ℕ) → AllByRecursion IsFormed tokens → (read tokens at).first ≡ None → IsScript (script_of (read tokens at))
clean_is_script tokens at formed clean =
    is_script (read tokens at) (read_meets Pre Post contracts Finished (λ e f q. q) script empty tokens at formed clean (whole_script empty before_all))
