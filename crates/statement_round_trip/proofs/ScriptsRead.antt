-- A whole script is read as it is printed.
use Rattle.std.proofs.Common.{◌≡◌, ◌≤◌, ◌<◌, ℕ, ◌+◌, List, [], ◌∷◌, ◌++◌, length, None, refl, sym, ap, ◌∙◌, arith}
use Rattle.std.specs.Prelude.{flat_map, sum_by}
use Rattle.sql_base.specs.declared.scripts.Load.{Load}
use Rattle.sql_base.specs.declared.scripts.Script.{Script}
use Rattle.sql_base.specs.declared.scripts.Work.{Work}
use Rattle.sql_base.specs.declared.tables.TableDef.{TableDef}
use Rattle.statement_words.specs.declared.keywords.Keyword.TheVariants as keys
use Rattle.statement_words.specs.declared.tokens.Word.{Word}
use Rattle.statement_grammar.specs.Grammar.{behind, part}
use Rattle.statement_grammar.specs.Grammar as grammar
use Rattle.statement_grammar.specs.declared.symbols.Part.TheVariants as parts
use Rattle.statement_draft.specs.Judging.{empty, script_of}
use Rattle.statement_draft.specs.declared.draft.Draft.{Draft}
use Rattle.statement_draft.specs.declared.draft.NewExpression.{NewExpression}
use Rattle.statement_draft.specs.declared.draft.NewLoad.{NewLoad}
use Rattle.statement_draft.specs.declared.draft.NewRow.{NewRow}
use Rattle.statement_draft.specs.declared.draft.Scope.{Scope}
use Rattle.statement_printer.specs.Bytes.{written}
use Rattle.statement_printer.specs.Printing.{key, limits_words, load_words, printed, script_words, session_words, table_words}
use Rattle.statement_round_trip.specs.Onward.{ReadsOn}
use Rattle.statement_round_trip.specs.Rereading.{words_in}
use Rattle.statement_round_trip.specs.Respelling.{tokens_at}
use Rattle.statement_round_trip.specs.WholeScripts.{inserts, statements_in, MayBeRead, PrintedIsSpelled}
use Rattle.statement_round_trip.proofs.FormedScripts.{formed_script}
use Rattle.statement_round_trip.proofs.LimitsRead.{limited, limits_read}
use Rattle.statement_round_trip.proofs.LoadsRead.{loaded, loads_read}
use Rattle.statement_round_trip.proofs.Onward.{spelled}
use Rattle.statement_round_trip.proofs.SessionsRead.{sessions_read, Space, Spent}
use Rattle.statement_round_trip.proofs.Spelling.{words_read_back}
use Rattle.statement_round_trip.proofs.TableNames.{are_declared, AreDeclared}
use Rattle.statement_round_trip.proofs.TablesRead.{declared, tables_read, BehindTables}

-- the draft has no fault and says the script
abbrev Says : Script → Draft → Type 0
Says script d = (d.first ≡ None) × (script ≡ script_of d)

tokens_words : (at : ℕ) (words : List Word) → words_in (tokens_at at words) ≡ words
tokens_words at [] = refl
tokens_words at (w ∷ ws) = ap (λ (l : List Word). w ∷ l) (tokens_words (at + length (written w) + 1) ws)

-- ---- the word behind each part

-- sessions begin with SESSION
sessions_begin : (tables : List TableDef) (sessions : List (List Work)) → 0 < length sessions
    → (rest : List Word) × (flat_map (session_words tables) sessions ≡ key keys.Session ∷ rest)
sessions_begin tables [] some = absurd (omega (arith, some))
sessions_begin tables (works ∷ sessions) some = (_, refl)

-- what stands behind the tables is no table
record NoTable (words : List Word) : Type 0 where
  first : Word
  rest : List Word
  is : words ≡ first ∷ rest
  other : BehindTables first

loads_begin : (tables : List TableDef) (loads : List Load) (ws : List Word) → NoTable (flat_map (load_words tables) loads ++ key keys.Session ∷ ws)
unfolding behind
loads_begin tables [] ws = record { first = key keys.Session; rest = ws; is = refl; other = refl }
loads_begin tables (load ∷ loads) ws = record { first = key keys.Load; rest = _; is = refl; other = refl }

tables_begin : (tables : List TableDef) (ws : List Word) → 0 < length tables → (rest : List Word) × (flat_map table_words tables ++ ws ≡ key keys.Table ∷ rest)
tables_begin [] ws some = absurd (omega (arith, some))
tables_begin (table ∷ tables) ws some = (_, refl)

-- ---- the parts, one behind the other

-- where the tables have been read
abbrev with_tables : Script → NewRow → Scope → NewExpression → Draft
with_tables script row names e = declared script.tables row names e (limited script.limits empty)

sessions_part : (script : Script) → MayBeRead script → AreDeclared script.tables → (load : NewLoad) (row old : NewRow) (names : Scope) (e : NewExpression)
    → ReadsOn (part parts.Session ∷ []) (loaded script.loads load row (sum_by (λ load. length load.rows) script.loads) (with_tables script old names e))
    (flat_map (session_words script.tables) script.sessions) (Says script)
sessions_part script may known load row old names e =
    let is = may.rules in
    let r = sum_by (λ (load : Load). length load.rows) script.loads in
    let d = loaded script.loads load row r (with_tables script old names e) in
    let x : Spent = record { names = d.scope; expression = d.expression; row = d.row; statement = d.statement; commit = d.commit } in
    let space : Space (r + sum_by inserts script.sessions) (sum_by (λ works. length works) script.sessions) (sum_by statements_in script.sessions) d =
    record { records = may.records; works = is.works; statements = may.statements } in
    sessions_read script.sessions x d r known is.some_sessions.0 is.some_sessions.1 is.some_works is.statements space (Says script) (λ y q w n. (refl, refl))

loads_part : (script : Script) → MayBeRead script → AreDeclared script.tables → (row : NewRow) (names : Scope) (e : NewExpression)
    → ReadsOn (part parts.Loads ∷ part parts.Session ∷ []) (with_tables script row names e)
    (flat_map (load_words script.tables) script.loads ++ flat_map (session_words script.tables) script.sessions) (Says script)
loads_part script may known row names e =
    let is = may.rules in
    let b = sessions_begin script.tables script.sessions is.some_sessions.0 in
    let few : sum_by (λ load. length load.rows) script.loads ≤ 4000 = omega (arith, may.records) in
    spelled _ _ _ _ (Says script) (ap (λ (l : List Word). flat_map (load_words script.tables) script.loads ++ l) b.1)
    (loads_read script.loads row (with_tables script row names e) refl known is.loads is.loads_differ few _ b.0 (Says script) (λ load new.
    spelled _ _ _ _ (Says script) (sym b.1) (sessions_part script may known load new row names e)))

script_part : (script : Script) → MayBeRead script → AreDeclared script.tables → ReadsOn grammar.script empty (script_words script) (Says script)
script_part script may known =
    let is = may.rules in
    let tables = flat_map table_words script.tables in
    let loads = flat_map (load_words script.tables) script.loads in
    let behind = loads ++ flat_map (session_words script.tables) script.sessions in
    let b = sessions_begin script.tables script.sessions is.some_sessions.0 in
    let n = loads_begin script.tables script.loads b.0 in
    let follows : behind ≡ n.first ∷ n.rest = ap (λ (l : List Word). loads ++ l) b.1 ∙ n.is in
    let t = tables_begin script.tables behind is.some_tables.0 in
    let d = limited script.limits empty in
    spelled _ empty _ _ (Says script) (ap (λ (l : List Word). limits_words script.limits ++ l) t.1)
    (limits_read script.limits is.limits _ empty t.0 (Says script) refl
    (spelled _ d _ _ (Says script) (sym t.1 ∙ ap (λ (l : List Word). tables ++ l) follows)
    (tables_read script.tables d is.some_tables.0 is.some_tables.1 is.tables is.parts is.names_differ refl refl _ n.first n.rest (Says script) n.other (λ row names e.
    spelled _ _ _ _ (Says script) (sym follows) (loads_part script may known row names e)))))

-- the bytes of a script that may be read spell just that script
pub printed_is_spelled : PrintedIsSpelled
printed_is_spelled script may =
    let is = may.rules in
    let words = script_words script in
    let known = are_declared script.tables is.some_tables.1 is.tables is.names_differ in
    let said = script_part script may known (tokens_at 0 words) (length (printed script)) (tokens_words 0 words) in
    record {
      within = may.prints;
      tokens = tokens_at 0 words;
      words = words_read_back words (formed_script script is known);
      clean = said.0;
      meant = said.1;
      prints = may.prints;
    }
