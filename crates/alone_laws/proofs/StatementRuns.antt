-- The statements of an attempt, one after the other.
use Rattle.std.proofs.Common.{◌≡◌, ℕ, List, [], ◌∷◌, ◌++◌, Bool, Option, Some, None, Ok, Err, inl, inr, refl, sym, ◌∙◌, subst, append_assoc}
use Rattle.std.specs.Prelude.{if◌then◌else◌}
use Rattle.std.specs.List.{AllByRecursion}
use Rattle.std.proofs.lemmas.Bool.{false≢true}
use Rattle.std.proofs.lemmas.List.{append-nil}
use Rattle.sql_base.specs.Scripts.{IsScript}
use Rattle.sql_base.specs.Tables.{IsStatement}
use Rattle.sql_base.specs.declared.lock_names.TxnName.{TxnName}
use Rattle.sql_base.specs.declared.outcomes.Abort.{Abort}
use Rattle.sql_base.specs.declared.outcomes.Given.{Given}
use Rattle.sql_base.specs.declared.scripts.Script.{Script}
use Rattle.sql_base.specs.declared.statements.Statement.{Statement}
use Rattle.key_sequenced.specs.Cells.{Keyed}
use Rattle.one_thread.specs.One.{Aborts, World, ends, one, run_from}
use Rattle.partition_state.specs.State.{State}
use Rattle.run_record.specs.Serial.{part_gives, givens_of}
use Rattle.session_grammar.specs.Follows.{InTurn, IsPart, asker, joined}
use Rattle.session_grammar.specs.declared.logs.LogEntry.{LogEntry}
use Rattle.record_laws.proofs.Attempts.{part-work}
use Rattle.alone_laws.specs.Scaffold.States.{AllLively, AllReply, AreOpen, ComesTo, IsFault, behind, world_of}
use Rattle.alone_laws.proofs.StatesBehind.{behind_nothing, behind_twice, lively_behind, open_behind, reply_behind, reply_front}
use Rattle.alone_laws.proofs.StatementSteps.{statement_comes}

module _ (script : Script) (is : IsScript script) (ordinal : ℕ) (t : TxnName) (own : t ≡ record { session = 1; ordinal = ordinal }) (bases : ℕ → List Keyed) (top : ℕ) where
  -- what statements come to in one thread
  abbrev pub RunsTo : World → Bool → List Given → List Statement → List (List LogEntry) → List State → Option Abort → Type 0
  RunsTo before commit given statements parts qs None =
      run_from before commit given statements (world_of script.tables qs)
      ≡ record { ending = ends commit; given = given ++ givens_of (asker script 1) statements parts; world = if commit then world_of script.tables (behind 0 qs (joined parts)) else before }
  RunsTo before commit given statements parts qs (Some abort) =
      IsFault abort × (run_from before commit given statements (world_of script.tables qs) ≡ record { ending = Aborts abort; given = []; world = before })

  first_comes : (statement : Statement) (qs : List State) → IsStatement script.tables statement → AreOpen script qs → AllLively t bases top qs → (es : List LogEntry) → AllReply qs es → (end : Option Abort) → IsPart (asker script 1) ordinal statement es end
      → ComesTo script qs statement es end
  first_comes statement qs suits open_qs lively es replies end part = statement_comes script is statement suits.0 suits.1 suits.2 qs open_qs ordinal t own bases top lively es replies end part

  -- one more statement
  run_more : (before : World) (commit : Bool) (given : List Given) (statement : Statement) (statements : List Statement) (part : List LogEntry) (parts : List (List LogEntry)) (qs : List State) (end : Option Abort)
      → one (world_of script.tables qs) statement ≡ (Ok (part_gives (asker script 1) statement part), world_of script.tables (behind 0 qs part))
      → RunsTo before commit (given ++ part_gives (asker script 1) statement part ∷ []) statements parts (behind 0 qs part) end → RunsTo before commit given (statement ∷ statements) (part ∷ parts) qs end
  run_more before commit given statement statements part parts qs None step rest =
      rw step
      (rest ∙ (λ i. record {
        ending = ends commit;
        given = append_assoc given (part_gives (asker script 1) statement part ∷ []) (givens_of (asker script 1) statements parts) i;
        world = if commit then world_of script.tables (behind_twice 0 qs part (joined parts) i) else before;
      }))
  run_more before commit given statement statements part parts qs (Some abort) step rest = (rest.0, rw step rest.1)

  run_stops : (before : World) (commit : Bool) (given : List Given) (statement : Statement) (statements : List Statement) (parts : List (List LogEntry)) (qs : List State) (abort : Abort) → IsFault abort × ((one (world_of script.tables qs) statement).0 ≡ Err abort)
      → RunsTo before commit given (statement ∷ statements) parts qs (Some abort)
  run_stops before commit given statement statements parts qs abort fails = (fails.0, rw fails.1 refl)

  -- the statements, up to one that fails
  pub statements_run : (before : World) (commit : Bool) (given : List Given) (statements : List Statement) (parts : List (List LogEntry)) (qs : List State) (end : Option Abort) → AllByRecursion (IsStatement script.tables) statements
      → InTurn (IsPart (asker script 1) ordinal) statements parts end → AreOpen script qs → AllLively t bases top qs → AllReply qs (joined parts) → RunsTo before commit given statements parts qs end
  statements_run before commit given [] [] qs end suits turns open_qs lively replies =
      subst (RunsTo before commit given [] [] qs) (sym turns)
      (λ i. record { ending = ends commit; given = (sym (append-nil given)) i; world = if commit then world_of script.tables ((sym (behind_nothing 0 qs)) i) else before })
  statements_run before commit given [] (part ∷ parts) qs end suits turns open_qs lively replies = absurd turns
  statements_run before commit given (statement ∷ statements) [] qs end suits turns open_qs lively replies = absurd turns
  statements_run before commit given (statement ∷ statements) (part ∷ parts) qs end suits (inl turns) open_qs lively replies =
      let step = first_comes statement qs suits.0 open_qs lively part (reply_front qs part (joined parts) replies) None turns.0 in
      let work = part-work (asker script 1) ordinal statement part None turns.0 in
      run_more before commit given statement statements part parts qs end step
      (statements_run before commit (given ++ part_gives (asker script 1) statement part ∷ []) statements parts (behind 0 qs part) end suits.1 turns.1 (open_behind script qs part open_qs) (lively_behind t ordinal own bases top qs part work lively)
      (reply_behind qs part (joined parts) replies))
  statements_run before commit given (statement ∷ statements) (part ∷ parts) qs None suits (inr turns) open_qs lively replies = absurd (false≢true turns.1)
  statements_run before commit given (statement ∷ statements) (part ∷ parts) qs (Some abort) suits (inr turns) open_qs lively replies =
      run_stops before commit given statement statements (part ∷ parts) qs abort (first_comes statement qs suits.0 open_qs lively part (reply_front qs part (joined parts) replies) (Some abort) turns.0)
