-- What a session has under way suits messages and its log.
use Rattle.std.proofs.Common.{◌≡◌, ◌≤◌, ◌<◌, ◌^◌, ℕ, List, ◌++◌, Option, Some, None, refl, ap, sym, subst, arith}
use Rattle.sql_base.specs.Scripts.{Lies, parts_of}
use Rattle.sql_base.specs.declared.scripts.Script.{Script}
use Rattle.sql_base.specs.declared.statements.Statement.{Statement}
use Rattle.dp_messages.specs.Spelling.{IsAsk}
use Rattle.dp_messages.specs.declared.requests.Request.{Request}
use Rattle.session_grammar.specs.Follows.{CountSyncs, asker, works_of}
use Rattle.session_grammar.specs.Sessions.{IsWithin, MayCome, entries_kept, sync_behind}
use Rattle.session_grammar.specs.UnderWay.{AreAbove, Asks, UnderWay}
use Rattle.session_grammar.specs.declared.logs.Answer.{Answer}
use Rattle.session_grammar.specs.declared.logs.LogEntry.{LogEntry}
use Rattle.session_grammar.proofs.Readings.{follows-in_line}
use Rattle.requester_fs.specs.Asking.{AreSendable, Asking, HasTaken, IsAsking, IsSendable, next_at}
use Rattle.requester_fs.specs.Scaffold.Stages.{IsStage, statements_of, way_in, way_of}
use Rattle.requester_fs.specs.Scaffold.Working.{IsWorking}
use Rattle.requester_fs.specs.declared.stages.Stage.{Stage}
use Rattle.requester_fs.specs.declared.stages.Stage.TheVariants as stage
use Rattle.requester_fs.specs.declared.stages.Stand.{Stand}
use Rattle.requester_fs.proofs.Keeping.{exact, one_way}
use Rattle.requester_fs.proofs.Logs.{all_above, behind_least, begins_with, has_taken}
use Rattle.requester_fs.proofs.Ordinals.{few_ordinals}

module _ (script : Script) (number sync : ℕ) (log : List LogEntry) where
  -- its sync is above all that was asked
  above_in : CountSyncs 1 log → sync_behind 1 log ≤ sync → (ordinal : ℕ) (stage : Stage) → AreAbove log (way_in number sync ordinal stage)
  above_in count le ordinal (stage.Asks u) = ((all_above 1 log (record { part = u.part; sync = sync; request = u.request }) count le, tt), refl)
  above_in count le ordinal (stage.Prepares part request parts floor) = ((all_above 1 log (record { part = part; sync = sync; request = request }) count le, tt), refl)
  above_in count le ordinal (stage.Stamps floor) = tt
  above_in count le ordinal (stage.Closes part request parts locked) = ((all_above 1 log (record { part = part; sync = sync; request = request }) count le, tt), refl)

  above_way : CountSyncs 1 log → sync_behind 1 log ≤ sync → (stand : Option Stand) → AreAbove log (way_of number sync stand)
  above_way count le None = (tt, refl)
  above_way count le (Some s) = above_in count le s.ordinal s.stage

  -- a message can spell it
  module _ (a : Asking) (same : a.script ≡ script) (opens : a.number ≡ number) (opener : Lies 1 8 number) (syncs : (1 ≤ sync) × (sync < 2 ^ 64)) where
    sendable : (ordinal part : ℕ) (q : Request) → q.ordinal ≡ ordinal → IsAsk q.ask → (1 ≤ ordinal) × (ordinal < 2 ^ 32) → part < parts_of script.tables → IsSendable a (record { part = part; sync = sync; request = q })
    sendable ordinal part q is ask few within = record {
      part = subst (λ (s : Script). part < parts_of s.tables) (sym same) within;
      spelled = record { opener = subst (Lies 1 8) (sym opens) opener; sync = syncs; ordinal = subst (λ n. (1 ≤ n) × (n < 2 ^ 32)) (sym is) few; ask = ask };
    }

    sendable_in : (ordinal : ℕ) (statements : List Statement) (stage : Stage) → IsStage ordinal statements stage → (1 ≤ ordinal) × (ordinal < 2 ^ 32)
        → IsWithin (parts_of script.tables) (next_at (way_in number sync ordinal stage) 0) → AreSendable a (way_in number sync ordinal stage)
    sendable_in ordinal statements (stage.Asks u) h few within = (sendable ordinal u.part u.request h.0 h.4 few within, tt)
    sendable_in ordinal statements (stage.Prepares part request parts floor) h few within =
        (sendable ordinal part request (ap (λ (q : Request). q.ordinal) h) (subst (λ (q : Request). IsAsk q.ask) (sym h) tt) few within, tt)
    sendable_in ordinal statements (stage.Stamps floor) h few within = sym opens
    sendable_in ordinal statements (stage.Closes part request parts locked) h few within = (sendable ordinal part request h.0 h.1 few within, tt)

module _ (script : Script) (number parts sync : ℕ) (stand : Option Stand) (log : List LogEntry) (h : IsWorking script number parts stand sync log) where
  abbrev asks_of : Asking
  asks_of = record { script = script; number = number; log = log; way = way_of number sync stand }

  sendable_way : AreSendable asks_of (way_of number sync stand)
  sendable_way = by stand h
    where
      by : (o : Option Stand) (k : IsWorking script number parts o sync log) → AreSendable asks_of (way_of number sync o)
      by None k = tt
      by (Some s) k =
          let within = (exact script number parts sync (Some s) log k).part in
          let few = few_ordinals script number k.is_script k.session parts sync s log k in
          let eight = k.is_script.some_sessions in
          let session = k.session in
          let works = works_of script number in
          let least = behind_least 1 log in
          sendable_in script number sync log asks_of refl refl (omega (arith, session), omega (arith, session, eight)) (omega (arith, least, k.sync_is), k.few)
          s.ordinal (statements_of works s) s.stage k.kept.2 (k.kept.1, omega (arith, few, k.kept.0)) within

  pub is_asking : IsAsking asks_of
  is_asking =
      let contract = exact script number parts sync stand log h in
      let least : sync_behind 1 log ≤ sync = omega (arith, h.sync_is) in
      record {
        is_script = h.is_script;
        session = h.session;
        asks = (above_way script number sync log h.stands.syncs least stand, begins_with script number log (way_of number sync stand) (one_way script number sync stand) contract);
        sendable = sendable_way;
        whole = λ none. follows-in_line (asker script number) (works_of script number) log (contract.ends_where_whole.0 (ap (λ (w : UnderWay). next_at w 0) none));
      }

  -- it took the answer
  pub has_answered : (b : Asking) (answer : Answer) (losses : ℕ) → MayCome (next_at (way_of number sync stand) 0) answer losses → b.script ≡ script → b.number ≡ number
      → b.log ≡ log ++ entries_kept (next_at (way_of number sync stand) 0) answer losses → IsAsking b → HasTaken asks_of (next_at (way_of number sync stand) 0) answer losses b
  has_answered b answer losses may same numbered kept asking =
      has_taken asks_of b answer losses (one_way script number sync stand) may kept
      (subst (λ n. Asks script n b.log b.way) numbered (subst (λ s. Asks s b.number b.log b.way) same asking.asks))
