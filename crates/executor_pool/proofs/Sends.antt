-- What a session has under way: it goes to a partition that is there, it was asked, and a message can spell it.
use Rattle.std.proofs.Common.{◌≡◌, ◌<◌, ℕ, List, length, Some, refl, sym, ◌∙◌, subst, arith}
use Rattle.std.proofs.lemmas.List.Elements.{Contains-append_right}
use Rattle.sql_base.specs.Scripts.{parts_of}
use Rattle.sql_base.specs.declared.scripts.Script.{Script}
use Rattle.sql_base.proofs.ListFacts.{all_in, zip_length}
use Rattle.sql_base.proofs.Truths.{some-same}
use Rattle.dp_messages.specs.Spelling.{IsEnvelope, request_bytes}
use Rattle.dp_messages.specs.declared.requests.Envelope.{Envelope}
use Rattle.dp_messages.specs.declared.requests.Request.{Request}
use Rattle.session_grammar.specs.Sessions.{Sends}
use Rattle.session_grammar.specs.UnderWay.{Awaiting, Drawing, IsOpen, Sending, UnderWay, unanswered}
use Rattle.session_grammar.specs.declared.logs.Answer.TheVariants.{PathFailed}
use Rattle.session_grammar.specs.declared.logs.LogEntry.TheVariants.{Asked}
use Rattle.requester_fs.specs.Asking.{AreSendable, Asking, IsAsking, IsSendable, next_at}
use Rattle.driver_laws.proofs.Posting.{open_asked}
use Rattle.turn_lock.specs.Pass.{LockId}
use Rattle.executor_pool.specs.Jobs.{HasAsked, IsOwnMessage, IsStopped}
use Rattle.executor_pool.specs.Tokens.{AreOf}
use Rattle.executor_pool.specs.Sessions.{GoesOut, IsSameSession, IsSession, Session, next_of}
use Rattle.executor_pool.specs.declared.processes.DiskProcess.{DiskProcess}
use Rattle.executor_pool.specs.declared.sessions.Stop.{Stop}
use Rattle.executor_pool.proofs.Answered.{sending_in}
use Rattle.executor_pool.proofs.Stepping.{commits_still, tokens_still}

-- a request under way
pub record IsUnderWay (a : Asking) (part sync : ℕ) (request : Request) : Type 0 where
  pub is_open : IsOpen a.way (record { part = part; sync = sync; request = request })
  pub sendable : IsSendable a (record { part = part; sync = sync; request = request })
  pub asked : HasAsked a part sync request

pub under_way : (a : Asking) (part sync : ℕ) (request : Request) → IsAsking a → next_at a.way 0 ≡ Sends part sync request → IsUnderWay a part sync request
under_way a part sync request asking next = by_way a.way refl next
  where
    r : Sending
    r = record { part = part; sync = sync; request = request }

    of_open : IsOpen a.way r → IsSendable a r → IsUnderWay a part sync request
    of_open is_open sendable =
        let there = Contains-append_right a.log (unanswered a.way) (Asked part sync request 4 PathFailed) (open_asked a.way r is_open) in
        record { is_open = is_open; sendable = sendable; asked = (4, PathFailed, there) }

    by_way : (way : UnderWay) → a.way ≡ way → next_at way 0 ≡ Sends part sync request → IsUnderWay a part sync request
    by_way (Awaiting sends) is sent =
        let is_in = sending_in sends part sync request sent in
        let all = subst (AreSendable a) is asking.sendable in
        of_open (subst (λ (way : UnderWay). IsOpen way r) (sym is) is_in) (all_in (IsSendable a) r sends is_in all)
    by_way (Drawing name floor) is sent = absurd (cc sent)

module _ (script : Script) (processes : List DiskProcess) (journal : LockId) (s : Session) (is : IsSession script processes journal s) where
  -- it goes to a partition that is there
  pub part_within : (part sync : ℕ) (request : Request) → next_of s ≡ Sends part sync request → (part < length processes) × (part < length s.tokens)
  part_within part sync request next =
      let sendable = (under_way s.asking part sync request is.work.asking next).sendable in
      let within : part < parts_of script.tables = subst (λ (x : Script). part < parts_of x.tables) is.work.script_is sendable.part in
      let parts = is.parts in
      let many = zip_length AreOf processes s.tokens is.of_parts in
      (omega (arith, within, parts), omega (arith, within, parts, many))

  -- a message that spells it is the session's own
  pub spelled_out : (part : ℕ) (e : Envelope) → GoesOut s part e → IsEnvelope e
  spelled_out part e out =
      let sendable = (under_way s.asking part e.sync e.request is.work.asking out.1).sendable in
      let number = is.work.number_is ∙ sym out.0 in
      subst (λ (n : ℕ). IsEnvelope (record { opener = n; sync = e.sync; request = e.request })) number sendable.spelled

  pub own_message : (part : ℕ) (e : Envelope) → GoesOut s part e → IsOwnMessage s.asking part (request_bytes e)
  own_message part e out = (e, spelled_out part e out, refl, out.0 ∙ sym is.work.number_is, (under_way s.asking part e.sync e.request is.work.asking out.1).asked)

  -- something stops it
  pub stopped_goes : (stop : Stop) → IsStopped s.asking s.tokens s.commits stop → IsSession script processes journal (record s { stop = Some stop }) × IsSameSession s (record s { stop = Some stop })
  stopped_goes stop h = (
    record {
      work = is.work;
      one = is.one;
      of_parts = is.of_parts;
      parts = is.parts;
      journal_is = is.journal_is;
      losses = λ none. absurd (cc none);
      stops = λ other same. subst (IsStopped s.asking s.tokens s.commits) (some-same stop other same) h;
    },
    record { number = refl; tokens = tokens_still processes s.tokens is.of_parts; commits = commits_still s.commits is.journal_is.1 },
  )
