-- What a session does at one of its partitions.
use Rattle.std.proofs.Common.{◌≡◌, ◌<◌, ℕ, List, length, Ok, Err, refl, sym, ◌∙◌, subst, arith}
use Rattle.std.specs.Prelude.{Result, IfOk, slice_set}
use Rattle.std.proofs.Math.ListN.{get_or}
use Rattle.std.proofs.lemmas.Option.{slice_get_read}
use Rattle.sql_base.specs.declared.scripts.Script.{Script}
use Rattle.sql_base.proofs.ListFacts.{zip_length}
use Rattle.dp_messages.specs.Spelling.{request_bytes}
use Rattle.dp_messages.specs.declared.requests.Envelope.{Envelope}
use Rattle.requester_fs.specs.Asking.{Asking}
use Rattle.turn_lock.specs.Pass.{LockId}
use Rattle.executor_pool.specs.Jobs.{IsOwnMessage}
use Rattle.executor_pool.specs.Tokens.{AreOf, AsksNothing, HasAskedAs, Hears, Leaves}
use Rattle.executor_pool.specs.Sessions.{Goes, GoesOut, HearsAt, IsAwaited, IsSession, Session}
use Rattle.executor_pool.specs.declared.processes.DiskProcess.{DiskProcess}
use Rattle.executor_pool.specs.declared.tokens.Heard.{Heard}
use Rattle.executor_pool.specs.declared.tokens.Tokens.{Tokens}
use Rattle.executor_pool.proofs.Places.{set_get, zip_at}
use Rattle.executor_pool.proofs.Sends.{own_message, part_within, under_way}
use Rattle.executor_pool.proofs.Stepping.{tokens_go}

module _ (script : Script) (processes : List DiskProcess) (journal : LockId) (s : Session) (is : IsSession script processes journal s) (part : ℕ) (within : part < length s.tokens) where
  pub in_processes : part < length processes
  in_processes = let many = zip_length AreOf processes s.tokens is.of_parts in omega (arith, within, many)

  -- its tokens there are those to the process there
  pub of_part : (process : DiskProcess) (t : Tokens) → process ≡ get_or processes part process → t ≡ get_or s.tokens part t → AreOf process t
  of_part process t the_process the_tokens =
      zip_at AreOf processes s.tokens part process t is.of_parts (slice_get_read processes (length processes) part process refl in_processes the_process) (slice_get_read s.tokens (length s.tokens) part t refl within the_tokens)

-- it awaits the reply to a request
module _ (script : Script) (processes : List DiskProcess) (journal : LockId) (s : Session) (is : IsSession script processes journal s) (part sync : ℕ) (awaits : IsAwaited s part sync) where
  pub awaited_within : part < length s.tokens
  awaited_within = (part_within script processes journal s is part sync awaits.0 awaits.1).1

  pub awaited_sync : 0 < sync
  awaited_sync = let least = (under_way s.asking part sync awaits.0 is.work.asking awaits.1).sendable.spelled.sync.0 in omega (arith, least)

-- a call has left its tokens there so
module _ (processes : List DiskProcess) (journal : LockId) (s : Session) (part : ℕ) (t u : Tokens) (within : part < length s.tokens) (the_tokens : t ≡ get_or s.tokens part t) where
  goes_at : (HasDone : Asking → ℕ → Type 0) → Leaves HasDone t u → ((script : Script) → IsSession script processes journal s → HasDone s.asking part) → Goes processes journal s (record s { tokens = slice_set s.tokens part u })
  goes_at HasDone left done script is = tokens_go script processes journal s part t u HasDone is (slice_get_read s.tokens (length s.tokens) part t refl within the_tokens) left (done script is)

  -- it has served a message of others, or looked for a reply
  pub served_goes : Leaves AsksNothing t u → Goes processes journal s (record s { tokens = slice_set s.tokens part u })
  served_goes left = goes_at AsksNothing left (λ script is. tt)

  -- it has posted its request
  pub posted_goes : (e : Envelope) (message : List ℕ) → message ≡ request_bytes e → GoesOut s part e → Leaves (λ a p. IsOwnMessage a p message) t u → Goes processes journal s (record s { tokens = slice_set s.tokens part u })
  posted_goes e message spells out left = goes_at (λ a p. IsOwnMessage a p message) left (λ script is. subst (IsOwnMessage s.asking part) (sym spells) (own_message script processes journal s is part e out))

  -- it has served its request by hand
  pub handed_goes : (e : Envelope) → GoesOut s part e → Leaves (HasAskedAs e.opener e.sync e.request) t u → Goes processes journal s (record s { tokens = slice_set s.tokens part u })
  handed_goes e out left = goes_at (HasAskedAs e.opener e.sync e.request) left (λ script is. (out.0 ∙ sym is.work.number_is, (under_way s.asking part e.sync e.request is.work.asking out.1).asked))

-- what it heard there
pub heard_at : {E : Type 0} (tokens : List Tokens) (part opener sync : ℕ) (u : Tokens) (result : Result Heard E) → part < length tokens → IfOk result (Hears u.pass.seen opener sync) → IfOk result (HearsAt (slice_set tokens part u) part opener sync)
heard_at tokens part opener sync u (Ok heard) within h = (u, set_get tokens part u within, h)
heard_at tokens part opener sync u (Err fault) within h = tt
