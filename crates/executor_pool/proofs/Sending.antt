-- A session sends its request, or serves it by hand, and then what came of it is taken.
use Rattle.std.proofs.Common.{◌≡◌, ◌≢◌, ◌<◌, ◌++◌, ◌∷◌, ℕ, List, [], replicate, Bool, None, true, false, refl, ap, sym, ◌∙◌, subst, arith}
use Rattle.std.specs.Prelude.{◌==◌, if◌then◌else◌}
use Rattle.std.proofs.lemmas.Bool.{eqb-true, lt-ltb}
use Rattle.sql_base.specs.declared.scripts.Script.{Script}
use Rattle.dp_messages.specs.declared.requests.Request.{Request}
use Rattle.session_grammar.specs.Sessions.{Next, Sends}
use Rattle.requester_fs.specs.Asking.{Asking}
use Rattle.turn_lock.specs.Pass.{LockId}
use Rattle.executor_pool.specs.Sessions.{ChangesTokens, Goes, IsLost, IsOut, IsSession, MayBeLost, Session, TellsOn, carried_now, next_of, seen, turn_of, turn_to}
use Rattle.executor_pool.specs.declared.processes.DiskProcess.{DiskProcess}
use Rattle.executor_pool.specs.declared.sendings.Outgoing.{Outgoing}
use Rattle.executor_pool.specs.declared.sessions.SessionJob.{SessionJob}
use Rattle.executor_pool.specs.declared.sessions.Turn.TheVariants.{Send, ServeByHand}
use Rattle.executor_pool.proofs.Stepping.{goes_after}
use Rattle.executor_pool.proofs.Taking.{lost_goes, lost_told}

-- it serves by hand only what was lost four times, and else sends
by_hand : (s : Session) (part sync : ℕ) (request : Request) → next_of s ≡ Sends part sync request → turn_of s ≡ ServeByHand → s.losses ≡ 4
by_hand s part sync request next turn = by_test (s.losses == 4) refl (subst (λ (n : Next). turn_to s.losses n ≡ ServeByHand) next turn)
  where
    by_test : (b : Bool) → (s.losses == 4) ≡ b → (if b then ServeByHand else Send) ≡ ServeByHand → s.losses ≡ 4
    by_test true same h = eqb-true s.losses 4 same
    by_test false same h = absurd (cc h)

not_by_hand : (s : Session) (part sync : ℕ) (request : Request) → next_of s ≡ Sends part sync request → turn_of s ≡ Send → s.losses ≢ 4
not_by_hand s part sync request next turn is_four =
    let sends : turn_to 4 (Sends part sync request) ≡ Send = subst (λ (n : ℕ). turn_to n (Sends part sync request) ≡ Send) is_four (subst (λ (n : Next). turn_to s.losses n ≡ Send) next turn) in
    absurd (cc sends)

few : (script : Script) (processes : List DiskProcess) (journal : LockId) (s : Session) → IsSession script processes journal s → s.stop ≡ None → (part sync : ℕ) (request : Request) → next_of s ≡ Sends part sync request → turn_of s ≡ Send → s.losses < 4
few script processes journal s is going part sync request next turn =
    let most = (subst (MayBeLost s.losses) next (is.losses going)).0 in
    let other = not_by_hand s part sync request next turn in
    omega (arith, most, other)

is_carried : (losses : ℕ) → losses < 4 → carried_now losses ≡ false ∷ []
is_carried losses below = ap (λ (b : Bool). if b then false ∷ [] else []) (lt-ltb losses 4 below)

handed_in : (losses : ℕ) → losses ≡ 4 → replicate losses true ++ carried_now losses ≡ replicate losses true
handed_in losses four = subst (λ (n : ℕ). replicate n true ++ carried_now n ≡ replicate n true) (sym four) refl

module _ {Q : Type 0} (asking : Q → Asking) (processes : List DiskProcess) (journal : LockId) (before now : SessionJob Q) (out : Outgoing) (is_out : IsOut (seen asking before) out) (rest : ChangesTokens before now) where
  abbrev request : Request
  request = out.envelope.request

  next_still : next_of (seen asking now) ≡ Sends out.part out.envelope.sync request
  next_still = subst (λ (j : SessionJob Q). next_of (seen asking j) ≡ Sends out.part out.envelope.sync request) (sym rest) is_out.goes.1

  -- its path lost the request
  pub lost_on : (after : Session) → Goes processes journal (seen asking before) (seen asking now) → before.stop ≡ None → turn_of (seen asking before) ≡ Send → IsLost out.is_end (seen asking now) after → Goes processes journal (seen asking before) after
  lost_on after goes going turn lost =
      goes_after processes journal (seen asking before) (seen asking now) after goes (λ script is.
      let still = subst (λ (j : SessionJob Q). j.stop ≡ None) (sym rest) going in
      let turn_still = subst (λ (j : SessionJob Q). turn_of (seen asking j) ≡ Send) (sym rest) turn in
      let below = few script processes journal (seen asking now) is still out.part out.envelope.sync request next_still turn_still in
      lost_goes script processes journal (seen asking now) is still out.part out.envelope.sync request after next_still below (subst (λ (b : Bool). IsLost b (seen asking now) after) is_out.is_end lost))

  pub lost_told_on : (after : Session) (loss : Bool) → loss ≡ true → IsLost out.is_end (seen asking now) after → TellsOn (replicate before.losses true ++ loss ∷ []) (seen asking before) after
  lost_told_on after loss is_loss lost =
      let told = lost_told (seen asking now) out.part out.envelope.sync request out.is_end after next_still lost in
      let told_before = subst (λ (j : SessionJob Q). TellsOn (replicate j.losses true ++ true ∷ []) (seen asking j) after) rest told in
      subst (λ (b : Bool). TellsOn (replicate before.losses true ++ b ∷ []) (seen asking before) after) (sym is_loss) told_before

  told_before : (after : Session) → TellsOn (replicate now.losses true ++ carried_now now.losses) (seen asking now) after → TellsOn (replicate before.losses true ++ carried_now before.losses) (seen asking before) after
  told_before after told = subst (λ (j : SessionJob Q). TellsOn (replicate j.losses true ++ carried_now j.losses) (seen asking j) after) rest told

  -- its path carried the request, and the reply was taken
  pub carried_told_on : (after : Session) (loss : Bool) → loss ≡ false → ((script : Script) × IsSession script processes journal (seen asking before)) → before.stop ≡ None → turn_of (seen asking before) ≡ Send
      → TellsOn (replicate now.losses true ++ carried_now now.losses) (seen asking now) after → TellsOn (replicate before.losses true ++ loss ∷ []) (seen asking before) after
  carried_told_on after loss is_loss session going turn told =
      let below = few session.0 processes journal (seen asking before) session.1 going out.part out.envelope.sync request is_out.goes.1 turn in
      let carried = is_carried before.losses below ∙ ap (λ (b : Bool). b ∷ []) (sym is_loss) in
      subst (λ (bs : List Bool). TellsOn (replicate before.losses true ++ bs) (seen asking before) after) carried (told_before after told)

  -- it was served by hand, and the reply was taken
  pub handed_told_on : (after : Session) → turn_of (seen asking before) ≡ ServeByHand → TellsOn (replicate now.losses true ++ carried_now now.losses) (seen asking now) after → TellsOn (replicate before.losses true) (seen asking before) after
  handed_told_on after turn told =
      let four = by_hand (seen asking before) out.part out.envelope.sync request is_out.goes.1 turn in
      subst (λ (bs : List Bool). TellsOn bs (seen asking before) after) (handed_in before.losses four) (told_before after told)
