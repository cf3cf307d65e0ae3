-- The history of a partition is what the one session asked of it.
use Rattle.std.proofs.Common.{◌≡◌, ◌≤◌, ℕ, List, [], ◌∷◌, ◌++◌, filter, Some, refl, ap, sym, ◌∙◌, subst, arith}
use Rattle.std.specs.Prelude.{◌==◌}
use Rattle.std.specs.List.{AllByRecursion}
use Rattle.std.proofs.lemmas.Bool.{eq-eqb}
use Rattle.sql_base.specs.Scripts.{Lies}
use Rattle.dp_messages.specs.declared.requests.Request.{Request}
use Rattle.partition_state.specs.History.{IsLegal, replay}
use Rattle.partition_state.specs.State.{State}
use Rattle.partition_state.specs.Step.{step}
use Rattle.partition_state.specs.declared.entries.Entry.{Entry}
use Rattle.session_grammar.specs.declared.logs.Answer.TheVariants.{Reply, PathFailed, Stamp}
use Rattle.session_grammar.specs.declared.logs.LogEntry.{LogEntry}
use Rattle.session_grammar.specs.declared.logs.LogEntry.TheVariants.{Asked, Drew}
use Rattle.run_record.specs.Headline.{AreHeard}
use Rattle.run_record.specs.Legal.{AreServed}
use Rattle.alone_laws.specs.Scaffold.Served.{Replies, served_by}
use Rattle.dp_messages.specs.declared.replies.Reply.{Reply as PartitionReply}

-- one log behind another
pub served-append : (p : State) (xs ys : List LogEntry) → served_by p (xs ++ ys) ≡ served_by (served_by p xs) ys
served-append p [] ys = refl
served-append p (Asked part sync request losses (Reply r) ∷ xs) ys = served-append (step p 1 sync request).state xs ys
served-append p (Asked part sync request losses PathFailed ∷ xs) ys = served-append p xs ys
served-append p (Asked part sync request losses (Stamp stamp) ∷ xs) ys = served-append p xs ys
served-append p (Drew name floor answer ∷ xs) ys = served-append p xs ys

pub replies-front : (p : State) (xs ys : List LogEntry) → Replies p (xs ++ ys) → Replies p xs
replies-front p [] ys h = tt
replies-front p (Asked part sync request losses (Reply r) ∷ xs) ys h = (h.0, replies-front (step p 1 sync request).state xs ys h.1)
replies-front p (Asked part sync request losses PathFailed ∷ xs) ys h = absurd h
replies-front p (Asked part sync request losses (Stamp stamp) ∷ xs) ys h = absurd h
replies-front p (Drew name floor answer ∷ xs) ys h = replies-front p xs ys h

pub replies-back : (p : State) (xs ys : List LogEntry) → Replies p (xs ++ ys) → Replies (served_by p xs) ys
replies-back p [] ys h = h
replies-back p (Asked part sync request losses (Reply r) ∷ xs) ys h = replies-back (step p 1 sync request).state xs ys h.1
replies-back p (Asked part sync request losses PathFailed ∷ xs) ys h = absurd h
replies-back p (Asked part sync request losses (Stamp stamp) ∷ xs) ys h = absurd h
replies-back p (Drew name floor answer ∷ xs) ys h = replies-back p xs ys h

-- all entries are of session 1
pub all_one : (es : List Entry) → AllByRecursion (λ e. Lies 1 1 e.opener) es → AllByRecursion (λ e. e.opener ≡ 1) es
all_one [] h = tt
all_one (e ∷ es) h = ((let low : 1 ≤ e.opener = h.0.0 in let high : e.opener ≤ 1 = h.0.1 in omega arith), all_one es h.1)

pub own_whole : (es : List Entry) → AllByRecursion (λ e. e.opener ≡ 1) es → filter (λ e. e.opener == 1) es ≡ es
own_whole [] h = refl
own_whole (e ∷ es) h = rw (eq-eqb e.opener 1 h.0) (ap (λ rest. e ∷ rest) (own_whole es h.1))

-- a history that serves a log of heard entries replays as the log leads, and replies as it says
pub record Follows (p : State) (history : List Entry) (log : List LogEntry) : Type 0 where
  pub replies : Replies p log
  pub replayed : replay p history ≡ served_by p log

follows-more : (p : State) (e : Entry) (es : List Entry) (part sync : ℕ) (request : Request) (losses : ℕ) (r : PartitionReply) (log : List LogEntry) → e.opener ≡ 1 → e.sync ≡ sync → e.request ≡ request → e.reply ≡ r
    → (step p e.opener e.sync e.request).reply ≡ Some e.reply → Follows (step p e.opener e.sync e.request).state es log → Follows p (e ∷ es) (Asked part sync request losses (Reply r) ∷ log)
follows-more p e es part sync request losses r log opener_is sync_is request_is reply_is told rest =
    let same : step p e.opener e.sync e.request ≡ step p 1 sync request = λ i. step p (opener_is i) (sync_is i) (request_is i) in
    let behind = subst (λ s. Follows s.state es log) same rest in
    record {
      replies = (ap (λ s. s.reply) (sym same) ∙ told ∙ ap Some reply_is, behind.replies);
      replayed = ap (λ s. replay s.state es) same ∙ behind.replayed;
    }

pub follows_log : (log : List LogEntry) (p : State) (history : List Entry) → AreHeard log → IsLegal p history → AllByRecursion (λ e. e.opener ≡ 1) history → AreServed log history → Follows p history log
follows_log [] p history heard legal own served = record { replies = tt; replayed = ap (replay p) served }
follows_log (Asked part sync request losses (Reply r) ∷ log) p [] heard legal own served = absurd served
follows_log (Asked part sync request losses (Reply r) ∷ log) p (e ∷ es) heard legal own served =
    follows-more p e es part sync request losses r log own.0 served.0.0 served.0.1 served.1 legal.1 (follows_log log (step p e.opener e.sync e.request).state es heard.1 legal.2 own.1 served.2)
follows_log (Asked part sync request losses PathFailed ∷ log) p history heard legal own served = absurd heard.0
follows_log (Asked part sync request losses (Stamp stamp) ∷ log) p history heard legal own served = absurd served
follows_log (Drew name floor answer ∷ log) p history heard legal own served =
    let rest = follows_log log p history heard.1 legal own served in record { replies = rest.replies; replayed = rest.replayed }
