-- Each answer leaves a session fewer.
use Rattle.std.proofs.Common.{◌≡◌, ◌≢◌, ◌≤◌, ◌<◌, ℕ, zero, suc, ◌+◌, List, [], ◌∷◌, true, false, arith}
use Rattle.dp_messages.specs.declared.replies.Reply.TheVariants as reply
use Rattle.dp_messages.specs.declared.requests.Ask.{Ask}
use Rattle.dp_messages.specs.declared.requests.Ask.TheVariants as ask
use Rattle.session_grammar.specs.Plans.{Asker}
use Rattle.session_grammar.specs.Sessions.{MayCome}
use Rattle.session_grammar.specs.declared.logs.Answer.{Answer}
use Rattle.session_grammar.specs.declared.logs.Answer.TheVariants.{PathFailed, Reply, Stamp}
use Rattle.session_grammar.specs.declared.logs.LogEntry.{LogEntry}
use Rattle.session_laws.specs.Scaffold.Leading.{Leads, answer_of, next_of}
use Rattle.session_laws.specs.Scaffold.Left.{is_redrive, is_repeat, left, spare_after, times}
use Rattle.session_laws.specs.Scaffold.Machine.{Asks, At, Closes, Over, Place, Prepares, Stamps, after, task_at}
use Rattle.session_laws.proofs.Lefts.{fewer}
use Rattle.requester_fs.specs.Asking.{Advances, spare_of}
use Rattle.requester_fs.specs.Lasting.{led, left_at, spare_at}

-- a log leads to one place
pub led_there : (r : Asker) (log : List LogEntry) (p q : Place) → Leads r p log q → led r p log ≡ q
led_there r [] p q h = h
led_there r (e ∷ log) p q h = led_there r log (after r p (answer_of e)) q h.1

times_more : (n m each : ℕ) → n ≤ m → times n each ≤ times m each
times_more zero m each le = omega arith
times_more (suc n) zero each le = absurd (omega (arith, le))
times_more (suc n) (suc m) each le = omega (arith, times_more n m each (omega (arith, le)))

module _ (r : Asker) (n : ℕ) where
  -- more redrives leave no fewer answers
  left_more : (s s' : ℕ) (p : Place) → s ≤ s' → left r n s p ≤ left r n s' p
  left_more s s' (At t seen (Asks subset part ask repeats sents statements)) le = omega (arith, times_more s s' (r.limits.patience + 1) le)
  left_more s s' (At t seen (Prepares part parts floor)) le = omega arith
  left_more s s' (At t seen (Stamps floor)) le = omega arith
  left_more s s' (At t seen (Closes ask part parts locked)) le = omega arith
  left_more s s' Over le = omega arith

  module _ (above : List ℕ → ℕ) (most : (key : List ℕ) → above key ≤ n) where
    ask_spare : (a : Ask) → spare_of above n a ≤ n
    ask_spare (ask.Continue subset last) = most last
    ask_spare other = omega arith

    all_spare : (p : Place) → spare_at above n p ≤ n
    all_spare (At t seen (Asks subset part ask repeats sents statements)) = ask_spare ask
    all_spare (At t seen (Prepares part parts floor)) = omega arith
    all_spare (At t seen (Stamps floor)) = omega arith
    all_spare (At t seen (Closes ask part parts locked)) = omega arith
    all_spare Over = omega arith

    abbrev Fits : Place → Answer → Type 0
    Fits p answer = spare_at above n (after r p answer) ≤ spare_after r n (is_redrive r n p answer) (is_repeat r n p answer) (spare_at above n p)

    one_less : (k s : ℕ) → k < s → k ≤ spare_after r n true false s
    one_less k zero lt = absurd (omega (arith, lt))
    one_less k (suc s) lt = omega (arith, lt)

    spare_fits : (sync : ℕ) (p : Place) (answer : Answer) → Advances above n (next_of sync (task_at r p)) answer → Fits p answer
    spare_fits sync (At t seen (Asks true part ask repeats sents statements)) (Reply (reply.Redrive number last cause rows changed)) h = one_less (above last) (spare_of above n ask) h
    spare_fits sync (At t seen (Asks false part ask repeats sents statements)) (Reply (reply.Redrive number last cause rows changed)) h =
        all_spare (after r (At t seen (Asks false part ask repeats sents statements)) (Reply (reply.Redrive number last cause rows changed)))
    spare_fits sync (At t seen (Asks true part ask zero sents statements)) (Reply (reply.Locked lock)) h = all_spare (after r (At t seen (Asks true part ask zero sents statements)) (Reply (reply.Locked lock)))
    spare_fits sync (At t seen (Asks false part ask zero sents statements)) (Reply (reply.Locked lock)) h = all_spare (after r (At t seen (Asks false part ask zero sents statements)) (Reply (reply.Locked lock)))
    spare_fits sync (At t seen (Asks true part ask (suc repeats) sents statements)) (Reply (reply.Locked lock)) h = omega arith
    spare_fits sync (At t seen (Asks false part ask (suc repeats) sents statements)) (Reply (reply.Locked lock)) h = omega arith
    spare_fits sync (At t seen (Asks true part ask repeats sents statements)) (Reply x) h = all_spare (after r (At t seen (Asks true part ask repeats sents statements)) (Reply x))
    spare_fits sync (At t seen (Asks false part ask repeats sents statements)) (Reply x) h = all_spare (after r (At t seen (Asks false part ask repeats sents statements)) (Reply x))
    spare_fits sync (At t seen (Asks true part ask repeats sents statements)) PathFailed h = all_spare (after r (At t seen (Asks true part ask repeats sents statements)) PathFailed)
    spare_fits sync (At t seen (Asks false part ask repeats sents statements)) PathFailed h = all_spare (after r (At t seen (Asks false part ask repeats sents statements)) PathFailed)
    spare_fits sync (At t seen (Asks true part ask repeats sents statements)) (Stamp stamp) h = all_spare (after r (At t seen (Asks true part ask repeats sents statements)) (Stamp stamp))
    spare_fits sync (At t seen (Asks false part ask repeats sents statements)) (Stamp stamp) h = all_spare (after r (At t seen (Asks false part ask repeats sents statements)) (Stamp stamp))
    spare_fits sync (At t seen (Prepares part parts floor)) answer h = all_spare (after r (At t seen (Prepares part parts floor)) answer)
    spare_fits sync (At t seen (Stamps floor)) answer h = all_spare (after r (At t seen (Stamps floor)) answer)
    spare_fits sync (At t seen (Closes ask part parts locked)) answer h = all_spare (after r (At t seen (Closes ask part parts locked)) answer)
    spare_fits sync Over answer h = all_spare Over

    -- a redrive has one to spare
    spares : (sync : ℕ) (p : Place) (answer : Answer) → Advances above n (next_of sync (task_at r p)) answer → is_redrive r n p answer ≡ true → spare_at above n p ≢ 0
    spares sync (At t seen (Asks true part ask repeats sents statements)) (Reply (reply.Redrive number last cause rows changed)) h is none = absurd (omega (arith, h, none))
    spares sync (At t seen (Asks false part ask repeats sents statements)) (Reply (reply.Redrive number last cause rows changed)) h is none = absurd (cc is)
    spares sync (At t seen (Asks true part ask repeats sents statements)) (Reply x) h is none = absurd (cc is)
    spares sync (At t seen (Asks false part ask repeats sents statements)) (Reply x) h is none = absurd (cc is)
    spares sync (At t seen (Asks true part ask repeats sents statements)) PathFailed h is none = absurd (cc is)
    spares sync (At t seen (Asks false part ask repeats sents statements)) PathFailed h is none = absurd (cc is)
    spares sync (At t seen (Asks true part ask repeats sents statements)) (Stamp stamp) h is none = absurd (cc is)
    spares sync (At t seen (Asks false part ask repeats sents statements)) (Stamp stamp) h is none = absurd (cc is)
    spares sync (At t seen (Prepares part parts floor)) answer h is none = absurd (cc is)
    spares sync (At t seen (Stamps floor)) answer h is none = absurd (cc is)
    spares sync (At t seen (Closes ask part parts locked)) answer h is none = absurd (cc is)
    spares sync Over answer h is none = absurd (cc is)

    goes_some : (sync losses : ℕ) (p : Place) (answer : Answer) → MayCome (next_of sync (task_at r p)) answer losses → p ≢ Over
    goes_some sync losses (At t seen doing) answer may is = absurd (cc is)
    goes_some sync losses Over answer may is = absurd may

    pub fewer_left : (sync losses : ℕ) (p : Place) (answer : Answer) → MayCome (next_of sync (task_at r p)) answer losses → Advances above n (next_of sync (task_at r p)) answer
        → left_at above n r (after r p answer) < left_at above n r p
    fewer_left sync losses p answer may h =
        let q = after r p answer in
        let rest = spare_after r n (is_redrive r n p answer) (is_repeat r n p answer) (spare_at above n p) in
        omega (arith, fewer r n (spare_at above n p) p answer (goes_some sync losses p answer may) (spares sync p answer h), left_more (spare_at above n q) rest q (spare_fits sync p answer h))
