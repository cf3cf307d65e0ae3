-- Each answer leaves fewer to come.
use Rattle.std.proofs.Common.{◌≡◌, ◌≢◌, ◌≤◌, ◌<◌, ℕ, zero, suc, ◌+◌, List, [], ◌∷◌, length, cond, Bool, true, false, refl, arith}
use Rattle.std.specs.Prelude.{filter, max}
use Rattle.std.specs.List.{range_with_len}
use Rattle.sql_base.specs.Scripts.{parts_of}
use Rattle.sql_base.specs.declared.scripts.Work.{Work}
use Rattle.sql_base.specs.declared.statements.Statement.{Statement}
use Rattle.dp_messages.specs.declared.replies.Reply.TheVariants as reply
use Rattle.dp_messages.specs.declared.requests.Ask.{Ask}
use Rattle.dp_messages.specs.declared.requests.Ask.TheVariants.{EndCommit, EndUndo}
use Rattle.session_grammar.specs.declared.logs.Answer.{Answer}
use Rattle.session_grammar.specs.declared.logs.Answer.TheVariants.{Reply, PathFailed, Stamp}
use Rattle.session_grammar.specs.Plans.{Asker, plan_of, sents_of}
use Rattle.session_grammar.specs.declared.plans.Sent.{Sent}
use Rattle.session_laws.specs.Scaffold.Machine.{Asks, At, Closes, Over, Place, Prepares, Stamps, Trying, after, are_subsets, behind, closes_at, closing, has_seen, in_order, next, prepares_at, see, sents_at, statements_at, trying, undone, went_on, works_at}
use Rattle.session_laws.specs.Scaffold.Left.{behind_left, ending_left, is_redrive, is_repeat, left, sents_left, spare_after, statements_left, times, work_left, works_left}

module _ (r : Asker) (n : ℕ) where
  few : (f : ℕ → Bool) (k a : ℕ) → length (filter f (range_with_len a k)) ≤ k
  few f zero a = omega arith
  few f (suc k) a = by_test (f a) (few f k (a + 1))
    where
      by_test : (b : Bool) → length (filter f (range_with_len (a + 1) k)) ≤ k → length (cond b (a ∷ filter f (range_with_len (a + 1) k)) (filter f (range_with_len (a + 1) k))) ≤ suc k
      by_test true le = omega (arith, le)
      by_test false le = omega (arith, le)

  order_few : (seen : List ℕ) → length (in_order r seen) ≤ parts_of r.tables
  order_few seen = few (has_seen seen) (parts_of r.tables) 0

  closes_most : (t : Trying) (seen : List ℕ) (ask : Ask) (parts : List ℕ) (locked : Bool) (p : Place) → left r n n p ≤ behind_left r n t → left r n n (closes_at t seen ask parts locked p) ≤ length parts + behind_left r n t
  closes_most t seen ask [] locked p h = omega (arith, h)
  closes_most t seen ask (part ∷ parts) locked p h = omega arith

  prepares_most : (t : Trying) (seen parts : List ℕ) (floor : ℕ) → left r n n (prepares_at t seen parts floor) ≤ length parts + 1 + parts_of r.tables + behind_left r n t
  prepares_most t seen [] floor = omega arith
  prepares_most t seen (part ∷ parts) floor = omega arith

  closing_most : (t : Trying) (seen : List ℕ) (commit : Bool) (p : Place) → left r n n p ≤ behind_left r n t → left r n n (closing r t seen commit p) ≤ ending_left r n + behind_left r n t
  closing_most t seen true p h = omega (arith, order_few seen, prepares_most t seen (in_order r seen) 0)
  closing_most t seen false p h = omega (arith, order_few seen, closes_most t seen EndUndo (in_order r seen) false p h)

  sents_most : (t : Trying) (seen : List ℕ) (subset : Bool) (sents : List Sent) (statements : List Statement) (p : Place)
      → left r n n p ≤ statements_left r n statements + ending_left r n + behind_left r n t
      → left r n n (sents_at r t seen subset sents statements p) ≤ sents_left r n sents + statements_left r n statements + ending_left r n + behind_left r n t
  sents_most t seen subset [] statements p h = omega (arith, h)
  sents_most t seen subset (sent ∷ sents) statements p h = omega arith

  statements_most : (t : Trying) (seen : List ℕ) (statements : List Statement) (p : Place) → left r n n p ≤ behind_left r n t
      → left r n n (statements_at r t seen statements p) ≤ statements_left r n statements + ending_left r n + behind_left r n t
  statements_most t seen [] p h = omega (arith, closing_most t seen t.work.commit p h)
  statements_most t seen (s ∷ statements) p h =
      let rest = statements_most t seen statements p h in
      let most = sents_most t seen (are_subsets (plan_of r s)) (sents_of (plan_of r s)) statements (statements_at r t seen statements p) rest in
      omega (arith, most)

  pub works_most : (works : List Work) (ordinal : ℕ) → left r n n (works_at r ordinal works) ≤ works_left r n works
  works_most [] ordinal = omega arith
  works_most (work ∷ works) ordinal =
      let t = trying ordinal r.limits.restart work works in
      let rest = works_most works (ordinal + 1) in
      let here : left r n n (works_at r (ordinal + 1) works) ≤ behind_left r n t = omega (arith, rest) in
      let most = statements_most t [] work.statements (works_at r (ordinal + 1) works) here in
      omega (arith, most, one_more r.limits.restart (work_left r n work))
    where
      one_more : (k each : ℕ) → times (k + 1) each ≡ each + times k each
      one_more k each = let same : k + 1 ≡ suc k = omega arith in rw same refl

  behind_most : (ordinal more : ℕ) (work : Work) (works : List Work) (locked : Bool) → left r n n (behind r (trying ordinal more work works) locked) ≤ behind_left r n (trying ordinal more work works)
  behind_most ordinal more work works false = omega (arith, works_most works (ordinal + 1))
  behind_most ordinal zero work works true = omega (arith, works_most works (ordinal + 1))
  behind_most ordinal (suc more) work works true =
      let t = trying (ordinal + 1) more work works in
      let rest = works_most works (ordinal + 1 + 1) in
      let here : left r n n (works_at r (ordinal + 1 + 1) works) ≤ behind_left r n t = omega (arith, rest) in
      omega (arith, statements_most t [] work.statements (works_at r (ordinal + 1 + 1) works) here)

  next_most : (t : Trying) → left r n n (next r t) ≤ behind_left r n t
  next_most t = omega (arith, works_most t.works (t.ordinal + 1))

  undone_most : (t : Trying) (seen : List ℕ) (locked : Bool) → left r n n (undone r t seen locked) ≤ parts_of r.tables + behind_left r n t
  undone_most t seen locked = omega (arith, order_few seen, closes_most t seen EndUndo (in_order r seen) locked (behind r t locked) (behind_most t.ordinal t.restarts t.work t.works locked))

  went_most : (t : Trying) (seen : List ℕ) (subset : Bool) (sents : List Sent) (statements : List Statement)
      → left r n n (went_on r t seen subset sents statements) ≤ sents_left r n sents + statements_left r n statements + ending_left r n + behind_left r n t
  went_most t seen subset sents statements = sents_most t seen subset sents statements (statements_at r t seen statements (next r t)) (statements_most t seen statements (next r t) (next_most t))

  -- an answer leaves fewer
  abbrev pub Fewer : ℕ → Place → Answer → Type 0
  Fewer spare p answer = left r n (spare_after r n (is_redrive r n p answer) (is_repeat r n p answer) spare) (after r p answer) < left r n spare p

  pub fewer : (spare : ℕ) (p : Place) (answer : Answer) → p ≢ Over → (is_redrive r n p answer ≡ true → spare ≢ 0) → Fewer spare p answer
  fewer spare Over answer some spares = absurd (some refl)
  fewer zero (At t seen (Asks true part ask repeats sents statements)) (Reply (reply.Redrive number last cause rows changed)) some spares = absurd (spares refl refl)
  fewer (suc spare) (At t seen (Asks true part ask repeats sents statements)) (Reply (reply.Redrive number last cause rows changed)) some spares = omega arith
  fewer spare (At t seen (Asks false part ask repeats sents statements)) (Reply (reply.Redrive number last cause rows changed)) some spares = omega (arith, went_most t (see part seen) false sents statements)
  fewer spare (At t seen (Asks true part ask zero sents statements)) (Reply (reply.Locked lock)) some spares = omega (arith, undone_most t (see part seen) true)
  fewer spare (At t seen (Asks false part ask zero sents statements)) (Reply (reply.Locked lock)) some spares = omega (arith, undone_most t (see part seen) true)
  fewer spare (At t seen (Asks true part ask (suc repeats) sents statements)) (Reply (reply.Locked lock)) some spares = omega arith
  fewer spare (At t seen (Asks false part ask (suc repeats) sents statements)) (Reply (reply.Locked lock)) some spares = omega arith
  fewer spare (At t seen (Asks true part ask repeats sents statements)) (Reply (reply.Failed key fault)) some spares = omega (arith, undone_most t (see part seen) false)
  fewer spare (At t seen (Asks false part ask repeats sents statements)) (Reply (reply.Failed key fault)) some spares = omega (arith, undone_most t (see part seen) false)
  fewer spare (At t seen (Asks true part ask repeats sents statements)) (Reply (reply.DuplicateKey key)) some spares = omega (arith, undone_most t (see part seen) false)
  fewer spare (At t seen (Asks false part ask repeats sents statements)) (Reply (reply.DuplicateKey key)) some spares = omega (arith, undone_most t (see part seen) false)
  fewer spare (At t seen (Asks true part ask repeats sents statements)) (Reply x) some spares = omega (arith, went_most t (see part seen) true sents statements)
  fewer spare (At t seen (Asks false part ask repeats sents statements)) (Reply x) some spares = omega (arith, went_most t (see part seen) false sents statements)
  fewer spare (At t seen (Asks true part ask repeats sents statements)) PathFailed some spares = omega (arith, undone_most t (see part seen) false)
  fewer spare (At t seen (Asks false part ask repeats sents statements)) PathFailed some spares = omega (arith, undone_most t (see part seen) false)
  fewer spare (At t seen (Asks true part ask repeats sents statements)) (Stamp stamp) some spares = omega (arith, went_most t (see part seen) true sents statements)
  fewer spare (At t seen (Asks false part ask repeats sents statements)) (Stamp stamp) some spares = omega (arith, went_most t (see part seen) false sents statements)
  fewer spare (At t seen (Prepares part parts floor)) (Reply (reply.Floor f)) some spares = omega (arith, prepares_most t seen parts (max floor f))
  fewer spare (At t seen (Prepares part parts floor)) answer some spares = omega (arith, undone_most t seen false)
  fewer spare (At t seen (Stamps floor)) (Stamp stamp) some spares =
      omega (arith, order_few seen, closes_most t seen (EndCommit stamp) (in_order r seen) false (next r t) (next_most t))
  fewer spare (At t seen (Stamps floor)) answer some spares = omega (arith, undone_most t seen false)
  fewer spare (At t seen (Closes ask part parts locked)) answer some spares = omega (arith, closes_most t seen ask parts locked (behind r t locked) (behind_most t.ordinal t.restarts t.work t.works locked))
