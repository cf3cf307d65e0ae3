-- A log has one reading, and no log that follows is the front of another, wherever the part of a statement is read in one way.
use Rattle.std.proofs.Common.{◌≡◌, ℕ, zero, suc, ◌+◌, List, [], ◌∷◌, ◌++◌, Option, Some, None, Bool, true, false, refl, ap, sym, ◌∙◌, subst, inl, inr, append_assoc, length}
use Rattle.std.proofs.lemmas.List.{append-nil, append_cancel_left}
use Rattle.std.proofs.lemmas.Grind.{flat_map-append}
use Rattle.std.specs.Prelude.{flat_map}
use Rattle.sql_base.specs.declared.lock_names.TxnName.{TxnName}
use Rattle.sql_base.specs.declared.outcomes.Abort.{Abort}
use Rattle.sql_base.specs.declared.outcomes.Outcome.{Outcome}
use Rattle.sql_base.specs.declared.outcomes.Outcome.TheVariants.{Committed}
use Rattle.sql_base.specs.declared.scripts.Work.{Work}
use Rattle.sql_base.specs.declared.statements.Statement.{Statement}
use Rattle.dp_messages.specs.declared.replies.Reply.TheVariants as reply
use Rattle.dp_messages.specs.declared.requests.Ask.{Ask}
use Rattle.dp_messages.specs.declared.requests.Ask.TheVariants.{EndCommit, EndUndo, Prepare}
use Rattle.dp_messages.specs.declared.requests.Request.{Request}
use Rattle.session_grammar.specs.declared.logs.Answer.{Answer}
use Rattle.session_grammar.specs.declared.logs.Answer.TheVariants.{Reply, PathFailed, Stamp}
use Rattle.session_grammar.specs.declared.logs.LogEntry.{LogEntry}
use Rattle.session_grammar.specs.declared.logs.LogEntry.TheVariants.{Drew}
use Rattle.session_grammar.specs.Follows.{AreAttempts, AreEnds, ArePrepares, AreTries, Attempt, Commits, InTurn, IsAttempt, IsEnding, LosesPrepare, Reads, entries_of, greatest_of, joined, touched}
use Rattle.session_grammar.specs.Plans.{Asker}
use Rattle.session_grammar.specs.Rows.{IsAsked}
use Rattle.session_laws.specs.Scaffold.Leading.{answer_of}
use Rattle.session_laws.proofs.Rows.{Same, asked_answer, first_same, regroup, rest_same, turns_same}
use Rattle.session_grammar.proofs.Readings.{behind_same}
use Rattle.session_grammar.proofs.ScanReadings.{same_attempt}

-- two endings and their outcomes are the same
record SameEnding (xs ys : List LogEntry) (a b : Outcome) : Type 0 where
  ending : xs ≡ ys
  outcome : a ≡ b

-- as many Ends for the same partitions
ends_same : (ordinal : ℕ) (ask bask : Ask) (parts : List ℕ) (xs ys us vs : List LogEntry) → AreEnds ordinal ask parts xs → AreEnds ordinal bask parts ys → xs ++ us ≡ ys ++ vs → xs ≡ ys
ends_same ordinal ask bask [] [] [] us vs h k is = refl
ends_same ordinal ask bask [] (x ∷ xs) ys us vs h k is = absurd h
ends_same ordinal ask bask [] [] (y ∷ ys) us vs h k is = absurd k
ends_same ordinal ask bask (part ∷ parts) [] ys us vs h k is = absurd h
ends_same ordinal ask bask (part ∷ parts) (x ∷ xs) [] us vs h k is = absurd k
ends_same ordinal ask bask (part ∷ parts) (x ∷ xs) (y ∷ ys) us vs h k is =
    let more = ends_same ordinal ask bask parts xs ys us vs h.1 k.1 (rest_same x y (xs ++ us) (ys ++ vs) is) in
    ap (λ z. z ∷ xs) (first_same x y (xs ++ us) (ys ++ vs) is) ∙ ap (λ z. y ∷ z) more

-- an entry that was answered so isn't one answered otherwise
apart : (part qart : ℕ) (request q : Request) (a b : Answer) (e f : LogEntry) → IsAsked part request a e → IsAsked qart q b f → e ≡ f → a ≡ b
apart part qart request q a b e f h k same = sym (asked_answer part request a e h) ∙ ap answer_of same ∙ asked_answer qart q b f k

no_drew : (part : ℕ) (request : Request) (answer : Answer) (e : LogEntry) (name : TxnName) (floor : ℕ) (a : Answer) → IsAsked part request answer e → e ≡ Drew name floor a → ⊥
no_drew part request answer e name floor a h is = subst (IsAsked part request answer) is h

record SameCommit (xs ys us vs : List LogEntry) (d e : LogEntry) : Type 0 where
  prepares : xs ≡ ys
  drew : d ≡ e
  behind : us ≡ vs

module _ (ordinal : ℕ) where
  -- Prepares up to a draw
  commit_same : (parts qarts : List ℕ) (xs ys us vs : List LogEntry) (floors gloors : List ℕ) (n m : TxnName) (f g : ℕ) (a b : Answer)
      → ArePrepares ordinal parts xs floors → ArePrepares ordinal qarts ys gloors → xs ++ Drew n f a ∷ us ≡ ys ++ Drew m g b ∷ vs → SameCommit xs ys us vs (Drew n f a) (Drew m g b)
  commit_same parts qarts [] [] us vs floors gloors n m f g a b h k is =
      record { prepares = refl; drew = first_same (Drew n f a) (Drew m g b) us vs is; behind = rest_same (Drew n f a) (Drew m g b) us vs is }
  commit_same parts [] [] (y ∷ ys) us vs floors gloors n m f g a b h k is = absurd k
  commit_same parts (q ∷ qarts) [] (y ∷ ys) us vs floors [] n m f g a b h k is = absurd k
  commit_same parts (q ∷ qarts) [] (y ∷ ys) us vs floors (gloor ∷ gloors) n m f g a b h k is =
      absurd (no_drew q (record { ordinal = ordinal; ask = Prepare }) (Reply (reply.Floor gloor)) y n f a k.0 (sym (first_same (Drew n f a) y us (ys ++ Drew m g b ∷ vs) is)))
  commit_same [] qarts (x ∷ xs) ys us vs floors gloors n m f g a b h k is = absurd h
  commit_same (p ∷ parts) qarts (x ∷ xs) ys us vs [] gloors n m f g a b h k is = absurd h
  commit_same (p ∷ parts) qarts (x ∷ xs) [] us vs (floor ∷ floors) gloors n m f g a b h k is =
      absurd (no_drew p (record { ordinal = ordinal; ask = Prepare }) (Reply (reply.Floor floor)) x m g b h.0 (first_same x (Drew m g b) (xs ++ Drew n f a ∷ us) vs is))
  commit_same (p ∷ parts) [] (x ∷ xs) (y ∷ ys) us vs (floor ∷ floors) gloors n m f g a b h k is = absurd k
  commit_same (p ∷ parts) (q ∷ qarts) (x ∷ xs) (y ∷ ys) us vs (floor ∷ floors) [] n m f g a b h k is = absurd k
  commit_same (p ∷ parts) (q ∷ qarts) (x ∷ xs) (y ∷ ys) us vs (floor ∷ floors) (gloor ∷ gloors) n m f g a b h k is =
      let more = commit_same parts qarts xs ys us vs floors gloors n m f g a b h.1 k.1 (rest_same x y (xs ++ Drew n f a ∷ us) (ys ++ Drew m g b ∷ vs) is) in
      record {
        prepares = ap (λ z. z ∷ xs) (first_same x y (xs ++ Drew n f a ∷ us) (ys ++ Drew m g b ∷ vs) is) ∙ ap (λ z. y ∷ z) more.prepares;
        drew = more.drew;
        behind = more.behind;
      }

  -- Prepares up to one that is lost
  abbrev Lost : LogEntry → Type 0
  Lost e = (part : ℕ) × IsAsked part (record { ordinal = ordinal; ask = Prepare }) PathFailed e

  floor_lost : (part floor : ℕ) (e f : LogEntry) → IsAsked part (record { ordinal = ordinal; ask = Prepare }) (Reply (reply.Floor floor)) e → Lost f → e ≡ f → ⊥
  floor_lost part floor e f h k same =
      let never = apart part k.0 (record { ordinal = ordinal; ask = Prepare }) (record { ordinal = ordinal; ask = Prepare }) (Reply (reply.Floor floor)) PathFailed e f h k.1 same in
      absurd (cc never)

  lost_same : (parts qarts : List ℕ) (xs ys us vs : List LogEntry) (floors gloors : List ℕ) (d e : LogEntry)
      → ArePrepares ordinal parts xs floors → ArePrepares ordinal qarts ys gloors → Lost d → Lost e → xs ++ d ∷ us ≡ ys ++ e ∷ vs → SameCommit xs ys us vs d e
  lost_same parts qarts [] [] us vs floors gloors d e h k l m is = record { prepares = refl; drew = first_same d e us vs is; behind = rest_same d e us vs is }
  lost_same parts [] [] (y ∷ ys) us vs floors gloors d e h k l m is = absurd k
  lost_same parts (q ∷ qarts) [] (y ∷ ys) us vs floors [] d e h k l m is = absurd k
  lost_same parts (q ∷ qarts) [] (y ∷ ys) us vs floors (gloor ∷ gloors) d e h k l m is = absurd (floor_lost q gloor y d k.0 l (sym (first_same d y us (ys ++ e ∷ vs) is)))
  lost_same [] qarts (x ∷ xs) ys us vs floors gloors d e h k l m is = absurd h
  lost_same (p ∷ parts) qarts (x ∷ xs) ys us vs [] gloors d e h k l m is = absurd h
  lost_same (p ∷ parts) qarts (x ∷ xs) [] us vs (floor ∷ floors) gloors d e h k l m is = absurd (floor_lost p floor x e h.0 m (first_same x e (xs ++ d ∷ us) vs is))
  lost_same (p ∷ parts) [] (x ∷ xs) (y ∷ ys) us vs (floor ∷ floors) gloors d e h k l m is = absurd k
  lost_same (p ∷ parts) (q ∷ qarts) (x ∷ xs) (y ∷ ys) us vs (floor ∷ floors) [] d e h k l m is = absurd k
  lost_same (p ∷ parts) (q ∷ qarts) (x ∷ xs) (y ∷ ys) us vs (floor ∷ floors) (gloor ∷ gloors) d e h k l m is =
      let more = lost_same parts qarts xs ys us vs floors gloors d e h.1 k.1 l m (rest_same x y (xs ++ d ∷ us) (ys ++ e ∷ vs) is) in
      record {
        prepares = ap (λ z. z ∷ xs) (first_same x y (xs ++ d ∷ us) (ys ++ e ∷ vs) is) ∙ ap (λ z. y ∷ z) more.prepares;
        drew = more.drew;
        behind = more.behind;
      }

  -- a draw and a Prepare that is lost never stand for each other
  drew_or_lost : (parts qarts : List ℕ) (xs ys us vs : List LogEntry) (floors gloors : List ℕ) (n : TxnName) (f : ℕ) (a : Answer) (e : LogEntry)
      → ArePrepares ordinal parts xs floors → ArePrepares ordinal qarts ys gloors → Lost e → xs ++ Drew n f a ∷ us ≡ ys ++ e ∷ vs → ⊥
  drew_or_lost parts qarts [] [] us vs floors gloors n f a e h k l is = no_drew l.0 (record { ordinal = ordinal; ask = Prepare }) PathFailed e n f a l.1 (sym (first_same (Drew n f a) e us vs is))
  drew_or_lost parts [] [] (y ∷ ys) us vs floors gloors n f a e h k l is = absurd k
  drew_or_lost parts (q ∷ qarts) [] (y ∷ ys) us vs floors [] n f a e h k l is = absurd k
  drew_or_lost parts (q ∷ qarts) [] (y ∷ ys) us vs floors (gloor ∷ gloors) n f a e h k l is =
      no_drew q (record { ordinal = ordinal; ask = Prepare }) (Reply (reply.Floor gloor)) y n f a k.0 (sym (first_same (Drew n f a) y us (ys ++ e ∷ vs) is))
  drew_or_lost [] qarts (x ∷ xs) ys us vs floors gloors n f a e h k l is = absurd h
  drew_or_lost (p ∷ parts) qarts (x ∷ xs) ys us vs [] gloors n f a e h k l is = absurd h
  drew_or_lost (p ∷ parts) qarts (x ∷ xs) [] us vs (floor ∷ floors) gloors n f a e h k l is = floor_lost p floor x e h.0 l (first_same x e (xs ++ Drew n f a ∷ us) vs is)
  drew_or_lost (p ∷ parts) [] (x ∷ xs) (y ∷ ys) us vs (floor ∷ floors) gloors n f a e h k l is = absurd k
  drew_or_lost (p ∷ parts) (q ∷ qarts) (x ∷ xs) (y ∷ ys) us vs (floor ∷ floors) [] n f a e h k l is = absurd k
  drew_or_lost (p ∷ parts) (q ∷ qarts) (x ∷ xs) (y ∷ ys) us vs (floor ∷ floors) (gloor ∷ gloors) n f a e h k l is =
      drew_or_lost parts qarts xs ys us vs floors gloors n f a e h.1 k.1 l (rest_same x y (xs ++ Drew n f a ∷ us) (ys ++ e ∷ vs) is)

-- an attempt by its fields
abbrev attempt : Work → ℕ → List (List LogEntry) → List LogEntry → Outcome → Attempt
attempt work ordinal parts ending outcome = record { work = work; ordinal = ordinal; parts = parts; ending = ending; outcome = outcome }

module _ (r : Asker) (work : Work) (ordinal : ℕ) (parts : List (List LogEntry)) where
  abbrev of : List LogEntry → Outcome → Attempt
  of ending outcome = attempt work ordinal parts ending outcome

  -- moved behind what was said of an ending
  whole : (xs ys us vs ms ns : List LogEntry) → xs ≡ ms → ys ≡ ns → xs ++ us ≡ ys ++ vs → ms ++ us ≡ ns ++ vs
  whole xs ys us vs ms ns h k is = ap (λ x. x ++ us) (sym h) ∙ is ∙ ap (λ x. x ++ vs) k

  stamp_of : (n m : TxnName) (f g s t : ℕ) → Drew n f (Stamp s) ≡ Drew m g (Stamp t) → s ≡ t
  stamp_of n m f g s t h = cc h

  commits_same : (xs ys us vs : List LogEntry) (a b : Outcome) → Commits r (of xs a) → Commits r (of ys b) → xs ++ us ≡ ys ++ vs → SameEnding xs ys a b
  commits_same xs ys us vs a b h k is =
      let name : TxnName = record { session = r.number; ordinal = ordinal } in
      let d = Drew name (greatest_of h.floors) (Stamp h.stamp) in
      let e = Drew name (greatest_of k.floors) (Stamp k.stamp) in
      let all = whole xs ys us vs (h.prepares ++ d ∷ h.ends) (k.prepares ++ e ∷ k.ends) h.ending_is k.ending_is is in
      let split = sym (append_assoc h.prepares (d ∷ h.ends) us) ∙ all ∙ append_assoc k.prepares (e ∷ k.ends) vs in
      let same = commit_same ordinal (touched r (of xs a)) (touched r (of ys b)) h.prepares k.prepares (h.ends ++ us) (k.ends ++ vs) h.floors k.floors name name (greatest_of h.floors) (greatest_of k.floors) (Stamp h.stamp) (Stamp k.stamp) h.prepared k.prepared split in
      let ends = ends_same ordinal (EndCommit h.stamp) (EndCommit k.stamp) (touched r (of xs a)) h.ends k.ends us vs h.ended k.ended same.behind in
      let stamps = stamp_of name name (greatest_of h.floors) (greatest_of k.floors) h.stamp k.stamp same.drew in
      record {
        ending = h.ending_is ∙ ap (λ x. x ++ d ∷ h.ends) same.prepares ∙ ap (λ x. k.prepares ++ x ∷ h.ends) same.drew ∙ ap (λ x. k.prepares ++ e ∷ x) ends ∙ sym k.ending_is;
        outcome = h.outcome_is ∙ ap Committed stamps ∙ sym k.outcome_is;
      }

  loses_same : (xs ys us vs : List LogEntry) (a b : Outcome) → LosesPrepare r (of xs a) → LosesPrepare r (of ys b) → xs ++ us ≡ ys ++ vs → SameEnding xs ys a b
  loses_same xs ys us vs a b h k is =
      let all = whole xs ys us vs (h.prepares ++ h.lost ∷ h.ends) (k.prepares ++ k.lost ∷ k.ends) h.ending_is k.ending_is is in
      let split = sym (append_assoc h.prepares (h.lost ∷ h.ends) us) ∙ all ∙ append_assoc k.prepares (k.lost ∷ k.ends) vs in
      let same = lost_same ordinal h.front k.front h.prepares k.prepares (h.ends ++ us) (k.ends ++ vs) h.floors k.floors h.lost k.lost h.prepared k.prepared (h.part, h.lost_is) (k.part, k.lost_is) split in
      let ends = ends_same ordinal EndUndo EndUndo (touched r (of xs a)) h.ends k.ends us vs h.undone k.undone same.behind in
      record {
        ending = h.ending_is ∙ ap (λ x. x ++ h.lost ∷ h.ends) same.prepares ∙ ap (λ x. k.prepares ++ x ∷ h.ends) same.drew ∙ ap (λ x. k.prepares ++ k.lost ∷ x) ends ∙ sym k.ending_is;
        outcome = h.outcome_is ∙ sym k.outcome_is;
      }

  never_both : (xs ys us vs : List LogEntry) (a b : Outcome) → Commits r (of xs a) → LosesPrepare r (of ys b) → xs ++ us ≡ ys ++ vs → ⊥
  never_both xs ys us vs a b h k is =
      let name : TxnName = record { session = r.number; ordinal = ordinal } in
      let d = Drew name (greatest_of h.floors) (Stamp h.stamp) in
      let all = whole xs ys us vs (h.prepares ++ d ∷ h.ends) (k.prepares ++ k.lost ∷ k.ends) h.ending_is k.ending_is is in
      let split = sym (append_assoc h.prepares (d ∷ h.ends) us) ∙ all ∙ append_assoc k.prepares (k.lost ∷ k.ends) vs in
      drew_or_lost ordinal (touched r (of xs a)) k.front h.prepares k.prepares (h.ends ++ us) (k.ends ++ vs) h.floors k.floors name (greatest_of h.floors) (Stamp h.stamp) k.lost h.prepared k.prepared (k.part, k.lost_is) split

  -- what ends an attempt is read in one way
  ending_same : (end : Option Abort) (commit : Bool) (xs ys us vs : List LogEntry) (a b : Outcome) → IsEnding r (of xs a) end commit → IsEnding r (of ys b) end commit → xs ++ us ≡ ys ++ vs
      → SameEnding xs ys a b
  ending_same (Some abort) commit xs ys us vs a b h k is =
      record { ending = ends_same ordinal EndUndo EndUndo (touched r (of xs a)) xs ys us vs h.0 k.0 is; outcome = h.1 ∙ sym k.1 }
  ending_same None false xs ys us vs a b h k is =
      record { ending = ends_same ordinal EndUndo EndUndo (touched r (of xs a)) xs ys us vs h.0 k.0 is; outcome = h.1 ∙ sym k.1 }
  ending_same None true xs ys us vs a b (inl h) (inl k) is = commits_same xs ys us vs a b h k is
  ending_same None true xs ys us vs a b (inr h) (inr k) is = loses_same xs ys us vs a b h k is
  ending_same None true xs ys us vs a b (inl h) (inr k) is = absurd (never_both xs ys us vs a b h k is)
  ending_same None true xs ys us vs a b (inr h) (inl k) is = absurd (never_both ys xs vs us b a k h (sym is))

module _ (P : Asker → ℕ → Statement → List LogEntry → Option Abort → Type 0) (r : Asker) (Then : Option Abort → List LogEntry → Type 0) (then_none : (us : List LogEntry) → Then None us)
    (then_ending : (work : Work) (ordinal : ℕ) (a : Attempt) (end : Option Abort) → IsAttempt P r work ordinal a → InTurn (P r ordinal) work.statements a.parts end → IsEnding r a end work.commit → (us : List LogEntry) → Then end (a.ending ++ us))
    (one : (ordinal : ℕ) (s : Statement) (xs ys us vs : List LogEntry) (e f : Option Abort) → P r ordinal s xs e → P r ordinal s ys f → Then e us → Then f vs → xs ++ us ≡ ys ++ vs → Same xs ys e f) where
  attempts_same : (work : Work) (ordinal : ℕ) (a b : Attempt) (us vs : List LogEntry) → IsAttempt P r work ordinal a → IsAttempt P r work ordinal b → entries_of a ++ us ≡ entries_of b ++ vs → a ≡ b
  attempts_same work ordinal a b us vs h k is =
      let e = h.parts_and_ending.0 in
      let f = k.parts_and_ending.0 in
      let split = regroup (joined a.parts) a.ending us (joined b.parts) b.ending vs is in
      let parts = turns_same (P r ordinal) Then then_none (one ordinal) work.statements a.parts b.parts (a.ending ++ us) (b.ending ++ vs) e f h.parts_and_ending.1 k.parts_and_ending.1
      (then_ending work ordinal a e h h.parts_and_ending.1 h.parts_and_ending.2 us) (then_ending work ordinal b f k k.parts_and_ending.1 k.parts_and_ending.2 vs) split in
      let behind = behind_same (joined a.parts) (joined b.parts) (a.ending ++ us) (b.ending ++ vs) (ap joined parts.lists) split in
      let works = h.of_work ∙ sym k.of_work in
      let ordinals = h.numbered ∙ sym k.numbered in
      let first : IsEnding r (attempt b.work b.ordinal b.parts a.ending a.outcome) f work.commit =
      subst (λ x. IsEnding r (attempt b.work b.ordinal b.parts a.ending a.outcome) x work.commit) parts.end
      (subst (λ x. IsEnding r (attempt b.work b.ordinal x a.ending a.outcome) e work.commit) parts.lists
      (subst (λ x. IsEnding r (attempt b.work x a.parts a.ending a.outcome) e work.commit) ordinals
      (subst (λ x. IsEnding r (attempt x a.ordinal a.parts a.ending a.outcome) e work.commit) works h.parts_and_ending.2))) in
      let ending = ending_same r b.work b.ordinal b.parts f work.commit a.ending b.ending us vs a.outcome b.outcome first k.parts_and_ending.2 behind in
      same_attempt a.work b.work a.ordinal b.ordinal a.parts b.parts a.ending b.ending a.outcome b.outcome works ordinals parts.lists ending.ending ending.outcome

  tries_same : (work : Work) (ordinal more : ℕ) (tries bries : List Attempt) (us vs : List LogEntry) → AreTries P r work ordinal more tries → AreTries P r work ordinal more bries
      → flat_map entries_of tries ++ us ≡ flat_map entries_of bries ++ vs → tries ≡ bries
  tries_same work ordinal more [] bries us vs h k is = absurd h
  tries_same work ordinal more (a ∷ tries) [] us vs h k is = absurd k
  tries_same work ordinal more (a ∷ []) (b ∷ []) us vs h k is =
      ap (λ (x : Attempt). x ∷ []) (attempts_same work ordinal a b us vs h.0 k.0 (ap (λ x. x ++ us) (sym (append-nil (entries_of a))) ∙ is ∙ ap (λ x. x ++ vs) (append-nil (entries_of b))))
  tries_same work ordinal zero (a ∷ []) (b ∷ c ∷ bries) us vs h k is = absurd k
  tries_same work ordinal zero (a ∷ c ∷ tries) bries us vs h k is = absurd h
  tries_same work ordinal (suc more) (a ∷ []) (b ∷ c ∷ bries) us vs h k is =
      let split = regroup (entries_of a) [] us (entries_of b) (flat_map entries_of (c ∷ bries)) vs is in
      let same = attempts_same work ordinal a b us (flat_map entries_of (c ∷ bries) ++ vs) h.0 k.0 split in
      let none = h.1 (ap (λ (x : Attempt). x.outcome) same ∙ k.1) in
      absurd (cc none)
  tries_same work ordinal (suc more) (a ∷ c ∷ tries) (b ∷ []) us vs h k is =
      let split = regroup (entries_of a) (flat_map entries_of (c ∷ tries)) us (entries_of b) [] vs is in
      let same = attempts_same work ordinal a b (flat_map entries_of (c ∷ tries) ++ us) vs h.0 k.0 split in
      let none = k.1 (ap (λ (x : Attempt). x.outcome) (sym same) ∙ h.1) in
      absurd (cc none)
  tries_same work ordinal (suc more) (a ∷ c ∷ tries) (b ∷ d ∷ bries) us vs h k is =
      let split = regroup (entries_of a) (flat_map entries_of (c ∷ tries)) us (entries_of b) (flat_map entries_of (d ∷ bries)) vs is in
      let same = attempts_same work ordinal a b (flat_map entries_of (c ∷ tries) ++ us) (flat_map entries_of (d ∷ bries) ++ vs) h.0 k.0 split in
      let behind = behind_same (entries_of a) (entries_of b) (flat_map entries_of (c ∷ tries) ++ us) (flat_map entries_of (d ∷ bries) ++ vs) (ap entries_of same) split in
      let more_same = tries_same work (ordinal + 1) more (c ∷ tries) (d ∷ bries) us vs h.2 k.2 behind in
      ap (λ (x : Attempt). x ∷ c ∷ tries) same ∙ ap (λ (x : List Attempt). b ∷ x) more_same

  -- two readings of logs of which one may go on
  pub readings_same : (ordinal : ℕ) (works : List Work) (xs ys : List Attempt) (us vs : List LogEntry) → AreAttempts P r ordinal works xs → AreAttempts P r ordinal works ys
      → flat_map entries_of xs ++ us ≡ flat_map entries_of ys ++ vs → xs ≡ ys
  readings_same ordinal [] xs ys us vs h k is = h ∙ sym k
  readings_same ordinal (work ∷ works) xs ys us vs h k is =
      let xs_are = ap (flat_map entries_of) h.2 ∙ flat_map-append entries_of h.0 h.1 in
      let ys_are = ap (flat_map entries_of) k.2 ∙ flat_map-append entries_of k.0 k.1 in
      let all = ap (λ x. x ++ us) (sym xs_are) ∙ is ∙ ap (λ x. x ++ vs) ys_are in
      let split = regroup (flat_map entries_of h.0) (flat_map entries_of h.1) us (flat_map entries_of k.0) (flat_map entries_of k.1) vs all in
      let tries = tries_same work ordinal r.limits.restart h.0 k.0 (flat_map entries_of h.1 ++ us) (flat_map entries_of k.1 ++ vs) h.3 k.3 split in
      let behind = behind_same (flat_map entries_of h.0) (flat_map entries_of k.0) (flat_map entries_of h.1 ++ us) (flat_map entries_of k.1 ++ vs) (ap (flat_map entries_of) tries) split in
      let rest = readings_same (ordinal + length k.0) works h.1 k.1 us vs (subst (λ (x : List Attempt). AreAttempts P r (ordinal + length x) works h.1) tries h.4) k.4 behind in
      h.2 ∙ ap (λ (x : List Attempt). x ++ h.1) tries ∙ ap (λ (x : List Attempt). k.0 ++ x) rest ∙ sym k.2

  -- a log has one reading
  pub one_reading : (works : List Work) (log : List LogEntry) (xs ys : List Attempt) → Reads P r works log xs → Reads P r works log ys → xs ≡ ys
  one_reading works log xs ys h k = readings_same 1 works xs ys [] [] h.attempts_are k.attempts_are (ap (λ x. x ++ []) (sym h.entries ∙ k.entries))

  -- and one that follows isn't the front of another
  pub no_front : (works : List Work) (log rest : List LogEntry) (xs ys : List Attempt) → Reads P r works log xs → Reads P r works (log ++ rest) ys → rest ≡ []
  no_front works log rest xs ys h k =
      let all : flat_map entries_of xs ++ rest ≡ flat_map entries_of ys ++ [] = ap (λ x. x ++ rest) (sym h.entries) ∙ k.entries ∙ sym (append-nil (flat_map entries_of ys)) in
      let same = readings_same 1 works xs ys rest [] h.attempts_are k.attempts_are all in
      append_cancel_left (flat_map entries_of ys) rest [] (ap (λ (x : List Attempt). flat_map entries_of x ++ rest) (sym same) ∙ all)
