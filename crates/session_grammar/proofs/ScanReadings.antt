-- A log of one scan that committed at once has one reading.
use Rattle.std.proofs.Common.{◌≡◌, ℕ, List, [], ◌∷◌, ◌++◌, Option, Some, None, true, refl, ap, sym, ◌∙◌, subst, inl, inr, append_assoc}
use Rattle.std.proofs.lemmas.List.{append-nil}
use Rattle.std.specs.Prelude.{flat_map}
use Rattle.sql_base.specs.declared.outcomes.Abort.{Abort}
use Rattle.sql_base.specs.declared.lock_names.TxnName.{TxnName}
use Rattle.sql_base.specs.declared.outcomes.Outcome.{Outcome}
use Rattle.sql_base.specs.declared.outcomes.Outcome.TheVariants.{Committed}
use Rattle.sql_base.specs.declared.scripts.Work.{Work}
use Rattle.sql_base.specs.declared.statements.Statement.{Statement}
use Rattle.dp_messages.specs.declared.requests.Ask.{Ask}
use Rattle.dp_messages.specs.declared.requests.Ask.TheVariants.{Prepare, EndCommit, EndUndo}
use Rattle.session_grammar.specs.declared.logs.Answer.{Answer}
use Rattle.session_grammar.specs.declared.logs.Answer.TheVariants.{PathFailed, Stamp}
use Rattle.session_grammar.specs.declared.logs.LogEntry.{LogEntry}
use Rattle.session_grammar.specs.declared.logs.LogEntry.TheVariants.{Drew}
use Rattle.session_grammar.specs.Follows.{AreEnds, ArePrepares, AreTries, Attempt, Commits, IsAttempt}
use Rattle.session_grammar.specs.Follows.{IsEnding, IsPart, Reads, entries_of, greatest_of, joined, touched}
use Rattle.session_grammar.specs.Plans.{Asker}
use Rattle.session_grammar.proofs.LogLists.{one_of, joined-one}
use Rattle.sql_base.specs.declared.lock_names.Access.TheVariants.{Repeatable}
use Rattle.sql_base.specs.declared.statements.Statement.TheVariants.{Select}
use Rattle.session_grammar.proofs.Readings.{AreAsked, IsAskedEntry, no_draw, asked-append, asked-entry, part-asked, same_draw, before_last, behind_same, ends-asked, prepares-asked}

-- the scan of the first two columns of the first table
abbrev select : Statement
select = Select 0 (0 ∷ 1 ∷ []) None Repeatable

abbrev scan : Work
scan = record { statements = select ∷ []; commit = true }

-- one End is that of one partition
one_end : (ordinal : ℕ) (ask : Ask) (parts : List ℕ) (e : LogEntry) → AreEnds ordinal ask parts (e ∷ []) → (part : ℕ) × (parts ≡ part ∷ [])
one_end ordinal ask [] e h = absurd h
one_end ordinal ask (part ∷ []) e h = (part, refl)
one_end ordinal ask (part ∷ more ∷ parts) e h = absurd h.1

-- and one partition has one Prepare
one_prepare : (ordinal part : ℕ) (prepares : List LogEntry) (floors : List ℕ) → ArePrepares ordinal (part ∷ []) prepares floors → (e : LogEntry) × (prepares ≡ e ∷ [])
one_prepare ordinal part [] floors h = absurd h
one_prepare ordinal part (e ∷ es) [] h = absurd h
one_prepare ordinal part (e ∷ []) (floor ∷ floors) h = (e, refl)
one_prepare ordinal part (e ∷ f ∷ es) (floor ∷ floors) h = absurd h.1

-- where none may follow there is one attempt
one_try : (P : Asker → ℕ → Statement → List LogEntry → Option Abort → Type 0) (r : Asker) (work : Work) (ordinal : ℕ) (tries : List Attempt)
    → AreTries P r work ordinal 0 tries → (a : Attempt) × (tries ≡ a ∷ []) × IsAttempt P r work ordinal a
one_try P r work ordinal [] h = absurd h
one_try P r work ordinal (a ∷ []) h = (a, refl, h.0)
one_try P r work ordinal (a ∷ b ∷ rest) h = absurd h

module _ (r : Asker) (a : Attempt) (list : List LogEntry) (asked : AreAsked list) where
  -- an attempt whose log has a draw commits
  draw_commits : (end : Option Abort) (xs zs : List LogEntry) (name : TxnName) (floor : ℕ) (answer : Answer) → list ++ a.ending ≡ xs ++ Drew name floor answer ∷ zs
      → IsEnding r a end true → Commits r a
  draw_commits (Some abort) xs zs name floor answer whole h =
      absurd (no_draw (list ++ a.ending) xs zs name floor answer (asked-append list a.ending asked (ends-asked a.ordinal EndUndo (touched r a) a.ending h.0)) whole)
  draw_commits None xs zs name floor answer whole (inl h) = h
  draw_commits None xs zs name floor answer whole (inr h) =
      let lost = asked-entry h.part (record { ordinal = a.ordinal; ask = Prepare }) PathFailed h.lost h.lost_is in
      let undone = ends-asked a.ordinal EndUndo (touched r a) h.ends h.undone in
      let ending = asked-append h.prepares (h.lost ∷ h.ends) (prepares-asked a.ordinal h.front h.prepares h.floors h.prepared) (lost, undone) in
      absurd (no_draw (list ++ a.ending) xs zs name floor answer (asked-append list a.ending asked (subst AreAsked (sym h.ending_is) ending)) whole)

  -- and where one entry is behind its draw, the one before it is its Prepare
  commit_is : (entries : List LogEntry) (prepare commit : LogEntry) (name : TxnName) (floor stamp : ℕ) → AreAsked entries → IsAskedEntry prepare
      → list ++ a.ending ≡ entries ++ prepare ∷ Drew name floor (Stamp stamp) ∷ commit ∷ [] → Commits r a
      → (list ≡ entries) × (a.ending ≡ prepare ∷ Drew name floor (Stamp stamp) ∷ commit ∷ []) × (a.outcome ≡ Committed stamp)
  commit_is entries prepare commit name floor stamp before prepared whole c =
      let drawn = Drew (record { session = r.number; ordinal = a.ordinal }) (greatest_of c.floors) (Stamp c.stamp) in
      let drew = Drew name floor (Stamp stamp) in
      let cut : (list ++ c.prepares) ++ drawn ∷ c.ends ≡ (entries ++ prepare ∷ []) ++ drew ∷ commit ∷ [] =
      append_assoc list c.prepares (drawn ∷ c.ends) ∙ ap (λ es. list ++ es) (sym c.ending_is) ∙ whole ∙ sym (append_assoc entries (prepare ∷ []) (drew ∷ commit ∷ [])) in
      let left = asked-append list c.prepares asked (prepares-asked a.ordinal (touched r a) c.prepares c.floors c.prepared) in
      let right = asked-append entries (prepare ∷ []) before (prepared, tt) in
      let d = same_draw (list ++ c.prepares) (entries ++ prepare ∷ []) c.ends (commit ∷ []) (record { session = r.number; ordinal = a.ordinal }) name (greatest_of c.floors) floor
      (Stamp c.stamp) (Stamp stamp) left right cut in
      let part = one_end a.ordinal (EndCommit c.stamp) (touched r a) commit (subst (AreEnds a.ordinal (EndCommit c.stamp) (touched r a)) d.behind c.ended) in
      let prepares = c.prepares in
      let one = one_prepare a.ordinal part.0 c.prepares c.floors (subst (λ parts. ArePrepares a.ordinal parts prepares c.floors) part.1 c.prepared) in
      let same = before_last list entries c.prepares one.0 prepare one.1 d.before in
      let stamped : c.stamp ≡ stamp = cc d.answer in (
        same,
        behind_same list entries a.ending (prepare ∷ drew ∷ commit ∷ []) same whole,
        c.outcome_is ∙ ap Committed stamped,
      )

-- an attempt by its fields
abbrev attempt : Work → ℕ → List (List LogEntry) → List LogEntry → Outcome → Attempt
attempt work ordinal parts ending outcome = record { work = work; ordinal = ordinal; parts = parts; ending = ending; outcome = outcome }

-- attempts with the same fields are the same
pub same_attempt : (work work' : Work) (ordinal ordinal' : ℕ) (parts parts' : List (List LogEntry)) (ending ending' : List LogEntry) (outcome outcome' : Outcome)
    → work ≡ work' → ordinal ≡ ordinal' → parts ≡ parts' → ending ≡ ending' → outcome ≡ outcome'
    → attempt work ordinal parts ending outcome ≡ attempt work' ordinal' parts' ending' outcome'
same_attempt work work' ordinal ordinal' parts parts' ending ending' outcome outcome' w o p e out = cc

-- a log of one scan that committed at once has one reading
pub only_reading : (r : Asker) → r.limits.restart ≡ 0 → (scan_entries : List LogEntry) (prepare commit : LogEntry) (name : TxnName) (floor stamp : ℕ)
    → AreAsked scan_entries → IsAskedEntry prepare → (attempts : List Attempt)
    → Reads IsPart r (scan ∷ []) (scan_entries ++ prepare ∷ Drew name floor (Stamp stamp) ∷ commit ∷ []) attempts
    → attempts ≡ record { work = scan; ordinal = 1; parts = scan_entries ∷ []; ending = prepare ∷ Drew name floor (Stamp stamp) ∷ commit ∷ []; outcome = Committed stamp } ∷ []
only_reading r alone scan_entries prepare commit name floor stamp asked prepared attempts reads =
    let drew = Drew name floor (Stamp stamp) in
    let ending = prepare ∷ drew ∷ commit ∷ [] in
    let are = reads.attempts_are in
    let one = one_try IsPart r scan 1 are.0 (subst (λ more. AreTries IsPart r scan 1 more are.0) alone are.3) in
    let a = one.0 in
    let only : attempts ≡ a ∷ [] = are.2 ∙ ap (λ rest. are.0 ++ rest) are.4 ∙ append-nil are.0 ∙ one.1 in
    let parts = one.2.parts_and_ending in
    let part = one_of (IsPart r 1) select a.parts parts.0 parts.1 in
    let drawn = part-asked r 1 select part.0 parts.0 part.2 in
    let first : joined a.parts ≡ part.0 = ap joined part.1 ∙ joined-one part.0 in
    let all : scan_entries ++ ending ≡ entries_of a = reads.entries ∙ ap (flat_map entries_of) only ∙ append-nil (entries_of a) in
    let whole : part.0 ++ a.ending ≡ scan_entries ++ ending = ap (λ es. es ++ a.ending) (sym first) ∙ sym all in
    let before = scan_entries ++ prepare ∷ [] in
    let cut : part.0 ++ a.ending ≡ before ++ drew ∷ commit ∷ [] = whole ∙ sym (append_assoc scan_entries (prepare ∷ []) (drew ∷ commit ∷ [])) in
    let commits = draw_commits r a part.0 drawn parts.0 before (commit ∷ []) name floor (Stamp stamp) cut parts.2 in
    let is = commit_is r a part.0 drawn scan_entries prepare commit name floor stamp asked prepared whole commits in
    let parts_are : a.parts ≡ scan_entries ∷ [] = part.1 ∙ ap (λ (es : List LogEntry). es ∷ []) is.0 in
    let same = same_attempt a.work scan a.ordinal 1 a.parts (scan_entries ∷ []) a.ending ending a.outcome (Committed stamp) one.2.of_work one.2.numbered parts_are is.1 is.2 in
    only ∙ ap (λ (x : Attempt). x ∷ []) same
