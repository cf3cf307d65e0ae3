-- The logs that a session may have: a grammar on the list of entries.
-- Whatever may fail is described with its end: none where it is whole, else how its last row failed.
use Rattle.std.specs.Prelude.{◌≡◌, ◌≢◌, ◌≤◌, ℕ, zero, suc, ◌+◌, List, [], ◌∷◌, ◌++◌, length, map, filter, flat_map, take, fold, max, Option, Some, None, unwrap_or, slice_get, Bool, true, false, ◌-◌, ◌⊎◌, IsSome}
use Rattle.std.specs.List.{list_any, range_with_len, AllByRecursion}
use Rattle.sql_base.specs.declared.outcomes.Abort.{Abort}
use Rattle.sql_base.specs.declared.outcomes.Abort.TheVariants.{LockedOut, PathLost}
use Rattle.sql_base.specs.declared.outcomes.Outcome.{Outcome}
use Rattle.sql_base.specs.declared.outcomes.Outcome.TheVariants.{Committed, RolledBack, Aborted}
use Rattle.sql_base.specs.Scripts.{parts_of}
use Rattle.sql_base.specs.declared.scripts.Script.{Script}
use Rattle.sql_base.specs.declared.scripts.Work.{Work}
use Rattle.sql_base.specs.declared.statements.Statement.{Statement}
use Rattle.dp_messages.specs.declared.replies.Reply.TheVariants as reply
use Rattle.dp_messages.specs.declared.requests.Ask.{Ask}
use Rattle.dp_messages.specs.declared.requests.Ask.TheVariants.{Continue, Prepare, EndCommit, EndUndo}
use Rattle.session_grammar.specs.declared.logs.Answer.{Answer}
use Rattle.session_grammar.specs.declared.logs.Answer.TheVariants.{Reply, PathFailed, Stamp}
use Rattle.session_grammar.specs.declared.logs.LogEntry.{LogEntry}
use Rattle.session_grammar.specs.declared.logs.LogEntry.TheVariants.{Asked, Drew}
use Rattle.session_grammar.specs.Plans.{Asker, plan_of}
use Rattle.session_grammar.specs.declared.plans.Plan.{Plan}
use Rattle.session_grammar.specs.declared.plans.Plan.TheVariants.{Singles, Subsets}
use Rattle.session_grammar.specs.declared.plans.Sent.{Sent}
use Rattle.session_grammar.specs.Rows.{IsAsked, IsExchange, failure, is_for}

-- the list of a subset: a row of its Begin, and after each redrive a row of the Continue that it names, until Ended or a row that fails
abbrev pub AfterRow : Answer → (ℕ → List ℕ → Type 0) → List (List LogEntry) → Option Abort → Type 0
AfterRow (Reply (reply.Redrive subset last cause rows changed)) goes_on rest end = goes_on subset last
AfterRow (Reply (reply.Ended rows changed)) goes_on rest end = (rest ≡ []) × (end ≡ None)
AfterRow answer goes_on rest end = (rest ≡ []) × IsSome (failure answer) × (end ≡ failure answer)

abbrev pub AreExchanges : Asker → ℕ → ℕ → Ask → List (List LogEntry) → Option Abort → Type 0
AreExchanges r ordinal part ask [] end = ⊥
AreExchanges r ordinal part ask (row ∷ rows) end =
    (answer : Answer) × IsExchange r.limits.patience part (record { ordinal = ordinal; ask = ask }) row answer
    × AfterRow answer (λ subset last. AreExchanges r ordinal part (Continue subset last) rows end) rows end

abbrev pub joined : List (List LogEntry) → List LogEntry
joined lists = flat_map (λ list. list) lists

abbrev pub IsList : Asker → ℕ → Sent → List LogEntry → Option Abort → Type 0
IsList r ordinal sent entries end = (rows : List (List LogEntry)) × (entries ≡ joined rows) × AreExchanges r ordinal sent.part sent.ask rows end

-- one row of a request that isn't a subset's
abbrev pub IsSingle : Asker → ℕ → Sent → List LogEntry → Option Abort → Type 0
IsSingle r ordinal sent entries end =
    (answer : Answer) × IsExchange r.limits.patience sent.part (record { ordinal = ordinal; ask = sent.ask }) entries answer × (end ≡ failure answer)

-- one list for each thing, whole up to the first that fails, behind which there is none
abbrev pub InTurn : {A : Type 0} → (A → List LogEntry → Option Abort → Type 0) → List A → List (List LogEntry) → Option Abort → Type 0
InTurn R [] [] end = end ≡ None
InTurn R (thing ∷ things) (list ∷ lists) end = (R thing list None × InTurn R things lists end) ⊎ (R thing list end × IsSome end × (lists ≡ []))
InTurn R [] (list ∷ lists) end = ⊥
InTurn R (thing ∷ things) [] end = ⊥

abbrev pub OneAfterOther : {A : Type 0} → (A → List LogEntry → Option Abort → Type 0) → List A → List LogEntry → Option Abort → Type 0
OneAfterOther R things entries end = (lists : List (List LogEntry)) × (entries ≡ joined lists) × InTurn R things lists end

-- the part of a statement in line: one subset or request after the other, in rising partitions
abbrev pub InLineBy : Asker → ℕ → Plan → List LogEntry → Option Abort → Type 0
InLineBy r ordinal (Subsets sents) entries end = OneAfterOther (IsList r ordinal) sents entries end
InLineBy r ordinal (Singles sents) entries end = OneAfterOther (IsSingle r ordinal) sents entries end

abbrev pub IsInLine : Asker → ℕ → Statement → List LogEntry → Option Abort → Type 0
IsInLine r ordinal statement entries end = InLineBy r ordinal (plan_of r statement) entries end

-- the entries asked of one partition
abbrev pub projection : List LogEntry → Sent → List LogEntry
projection entries sent = filter (is_for sent.part) entries

-- each entry was asked of one of these partitions
abbrev pub AreTheirs : List Sent → List LogEntry → Type 0
AreTheirs sents entries = AllByRecursion (λ e. list_any (λ sent. is_for sent.part e) sents ≡ true) entries

-- each list is one that was begun: some entries of it at least, and it can go on
abbrev pub AreBegun : (Sent → List LogEntry → Option Abort → Type 0) → List Sent → List (List LogEntry) → Type 0
AreBegun R (sent ∷ sents) (list ∷ lists) = (list ≢ []) × ((more : List LogEntry) × (end : Option Abort) × R sent (list ++ more) end) × AreBegun R sents lists
AreBegun R [] [] = Unit {0}
AreBegun R [] (list ∷ lists) = ⊥
AreBegun R (sent ∷ sents) [] = ⊥

-- all lists are whole; or those below the lowest that fails are, and those above it were begun
abbrev pub Together : (Sent → List LogEntry → Option Abort → Type 0) → List Sent → List (List LogEntry) → Option Abort → Type 0
Together R [] [] end = end ≡ None
Together R (sent ∷ sents) (list ∷ lists) end = (R sent list None × Together R sents lists end) ⊎ (R sent list end × IsSome end × AreBegun R sents lists)
Together R [] (list ∷ lists) end = ⊥
Together R (sent ∷ sents) [] end = ⊥

-- the part of a statement in all its partitions at once: its lists interleaved, each begun first, in rising partitions
pub record AreWide (r : Asker) (ordinal : ℕ) (sents : List Sent) (entries : List LogEntry) (end : Option Abort) : Type 0 where
  pub several : 2 ≤ length sents
  pub theirs : AreTheirs sents entries
  pub begun : take (length sents) entries ≡ flat_map (λ sent. take 1 (projection entries sent)) sents
  pub lists : Together (IsList r ordinal) sents (map (projection entries) sents) end

abbrev pub WideBy : Asker → ℕ → Plan → List LogEntry → Option Abort → Type 0
WideBy r ordinal (Subsets sents) entries end = AreWide r ordinal sents entries end
WideBy r ordinal (Singles sents) entries end = ⊥

-- the part of a statement, in line or wide
abbrev pub IsPart : Asker → ℕ → Statement → List LogEntry → Option Abort → Type 0
IsPart r ordinal statement entries end = IsInLine r ordinal statement entries end ⊎ WideBy r ordinal (plan_of r statement) entries end

-- an attempt of a transaction: the parts of its statements, up to the one that failed it, what ended it, and how it ended
pub record Attempt : Type 0 where
  pub work : Work
  pub ordinal : ℕ
  pub parts : List (List LogEntry)
  pub ending : List LogEntry
  pub outcome : Outcome

abbrev pub entries_of : Attempt → List LogEntry
entries_of a = joined a.parts ++ a.ending

-- the partitions to which it sent anything, in rising number
abbrev pub touched : Asker → Attempt → List ℕ
touched r a = filter (λ part. list_any (is_for part) (joined a.parts)) (range_with_len 0 (parts_of r.tables))

-- a Prepare for each of these partitions, answered with these floors
abbrev pub ArePrepares : ℕ → List ℕ → List LogEntry → List ℕ → Type 0
ArePrepares ordinal (part ∷ parts) (e ∷ es) (floor ∷ floors) = IsAsked part (record { ordinal = ordinal; ask = Prepare }) (Reply (reply.Floor floor)) e × ArePrepares ordinal parts es floors
ArePrepares ordinal [] [] [] = Unit {0}
ArePrepares ordinal parts es floors = ⊥

-- an End for each of these partitions, answered Done
abbrev pub AreEnds : ℕ → Ask → List ℕ → List LogEntry → Type 0
AreEnds ordinal ask (part ∷ parts) (e ∷ es) = IsAsked part (record { ordinal = ordinal; ask = ask }) (Reply reply.Done) e × AreEnds ordinal ask parts es
AreEnds ordinal ask [] [] = Unit {0}
AreEnds ordinal ask [] (e ∷ es) = ⊥
AreEnds ordinal ask (part ∷ parts) [] = ⊥

abbrev pub greatest_of : List ℕ → ℕ
greatest_of floors = fold max 0 floors

-- the commit: all prepare, the stamp is drawn above the greatest floor, all end with it
pub record Commits (r : Asker) (a : Attempt) : Type 0 where
  pub floors : List ℕ
  pub stamp : ℕ
  pub prepares : List LogEntry
  pub ends : List LogEntry
  pub ending_is : a.ending ≡ prepares ++ Drew (record { session = r.number; ordinal = a.ordinal }) (greatest_of floors) (Stamp stamp) ∷ ends
  pub prepared : ArePrepares a.ordinal (touched r a) prepares floors
  pub ended : AreEnds a.ordinal (EndCommit stamp) (touched r a) ends
  pub outcome_is : a.outcome ≡ Committed stamp

-- the path to one of the partitions loses the Prepare, and all is undone
pub record LosesPrepare (r : Asker) (a : Attempt) : Type 0 where
  pub front : List ℕ
  pub part : ℕ
  pub back : List ℕ
  pub floors : List ℕ
  pub prepares : List LogEntry
  pub lost : LogEntry
  pub ends : List LogEntry
  pub touched_is : touched r a ≡ front ++ part ∷ back
  pub ending_is : a.ending ≡ prepares ++ lost ∷ ends
  pub prepared : ArePrepares a.ordinal front prepares floors
  pub lost_is : IsAsked part (record { ordinal = a.ordinal; ask = Prepare }) PathFailed lost
  pub undone : AreEnds a.ordinal EndUndo (touched r a) ends
  pub outcome_is : a.outcome ≡ Aborted PathLost

-- what follows the statements: undone where one failed or the script rolls back, else committed
abbrev pub IsEnding : Asker → Attempt → Option Abort → Bool → Type 0
IsEnding r a (Some abort) commit = AreEnds a.ordinal EndUndo (touched r a) a.ending × (a.outcome ≡ Aborted abort)
IsEnding r a None false = AreEnds a.ordinal EndUndo (touched r a) a.ending × (a.outcome ≡ RolledBack)
IsEnding r a None true = Commits r a ⊎ LosesPrepare r a

-- `P` says which lists of entries may be the part of a statement
pub record IsAttempt (P : Asker → ℕ → Statement → List LogEntry → Option Abort → Type 0) (r : Asker) (work : Work) (ordinal : ℕ) (a : Attempt) : Type 0 where
  pub of_work : a.work ≡ work
  pub numbered : a.ordinal ≡ ordinal
  pub parts_and_ending : (end : Option Abort) × InTurn (P r ordinal) work.statements a.parts end × IsEnding r a end work.commit

-- the attempts of a transaction: each but the last failed by a lock, and the last only where no more may follow
abbrev pub AreTries : (Asker → ℕ → Statement → List LogEntry → Option Abort → Type 0) → Asker → Work → ℕ → ℕ → List Attempt → Type 0
AreTries P r work ordinal more [] = ⊥
AreTries P r work ordinal more (a ∷ []) = IsAttempt P r work ordinal a × (a.outcome ≡ Aborted LockedOut → more ≡ 0)
AreTries P r work ordinal zero (a ∷ b ∷ rest) = ⊥
AreTries P r work ordinal (suc more) (a ∷ b ∷ rest) = IsAttempt P r work ordinal a × (a.outcome ≡ Aborted LockedOut) × AreTries P r work (ordinal + 1) more (b ∷ rest)

-- the attempts of the transactions, in their order; the ordinals count on over them
abbrev pub AreAttempts : (Asker → ℕ → Statement → List LogEntry → Option Abort → Type 0) → Asker → ℕ → List Work → List Attempt → Type 0
AreAttempts P r ordinal [] attempts = attempts ≡ []
AreAttempts P r ordinal (work ∷ works) attempts =
    (tries : List Attempt) × (rest : List Attempt) × (attempts ≡ tries ++ rest)
    × AreTries P r work ordinal r.limits.restart tries × AreAttempts P r (ordinal + length tries) works rest

-- the syncs of the Asked entries count on
abbrev pub CountSyncs : ℕ → List LogEntry → Type 0
CountSyncs next [] = Unit {0}
CountSyncs next (Asked part sync request losses answer ∷ log) = (sync ≡ next) × CountSyncs (next + 1) log
CountSyncs next (Drew name floor answer ∷ log) = CountSyncs next log

-- the log is that of these attempts of the transactions
pub record Reads (P : Asker → ℕ → Statement → List LogEntry → Option Abort → Type 0) (r : Asker) (works : List Work) (log : List LogEntry) (attempts : List Attempt) : Type 0 where
  pub syncs : CountSyncs 1 log
  pub entries : log ≡ flat_map entries_of attempts
  pub attempts_are : AreAttempts P r 1 works attempts

abbrev pub Follows : Asker → List Work → List LogEntry → Type 0
Follows r works log = (attempts : List Attempt) × Reads IsPart r works log attempts

-- every part is in line
abbrev pub FollowsInLine : Asker → List Work → List LogEntry → Type 0
FollowsInLine r works log = (attempts : List Attempt) × Reads IsInLine r works log attempts

-- a session of a script; sessions count from 1
abbrev pub asker : Script → ℕ → Asker
asker script number = record { tables = script.tables; limits = script.limits; number = number }

abbrev pub works_of : Script → ℕ → List Work
works_of script number = unwrap_or (slice_get script.sessions (number - 1)) []

abbrev pub follows : Script → ℕ → List LogEntry → Type 0
follows script number log = Follows (asker script number) (works_of script number) log

abbrev pub in_line : Script → ℕ → List LogEntry → Type 0
in_line script number log = FollowsInLine (asker script number) (works_of script number) log
