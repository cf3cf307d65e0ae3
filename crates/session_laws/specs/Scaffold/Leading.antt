-- How a log leads a session from place to place.
use Rattle.std.specs.Prelude.{◌≡◌, ℕ, List, [], ◌∷◌, ◌++◌}
use Rattle.sql_base.specs.declared.scripts.Work.{Work}
use Rattle.session_grammar.specs.declared.logs.Answer.{Answer}
use Rattle.session_grammar.specs.declared.logs.Answer.TheVariants.{Stamp}
use Rattle.session_grammar.specs.declared.logs.LogEntry.{LogEntry}
use Rattle.session_grammar.specs.declared.logs.LogEntry.TheVariants.{Asked, Drew}
use Rattle.session_grammar.specs.Follows.{CountSyncs, FollowsInLine}
use Rattle.session_grammar.specs.Plans.{Asker}
use Rattle.session_grammar.specs.Rows.{IsSent}
use Rattle.session_grammar.specs.Sessions.{Draws, Ends, Next, Sends}
use Rattle.session_grammar.specs.Sessions.{sync_behind}
use Rattle.session_laws.specs.Scaffold.Machine.{Draw, Nothing, Over, Place, Send, Task, after, task_at, works_at}

abbrev pub answer_of : LogEntry → Answer
answer_of (Asked part sync request losses answer) = answer
answer_of (Drew name floor answer) = answer

-- the entry is one of this task
abbrev pub Does : Task → LogEntry → Type 0
Does (Send part request) (Asked p sync q losses answer) = (p ≡ part) × (q ≡ request) × IsSent request.ask losses answer
Does (Draw name floor) (Drew n f (Stamp stamp)) = (n ≡ name) × (f ≡ floor)
Does task entry = ⊥

-- the log leads from one place to the other
abbrev pub Leads : Asker → Place → List LogEntry → Place → Type 0
Leads r place [] end = place ≡ end
Leads r place (e ∷ es) end = Does (task_at r place) e × Leads r (after r place (answer_of e)) es end

-- what may still come at a place, from this sync on: the grammar with its front taken off
abbrev pub Rest : Asker → ℕ → Place → List LogEntry → Type 0
Rest r sync place rest = CountSyncs sync rest × Leads r place rest Over

-- the session stands where its log has led it
pub record StandsAt (r : Asker) (works : List Work) (log : List LogEntry) (place : Place) : Type 0 where
  pub syncs : CountSyncs 1 log
  pub led : Leads r (works_at r 1 works) log place

-- what a session does next at a place, with this sync
abbrev pub next_of : ℕ → Task → Next
next_of sync (Send part request) = Sends part sync request
next_of sync (Draw name floor) = Draws name floor
next_of sync Nothing = Ends

abbrev pub next_behind : Asker → List LogEntry → Place → Next
next_behind r log place = next_of (sync_behind 1 log) (task_at r place)

-- the log is the front of one that follows in line
abbrev pub BeginsInLine : Asker → List Work → List LogEntry → Type 0
BeginsInLine r works log = (rest : List LogEntry) × FollowsInLine r works (log ++ rest)
