-- Which lists of acts are those of a list of choices.
use Rattle.std.specs.Prelude.{◌≡◌, ◌<◌, ℕ, ◌%◌, List, [], ◌∷◌, ◌++◌, length, map, filter, filter_map, fold, take, drop, replicate, slice_get, unwrap_or, nat_le, nat_lt, Option, Some, None, Bool, true, false, ◌&&◌, ◌||◌, ◌==◌, if◌then◌else◌}
use Rattle.std.specs.List.{list_any, range_with_len}
use Rattle.sql_base.specs.Scripts.{Lies}
use Rattle.outside.specs.declared.wire.Passage.{Passage}
use Rattle.outside.specs.declared.wire.Passage.TheVariants.{Carry, Repeat, LoseRequest, LoseReply}
use Rattle.partition_state.specs.declared.entries.Entry.{Entry}
use Rattle.session_grammar.specs.declared.logs.Answer.{Answer}
use Rattle.session_grammar.specs.declared.logs.Answer.TheVariants.{Reply}
use Rattle.session_grammar.specs.declared.logs.LogEntry.{LogEntry}
use Rattle.session_grammar.specs.declared.logs.LogEntry.TheVariants.{Asked, Drew}
use Rattle.run_record.specs.Openings.{history_of, log_of}
use Rattle.run_record.specs.declared.records.Act.{Act}
use Rattle.run_record.specs.declared.records.Act.TheVariants.{Send, Take, ByHand, Draw, Serve}
use Rattle.run_record.specs.declared.records.RunRecord.{RunRecord}
use Rattle.outside.specs.Wire.{is_loss}

-- what holds at each place of a list of acts, by those before it, the act there, and those behind it
abbrev pub AtEach : (List Act → Act → List Act → Type 0) → List Act → List Act → Type 0
AtEach P done [] = Unit {0}
AtEach P done (act ∷ rest) = P done act rest × AtEach P (done ++ act ∷ []) rest

-- who acts
pub data Actor : Type 0 where
  OfSession : ℕ → Actor
  OfPartition : ℕ → Actor

abbrev pub actor_of : Act → Actor
actor_of (Send session part sync passage) = OfSession session
actor_of (Take session) = OfSession session
actor_of (ByHand session part sync) = OfSession session
actor_of (Draw session) = OfSession session
actor_of (Serve part opener sync) = OfPartition part

abbrev pub is_act_of : ℕ → Actor → Bool
is_act_of n (OfSession session) = session == n
is_act_of n (OfPartition part) = false

abbrev pub is_by : ℕ → Act → Bool
is_by n act = is_act_of n (actor_of act)

-- a message in a mail
pub record Posted : Type 0 where
  pub opener : ℕ
  pub sync : ℕ

abbrev pub copies : Passage → Posted → List Posted
copies Carry m = m ∷ []
copies Repeat m = m ∷ m ∷ []
copies LoseRequest m = []
copies LoseReply m = m ∷ []

-- the mail of a partition after an act, and after some
abbrev pub mailed : ℕ → List Posted → Act → List Posted
mailed part mail (Send session p sync passage) = if p == part then mail ++ copies passage (record { opener = session; sync = sync }) else mail
mailed part mail (Serve p opener sync) = if p == part then drop 1 mail else mail
mailed part mail act = mail

abbrev pub mail_after : ℕ → List Act → List Posted
mail_after part acts = fold (mailed part) [] acts

-- a Serve takes the oldest message
abbrev pub IsOldest : List Act → Act → List Act → Type 0
IsOldest done (Serve part opener sync) rest = take 1 (mail_after part done) ≡ record { opener = opener; sync = sync } ∷ []
IsOldest done act rest = Unit {0}

-- the message whose reply a session waits for: that of its latest act, where this is a Send that was carried
pub record Awaited : Type 0 where
  pub part : ℕ
  pub sync : ℕ

abbrev pub awaits : ℕ → Option Awaited → Act → Option Awaited
awaits n w (Send session part sync passage) = if session == n then (if is_loss passage then None else Some (record { part = part; sync = sync })) else w
awaits n w act = if is_by n act then None else w

abbrev pub awaited : ℕ → List Act → Option Awaited
awaited n acts = fold (awaits n) None acts

abbrev pub is_serve_of : ℕ → Awaited → Act → Bool
is_serve_of n w (Serve part opener sync) = part == w.part && opener == n && sync == w.sync
is_serve_of n w act = false

-- it doesn't wait, or its reply is kept
abbrev pub is_served : ℕ → List Act → Option Awaited → Bool
is_served n acts None = true
is_served n acts (Some w) = list_any (is_serve_of n w) acts

abbrev pub may_go : ℕ → List Act → Bool
may_go n acts = is_served n acts (awaited n acts)

-- a session is unfinished where an act of it stands there or later; in a run that isn't over, also where it has something under way
abbrev pub is_unfinished : (ℕ → Bool) → List Act → ℕ → Bool
is_unfinished live rest n = list_any (is_by n) rest || live n

abbrev pub is_some : List Posted → Bool
is_some [] = false
is_some (m ∷ mail) = true

-- the enabled actors, in order: sessions that may go, then partitions with mail
abbrev pub actors : (ℕ → Bool) → ℕ → ℕ → List Act → List Act → List Actor
actors live sessions parts done rest =
    map OfSession (filter (λ n. is_unfinished live rest n && may_go n done) (range_with_len 1 sessions)) ++ map OfPartition (filter (λ part. is_some (mail_after part done)) (range_with_len 0 parts))

-- the actor with the number of the choice, 0 where the choices are used up
abbrev pub chosen_of : List ℕ → ℕ → List Actor → Option Actor
chosen_of choices place some = slice_get some (unwrap_or (slice_get choices place) 0 % length some)

abbrev pub IsChosen : (ℕ → Bool) → List ℕ → ℕ → ℕ → List Act → Act → List Act → Type 0
IsChosen live choices sessions parts done act rest = chosen_of choices (length done) (actors live sessions parts done (act ∷ rest)) ≡ Some (actor_of act)

-- no session
abbrev pub nobody : ℕ → Bool
nobody n = false

-- what a session did, but for what its passages were
pub data Step : Type 0 where
  Lost : ℕ → ℕ → Step
  Sent : ℕ → ℕ → Step
  Took : Step
  Served : ℕ → ℕ → Step
  Drawn : Step

abbrev pub step_of : Act → Option Step
step_of (Send session part sync passage) = Some (if is_loss passage then Lost part sync else Sent part sync)
step_of (Take session) = Some Took
step_of (ByHand session part sync) = Some (Served part sync)
step_of (Draw session) = Some Drawn
step_of (Serve part opener sync) = None

abbrev pub step_by : ℕ → Act → Option Step
step_by n act = if is_by n act then step_of act else None

abbrev pub steps_by : ℕ → List Act → List Step
steps_by n acts = filter_map (step_by n) acts

-- the steps of a log
abbrev pub answer_steps : ℕ → ℕ → ℕ → Answer → List Step
answer_steps part sync losses (Reply r) = if nat_lt losses 4 then Sent part sync ∷ Took ∷ [] else Served part sync ∷ []
answer_steps part sync losses answer = []

abbrev pub steps_of : List LogEntry → List Step
steps_of [] = []
steps_of (Asked part sync request losses answer ∷ log) = (replicate losses (Lost part sync) ++ answer_steps part sync losses answer) ++ steps_of log
steps_of (Drew name floor answer ∷ log) = Drawn ∷ steps_of log

-- the sessions of the Draws
abbrev pub drawer_of : Act → Option ℕ
drawer_of (Draw session) = Some session
drawer_of act = None

-- the messages that a partition served as new: with a sync above all earlier ones of its opener there
abbrev pub is_old : Posted → Posted → Bool
is_old m seen = seen.opener == m.opener && nat_le m.sync seen.sync

abbrev pub seen_more : List Posted → Posted → List Posted
seen_more seen m = if list_any (is_old m) seen then seen else seen ++ m ∷ []

abbrev pub newly : ℕ → List Posted → Act → List Posted
newly part seen (Serve p opener sync) = if p == part then seen_more seen (record { opener = opener; sync = sync }) else seen
newly part seen (ByHand session p sync) = if p == part then seen_more seen (record { opener = session; sync = sync }) else seen
newly part seen act = seen

abbrev pub news : ℕ → List Act → List Posted
news part acts = fold (newly part) [] acts

abbrev pub posted_of : Entry → Posted
posted_of e = record { opener = e.opener; sync = e.sync }

-- the acts so far: these sessions have something under way, and these steps of it stand behind those of their logs
pub record ScheduledSoFar (live : ℕ → Bool) (tails : ℕ → List Step) (choices : List ℕ) (kept : RunRecord) : Type 0 where
  pub mails : AtEach IsOldest [] kept.acts
  pub chosen : AtEach (IsChosen live choices (length kept.logs) (length kept.histories)) [] kept.acts
  pub of_logs : (n : ℕ) → Lies 1 (length kept.logs) n → steps_by n kept.acts ≡ steps_of (log_of kept n) ++ tails n
  pub draws : filter_map drawer_of kept.acts ≡ map (λ d. d.name.session) kept.journal
  pub new_serves : (part : ℕ) → part < length kept.histories → news part kept.acts ≡ map posted_of (history_of kept part)

-- the whole list of acts
pub record Scheduled (choices : List ℕ) (kept : RunRecord) : Type 0 where
  pub mails : AtEach IsOldest [] kept.acts
  pub chosen : AtEach (IsChosen nobody choices (length kept.logs) (length kept.histories)) [] kept.acts
  pub over : actors nobody (length kept.logs) (length kept.histories) kept.acts [] ≡ []
  pub of_logs : (n : ℕ) → Lies 1 (length kept.logs) n → steps_by n kept.acts ≡ steps_of (log_of kept n)
  pub draws : filter_map drawer_of kept.acts ≡ map (λ d. d.name.session) kept.journal
  pub new_serves : (part : ℕ) → part < length kept.histories → news part kept.acts ≡ map posted_of (history_of kept part)

-- what one act adds to logs, journal and histories is what the record has more
pub record Adds (tails now : ℕ → List Step) (kept after : RunRecord) (act : Act) : Type 0 where
  pub acts : after.acts ≡ kept.acts ++ act ∷ []
  pub sessions : length after.logs ≡ length kept.logs
  pub parts : length after.histories ≡ length kept.histories
  pub logs : (n : ℕ) → Lies 1 (length kept.logs) n → (steps_of (log_of kept n) ++ tails n) ++ steps_by n (act ∷ []) ≡ steps_of (log_of after n) ++ now n
  pub draws : map (λ d. d.name.session) kept.journal ++ filter_map drawer_of (act ∷ []) ≡ map (λ d. d.name.session) after.journal
  pub news : (part : ℕ) → part < length kept.histories → newly part (map posted_of (history_of kept part)) act ≡ map posted_of (history_of after part)

-- the driver chose it: of those enabled now, and from the mail
pub record IsDriven (live : ℕ → Bool) (choices : List ℕ) (kept : RunRecord) (act : Act) : Type 0 where
  pub chosen : chosen_of choices (length kept.acts) (actors live (length kept.logs) (length kept.histories) kept.acts []) ≡ Some (actor_of act)
  pub oldest : IsOldest kept.acts act []
