-- Where a session stands, of what the code keeps.
use Rattle.std.specs.Prelude.{◌≡◌, ◌≤◌, ◌<◌, ◌^◌, ℕ, ◌+◌, List, [], ◌∷◌, length, drop, option_map, slice_get, unwrap_or, Option, Some, None, false}
use Rattle.std.specs.List.{AllByRecursion}
use Rattle.sql_base.specs.Scripts.{IsScript, parts_of}
use Rattle.sql_base.specs.Tables.{IsStatement}
use Rattle.sql_base.specs.declared.scripts.Script.{Script}
use Rattle.sql_base.specs.declared.scripts.Work.{Work}
use Rattle.sql_base.specs.declared.statements.Statement.{Statement}
use Rattle.dp_messages.specs.Spelling.{IsAsk}
use Rattle.dp_messages.specs.declared.requests.Ask.TheVariants.{Prepare}
use Rattle.session_grammar.specs.Follows.{asker}
use Rattle.session_grammar.specs.Plans.{Asker, plan_of, sents_of}
use Rattle.session_grammar.specs.UnderWay.{Awaiting, Drawing, UnderWay}
use Rattle.session_grammar.specs.declared.plans.Plan.{Plan}
use Rattle.session_grammar.specs.declared.plans.Plan.TheVariants.{Subsets}
use Rattle.session_grammar.specs.declared.plans.Sent.{Sent}
use Rattle.session_laws.specs.Scaffold.Machine.{Asks, At, Closes, Doing, Over, Place, Prepares, Stamps, Trying, asking, closing, trying}
use Rattle.requester_fs.specs.declared.stages.Stage.{Stage}
use Rattle.requester_fs.specs.declared.stages.Stage.TheVariants as stage
use Rattle.requester_fs.specs.declared.stages.Stand.{Stand}
use Rattle.requester_fs.specs.declared.stages.Turn.{Turn}
use Rattle.requester_fs.specs.declared.walking.Planner.{Planner}

-- statements that may be made on the tables of the script, and transactions of such
abbrev pub AreSuited : Script → List Statement → Type 0
AreSuited script statements = AllByRecursion (IsStatement script.tables) statements

abbrev pub AreWorks : Script → List Work → Type 0
AreWorks script works = AllByRecursion (λ work. AreSuited script work.statements) works

-- what the statement at a place asks
abbrev pub plan_at : Asker → List Statement → ℕ → Plan
plan_at r statements statement = unwrap_or (option_map (plan_of r) (slice_get statements statement)) (Subsets [])

-- what is left of the statement of a turn, and the statements behind it
abbrev pub sents_behind : Asker → List Statement → Turn → List Sent
sents_behind r statements u = drop (u.sent + 1) (sents_of (plan_at r statements u.statement))

abbrev pub statements_behind : List Statement → Turn → List Statement
statements_behind statements u = drop (u.statement + 1) statements

-- what an attempt with these statements does
abbrev pub doing_of : Asker → List Statement → Stage → Doing
doing_of r statements (stage.Asks u) =
    Asks u.subset u.part u.request.ask u.repeats (sents_behind r statements u) (statements_behind statements u)
doing_of r statements (stage.Prepares part request parts floor) = Prepares part parts floor
doing_of r statements (stage.Stamps floor) = Stamps floor
doing_of r statements (stage.Closes part request parts locked) = Closes request.ask part parts locked

-- at this stage, or at the place behind
abbrev pub placed : Asker → Trying → List ℕ → List Statement → Place → Option Stage → Place
placed r t seen statements behind None = behind
placed r t seen statements behind (Some stage) = At t seen (doing_of r statements stage)

-- at this stage, or where the attempt closes behind its last statement
abbrev pub out_of : Asker → Trying → List ℕ → List Statement → Place → Option Stage → Place
out_of r t seen statements next None = closing r t seen t.work.commit next
out_of r t seen statements next (Some stage) = At t seen (doing_of r statements stage)

abbrev pub work_of : List Work → ℕ → Work
work_of works n = unwrap_or (slice_get works n) (record { statements = []; commit = false })

abbrev pub trying_of : List Work → Stand → Trying
trying_of works s = trying s.ordinal s.restarts (work_of works s.work) (drop (s.work + 1) works)

-- the statements of the transaction where it stands
abbrev pub statements_of : List Work → Stand → List Statement
statements_of works s = (work_of works s.work).statements

-- where a session stands, of what the code keeps beside its transactions
abbrev pub stood : Asker → List Work → Stand → Place
stood r works s = At (trying_of works s) s.seen (doing_of r (statements_of works s) s.stage)

abbrev pub place_of : Asker → List Work → Option Stand → Place
place_of r works None = Over
place_of r works (Some s) = stood r works s

-- the open request of a stage is one of its attempt that a message can spell, and its statement is there
abbrev pub IsStage : ℕ → List Statement → Stage → Type 0
IsStage ordinal statements (stage.Asks u) = (u.request.ordinal ≡ ordinal) × (u.statement < length statements) × (u.statement + 1 < 2 ^ 64) × (u.sent + 1 < 2 ^ 64) × IsAsk u.request.ask
IsStage ordinal statements (stage.Prepares part request parts floor) = (request ≡ asking ordinal Prepare)
IsStage ordinal statements (stage.Stamps floor) = Unit {0}
IsStage ordinal statements (stage.Closes part request parts locked) = (request.ordinal ≡ ordinal) × IsAsk request.ask

abbrev pub MayBeStage : ℕ → List Statement → Option Stage → Type 0
MayBeStage ordinal statements None = Unit {0}
MayBeStage ordinal statements (Some stage) = IsStage ordinal statements stage

-- it stands in one of its transactions, at such a stage
abbrev pub IsStand : List Work → Option Stand → Type 0
IsStand works None = Unit {0}
IsStand works (Some s) = (s.work < length works) × (1 ≤ s.ordinal) × IsStage s.ordinal (statements_of works s) s.stage

-- it stands at this place of the asker, whatever the number of the session is
abbrev pub Stands : Script → List Work → (Asker → Place) → Option Stand → Type 0
Stands script works place stand = IsStand works stand × ((number : ℕ) → place_of (asker script number) works stand ≡ place (asker script number))

-- what plans for a script, and has counted its partitions
pub record IsPlanner (p : Planner) : Type 0 where
  pub is_script : IsScript p.script.now
  pub counted : p.parts ≡ parts_of p.script.now.tables

-- it stands in one of these transactions of the script, whose ordinals are all below 2^32
pub record IsIn (p : Planner) (works : List Work) (s : Stand) : Type 0 where
  pub planner : IsPlanner p
  pub suit : AreWorks p.script.now works
  pub work : s.work < length works
  pub first : 1 ≤ s.ordinal
  pub ordinals : s.ordinal + s.restarts + length works < 2 ^ 32 + s.work

-- what it has under way, with this sync
abbrev pub way_in : ℕ → ℕ → ℕ → Stage → UnderWay
way_in number sync ordinal (stage.Asks u) = Awaiting (record { part = u.part; sync = sync; request = u.request } ∷ [])
way_in number sync ordinal (stage.Prepares part request parts floor) = Awaiting (record { part = part; sync = sync; request = request } ∷ [])
way_in number sync ordinal (stage.Stamps floor) = Drawing (record { session = number; ordinal = ordinal }) floor
way_in number sync ordinal (stage.Closes part request parts locked) = Awaiting (record { part = part; sync = sync; request = request } ∷ [])

abbrev pub way_of : ℕ → ℕ → Option Stand → UnderWay
way_of number sync None = Awaiting []
way_of number sync (Some s) = way_in number sync s.ordinal s.stage
