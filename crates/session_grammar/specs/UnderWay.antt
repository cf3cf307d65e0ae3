-- What a requester has under way, and what it keeps of its log with it.
use Rattle.std.specs.Prelude.{◌≡◌, ◌≢◌, ◌<◌, ◌⊎◌, nat_eq, ℕ, List, [], ◌∷◌, ◌++◌, map, filter, true, Contains}
use Rattle.std.specs.List.{AllZip, AllByRecursion}
use Rattle.sql_base.specs.Tables.{all_differ}
use Rattle.sql_base.specs.declared.lock_names.TxnName.{TxnName}
use Rattle.sql_base.specs.declared.scripts.Script.{Script}
use Rattle.commit_journal.specs.declared.Drawn.{Drawn}
use Rattle.dp_messages.specs.declared.requests.Request.{Request}
use Rattle.session_grammar.specs.Follows.{follows}
use Rattle.session_grammar.specs.Rows.{is_for}
use Rattle.session_grammar.specs.declared.logs.Answer.{Answer}
use Rattle.session_grammar.specs.declared.logs.Answer.TheVariants.{PathFailed, Stamp}
use Rattle.session_grammar.specs.declared.logs.LogEntry.{LogEntry}
use Rattle.session_grammar.specs.declared.logs.LogEntry.TheVariants.{Asked, Drew}

-- a request that was sent and has no answer in the log yet
pub record Sending : Type 0 where
  pub part : ℕ
  pub sync : ℕ
  pub request : Request

-- what a session has under way: some requests, in the order of their syncs, or a commit above a floor; no request where it has finished
pub data UnderWay : Type 0 where
  Awaiting : List Sending → UnderWay
  Drawing : TxnName → ℕ → UnderWay

-- a request under way stands behind what was asked; as one without a reply, its entry may stand in the history or not
abbrev pub unanswered : UnderWay → List LogEntry
unanswered (Awaiting sends) = map (λ s. Asked s.part s.sync s.request 4 PathFailed) sends
unanswered (Drawing name floor) = []

-- the entry is the request with some answer
abbrev pub IsAnswered : Sending → LogEntry → Type 0
IsAnswered s e = (losses : ℕ) × (answer : Answer) × (e ≡ Asked s.part s.sync s.request losses answer)

-- a list that has the elements of two, each in their order
abbrev pub Merges : {A : Type 0} → List A → List A → List A → Type 0
Merges xs ys [] = (xs ≡ []) × (ys ≡ [])
Merges {A = A} xs ys (z ∷ zs) = ((rest : List A) × (xs ≡ z ∷ rest) × Merges rest ys zs) ⊎ ((rest : List A) × (ys ≡ z ∷ rest) × Merges xs rest zs)

-- no entry is a draw
abbrev pub IsNoDraw : LogEntry → Type 0
IsNoDraw (Asked part sync request losses answer) = Unit {0}
IsNoDraw (Drew name floor answer) = ⊥

-- the log with some requests put in with some answers; the log draws nothing behind the first of them
pub record IsFilled (sends : List Sending) (log whole : List LogEntry) : Type 0 where
  pub front : List LogEntry
  pub tail : List LogEntry
  pub back : List LogEntry
  pub answered : List LogEntry
  pub log_is : log ≡ front ++ tail
  pub whole_is : whole ≡ front ++ back
  pub draws_nothing : AllByRecursion IsNoDraw tail
  pub answers : AllZip IsAnswered sends answered
  pub merged : Merges tail answered back

-- the log with what is under way: the requests put in, or the commit drawn at its end
abbrev pub IsWith : UnderWay → List LogEntry → List LogEntry → Type 0
IsWith (Awaiting sends) log whole = IsFilled sends log whole
IsWith (Drawing name floor) log whole = (stamp : ℕ) × (whole ≡ log ++ Drew name floor (Stamp stamp) ∷ [])

-- with what is under way, the log begins one that the script allows
abbrev pub BeginsWith : Script → ℕ → UnderWay → List LogEntry → Type 0
BeginsWith script session way log = (whole : List LogEntry) × (rest : List LogEntry) × IsWith way log whole × follows script session (whole ++ rest)

-- the sync of a request under way is above those that were asked of its partition before
abbrev pub IsAbove : LogEntry → Sending → Type 0
IsAbove (Asked part sync request losses answer) s = part ≡ s.part → sync < s.sync
IsAbove (Drew name floor answer) s = Unit {0}

abbrev pub AreAbove : List LogEntry → UnderWay → Type 0
AreAbove log (Awaiting sends) = AllByRecursion (λ s. AllByRecursion (λ e. IsAbove e s) log) sends × (all_differ nat_eq (map (λ s. s.part) sends) ≡ true)
AreAbove log (Drawing name floor) = Unit {0}

-- the entry is put into the log, behind all that was asked of its partition
abbrev pub IsPutIn : ℕ → LogEntry → List LogEntry → List LogEntry → Type 0
IsPutIn part entry log after = (front : List LogEntry) × (back : List LogEntry) × (log ≡ front ++ back) × (after ≡ front ++ entry ∷ back) × (filter (is_for part) back ≡ [])

-- a request is under way
abbrev pub IsOpen : UnderWay → Sending → Type 0
IsOpen (Awaiting sends) s = Contains sends s
IsOpen (Drawing name floor) s = ⊥

-- what a requester keeps: its log with what is under way begins one that its script allows, whatever is answered
abbrev pub Asks : Script → ℕ → List LogEntry → UnderWay → Type 0
Asks script session log way = AreAbove log way × BeginsWith script session way log

-- a requester has taken the answer to a request under way: those to other partitions stay, and it may have opened more
pub record TakesAnswer (script : Script) (session : ℕ) (log : List LogEntry) (sends : List Sending) (s : Sending) (losses : ℕ) (answer : Answer) (after : List LogEntry) (way : UnderWay) : Type 0 where
  pub put_in : IsPutIn s.part (Asked s.part s.sync s.request losses answer) log after
  pub stay : (other : Sending) → Contains sends other → other.part ≢ s.part → IsOpen way other
  pub asks : Asks script session after way

-- it has taken the stamp of its commit
pub record TakesStamp (script : Script) (session : ℕ) (log : List LogEntry) (d : Drawn) (after : List LogEntry) (way : UnderWay) : Type 0 where
  pub put_in : after ≡ log ++ Drew d.name d.floor (Stamp d.stamp) ∷ []
  pub asks : Asks script session after way
