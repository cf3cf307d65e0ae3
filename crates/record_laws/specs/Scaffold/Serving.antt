-- What a partition's history has of an opener and of its attempts.
use Rattle.std.specs.Prelude.{◌≡◌, ◌≤◌, ◌<◌, ℕ, List, [], ◌∷◌, ◌++◌, filter, false}
use Rattle.std.specs.List.{AllByRecursion, AllZip}
use Rattle.sql_base.specs.declared.lock_names.Lock.{Lock}
use Rattle.dp_messages.specs.declared.replies.Reply.TheVariants as reply
use Rattle.dp_messages.specs.declared.requests.Ask.TheVariants.{Prepare, EndCommit}
use Rattle.dp_messages.specs.declared.requests.Request.{Request}
use Rattle.partition_state.specs.Step.{is_closing}
use Rattle.partition_state.specs.declared.entries.Entry.{Entry}
use Rattle.session_grammar.specs.Rows.{IsAsked, is_for}
use Rattle.session_grammar.specs.declared.logs.Answer.{Answer}
use Rattle.session_grammar.specs.declared.logs.Answer.TheVariants.{Reply}
use Rattle.session_grammar.specs.declared.logs.LogEntry.{LogEntry}
use Rattle.session_grammar.specs.declared.logs.LogEntry.TheVariants.{Asked}

-- the entry of a history is that of the answered entry of a log
abbrev pub IsPaired : LogEntry → Entry → Type 0
IsPaired (Asked part sync request losses (Reply r)) e = (e.sync ≡ sync) × (e.request ≡ request) × (e.reply ≡ r)
IsPaired other e = ⊥

-- the entries of a history are those that the log asked of the partition, one for one
abbrev pub ArePaired : ℕ → List LogEntry → List Entry → Type 0
ArePaired part log es = AllZip IsPaired (filter (is_for part) log) es

-- among one opener's entries the ordinals never fall
abbrev pub NeverFall : List Entry → Type 0
NeverFall [] = Unit {0}
NeverFall (e ∷ es) = AllByRecursion (λ f. f.opener ≡ e.opener → e.request.ordinal ≤ f.request.ordinal) es × NeverFall es

-- the entries are those of the parts of an attempt's statements, one part after the other
abbrev pub PartsPaired : ℕ → List (List LogEntry) → List Entry → Type 0
PartsPaired part [] es = es ≡ []
PartsPaired part (first ∷ parts) es = (front : List Entry) × (back : List Entry) × (es ≡ front ++ back) × ArePaired part first front × PartsPaired part parts back

-- what a committed attempt left in a partition: what its statements asked, one Prepare, and the commit, which is above the floor
pub record EndsInCommit (part stamp : ℕ) (parts : List (List LogEntry)) (es : List Entry) : Type 0 where
  pub body : List Entry
  pub prepare : Entry
  pub commit : Entry
  pub floor : ℕ
  pub entries : es ≡ body ++ prepare ∷ commit ∷ []
  pub statements : PartsPaired part parts body
  pub working : AllByRecursion (λ e. is_closing e.request.ask ≡ false) body
  pub prepares : prepare.request.ask ≡ Prepare
  pub replied : prepare.reply ≡ reply.Floor floor
  pub below : floor < stamp
  pub commits : commit.request.ask ≡ EndCommit stamp
  pub done : commit.reply ≡ reply.Done

-- the entry was answered Locked, and asked just this
abbrev pub IsRefused : ℕ → Request → LogEntry → Type 0
IsRefused part request e = (lock : Lock) × IsAsked part request (Reply (reply.Locked lock)) e

-- the list begins with the row of this request: some refusals, and then an entry with this answer
pub record BeginsExchange (part : ℕ) (request : Request) (answer : Answer) (entries : List LogEntry) : Type 0 where
  pub refused : List LogEntry
  pub first : LogEntry
  pub rest : List LogEntry
  pub entries_are : entries ≡ refused ++ first ∷ rest
  pub refusals : AllByRecursion (IsRefused part request) refused
  pub asks : IsAsked part request answer first
