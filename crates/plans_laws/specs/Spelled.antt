-- What a partition keeps so that all its replies can be spelled.
use Rattle.std.specs.Prelude.{◌≡◌, ℕ, List, slice_get, Some}
use Rattle.std.specs.List.{AllByRecursion}
use Rattle.sql_base.specs.Rows.{AreRecords}
use Rattle.sql_base.specs.Scripts.{AreLimits, IsScript}
use Rattle.sql_base.specs.Tables.{IsTable}
use Rattle.sql_base.specs.declared.scripts.Limits.{Limits}
use Rattle.sql_base.specs.declared.scripts.Script.{Script}
use Rattle.sql_base.specs.declared.tables.TableDef.{TableDef}
use Rattle.sql_base.specs.declared.values.Value.{Value}
use Rattle.dp_messages.specs.Spelling.{HasEight, HasFour, IsEnvelope, IsLock, IsReply, IsShort}
use Rattle.dp_messages.specs.declared.replies.Reply.{Reply}
use Rattle.dp_messages.specs.declared.requests.Envelope.{Envelope}
use Rattle.partition_state.specs.History.{IsLegal, replay}
use Rattle.partition_state.specs.State.{State, opening}
use Rattle.partition_state.specs.Step.{kept_key, step}
use Rattle.partition_state.specs.declared.entries.Entry.{Entry}
use Rattle.partition_laws.specs.Keeping.{Keeps}
use Rattle.run_record.specs.Openings.{openings, rows_in_part}

-- keys, locks, ordinals and stamps that have spellings
pub record PartsSpelled (p : State) : Type 0 where
  pub keys : AllByRecursion (λ cell. IsShort cell.key) p.cells
  pub locks : AllByRecursion IsLock p.locks
  pub starts : AllByRecursion (λ b. IsShort (kept_key b.block.start)) p.blocks
  pub lives : AllByRecursion (λ l. HasFour l.name.ordinal) p.lives
  pub ended : AllByRecursion (λ o. HasFour o.ended) p.openers
  pub high : HasEight p.high

-- a partition of a table that may be declared, whose parts can be spelled
pub record Spelled (p : State) : Type 0 where
  pub table : IsTable p.table
  pub limits : AreLimits p.limits
  pub keeps : Keeps p
  pub parts : PartsSpelled p

-- the envelope of a request in a history
abbrev pub envelope_of : Entry → Envelope
envelope_of e = record { opener = e.opener; sync = e.sync; request = e.request }

-- each request of the history came in an envelope that has a spelling
abbrev pub CameSpelled : List Entry → Type 0
CameSpelled history = AllByRecursion (λ e. IsEnvelope (envelope_of e)) history

-- a partition opens so, with records of its table
abbrev pub OpensSpelled : Type 0
OpensSpelled =
    (table : TableDef) (place : ℕ) (limits : Limits) (rows : List (List Value)) → IsTable table → AreLimits limits → AreRecords table rows
    → Spelled (opening table place limits (rows_in_part table place rows))

-- it stays so at each request, and its reply has a spelling
abbrev pub StepsSpelled : Type 0
StepsSpelled = (p : State) (e : Envelope) → Spelled p → IsEnvelope e → Spelled (step p e.opener e.sync e.request).state

abbrev pub RepliesSpelled : Type 0
RepliesSpelled = (p : State) (e : Envelope) (r : Reply) → Spelled p → IsEnvelope e → (step p e.opener e.sync e.request).reply ≡ Some r → IsReply r

-- so it stands after each history from an opening of a script, and each reply of the history has a spelling
abbrev pub HistoriesSpelled : Type 0
HistoriesSpelled =
    (script : Script) (part : ℕ) (p : State) (history : List Entry) → IsScript script → slice_get (openings script) part ≡ Some p → IsLegal p history → CameSpelled history
    → Spelled (replay p history) × AllByRecursion (λ e. IsReply e.reply) history
