-- What collectors keep and say, once they have seen entries.
use Rattle.std.specs.Prelude.{◌≡◌, ◌<◌, ◌^◌, ℕ, List, ◌++◌, fold, length}
use Rattle.std.specs.List.{AllByRecursion, flat_map}
use Rattle.outside.specs.Collecting.{Collecting, said}
use Rattle.outside.specs.declared.collector.Seen.{Seen}
use Rattle.partition_state.specs.declared.entries.Entry.{Entry}
use Rattle.run_record.specs.Tiles.{reply_rows}
use Rattle.run_record.specs.declared.records.RunRecord.{RunRecord}

-- a collector once it has seen these entries, one after the other
abbrev pub behind_all : List Seen → Collecting → Collecting
behind_all entries c = record c { content = fold (λ content e. c.step e content) c.content entries }

-- it has seen a front of the entries
abbrev pub SawFront : List Seen → Collecting → Collecting → Type 0
SawFront entries before after = (front : List Seen) × (rest : List Seen) × (front ++ rest ≡ entries) × (after ≡ behind_all front before)

-- what all say, one behind the other
abbrev pub texts : List Collecting → List ℕ
texts collectors = flat_map said collectors

abbrev pub HasFewRows : Entry → Type 0
HasFewRows e = length (reply_rows e.reply) < 2 ^ 32

-- partitions and the rows of a reply can be counted in 32 bits
pub record CanBeSeen (kept : RunRecord) : Type 0 where
  pub parts : length kept.histories < 2 ^ 32
  pub rows : AllByRecursion (λ history. AllByRecursion HasFewRows history) kept.histories
