-- Which sendings of a log its wire lost.
use Rattle.std.specs.Prelude.{◌≡◌, ◌≢◌, ℕ, ◌-◌, List, [], ◌∷◌, ◌++◌, length, map, filter_map, replicate, slice_get, nat_lt, Option, Some, None, Bool, true, false, ◌==◌, if◌then◌else◌}
use Rattle.sql_base.specs.Scripts.{Lies}
use Rattle.outside.specs.Wire.{Told, is_loss}
use Rattle.outside.specs.declared.wire.Passage.{Passage}
use Rattle.session_grammar.specs.declared.logs.Answer.{Answer}
use Rattle.session_grammar.specs.declared.logs.Answer.TheVariants.{Reply}
use Rattle.session_grammar.specs.declared.logs.LogEntry.{LogEntry}
use Rattle.session_grammar.specs.declared.logs.LogEntry.TheVariants.{Asked, Drew}
use Rattle.run_record.specs.Openings.{log_of}
use Rattle.run_record.specs.declared.records.Act.{Act}
use Rattle.run_record.specs.declared.records.Act.TheVariants.{Send}
use Rattle.run_record.specs.declared.records.RunRecord.{RunRecord}

-- behind the losses of a request, its reply was carried, unless it was served by hand or its path failed
abbrev pub carried_after : ℕ → Answer → List Bool
carried_after losses (Reply r) = if nat_lt losses 4 then false ∷ [] else []
carried_after losses answer = []

-- the sendings of a log, each with whether it was lost
abbrev pub sendings : List LogEntry → List Bool
sendings [] = []
sendings (Asked part sync request losses answer ∷ log) = (replicate losses true ++ carried_after losses answer) ++ sendings log
sendings (Drew name floor answer ∷ log) = sendings log

-- the passages of a session's Sends
abbrev pub passage_of : ℕ → Act → Option Passage
passage_of n (Send session part sync passage) = if session == n then Some passage else None
passage_of n act = None

abbrev pub passages_of : ℕ → List Act → List Passage
passages_of n acts = filter_map (passage_of n) acts

-- the answers that a wire tells from now on: those of `first`, and then those of `round` over and over
pub record Telling : Type 0 where
  pub first : List Passage
  pub round : List Passage

-- the first answers of the wire of session n are the sendings of its log; where there are acts, its Sends have just these passages
pub record Carried (kept : RunRecord) (n : ℕ) (first round : List Passage) : Type 0 where
  pub passages : List Passage
  pub later : List Passage
  pub told : Told first round passages later
  pub losses : map is_loss passages ≡ sendings (log_of kept n)
  pub of_acts : kept.acts ≢ [] → passages_of n kept.acts ≡ passages

-- so far: the wire has told these passages; behind the sendings of the log are those of the request under way
pub record IsCarried (first round passages later : List Passage) (log : List LogEntry) (tail : List Bool) : Type 0 where
  pub told : Told first round passages later
  pub losses : map is_loss passages ≡ sendings log ++ tail

-- the wire of each session told what its log lost
abbrev pub AllCarried : List Telling → RunRecord → Type 0
AllCarried told kept = (n : ℕ) (t : Telling) → Lies 1 (length kept.logs) n → slice_get told (n - 1) ≡ Some t → Carried kept n t.first t.round
