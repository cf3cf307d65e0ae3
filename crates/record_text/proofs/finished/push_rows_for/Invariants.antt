use Rattle.std.proofs.Common.{◌≡◌, ◌++◌, filter, take}
use Rattle.std.specs.Prelude.{flat_map}
use Rattle.session_grammar.specs.Rows.{is_for}
use Rattle.run_record.specs.Serial.{entry_rows}
use Rattle.record_text.proofs.finished.push_rows_for.Given as goal

-- the rows of the entries so far
abbrev pub invariant-loop-entry : goal.invariant-loop-entry
invariant-loop-entry l = l.rows ≡ l.fn.rows ++ flat_map entry_rows (filter (is_for l.part) (take l.entry-index l.entries))
