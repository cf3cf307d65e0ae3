use Rattle.std.proofs.Common.{◌≡◌, ◌++◌, take}
use Rattle.record_text.proofs.tables.push_rows.Given as goal

-- the copies so far
abbrev pub invariant-loop-row : goal.invariant-loop-row
invariant-loop-row l = l.rows ≡ l.fn.rows ++ take l.row-index l.more
