-- The quantum of one key never goes on.
use Rattle.std.proofs.Common.{◌≡◌, ℕ, List, [], ◌∷◌, map, ◌∙◌}
use Rattle.sql_base.specs.declared.key_ranges.Start.TheVariants.{At}
use Rattle.sql_base.specs.declared.lock_names.Lock.{Lock}
use Rattle.sql_base.specs.declared.scripts.Limits.{Limits}
use Rattle.sql_base.specs.declared.tables.TableDef.{TableDef}
use Rattle.key_sequenced.specs.Cells.{AreCells}
use Rattle.key_sequenced.specs.declared.Cell.{Cell}
use Rattle.subset_blocks.specs.declared.Block.{Block}
use Rattle.quantum_core.specs.Quantum.{quantum, visits}
use Rattle.quantum_core.specs.Verdicts.{Judged, candidates, judged, verdict}
use Rattle.quantum_core.specs.declared.replies.QuantumReply.TheVariants as answers
use Rattle.quantum_core.specs.declared.works.SetWork.{SetWork}
use Rattle.partition_laws.proofs.CellMoves.{cell_key}
use Rattle.partition_laws.proofs.Orders.{Climbs-from_rise}
use Rattle.partition_core.proofs.Told.{Ends}
use Rattle.partition_laws.proofs.Singles.{judged-one, one-answer, one-candidate}

-- one at most
abbrev AtMostOne : {A : Type 0} → List A → Type 0
AtMostOne [] = Unit {0}
AtMostOne (x ∷ []) = Unit {0}
AtMostOne (x ∷ y ∷ xs) = ⊥

pub single-ends : (limits : Limits) (table : TableDef) (cells : List Cell) (locks : List Lock) (block : Block SetWork) (key : List ℕ) → block.start ≡ At key → block.high ≡ key → AreCells cells → Ends (quantum limits table cells locks block).reply
single-ends limits table cells locks block key start high rise last cause rows changed e =
    let judge : Cell → Judged = λ cell. record { key = cell.key; verdict = verdict table locks block cell } in
    let js : List Judged = judged table locks block cells in
    one-answer limits (visits limits js) js last cause rows changed (judged-one judge (candidates block cells) (one-candidate block key cells start high (Climbs-from_rise (map cell_key cells) rise))) e
