-- One instruction of a code that is verified.
use Rattle.std.specs.Prelude.{◌≡◌, ◌≤◌, ℕ, ◌-◌, List, length, map, reverse, Option, Some}
use Rattle.sql_base.specs.declared.tables.TableDef.{TableDef}
use Rattle.predicate_codes.specs.Decoding.{Next, Operand, after, decoded, operand}
use Rattle.predicate_codes.specs.declared.opcodes.Opcode.{Opcode}
use Rattle.predicate_runner.specs.Outlines.{operand_in}
use Rattle.predicate_runner.specs.declared.kinds.Operand.{Operand as Held}

-- the stack, its top first
abbrev pub seen : List Held → List Operand
seen operands = map operand_in (reverse operands)

abbrev pub stepped : TableDef → ℕ → Opcode → List ℕ → List Held → Option (Next Operand)
stepped table room op code stack = after (operand table room) (decoded table (room - 1)) op code (seen stack)

-- the instruction leaves this stack, and so many bytes to pass over
abbrev pub Steps : TableDef → ℕ → Opcode → List ℕ → List Held → List Held → ℕ → Type 0
Steps table room op code old new skip = (stepped table room op code old ≡ Some (record { skip = skip; stack = seen new })) × (skip ≤ length code)
