-- The machine one instruction on, and at its end.
use Rattle.std.proofs.Common.{◌≡◌, ◌≤◌, ◌<◌, ◌-◌, ℕ, zero, suc, List, [], ◌∷◌, length, drop, Some, None, Option, refl, ap, ◌∙◌, arith}
use Rattle.std.specs.Prelude.{option_and_then}
use Rattle.sql_base.specs.declared.expressions.Expr.TheOpen.{Expr-F}
use Rattle.sql_base.specs.declared.tables.TableDef.{TableDef}
use Rattle.predicate_codes.specs.declared.opcodes.Opcode.{Opcode}
use Rattle.predicate_codes.specs.Decoding.{Next, after, decoded, operand, walk, opcode_of}

module _ {A : Type 0} (make : Expr-F A → Option A) (right : List ℕ → Option A) where
  walk-drop : (n : ℕ) (code : List ℕ) (stack : List A) → n ≤ length code → walk make right n stack code ≡ walk make right 0 stack (drop n code)
  walk-drop zero code stack room = refl
  walk-drop (suc n) [] stack room = absurd (omega arith)
  walk-drop (suc n) (b ∷ code) stack room = walk-drop n code stack (omega arith)

  pub walk-goes : (byte : ℕ) (op : Opcode) (code : List ℕ) (old new : List A) (skip : ℕ) → opcode_of byte ≡ Some op → after make right op code old ≡ Some (record { skip = skip; stack = new }) → skip ≤ length code
      → walk make right 0 old (byte ∷ code) ≡ walk make right 0 new (drop skip code)
  walk-goes byte op code old new skip is stepped room =
      ap (λ o. option_and_then (λ (n : Next A). walk make right n.skip n.stack code) (option_and_then (λ (p : Opcode). after make right p code old) o)) is
      ∙ ap (option_and_then (λ (n : Next A). walk make right n.skip n.stack code)) stepped
      ∙ walk-drop skip code new room

  pub walk-stops : (byte : ℕ) (op : Opcode) (code : List ℕ) (old : List A) → opcode_of byte ≡ Some op → after make right op code old ≡ None → walk make right 0 old (byte ∷ code) ≡ None
  walk-stops byte op code old is stepped =
      ap (λ o. option_and_then (λ (n : Next A). walk make right n.skip n.stack code) (option_and_then (λ (p : Opcode). after make right p code old) o)) is
      ∙ ap (option_and_then (λ (n : Next A). walk make right n.skip n.stack code)) stepped

  pub walk-unknown : (byte : ℕ) (code : List ℕ) (old : List A) → opcode_of byte ≡ None → walk make right 0 old (byte ∷ code) ≡ None
  walk-unknown byte code old is = ap (λ o. option_and_then (λ (n : Next A). walk make right n.skip n.stack code) (option_and_then (λ (p : Opcode). after make right p code old) o)) is

pub decoded-walk : (table : TableDef) (room : ℕ) (code : List ℕ) → 0 < room → decoded table room code ≡ walk (operand table room) (decoded table (room - 1)) 0 [] code
decoded-walk table zero code some = absurd (omega arith)
decoded-walk table (suc room) code some = let e : suc room - 1 ≡ room = omega arith in rw e refl
