-- Which bytes are the code of an expression or a filter: a machine that reads one instruction after the other, over a stack.
use Rattle.std.specs.Prelude.{ℕ, zero, suc, nat_le, nat_lt, nat_eq, List, [], ◌∷◌, length, take, drop, find, Option, Some, None, option_map, option_and_then, if◌then◌else◌}
use Rattle.std.specs.List.{list_all}
use Rattle.std.specs.Int.{Width, w16, w64, byte_len, cast_signed, from_be_bytes}
use Rattle.sql_base.specs.Codes.{arith_code, compare_code, counted}
use Rattle.sql_base.specs.Kinds.{Kind, OfNumber, OfText, OfTruth, kind_step, depth_step}
use Rattle.sql_base.specs.declared.expressions.ArithOp.TheVariants.{Add, Sub, Mul, Div}
use Rattle.sql_base.specs.declared.expressions.CompareOp.TheVariants.{Eq, Ne, Lt, Le, Gt, Ge}
use Rattle.sql_base.specs.declared.expressions.Expr.{Expr, roll-Expr}
use Rattle.sql_base.specs.declared.expressions.Expr.TheOpen.{Expr-F, Number, Text, Column, Arith, Compare, And, Or, Not}
use Rattle.sql_base.specs.declared.tables.TableDef.{TableDef}
use Rattle.predicate_codes.specs.declared.opcodes.Opcode.{Opcode}
use Rattle.predicate_codes.specs.declared.opcodes.Opcode.TheVariants.{PushNumber, PushText, PushColumn, DoArith, DoCompare, DoAnd, DoOr, DoNot}

-- the byte with which an instruction begins
abbrev pub byte_of : Opcode → ℕ
byte_of PushNumber = 0x01
byte_of PushText = 0x02
byte_of PushColumn = 0x03
byte_of (DoArith op) = arith_code op
byte_of (DoCompare op) = compare_code op
byte_of DoAnd = 0x30
byte_of DoOr = 0x31
byte_of DoNot = 0x32

abbrev pub opcodes : List Opcode
opcodes =
    PushNumber ∷ PushText ∷ PushColumn
    ∷ DoArith Add ∷ DoArith Sub ∷ DoArith Mul ∷ DoArith Div
    ∷ DoCompare Eq ∷ DoCompare Ne ∷ DoCompare Lt ∷ DoCompare Le ∷ DoCompare Gt ∷ DoCompare Ge
    ∷ DoAnd ∷ DoOr ∷ DoNot ∷ []

-- the instruction that begins with the byte
abbrev pub opcode_of : ℕ → Option Opcode
opcode_of byte = find (λ op. nat_eq (byte_of op) byte) opcodes

-- the first n bytes, where there are so many
abbrev pub front : ℕ → List ℕ → Option (List ℕ)
front n code = if nat_le n (length code) then Some (take n code) else None

-- the number that stands in front
abbrev pub number_in : Width → List ℕ → Option ℕ
number_in width bytes = if list_all (λ b. nat_lt b 256) bytes then Some (from_be_bytes width bytes) else None

abbrev pub number_at : Width → List ℕ → Option ℕ
number_at width code = option_and_then (number_in width) (front (byte_len width) code)

-- the bytes in front that have their length in 2 bytes before them
abbrev pub counted_at : List ℕ → Option (List ℕ)
counted_at code = option_and_then (λ n. front n (drop 2 code)) (number_at w16 code)

-- the machine behind an instruction: how many bytes of it are still to be passed, and the stack, its top first
pub record Next (A : Type 0) : Type 0 where
  pub skip : ℕ
  pub stack : List A

abbrev pub pushed : {A : Type 0} → ℕ → List A → Option A → Option (Next A)
pushed skip stack a = option_map (λ top. record { skip = skip; stack = top ∷ stack }) a

-- one instruction, its byte already read: make tells what an operator makes of its operands, right what the right code of AND or OR
-- stands for by itself
abbrev pub after : {A : Type 0} → (Expr-F A → Option A) → (List ℕ → Option A) → Opcode → List ℕ → List A → Option (Next A)
after make right PushNumber code stack =
    option_and_then (λ n. pushed 8 stack (make (Number (cast_signed w64 n)))) (number_at w64 code)
after make right PushText [] stack = None
after make right PushText (n ∷ code) stack = option_and_then (λ text. pushed (suc n) stack (make (Text text))) (front n code)
after make right PushColumn [] stack = None
after make right PushColumn (c ∷ code) stack = pushed 1 stack (make (Column c))
after make right (DoArith op) code [] = None
after make right (DoArith op) code (b ∷ []) = None
after make right (DoArith op) code (b ∷ a ∷ stack) = pushed 0 stack (make (Arith op a b))
after make right (DoCompare op) code [] = None
after make right (DoCompare op) code (b ∷ []) = None
after make right (DoCompare op) code (b ∷ a ∷ stack) = pushed 0 stack (make (Compare op a b))
after make right DoAnd code [] = None
after make right DoAnd code (a ∷ stack) =
    option_and_then (λ bytes. option_and_then (λ b. pushed (length (counted bytes)) stack (make (And a b))) (right bytes)) (counted_at code)
after make right DoOr code [] = None
after make right DoOr code (a ∷ stack) =
    option_and_then (λ bytes. option_and_then (λ b. pushed (length (counted bytes)) stack (make (Or a b))) (right bytes)) (counted_at code)
after make right DoNot code [] = None
after make right DoNot code (a ∷ stack) = pushed 0 stack (make (Not a))

-- at the end just one result is left
abbrev pub result_of : {A : Type 0} → ℕ → List A → Option A
result_of zero (a ∷ []) = Some a
result_of zero [] = None
result_of zero (b ∷ a ∷ stack) = None
result_of (suc skip) stack = None

abbrev pub walk : {A : Type 0} → (Expr-F A → Option A) → (List ℕ → Option A) → ℕ → List A → List ℕ → Option A
walk make right skip stack [] = result_of skip stack
walk make right (suc skip) stack (b ∷ code) = walk make right skip stack code
walk make right zero stack (b ∷ code) =
    option_and_then (λ next. walk make right next.skip next.stack code) (option_and_then (λ op. after make right op code stack) (opcode_of b))

-- an expression, with its kind and depth
pub record Operand : Type 0 where
  pub tree : Expr
  pub kind : Kind
  pub depth : ℕ

-- one operator over other operands
abbrev pub mapped : {A B : Type 0} → (A → B) → Expr-F A → Expr-F B
mapped f (Number n) = Number n
mapped f (Text text) = Text text
mapped f (Column c) = Column c
mapped f (Arith op a b) = Arith op (f a) (f b)
mapped f (Compare op a b) = Compare op (f a) (f b)
mapped f (And a b) = And (f a) (f b)
mapped f (Or a b) = Or (f a) (f b)
mapped f (Not a) = Not (f a)

abbrev pub fitting : ℕ → Expr → ℕ → Option Kind → Option Operand
fitting room tree depth (Some kind) = if nat_le depth room then Some (record { tree = tree; kind = kind; depth = depth }) else None
fitting room tree depth None = None

-- what an operator makes of its operands, if they are of the right kinds and not too deep
abbrev pub operand : TableDef → ℕ → Expr-F Operand → Option Operand
operand table room layer =
    fitting room
    (roll-Expr (mapped (λ (o : Operand). o.tree) layer))
    (depth_step (mapped (λ (o : Operand). o.depth) layer))
    (kind_step table (mapped (λ (o : Operand). Some o.kind) layer))

-- the well-typed expression of at most this depth whose code the bytes are
abbrev pub decoded : TableDef → ℕ → List ℕ → Option Operand
decoded table zero code = None
decoded table (suc room) code = walk (operand table (suc room)) (decoded table room) 0 [] code

-- the well-typed expression within the limits whose code the bytes are
unfoldable pub read_code : TableDef → List ℕ → Option Operand
read_code table code = if nat_le (length code) 8192 then decoded table 32 code else None

abbrev pub expr_of : TableDef → List ℕ → Option Expr
expr_of table code = option_map (λ (o : Operand). o.tree) (read_code table code)

abbrev pub if_truth : Kind → Expr → Option Expr
if_truth OfTruth tree = Some tree
if_truth OfNumber tree = None
if_truth (OfText width) tree = None

-- the truth value whose code the bytes are
abbrev pub predicate_in : TableDef → List ℕ → Option Expr
predicate_in table code = option_and_then (λ (o : Operand). if_truth o.kind o.tree) (read_code table code)

-- the filter for which a code stands
abbrev pub filter_of : TableDef → Option (List ℕ) → Option (Option Expr)
filter_of table None = Some None
filter_of table (Some code) = option_map Some (predicate_in table code)
