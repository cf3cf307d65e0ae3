-- The stack of a verification, and what its instructions do with it.
use Rattle.std.proofs.Common.{◌≡◌, ◌≤◌, ◌<◌, ◌^◌, ℕ, zero, suc, ℤ, pos, negsuc, List, [], ◌∷◌, ◌++◌, length, take, get_or, map, Some, None, Option, true, false, refl, ap, sym, ◌∙◌, arith}
use Rattle.std.specs.Prelude.{option_and_then, nat_le, nat_lt}
use Rattle.std.specs.List.{list_all}
use Rattle.std.specs.Int.{w64, cast_signed, from_be_bytes}
use Rattle.std.proofs.lemmas.Bool.{le-leb, lt-leb, lt-ltb, and_from}
use Rattle.std.proofs.lemmas.Int.{ints}
use Rattle.std.proofs.lemmas.List.{reverse-append}
use Rattle.sql_base.specs.Kinds.{OfNumber, kind_step}
use Rattle.sql_base.specs.Rows.{in_i64}
use Rattle.sql_base.specs.declared.expressions.Expr.TheOpen.{Number}
use Rattle.sql_base.specs.declared.tables.TableDef.{TableDef}
use Rattle.sql_base.specs.declared.expressions.Expr.{roll-Expr}
use Rattle.sql_base.specs.declared.expressions.Expr.TheVariants as expr
use Rattle.sql_base.specs.declared.expressions.Expr.TheVariants.{rolls-Number}
use Rattle.predicate_codes.specs.Decoding.{Next, Operand, fitting, operand, pushed, front, number_in, number_at}
use Rattle.predicate_runner.specs.Outlines.{operand_in}
use Rattle.predicate_runner.specs.Stepping.{seen}
use Rattle.predicate_runner.specs.declared.kinds.Operand.{Operand as Held}

pub seen-push : (operands : List Held) (o : Held) → seen (operands ++ o ∷ []) ≡ operand_in o ∷ seen operands
seen-push operands o = ap (map operand_in) (reverse-append operands (o ∷ []))

abbrev pub AreBytes : List ℕ → Type 0
AreBytes code = (i : ℕ) → get_or code i 0 < 256

take_bytes : (n : ℕ) (code : List ℕ) → AreBytes code → list_all (λ b. nat_lt b 256) (take n code) ≡ true
take_bytes zero code bytes = refl
take_bytes (suc n) [] bytes = refl
take_bytes (suc n) (b ∷ code) bytes = and_from (nat_lt b 256) (list_all (λ c. nat_lt c 256) (take n code)) (lt-ltb b 256 (bytes 0)) (take_bytes n code (λ i. bytes (suc i)))

front-there : (n : ℕ) (code : List ℕ) → n ≤ length code → front n code ≡ Some (take n code)
front-there n code room = let enough : nat_le n (length code) ≡ true = le-leb n (length code) room in rw enough refl

front-short : (n : ℕ) (code : List ℕ) → length code < n → front n code ≡ None
front-short n code short = let no : nat_le n (length code) ≡ false = lt-leb n (length code) short in rw no refl

pub number_at-there : (code : List ℕ) → AreBytes code → 8 ≤ length code → number_at w64 code ≡ Some (from_be_bytes w64 (take 8 code))
number_at-there code bytes room =
    let all : list_all (λ b. nat_lt b 256) (take 8 code) ≡ true = take_bytes 8 code bytes in
    ap (option_and_then (number_in w64)) (front-there 8 code room) ∙ rw all refl

number_below : (code : List ℕ) → AreBytes code → from_be_bytes w64 code < 2 ^ 64
number_below code bytes = omega (arith, bytes 0, bytes 1, bytes 2, bytes 3, bytes 4, bytes 5, bytes 6, bytes 7)

take_are_bytes : (n : ℕ) (code : List ℕ) → AreBytes code → AreBytes (take n code)
take_are_bytes zero code bytes i = omega arith
take_are_bytes (suc n) [] bytes i = omega arith
take_are_bytes (suc n) (b ∷ code) bytes zero = bytes 0
take_are_bytes (suc n) (b ∷ code) bytes (suc i) = take_are_bytes n code (λ j. bytes (suc j)) i

signed_fits : (z : ℤ) (n : ℕ) → n < 2 ^ 64 → z ≡ cast_signed w64 n → in_i64 z ≡ true
signed_fits (pos k) n fits e = lt-ltb k (2 ^ 63) (omega (arith, ints))
signed_fits (negsuc k) n fits e = lt-ltb k (2 ^ 63) (omega (arith, ints))

pub number-steps : (table : TableDef) (room : ℕ) (code : List ℕ) (z : ℤ) (old new : List Operand) (o : Operand) → AreBytes code → 8 ≤ length code → z ≡ cast_signed w64 (from_be_bytes w64 (take 8 code)) → fitting room (expr.Number z) 1 (Some OfNumber) ≡ Some o → new ≡ o ∷ old
    → option_and_then (λ n. pushed 8 old (operand table room (Number (cast_signed w64 n)))) (number_at w64 code) ≡ Some (record { skip = 8; stack = new })
number-steps table room code z old new o bytes enough read made is =
    let n = from_be_bytes w64 (take 8 code) in
    let fits : in_i64 (cast_signed w64 n) ≡ true = signed_fits (cast_signed w64 n) n (number_below (take 8 code) (take_are_bytes 8 code bytes)) refl in
    let kind : kind_step table (Number (cast_signed w64 n)) ≡ Some OfNumber = rw fits refl in
    ap (option_and_then (λ m. pushed 8 old (operand table room (Number (cast_signed w64 m))))) (number_at-there code bytes enough)
    ∙ ap (λ k. pushed 8 old (fitting room (roll-Expr (Number (cast_signed w64 n))) 1 k)) kind
    ∙ ap (λ e. pushed 8 old (fitting room e 1 (Some OfNumber))) (rolls-Number (cast_signed w64 n))
    ∙ ap (λ (m : ℤ). pushed 8 old (fitting room (expr.Number m) 1 (Some OfNumber))) (sym read)
    ∙ ap (pushed 8 old) made ∙ ap (λ (stack : List Operand). let next : Option (Next Operand) = Some (record { skip = 8; stack = stack }) in next) (sym is)
