use Rattle.std.proofs.Common.{refl, rules, ◌++◌, ◌∷◌, [], List, ℕ, ap, sym, ◌∙◌, append_assoc, length}
use Rattle.std.specs.Int.{w64, cast_unsigned, to_be_bytes}
use Rattle.std.proofs.lemmas.Int.{to_z-of_z}
use mir.Val.{SFits}
use Rattle.sql_base.specs.Codes.{code_of, code_step}
use Rattle.sql_base.proofs.Trees.{fold-Number, fold-Text, fold-Column, fold-Arith, fold-Compare, fold-And, fold-Or, fold-Not}
use Rattle.predicate_runner.proofs.Writing.{behind_nothing, wrote_both, wrote_one, wrote_counted, right_short}
use Rattle.predicate_runner.proofs.compiling.+append_code.Goals as goal

pub append_counted-requires : goal.append_counted-requires
append_counted-requires t c =
    let code = ap code_of c.in-And.is ∙ fold-And (List ℕ) code_step c.in-And.a c.in-And.b in
    right_short c.args.expr.now c.in-And.a c.in-And.b _ _ _ _ code c.requires.short c.get-in-And-2.ensures (behind_nothing _ _ c.new-right.ensures.items c.in_ok-append_code-in-And-2.ensures) c.deref.ensures.value

pub append_counted-requires-in-Or : goal.append_counted-requires-in-Or
append_counted-requires-in-Or t c =
    let code = ap code_of c.in-Or.is ∙ fold-Or (List ℕ) code_step c.in-Or.a c.in-Or.b in
    right_short c.args.expr.now c.in-Or.a c.in-Or.b _ _ _ _ code c.requires.short c.get-in-Or-2.ensures (behind_nothing _ _ c.new-right-in-Or.ensures.items c.in_ok-append_code-in-Or-2.ensures) c.deref-in-Or.ensures.value

pub returns-in_ok-extend_from_slice-in-Number : goal.returns-in_ok-extend_from_slice-in-Number
returns-in_ok-extend_from_slice-in-Number t c =
    let code = ap code_of c.in-Number.is ∙ fold-Number (List ℕ) code_step c.in-Number.number in
    let fits : SFits w64 c.in-Number.number = search rules in
    c.in_ok-extend_from_slice-in-Number.ensures.items ∙ ap (λ (xs : List ℕ). xs ++ c.to_be_bytes.result) c.in_ok-append_opcode-in-Number.ensures ∙ append_assoc c.args.bytes.now.items (0x01 ∷ []) c.to_be_bytes.result
    ∙ ap (λ xs. c.args.bytes.now.items ++ 0x01 ∷ xs) (c.to_be_bytes.ensures ∙ ap (λ z. to_be_bytes w64 (cast_unsigned w64 z)) (to_z-of_z w64 c.in-Number.number fits)) ∙ ap (λ xs. c.args.bytes.now.items ++ xs) (sym code)

pub returns-in_ok-extend_from_slice-in-Text : goal.returns-in_ok-extend_from_slice-in-Text
returns-in_ok-extend_from_slice-in-Text t c =
    let code = ap code_of c.in-Text.is ∙ fold-Text (List ℕ) code_step c.in-Text.text in
    let old = c.args.bytes.now.items in
    let text = c.bytes-text.result.now in
    c.in_ok-extend_from_slice-in-Text.ensures.items ∙ ap (λ (xs : List ℕ). xs ++ text) (c.in_ok-push-in-Text.ensures.items ∙ ap (λ (xs : List ℕ). xs ++ length text ∷ []) c.in_ok-append_opcode-in-Text.ensures)
    ∙ append_assoc (old ++ 0x02 ∷ []) (length text ∷ []) text ∙ append_assoc old (0x02 ∷ []) (length text ∷ text)
    ∙ ap (λ xs. old ++ 0x02 ∷ length xs ∷ xs) c.bytes-text.ensures ∙ ap (λ xs. old ++ xs) (sym code)

pub returns-in_ok-push-in-Column : goal.returns-in_ok-push-in-Column
returns-in_ok-push-in-Column t c =
    let code = ap code_of c.in-Column.is ∙ fold-Column (List ℕ) code_step c.in-Column.column in
    c.in_ok-push-in-Column.ensures.items ∙ ap (λ (xs : List ℕ). xs ++ c.in-Column.column ∷ []) c.in_ok-append_opcode-in-Column.ensures ∙ append_assoc c.args.bytes.now.items (0x03 ∷ []) (c.in-Column.column ∷ []) ∙ ap (λ xs. c.args.bytes.now.items ++ xs) (sym code)

pub returns-in_ok-append_opcode-in-Arith : goal.returns-in_ok-append_opcode-in-Arith
returns-in_ok-append_opcode-in-Arith t c =
    let code = ap code_of c.in-Arith.is ∙ fold-Arith (List ℕ) code_step c.in-Arith.op c.in-Arith.a c.in-Arith.b in
    wrote_both c.args.bytes.now.items _ _ _ c.args.expr.now c.in-Arith.a c.in-Arith.b _ _ _ _ code c.get.ensures c.get-in-Arith.ensures refl c.in_ok-append_code-in-Arith.ensures c.in_ok-append_code-in-Arith-2.ensures c.in_ok-append_opcode-in-Arith.ensures

pub returns-in_ok-append_opcode-in-Compare : goal.returns-in_ok-append_opcode-in-Compare
returns-in_ok-append_opcode-in-Compare t c =
    let code = ap code_of c.in-Compare.is ∙ fold-Compare (List ℕ) code_step c.in-Compare.op c.in-Compare.a c.in-Compare.b in
    wrote_both c.args.bytes.now.items _ _ _ c.args.expr.now c.in-Compare.a c.in-Compare.b _ _ _ _ code c.get-in-Compare.ensures c.get-in-Compare-2.ensures refl c.in_ok-append_code-in-Compare.ensures c.in_ok-append_code-in-Compare-2.ensures c.in_ok-append_opcode-in-Compare.ensures

pub returns-in_ok-append_counted-in-And : goal.returns-in_ok-append_counted-in-And
returns-in_ok-append_counted-in-And t c =
    let code = ap code_of c.in-And.is ∙ fold-And (List ℕ) code_step c.in-And.a c.in-And.b in
    wrote_counted c.args.bytes.now.items _ _ _ _ _ c.args.expr.now c.in-And.a c.in-And.b _ _ 0x30 code c.get-in-And.ensures c.get-in-And-2.ensures c.in_ok-append_code-in-And.ensures c.in_ok-append_opcode-in-And.ensures
    (behind_nothing _ _ c.new-right.ensures.items c.in_ok-append_code-in-And-2.ensures) c.deref.ensures.value c.in_ok-append_counted-in-And.ensures

pub returns-in_ok-append_counted-in-Or : goal.returns-in_ok-append_counted-in-Or
returns-in_ok-append_counted-in-Or t c =
    let code = ap code_of c.in-Or.is ∙ fold-Or (List ℕ) code_step c.in-Or.a c.in-Or.b in
    wrote_counted c.args.bytes.now.items _ _ _ _ _ c.args.expr.now c.in-Or.a c.in-Or.b _ _ 0x31 code c.get-in-Or.ensures c.get-in-Or-2.ensures c.in_ok-append_code-in-Or.ensures c.in_ok-append_opcode-in-Or.ensures
    (behind_nothing _ _ c.new-right-in-Or.ensures.items c.in_ok-append_code-in-Or-2.ensures) c.deref-in-Or.ensures.value c.in_ok-append_counted-in-Or.ensures

pub returns-in_ok-append_opcode-in-Not : goal.returns-in_ok-append_opcode-in-Not
returns-in_ok-append_opcode-in-Not t c =
    let code = ap code_of c.in-Not.is ∙ fold-Not (List ℕ) code_step c.in-Not.a in
    wrote_one c.args.bytes.now.items _ _ c.args.expr.now c.in-Not.a _ 0x32 code c.get-in-Not.ensures c.in_ok-append_code-in-Not.ensures c.in_ok-append_opcode-in-Not.ensures
