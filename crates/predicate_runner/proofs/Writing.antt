-- Bytes that are written one part after the other.
use Rattle.std.proofs.Common.{◌≡◌, ◌≤◌, ◌<◌, ◌++◌, ℕ, List, [], ◌∷◌, length, Some, true, ap, sym, ◌∙◌, arith, append_assoc, length-append}
use Rattle.sql_base.specs.Codes.{code_of, counted}
use Rattle.std.specs.Prelude.{nat_le, ◌&&◌}
use Rattle.std.proofs.lemmas.Bool.{and_parts, and_from}
use Rattle.sql_base.specs.Rows.{is_printable}
use Rattle.sql_base.specs.Kinds.{Kind, OfText, kind_of}
use Rattle.sql_base.specs.declared.expressions.Expr.{Expr, roll-Expr}
use Rattle.sql_base.specs.declared.expressions.Expr.TheOpen.{Expr-F, Number, Text, Column, Arith, Compare, And, Or, Not}
use Rattle.sql_base.specs.declared.tables.TableDef.{TableDef}
use Rattle.predicate_runner.specs.Scaffold.Texts.{texts_step, has_short_texts}
use Rattle.predicate_codes.proofs.Complete.{some_of_arith, some_of_compare, some_of_truths}
use Rattle.predicate_codes.proofs.Layers.{fold_layer, kind_layer}
use Rattle.sql_base.proofs.Truths.{some_if}
use Rattle.sql_base.proofs.Layers.{Each, by_layers}

-- the operands' codes, and a byte behind them
pub wrote_both : (old mid last new : List ℕ) (e a b a' b' : Expr) (byte byte' : ℕ) → code_of e ≡ code_of a ++ code_of b ++ byte ∷ [] → a' ≡ a → b' ≡ b → byte' ≡ byte
    → mid ≡ old ++ code_of a' → last ≡ mid ++ code_of b' → new ≡ last ++ byte' ∷ [] → new ≡ old ++ code_of e
wrote_both old mid last new e a b a' b' byte byte' code is_a is_b is_byte first second third =
    let whole : new ≡ old ++ code_of a ++ code_of b ++ byte ∷ [] = cc in
    let grouped : old ++ code_of a ++ code_of b ++ byte ∷ [] ≡ old ++ (code_of a ++ code_of b ++ byte ∷ []) = simp append_assoc in
    whole ∙ grouped ∙ ap (λ bytes. old ++ bytes) (sym code)

pub wrote_one : (old mid new : List ℕ) (e a a' : Expr) (byte : ℕ) → code_of e ≡ code_of a ++ byte ∷ [] → a' ≡ a → mid ≡ old ++ code_of a' → new ≡ mid ++ byte ∷ [] → new ≡ old ++ code_of e
wrote_one old mid new e a a' byte code is_a first second =
    let whole : new ≡ old ++ code_of a ++ byte ∷ [] = cc in
    whole ∙ append_assoc old (code_of a) (byte ∷ []) ∙ ap (λ bytes. old ++ bytes) (sym code)

-- a left code, a byte and a counted right code
pub wrote_counted : (old mid last new right right' : List ℕ) (e a b a' b' : Expr) (byte : ℕ) → code_of e ≡ code_of a ++ byte ∷ counted (code_of b) → a' ≡ a → b' ≡ b
    → mid ≡ old ++ code_of a' → last ≡ mid ++ byte ∷ [] → right ≡ [] ++ code_of b' → right' ≡ right → new ≡ last ++ counted right' → new ≡ old ++ code_of e
wrote_counted old mid last new right right' e a b a' b' byte code is_a is_b first second third same fourth =
    let right_is : right' ≡ code_of b = same ∙ third ∙ ap code_of is_b in
    let front : last ≡ old ++ code_of a ++ byte ∷ [] = cc in
    fourth ∙ ap (λ bytes. bytes ++ counted right') front ∙ ap (λ bytes. old ++ code_of a ++ byte ∷ [] ++ counted bytes) right_is
    ∙ append_assoc (old ++ code_of a) (byte ∷ []) (counted (code_of b)) ∙ append_assoc old (code_of a) (byte ∷ counted (code_of b)) ∙ ap (λ bytes. old ++ bytes) (sym code)

pub behind_nothing : {new old : List ℕ} (code nothing : List ℕ) → old ≡ nothing → new ≡ old ++ code → new ≡ nothing ++ code
behind_nothing code nothing is new = new ∙ ap (λ (xs : List ℕ). xs ++ code) is

pub right_short : (e a b b' : Expr) (byte : ℕ) (right right' : List ℕ) → code_of e ≡ code_of a ++ byte ∷ counted (code_of b) → length (code_of e) ≤ 8192 → b' ≡ b → right ≡ [] ++ code_of b' → right' ≡ right → length right' < 65536
right_short e a b b' byte right right' code short is_b third same =
    let right_is : right' ≡ code_of b = same ∙ third ∙ ap code_of is_b in
    let long : length (code_of a ++ byte ∷ counted (code_of b)) ≤ 8192 = rw code at short in
    omega (arith, simp length-append at long, ap length right_is)

-- a well-typed expression has only such texts
typed_texts : (table : TableDef) (x : Expr-F Expr) → Each (λ e. (kind : Kind) → kind_of table e ≡ Some kind → has_short_texts e ≡ true) x → (kind : Kind) → kind_of table (roll-Expr x) ≡ Some kind → has_short_texts (roll-Expr x) ≡ true
typed_texts table (Number n) each kind typed = fold_layer texts_step (Number n)
typed_texts table (Text text) each kind typed =
    let tests = and_parts (nat_le (length text) 255) (is_printable text) (some_if (nat_le (length text) 255 && is_printable text) (OfText (length text)) kind (sym (kind_layer table (Text text)) ∙ typed)) in
    fold_layer texts_step (Text text) ∙ tests.0
typed_texts table (Column c) each kind typed = fold_layer texts_step (Column c)
typed_texts table (Arith op a b) each kind typed =
    let parts = some_of_arith (kind_of table a) (kind_of table b) kind (sym (kind_layer table (Arith op a b)) ∙ typed) in
    fold_layer texts_step (Arith op a b) ∙ and_from (has_short_texts a) (has_short_texts b) (each.0 parts.0 parts.2) (each.1 parts.1 parts.3)
typed_texts table (Compare op a b) each kind typed =
    let parts = some_of_compare (kind_of table a) (kind_of table b) kind (sym (kind_layer table (Compare op a b)) ∙ typed) in
    fold_layer texts_step (Compare op a b) ∙ and_from (has_short_texts a) (has_short_texts b) (each.0 parts.0 parts.2) (each.1 parts.1 parts.3)
typed_texts table (And a b) each kind typed =
    let parts = some_of_truths (kind_of table a) (kind_of table b) kind (sym (kind_layer table (And a b)) ∙ typed) in
    fold_layer texts_step (And a b) ∙ and_from (has_short_texts a) (has_short_texts b) (each.0 parts.0 parts.2) (each.1 parts.1 parts.3)
typed_texts table (Or a b) each kind typed =
    let parts = some_of_truths (kind_of table a) (kind_of table b) kind (sym (kind_layer table (Or a b)) ∙ typed) in
    fold_layer texts_step (Or a b) ∙ and_from (has_short_texts a) (has_short_texts b) (each.0 parts.0 parts.2) (each.1 parts.1 parts.3)
typed_texts table (Not a) each kind typed =
    let parts = some_of_truths (kind_of table a) (kind_of table a) kind (sym (kind_layer table (Not a)) ∙ typed) in
    fold_layer texts_step (Not a) ∙ each parts.0 parts.2

pub has_short_texts-typed : (table : TableDef) (e : Expr) (kind : Kind) → kind_of table e ≡ Some kind → has_short_texts e ≡ true
has_short_texts-typed table = by_layers (λ e. (kind : Kind) → kind_of table e ≡ Some kind → has_short_texts e ≡ true) (typed_texts table)
