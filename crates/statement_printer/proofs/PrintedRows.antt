-- Scripts as they are printed.
use Rattle.std.proofs.Common.{◌≡◌, ℕ, pos, List, [], ◌∷◌, ◌++◌, None, true, refl, lit≤}
use Rattle.std.proofs.lemmas.Fmt.{decimal_digit, decimal_step}
use Rattle.std.specs.Prelude.{codes, decimal, flat_map}
use Rattle.sql_base.specs.declared.lock_names.Access.TheVariants.{Repeatable}
use Rattle.sql_base.specs.declared.scripts.Script.{Script}
use Rattle.sql_base.specs.declared.statements.Statement.TheVariants as statement
use Rattle.sql_base.specs.declared.tables.ColumnKind.TheVariants.{Int}
use Rattle.sql_base.specs.declared.values.Value.{Value}
use Rattle.sql_base.specs.declared.values.Value.TheVariants as value
use Rattle.statement_printer.specs.Printing.{limit_words, place_words, key_words, row_words, printed}

-- lines, each with its end
abbrev lines : List (List ℕ) → List ℕ
lines texts = flat_map (λ (text : List ℕ). text ++ 10 ∷ []) texts

d1 : decimal 1 ≡ codes "1"
d1 = decimal_digit 1 (lit≤ tt)

d2 : decimal 2 ≡ codes "2"
d2 = decimal_digit 2 (lit≤ tt)

d3 : decimal 3 ≡ codes "3"
d3 = decimal_digit 3 (lit≤ tt)

d4 : decimal 4 ≡ codes "4"
d4 = decimal_digit 4 (lit≤ tt)

d5 : decimal 5 ≡ codes "5"
d5 = decimal_digit 5 (lit≤ tt)

d8 : decimal 8 ≡ codes "8"
d8 = decimal_digit 8 (lit≤ tt)

d40 : decimal 40 ≡ codes "40"
d40 = simp (decimal_step 40 (lit≤ tt) (lit≤ tt), d4) refl

d409 : decimal 409 ≡ codes "409"
d409 = simp (decimal_step 409 (lit≤ tt) (lit≤ tt), d40) refl

d4096 : decimal 4096 ≡ codes "4096"
d4096 = simp (decimal_step 4096 (lit≤ tt) (lit≤ tt), d409) refl

d10 : decimal 10 ≡ codes "10"
d10 = simp (decimal_step 10 (lit≤ tt) (lit≤ tt), d1) refl

d20 : decimal 20 ≡ codes "20"
d20 = simp (decimal_step 20 (lit≤ tt) (lit≤ tt), d2) refl

d30 : decimal 30 ≡ codes "30"
d30 = simp (decimal_step 30 (lit≤ tt) (lit≤ tt), d3) refl

d50 : decimal 50 ≡ codes "50"
d50 = simp (decimal_step 50 (lit≤ tt) (lit≤ tt), d5) refl

ruleset numbers = (d1, d2, d3, d4, d5, d8, d40, d409, d4096, d10, d20, d30, d50)

abbrev row : ℕ → ℕ → List Value
row k v = value.Int (pos k) ∷ value.Int (pos v) ∷ []

abbrev script : Script
script = record {
  limits = record { quantum = 2; buffer = 4096; patience = 8; servers = 2; restart = 0 };
  tables = record { name = codes "t"; columns = record { name = codes "k"; kind = Int } ∷ record { name = codes "v"; kind = Int } ∷ []; key = 0 ∷ []; checks = []; firsts = [] } ∷ [];
  loads = record { table = 0; rows = row 1 10 ∷ row 2 20 ∷ row 3 30 ∷ row 4 40 ∷ row 5 50 ∷ [] } ∷ [];
  sessions = (record { statements = statement.Select 0 (0 ∷ 1 ∷ []) None Repeatable ∷ []; commit = true } ∷ []) ∷ [];
}

-- row language.1
language_1 : printed script
    ≡ lines (
    codes "QUANTUM 2 ;" ∷ codes "BUFFER 4096 ;" ∷ codes "PATIENCE 8 ;" ∷ codes "SERVERS 2 ;"
    ∷ codes "TABLE t ( k INT , v INT , PRIMARY KEY ( k ) ) ;"
    ∷ codes "LOAD t ( 1 , 10 ) , ( 2 , 20 ) , ( 3 , 30 ) , ( 4 , 40 ) , ( 5 , 50 ) ;"
    ∷ codes "SESSION ;" ∷ codes "SELECT k , v FROM t FOR REPEATABLE ACCESS ;" ∷ codes "COMMIT WORK ;" ∷ []
    )
unfolding limit_words place_words key_words row_words
language_1 = simp numbers refl
