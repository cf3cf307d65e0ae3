-- The script that is made from a number meets every rule.
use Rattle.std.proofs.Common.{◌≡◌, ◌<◌, ◌≤◌, ℕ, zero, suc, ◌+◌, ◌*◌, ◌^◌, pos, List, [], ◌∷◌, map, length, Option, Some, None, Ok, Bool, true, false, refl, sym, ap, ◌∙◌, lit≤, arith}
use Rattle.std.proofs.lemmas.Bool.{lt-ltb}
use Rattle.std.proofs.lemmas.Bool.Decides.{nat_tests}
use Rattle.std.proofs.lemmas.Int.{ints}
use Rattle.std.proofs.lemmas.Nat.{mod_below}
use Rattle.std.specs.Cmp.{int_cmp_is}
use Rattle.std.specs.Int.{is_in_range}
use Rattle.std.specs.List.{AllByRecursion, range_with_len}
use Rattle.std.specs.Ordering.{int_cmp, is_ge}
use Rattle.std.specs.Prelude.{◌==◌, if◌then◌else◌, slice_get, sum_by}
use Rattle.std.specs.declared.cmp.Ordering.{Ordering}
use Rattle.std.specs.declared.cmp.Ordering.TheVariants.{Greater}
use Rattle.sql_base.proofs.KeyOrder.{int_keys-rise}
use Rattle.sql_base.proofs.Trees.{fold-And, fold-Arith, fold-Column, fold-Compare, fold-Number}
use Rattle.sql_base.specs.Codes.{code_step}
use Rattle.sql_base.specs.Keys.{Rise}
use Rattle.sql_base.specs.Kinds.{IsExpr, Kind, OfNumber, OfTruth, depth_step, kind_step}
use Rattle.sql_base.specs.OnRows.{first_failing}
use Rattle.sql_base.specs.Rows.{IsRow, in_i64, key_of, kinds}
use Rattle.sql_base.specs.Scripts.{IsLoad, IsScript}
use Rattle.sql_base.specs.Tables.{AreSets, IsStatement, IsTable}
use Rattle.sql_base.specs.Val.{IsTruth, Outcome, val, val_step}
use Rattle.sql_base.specs.declared.expressions.ArithOp.TheVariants.{Add}
use Rattle.sql_base.specs.declared.expressions.CompareOp.{CompareOp}
use Rattle.sql_base.specs.declared.expressions.CompareOp.TheVariants.{Ge, Le}
use Rattle.sql_base.specs.declared.expressions.Expr.{Expr, fold-Expr}
use Rattle.sql_base.specs.declared.expressions.Expr.TheOpen.{Expr-F, And, Arith, Column, Compare, Number}
use Rattle.sql_base.specs.declared.expressions.Expr.TheVariants as expr
use Rattle.sql_base.specs.declared.statements.Statement.{Statement}
use Rattle.sql_base.specs.declared.tables.ColumnKind.TheVariants.{Int}
use Rattle.script_maker.specs.Making.{account, accounts, after, compared_with, draw, hundred_from, in_line, loaded_account, made, one_more, statement, statement_of_kind, work, works}
use Rattle.script_maker.proofs.InLine.{each_in_line, length-in_line}

-- ---- expressions

-- a + b, the value of an assignment
abbrev raised : Expr
raised = expr.Arith Add (expr.Column 2) (expr.Number (pos 1))

module _ (A : Type 0) (step : Expr-F A → A) where
  fold-compared : (column : ℕ) (op : CompareOp) (n : ℕ) → fold-Expr A step (compared_with column op n) ≡ step (Compare op (step (Column column)) (step (Number (pos n))))
  fold-compared column op n =
      fold-Compare A step op (expr.Column column) (expr.Number (pos n)) ∙ ap (λ a. step (Compare op a (fold-Expr A step (expr.Number (pos n))))) (fold-Column A step column)
      ∙ ap (λ b. step (Compare op (step (Column column)) b)) (fold-Number A step (pos n))

  fold-hundred : (n : ℕ) → fold-Expr A step (hundred_from n)
      ≡ step (And (step (Compare Ge (step (Column 0)) (step (Number (pos n))))) (step (Compare Le (step (Column 0)) (step (Number (pos (n + 99)))))))
  fold-hundred n =
      fold-And A step (compared_with 0 Ge n) (compared_with 0 Le (n + 99)) ∙ ap (λ a. step (And a (fold-Expr A step (compared_with 0 Le (n + 99))))) (fold-compared 0 Ge n)
      ∙ ap (λ b. step (And (step (Compare Ge (step (Column 0)) (step (Number (pos n))))) b)) (fold-compared 0 Le (n + 99))

  fold-raised : fold-Expr A step raised ≡ step (Arith Add (step (Column 2)) (step (Number (pos 1))))
  fold-raised =
      fold-Arith A step Add (expr.Column 2) (expr.Number (pos 1)) ∙ ap (λ a. step (Arith Add a (fold-Expr A step (expr.Number (pos 1))))) (fold-Column A step 2)
      ∙ ap (λ b. step (Arith Add (step (Column 2)) b)) (fold-Number A step (pos 1))

fits : (n : ℕ) → n < 2 ^ 63 → in_i64 (pos n) ≡ true
fits n small = lt-ltb n (2 ^ 63) small

compared_is : (column : ℕ) (op : CompareOp) (n : ℕ) → slice_get (kinds accounts) column ≡ Some Int → n < 2 ^ 63 → IsExpr accounts OfTruth (compared_with column op n)
compared_is column op n there small = record {
  typed = fold-compared (Option Kind) (kind_step accounts) column op n ∙ rw (there, fits n small) refl;
  depth = rw (fold-compared ℕ depth_step column op n) (lit≤ tt);
  code = rw (fold-compared (List ℕ) code_step column op n) (lit≤ tt);
}

hundred_is : (n : ℕ) → n < 900 → IsExpr accounts OfTruth (hundred_from n)
hundred_is n small = record {
  typed = fold-hundred (Option Kind) (kind_step accounts) n ∙ rw (fits n (omega (arith, small)), fits (n + 99) (omega (arith, small))) refl;
  depth = rw (fold-hundred ℕ depth_step n) (lit≤ tt);
  code = rw (fold-hundred (List ℕ) code_step n) (lit≤ tt);
}

raised_is : IsExpr accounts OfNumber raised
raised_is = record {
  typed = fold-raised (Option Kind) (kind_step accounts);
  depth = rw (fold-raised ℕ depth_step) (lit≤ tt);
  code = rw (fold-raised (List ℕ) code_step) (lit≤ tt);
}

sets_are : AreSets accounts (one_more ∷ [])
sets_are = record {
  some = lit≤ tt;
  each = ((Int, OfNumber, refl, refl, tt, raised_is), tt);
  differ = refl;
  code = rw (fold-raised (List ℕ) code_step) (lit≤ tt);
}

-- ---- the table and its records

is_table : IsTable accounts
is_table = record {
  name = record { name = record { letter = refl; bytes = refl; free = refl }; short = lit≤ tt };
  columns = lit≤ tt;
  column_names = (
    record { name = record { letter = refl; bytes = refl; free = refl }; short = lit≤ tt },
    (
      record { name = record { letter = refl; bytes = refl; free = refl }; short = lit≤ tt },
      (record { name = record { letter = refl; bytes = refl; free = refl }; short = lit≤ tt }, tt),
    ),
  );
  names_differ = refl;
  widths = (tt, ((lit≤ tt, lit≤ tt), (tt, tt)));
  row = lit≤ tt;
  key = record { some = lit≤ tt; within = (lit≤ tt, tt); differ = refl };
  key_bytes = lit≤ tt;
  few_checks = lit≤ tt;
  checks = (compared_is 2 Ge 0 refl (omega arith), tt);
  firsts = record { some = (lit≤ tt, (lit≤ tt, tt)); leading = (refl, (refl, tt)); rise = (refl, (refl, tt)) };
}

-- a letter is printable
printable : (letter : ℕ) → 32 ≤ letter → letter ≤ 126 → is_in_range 32 126 letter ≡ true
printable letter low high = grind (arith, nat_tests)

account_is : (number letter balance : ℕ) → number < 2 ^ 63 → 32 ≤ letter → letter ≤ 126 → balance < 2 ^ 63 → IsRow accounts (account number letter balance)
account_is number letter balance small low high few = rw (fits number small, printable letter low high, fits balance few) refl

-- no balance is below 0
abbrev at_least : Ordering → Outcome
at_least o = Ok (IsTruth (is_ge o))

above : (n : ℕ) → int_cmp (pos (suc n)) (pos 0) ≡ Greater
above n = sym (int_cmp_is (pos (suc n)) (pos 0) Greater (omega (arith, ints)))

check_holds : (number letter balance : ℕ) → val (compared_with 2 Ge 0) (account number letter balance) ≡ Ok (IsTruth true)
check_holds number letter zero = fold-compared Outcome (val_step (account number letter zero)) 2 Ge 0
check_holds number letter (suc balance) = fold-compared Outcome (val_step (account number letter (suc balance))) 2 Ge 0 ∙ ap at_least (above balance)

no_debt : (number letter balance : ℕ) → first_failing accounts.checks (account number letter balance) ≡ None
no_debt number letter balance = rw (check_holds number letter balance) refl

-- accounts that are numbered one after the other
rising : (letter balance : ℕ → ℕ) (first count : ℕ) → first + count ≤ 2 ^ 63
    → Rise (map (key_of accounts) (map (λ i. account i (letter i) (balance i)) (range_with_len first count)))
rising letter balance first zero small = tt
rising letter balance first (suc zero) small = tt
rising letter balance first (suc (suc count)) small = (int_keys-rise first (first + 1) (omega arith) (omega (arith, small)), rising letter balance (first + 1) (suc count) (omega (arith, small)))

loaded_rise : (s : ℕ) → Rise (map (key_of accounts) (in_line 2 loaded_account 1000 s))
unfolding in_line
loaded_rise s = rising (λ i. 65 + draw 1 26 (after (2 * i) s)) (λ i. draw 2 1000 (after (2 * i) s)) 0 1000 (omega arith)

drawn_below : (place n s : ℕ) → 0 < n → draw place n s < n
drawn_below place n s some = mod_below _ n some

loaded_is : (number s : ℕ) → number < 1000 → IsRow accounts (loaded_account number s)
loaded_is number s small =
    account_is number (65 + draw 1 26 s) (draw 2 1000 s) (omega (arith, small)) (omega arith) (omega (arith, drawn_below 1 26 s (lit≤ tt))) (omega (arith, drawn_below 2 1000 s (lit≤ tt)))

is_load : (s : ℕ) → IsLoad (accounts ∷ []) (record { table = 0; rows = in_line 2 loaded_account 1000 s })
is_load s = (
  accounts,
  refl,
  omega (arith, length-in_line 2 loaded_account 1000 s),
  (each_in_line (IsRow accounts) 2 loaded_account 1000 s (λ i t lt. loaded_is i t lt), loaded_rise s),
  each_in_line (λ row. first_failing accounts.checks row ≡ None) 2 loaded_account 1000 s (λ i t lt. no_debt i (65 + draw 1 26 t) (draw 2 1000 t)),
)

-- ---- statements and works

-- one of two statements
either : (b : Bool) (x y : Statement) → IsStatement (accounts ∷ []) x → IsStatement (accounts ∷ []) y → IsStatement (accounts ∷ []) (if b then x else y)
either true x y h k = h
either false x y h k = k

suits : (kind n key : ℕ) → n < 900 → key < 2 ^ 63 → IsStatement (accounts ∷ []) (statement_of_kind kind n key)
suits kind n key small fits_key =
    either (kind == 0) _ _ (accounts, refl, (record { some = lit≤ tt; within = (lit≤ tt, (lit≤ tt, tt)); differ = refl }, hundred_is n small))
    (either (kind == 1) _ _ (accounts, refl, (sets_are, hundred_is n small, tt))
    (either (kind == 2) _ _ (accounts, refl, (record { some = lit≤ tt; within = (lit≤ tt, (lit≤ tt, tt)); differ = refl }, compared_is 2 Ge 900 refl (omega arith)))
    (accounts, refl, account_is key 78 n fits_key (lit≤ tt) (lit≤ tt) (omega (arith, small)))))

statement_is : (session place at s : ℕ) → session ≤ 4 → place < 5 → at < 2 → IsStatement (accounts ∷ []) (statement session place at s)
statement_is session place at s few lt within =
    suits (draw 1 4 s) (draw 2 900 s) (1000 + 100 * session + 10 * place + at) (drawn_below 2 900 s (lit≤ tt)) (omega (arith, few, lt, within))

statements_are : (s : ℕ) → AllByRecursion (λ works. AllByRecursion (λ work. AllByRecursion (IsStatement (accounts ∷ [])) work.statements) works) (in_line 25 works 4 s)
statements_are s =
    each_in_line (λ works. AllByRecursion (λ work. AllByRecursion (IsStatement (accounts ∷ [])) work.statements) works) 25 works 4 s (λ place t lt.
    each_in_line (λ work. AllByRecursion (IsStatement (accounts ∷ [])) work.statements) 5 (work (place + 1)) 5 t (λ at u lt_at.
    each_in_line (IsStatement (accounts ∷ [])) 2 (statement (place + 1) at) 2 u (λ j v lt_j.
    statement_is (place + 1) at j v (omega (arith, lt)) lt_at lt_j)))

few_works : (s : ℕ) → sum_by (λ works. length works) (in_line 25 works 4 s) * (0 + 1) ≤ 1000
unfolding in_line
few_works s = lit≤ tt

-- ---- the whole

pub made_is_script : (number : ℕ) → IsScript (made number)
made_is_script number =
    let s = after 2000 number in
    record {
      limits = record { quantum = (lit≤ tt, lit≤ tt); buffer = (lit≤ tt, lit≤ tt); patience = lit≤ tt; servers = (lit≤ tt, lit≤ tt); restart = lit≤ tt };
      some_tables = (lit≤ tt, lit≤ tt);
      tables = (is_table, tt);
      names_differ = refl;
      parts = lit≤ tt;
      loads = (is_load number, tt);
      loads_differ = refl;
      some_sessions = (omega (arith, length-in_line 25 works 4 s), omega (arith, length-in_line 25 works 4 s));
      some_works = each_in_line (λ works. 0 < length works) 25 works 4 s (λ place t lt. omega (arith, length-in_line 5 (work (place + 1)) 5 t));
      works = few_works s;
      statements = statements_are s;
    }
