-- The statements of a work are read as they are printed, one after the other.
use Rattle.std.proofs.Common.{◌≡◌, ◌≤◌, ℕ, suc, ◌+◌, ◌*◌, min, List, [], ◌∷◌, ◌++◌, length, false, refl, sym, ap, subst, ◌∙◌, append_assoc, append-nil, arith}
use Rattle.std.proofs.Math.Nat.{le-mul_of_pos_right}
use Rattle.std.proofs.lemmas.Bool.Decides.{nat_tests}
use Rattle.std.proofs.lemmas.Nat.{mul-le}
use Rattle.std.specs.Prelude.{flat_map, nat_le, nat_lt}
use Rattle.std.specs.List.{AllByRecursion}
use Rattle.sql_base.specs.Tables.{IsStatement}
use Rattle.sql_base.specs.declared.statements.Statement.{Statement}
use Rattle.sql_base.specs.declared.statements.Statement.TheVariants as statement
use Rattle.sql_base.specs.declared.tables.TableDef.{TableDef}
use Rattle.statement_words.specs.declared.tokens.Word.{Word}
use Rattle.statement_grammar.specs.Grammar.{part}
use Rattle.statement_grammar.specs.declared.symbols.Part.TheVariants as parts
use Rattle.statement_grammar.specs.declared.symbols.Symbol.{Symbol}
use Rattle.statement_draft.specs.StatementEvents.{no_statement, times}
use Rattle.statement_draft.specs.declared.draft.Draft.{Draft}
use Rattle.statement_draft.specs.declared.draft.NewExpression.{NewExpression}
use Rattle.statement_draft.specs.declared.draft.NewRow.{NewRow}
use Rattle.statement_draft.specs.declared.draft.NewStatement.{NewStatement}
use Rattle.statement_draft.specs.declared.draft.Scope.{Scope}
use Rattle.statement_draft.specs.declared.draft.StatementKind.TheVariants as kinds
use Rattle.statement_printer.specs.Printing.{insert_words, into_words, statement_words}
use Rattle.statement_round_trip.specs.Onward.{ReadsOn}
use Rattle.statement_round_trip.specs.WholeScripts.{record_of}
use Rattle.statement_round_trip.proofs.Beginning.{counted, done, more_begin, FewStatements}
use Rattle.statement_round_trip.proofs.Onward.{from, spelled}
use Rattle.statement_round_trip.proofs.StatementsRead.{statement_reads, with_record, HasRoom}
use Rattle.statement_round_trip.proofs.TableNames.{AreDeclared}

-- how many records the statements count for
abbrev pub records_of : List Statement → ℕ
records_of [] = 0
records_of (st ∷ sts) = record_of st + records_of sts

-- the limits that the reader sets on statements and records
pub record Room (sts : List Statement) (records count : ℕ) (d : Draft) : Type 0 where
  pub statements : (count + length sts) * times d ≤ 500
  pub inserts : records + records_of sts ≤ 4000

-- where statements of a work have been read
abbrev pub holding : Scope → NewExpression → NewRow → NewStatement → Draft → List Statement → ℕ → ℕ → Draft
holding names e row new d work records count =
    record d { work = work; statement = new; scope = names; expression = e; row = row; records = records; statements = count }

abbrev pub emptied : NewRow → NewRow
emptied row = record row { values = [] }

held : (names : Scope) (e : NewExpression) (row : NewRow) (new : NewStatement) (d : Draft) (v w : List Statement) (q r m n : ℕ) → v ≡ w → q ≡ r → m ≡ n
    → holding names e row new d v q m ≡ holding names e row new d w r n
held names e row new d v w q r m n a b c =
    ap (λ (x : List Statement). holding names e row new d x q m) a ∙ ap (λ (x : ℕ). holding names e row new d w x m) b ∙ ap (holding names e row new d w r) c

none_more : (n : ℕ) → n ≡ n + 0
none_more n = omega arith

pub one_more : (most n : ℕ) → n ≤ most → min most n + 1 ≡ n + 1
one_more most n h = omega (arith, h)

pub one_read : (st : Statement) (names other : Scope) (e f : NewExpression) (row rows : NewRow) (new : NewStatement) (d : Draft) (before : List Statement) (records count : ℕ)
    → records + record_of st ≤ 4000 → count ≤ 500
    → done st names e row (with_record st (counted (holding other f rows new d (d.work ++ before) records count)))
    ≡ holding names e (emptied row) (no_statement kinds.Lock 0) d (d.work ++ (before ++ st ∷ [])) (records + record_of st) (count + 1)
one_read (statement.Select t columns filter access) names other e f row rows new d before records count few most =
    held names e (emptied row) (no_statement kinds.Lock 0) d _ _ _ _ _ _ (append_assoc d.work before _) (none_more records) (one_more 500 count most)
one_read (statement.Update t sets filter access) names other e f row rows new d before records count few most =
    held names e (emptied row) (no_statement kinds.Lock 0) d _ _ _ _ _ _ (append_assoc d.work before _) (none_more records) (one_more 500 count most)
one_read (statement.Delete t filter access) names other e f row rows new d before records count few most =
    held names e (emptied row) (no_statement kinds.Lock 0) d _ _ _ _ _ _ (append_assoc d.work before _) (none_more records) (one_more 500 count most)
one_read (statement.Insert t values) names other e f row rows new d before records count few most =
    held names e (emptied row) (no_statement kinds.Lock 0) d _ _ _ _ _ _ (append_assoc d.work before _) (one_more 4000 records (omega (arith, few))) (one_more 500 count most)
one_read (statement.LockTable t mode) names other e f row rows new d before records count few most =
    held names e (emptied row) (no_statement kinds.Lock 0) d _ _ _ _ _ _ (append_assoc d.work before _) (none_more records) (one_more 500 count most)

-- the first word of what is left
pub record Next (words : List Word) : Type 0 where
  pub first : Word
  pub rest : List Word
  pub is : words ≡ first ∷ rest

begins : (tables : List TableDef) (st : Statement) (ws : List Word) → Next (statement_words tables st ++ ws)
unfolding insert_words into_words
begins tables (statement.Select t columns filter access) ws = record { first = _; rest = _; is = refl }
begins tables (statement.Update t sets filter access) ws = record { first = _; rest = _; is = refl }
begins tables (statement.Delete t filter access) ws = record { first = _; rest = _; is = refl }
begins tables (statement.Insert t row) ws = record { first = _; rest = _; is = refl }
begins tables (statement.LockTable t mode) ws = record { first = _; rest = _; is = refl }

pub next_of : (tables : List TableDef) (sts : List Statement) (v : Word) (ws : List Word) → Next (flat_map (statement_words tables) sts ++ v ∷ ws)
next_of tables [] v ws = record { first = v; rest = ws; is = refl }
next_of tables (st ∷ sts) v ws =
    let n = begins tables st (flat_map (statement_words tables) sts ++ v ∷ ws) in
    record { first = n.first; rest = n.rest; is = append_assoc (statement_words tables st) (flat_map (statement_words tables) sts) (v ∷ ws) ∙ n.is }

pub not_above : (most x y : ℕ) → x ≤ y → y ≤ most → nat_lt most x ≡ false
not_above most x y h k = grind (arith, nat_tests, h, k)

pub few_statements : (count n restart : ℕ) → (count + suc n) * (restart + 1) ≤ 500 → nat_lt 500 ((min 500 count + 1) * (restart + 1)) ≡ false
few_statements count n restart h =
    let le = mul-le (min 500 count + 1) (restart + 1) (count + suc n) (restart + 1) (omega arith) (omega arith) in
    not_above 500 ((min 500 count + 1) * (restart + 1)) ((count + suc n) * (restart + 1)) le h

pub at_most : (count n restart : ℕ) → (count + suc n) * (restart + 1) ≤ 500 → count ≤ 500
at_most count n restart h = let le : count + suc n ≤ (count + suc n) * (restart + 1) = le-mul_of_pos_right (count + suc n) (omega arith) in omega (arith, le, h)

pub has_room : (st : Statement) (records : ℕ) (d : Draft) → d.records ≡ records → records + record_of st ≤ 4000 → HasRoom st d
has_room (statement.Select t columns filter access) records d same h = tt
has_room (statement.Update t sets filter access) records d same h = tt
has_room (statement.Delete t filter access) records d same h = tt
has_room (statement.Insert t row) records d same h = few d.records (omega (arith, same, h))
  where
    few : (n : ℕ) → n + 1 ≤ 4000 → nat_le 4000 n ≡ false
    few n h = grind (arith, nat_tests, h)
has_room (statement.LockTable t mode) records d same h = tt

-- the statements that are left, and the word behind them
pub following_read : (sts before : List Statement) (names : Scope) (e : NewExpression) (row : NewRow) (new : NewStatement) (d : Draft) (records count : ℕ)
    → AreDeclared d.tables → AllByRecursion (IsStatement d.tables) sts → Room sts records count d
    → (s : List Symbol) (v : Word) (ws : List Word) (Last : Draft → Type 0)
    → ((names : Scope) (e : NewExpression) (row : NewRow) (new : NewStatement)
    → ReadsOn (part parts.MoreStatements ∷ s) (holding names e row new d (d.work ++ (before ++ sts)) (records + records_of sts) (count + length sts)) (v ∷ ws) Last)
    → ReadsOn (part parts.MoreStatements ∷ s) (holding names e row new d (d.work ++ before) records count) (flat_map (statement_words d.tables) sts ++ v ∷ ws) Last
following_read [] before names e row new d records count declared all room s v ws Last more =
    from _ _ _ (v ∷ ws) Last
    (held names e row new d _ _ _ _ _ _ (ap (λ (l : List Statement). d.work ++ l) (sym (append-nil before))) (none_more records) (none_more count))
    (more names e row new)
following_read (st ∷ sts) before names e row new d records count declared all room s v ws Last more =
    let n = next_of d.tables sts v ws in
    let now = holding names e row new d (d.work ++ before) records count in
    let first : records + record_of st ≤ 4000 = omega (arith, room.inserts) in
    let left : (count + 1 + length sts) * times d ≤ 500 = up count (length sts) (times d) room.statements in
    let few : FewStatements now = few_statements count (length sts) d.limits.restart room.statements in
    spelled _ now _ _ Last
    (append_assoc (statement_words d.tables st) (flat_map (statement_words d.tables) sts) (v ∷ ws) ∙ ap (λ (l : List Word). statement_words d.tables st ++ l) n.is)
    (statement_reads parts.MoreStatements now (counted now) (more_begin now few) declared st all.0 (has_room st records (counted now) refl first) s n.first n.rest Last (λ names1 e1 row1.
    spelled _ _ _ _ Last (sym n.is)
    (from _ _ _ _ Last (one_read st names1 names e1 e row1 row new d before records count first (at_most count (length sts) d.limits.restart room.statements))
    (following_read sts (before ++ st ∷ []) names1 e1 (emptied row1) (no_statement kinds.Lock 0) d (records + record_of st) (count + 1) declared all.1
    (record { statements = left; inserts = omega (arith, room.inserts) }) s v ws Last (λ names2 e2 row2 new2.
    from _ _ _ (v ∷ ws) Last
    (held names2 e2 row2 new2 d _ _ _ _ _ _ (ap (λ (l : List Statement). d.work ++ l) (append_assoc before (st ∷ []) sts))
    (plus records (record_of st) (records_of sts)) (behind count (length sts)))
    (more names2 e2 row2 new2))))))
  where
    plus : (a b c : ℕ) → a + b + c ≡ a + (b + c)
    plus a b c = omega arith

    behind : (a b : ℕ) → a + 1 + b ≡ a + suc b
    behind a b = omega arith

    up : (a b t : ℕ) → (a + suc b) * t ≤ 500 → (a + 1 + b) * t ≤ 500
    up a b t h = let same : a + 1 + b ≡ a + suc b = omega arith in subst (λ (k : ℕ). k * t ≤ 500) (sym same) h
