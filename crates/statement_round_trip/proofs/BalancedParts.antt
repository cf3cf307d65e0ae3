-- Each part of the grammar keeps what was read counted.
use Rattle.std.proofs.Common.{◌≡◌, ◌≤◌, ℕ, ◌+◌, ◌*◌, List, [], ◌∷◌, Bool, true, false, Option, Some, None, refl, sym, ap, subst, ◌∙◌, arith}
use Rattle.std.specs.Prelude.{if◌then◌else◌, option_and_then, slice_get}
use Rattle.std.specs.List.{list_all}
use Rattle.sql_base.specs.declared.scripts.Limits.{Limits}
use Rattle.sql_base.specs.declared.tables.ColumnKind.TheVariants.{Int}
use Rattle.sql_base.specs.declared.tables.TableDef.{TableDef}
use Rattle.statement_words.specs.declared.keywords.Keyword.TheVariants as keys
use Rattle.statement_words.specs.declared.tokens.Sign.TheVariants as signs
use Rattle.statement_words.specs.declared.tokens.Word.{Word}
use Rattle.statement_words.specs.declared.tokens.Word.TheVariants as word
use Rattle.statement_grammar.specs.Grammar as grammar
use Rattle.statement_grammar.specs.Grammar.{behind, is_comparison, may_be_empty}
use Rattle.statement_grammar.specs.WordsAt.{is_key, is_literal, is_name, is_sign}
use Rattle.statement_grammar.specs.declared.symbols.End.{End}
use Rattle.statement_grammar.specs.declared.symbols.End.TheVariants as ends
use Rattle.statement_grammar.specs.declared.symbols.Limit.{Limit}
use Rattle.statement_grammar.specs.declared.symbols.NameRole.{NameRole}
use Rattle.statement_grammar.specs.declared.symbols.NameRole.TheVariants as roles
use Rattle.statement_grammar.specs.declared.symbols.NumberRole.{NumberRole}
use Rattle.statement_grammar.specs.declared.symbols.NumberRole.TheVariants as numbers
use Rattle.statement_grammar.specs.declared.symbols.Part.{Part}
use Rattle.statement_grammar.specs.declared.symbols.Part.TheVariants as parts
use Rattle.statement_grammar.specs.declared.symbols.Symbol.{Symbol}
use Rattle.statement_grammar.specs.declared.symbols.Symbol.TheVariants as symbols
use Rattle.statement_draft.specs.Expressions.{opened, with_operator}
use Rattle.statement_draft.specs.Expressions as expressions
use Rattle.statement_draft.specs.Faults.{noted}
use Rattle.statement_draft.specs.Judging.{ended, name_came, number_came, part_came}
use Rattle.statement_draft.specs.Names.{column_named, is_long, name_in}
use Rattle.statement_draft.specs.RowEvents as rows
use Rattle.statement_draft.specs.StatementEvents as statements
use Rattle.statement_draft.specs.TableEvents as tables
use Rattle.statement_draft.specs.declared.draft.Draft.{Draft}
use Rattle.statement_draft.specs.declared.faults.Reason.TheVariants.{OverLimit}
use Rattle.statement_draft.specs.declared.kinds.Operator.TheVariants as operator
use Rattle.statement_rules.proofs.Demands.{demands, weaker}
use Rattle.statement_round_trip.proofs.Tallies.{load_balances, load_row_balances, session_balances, tally, Balanced, Even, Same}
use Rattle.sql_base.proofs.Truths.{both_hold}

-- ---- symbols that leave the tally as it is

abbrev pub is_inner_part : Part → Bool
is_inner_part (parts.Limit l) = false
is_inner_part parts.Loads = false
is_inner_part parts.MoreLoadRows = false
is_inner_part parts.Session = false
is_inner_part parts.MoreSessions = false
is_inner_part parts.Work = false
is_inner_part parts.MoreStatements = false
is_inner_part parts.MoreWorks = false
is_inner_part p = true

abbrev pub is_limit : Part → Bool
is_limit (parts.Limit l) = true
is_limit p = false

abbrev pub is_inner : Symbol → Bool
is_inner (symbols.Fixed f) = true
is_inner (symbols.Name roles.LoadTable) = false
is_inner (symbols.Name role) = true
is_inner (symbols.Number (numbers.Limit l)) = false
is_inner (symbols.Number role) = true
is_inner (symbols.Part p) = is_inner_part p
is_inner (symbols.Ended ends.LoadRow) = false
is_inner (symbols.Ended ends.Load) = false
is_inner (symbols.Ended ends.InsertRow) = false
is_inner (symbols.Ended ends.Statement) = false
is_inner (symbols.Ended ends.Work) = false
is_inner (symbols.Ended ends.Session) = false
is_inner (symbols.Ended e) = true

-- ---- contracts

abbrev pub ByTest : Bool → Type 0 → Type 0 → Type 0
ByTest true A B = A
ByTest false A B = B

-- before the first statement
abbrev pub Zero : Draft → Type 0
Zero d = Even d × (d.statements ≡ 0)

abbrev pub Pre : Part → Draft → Type 0
Pre p d = Unit {0}

abbrev pub Post : Part → Draft → Draft → Type 0
Post p d e = ByTest (is_inner_part p) (Same d e) (ByTest (is_limit p) (Zero d → Zero e) (Even d → Even e))

as_first : (b : Bool) (A B : Type 0) → b ≡ true → ByTest b A B → A
as_first true A B h x = x
as_first false A B h x = absurd (cc (h))

of_first : (b : Bool) (A B : Type 0) → b ≡ true → A → ByTest b A B
of_first true A B h x = x
of_first false A B h x = absurd (cc (h))

pub skipped : (inner limit : Bool) (d : Draft) → ByTest inner (Same d d) (ByTest limit (Zero d → Zero d) (Even d → Even d))
skipped true limit d = refl
skipped false true d = λ z. z
skipped false false d = λ b. b

-- ---- inner parts

chosen_same : (b : Bool) (d x y : Draft) → Same d x → Same d y → Same d (if b then x else y)
chosen_same true d x y h k = h
chosen_same false d x y h k = k

other_same : (w : Word) (at : ℕ) (d : Draft) → Same d (expressions.other_came w at d)
other_same w at d =
    chosen_same (is_key w keys.Not) d (with_operator (operator.Not at) d) (if is_sign w signs.Open then opened at d else d) refl
    (chosen_same (is_sign w signs.Open) d (opened at d) d refl refl)

operand_same : (w : Word) (at : ℕ) (d : Draft) → Same d (expressions.operand_came w at d)
operand_same (word.Number n) at d = refl
operand_same (word.Text text) at d = refl
operand_same (word.Name name) at d = refl
operand_same (word.Keyword k) at d = other_same (word.Keyword k) at d
operand_same (word.Sign s) at d = other_same (word.Sign s) at d

literal_same : (w : Word) (at : ℕ) (d : Draft) → Same d (rows.literal_begins w at d)
literal_same (word.Number n) at d = refl
literal_same (word.Text text) at d = refl
literal_same (word.Name name) at d = refl
literal_same (word.Keyword k) at d = refl
literal_same (word.Sign s) at d = refl

key_found_same : (found : Option ℕ) (at : ℕ) (d : Draft) → Same d (tables.key_column_found found at d)
key_found_same None at d = refl
key_found_same (Some c) at d = refl

judged_same : (table : Option TableDef) (d : Draft) → Same d (statements.names_judged table d)
judged_same None d = refl
judged_same (Some table) d = refl

pub name_same : (role : NameRole) (name : List ℕ) (at : ℕ) (d : Draft) → is_inner (symbols.Name role) ≡ true → Same d (name_came role name at d)
name_same roles.NewTable name at d h = refl
name_same roles.FirstColumn name at d h = refl
name_same roles.KeyColumn name at d h = key_found_same (column_named d.table.def.columns name) at (record d { first = noted (is_long name) OverLimit at d.first })
name_same roles.LoadTable name at d h = absurd (cc (h))
name_same roles.SelectTable name at d h = let e = statements.table_came name at d in judged_same (option_and_then (slice_get e.tables) e.statement.table) e
name_same roles.OtherTable name at d h = refl
name_same roles.InsertTable name at d h = refl
name_same roles.SetColumn name at d h = refl
name_same roles.SelectColumn name at d h = refl

number_same : (role : NumberRole) (n at : ℕ) (d : Draft) → is_inner (symbols.Number role) ≡ true → Same d (number_came role n at d)
number_same (numbers.Limit l) n at d h = absurd (cc (h))
number_same numbers.Width n at d h = refl
number_same numbers.Negative n at d h = refl
number_same numbers.NegativeOperand n at d h = refl

pub end_same : (e : End) (d : Draft) → is_inner (symbols.Ended e) ≡ true → Same d (ended e d)
unfolding ended
end_same ends.Table d h = refl
end_same ends.FirstKey d h = refl
end_same ends.Check d h = refl
end_same ends.Filter d h = refl
end_same ends.Assign d h = refl
end_same ends.Sets d h = refl
end_same ends.Operator d h = refl
end_same ends.Inside d h = refl
end_same ends.LoadRow d h = absurd (cc (h))
end_same ends.Load d h = absurd (cc (h))
end_same ends.InsertRow d h = absurd (cc (h))
end_same ends.Statement d h = absurd (cc (h))
end_same ends.Work d h = absurd (cc (h))
end_same ends.Session d h = absurd (cc (h))

part_same : (p : Part) (w : Word) (at : ℕ) (d : Draft) → is_inner_part p ≡ true → Same d (part_came p w at d)
part_same (parts.Limit l) w at d h = absurd (cc (h))
part_same parts.Table w at d h = refl
part_same parts.MoreTables w at d h = refl
part_same parts.ColumnKind w at d h = chosen_same (is_key w keys.Int) d (tables.kind_came Int 8 d) d refl refl
part_same parts.ColumnOrKey w at d h = chosen_same (is_name w) d (tables.column_came (name_in w) at d) d refl refl
part_same parts.MoreKeyColumns w at d h = refl
part_same parts.MoreChecks w at d h = refl
part_same parts.Check w at d h = refl
part_same parts.FirstKeys w at d h = refl
part_same parts.MoreFirstKeys w at d h = refl
part_same parts.Row w at d h = refl
part_same parts.Literal w at d h = literal_same w at d
part_same parts.MoreLiterals w at d h = refl
part_same parts.Loads w at d h = absurd (cc (h))
part_same parts.MoreLoadRows w at d h = absurd (cc (h))
part_same parts.Session w at d h = absurd (cc (h))
part_same parts.MoreSessions w at d h = absurd (cc (h))
part_same parts.Work w at d h = absurd (cc (h))
part_same parts.MoreStatements w at d h = absurd (cc (h))
part_same parts.MoreWorks w at d h = absurd (cc (h))
part_same parts.Selected w at d h = chosen_same (is_name w) d (statements.selected_came (name_in w) at d) d refl refl
part_same parts.MoreSelected w at d h = refl
part_same parts.Where w at d h = refl
part_same parts.Sets w at d h = refl
part_same parts.MoreSets w at d h = refl
part_same parts.ReadAccess w at d h = refl
part_same parts.ChangeAccess w at d h = refl
part_same parts.LockMode w at d h = refl
part_same parts.Expression w at d h = operand_same w at (expressions.expression_begins at d)
part_same parts.Condition w at d h = operand_same w at d
part_same parts.Operand w at d h = operand_same w at d
part_same parts.ProductRest w at d h = refl
part_same parts.SumRest w at d h = refl
part_same parts.CompareRest w at d h = refl
part_same parts.AndRest w at d h = refl
part_same parts.OrRest w at d h = refl

abbrev AreInner : List Symbol → Type 0
AreInner s = list_all is_inner s ≡ true

-- what follows a word that begins a part, where tests tell it
pub if_some : (b : Bool) (x : List Symbol) (rest : Option (List Symbol)) (more : List Symbol) (P : List Symbol → Type 0) → P x → (rest ≡ Some more → P more)
    → (if b then Some x else rest) ≡ Some more → P more
if_some true x rest more P h later e = let same : x ≡ more = cc in subst P same h
if_some false x rest more P h later e = later e

pub none_more : (more : List Symbol) (P : List Symbol → Type 0) → None ≡ Some more → P more
none_more more P e = absurd (cc (e))

inner_if : (b : Bool) (x : List Symbol) (rest : Option (List Symbol)) (more : List Symbol) → AreInner x → (rest ≡ Some more → AreInner more)
    → (if b then Some x else rest) ≡ Some more → AreInner more
inner_if b x rest more h later e = if_some b x rest more AreInner h later e

condition_inner : (w : Word) (more : List Symbol) → grammar.condition_behind w ≡ Some more → AreInner more
condition_inner w more e =
    inner_if (is_key w keys.Not) _ _ more refl
    (inner_if _ _ _ more refl (inner_if (is_sign w signs.Minus) _ _ more refl (inner_if (is_sign w signs.Open) _ None more refl (none_more more AreInner)))) e

inner_behind : (p : Part) (w : Word) (more : List Symbol) → is_inner_part p ≡ true → behind p w ≡ Some more → AreInner more
unfolding behind
inner_behind (parts.Limit l) w more h e = absurd (cc (h))
inner_behind parts.Table w more h e = inner_if (is_key w keys.Table) _ None more refl (none_more more AreInner) e
inner_behind parts.MoreTables w more h e = inner_if (is_key w keys.Table) _ None more refl (none_more more AreInner) e
inner_behind parts.ColumnKind w more h e = inner_if (is_key w keys.Int) [] _ more refl (inner_if (is_key w keys.Char) _ None more refl (none_more more AreInner)) e
inner_behind parts.ColumnOrKey w more h e = inner_if (is_name w) _ _ more refl (inner_if (is_key w keys.Primary) _ None more refl (none_more more AreInner)) e
inner_behind parts.MoreKeyColumns w more h e = inner_if (is_sign w signs.Comma) _ None more refl (none_more more AreInner) e
inner_behind parts.MoreChecks w more h e = inner_if (is_sign w signs.Comma) _ None more refl (none_more more AreInner) e
inner_behind parts.Check w more h e = inner_if (is_key w keys.Check) _ None more refl (none_more more AreInner) e
inner_behind parts.FirstKeys w more h e = inner_if (is_key w keys.First) _ None more refl (none_more more AreInner) e
inner_behind parts.MoreFirstKeys w more h e = inner_if (is_sign w signs.Comma) _ None more refl (none_more more AreInner) e
inner_behind parts.Row w more h e = inner_if (is_sign w signs.Open) _ None more refl (none_more more AreInner) e
inner_behind parts.Literal w more h e = inner_if (is_literal w) [] _ more refl (inner_if (is_sign w signs.Minus) _ None more refl (none_more more AreInner)) e
inner_behind parts.MoreLiterals w more h e = inner_if (is_sign w signs.Comma) _ None more refl (none_more more AreInner) e
inner_behind parts.Loads w more h e = absurd (cc (h))
inner_behind parts.MoreLoadRows w more h e = absurd (cc (h))
inner_behind parts.Session w more h e = absurd (cc (h))
inner_behind parts.MoreSessions w more h e = absurd (cc (h))
inner_behind parts.Work w more h e = absurd (cc (h))
inner_behind parts.MoreStatements w more h e = absurd (cc (h))
inner_behind parts.MoreWorks w more h e = absurd (cc (h))
inner_behind parts.Selected w more h e = inner_if (is_sign w signs.Times) [] _ more refl (inner_if (is_name w) _ None more refl (none_more more AreInner)) e
inner_behind parts.MoreSelected w more h e = inner_if (is_sign w signs.Comma) _ None more refl (none_more more AreInner) e
inner_behind parts.Where w more h e = inner_if (is_key w keys.Where) _ None more refl (none_more more AreInner) e
inner_behind parts.Sets w more h e = inner_if (is_key w keys.Set) _ None more refl (none_more more AreInner) e
inner_behind parts.MoreSets w more h e = inner_if (is_sign w signs.Comma) _ None more refl (none_more more AreInner) e
inner_behind parts.ReadAccess w more h e = inner_if (is_key w keys.Browse) [] _ more refl (inner_if _ [] None more refl (none_more more AreInner)) e
inner_behind parts.ChangeAccess w more h e = inner_if _ [] None more refl (none_more more AreInner) e
inner_behind parts.LockMode w more h e = inner_if _ [] None more refl (none_more more AreInner) e
inner_behind parts.Expression w more h e = condition_inner w more e
inner_behind parts.Condition w more h e = condition_inner w more e
inner_behind parts.Operand w more h e =
    inner_if _ [] _ more refl (inner_if (is_sign w signs.Minus) _ _ more refl (inner_if (is_sign w signs.Open) _ None more refl (none_more more AreInner))) e
inner_behind parts.ProductRest w more h e = inner_if _ _ None more refl (none_more more AreInner) e
inner_behind parts.SumRest w more h e = inner_if _ _ None more refl (none_more more AreInner) e
inner_behind parts.CompareRest w more h e = inner_if (is_comparison w) _ None more refl (none_more more AreInner) e
inner_behind parts.AndRest w more h e = inner_if (is_key w keys.And) _ None more refl (none_more more AreInner) e
inner_behind parts.OrRest w more h e = inner_if (is_key w keys.Or) _ None more refl (none_more more AreInner) e

inner_demands : (s : List Symbol) → AreInner s → (d e : Draft) → Same d e → demands Pre Post s (Same d) e
inner_demands [] all d e h = h
inner_demands (symbols.Fixed f ∷ s) all d e h = inner_demands s all d e h
inner_demands (symbols.Name role ∷ s) all d e h =
    let both = both_hold (is_inner (symbols.Name role)) (list_all is_inner s) all in
    λ name at is clean. inner_demands s both.1 d (name_came role name at e) (name_same role name at e both.0 ∙ h)
inner_demands (symbols.Number role ∷ s) all d e h =
    let both = both_hold (is_inner (symbols.Number role)) (list_all is_inner s) all in
    λ n at fits clean. inner_demands s both.1 d (number_came role n at e) (number_same role n at e both.0 ∙ h)
inner_demands (symbols.Part p ∷ s) all d e h =
    let both = both_hold (is_inner_part p) (list_all is_inner s) all in
    (tt, λ g post. inner_demands s both.1 d g (as_first (is_inner_part p) (Same e g) _ both.0 post ∙ h))
inner_demands (symbols.Ended x ∷ s) all d e h =
    let both = both_hold (is_inner (symbols.Ended x)) (list_all is_inner s) all in
    λ clean. inner_demands s both.1 d (ended x e) (end_same x e both.0 ∙ h)

pub inner_begins : (p : Part) → is_inner_part p ≡ true → (w : Word) (at : ℕ) (more : List Symbol) (d : Draft) → behind p w ≡ Some more → demands Pre Post more (Post p d) (part_came p w at d)
inner_begins p inner w at more d h =
    weaker Pre Post more (Same d) (Post p d) (part_came p w at d) (λ e same. of_first (is_inner_part p) (Same d e) _ inner same)
    (inner_demands more (inner_behind p w more inner h) d (part_came p w at d) (part_same p w at d inner))

-- ---- limits, LOADs, sessions, works and statements

no_times : (n r : ℕ) → n ≡ 0 → n * (r + 1) ≤ 500
no_times n r h = let none : n * (r + 1) ≡ 0 * (r + 1) = ap (λ (k : ℕ). k * (r + 1)) h in omega (arith, none)

other_restart : (d : Draft) (limits : Limits) → Zero d → Zero (record d { limits = limits })
other_restart d limits z = (
  record {
    records = z.0.records;
    few_records = z.0.few_records;
    statements = z.0.statements;
    few_statements = no_times d.statements limits.restart z.1;
  },
  z.1,
)

limit_zero : (l : Limit) (n at : ℕ) (d : Draft) → Zero d → Zero (tables.limit_came l n at d)
limit_zero l n at d z = other_restart d (tables.limit_came l n at d).limits z

pub limit_begins : (l : Limit) (w : Word) (more : List Symbol) (d : Draft) → grammar.limit_behind l w ≡ Some more → demands Pre Post more (λ e. Zero d → Zero e) d
limit_begins l w more d h =
    let P = λ (m : List Symbol). demands Pre Post m (λ e. Zero d → Zero e) d in
    if_some (is_key w (grammar.limit_key l)) _ None more P (λ n at fits clean. limit_zero l n at d) (none_more more P) h

pub as_same : (r n : ℕ) (d e : Draft) → Same d e → Balanced r n (tally d) → Balanced r n (tally e)
as_same r n d e same b = subst (Balanced r n) (sym same) b

-- the table of a LOAD, whose rows are counted from here on
load_starts : (name : List ℕ) (at : ℕ) (d : Draft) → Even d → Even (rows.load_came name at d)
load_starts name at d b = record { records = omega (arith, b.records); few_records = b.few_records; statements = b.statements; few_statements = b.few_statements }

pub loads_begin : (w : Word) (more : List Symbol) (d : Draft) → grammar.loads_behind w ≡ Some more → demands Pre Post more (λ e. Even d → Even e) d
loads_begin w more d h =
    let P = λ (m : List Symbol). demands Pre Post m (λ e. Even d → Even e) d in
    if_some (is_key w keys.Load) _ None more P
    (λ name at is clean. (
      tt,
      λ e row. λ clean2. (
        tt,
        λ g others. λ clean3. (
          tt,
          λ x later. λ b.
              later (load_balances g (others (load_row_balances e clean2 (as_same 0 0 (rows.load_came name at d) e row (load_starts name at d b))))),
        ),
      ),
    ))
    (none_more more P) h

pub load_rows_begin : (w : Word) (more : List Symbol) (d : Draft) → grammar.more_rows_behind w ≡ Some more → demands Pre Post more (λ e. Even d → Even e) d
load_rows_begin w more d h =
    let P = λ (m : List Symbol). demands Pre Post m (λ e. Even d → Even e) d in
    if_some (is_sign w signs.Comma) _ None more P
    (tt, λ e row. λ clean2. (tt, λ g later. λ b. later (load_row_balances e clean2 (as_same 0 0 d e row b))))
    (none_more more P) h

session_starts : (at : ℕ) (d : Draft) → Even d → Even (statements.session_begins at d)
session_starts at d b = record { records = omega (arith, b.records); few_records = b.few_records; statements = omega (arith, b.statements); few_statements = b.few_statements }

pub session_begins : (w : Word) (at : ℕ) (more : List Symbol) (d : Draft) → grammar.session_behind w ≡ Some more → demands Pre Post more (λ e. Even d → Even e) (statements.session_begins at d)
session_begins w at more d h =
    let P = λ (m : List Symbol). demands Pre Post m (λ e. Even d → Even e) (statements.session_begins at d) in
    if_some (is_key w keys.Session) _ None more P
    (tt, λ e work. λ clean. (tt, λ g later. λ b. later (session_balances e (work (session_starts at d b)))))
    (none_more more P) h
