-- What plans ask can be spelled.
use Rattle.std.proofs.Common.{◌≡◌, ◌+◌, ◌-◌, ◌<◌, ◌≤◌, ◌&&◌, ◌||◌, ℕ, zero, suc, List, [], ◌∷◌, length, Option, Some, None, Bool, true, false, eqb, not, cond, refl, ap, sym, ◌∙◌, subst, arith}
use Rattle.std.specs.Prelude.{slice_get, unwrap_or, nat_eq, nat_lt, IfSome, sum_by}
use Rattle.std.specs.List.{AllByRecursion, list_all, list_any, range_with_len, starts_with}
use Rattle.std.proofs.lemmas.Bool.{and_parts, eqb-false, eqb-true, false≢true, ltb-true, not-true, or_left, or_parts, or_right}
use Rattle.std.proofs.lemmas.List.{length-map}
use Rattle.std.proofs.lemmas.List.FromFn.{length-range_with_len}
use Rattle.sql_base.specs.Rows.{kinds, unpacked, width}
use Rattle.sql_base.specs.Scripts.{IsScript, Lies, parts_of}
use Rattle.sql_base.specs.Tables.{IsFilter, IsStatement, all_differ}
use Rattle.sql_base.specs.declared.expressions.Expr.{Expr}
use Rattle.sql_base.specs.declared.key_ranges.KeyRange.{KeyRange}
use Rattle.sql_base.specs.declared.scripts.Script.{Script}
use Rattle.sql_base.specs.declared.scripts.Work.{Work}
use Rattle.sql_base.specs.declared.statements.Statement.{Statement}
use Rattle.sql_base.specs.declared.values.Value.{Value}
use Rattle.sql_base.proofs.UnpackedLength.{unpacked-length}
use Rattle.dp_messages.specs.Spelling.{AreDistinct, IsAsk, IsLong, IsShort}
use Rattle.dp_messages.specs.declared.requests.Ask.{Ask}
use Rattle.dp_messages.specs.declared.requests.Ask.TheVariants as ask
use Rattle.one_thread.specs.One.{load_rows, loaded}
use Rattle.partition_state.specs.State.{State}
use Rattle.partition_state.specs.Step.{are_columns_here, is_key_here, is_shaped, may_change}
use Rattle.session_grammar.specs.Follows.{asker, works_of}
use Rattle.session_grammar.specs.Plans.{filter_code, plan_of, sents_of}
use Rattle.session_grammar.specs.declared.plans.Plan.{Plan}
use Rattle.session_grammar.specs.declared.plans.Plan.TheVariants.{Singles, Subsets}
use Rattle.session_grammar.specs.declared.plans.Sent.{Sent}
use Rattle.session_laws.proofs.Within.{Rise, plans_rise}
use Rattle.run_record.specs.Openings.{openings}
use Rattle.plans_laws.specs.Asked.{HasSpelling, PlansSpelled}
use Rattle.plans_laws.specs.Scaffold.Fits.{CarriesFilter, CarriesSets, Fits}
use Rattle.plans_laws.specs.Spelled.{Spelled}
use Rattle.plans_laws.proofs.Plans.{FitsThere, plans_fit}
use Rattle.plans_laws.proofs.SpelledHistories.{opening-spelled}
use Rattle.plans_laws.proofs.Replying.{key-short}
use Rattle.record_laws.specs.Scaffold.Lanes.{is_begin, is_single}
use Rattle.record_laws.proofs.Plans.{ArePlanned, IsAlone, IsBegin, planned}
use Rattle.sql_base.specs.Keys.{key_le}
use Rattle.sql_base.proofs.ListFacts.{all-weaker, all_at, all_in, some-at}
use Rattle.run_record.proofs.OpeningLengths.{openings-length}

-- a prefix is no longer than what it begins
prefix-short : (key prefix : List ℕ) → starts_with nat_eq key prefix ≡ true → length prefix ≤ length key
prefix-short key [] h = omega arith
prefix-short [] (p ∷ prefix) h = absurd (false≢true h)
prefix-short (k ∷ key) (p ∷ prefix) h = let rest = prefix-short key prefix (and_parts (eqb p k) (starts_with nat_eq key prefix) h).1 in omega (arith, rest)

-- of different numbers at most n are below n: without the last of them, at most one less are left
abbrev pub AreBelow : ℕ → List ℕ → Type 0
AreBelow n cs = AllByRecursion (λ c. c < n) cs

without : ℕ → List ℕ → List ℕ
without n [] = []
without n (c ∷ cs) = cond (eqb n c) (without n cs) (c ∷ without n cs)

without-none : (n : ℕ) (cs : List ℕ) → list_any (eqb n) cs ≡ false → without n cs ≡ cs
unfolding without
without-none n [] h = refl
without-none n (c ∷ cs) h =
    let both = or_parts (eqb n c) (list_any (eqb n) cs) h in
    ap (λ b. cond b (without n cs) (c ∷ without n cs)) both.0 ∙ ap (λ xs. c ∷ xs) (without-none n cs both.1)

without-few : (n : ℕ) (cs : List ℕ) → all_differ eqb cs ≡ true → length cs ≤ length (without n cs) + 1
unfolding without
without-few n [] h = omega arith
without-few n (c ∷ cs) h = at (eqb n c) refl (without-few n cs parts.1)
  where
    parts : (not (list_any (eqb c) cs) ≡ true) × (all_differ eqb cs ≡ true)
    parts = and_parts (not (list_any (eqb c) cs)) (all_differ eqb cs) h

    at : (b : Bool) → eqb n c ≡ b → length cs ≤ length (without n cs) + 1 → suc (length cs) ≤ length (cond b (without n cs) (c ∷ without n cs)) + 1
    at true e rest =
        let same : n ≡ c = eqb-true n c e in
        let all : without n cs ≡ cs = without-none n cs (ap (λ m. list_any (eqb m) cs) same ∙ not-true (list_any (eqb c) cs) parts.0) in
        omega (arith, ap length all)
    at false e rest = omega (arith, rest)

without-below : (n : ℕ) (cs : List ℕ) → AreBelow (suc n) cs → AreBelow n (without n cs)
unfolding without
without-below n [] h = tt
without-below n (c ∷ cs) h = at (eqb n c) refl (without-below n cs h.1)
  where
    at : (b : Bool) → eqb n c ≡ b → AreBelow n (without n cs) → AreBelow n (cond b (without n cs) (c ∷ without n cs))
    at true e rest = rest
    at false e rest = let differs = eqb-false n c e in (omega (arith, h.0, λ (x : c ≡ n). differs (sym x)), rest)

any-without : (n d : ℕ) (cs : List ℕ) → list_any (eqb d) cs ≡ false → list_any (eqb d) (without n cs) ≡ false
unfolding without
any-without n d [] h = refl
any-without n d (c ∷ cs) h = at (eqb n c) (any-without n d cs both.1)
  where
    both : (eqb d c ≡ false) × (list_any (eqb d) cs ≡ false)
    both = or_parts (eqb d c) (list_any (eqb d) cs) h

    at : (b : Bool) → list_any (eqb d) (without n cs) ≡ false → list_any (eqb d) (cond b (without n cs) (c ∷ without n cs)) ≡ false
    at true rest = rest
    at false rest = ap (λ b. b || list_any (eqb d) (without n cs)) both.0 ∙ rest

differ-without : (n : ℕ) (cs : List ℕ) → all_differ eqb cs ≡ true → all_differ eqb (without n cs) ≡ true
unfolding without
differ-without n [] h = refl
differ-without n (c ∷ cs) h = at (eqb n c) (differ-without n cs parts.1)
  where
    parts : (not (list_any (eqb c) cs) ≡ true) × (all_differ eqb cs ≡ true)
    parts = and_parts (not (list_any (eqb c) cs)) (all_differ eqb cs) h

    at : (b : Bool) → all_differ eqb (without n cs) ≡ true → all_differ eqb (cond b (without n cs) (c ∷ without n cs)) ≡ true
    at true rest = rest
    at false rest = ap (λ b. not b && all_differ eqb (without n cs)) (any-without n c cs (not-true (list_any (eqb c) cs) parts.0)) ∙ rest

few-below : (n : ℕ) (cs : List ℕ) → AreBelow n cs → all_differ eqb cs ≡ true → length cs ≤ n
few-below zero [] h differ = omega arith
few-below zero (c ∷ cs) h differ = absurd (omega (arith, h.0))
few-below (suc n) cs h differ = omega (arith, without-few n cs differ, few-below n (without n cs) (without-below n cs h) (differ-without n cs differ))

all-below : (n : ℕ) (cs : List ℕ) → list_all (λ c. nat_lt c n) cs ≡ true → AreBelow n cs
all-below n [] h = tt
all-below n (c ∷ cs) h = let parts = and_parts (nat_lt c n) (list_all (λ d. nat_lt d n) cs) h in (ltb-true c n parts.0, all-below n cs parts.1)

-- the requests that plans make
abbrev is_begun : Ask → Bool
is_begun a = is_begin a || is_single a

abbrev IsBegun : Sent → Type 0
IsBegun sent = is_begun sent.ask ≡ true

-- the parts of a request
module _ (p : State) (h : Spelled p) where
  columns-short : (columns : List ℕ) → are_columns_here p columns ≡ true → AreDistinct columns
  columns-short columns e =
      let rest = (and_parts (nat_lt 0 (length columns)) _ e).1 in
      let parts = and_parts (list_all (λ c. nat_lt c (length p.table.columns)) columns) (all_differ nat_eq columns) rest in
      let most = h.table.columns in
      (omega (arith, few-below (length p.table.columns) columns (all-below (length p.table.columns) columns parts.0) parts.1, most), parts.1)

  record ShortRange (granule : List ℕ) (range : KeyRange) : Type 0 where
    granule_short : IsShort granule
    low : IsShort range.low
    high : IsShort range.high

  shape-short : (range : KeyRange) (granule : List ℕ) → is_shaped p range granule ≡ true → ShortRange granule range
  shape-short range granule e =
      let keys = is_key_here p range.low && is_key_here p range.high in
      let begins = starts_with nat_eq range.low granule && starts_with nat_eq range.high granule in
      let outer = and_parts (keys && key_le range.low range.high) begins e in
      let both = and_parts keys (key_le range.low range.high) outer.0 in
      let ends = and_parts (is_key_here p range.low) (is_key_here p range.high) both.0 in
      let prefix = (and_parts (starts_with nat_eq range.low granule) (starts_with nat_eq range.high granule) outer.1).0 in
      let short = key-short p range.low h ends.0 in
      record { granule_short = omega (arith, prefix-short range.low granule prefix, short); low = short; high = key-short p range.high h ends.1 }

  filter-long : (code : Option (List ℕ)) → CarriesFilter p.table code → IfSome code IsLong
  filter-long code (predicate, is, same) = subst (λ (c : Option (List ℕ)). IfSome c IsLong) (sym same) (by predicate is)
    where
      by : (o : Option Expr) → IsFilter p.table o → IfSome (filter_code o) IsLong
      by None is = tt
      by (Some e) is = let most = is.code in omega (arith, most)

  sets-long : (code : List ℕ) → CarriesSets p.table code → IsLong code
  sets-long code (sets, are, same) = let most = are.code in subst IsLong (sym same) (omega (arith, most))

  row-long : (row : List ℕ) (values : List Value) → unpacked (kinds p.table) row ≡ Some values → IsLong row
  row-long row values e = at (eqb (length row) (sum_by width (kinds p.table))) refl
    where
      at : (b : Bool) → eqb (length row) (sum_by width (kinds p.table)) ≡ b → IsLong row
      at true same = let most = h.table.row in omega (arith, eqb-true (length row) (sum_by width (kinds p.table)) same, most)
      at false differs = let none = unpacked-length (kinds p.table) row (eqb-false (length row) (sum_by width (kinds p.table)) differs) in absurd (cc (none, e))

  fits-spelled : (a : Ask) → Fits p a → is_begun a ≡ true → IsAsk a
  fits-spelled (ask.BeginRead access granule range predicate columns) f is =
      let parts = and_parts (are_columns_here p columns) (is_shaped p range granule) f.0 in
      let short = shape-short range granule parts.1 in
      (short.granule_short, short.low, short.high, filter-long predicate f.1, columns-short columns parts.0)
  fits-spelled (ask.BeginUpdate access granule range predicate sets) f is =
      let short = shape-short range granule (and_parts (may_change access) (is_shaped p range granule) f.0).1 in
      (short.granule_short, short.low, short.high, filter-long predicate f.1, sets-long sets f.2)
  fits-spelled (ask.BeginDelete access granule range predicate) f is =
      let short = shape-short range granule (and_parts (may_change access) (is_shaped p range granule) f.0).1 in
      (short.granule_short, short.low, short.high, filter-long predicate f.1)
  fits-spelled (ask.ReadKey access key predicate columns) f is =
      let parts = and_parts (is_key_here p key) (are_columns_here p columns) f.0 in
      (key-short p key h parts.0, filter-long predicate f.1, columns-short columns parts.1)
  fits-spelled (ask.Insert row) f is = row-long row f.0 f.1
  fits-spelled (ask.LockGranule prefix mode) f is = let most = h.table.key_bytes in omega (arith, f, most)
  fits-spelled other f is = absurd (false≢true is)

part-opens : (script : Script) (part : ℕ) → part < parts_of script.tables → (p : State) × (slice_get (openings script) part ≡ Some p)
part-opens script part lt =
    let loads = length-map (range_with_len 0 (length script.tables)) (load_rows script.loads) ∙ length-range_with_len 0 (length script.tables) in
    some-at (openings script) part (omega (arith, lt, openings-length script.limits script.tables (loaded script).records loads))

-- every request of a plan goes to a partition that is there
parts-within : (low high : ℕ) (sents : List Sent) → Rise low high sents → AllByRecursion (λ (sent : Sent). sent.part < high) sents
parts-within low high [] rise = tt
parts-within low high (sent ∷ sents) rise = (rise.1, parts-within (sent.part + 1) high sents rise.2)

same_sents : (plan : Plan) → sents_of plan ≡ sents_of plan
same_sents (Subsets sents) = refl
same_sents (Singles sents) = refl

begun-plan : (plan : Plan) → ArePlanned plan → AllByRecursion IsBegun (sents_of plan)
begun-plan (Subsets sents) h = all-weaker IsBegin IsBegun (λ sent is. or_left (is_begin sent.ask) (is_single sent.ask) is) sents h
begun-plan (Singles sents) h = all-weaker IsAlone IsBegun (λ sent is. or_right (is_begin sent.ask) (is_single sent.ask) is) sents h

module _ (script : Script) (is : IsScript script) where
  each-spelled : (sents : List Sent) → ((part : ℕ) (p : State) → slice_get (openings script) part ≡ Some p → AllByRecursion (FitsThere p part) sents)
      → AllByRecursion (λ (sent : Sent). sent.part < parts_of script.tables) sents → AllByRecursion IsBegun sents → AllByRecursion (HasSpelling (parts_of script.tables)) sents
  each-spelled [] fits within begun = tt
  each-spelled (sent ∷ sents) fits within begun =
      let o = part-opens script sent.part within.0 in (
        (fits-spelled o.0 (opening-spelled script sent.part o.0 is o.1) sent.ask ((fits sent.part o.0 o.1).0 refl) begun.0, within.0),
        each-spelled sents (λ part p e. (fits part p e).1) within.1 begun.1,
      )

  pub statement-spelled : (session : ℕ) (statement : Statement) → IsStatement script.tables statement → AllByRecursion (HasSpelling (parts_of script.tables)) (sents_of (plan_of (asker script session) statement))
  statement-spelled session statement well =
      let r = asker script session in
      let sents = sents_of (plan_of r statement) in
      each-spelled sents (λ part p e. plans_fit script is session statement part p well e)
      (subst (AllByRecursion (λ (sent : Sent). sent.part < parts_of script.tables)) (same_sents (plan_of r statement)) (parts-within 0 (parts_of script.tables) (sents_of (plan_of r statement)) (plans_rise r statement)))
      (begun-plan (plan_of r statement) (planned r statement))

  -- each statement of a session is one of a table
  works-are : (session : ℕ) → Lies 1 (length script.sessions) session → AllByRecursion (λ work. AllByRecursion (IsStatement script.tables) work.statements) (works_of script session)
  works-are session lies =
      let low = lies.0 in
      let high = lies.1 in
      let found = some-at script.sessions (session - 1) (omega (arith, low, high)) in
      subst (λ o. AllByRecursion (λ (work : Work). AllByRecursion (IsStatement script.tables) work.statements) (unwrap_or o [])) (sym found.1)
      (all_at (λ works. AllByRecursion (λ (work : Work). AllByRecursion (IsStatement script.tables) work.statements) works) script.sessions (session - 1) found.0 is.statements found.1)

pub plans_spelled : PlansSpelled
plans_spelled script session work statement is lies has_work has_statement =
    let works = all_in (λ (work : Work). AllByRecursion (IsStatement script.tables) work.statements) work (works_of script session) has_work (works-are script is session lies) in
    statement-spelled script is session statement (all_in (IsStatement script.tables) statement work.statements has_statement works)
