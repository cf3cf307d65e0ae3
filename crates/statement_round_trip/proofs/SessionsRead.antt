-- Works and sessions are read as they are printed, one after the other.
use Rattle.std.proofs.Common.{◌≡◌, ◌≤◌, ◌<◌, ℕ, suc, ◌+◌, ◌*◌, min, List, [], ◌∷◌, ◌++◌, length, Bool, true, false, refl, sym, ap, subst, ◌∙◌, append_assoc, append-nil, arith}
use Rattle.std.proofs.Math.Nat.{le-mul_of_pos_right}
use Rattle.std.proofs.lemmas.Bool.Decides.{nat_tests}
use Rattle.std.proofs.lemmas.List.{length-append}
use Rattle.std.proofs.lemmas.List.Sums.{sum_by-cons}
use Rattle.std.proofs.lemmas.Nat.{mul-le}
use Rattle.std.specs.Prelude.{flat_map, if◌then◌else◌, nat_le, nat_lt, sum_by}
use Rattle.std.specs.List.{AllByRecursion}
use Rattle.sql_base.specs.Tables.{IsStatement}
use Rattle.sql_base.specs.declared.scripts.Work.{Work}
use Rattle.sql_base.specs.declared.statements.Statement.{Statement}
use Rattle.sql_base.specs.declared.tables.TableDef.{TableDef}
use Rattle.statement_words.specs.declared.keywords.Keyword.TheVariants as keys
use Rattle.statement_words.specs.declared.tokens.Sign.TheVariants as signs
use Rattle.statement_words.specs.declared.tokens.Word.{Word}
use Rattle.statement_grammar.specs.Grammar.{behind, part}
use Rattle.statement_grammar.specs.Grammar as grammar
use Rattle.statement_grammar.specs.Machine.{advance}
use Rattle.statement_grammar.specs.declared.symbols.End.TheVariants as ends
use Rattle.statement_grammar.specs.declared.symbols.Part.{Part}
use Rattle.statement_grammar.specs.declared.symbols.Part.TheVariants as parts
use Rattle.statement_grammar.specs.declared.symbols.Symbol.{Symbol}
use Rattle.statement_draft.specs.Faults.{noted}
use Rattle.statement_draft.specs.Judging.{all_ended, came, ended, read_from, word_read}
use Rattle.statement_draft.specs.StatementEvents.{times}
use Rattle.statement_draft.specs.declared.draft.Draft.{Draft}
use Rattle.statement_draft.specs.declared.draft.NewExpression.{NewExpression}
use Rattle.statement_draft.specs.declared.draft.NewRow.{NewRow}
use Rattle.statement_draft.specs.declared.draft.NewStatement.{NewStatement}
use Rattle.statement_draft.specs.declared.draft.Scope.{Scope}
use Rattle.statement_draft.specs.declared.faults.Reason.TheVariants.{OverLimit}
use Rattle.statement_printer.specs.Printing.{end_key, key, session_words, sign, statement_words, work_words}
use Rattle.statement_round_trip.specs.Onward.{ReadsOn}
use Rattle.statement_round_trip.specs.WholeScripts.{inserts, record_of, statements_in}
use Rattle.statement_round_trip.proofs.AtTheEnd.{at_last, end_then, skip_then, Skips}
use Rattle.statement_round_trip.proofs.FollowingRead.{not_above, one_more, records_of}
use Rattle.statement_round_trip.proofs.LimitsRead.{semicolon_steps}
use Rattle.statement_round_trip.proofs.Onward.{from, spelled, step, StepsTo}
use Rattle.statement_round_trip.proofs.TableNames.{AreDeclared}
use Rattle.statement_round_trip.proofs.WholeWorksRead.{first_opens, next_opens, work_reads, Opens}

-- what isn't looked at any more where a work has been read
pub record Spent : Type 0 where
  pub names : Scope
  pub expression : NewExpression
  pub row : NewRow
  pub statement : NewStatement
  pub commit : Bool

-- where works of a session, and sessions before it, have been read
abbrev pub progressed : Spent → Draft → List (List Work) → List Work → ℕ → ℕ → ℕ → Draft
progressed x d sessions session r w n = record d {
  sessions = sessions;
  records = r;
  works = w;
  statements = n;
  scope = x.names;
  expression = x.expression;
  row = x.row;
  statement = x.statement;
  work = [];
  commit = x.commit;
  session = session;
}

-- the limits that the reader sets on records, works and statements
pub record Space (r w n : ℕ) (d : Draft) : Type 0 where
  pub records : r ≤ 4000
  pub works : w * times d ≤ 1000
  pub statements : n * times d ≤ 500

pub less : (a b t most : ℕ) → a ≤ b → b * t ≤ most → a * t ≤ most
less a b t most h k = let le = mul-le a t b t h (omega arith) in omega (arith, le, k)

-- there is space for fewer
narrower : (r w n q v m : ℕ) (d : Draft) → r ≤ q → w ≤ v → n ≤ m → Space q v m d → Space r w n d
narrower r w n q v m d a b c space = record {
  records = omega (arith, a, space.records);
  works = less w v (times d) 1000 b space.works;
  statements = less n m (times d) 500 c space.statements;
}

same_progress : (x : Spent) (d : Draft) (done : List (List Work)) (a b : List Work) (r q w v n m : ℕ) → a ≡ b → r ≡ q → w ≡ v → n ≡ m
    → progressed x d done a r w n ≡ progressed x d done b q v m
same_progress x d done a b r q w v n m e f g h =
    ap (λ (l : List Work). progressed x d done l r w n) e ∙ ap (λ (k : ℕ). progressed x d done b k w n) f
    ∙ ap (λ (k : ℕ). progressed x d done b q k n) g ∙ ap (progressed x d done b q v) h

pub at_most_by : (n restart : ℕ) → n * (restart + 1) ≤ 500 → n ≤ 500
at_most_by n restart h = let le : n ≤ n * (restart + 1) = le-mul_of_pos_right n (omega arith) in omega (arith, le, h)

-- ---- works

records_are : (sts : List Statement) → records_of sts ≡ sum_by record_of sts
records_are [] = refl
records_are (st ∷ sts) = let cons = sum_by-cons record_of st sts in let more = records_are sts in omega (arith, cons, more)

few_works : (w restart : ℕ) → (w + 1) * (restart + 1) ≤ 1000 → nat_lt 1000 ((min 1000 w + 1) * (restart + 1)) ≡ false
few_works w restart h =
    let le = mul-le (min 1000 w + 1) (restart + 1) (w + 1) (restart + 1) (omega arith) (omega arith) in
    not_above 1000 ((min 1000 w + 1) * (restart + 1)) ((w + 1) * (restart + 1)) le h

at_most : (w restart : ℕ) → (w + 1) * (restart + 1) ≤ 1000 → w ≤ 1000
at_most w restart h = let le : w + 1 ≤ (w + 1) * (restart + 1) = le-mul_of_pos_right (w + 1) (omega arith) in omega (arith, le, h)

-- a work, and what is behind it
one_work_reads : (p : Part) (x : Spent) (d : Draft) (done : List (List Work)) (now : List Work) (r w n : ℕ) → Opens p (progressed x d done now r w n)
    → AreDeclared d.tables → (work : Work) → AllByRecursion (IsStatement d.tables) work.statements
    → Space (r + sum_by record_of work.statements) (w + 1) (n + length work.statements) d
    → (s : List Symbol) (ws : List Word) (Last : Draft → Type 0)
    → ((x : Spent) → ReadsOn (part parts.MoreWorks ∷ s) (progressed x d done (now ++ work ∷ []) (r + sum_by record_of work.statements) (w + 1) (n + length work.statements)) ws Last)
    → ReadsOn (part p ∷ s) (progressed x d done now r w n) (work_words d.tables work ++ ws) Last
one_work_reads p x d done now r w n opens declared work all space s ws Last more =
    let sts = work.statements in
    let d1 = progressed x d done now r w n in
    let few = at_most w d.limits.restart space.works in
    let records = records_are sts in
    let same : r + records_of sts ≡ r + sum_by record_of sts = omega (arith, records) in
    spelled _ d1 _ _ Last (append_assoc (flat_map (statement_words d.tables) sts) (key (end_key work.commit) ∷ key keys.Work ∷ sign signs.Semicolon ∷ []) ws)
    (work_reads p d1 opens sts work.commit declared all (record { statements = space.statements; inserts = omega (arith, records, space.records) }) s ws Last (λ names e row new.
    let y : Spent = record { names = names; expression = e; row = row; statement = new; commit = work.commit } in
    from _ _ _ ws Last (same_progress y d done _ _ _ _ _ _ _ _ refl same (one_more 1000 w few) refl) (more y)))

none_more : (n : ℕ) → n ≡ n + 0
none_more n = omega arith

-- the works that are left of a session, and what is behind them
works_read : (xs : List Work) (x : Spent) (d : Draft) (done : List (List Work)) (now : List Work) (r w n : ℕ) → AreDeclared d.tables
    → AllByRecursion (λ work. AllByRecursion (IsStatement d.tables) work.statements) xs → Space (r + inserts xs) (w + length xs) (n + statements_in xs) d
    → (s : List Symbol) (ws : List Word) (Last : Draft → Type 0) → Skips parts.MoreWorks ws
    → ((x : Spent) → ReadsOn s (progressed x d done (now ++ xs) (r + inserts xs) (w + length xs) (n + statements_in xs)) ws Last)
    → ReadsOn (part parts.MoreWorks ∷ s) (progressed x d done now r w n) (flat_map (work_words d.tables) xs ++ ws) Last
works_read [] x d done now r w n declared all space s ws Last other more =
    skip_then parts.MoreWorks s _ ws Last refl other
    (from s _ _ ws Last (same_progress x d done _ _ _ _ _ _ _ _ (sym (append-nil now)) (none_more r) (none_more w) (none_more n)) (more x))
works_read (work ∷ xs) x d done now r w n declared all space s ws Last other more =
    let here = sum_by record_of work.statements in
    let long = length work.statements in
    let a : inserts (work ∷ xs) ≡ here + inserts xs = sum_by-cons (λ (work : Work). sum_by record_of work.statements) work xs in
    let b : statements_in (work ∷ xs) ≡ long + statements_in xs = sum_by-cons (λ (work : Work). length work.statements) work xs in
    let first = narrower (r + here) (w + 1) (n + long) _ _ _ d (omega (arith, a)) (omega arith) (omega (arith, b)) space in
    let rest = narrower (r + here + inserts xs) (w + 1 + length xs) (n + long + statements_in xs) _ _ _ d (omega (arith, a)) (omega arith) (omega (arith, b)) space in
    spelled _ _ _ _ Last (append_assoc (work_words d.tables work) (flat_map (work_words d.tables) xs) ws)
    (one_work_reads parts.MoreWorks x d done now r w n (next_opens _ (few_works w d.limits.restart first.works)) declared work all.0 first s _ Last (λ y.
    works_read xs y d done (now ++ work ∷ []) (r + here) (w + 1) (n + long) declared all.1 rest s ws Last other (λ z.
    from s _ _ ws Last (same_progress z d done _ _ _ _ _ _ _ _ (append_assoc now (work ∷ []) xs) (omega (arith, a)) (omega arith) (omega (arith, b))) (more z))))

-- ---- sessions

-- behind SESSION
abbrev session_symbols : List Symbol → List Symbol
session_symbols s = grammar.sign signs.Semicolon ∷ part parts.Work ∷ grammar.ended ends.Session ∷ part parts.MoreSessions ∷ s

abbrev noted_session : Draft → ℕ → Bool → Draft
noted_session d place many = record d { first = noted many OverLimit place d.first; session = [] }

abbrev fresh : Draft → Draft
fresh d = record d { session = [] }

-- a session begins in this part
abbrev Starts : Part → Type 0
Starts p = (s : List Symbol) (d : Draft) → nat_le 8 (length d.sessions) ≡ false → StepsTo (part p ∷ s) d (key keys.Session) (session_symbols s) (λ place. fresh d)

first_steps : (s : List Symbol) (d : Draft) → StepsTo (part parts.Session ∷ s) d (key keys.Session) (session_symbols s) (λ place. noted_session d place (nat_le 8 (length d.sessions)))
unfolding read_from word_read advance all_ended came behind
first_steps s d first end ts at = refl

next_steps : (s : List Symbol) (d : Draft) → StepsTo (part parts.MoreSessions ∷ s) d (key keys.Session) (session_symbols s) (λ place. noted_session d place (nat_le 8 (length d.sessions)))
unfolding read_from word_read advance all_ended came behind
next_steps s d first end ts at = refl

first_starts : Starts parts.Session
first_starts s d few first end ts at = first_steps s d first end ts at ∙ ap (λ (b : Bool). read_from (session_symbols s) (noted_session d first b) ts at) few

next_starts : Starts parts.MoreSessions
next_starts s d few first end ts at = next_steps s d first end ts at ∙ ap (λ (b : Bool). read_from (session_symbols s) (noted_session d first b) ts at) few

abbrev kept_if : Bool → List (List Work) → List Work → List (List Work)
kept_if few done now = if few then done ++ now ∷ [] else done

session_is : (x : Spent) (d : Draft) (done : List (List Work)) (now : List Work) (r w n : ℕ) → length done < 8
    → ended ends.Session (progressed x d done now r w n) ≡ progressed x d (done ++ now ∷ []) [] r w n
unfolding ended
session_is x d done now r w n h =
    let few : nat_lt (length done) 8 ≡ true = grind (arith, nat_tests, h) in
    ap (λ (b : Bool). progressed x d (kept_if b done now) [] r w n) few

-- a session, and what is behind it
one_session_reads : (p : Part) → Starts p → (x : Spent) (d : Draft) (done : List (List Work)) (now : List Work) (r w n : ℕ) → AreDeclared d.tables
    → length done < 8 → (works : List Work) → 0 < length works → AllByRecursion (λ work. AllByRecursion (IsStatement d.tables) work.statements) works
    → Space (r + inserts works) (w + length works) (n + statements_in works) d
    → (s : List Symbol) (ws : List Word) (Last : Draft → Type 0) → Skips parts.MoreWorks ws
    → ((x : Spent) → ReadsOn (part parts.MoreSessions ∷ s) (progressed x d (done ++ works ∷ []) [] (r + inserts works) (w + length works) (n + statements_in works)) ws Last)
    → ReadsOn (part p ∷ s) (progressed x d done now r w n) (session_words d.tables works ++ ws) Last
one_session_reads p starts x d done now r w n declared most [] some all space s ws Last other more = absurd (omega (arith, some))
one_session_reads p starts x d done now r w n declared most (work ∷ xs) some all space s ws Last other more =
    let here = sum_by record_of work.statements in
    let long = length work.statements in
    let a : inserts (work ∷ xs) ≡ here + inserts xs = sum_by-cons (λ (work : Work). sum_by record_of work.statements) work xs in
    let b : statements_in (work ∷ xs) ≡ long + statements_in xs = sum_by-cons (λ (work : Work). length work.statements) work xs in
    let first = narrower (r + here) (w + 1) (n + long) _ _ _ d (omega (arith, a)) (omega arith) (omega (arith, b)) space in
    let rest = narrower (r + here + inserts xs) (w + 1 + length xs) (n + long + statements_in xs) _ _ _ d (omega (arith, a)) (omega arith) (omega (arith, b)) space in
    let few : nat_le 8 (length done) ≡ false = grind (arith, nat_tests, most) in
    let d1 = progressed x d done [] r w n in
    step _ _ _ _ Last _ _ (starts s (progressed x d done now r w n) few) (λ i.
    step _ d1 _ _ Last _ _ (semicolon_steps _ d1) (λ j.
    spelled _ d1 _ _ Last (append_assoc (work_words d.tables work) (flat_map (work_words d.tables) xs) ws)
    (one_work_reads parts.Work x d done [] r w n (first_opens _ (few_works w d.limits.restart first.works)) declared work all.0 first _ _ Last (λ y.
    works_read xs y d done (work ∷ []) (r + here) (w + 1) (n + long) declared all.1 rest _ ws Last other (λ z.
    end_then ends.Session _ (progressed z d done (work ∷ xs) (r + here + inserts xs) (w + 1 + length xs) (n + long + statements_in xs)) ws Last
    (from _ _ _ ws Last
    (session_is z d done (work ∷ xs) (r + here + inserts xs) (w + 1 + length xs) (n + long + statements_in xs) most
    ∙ same_progress z d (done ++ (work ∷ xs) ∷ []) _ _ _ _ _ _ _ _ refl (omega (arith, a)) (omega arith) (omega (arith, b))) (more z)))))))

-- the next session, or the end, begins no work
no_work : (tables : List TableDef) (sessions : List (List Work)) → Skips parts.MoreWorks (flat_map (session_words tables) sessions)
unfolding behind
no_work tables [] = tt
no_work tables (works ∷ sessions) = refl

-- the sessions that are left, up to the end
others_read : (sessions : List (List Work)) (x : Spent) (d : Draft) (done : List (List Work)) (r w n : ℕ) → AreDeclared d.tables
    → length done + length sessions ≤ 8 → AllByRecursion (λ works. 0 < length works) sessions
    → AllByRecursion (λ works. AllByRecursion (λ work. AllByRecursion (IsStatement d.tables) work.statements) works) sessions
    → Space (r + sum_by inserts sessions) (w + sum_by (λ works. length works) sessions) (n + sum_by statements_in sessions) d
    → (Last : Draft → Type 0)
    → ((x : Spent) (r w n : ℕ) → Last (progressed x d (done ++ sessions) [] r w n))
    → ReadsOn (part parts.MoreSessions ∷ []) (progressed x d done [] r w n) (flat_map (session_words d.tables) sessions) Last
others_read [] x d done r w n declared most some all space Last more =
    skip_then parts.MoreSessions [] _ [] Last refl tt
    (at_last _ Last (subst (λ (l : List (List Work)). Last (progressed x d l [] r w n)) (append-nil done) (more x r w n)))
others_read (works ∷ sessions) x d done r w n declared most some all space Last more =
    let a : sum_by inserts (works ∷ sessions) ≡ inserts works + sum_by inserts sessions = sum_by-cons inserts works sessions in
    let b : sum_by statements_in (works ∷ sessions) ≡ statements_in works + sum_by statements_in sessions = sum_by-cons statements_in works sessions in
    let c : sum_by (λ (works : List Work). length works) (works ∷ sessions) ≡ length works + sum_by (λ (works : List Work). length works) sessions =
    sum_by-cons (λ (works : List Work). length works) works sessions in
    one_session_reads parts.MoreSessions next_starts x d done [] r w n declared (omega (arith, most)) works some.0 all.0
    (narrower _ _ _ _ _ _ d (omega (arith, a)) (omega (arith, c)) (omega (arith, b)) space) [] _ Last (no_work d.tables sessions) (λ y.
    others_read sessions y d (done ++ works ∷ []) (r + inserts works) (w + length works) (n + statements_in works) declared (one_longer done works sessions most) some.1 all.1
    (narrower _ _ _ _ _ _ d (omega (arith, a)) (omega (arith, c)) (omega (arith, b)) space) Last (λ z q v m.
    subst (λ (l : List (List Work)). Last (progressed z d l [] q v m)) (sym (append_assoc done (works ∷ []) sessions)) (more z q v m)))
  where
    one_longer : (done : List (List Work)) (works : List Work) (sessions : List (List Work)) → length done + suc (length sessions) ≤ 8 → length (done ++ works ∷ []) + length sessions ≤ 8
    one_longer done works sessions h = let long = length-append done (works ∷ []) in omega (arith, long, h)

-- all sessions of a script, up to the end
pub sessions_read : (sessions : List (List Work)) (x : Spent) (d : Draft) (r : ℕ) → AreDeclared d.tables → 0 < length sessions → length sessions ≤ 8
    → AllByRecursion (λ works. 0 < length works) sessions
    → AllByRecursion (λ works. AllByRecursion (λ work. AllByRecursion (IsStatement d.tables) work.statements) works) sessions
    → Space (r + sum_by inserts sessions) (sum_by (λ works. length works) sessions) (sum_by statements_in sessions) d
    → (Last : Draft → Type 0) → ((x : Spent) (r w n : ℕ) → Last (progressed x d sessions [] r w n))
    → ReadsOn (part parts.Session ∷ []) (progressed x d [] [] r 0 0) (flat_map (session_words d.tables) sessions) Last
sessions_read [] x d r declared one most some all space Last more = absurd (omega (arith, one))
sessions_read (works ∷ sessions) x d r declared one most some all space Last more =
    let a : sum_by inserts (works ∷ sessions) ≡ inserts works + sum_by inserts sessions = sum_by-cons inserts works sessions in
    let b : sum_by statements_in (works ∷ sessions) ≡ statements_in works + sum_by statements_in sessions = sum_by-cons statements_in works sessions in
    let c : sum_by (λ (works : List Work). length works) (works ∷ sessions) ≡ length works + sum_by (λ (works : List Work). length works) sessions =
    sum_by-cons (λ (works : List Work). length works) works sessions in
    one_session_reads parts.Session first_starts x d [] [] r 0 0 declared (omega arith) works some.0 all.0
    (narrower _ _ _ _ _ _ d (omega (arith, a)) (omega (arith, c)) (omega (arith, b)) space) [] _ Last (no_work d.tables sessions) (λ y.
    others_read sessions y d (works ∷ []) (r + inserts works) (0 + length works) (0 + statements_in works) declared (omega (arith, most)) some.1 all.1
    (narrower _ _ _ _ _ _ d (omega (arith, a)) (omega (arith, c)) (omega (arith, b)) space) Last more)
