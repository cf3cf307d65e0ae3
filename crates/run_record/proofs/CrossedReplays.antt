-- The histories of the crossed sessions are those of their partitions.
use Rattle.std.proofs.Common.{◌≡◌, ℕ, ◌+◌, pos, List, [], ◌∷◌, map, Option, Some, None, Ok, true, false, refl, ap, sym, ◌∙◌, subst, lit≤}
use Rattle.std.specs.Prelude.{replicate}
use Rattle.std.specs.List.{AllZip}
use Rattle.sql_base.proofs.Trees.{fold-Number, fold-Column, fold-Arith, fold-Compare}
use Rattle.sql_base.specs.Codes.{code_of, code_step, sets_code}
use Rattle.sql_base.specs.Kinds.{Kind, OfNumber, OfTruth, IsExpr, depth_step, kind_step}
use Rattle.sql_base.specs.OnRows.{updated}
use Rattle.sql_base.specs.Rows.{in_i64}
use Rattle.sql_base.specs.Scripts.{Lies}
use Rattle.sql_base.specs.Tables.{AreSets}
use Rattle.sql_base.specs.declared.lock_names.Lock.{Lock}
use Rattle.sql_base.specs.Val.{Outcome, IsTruth, filter_val, val_step}
use Rattle.sql_base.specs.declared.expressions.ArithOp.TheVariants.{Add}
use Rattle.sql_base.specs.declared.expressions.CompareOp.TheVariants.{Eq}
use Rattle.sql_base.specs.declared.expressions.Expr.{Expr, fold-Expr}
use Rattle.sql_base.specs.declared.expressions.Expr.TheOpen.{Expr-F, Number, Column, Arith, Compare}
use Rattle.sql_base.specs.declared.expressions.Expr.TheVariants as expr
use Rattle.sql_base.specs.declared.tables.ColumnKind.TheVariants.{Int}
use Rattle.sql_base.specs.declared.values.Value.{Value}
use Rattle.predicate_codes.specs.Decoding.{filter_of}
use Rattle.predicate_codes.specs.SetLists.{sets_of}
use Rattle.predicate_codes.proofs.Exact.{reads_filters}
use Rattle.predicate_codes.proofs.ExactSets.{reads_sets}
use Rattle.key_sequenced.specs.Cells.{records}
use Rattle.key_sequenced.specs.declared.Cell.{Cell}
use Rattle.dp_messages.specs.declared.replies.Reply.{Reply}
use Rattle.dp_messages.specs.declared.replies.Reply.TheVariants as reply
use Rattle.dp_messages.specs.declared.requests.Ask.TheVariants as ask
use Rattle.partition_state.specs.History.{IsLegal, replay}
use Rattle.partition_state.specs.State.{Opener, State, new_opener}
use Rattle.partition_state.specs.Step.{Stepped, step}
use Rattle.partition_state.specs.declared.entries.Entry.{Entry}
use Rattle.partition_state.specs.declared.lives.Live.{Live}
use Rattle.run_record.specs.Legal.{RowsLeft}
use Rattle.run_record.specs.Openings.{openings}
use Rattle.run_record.proofs.CrossedSessions.{begin, changed, entry, high_history, kept, key, limits, lock, low_history, name, named, row, script, sets, table}

-- a fold of the two expressions
abbrev sum : Expr
sum = expr.Arith Add (expr.Column 1) (expr.Number (pos 1))

module _ (A : Type 0) (step : Expr-F A → A) where
  pub fold-named : (n : ℕ) → fold-Expr A step (named n) ≡ step (Compare Eq (step (Column 0)) (step (Number (pos n))))
  fold-named n =
      fold-Compare A step Eq (expr.Column 0) (expr.Number (pos n)) ∙ ap (λ a. step (Compare Eq a (fold-Expr A step (expr.Number (pos n))))) (fold-Column A step 0)
      ∙ ap (λ b. step (Compare Eq (step (Column 0)) b)) (fold-Number A step (pos n))

  pub fold-sum : fold-Expr A step sum ≡ step (Arith Add (step (Column 1)) (step (Number (pos 1))))
  fold-sum =
      fold-Arith A step Add (expr.Column 1) (expr.Number (pos 1)) ∙ ap (λ a. step (Arith Add a (fold-Expr A step (expr.Number (pos 1))))) (fold-Column A step 1)
      ∙ ap (λ b. step (Arith Add (step (Column 1)) b)) (fold-Number A step (pos 1))

-- they are well typed
pub predicate_is : (n : ℕ) → in_i64 (pos n) ≡ true → IsExpr table OfTruth (named n)
predicate_is n small = record {
  typed = fold-named (Option Kind) (kind_step table) n ∙ rw small refl;
  depth = rw (fold-named ℕ depth_step n) (lit≤ tt);
  code = rw (fold-named (List ℕ) code_step n) (lit≤ tt);
}

sum_is : IsExpr table OfNumber sum
sum_is = record {
  typed = fold-sum (Option Kind) (kind_step table);
  depth = rw (fold-sum ℕ depth_step) (lit≤ tt);
  code = rw (fold-sum (List ℕ) code_step) (lit≤ tt);
}

pub sets_are : AreSets table sets
sets_are = record {
  some = lit≤ tt;
  each = ((Int, OfNumber, refl, refl, tt, sum_is), tt);
  differ = refl;
  code = rw (fold-sum (List ℕ) code_step) (lit≤ tt);
}

-- so their codes are read as them
pub filter_read : (n : ℕ) → in_i64 (pos n) ≡ true → filter_of table (Some (code_of (named n))) ≡ Some (Some (named n))
filter_read n small = (reads_filters table (Some (code_of (named n))) (Some (named n))).1 (predicate_is n small, refl)

pub sets_read : sets_of table (sets_code sets) ≡ Some sets
sets_read = (reads_sets table (sets_code sets) sets).1 (sets_are, refl)

-- the record meets the predicate, and has 1 more in its second column
meets-1 : filter_val (Some (named 1)) (row 1 10) ≡ Ok (IsTruth true)
meets-1 = fold-named Outcome (val_step (row 1 10)) 1

meets-1000 : filter_val (Some (named 1000)) (row 1000 20) ≡ Ok (IsTruth true)
meets-1000 = fold-named Outcome (val_step (row 1000 20)) 1000

one_more-1 : updated table sets (row 1 10) ≡ Ok (row 1 11)
one_more-1 = rw (fold-sum Outcome (val_step (row 1 10))) refl

one_more-1000 : updated table sets (row 1000 20) ≡ Ok (row 1000 21)
one_more-1000 = rw (fold-sum Outcome (val_step (row 1000 20))) refl

-- ---- the states of the partitions

abbrev state : ℕ → Cell → List Lock → Opener → Opener → List Live → ℕ → State
state place cell locks first second lives high = record {
  table = table;
  place = place;
  limits = limits;
  cells = cell ∷ [];
  locks = locks;
  blocks = [];
  openers = first ∷ second ∷ replicate 6 new_opener;
  lives = lives;
  high = high;
}

-- a record at rest, and one that a transaction has changed
abbrev at_rest : ℕ → ℕ → Cell
at_rest k v = record { key = key k; now = Some (row k v); was = None; writer = None }

abbrev raised : ℕ → ℕ → ℕ → Cell
raised session k v = record { key = key k; now = Some (row k (v + 1)); was = Some (row k v); writer = Some (name session) }

abbrev served : ℕ → Reply → ℕ → Opener
served sync r ended = record { last = sync; starved = false; kept = Some r; ended = ended }

abbrev live : ℕ → Option ℕ → Live
live session floor = record { name = name session; floor = floor }

abbrev low_opening : State
low_opening = state 0 (at_rest 1 10) [] new_opener new_opener [] 0

abbrev low_begun : State
low_begun = state 0 (raised 1 1 10) (lock 1 1 ∷ []) (served 1 changed 0) new_opener (live 1 None ∷ []) 0

abbrev low_locked : ℕ → State
low_locked sync = state 0 (raised 1 1 10) (lock 1 1 ∷ []) (served 1 changed 0) (served sync (reply.Locked (lock 1 1)) 0) (live 1 None ∷ live 2 None ∷ []) 0

abbrev low_undone : State
low_undone = state 0 (raised 1 1 10) (lock 1 1 ∷ []) (served 1 changed 0) (served 4 reply.Done 1) (live 1 None ∷ []) 0

abbrev low_prepared : State
low_prepared = state 0 (raised 1 1 10) (lock 1 1 ∷ []) (served 4 (reply.Floor 0) 0) (served 4 reply.Done 1) (live 1 (Some 0) ∷ []) 0

abbrev low_ended : State
low_ended = state 0 (at_rest 1 11) [] (served 6 reply.Done 1) (served 4 reply.Done 1) [] 1

abbrev high_opening : State
high_opening = state 1 (at_rest 1000 20) [] new_opener new_opener [] 0

abbrev high_begun : State
high_begun = state 1 (raised 2 1000 20) (lock 2 1000 ∷ []) new_opener (served 1 changed 0) (live 2 None ∷ []) 0

abbrev high_locked : State
high_locked = state 1 (raised 2 1000 20) (lock 2 1000 ∷ []) (served 2 (reply.Locked (lock 2 1000)) 0) (served 1 changed 0) (live 2 None ∷ live 1 None ∷ []) 0

abbrev high_undone : State
high_undone = state 1 (at_rest 1000 20) [] (served 2 (reply.Locked (lock 2 1000)) 0) (served 5 reply.Done 1) (live 1 None ∷ []) 0

abbrev high_again : State
high_again = state 1 (raised 1 1000 20) (lock 1 1000 ∷ []) (served 3 changed 0) (served 5 reply.Done 1) (live 1 None ∷ []) 0

abbrev high_prepared : State
high_prepared = state 1 (raised 1 1000 20) (lock 1 1000 ∷ []) (served 5 (reply.Floor 0) 0) (served 5 reply.Done 1) (live 1 (Some 0) ∷ []) 0

abbrev high_ended : State
high_ended = state 1 (at_rest 1000 21) [] (served 7 reply.Done 1) (served 5 reply.Done 1) [] 1

-- ---- one entry after the other

abbrev Leads : State → Entry → State → Type 0
Leads p e q = step p e.opener e.sync e.request ≡ record { state = q; reply = Some e.reply }

low-1 : Leads low_opening (entry 1 1 (begin 1) changed) low_begun
low-1 = rw (filter_read 1 refl, sets_read, meets-1, one_more-1) refl

low-2 : Leads low_begun (entry 2 2 (begin 1) (reply.Locked (lock 1 1))) (low_locked 2)
low-2 = rw (filter_read 1 refl, sets_read) refl

low-3 : Leads (low_locked 2) (entry 2 3 (begin 1) (reply.Locked (lock 1 1))) (low_locked 3)
low-3 = rw (filter_read 1 refl, sets_read) refl

low-4 : Leads (low_locked 3) (entry 2 4 ask.EndUndo reply.Done) low_undone
low-4 = refl

low-5 : Leads low_undone (entry 1 4 ask.Prepare (reply.Floor 0)) low_prepared
low-5 = refl

low-6 : Leads low_prepared (entry 1 6 (ask.EndCommit 1) reply.Done) low_ended
low-6 = refl

high-1 : Leads high_opening (entry 2 1 (begin 1000) changed) high_begun
high-1 = rw (filter_read 1000 refl, sets_read, meets-1000, one_more-1000) refl

high-2 : Leads high_begun (entry 1 2 (begin 1000) (reply.Locked (lock 2 1000))) high_locked
high-2 = rw (filter_read 1000 refl, sets_read) refl

high-3 : Leads high_locked (entry 2 5 ask.EndUndo reply.Done) high_undone
high-3 = refl

high-4 : Leads high_undone (entry 1 3 (begin 1000) changed) high_again
high-4 = rw (filter_read 1000 refl, sets_read, meets-1000, one_more-1000) refl

high-5 : Leads high_again (entry 1 5 ask.Prepare (reply.Floor 0)) high_prepared
high-5 = refl

high-6 : Leads high_prepared (entry 1 7 (ask.EndCommit 1) reply.Done) high_ended
high-6 = refl

-- ---- the histories

-- an entry, and the partition after it
record Hop : Type 0 where
  came : Entry
  after : State

abbrev AreHops : State → List Hop → Type 0
AreHops p [] = Unit {0}
AreHops p (hop ∷ hops) = Lies 1 8 hop.came.opener × Leads p hop.came hop.after × AreHops hop.after hops

abbrev last_of : State → List Hop → State
last_of p [] = p
last_of p (hop ∷ hops) = last_of hop.after hops

-- they make a legal history, which leads to the last of them
runs : (p : State) (hops : List Hop) → AreHops p hops → IsLegal p (map (λ hop. hop.came) hops) × (replay p (map (λ hop. hop.came) hops) ≡ last_of p hops)
runs p [] h = (tt, refl)
runs p (hop ∷ hops) (lies, is, more) =
    let rest = runs hop.after hops more in
    let to : (step p hop.came.opener hop.came.sync hop.came.request).state ≡ hop.after = ap (λ (s : Stepped). s.state) is in (
      (lies, ap (λ (s : Stepped). s.reply) is, subst (λ s. IsLegal s (map (λ hop. hop.came) hops)) (sym to) rest.0),
      ap (λ s. replay s (map (λ hop. hop.came) hops)) to ∙ rest.1,
    )

abbrev hop : Entry → State → Hop
hop e after = record { came = e; after = after }

abbrev low_hops : List Hop
low_hops = hop (entry 1 1 (begin 1) changed) low_begun ∷ hop (entry 2 2 (begin 1) (reply.Locked (lock 1 1))) (low_locked 2) ∷ hop (entry 2 3 (begin 1) (reply.Locked (lock 1 1))) (low_locked 3)
    ∷ hop (entry 2 4 ask.EndUndo reply.Done) low_undone ∷ hop (entry 1 4 ask.Prepare (reply.Floor 0)) low_prepared ∷ hop (entry 1 6 (ask.EndCommit 1) reply.Done) low_ended ∷ []

low_runs : IsLegal low_opening low_history × (replay low_opening low_history ≡ low_ended)
low_runs =
    runs low_opening low_hops
    ((lit≤ tt, lit≤ tt), low-1, ((lit≤ tt, lit≤ tt), low-2, ((lit≤ tt, lit≤ tt), low-3, ((lit≤ tt, lit≤ tt), low-4, ((lit≤ tt, lit≤ tt), low-5, ((lit≤ tt, lit≤ tt), low-6, tt))))))

abbrev high_hops : List Hop
high_hops = hop (entry 2 1 (begin 1000) changed) high_begun ∷ hop (entry 1 2 (begin 1000) (reply.Locked (lock 2 1000))) high_locked ∷ hop (entry 2 5 ask.EndUndo reply.Done) high_undone
    ∷ hop (entry 1 3 (begin 1000) changed) high_again ∷ hop (entry 1 5 ask.Prepare (reply.Floor 0)) high_prepared ∷ hop (entry 1 7 (ask.EndCommit 1) reply.Done) high_ended ∷ []

high_runs : IsLegal high_opening high_history × (replay high_opening high_history ≡ high_ended)
high_runs =
    runs high_opening high_hops
    ((lit≤ tt, lit≤ tt), high-1, ((lit≤ tt, lit≤ tt), high-2, ((lit≤ tt, lit≤ tt), high-3, ((lit≤ tt, lit≤ tt), high-4, ((lit≤ tt, lit≤ tt), high-5, ((lit≤ tt, lit≤ tt), high-6, tt))))))

-- both are legal, and leave the rows that are kept
pub histories_replay : AllZip IsLegal (openings script) kept.histories
histories_replay = (low_runs.0, (high_runs.0, tt))

abbrev rows_in : State → List (List Value)
rows_in p = map (λ k. k.row) (records p.cells)

pub rows_kept : RowsLeft script kept
rows_kept = λ i. rows_in (sym low_runs.1 i) ∷ rows_in (sym high_runs.1 i) ∷ []
