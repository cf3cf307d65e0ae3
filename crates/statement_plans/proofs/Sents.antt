-- What is sent, as a plan says it.
use Rattle.std.proofs.Common.{◌≡◌, ℕ, ◌+◌, List, [], ◌∷◌, ◌++◌, map, Option, Some, false, ap, sym, ◌∙◌, append_assoc, arith}
use Rattle.std.specs.Prelude.{option_map, slice_get, unwrap_or}
use Rattle.std.specs.List.{range_with_len}
use Rattle.std.proofs.lemmas.List.FromFn.{map-range_with_len_more}
use Rattle.sql_base.specs.Keys.{common_prefix, key_eq}
use Rattle.sql_base.specs.declared.expressions.Expr.{Expr}
use Rattle.sql_base.specs.declared.key_ranges.KeyRange.{KeyRange}
use Rattle.sql_base.specs.declared.lock_names.Access.{Access}
use Rattle.sql_base.specs.declared.lock_names.Mode.{Mode}
use Rattle.sql_base.specs.Tables.{table_of}
use Rattle.sql_base.specs.declared.statements.Statement.{Statement}
use Rattle.sql_base.specs.declared.tables.TableDef.{TableDef}
use Rattle.dp_messages.specs.declared.requests.Ask.{Ask}
use Rattle.dp_messages.specs.declared.requests.Ask.TheVariants as ask
use Rattle.partition_map.specs.Map.{cut}
use Rattle.partition_map.specs.declared.Piece.{Piece}
use Rattle.session_grammar.specs.Plans.{Asker, begin_pieces, begins_in, filter_code, first_part, plan_of, plan_on, select_plan}
use Rattle.session_grammar.specs.declared.plans.Plan.TheVariants.{Subsets}
use Rattle.session_grammar.specs.declared.plans.Sent.{Sent}
use Rattle.statement_plans.specs.Scaffold.Begins.{begin_of, sent_in}
use Rattle.statement_plans.specs.declared.begins.Begin.{Begin}
use Rattle.statement_plans.specs.declared.begins.Begin.TheVariants.{Read}

abbrev pub sent_with : ℕ → Ask → Sent
sent_with part a = record { part = part; ask = a }

pub one_sent : {p q : ℕ} {a b : Ask} → p ≡ q → a ≡ b → sent_with p a ∷ [] ≡ sent_with q b ∷ []
one_sent {p = p} {q = q} {a = a} {b = b} part asked = ap (λ n. sent_with n a ∷ []) part ∙ ap (λ x. sent_with q x ∷ []) asked

-- one piece more
pub begins_more : (first : ℕ) (range : KeyRange) (begin : Begin) (sents more : List Sent) (piece : Piece) (rest old pieces : List Piece) (a : Ask) (granule : List ℕ)
    → more ≡ sents ++ sent_with (first + piece.part) a ∷ [] → a ≡ begin_of begin granule piece.range → granule ≡ common_prefix range.low range.high → old ≡ piece ∷ rest
    → sents ++ map (sent_in first range begin) old ≡ map (sent_in first range begin) pieces → more ++ map (sent_in first range begin) rest ≡ map (sent_in first range begin) pieces
begins_more first range begin sents more piece rest old pieces a granule pushed asked common next so_far =
    let f = sent_in first range begin in
    let one : a ≡ begin_of begin (common_prefix range.low range.high) piece.range = asked ∙ ap (λ g. begin_of begin g piece.range) common in
    ap (λ xs. xs ++ map f rest) pushed ∙ append_assoc sents (sent_with (first + piece.part) a ∷ []) (map f rest)
    ∙ ap (λ b. sents ++ sent_with (first + piece.part) b ∷ map f rest) one ∙ ap (λ ps. sents ++ map f ps) (sym next) ∙ so_far

-- one partition more
abbrev pub lock_in : ℕ → Mode → ℕ → Sent
lock_in first mode part = record { part = first + part; ask = ask.LockGranule [] mode }

pub locks_more : (first : ℕ) (mode : Mode) (sents more : List Sent) (part : ℕ) (prefix : List ℕ) → more ≡ sents ++ sent_with (first + part) (ask.LockGranule prefix mode) ∷ [] → prefix ≡ []
    → sents ≡ map (lock_in first mode) (range_with_len 0 part) → more ≡ map (lock_in first mode) (range_with_len 0 (part + 1))
locks_more first mode sents more part prefix pushed empty so_far =
    let count : 0 + part ≡ part = omega arith in
    pushed ∙ ap (λ p. sents ++ sent_with (first + part) (ask.LockGranule p mode) ∷ []) empty ∙ ap (λ xs. xs ++ lock_in first mode part ∷ []) so_far
    ∙ sym (map-range_with_len_more (lock_in first mode) 0 part part count)

-- the Begins of a range, where the table's first partition is so
pub begins_are : (asker : Asker) (table : TableDef) (place first : ℕ) (range : KeyRange) (begin : Begin) → first ≡ first_part asker place
    → map (sent_in first range begin) (cut table range) ≡ begin_pieces asker table place range (begin_of begin)
begins_are asker table place first range begin is = ap (λ n. map (sent_in n range begin) (cut table range)) is

pub begins_in_are : (asker : Asker) (table : TableDef) (place first : ℕ) (range : KeyRange) (found : Option KeyRange) (begin : Begin) → first ≡ first_part asker place → Some range ≡ found
    → map (sent_in first range begin) (cut table range) ≡ begins_in asker table place found (begin_of begin)
begins_in_are asker table place first range found begin is here = begins_are asker table place first range begin is ∙ ap (λ o. begins_in asker table place o (begin_of begin)) here

-- a SELECT of a range that isn't one key begins in its pieces
pub select_begins : (asker : Asker) (table : TableDef) (place first : ℕ) (range : KeyRange) (access : Access) (predicate : Option Expr) (filter : Option (List ℕ)) (columns : List ℕ) (sents : List Sent)
    → first ≡ first_part asker place → filter ≡ filter_code predicate → key_eq range.low range.high ≡ false → sents ≡ map (sent_in first range (Read access filter columns)) (cut table range)
    → Subsets sents ≡ select_plan asker table place access predicate columns (Some range)
select_begins asker table place first range access predicate filter columns sents is code differ are =
    rw differ (ap Subsets (are ∙ ap (λ f. map (sent_in first range (Read access f columns)) (cut table range)) code ∙ begins_are asker table place first range (Read access (filter_code predicate) columns) is))

-- the plan of a statement on the table that it names
pub plan_is : (asker : Asker) (s : Statement) (table : TableDef) → slice_get asker.tables (table_of s) ≡ Some table → plan_on asker table s ≡ plan_of asker s
plan_is asker s table is = sym (ap (λ o. unwrap_or (option_map (λ t. plan_on asker t s) o) (Subsets [])) is)
