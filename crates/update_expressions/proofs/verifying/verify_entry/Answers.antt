use Rattle.std.proofs.Common.{rules, ◌≡◌, ◌∷◌, ◌+◌, suc, length, not, Some, Err, ap, sym, ◌∙◌, arith}
use Rattle.predicate_runner.specs.declared.steps.CodeFault.TheVariants.{BadCode}
use Rattle.std.specs.Prelude.{nat_eq, slice_get, ◌&&◌}
use Rattle.std.specs.List.{list_any}
use Rattle.sql_base.specs.Codes.{counted}
use Rattle.sql_base.specs.Rows.{kinds}
use Rattle.predicate_codes.specs.Decoding.{counted_at}
use Rattle.predicate_codes.specs.SetLists.{can_store}
use Rattle.update_expressions.specs.Entries.{entry_in}
use Rattle.update_expressions.proofs.Reading.{entry-set, entry-unread, entry-unset}
use Rattle.update_expressions.proofs.verifying.verify_entry.Goals as goal

pub returns-in_err-value-clause-bad : goal.returns-in_err-value-clause-bad
returns-in_err-value-clause-bad c = λ e.
    let split : c.args.code.now ≡ c.in-Some.column.now ∷ c.in-Some.behind.now = search rules in
    let at : counted_at c.in-Some.behind.now ≡ Some c.in-Some-counted_in.bytes.now = search rules in
    let fault : c.verify.result ≡ Err BadCode = search rules in
    ap (entry_in c.args.table.now) split ∙ entry-unread c.args.table.now c.in-Some.column.now c.in-Some.behind.now c.in-Some-counted_in.bytes.now at (c.verify.ensures.bad_code fault)

pub returns-then-not-can_set-clause-bad : goal.returns-then-not-can_set-clause-bad
returns-then-not-can_set-clause-bad c = λ e.
    let split : c.args.code.now ≡ c.in-Some.column.now ∷ c.in-Some.behind.now = search rules in
    let at : counted_at c.in-Some.behind.now ≡ Some c.in-Some-counted_in.bytes.now = search rules in
    let is = c.in_ok-value.ensures.verified in
    ap (entry_in c.args.table.now) split ∙ entry-unset c.args.table.now c.in-Some.column.now c.in-Some.behind.now c.in-Some-counted_in.bytes.now c.in_ok-value.value at is.0 is.1
    (ap (λ k. not (list_any (nat_eq c.in-Some.column.now) c.args.table.now.key) && can_store (slice_get (kinds c.args.table.now) c.in-Some.column.now) k) (sym c.kind.ensures) ∙ sym c.can_set.ensures ∙ c.if-not-can_set.true)

pub returns-clause-ok : goal.returns-clause-ok
returns-clause-ok c =
    let size : suc (length (counted c.in-Some-counted_in.bytes.now)) ≡ length c.in-Some-counted_in.bytes.now + 3 = omega arith in
    let split : c.args.code.now ≡ c.in-Some.column.now ∷ c.in-Some.behind.now = search rules in
    let at : counted_at c.in-Some.behind.now ≡ Some c.in-Some-counted_in.bytes.now = search rules in
    let is = c.in_ok-value.ensures.verified in
    ap (entry_in c.args.table.now) split ∙ entry-set c.args.table.now c.in-Some.column.now c.in-Some.behind.now c.in-Some-counted_in.bytes.now c.in_ok-value.value at is.0 is.1
    (ap (λ k. not (list_any (nat_eq c.in-Some.column.now) c.args.table.now.key) && can_store (slice_get (kinds c.args.table.now) c.in-Some.column.now) k) (sym c.kind.ensures) ∙ sym c.can_set.ensures ∙ c.if-not-can_set.false)
    ∙ ap (λ n. Some (record { set = record { column = c.in-Some.column.now; value = c.in_ok-value.value.tree }; size = n })) size
