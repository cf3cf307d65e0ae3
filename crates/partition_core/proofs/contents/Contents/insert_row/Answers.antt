use Rattle.std.proofs.Common.{◌≡◌, List, ℕ, Some, None, true, false, is_some, ap, sym, ◌∙◌, arith}
use Rattle.std.specs.Prelude.{option_copied, option_and_then}
use Rattle.std.proofs.lemmas.Grind.{common_steps}
use Rattle.std.proofs.lemmas.Result.{IfOk-weaker}
use Rattle.sql_base.specs.Locks.{first_conflict}
use Rattle.sql_base.specs.OnRows.{first_failing}
use Rattle.sql_base.specs.Rows.{key_of}
use Rattle.sql_base.specs.declared.lock_names.Lock.{Lock}
use Rattle.sql_base.specs.declared.lock_names.Mode.TheVariants.{X}
use Rattle.sql_base.specs.declared.tables.TableDef.{TableDef}
use Rattle.key_sequenced.specs.Cells.{find_cell}
use Rattle.key_sequenced.specs.declared.Cell.{Cell}
use Rattle.dp_messages.specs.declared.replies.Reply.TheVariants.{Done}
use Rattle.partition_state.specs.State.{with_live}
use Rattle.partition_state.specs.Step.{is_key_here}
use Rattle.partition_core.specs.Scaffold.Changes.{tells}
use Rattle.partition_core.specs.Scaffold.Contents.{parts_of, state_of}
use Rattle.partition_core.specs.declared.changes.Change.TheVariants.{Inserts}
use Rattle.partition_core.proofs.Told.{beside-none, beside-some, by, insert-away, insert-here}
use Rattle.partition_core.proofs.contents.Contents.insert_row.Goals as goal

pub returns-then-not-is_key_here-clause-told : goal.returns-then-not-is_key_here-clause-told
returns-then-not-is_key_here-clause-told c =
    let p = state_of (parts_of c.args.self.now) in
    let key = c.in_ok-key.key in
    let same : key ≡ key_of p.table c.args.row = c.in_ok-key.ensures ∙ ap (λ (table : TableDef). key_of table c.args.row) c.table.ensures.same in
    let away : is_key_here p key ≡ false = ap (is_key_here p) (sym c.bytes.ensures) ∙ sym c.is_key_here.ensures ∙ c.if-not-is_key_here.true in
    ap (tells p c.args.t) c.refusal.ensures ∙ insert-away p c.args.t c.args.row key same away

pub returns-in-Some-clause-told : goal.returns-in-Some-clause-told
returns-in-Some-clause-told c =
    let p = state_of (parts_of c.args.self.now) in
    let key = c.in_ok-key.key in
    let same : key ≡ key_of p.table c.args.row = c.in_ok-key.ensures ∙ ap (λ (table : TableDef). key_of table c.args.row) c.table.ensures.same in
    let here : is_key_here p key ≡ true = ap (is_key_here p) (sym c.bytes.ensures) ∙ sym c.is_key_here.ensures ∙ c.if-not-is_key_here.false in
    let found : first_conflict p.locks c.args.t key X ≡ Some c.in-Some.lock.now = sym (c.in-Some.ensures ∙ ap (λ (bytes : List ℕ). first_conflict p.locks c.args.t bytes X) c.bytes-2.ensures) in
    IfOk-weaker c.locked.result _ _ (λ j is. ap (tells p c.args.t) is ∙ insert-here p c.args.t c.args.row key (Some c.in-Some.lock.now) same here found) c.locked.ensures

pub returns-then-stands-clause-told : goal.returns-then-stands-clause-told
returns-then-stands-clause-told c =
    let p = state_of (parts_of c.args.self.now) in
    let t = c.args.t in
    let key = c.in_ok-key.key in
    let same : key ≡ key_of p.table c.args.row = c.in_ok-key.ensures ∙ ap (λ (table : TableDef). key_of table c.args.row) c.table.ensures.same in
    let here : is_key_here p key ≡ true = ap (is_key_here p) (sym c.bytes.ensures) ∙ sym c.is_key_here.ensures ∙ c.if-not-is_key_here.false in
    let none : option_copied c.stands_against.result ≡ None = grind (arith, common_steps) in
    let free : first_conflict p.locks t key X ≡ None = sym (ap (λ (bytes : List ℕ). first_conflict p.locks t bytes X) c.bytes-2.ensures) ∙ sym c.stands_against.ensures ∙ none in
    let stands : is_some (option_and_then (λ (cell : Cell). cell.now) (find_cell key p.cells)) ≡ true =
    sym (c.stands.ensures ∙ ap (λ (bytes : List ℕ). is_some (option_and_then (λ (cell : Cell). cell.now) (find_cell bytes p.cells))) c.bytes-3.ensures) ∙ c.if-stands.true in
    ap (tells p t) c.begun.ensures ∙ beside-some (with_live p t) t key c.args.row (option_and_then (λ (cell : Cell). cell.now) (find_cell key p.cells)) stands
    ∙ insert-here p t c.args.row key None same here free

pub returns-in-Some-first_failing-clause-told : goal.returns-in-Some-first_failing-clause-told
returns-in-Some-first_failing-clause-told c =
    let p = state_of (parts_of c.args.self.now) in
    let t = c.args.t in
    let key = c.in_ok-key.key in
    let same : key ≡ key_of p.table c.args.row = c.in_ok-key.ensures ∙ ap (λ (table : TableDef). key_of table c.args.row) c.table.ensures.same in
    let here : is_key_here p key ≡ true = ap (is_key_here p) (sym c.bytes.ensures) ∙ sym c.is_key_here.ensures ∙ c.if-not-is_key_here.false in
    let none : option_copied c.stands_against.result ≡ None = grind (arith, common_steps) in
    let free : first_conflict p.locks t key X ≡ None = sym (ap (λ (bytes : List ℕ). first_conflict p.locks t bytes X) c.bytes-2.ensures) ∙ sym c.stands_against.ensures ∙ none in
    let stands : is_some (option_and_then (λ (cell : Cell). cell.now) (find_cell key p.cells)) ≡ false =
    sym (c.stands.ensures ∙ ap (λ (bytes : List ℕ). is_some (option_and_then (λ (cell : Cell). cell.now) (find_cell bytes p.cells))) c.bytes-3.ensures) ∙ c.if-stands.false in
    ap (tells p t) c.begun-in-Some-first_failing.ensures
    ∙ beside-none (with_live p t) t key c.args.row (option_and_then (λ (cell : Cell). cell.now) (find_cell key p.cells)) (Some c.in-Some-first_failing.fault) stands (sym c.in-Some-first_failing.is ∙ c.first_failing.ensures)
    ∙ insert-here p t c.args.row key None same here free

pub returns-clause-told : goal.returns-clause-told
returns-clause-told c =
    let p = state_of (parts_of c.args.self.now) in
    let t = c.args.t in
    let key = c.in_ok-key.key in
    let same : key ≡ key_of p.table c.args.row = c.in_ok-key.ensures ∙ ap (λ (table : TableDef). key_of table c.args.row) c.table.ensures.same in
    let here : is_key_here p key ≡ true = ap (is_key_here p) (sym c.bytes.ensures) ∙ sym c.is_key_here.ensures ∙ c.if-not-is_key_here.false in
    let none : option_copied c.stands_against.result ≡ None = grind (arith, common_steps) in
    let free : first_conflict p.locks t key X ≡ None = sym (ap (λ (bytes : List ℕ). first_conflict p.locks t bytes X) c.bytes-2.ensures) ∙ sym c.stands_against.ensures ∙ none in
    let stands : is_some (option_and_then (λ (cell : Cell). cell.now) (find_cell key p.cells)) ≡ false =
    sym (c.stands.ensures ∙ ap (λ (bytes : List ℕ). is_some (option_and_then (λ (cell : Cell). cell.now) (find_cell bytes p.cells))) c.bytes-3.ensures) ∙ c.if-stands.false in
    let kept : None ≡ first_failing p.table.checks c.args.row = grind (arith, common_steps) in
    ap (λ (lock : Lock). by p t Done (Inserts key c.args.row lock)) c.in_ok-lock.ensures
    ∙ beside-none (with_live p t) t key c.args.row (option_and_then (λ (cell : Cell). cell.now) (find_cell key p.cells)) None stands kept
    ∙ insert-here p t c.args.row key None same here free
