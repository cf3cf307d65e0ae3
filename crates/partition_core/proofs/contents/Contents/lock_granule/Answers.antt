use Rattle.std.proofs.Common.{◌≡◌, [], List, ℕ, Some, None, ap, sym, ◌∙◌, arith}
use Rattle.std.specs.Prelude.{option_copied}
use Rattle.std.proofs.lemmas.Grind.{common_steps}
use Rattle.std.proofs.lemmas.Result.{IfOk-weaker}
use Rattle.sql_base.specs.Locks.{first_conflict}
use Rattle.sql_base.specs.declared.lock_names.Lock.{Lock}
use Rattle.dp_messages.specs.declared.replies.Reply.TheVariants.{Done}
use Rattle.quantum_runner.specs.declared.planned.Planned.{Planned}
use Rattle.partition_core.specs.Scaffold.Changes.{tells}
use Rattle.partition_core.specs.Scaffold.Contents.{parts_of, state_of}
use Rattle.partition_core.specs.declared.changes.Change.TheVariants.{Begins}
use Rattle.partition_core.proofs.Told.{by, granule-told}
use Rattle.partition_core.proofs.contents.Contents.lock_granule.Goals as goal

pub returns-in-Some-clause-told : goal.returns-in-Some-clause-told
returns-in-Some-clause-told c =
    let p = state_of (parts_of c.args.self.now) in
    let t = c.args.t in
    let found : first_conflict p.locks t c.args.prefix.now c.args.mode ≡ Some c.in-Some.lock.now =
    sym (c.in-Some.ensures ∙ ap (λ (bytes : List ℕ). first_conflict p.locks t bytes c.args.mode) c.bytes.ensures) in
    IfOk-weaker c.locked.result _ _ (λ j is. ap (tells p t) is ∙ granule-told p t c.args.prefix.now c.args.mode (Some c.in-Some.lock.now) (sym c.is_too_long.ensures ∙ c.if-is_too_long.false) found) c.locked.ensures

pub returns-clause-told : goal.returns-clause-told
returns-clause-told c =
    let p = state_of (parts_of c.args.self.now) in
    let t = c.args.t in
    let none : option_copied c.stands_against.result ≡ None = grind (arith, common_steps) in
    let free : first_conflict p.locks t c.args.prefix.now c.args.mode ≡ None =
    sym (ap (λ (bytes : List ℕ). first_conflict p.locks t bytes c.args.mode) c.bytes.ensures) ∙ sym c.stands_against.ensures ∙ none in
    ap (λ (plans : List Planned). by p t Done (Begins plans (Some c.in_ok-lock.lock) None)) c.new.ensures
    ∙ ap (λ (lock : Lock). by p t Done (Begins [] (Some lock) None)) c.in_ok-lock.ensures
    ∙ granule-told p t c.args.prefix.now c.args.mode None (sym c.is_too_long.ensures ∙ c.if-is_too_long.false) free
