use Rattle.std.proofs.Common.{◌&&◌, List, ℕ, Some, ap, sym, ◌∙◌}
use Rattle.std.proofs.lemmas.Result.{IfOk-weaker}
use Rattle.sql_base.specs.declared.tables.TableDef.{TableDef}
use Rattle.predicate_codes.specs.Decoding.{filter_of}
use Rattle.quantum_core.specs.declared.works.Doing.TheVariants.{Read}
use Rattle.partition_state.specs.Step.{are_columns_here, is_key_here, set_work}
use Rattle.partition_core.specs.Scaffold.Changes.{tells}
use Rattle.partition_core.specs.Scaffold.Contents.{parts_of, state_of}
use Rattle.partition_core.proofs.Told.{key-bad, key-good, key-unsuited}
use Rattle.partition_core.proofs.contents.Contents.read_key.Goals as goal

pub returns-then-not-suits_key-clause-told : goal.returns-then-not-suits_key-clause-told
returns-then-not-suits_key-clause-told c =
    let p = state_of (parts_of c.args.self.now) in
    let same = ap (λ k. is_key_here p k && are_columns_here p c.args.columns.now) (sym c.bytes.ensures) ∙ ap (λ cs. is_key_here p c.bytes.result.now && are_columns_here p cs) (sym c.items.ensures) in
    ap (tells p c.args.t) c.refusal.ensures ∙ key-unsuited p c.args.t c.args.access c.args.key.now _ _ (same ∙ sym c.suits_key.ensures ∙ c.if-not-suits_key.true)

pub returns-in-None-clause-told : goal.returns-in-None-clause-told
returns-in-None-clause-told c =
    let p = state_of (parts_of c.args.self.now) in
    let same = ap (λ k. is_key_here p k && are_columns_here p c.args.columns.now) (sym c.bytes.ensures) ∙ ap (λ cs. is_key_here p c.bytes.result.now && are_columns_here p cs) (sym c.items.ensures) in
    let work = c.in_ok-read.ensures.work ∙ ap (λ (table : TableDef). set_work (filter_of table c.args.filter.now) (Some (Read c.in_ok-copy_of.field-0))) c.table.ensures.same
    ∙ ap (λ (columns : List ℕ). set_work (filter_of p.table c.args.filter.now) (Some (Read columns))) c.in_ok-copy_of.ensures in
    ap (tells p c.args.t) c.refusal-in-None.ensures
    ∙ key-bad p c.args.t c.args.access c.args.key.now _ _ (same ∙ sym c.suits_key.ensures ∙ c.if-not-suits_key.false) (sym work ∙ c.in-None.is)

pub returns-in-Some-clause-told : goal.returns-in-Some-clause-told
returns-in-Some-clause-told c =
    let p = state_of (parts_of c.args.self.now) in
    let same = ap (λ k. is_key_here p k && are_columns_here p c.args.columns.now) (sym c.bytes.ensures) ∙ ap (λ cs. is_key_here p c.bytes.result.now && are_columns_here p cs) (sym c.items.ensures) in
    let work = c.in_ok-read.ensures.work ∙ ap (λ (table : TableDef). set_work (filter_of table c.args.filter.now) (Some (Read c.in_ok-copy_of.field-0))) c.table.ensures.same
    ∙ ap (λ (columns : List ℕ). set_work (filter_of p.table c.args.filter.now) (Some (Read columns))) c.in_ok-copy_of.ensures in
    let good = key-good p c.args.t c.args.access c.args.key.now _ _ c.in-Some.work (same ∙ sym c.suits_key.ensures ∙ c.if-not-suits_key.false) (sym work ∙ c.in-Some.is) in
    IfOk-weaker c.read_one.result _ _ (λ j told. told ∙ good) c.read_one.ensures.told
