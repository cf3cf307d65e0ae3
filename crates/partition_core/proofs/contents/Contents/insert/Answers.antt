use Rattle.std.proofs.Common.{◌≡◌, List, Some, None, Err, rules, ap, sym, ◌∙◌}
use Rattle.sql_base.specs.Rows.{kinds, unpacked}
use Rattle.sql_base.specs.declared.tables.ColumnKind.{ColumnKind}
use Rattle.sql_base.specs.declared.unpacking.UnpackFault.TheVariants.{WrongLength}
use Rattle.sql_base.proofs.UnpackedLength.{unpacked-length}
use Rattle.value_laws.proofs.Unpacked.{unpacked_are_rows}
use Rattle.partition_state.specs.Step.{insert_row}
use Rattle.partition_core.specs.Scaffold.Contents.{parts_of, state_of}
use Rattle.partition_core.specs.Scaffold.Changes.{tells}
use Rattle.partition_core.proofs.contents.Contents.insert.Goals as goal

pub insert_row-requires-clause-row : goal.insert_row-requires-clause-row
insert_row-requires-clause-row c =
    let table = c.args.self.now.table in
    let is : unpacked (kinds table) c.args.packed.now ≡ Some c.in-Ok.row =
    ap (λ (ks : List ColumnKind). unpacked ks c.args.packed.now) (sym (c.items.ensures ∙ c.requires.serving.formed.kinds)) ∙ c.in-Ok.ensures.row in
    unpacked_are_rows table c.args.packed.now c.in-Ok.row is

pub returns-in-Err-WrongLength-clause-told : goal.returns-in-Err-WrongLength-clause-told
returns-in-Err-WrongLength-clause-told c =
    let p = state_of (parts_of c.args.self.now) in
    let ks = c.items.result.now in
    let bad : c.unpack.result ≡ Err WrongLength = search rules in
    let none : unpacked ks c.args.packed.now ≡ None = unpacked-length ks c.args.packed.now (c.unpack.ensures.wrong_length.0 bad) in
    ap (tells p c.args.t) c.refusal.ensures
    ∙ ap (insert_row p c.args.t) (sym none ∙ ap (λ (kinds : List ColumnKind). unpacked kinds c.args.packed.now) (c.items.ensures ∙ c.requires.serving.formed.kinds))
