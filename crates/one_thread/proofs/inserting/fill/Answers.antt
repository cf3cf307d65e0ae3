use Rattle.std.proofs.Common.{Some, ap, sym, ◌∙◌, subst}
use Rattle.one_thread.specs.Scaffold.Cells.{replaced}
use Rattle.one_thread.specs.Scaffold.Inserting.{filled, Finds}
use Rattle.one_thread.proofs.Spots.{put_there}
use Rattle.one_thread.proofs.inserting.fill.Goals as goal

pub returns-in-Empty : goal.returns-in-Empty
returns-in-Empty c =
    let cells = c.args.cells.now.items in
    let found = subst (Finds c.args.key cells) c.in-Empty.is c.requires in
    put_there c.args.row cells c.in-Empty.at c.index_mut.result.now c.replace.new.self found.0 (c.replace.ensures ∙ ap (λ cell. replaced cell (Some c.args.row)) c.index_mut.ensures.value)
    ∙ sym (ap (λ spot. filled c.args.key c.args.row spot cells) c.in-Empty.is)
