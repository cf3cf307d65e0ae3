-- The statement stands in the script.
use Rattle.std.proofs.Common.{◌≡◌, ◌∷◌, ◌∙◌, List, Some, length, refl, subst, sym}
use Rattle.std.specs.Prelude.{slice_get}
use Rattle.std.proofs.lemmas.Bool.{ltb-true}
use Rattle.std.proofs.lemmas.Option.{slice_get_read}
use Rattle.sql_base.specs.declared.scripts.Work.{Work}
use Rattle.sql_base.specs.declared.statements.Statement.{Statement}
use Rattle.worked_calls.proofs.Openings.{begins, suits_at}
use Rattle.worked_calls.proofs.read_scripts.statement_in.Goals as goal

pub returns-in-Some : goal.returns-in-Some
returns-in-Some c =
    let works : List Work = c.works-item.result in
    let work : Work = c.work-item.result in
    let statement : Statement = c.in-Some.statement.now in
    let xs : List Statement = c.items-3.result.now in
    let first = begins c.items.result.now works c.in-len1-up.len_at_least c.works-item.is in
    let second = begins c.items-2.result.now work c.in-len1-up-items.len_at_least c.work-item.is in
    let read : slice_get xs c.args.at ≡ Some statement =
    slice_get_read xs (length xs) c.args.at statement refl (ltb-true c.args.at (length xs) (sym c.in-Some.ensures.lookup.0)) c.in-Some.ensures.lookup.1 in
    let found : slice_get work.statements c.args.at ≡ Some statement = subst (λ (s : List Statement). slice_get s c.args.at ≡ Some statement) c.items-3.ensures read in
    suits_at c.args.script.now c.args.table.now works first.0 work second.0 c.args.at statement c.requires.script c.requires.table (sym c.items.ensures ∙ first.1) (sym c.items-2.ensures ∙ second.1) found
