use Rattle.std.proofs.Common.{◌+◌, drop, [], length, refl, ap, sym, ◌∙◌, subst}
use Rattle.std.proofs.lemmas.Option.{slice_get_read}
use Rattle.sql_base.specs.declared.scripts.Work.{Work}
use Rattle.session_grammar.specs.Follows.{asker}
use Rattle.session_laws.specs.Scaffold.Machine.{At, trying}
use Rattle.requester_fs.specs.Scaffold.Stages.{IsStage, MayBeStage, doing_of, placed, work_of}
use Rattle.requester_fs.proofs.Walks.{first_here, work_here}
use Rattle.requester_fs.proofs.walking.Planner.first.Goals as goal

pub returns-in-Some : goal.returns-in-Some
returns-in-Some c =
    let works = c.args.works.now in
    let i = c.loop-work.work in
    let w = c.index-works-work.result in
    let here = slice_get_read works (length works) i w refl c.loop-work-test.true c.index-works-work.is in
    let staged = subst (MayBeStage c.loop-work.next w.statements) c.in-Some.is c.in_ok-stage.ensures.stage in
    let there = subst (λ (x : Work). IsStage c.loop-work.next x.statements c.in-Some.stage) (sym (work_here works i w here)) staged in (
      (c.loop-work-test.true, c.loop-work.invariant.2, there),
      λ number.
          let r = asker c.args.self.now.script.now number in
          ap (λ seen. At (trying c.loop-work.next r.limits.restart (work_of works i) (drop (i + 1) works)) seen (doing_of r (work_of works i).statements c.in-Some.stage)) c.new.ensures
          ∙ first_here r c.loop-work.next works i w c.in-Some.stage here (λ t next is. ap (placed r t [] w.statements next) (sym c.in-Some.is) ∙ c.in_ok-stage.ensures.placed number t next is)
          ∙ c.loop-work.invariant.1 number,
    )
