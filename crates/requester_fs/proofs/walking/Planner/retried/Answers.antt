use Rattle.std.proofs.Common.{◌+◌, ◌-◌, drop, [], length, refl, ap, sym, ◌∙◌, subst, arith}
use Rattle.std.proofs.lemmas.Option.{slice_get_read}
use Rattle.sql_base.specs.declared.scripts.Work.{Work}
use Rattle.session_grammar.specs.Follows.{asker}
use Rattle.session_laws.specs.Scaffold.Machine.{At, retried, trying, works_at}
use Rattle.requester_fs.specs.Scaffold.Stages.{IsStage, MayBeStage, doing_of, placed, trying_of, work_of}
use Rattle.requester_fs.proofs.Walks.{retried_here, retried_past, stands_by, work_here}
use Rattle.requester_fs.proofs.walking.Planner.retried.Goals as goal

pub returns-in-Some : goal.returns-in-Some
returns-in-Some c =
    let works = c.args.works.now in
    let s = c.args.stand.now in
    let w = c.index-works-stand.result in
    let here = slice_get_read works (length works) s.work w refl c.requires.stand.work c.index-works-stand.is in
    let staged = subst (MayBeStage (s.ordinal + 1) w.statements) c.in-Some.is c.in_ok-stage.ensures.stage in
    let there = subst (λ (x : Work). IsStage (s.ordinal + 1) x.statements c.in-Some.stage) (sym (work_here works s.work w here)) staged in (
      (c.requires.stand.work, omega arith, there),
      λ number.
          let r = asker c.args.self.now.script.now number in
          ap (λ seen. At (trying (s.ordinal + 1) (s.restarts - 1) (work_of works s.work) (drop (s.work + 1) works)) seen (doing_of r (work_of works s.work).statements c.in-Some.stage)) c.new.ensures
          ∙ retried_here r works s w here c.requires.some c.in-Some.stage (λ t next is. ap (placed r t [] w.statements next) (sym c.in-Some.is) ∙ c.in_ok-stage.ensures.placed number t next is),
    )

pub returns-in-None : goal.returns-in-None
returns-in-None c =
    let works = c.args.works.now in
    let s = c.args.stand.now in
    let w = c.index-works-stand.result in
    let here = slice_get_read works (length works) s.work w refl c.requires.stand.work c.index-works-stand.is in
    stands_by c.first.result c.args.self.now.script.now works (λ r. works_at r (s.ordinal + 1 + 1) (drop (s.work + 1) works)) (λ r. retried r (trying_of works s) s.restarts)
    (λ number. retried_past (asker c.args.self.now.script.now number) works s w here c.requires.some
    (λ t next is. ap (placed (asker c.args.self.now.script.now number) t [] w.statements next) (sym c.in-None.is) ∙ c.in_ok-stage.ensures.placed number t next is))
    c.first.ensures
