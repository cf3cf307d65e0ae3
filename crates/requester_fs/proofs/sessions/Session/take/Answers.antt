use Rattle.std.proofs.Common.{◌≡◌, ◌<◌, ◌++◌, [], ◌∷◌, Some, refl, ap, sym, ◌∙◌, subst, arith}
use Rattle.std.proofs.lemmas.Option.{same_Some}
use Rattle.session_grammar.specs.Follows.{works_of}
use Rattle.session_grammar.specs.Sessions.{MayCome, entries_kept}
use Rattle.session_laws.specs.Scaffold.Machine.{after}
use Rattle.requester_fs.specs.Asking.{Advances, Asking, HasTaken, next_at}
use Rattle.requester_fs.specs.Lasting.{answers_left}
use Rattle.requester_fs.specs.Scaffold.Stages.{IsStage, Stands, statements_of, stood, way_in, way_of}
use Rattle.requester_fs.specs.Scaffold.Working.{IsWorking}
use Rattle.requester_fs.specs.declared.stages.Stand.{Stand}
use Rattle.requester_fs.proofs.Asked.{has_answered, is_asking}
use Rattle.requester_fs.proofs.Keeping.{exact, lasts, one, taken}
use Rattle.requester_fs.proofs.Logs.{behind_most}
use Rattle.requester_fs.proofs.Ordinals.{is_in}
use Rattle.requester_fs.proofs.sessions.Session.take.Goals as goal

pub unreachable-requires : goal.unreachable-requires
unreachable-requires c =
    let s = c.self.inside in
    let may = subst (λ (a : Asking). MayCome (next_at a.way 0) c.args.answer c.args.losses) (sym c.self.view_is) c.requires.comes in
    subst (λ o. MayCome (next_at (way_of s.number s.sync o) 0) c.args.answer c.args.losses) c.in_default.is may

pub after-requires-clause-stand : goal.after-requires-clause-stand
after-requires-clause-stand c =
    let s = c.self.inside in
    let h = c.self.invariant in
    let here = subst (λ o. IsWorking s.script.now s.number s.parts o s.sync s.log.items) c.in-Some.is h in
    is_in s.script.now s.number h.is_script h.session s.parts s.sync c.in-Some.stand s.log.items here (record { alloc = s.alloc; script = s.script; parts = s.parts }) c.works_of.result.now refl refl c.works_of.ensures

pub after-requires-clause-stage : goal.after-requires-clause-stage
after-requires-clause-stage c =
    let s = c.self.inside in
    let here = subst (λ o. IsWorking s.script.now s.number s.parts o s.sync s.log.items) c.in-Some.is c.self.invariant in
    subst (λ works. IsStage c.in-Some.stand.ordinal (statements_of works c.in-Some.stand) c.in-Some.stand.stage) (sym c.works_of.ensures) here.kept.2

pub unreachable-requires-in_default-replace : goal.unreachable-requires-in_default-replace
unreachable-requires-in_default-replace c =
    let s = c.self.inside in
    let may = subst (λ (a : Asking). MayCome (next_at a.way 0) c.args.answer c.args.losses) (sym c.self.view_is) c.requires.comes in
    subst (λ o. MayCome (next_at (way_of s.number s.sync o) 0) c.args.answer c.args.losses) (sym c.replace.ensures.value ∙ c.in_default-replace.is) may

pub sync_behind-self-inside-requires : goal.sync_behind-self-inside-requires
sync_behind-self-inside-requires c =
    let s = c.self.inside in
    omega (arith, c.self.invariant.sync_is, behind_most 1 s.log.items, s.log.ok.0, s.log.small)

-- what stands in the log
kept : (c : goal.After-push_reserved) → c.entry-kept.result ∷ [] ≡ entries_kept (next_at (way_of c.self.inside.number c.self.inside.sync (Some c.in-Some.stand)) 0) c.args.answer c.args.losses
kept c =
    let s = c.self.inside in
    let done : c.in-Some-replace.done ≡ c.in-Some.stand = same_Some c.in-Some-replace.done c.in-Some.stand (sym c.in-Some-replace.is ∙ c.replace.ensures.value ∙ c.in-Some.is) in
    c.entry-kept.ensures ∙ ap (λ (d : Stand). entries_kept (next_at (way_in s.number s.sync d.ordinal d.stage) 0) c.args.answer c.args.losses) done

log_is : (c : goal.After-push_reserved) → c.push_reserved.new.self.items ≡ c.self.inside.log.items ++ c.entry-kept.result ∷ []
log_is c = c.push_reserved.ensures.items ∙ ap (λ es. es ++ c.entry-kept.result ∷ []) c.in_ok-reserve.ensures.items

-- the session works on
works_on : (c : goal.After-push_reserved) → IsWorking c.self.inside.script.now c.self.inside.number c.self.inside.parts c.replace.new.dest c.sync_behind-self-inside.result c.push_reserved.new.self.items
works_on c =
    let s = c.self.inside in
    let script = s.script.now in
    let d = c.in-Some.stand in
    let log = s.log.items in
    let may = subst (λ (a : Asking). MayCome (next_at a.way 0) c.args.answer c.args.losses) (sym c.self.view_is) c.requires.comes in
    let may_here = subst (λ o. MayCome (next_at (way_of s.number s.sync o) 0) c.args.answer c.args.losses) c.in-Some.is may in
    let here = subst (λ o. IsWorking script s.number s.parts o s.sync log) c.in-Some.is c.self.invariant in
    let led = subst (λ works. Stands script works (λ r. after r (stood r works d) c.args.answer) c.in_ok-next.next) c.works_of.ensures c.in_ok-next.ensures in
    let there = subst (Stands script (works_of script s.number) (λ r. after r (stood r (works_of script s.number) d) c.args.answer)) (sym c.replace.ensures.after) led in
    subst (IsWorking script s.number s.parts c.replace.new.dest c.sync_behind-self-inside.result) (sym (log_is c))
    (taken script s.number s.parts s.sync (Some d) log here c.args.answer c.args.losses may_here c.replace.new.dest there.0 (there.1 s.number) c.entry-kept.result (kept c)
    c.sync_behind-self-inside.result c.sync_behind-self-inside.ensures.next c.sync_behind-self-inside.type_inv)

pub invariant_of-self-2 : goal.invariant_of-self-2
invariant_of-self-2 c = works_on c

-- the log with what was taken, as the view of the session has it
view_kept : (c : goal.After-push_reserved) → c.push_reserved.new.self.items
    ≡ c.self.inside.log.items ++ entries_kept (next_at (way_of c.self.inside.number c.self.inside.sync c.self.inside.stand) 0) c.args.answer c.args.losses
view_kept c =
    let s = c.self.inside in
    log_is c ∙ ap (λ es. s.log.items ++ es) (kept c ∙ ap (λ o. entries_kept (next_at (way_of s.number s.sync o) 0) c.args.answer c.args.losses) (sym c.in-Some.is))

pub returns-clause-kept : goal.returns-clause-kept
returns-clause-kept c = view_kept c ∙ ap (λ (a : Asking). a.log ++ entries_kept (next_at a.way 0) c.args.answer c.args.losses) c.self.view_is

pub returns-clause-asking : goal.returns-clause-asking
returns-clause-asking c =
    let s = c.self.inside in
    is_asking s.script.now s.number s.parts c.sync_behind-self-inside.result c.replace.new.dest c.push_reserved.new.self.items (works_on c)

pub returns-clause-taken : goal.returns-clause-taken
returns-clause-taken c =
    let s = c.self.inside in
    let b : Asking = record { script = s.script.now; number = s.number; log = c.push_reserved.new.self.items; way = way_of s.number c.sync_behind-self-inside.result c.replace.new.dest } in
    let may = subst (λ (a : Asking). MayCome (next_at a.way 0) c.args.answer c.args.losses) (sym c.self.view_is) c.requires.comes in
    subst (λ (a : Asking). HasTaken a (next_at a.way 0) c.args.answer c.args.losses b) c.self.view_is
    (has_answered s.script.now s.number s.parts s.sync s.stand s.log.items c.self.invariant b c.args.answer c.args.losses may refl refl (view_kept c)
    (is_asking s.script.now s.number s.parts c.sync_behind-self-inside.result c.replace.new.dest c.push_reserved.new.self.items (works_on c)))

pub returns-clause-exact : goal.returns-clause-exact
returns-clause-exact c =
    let s = c.self.inside in
    exact s.script.now s.number s.parts c.sync_behind-self-inside.result c.replace.new.dest c.push_reserved.new.self.items (works_on c)

pub returns-clause-one_still : goal.returns-clause-one_still
returns-clause-one_still c =
    let s = c.self.inside in
    one s.script.now s.number s.parts c.sync_behind-self-inside.result c.replace.new.dest c.push_reserved.new.self.items (works_on c)

pub returns-clause-fewer : goal.returns-clause-fewer
returns-clause-fewer c above n most advances =
    let s = c.self.inside in
    let script = s.script.now in
    let d = c.in-Some.stand in
    let log = s.log.items in
    let a : Asking = record { script = script; number = s.number; log = log; way = way_of s.number s.sync s.stand } in
    let b : Asking = record { script = script; number = s.number; log = c.push_reserved.new.self.items; way = way_of s.number c.sync_behind-self-inside.result c.replace.new.dest } in
    let may = subst (λ (x : Asking). MayCome (next_at x.way 0) c.args.answer c.args.losses) (sym c.self.view_is) c.requires.comes in
    let may_here = subst (λ o. MayCome (next_at (way_of s.number s.sync o) 0) c.args.answer c.args.losses) c.in-Some.is may in
    let goes = subst (λ (x : Asking). Advances above n (next_at x.way 0) c.args.answer) (sym c.self.view_is) advances in
    let goes_here = subst (λ o. Advances above n (next_at (way_of s.number s.sync o) 0) c.args.answer) c.in-Some.is goes in
    let here = subst (λ o. IsWorking script s.number s.parts o s.sync log) c.in-Some.is c.self.invariant in
    let led = subst (λ works. Stands script works (λ r. after r (stood r works d) c.args.answer) c.in_ok-next.next) c.works_of.ensures c.in_ok-next.ensures in
    let there = subst (Stands script (works_of script s.number) (λ r. after r (stood r (works_of script s.number) d) c.args.answer)) (sym c.replace.ensures.after) led in
    subst (λ (x : Asking). answers_left above n b < answers_left above n x) c.self.view_is
    (lasts script s.number s.parts s.sync (Some d) log here c.args.answer c.args.losses may_here b refl refl c.replace.new.dest (works_on c).stands (there.1 s.number) above n most goes_here)
