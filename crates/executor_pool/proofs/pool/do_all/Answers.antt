-- Jobs may go to threads of their own, and what they share may be shared.
use denote.Exit.{no}
use denote.Param.Send.{IsSend, arg_send, arg_sync, param_send, param_sync}
use denote.Param.Sent.{code_send}
use denote.Param.Object as Object
use Rattle.std.proofs.Common.{rules, ◌≡◌, ◌<◌, length, IfOk, sym, subst}
use Rattle.std.proofs.Crossing.{dyn_box_send}
use Rattle.std.specs.Prelude.{slice_index_or}
use Rattle.std.specs.Vec.{vec_len}
use Rattle.executor_pool.specs.Doing.{IsDone}
use Rattle.executor_pool.specs.contracts.pool.do_all.dyn-1 as dyn
use Rattle.executor_pool.proofs.Crossing.{captured_sync, job_send, ended_send, shared_sync}
use Rattle.executor_pool.proofs.pool.do_all.Goals as goal

pub map_vec-requires-send-J : goal.map_vec-requires-send-J
map_vec-requires-send-J g c κs within =
    let D = Object.Vt (dyn.slots g.row.R g.row.Q g.row.G) g.dyn-1.0 in
    let d : IsSend D = code_send _ _ _ in
    param_send 1 _ (arg_send _ no _ (job_send _ _ c.type_bounds.send-Q (dyn_box_send D (Object.ghosts_of (dyn.slots g.row.R g.row.Q g.row.G) g.dyn-1.0 g.dyn-1.1) g.dyn-1.2 d)))

pub map_vec-requires-send-X : goal.map_vec-requires-send-X
map_vec-requires-send-X g c κs within = param_send 2 _ (arg_send _ no _ (ended_send _ c.type_bounds.send-Q))

pub map_vec-requires-sync-F : goal.map_vec-requires-sync-F
map_vec-requires-sync-F g c κs within = param_sync 4 _ (arg_sync _ no _ (captured_sync _ _ _ _ _ c.type_bounds.sync-R (shared_sync _ _ c.type_bounds.sync-G)))

pub returns-clause-each : goal.returns-clause-each
returns-clause-each g c i j r lt =
    let many : vec_len c.args.jobs ≡ length c.args.jobs.items = search rules in
    let gave = (c.in_ok-map_vec.ensures.each i r (subst (λ n. i < n) many lt)).1 in
    subst (λ job. IfOk (slice_index_or c.in_ok-map_vec.field-0.items i r) (IsDone g.Q.Requester.asking g.Q.Requester.single g.Q.Requester.allows (λ w. record { first = (g.dyn-1.0.entry w.vtable).1.first w.value; round = (g.dyn-1.0.entry w.vtable).1.round w.value }) c.args.shared.now.processes.now.items c.args.shared.now.journal.now job)) (sym (gave.job_is j)) gave.call.met
