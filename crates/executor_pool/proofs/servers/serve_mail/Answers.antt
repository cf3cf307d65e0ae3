use Rattle.executor_pool.proofs.Serving.{its_process, serving_begins, serving_goes}
use Rattle.executor_pool.proofs.servers.serve_mail.Goals as goal

pub loop-init : goal.loop-init
loop-init g c =
    let process = c.index-process.result.now in
    let server = c.args.server.now in
    (tt, tt, serving_begins process server (its_process c.args.shared.now.processes.now.items server process c.requires c.index-process.ensures))

pub serve_one-requires : goal.serve_one-requires
serve_one-requires g c = c.loop.invariant.2.serves

pub returns-then-load-eq0-clause-same : goal.returns-then-load-eq0-clause-same
returns-then-load-eq0-clause-same g c = (serving_goes c.index-process.result.now c.args.server.now c.loop.server c.serve_one.new.self c.loop.invariant.2 c.serve_one.ensures.same c.serve_one.ensures.keeps).same

pub returns-then-load-eq0-clause-keeps : goal.returns-then-load-eq0-clause-keeps
returns-then-load-eq0-clause-keeps g c = (serving_goes c.index-process.result.now c.args.server.now c.loop.server c.serve_one.new.self c.loop.invariant.2 c.serve_one.ensures.same c.serve_one.ensures.keeps).keeps

pub loop-preserved-then-not-serve_one : goal.loop-preserved-then-not-serve_one
loop-preserved-then-not-serve_one g c = (tt, tt, serving_goes c.index-process.result.now c.args.server.now c.loop.server c.serve_one.new.self c.loop.invariant.2 c.serve_one.ensures.same c.serve_one.ensures.keeps)

pub loop-preserved : goal.loop-preserved
loop-preserved g c = (tt, tt, serving_goes c.index-process.result.now c.args.server.now c.loop.server c.serve_one.new.self c.loop.invariant.2 c.serve_one.ensures.same c.serve_one.ensures.keeps)
