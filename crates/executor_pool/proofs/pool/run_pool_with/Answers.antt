-- A run's jobs have what they need, and what they hand back makes its record.
use Rattle.std.proofs.Common.{rules, ◌≡◌, ◌<◌, length, map, ap, sym, ◌∙◌, subst}
use Rattle.std.specs.Vec.{vec_len}
use Rattle.std.specs.List.{range_with_len}
use Rattle.std.proofs.lemmas.List.{length-map}
use Rattle.sql_base.proofs.ListFacts.{range-length}
use Rattle.turn_lock.specs.Pass.{new_pass}
use Rattle.executor_pool.proofs.Ran.{ran_allowed, ran_as, ran_carried, ran_jobs, ran_legal, ran_no_acts}
use Rattle.executor_pool.proofs.Sharing.{rows_many}
use Rattle.executor_pool.proofs.pool.run_pool_with.Goals as goal

pub session_jobs-requires-clause-tokens : goal.session_jobs-requires-clause-tokens
session_jobs-requires-clause-tokens g c =
    let shared = c.in_ok-processes.ensures in
    rows_many c.crew_of-crew.result shared.0 c.in_ok-processes.field-0 shared.2 ∙ c.crew_of-crew.ensures.sessions ∙ sym c.requires.requesters.many

pub session_jobs-requires-clause-commits : goal.session_jobs-requires-clause-commits
session_jobs-requires-clause-commits g c =
    let sessions = c.crew_of-crew.result.sessions in
    ap length c.in_ok-journal.ensures.passes ∙ length-map (range_with_len 0 sessions) (new_pass c.in_ok-journal.journal (tt {0})) ∙ range-length sessions 0 ∙ c.crew_of-crew.ensures.sessions ∙ sym c.requires.requesters.many

pub do_all-requires-after_bounds : goal.do_all-requires-after_bounds
do_all-requires-after_bounds g c lifetimes bounds =
    ran_jobs g.Q.Requester.asking g.Q.Requester.single g.Q.Requester.allows _ c.args.script.now c.args.requesters.items _ c.crew_of-crew.result c.in_ok-processes.field-0 c.in_ok-journal.journal c.requires.script c.requires.requesters c.requires.single
    c.crew_of-crew.ensures.sessions c.in_ok-processes.ensures c.in_ok-journal.ensures.lock _ c.in_ok-journal.ensures.passes _ _ c.in_ok-jobs.ensures.begun c.in_ok-add_servers.ensures

pub record-requires : goal.record-requires
record-requires g c =
    let many : length c.add_servers.new.jobs.items ≡ vec_len c.add_servers.new.jobs = search rules in
    let long : length c.in_ok-ended.ended.items ≡ length c.add_servers.new.jobs.items = search (rules, c.in_ok-ended.ensures.len) in
    ran_as g.Q.Requester.asking g.Q.Requester.single g.Q.Requester.allows _ c.args.script.now c.args.requesters.items _ c.crew_of-crew.result c.in_ok-processes.field-0 c.in_ok-journal.journal c.requires.script c.requires.requesters c.requires.single
    c.crew_of-crew.ensures.sessions c.in_ok-processes.ensures c.in_ok-journal.ensures.lock _ c.in_ok-journal.ensures.passes _ _ c.in_ok-jobs.ensures.begun c.in_ok-add_servers.ensures
    c.in_ok-ended.ended.items c.in_ok-returned.returned c.in_ok-jobs.ensures.many long (λ i j e lt. c.in_ok-ended.ensures.each i j e (subst (λ n. i < n) many lt)) c.in_ok-returned.ensures

pub returns-clause-legal : goal.returns-clause-legal
returns-clause-legal g c =
    let many : length c.add_servers.new.jobs.items ≡ vec_len c.add_servers.new.jobs = search rules in
    let long : length c.in_ok-ended.ended.items ≡ length c.add_servers.new.jobs.items = search (rules, c.in_ok-ended.ensures.len) in
    ran_legal g.Q.Requester.asking g.Q.Requester.single g.Q.Requester.allows _ c.args.script.now c.args.requesters.items _ c.crew_of-crew.result c.in_ok-processes.field-0 c.in_ok-journal.journal c.requires.script c.requires.requesters c.requires.single
    c.crew_of-crew.ensures.sessions c.in_ok-processes.ensures c.in_ok-journal.ensures.lock _ c.in_ok-journal.ensures.passes _ _ c.in_ok-jobs.ensures.begun c.in_ok-add_servers.ensures
    c.in_ok-ended.ended.items c.in_ok-returned.returned c.in_ok-jobs.ensures.many long (λ i j e lt. c.in_ok-ended.ensures.each i j e (subst (λ n. i < n) many lt)) c.in_ok-returned.ensures c.record.result c.record.ensures

pub returns-clause-carried : goal.returns-clause-carried
returns-clause-carried g c =
    let many : length c.add_servers.new.jobs.items ≡ vec_len c.add_servers.new.jobs = search rules in
    let long : length c.in_ok-ended.ended.items ≡ length c.add_servers.new.jobs.items = search (rules, c.in_ok-ended.ensures.len) in
    ran_carried g.Q.Requester.asking g.Q.Requester.single g.Q.Requester.allows _ c.args.script.now c.args.requesters.items _ c.crew_of-crew.result c.in_ok-processes.field-0 c.in_ok-journal.journal c.requires.script c.requires.requesters c.requires.single
    c.crew_of-crew.ensures.sessions c.in_ok-processes.ensures c.in_ok-journal.ensures.lock _ c.in_ok-journal.ensures.passes _ _ c.in_ok-jobs.ensures.begun c.in_ok-add_servers.ensures
    c.in_ok-ended.ended.items c.in_ok-returned.returned c.in_ok-jobs.ensures.many long (λ i j e lt. c.in_ok-ended.ensures.each i j e (subst (λ n. i < n) many lt)) c.in_ok-returned.ensures c.record.result c.record.ensures

pub returns-clause-allowed : goal.returns-clause-allowed
returns-clause-allowed g c =
    let many : length c.add_servers.new.jobs.items ≡ vec_len c.add_servers.new.jobs = search rules in
    let long : length c.in_ok-ended.ended.items ≡ length c.add_servers.new.jobs.items = search (rules, c.in_ok-ended.ensures.len) in
    ran_allowed g.Q.Requester.asking g.Q.Requester.single g.Q.Requester.allows _ c.args.script.now c.args.requesters.items _ c.crew_of-crew.result c.in_ok-processes.field-0 c.in_ok-journal.journal c.requires.script c.requires.requesters c.requires.single
    c.crew_of-crew.ensures.sessions c.in_ok-processes.ensures c.in_ok-journal.ensures.lock _ c.in_ok-journal.ensures.passes _ _ c.in_ok-jobs.ensures.begun c.in_ok-add_servers.ensures
    c.in_ok-ended.ended.items c.in_ok-returned.returned c.in_ok-jobs.ensures.many long (λ i j e lt. c.in_ok-ended.ensures.each i j e (subst (λ n. i < n) many lt)) c.in_ok-returned.ensures c.record.result c.record.ensures

pub returns-clause-no_acts : goal.returns-clause-no_acts
returns-clause-no_acts g c =
    let many : length c.add_servers.new.jobs.items ≡ vec_len c.add_servers.new.jobs = search rules in
    let long : length c.in_ok-ended.ended.items ≡ length c.add_servers.new.jobs.items = search (rules, c.in_ok-ended.ensures.len) in
    ran_no_acts g.Q.Requester.asking g.Q.Requester.single g.Q.Requester.allows _ c.args.script.now c.args.requesters.items _ c.crew_of-crew.result c.in_ok-processes.field-0 c.in_ok-journal.journal c.requires.script c.requires.requesters c.requires.single
    c.crew_of-crew.ensures.sessions c.in_ok-processes.ensures c.in_ok-journal.ensures.lock _ c.in_ok-journal.ensures.passes _ _ c.in_ok-jobs.ensures.begun c.in_ok-add_servers.ensures
    c.in_ok-ended.ended.items c.in_ok-returned.returned c.in_ok-jobs.ensures.many long (λ i j e lt. c.in_ok-ended.ensures.each i j e (subst (λ n. i < n) many lt)) c.in_ok-returned.ensures c.record.result c.record.ensures
