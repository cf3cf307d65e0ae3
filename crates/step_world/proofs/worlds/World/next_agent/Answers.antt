-- The agents that are enabled are the sessions that may act, and then the partitions with mail.
use Rattle.std.proofs.Common.{List, ◌++◌, length, map, ap, ◌∙◌}
use Rattle.std.specs.Prelude.{filter}
use Rattle.std.specs.List.{range_with_len}
use Rattle.driver_laws.specs.Scheduling.{OfPartition, OfSession, chosen_of}
use Rattle.step_world.specs.Choosing.{actor_seen, acts_at, mail_at}
use Rattle.step_world.specs.Scaffold.Seats.{seen}
use Rattle.step_world.specs.declared.choosing.Agent.TheVariants.{Partition, Session}
use Rattle.step_world.specs.declared.processes.DiskProcess.{DiskProcess}
use Rattle.step_world.specs.declared.seats.Seat.{Seat}
use Rattle.step_world.proofs.Enabled.{all_actors}
use Rattle.step_world.proofs.worlds.World.next_agent.Goals as goal

pub returns : goal.returns
returns g c =
    let f = seen g.Q.Requester.asking in
    let seats = c.args.self.now.seats.items in
    let processes = c.args.self.now.processes.items in
    let ns = filter (acts_at (map f seats)) (range_with_len 1 (length seats)) in
    let ms = filter (mail_at processes) (range_with_len 0 (length processes)) in
    let sessions = c.in_ok-enabled_sessions.ensures ∙ ap (λ (xs : List (Seat g.row.Q.Denot)). c.new-agents.result.items ++ map Session (filter (acts_at (map f xs)) (range_with_len 1 (length xs)))) c.as_slice.ensures.value in
    let partitions = c.in_ok-enabled_partitions.ensures
    ∙ ap (λ (xs : List DiskProcess). c.enabled_sessions.new.agents.items ++ map Partition (filter (mail_at xs) (range_with_len 0 (length xs)))) c.as_slice-2.ensures.value in
    let all = ap (map actor_seen) c.as_slice-3.ensures.value ∙ all_actors c.new-agents.result.items c.enabled_sessions.new.agents.items c.enabled_partitions.new.agents.items ns ms c.new-agents.ensures.items sessions partitions in
    c.chosen.ensures ∙ ap (chosen_of c.args.schedule.now (length c.items.result.now)) all ∙ ap (λ n. chosen_of c.args.schedule.now n (map OfSession ns ++ map OfPartition ms)) (ap length c.items.ensures)
