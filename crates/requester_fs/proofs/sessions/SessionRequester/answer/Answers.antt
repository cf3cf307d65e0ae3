use Rattle.std.proofs.Common.{◌≤◌, ◌<◌, ℕ, List, ◌≡◌, sym, subst, arith}
use Rattle.std.specs.Prelude.{OnOk}
use Rattle.session_grammar.specs.Sessions.{MayCome}
use Rattle.requester_fs.specs.Asking.{Advances, HasTaken, next_at}
use Rattle.requester_fs.specs.Lasting.{answers_left}
use Rattle.requester_fs.proofs.Logs.{one_place_still, same_allows}
use Rattle.requester_fs.proofs.sessions.SessionRequester.answer.Goals as goal

pub take-requires-clause-comes : goal.take-requires-clause-comes
take-requires-clause-comes c =
    let first : c.args.place ≡ 0 = omega (arith, c.requires.place, c.places.ensures.counted, c.places.ensures.one tt) in
    subst (λ p. MayCome (next_at c.args.self.now.way p) c.args.answer c.args.losses) first c.requires.comes

pub returns-clause-taken : goal.returns-clause-taken
returns-clause-taken c =
    let first : c.args.place ≡ 0 = omega (arith, c.requires.place, c.places.ensures.counted, c.places.ensures.one tt) in
    subst (λ p. OnOk c.take.result (HasTaken c.args.self.now (next_at c.args.self.now.way p) c.args.answer c.args.losses c.take.new.self)) (sym first) c.take.ensures.taken

pub returns-clause-allows : goal.returns-clause-allows
returns-clause-allows c = same_allows c.take.result c.args.self.now c.take.new.self c.take.ensures.same

pub returns-clause-fewer : goal.returns-clause-fewer
returns-clause-fewer c =
    let first : c.args.place ≡ 0 = omega (arith, c.requires.place, c.places.ensures.counted, c.places.ensures.one tt) in
    subst (λ p. OnOk c.take.result ((above : List ℕ → ℕ) (n : ℕ) → ((key : List ℕ) → above key ≤ n) → Advances above n (next_at c.args.self.now.way p) c.args.answer
    → answers_left above n c.take.new.self < answers_left above n c.args.self.now)) (sym first) c.take.ensures.fewer

pub returns-clause-one : goal.returns-clause-one
returns-clause-one c = one_place_still c.take.result c.take.new.self c.take.ensures.one_still
