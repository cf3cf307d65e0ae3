-- A stamp may come where a commit is next.
use Rattle.std.proofs.Common.{subst}
use Rattle.session_grammar.specs.Sessions.{MayCome, Next}
use Rattle.session_grammar.specs.declared.logs.Answer.TheVariants as came
use Rattle.worked_calls.proofs.sessions.stamped.Goals as goal

pub take-requires : goal.take-requires
take-requires c = record {
  comes = subst (λ (next : Next). MayCome next (came.Stamp c.args.stamp) 0) c.in-Commit.ensures.next tt;
  spelled = tt;
}
