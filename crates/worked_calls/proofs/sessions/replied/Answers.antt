-- A reply that fits may come.
use Rattle.std.proofs.Common.{arith}
use Rattle.worked_calls.proofs.sessions.replied.Goals as goal

pub take-requires : goal.take-requires
take-requires c = record {
  comes = c.fits.ensures.may_come c.if-not-fits.false 0 (omega arith);
  spelled = c.in-Ok.ensures.found.0;
}
