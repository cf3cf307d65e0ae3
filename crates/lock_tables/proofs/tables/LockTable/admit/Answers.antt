use Rattle.std.proofs.Common.{sym, subst}
use Rattle.sql_base.specs.Locks.{InTableOrder}
use Rattle.lock_tables.proofs.Granting.{order-granted}
use Rattle.lock_tables.proofs.tables.LockTable.admit.Goals as goal

pub invariant_of-self : goal.invariant_of-self
invariant_of-self c = subst InTableOrder (sym c.admit.ensures.items) (order-granted c.args.lock c.self.inside.locks.items c.self.invariant)
