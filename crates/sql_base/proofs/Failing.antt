-- The CHECKs one after the other.
use Rattle.std.proofs.Common.{◌≡◌, Some, None, Option, true, false, refl}
use Rattle.std.specs.Option.{is_some}
use Rattle.sql_base.specs.OnRows.{or_later}
use Rattle.sql_base.specs.declared.faults.Fault.{Fault}

pub or_later-some : (fault later : Option Fault) → is_some fault ≡ true → or_later fault later ≡ fault
or_later-some (Some f) later e = refl
or_later-some None later e = absurd (cc)

pub or_later-none : (fault later : Option Fault) → is_some fault ≡ false → or_later fault later ≡ later
or_later-none None later e = refl
or_later-none (Some f) later e = absurd (cc)
