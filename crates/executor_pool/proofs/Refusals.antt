-- Why a journal refuses a commit.
use Rattle.std.proofs.Common.{◌≡◌, ◌≢◌, ℕ, Option, Some, None}
use Rattle.std.specs.Prelude.{option_map}
use Rattle.commit_journal.specs.declared.Drawn.{Drawn}

-- a stamp was drawn, and so a commit
pub is_drawn : (o : Option Drawn) (stamp : ℕ) → option_map (λ (d : Drawn). d.stamp) o ≡ Some stamp → o ≢ None
is_drawn (Some d) stamp has none = absurd (cc none)
is_drawn None stamp has none = absurd (cc has)
