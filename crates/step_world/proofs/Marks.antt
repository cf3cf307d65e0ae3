-- No opener is marked.
use Rattle.std.proofs.Common.{◌≡◌, ℕ, zero, suc, Option, None, refl}
use Rattle.std.specs.Prelude.{replicate, slice_get, unwrap_or}

abbrev pub no_mark : Option ℕ
no_mark = None

pub none_at : (count i : ℕ) → unwrap_or (slice_get (replicate count no_mark) i) no_mark ≡ no_mark
none_at zero i = refl
none_at (suc count) zero = refl
none_at (suc count) (suc i) = none_at count i
