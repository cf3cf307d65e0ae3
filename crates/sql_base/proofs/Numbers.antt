-- A checked result is that of the definition.
use Rattle.std.proofs.Common.{◌≡◌, ◌^◌, ℤ, pos, negsuc, Some, None, Option, Bool, true, false, Ok, refl, ap, sym, ◌∙◌}
use Rattle.std.specs.Option.{SomeIff}
use Rattle.std.specs.Int.{w64}
use Rattle.std.specs.Int.RustNames.{FitsSigned}
use Rattle.std.proofs.lemmas.Bool.{lt-ltb, ltb-true}
use Rattle.sql_base.specs.Rows.{in_i64}
use Rattle.sql_base.specs.Val.{number, number_in, or_overflow}

fits_in : (z : ℤ) → FitsSigned w64 z → in_i64 z ≡ true
fits_in (pos n) f = lt-ltb n (2 ^ 63) f.sfits
fits_in (negsuc n) f = lt-ltb n (2 ^ 63) f.sfits

in_fits : (z : ℤ) → in_i64 z ≡ true → FitsSigned w64 z
in_fits (pos n) e = record { sfits = ltb-true n (2 ^ 63) e }
in_fits (negsuc n) e = record { sfits = ltb-true n (2 ^ 63) e }

checked_by : (z : ℤ) (b : Bool) → in_i64 z ≡ b → (o : Option ℤ) → SomeIff o (FitsSigned w64 z) z → number_in (or_overflow o) ≡ number z
checked_by z true e (Some x) is = rw e (ap (λ y. number_in (Ok y)) is.1)
checked_by z true e None is = absurd (is (in_fits z e))
checked_by z false e (Some x) is = absurd (let yes_it : true ≡ false = sym (fits_in z is.0) ∙ e in cc)
checked_by z false e None is = rw e refl

pub checked-number : (z : ℤ) (o : Option ℤ) → SomeIff o (FitsSigned w64 z) z → number_in (or_overflow o) ≡ number z
checked-number z = checked_by z (in_i64 z) refl
