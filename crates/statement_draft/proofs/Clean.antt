-- A draft without fault: what has been judged holds.
use Rattle.std.proofs.Common.{◌≡◌, ℕ, Bool, true, false, not, ◌&&◌, Option, Some, None, refl, sym, subst, arith}
use Rattle.std.specs.Prelude.{nat_le, if◌then◌else◌}
use Rattle.std.proofs.lemmas.Bool.Decides.{nat_tests}
use Rattle.sql_base.specs.Scripts.{Lies, AreLimits}
use Rattle.sql_base.specs.declared.scripts.Limits.{Limits}
use Rattle.statement_grammar.specs.declared.symbols.Limit.{Limit}
use Rattle.statement_grammar.specs.declared.symbols.Limit.TheVariants as limit
use Rattle.statement_draft.specs.Faults.{noted, sooner}
use Rattle.statement_draft.specs.Names.{is_wide}
use Rattle.statement_draft.specs.TableEvents.{limit_came, is_within, with_limit}
use Rattle.statement_draft.specs.declared.faults.Fault.{Fault}
use Rattle.statement_draft.specs.declared.faults.Reason.{Reason}
use Rattle.statement_draft.specs.declared.faults.Reason.TheVariants.{OverLimit, NumberTooWide}
use Rattle.statement_draft.specs.declared.draft.Draft.{Draft}
use Rattle.sql_base.proofs.Truths.{not-false}

pub sooner-some : (f : Option Fault) (g : Fault) → sooner f (Some g) ≡ None → ⊥
sooner-some None g h = cc
sooner-some (Some f) g h = chosen_one _ f g h
  where
    chosen_one : (b : Bool) (f g : Fault) → (if b then Some f else Some g) ≡ None → ⊥
    chosen_one true f g h = cc
    chosen_one false f g h = cc

-- where nothing is noted, nothing holds, and there was no fault before
pub noted-none : (holds : Bool) (reason : Reason) (at : ℕ) (first : Option Fault) → noted holds reason at first ≡ None → (holds ≡ false) × (first ≡ None)
noted-none true reason at first h = absurd (sooner-some first _ h)
noted-none false reason at first h = (refl, h)

pub lies : (low high n : ℕ) → nat_le low n && nat_le n high ≡ true → Lies low high n
lies low high n h = (grind (arith, nat_tests, h), grind (arith, nat_tests, h))

-- a limit without fault lies in its range
pub within : (l : Limit) (n : ℕ) (limits : Limits) → is_within l n ≡ true → AreLimits limits → AreLimits (with_limit l n limits)
within limit.Quantum n limits h a = let both = lies 1 1000 n h in record { quantum = both; buffer = a.buffer; patience = a.patience; servers = a.servers; restart = a.restart }
within limit.Buffer n limits h a = let both = lies 320 32768 n h in record { quantum = a.quantum; buffer = both; patience = a.patience; servers = a.servers; restart = a.restart }
within limit.Patience n limits h a = let both = lies 0 100 n h in record { quantum = a.quantum; buffer = a.buffer; patience = both.1; servers = a.servers; restart = a.restart }
within limit.Servers n limits h a = let both = lies 1 4 n h in record { quantum = a.quantum; buffer = a.buffer; patience = a.patience; servers = both; restart = a.restart }
within limit.Restart n limits h a = let both = lies 0 10 n h in record { quantum = a.quantum; buffer = a.buffer; patience = a.patience; servers = a.servers; restart = both.1 }

pub limit_kept : (l : Limit) (n at : ℕ) (d : Draft) → (limit_came l n at d).first ≡ None → AreLimits d.limits → AreLimits (limit_came l n at d).limits
limit_kept l n at d h a =
    let fits = not-false (is_within l n) (noted-none (not (is_within l n)) OverLimit at (noted (is_wide n) NumberTooWide at d.first) h).0 in
    subst (λ b. AreLimits (with_limit l (if b then n else 0) d.limits)) (sym fits) (within l n d.limits fits a)
