-- Counts that go up and never fall, kept in 64 bits.
use Rattle.std.specs.Prelude.{ℕ, ◌+◌, ◌-◌, ◌^◌, ◌≤◌, nat_lt, if◌then◌else◌}

-- the count one higher, or the same at the last one that fits
abbrev pub raised : ℕ → ℕ
raised count = if nat_lt count (2 ^ 64 - 1) then count + 1 else count

-- the count went up, or stands at the last one that fits
abbrev pub Rose : ℕ → ℕ → Type 0
Rose before after = raised before ≤ after
