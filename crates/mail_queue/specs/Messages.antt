-- How often messages and numbers stand in lists. A message is seen as its bytes.
use Rattle.std.specs.Prelude.{◌≡◌, ℕ, ◌+◌, ◌<◌, Any, List, count_by, ◌==◌}
use Rattle.std.specs.Str.{bytes_eq}

-- how often the message stands in the list
abbrev pub times : List ℕ → List (List ℕ) → ℕ
times message messages = count_by (bytes_eq message) messages

-- each message stands among those posted as often as among those taken and those left together
abbrev pub Balances : List (List ℕ) → List (List ℕ) → List (List ℕ) → Type 0
Balances posted taken left = (message : List ℕ) → times message posted ≡ times message taken + times message left

-- how often the number stands in the list
abbrev pub times_number : ℕ → List ℕ → ℕ
times_number x numbers = count_by (λ y. x == y) numbers

-- each number below n is that of some token
abbrev pub HasNumbers : {T : Type 0} → (T → ℕ) → ℕ → List T → Type 0
HasNumbers number_of n tokens = (x : ℕ) → x < n → Any (λ token. number_of token ≡ x) tokens
