-- What a wire tells.
use Rattle.std.specs.Prelude.{◌≡◌, List, [], ◌∷◌, Bool, true, false}
use Rattle.outside.specs.declared.wire.Passage.{Passage}
use Rattle.outside.specs.declared.wire.Passage.TheVariants.{Carry, Repeat, LoseRequest, LoseReply}

-- the request or its reply is lost
abbrev pub is_loss : Passage → Bool
is_loss Carry = false
is_loss Repeat = false
is_loss LoseRequest = true
is_loss LoseReply = true

-- of the answers `first`, and then those of `round` over and over, this is the next, and `later` are left of the first
abbrev pub Answers : List Passage → List Passage → Passage → List Passage → Type 0
Answers (next ∷ others) round answer later = (answer ≡ next) × (later ≡ others)
Answers [] (next ∷ others) answer later = (answer ≡ next) × (later ≡ others)
Answers [] [] answer later = ⊥

-- it has told these answers, one after the other, and `later` are left of the first
abbrev pub Told : List Passage → List Passage → List Passage → List Passage → Type 0
Told first round [] later = later ≡ first
Told first round (answer ∷ answers) later = (others : List Passage) × Answers first round answer others × Told others round answers later
