-- The command lines.
use Rattle.std.specs.Prelude.{◌≡◌, ◌≤◌, ◌<◌, ◌^◌, ℕ, List, [], ◌∷◌, length, map, filter, count_by, codes, String, string_bytes, Bool, true, not, if◌then◌else◌}
use Rattle.std.specs.List.{AllZip}
use Rattle.std.specs.Str.{all_ascii_digits, bytes_eq}
use Rattle.std.specs.Str.Parse.{digits_value}
use Rattle.std.specs.declared.alloc.Global.{Global}
use Rattle.nonstop_sql.specs.declared.commands.Command.{Command}
use Rattle.nonstop_sql.specs.declared.commands.Command.TheVariants.{Check, Oracle, Steps, Make, Trial}

-- a word spells a number of so many bits in decimal digits
pub record IsNumeral (bits : ℕ) (word : List ℕ) (number : ℕ) : Type 0 where
  pub digits : all_ascii_digits word ≡ true
  pub some : 0 < length word
  pub spelled : number ≡ digits_value 10 word
  pub within : number < 2 ^ bits

abbrev pub IsChoice : List ℕ → ℕ → Type 0
IsChoice word choice = IsNumeral 32 word choice

-- at most 10,000 of them
pub record AreChoices (words : List (List ℕ)) (choices : List ℕ) : Type 0 where
  pub few : length words ≤ 10000
  pub each : AllZip IsChoice words choices

-- the word that asks for a trace
abbrev pub is_trace : List ℕ → Bool
is_trace word = bytes_eq word (codes "--trace")

abbrev pub other_words : List (List ℕ) → List (List ℕ)
other_words words = filter (λ word. not (is_trace word)) words

-- choices, among which `--trace` stands once, at any place, where a trace is asked for
pub record AsksSteps (words : List (List ℕ)) (choices : List ℕ) (trace : Bool) : Type 0 where
  pub choices_are : AreChoices (other_words words) choices
  pub traced : count_by is_trace words ≡ (if trace then 1 else 0)

-- there is one word, which spells a number of 64 bits
abbrev pub IsOneNumber : List (List ℕ) → ℕ → Type 0
IsOneNumber [] number = ⊥
IsOneNumber (word ∷ []) number = IsNumeral 64 word number
IsOneNumber (word ∷ other ∷ words) number = ⊥

-- what the words behind the program's name ask for: `check` and `oracle` stand alone, `steps` takes choices and `--trace`, `make` and `trial` one number
abbrev pub AsksFor : List ℕ → List (List ℕ) → Command → Type 0
AsksFor name words Check = (name ≡ codes "check") × (words ≡ [])
AsksFor name words Oracle = (name ≡ codes "oracle") × (words ≡ [])
AsksFor name words (Steps choices trace) = (name ≡ codes "steps") × AsksSteps words choices trace
AsksFor name words (Make number) = (name ≡ codes "make") × IsOneNumber words number
AsksFor name words (Trial number) = (name ≡ codes "trial") × IsOneNumber words number

-- a command line; the first word is the program's name, and isn't judged
abbrev pub IsLine : List (List ℕ) → Command → Type 0
IsLine (program ∷ name ∷ words) command = AsksFor name words command
IsLine words command = ⊥

abbrev pub IsCommand : List (String Global) → Command → Type 0
IsCommand words command = IsLine (map string_bytes words) command

-- the words are no command line
abbrev pub IsNoCommand : List (String Global) → Type 0
IsNoCommand words = (command : Command) → IsCommand words command → ⊥
