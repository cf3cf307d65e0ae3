-- What may name a table or a column.
use Rattle.std.specs.Prelude.{◌≡◌, ◌≤◌, ℕ, List, [], ◌∷◌, length, codes, Bool, false, true, ◌||◌, ◌==◌}
use Rattle.std.specs.List.{list_all, list_any}
use Rattle.std.specs.Char.{is_ascii_alphabetic, is_ascii_alphanumeric}
use Rattle.std.specs.Str.{bytes_eq}

-- the words of the language, which name nothing
abbrev pub keywords : List (List ℕ)
keywords =
    codes "QUANTUM" ∷ codes "BUFFER" ∷ codes "PATIENCE" ∷ codes "SERVERS" ∷ codes "RESTART" ∷ codes "TABLE" ∷ codes "INT" ∷ codes "CHAR" ∷
    codes "PRIMARY" ∷ codes "KEY" ∷ codes "CHECK" ∷ codes "FIRST" ∷ codes "LOAD" ∷ codes "SESSION" ∷ codes "SELECT" ∷ codes "FROM" ∷
    codes "WHERE" ∷ codes "UPDATE" ∷ codes "SET" ∷ codes "DELETE" ∷ codes "INSERT" ∷ codes "INTO" ∷ codes "VALUES" ∷ codes "LOCK" ∷
    codes "IN" ∷ codes "SHARE" ∷ codes "EXCLUSIVE" ∷ codes "MODE" ∷ codes "FOR" ∷ codes "BROWSE" ∷ codes "STABLE" ∷ codes "REPEATABLE" ∷
    codes "ACCESS" ∷ codes "COMMIT" ∷ codes "ROLLBACK" ∷ codes "WORK" ∷ codes "AND" ∷ codes "OR" ∷ codes "NOT" ∷ []

-- letters, digits and `_`
abbrev pub is_name_byte : ℕ → Bool
is_name_byte b = is_ascii_alphanumeric b || b == 95

abbrev pub begins_with_letter : List ℕ → Bool
begins_with_letter [] = false
begins_with_letter (b ∷ bytes) = is_ascii_alphabetic b

abbrev pub is_keyword : List ℕ → Bool
is_keyword bytes = list_any (bytes_eq bytes) keywords

-- a letter, then letters, digits and `_`, which is no keyword
pub record IsName (name : List ℕ) : Type 0 where
  pub letter : begins_with_letter name ≡ true
  pub bytes : list_all is_name_byte name ≡ true
  pub free : is_keyword name ≡ false

-- a name that is short enough for a table or a column
pub record IsShortName (word : List ℕ) : Type 0 where
  pub name : IsName word
  pub short : length word ≤ 30
