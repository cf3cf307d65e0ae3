-- Worked rows of draws.
use Rattle.std.proofs.Common.{◌≡◌, pos, [], ◌∷◌, refl}
use Rattle.std.specs.Prelude.{codes}
use Rattle.sql_base.specs.declared.values.Value.TheVariants as value
use Rattle.script_maker.specs.Making.{after, insert_account, loaded_account, next_state, select_owners, statement}

-- 7 * 6364136223846793005 + 1442695040888963407 without the bits above the lowest 64
state_behind_seven : next_state 7 ≡ 9098160460397411210
state_behind_seven = refl

-- the first record that 7 draws: 2 for the letter, and then the balance
first_record : loaded_account 0 7 ≡ value.Int (pos 0) ∷ value.Text (codes "C   ") ∷ value.Int (pos 231) ∷ []
unfolding after
first_record = refl

-- 0 draws the kind 3 and the number 624, and 4 draws the kind 2
inserts : statement 2 3 1 0 ≡ insert_account 1231 624
unfolding after
inserts = refl

selects : statement 2 3 1 4 ≡ select_owners
unfolding after
selects = refl
