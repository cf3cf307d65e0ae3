-- The end of a loop over tables and their records.
use Rattle.std.proofs.Common.{◌≡◌, ◌<◌, ◌≤◌, ℕ, List, [], ◌∷◌, ◌++◌, length, drop, refl, sym, ap, ◌∙◌, arith, inl, inr}
use Rattle.std.specs.Prelude.{◌⊎◌, min}
use Rattle.std.proofs.Math.ListN.{drop_of_length-le}
use Rattle.std.proofs.lemmas.Bool.{cases_lt}
use Rattle.std.proofs.lemmas.List.{append-nil}
use Rattle.sql_base.specs.declared.tables.TableDef.{TableDef}
use Rattle.sql_base.specs.declared.values.Value.{Value}
use Rattle.one_thread.specs.Text.{tables_text}

nothing : (tables : List TableDef) (records : List (List (List Value))) → (tables ≡ []) ⊎ (records ≡ []) → tables_text tables records ≡ []
nothing [] records h = refl
nothing (table ∷ tables) [] h = refl
nothing (table ∷ tables) (rows ∷ rest) (inl e) = absurd cc
nothing (table ∷ tables) (rows ∷ rest) (inr e) = absurd cc

-- nothing is missing once one of the lists is at its end
pub whole : (tables : List TableDef) (records : List (List (List Value))) (out all : List ℕ) → (tables ≡ []) ⊎ (records ≡ []) → out ++ tables_text tables records ≡ all → out ≡ all
whole tables records out all ended e = sym (append-nil out) ∙ ap (λ (bytes : List ℕ). out ++ bytes) (sym (nothing tables records ended)) ∙ e

by_order : (tables : List TableDef) (records : List (List (List Value))) (n : ℕ) → n ≡ min (length tables) (length records) → (length tables < length records) ⊎ (length records ≤ length tables) → (drop n tables ≡ []) ⊎ (drop n records ≡ [])
by_order tables records n e (inl less) = inl (drop_of_length-le tables (omega arith))
by_order tables records n e (inr more) = inr (drop_of_length-le records (omega arith))

-- a loop over both ends where one of them ends
pub ended : (tables : List TableDef) (records : List (List (List Value))) (n : ℕ) → n ≡ min (length tables) (length records) → (drop n tables ≡ []) ⊎ (drop n records ≡ [])
ended tables records n e = by_order tables records n e (cases_lt (length tables) (length records))
