-- Lines that are written word by word.
use Rattle.std.proofs.Common.{◌≡◌, ℕ, List, [], ◌∷◌, ◌++◌, refl, sym, ap, ◌∙◌, append_assoc}
use Rattle.std.specs.Prelude.{flat_map}
use Rattle.std.specs.List.{join_with_byte}
use Rattle.std.proofs.lemmas.List.{append-nil}
use Rattle.one_thread.specs.Text.{line}

-- words behind blanks
abbrev pub spaced : List (List ℕ) → List ℕ
spaced words = flat_map (λ (word : List ℕ). 0x20 ∷ word) words

joined : (word : List ℕ) (words : List (List ℕ)) → join_with_byte 0x20 (word ∷ words) ≡ word ++ spaced words
joined word [] = sym (append-nil word)
joined word (next ∷ words) = ap (λ (rest : List ℕ). word ++ 0x20 ∷ rest) (joined next words)

pub line-words : (word : List ℕ) (words : List (List ℕ)) → line (word ∷ words) ≡ word ++ spaced words ++ 0x0A ∷ []
line-words word words = ap (λ (rest : List ℕ). rest ++ 0x0A ∷ []) (joined word words)

-- a first word, then more behind blanks, then a line feed
pub line_written : (old first all out word : List ℕ) (words : List (List ℕ)) → first ≡ old ++ word → all ≡ first ++ spaced words → out ≡ all ++ 0x0A ∷ [] → out ≡ old ++ line (word ∷ words)
line_written old first all out word words e f g =
    g ∙ ap (λ (bytes : List ℕ). bytes ++ 0x0A ∷ []) (f ∙ ap (λ (bytes : List ℕ). bytes ++ spaced words) e ∙ append_assoc old word (spaced words))
    ∙ append_assoc old (word ++ spaced words) (0x0A ∷ []) ∙ ap (λ (bytes : List ℕ). old ++ bytes) (sym (line-words word words))

-- two words behind blanks, and then more of them
pub behind_two : (first named all a b : List ℕ) (words : List (List ℕ)) → named ≡ (first ++ 0x20 ∷ a) ++ 0x20 ∷ b → all ≡ named ++ spaced words → all ≡ first ++ spaced (a ∷ b ∷ words)
behind_two first named all a b words e f =
    f ∙ ap (λ (bytes : List ℕ). bytes ++ spaced words) e ∙ append_assoc (first ++ 0x20 ∷ a) (0x20 ∷ b) (spaced words) ∙ append_assoc first (0x20 ∷ a) (0x20 ∷ b ++ spaced words)

-- and three
pub behind_three : (first placed all a b c : List ℕ) (words : List (List ℕ)) → placed ≡ ((first ++ 0x20 ∷ a) ++ 0x20 ∷ b) ++ 0x20 ∷ c → all ≡ placed ++ spaced words → all ≡ first ++ spaced (a ∷ b ∷ c ∷ words)
behind_three first placed all a b c words e f =
    behind_two first ((first ++ 0x20 ∷ a) ++ 0x20 ∷ b) all a b (c ∷ words) refl
    (f ∙ ap (λ (bytes : List ℕ). bytes ++ spaced words) e ∙ append_assoc ((first ++ 0x20 ∷ a) ++ 0x20 ∷ b) (0x20 ∷ c) (spaced words))

-- a word and then a key behind a blank
pub then_key : (old first word key : List ℕ) → first ≡ old ++ 0x20 ∷ word → first ++ 0x20 ∷ key ≡ old ++ spaced (word ∷ key ∷ [])
then_key old first word key e =
    ap (λ (bytes : List ℕ). bytes ++ 0x20 ∷ key) e ∙ append_assoc old (0x20 ∷ word) (0x20 ∷ key) ∙ ap (λ (bytes : List ℕ). old ++ ((0x20 ∷ word) ++ 0x20 ∷ bytes)) (sym (append-nil key))
