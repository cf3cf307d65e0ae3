-- Worked rows of wires: what is told, and what can't be told.
use Rattle.std.proofs.Common.{◌≡◌, List, [], ◌∷◌, true, false, refl, subst}
use Rattle.std.specs.Prelude.{map}
use Rattle.outside.specs.Wire.{is_loss, Answers, Told}
use Rattle.outside.specs.declared.wire.Passage.{Passage}
use Rattle.outside.specs.declared.wire.Passage.TheVariants.{Carry, Repeat, LoseRequest, LoseReply}

losses : map is_loss (Carry ∷ Repeat ∷ LoseRequest ∷ LoseReply ∷ []) ≡ false ∷ false ∷ true ∷ true ∷ []
losses = refl

-- two losses once, and Carry from then on: after three answers nothing is left of the first
listed : Told (LoseRequest ∷ LoseReply ∷ []) (Carry ∷ []) (LoseRequest ∷ LoseReply ∷ Carry ∷ Carry ∷ []) []
listed = (LoseReply ∷ [], (refl, refl), ([], (refl, refl), ([], (refl, refl), ([], (refl, refl), refl))))

-- round and round: behind the last of the round comes its first again
goes_round : Told [] (Carry ∷ LoseReply ∷ []) (Carry ∷ LoseReply ∷ Carry ∷ []) (LoseReply ∷ [])
goes_round = (LoseReply ∷ [], (refl, refl), ([], (refl, refl), (LoseReply ∷ [], (refl, refl), refl)))

-- nothing told yet
untold : Told (Repeat ∷ []) (Carry ∷ []) [] (Repeat ∷ [])
untold = refl

-- a wire that only carries has told no loss
no_loss : (later : List Passage) → Told [] (Carry ∷ []) (LoseReply ∷ []) later → ⊥
no_loss later told = absurd cc

-- a round that repeats its last answer isn't told
not_repeated : (later : List Passage) → Told [] (Carry ∷ LoseReply ∷ []) (Carry ∷ LoseReply ∷ LoseReply ∷ []) later → ⊥
not_repeated later told =
    let round : List Passage = Carry ∷ LoseReply ∷ [] in
    let second : Answers (LoseReply ∷ []) round LoseReply told.2.0 = subst (λ (left : List Passage). Answers left round LoseReply told.2.0) told.1.1 told.2.1 in
    let third : Answers [] round LoseReply told.2.2.0 = subst (λ (left : List Passage). Answers left round LoseReply told.2.2.0) second.1 told.2.2.1 in
    absurd cc
