-- A journal goes on by one commit: its stamps still rise, and its names differ.
use Rattle.std.proofs.Common.{◌≡◌, ℕ, ◌+◌, List, [], ◌∷◌, ◌++◌, map, Some, None, Bool, true, false, refl, ap, sym, ◌∙◌, subst}
use Rattle.std.proofs.lemmas.Bool.{and_parts, not-true, or_parts}
use Rattle.std.specs.Prelude.{max}
use Rattle.std.specs.List.{AllByRecursion, list_any}
use Rattle.sql_base.specs.Locks.{same_txn}
use Rattle.sql_base.specs.Tables.{all_differ}
use Rattle.sql_base.specs.declared.lock_names.TxnName.{TxnName}
use Rattle.commit_journal.specs.declared.Drawn.{Drawn}
use Rattle.commit_journal.specs.Journal.{StampsRise, drawn_for, last_stamp}

-- the new stamp is the last
pub last_more : (last : ℕ) (journal : List Drawn) (d : Drawn) → last_stamp last (journal ++ d ∷ []) ≡ d.stamp
last_more last [] d = refl
last_more last (x ∷ journal) d = last_more x.stamp journal d

-- the stamps still rise
pub rise_more : (last : ℕ) (journal : List Drawn) (d : Drawn) → StampsRise last journal → d.stamp ≡ max (last_stamp last journal) d.floor + 1 → StampsRise last (journal ++ d ∷ [])
rise_more last [] d h is = (is, tt)
rise_more last (x ∷ journal) d h is = (h.0, rise_more x.stamp journal d h.1 is)

-- where nothing was drawn for a transaction, no name is its own
none_named : (t : TxnName) (journal : List Drawn) → drawn_for t journal ≡ None → AllByRecursion (λ d. same_txn d.name t ≡ false) journal
none_named t [] h = tt
none_named t (d ∷ journal) h = by_test (same_txn d.name t) refl h (λ g. none_named t journal g)
  where
    by_test : (b : Bool) → same_txn d.name t ≡ b → drawn_for t (d ∷ journal) ≡ None → (drawn_for t journal ≡ None → AllByRecursion (λ x. same_txn x.name t ≡ false) journal)
        → (same_txn d.name t ≡ false) × AllByRecursion (λ x. same_txn x.name t ≡ false) journal
    by_test true e is to = let found : Some d ≡ None = rw e at is in absurd (cc found)
    by_test false e is to = let rest : drawn_for t journal ≡ None = rw e at is in (e, to rest)

any_more : (n : TxnName) (ys : List Drawn) (d : Drawn) → same_txn n d.name ≡ false → list_any (same_txn n) (map (λ (y : Drawn). y.name) ys) ≡ false → list_any (same_txn n) (map (λ (y : Drawn). y.name) (ys ++ d ∷ [])) ≡ false
any_more n [] d h g = rw h refl
any_more n (y ∷ ys) d h g = let two = or_parts (same_txn n y.name) (list_any (same_txn n) (map (λ (z : Drawn). z.name) ys)) g in rw two.0 (any_more n ys d h two.1)

differ_more : (d : Drawn) (xs : List Drawn) → all_differ same_txn (map (λ (x : Drawn). x.name) xs) ≡ true → AllByRecursion (λ x. same_txn x.name d.name ≡ false) xs
    → all_differ same_txn (map (λ (x : Drawn). x.name) (xs ++ d ∷ [])) ≡ true
differ_more d [] h none = refl
differ_more d (x ∷ xs) h none =
    let two = and_parts _ _ h in
    let first : list_any (same_txn x.name) (map (λ (y : Drawn). y.name) (xs ++ d ∷ [])) ≡ false = any_more x.name xs d none.0 (not-true _ two.0) in
    rw first (differ_more d xs two.1 none.1)

-- the names still differ
pub once_more : (journal : List Drawn) (d : Drawn) → all_differ same_txn (map (λ (x : Drawn). x.name) journal) ≡ true → drawn_for d.name journal ≡ None
    → all_differ same_txn (map (λ (x : Drawn). x.name) (journal ++ d ∷ [])) ≡ true
once_more journal d once new = differ_more d journal once (none_named d.name journal new)

-- what a journal keeps, with the stamp drawn last
abbrev pub IsJournal : ℕ → List Drawn → Type 0
IsJournal last journal = (last ≡ last_stamp 0 journal) × StampsRise 0 journal × (all_differ same_txn (map (λ (d : Drawn). d.name) journal) ≡ true)

pub drawn_more : (last : ℕ) (journal more : List Drawn) (d : Drawn) → IsJournal last journal → more ≡ journal ++ d ∷ [] → d.stamp ≡ max last d.floor + 1 → drawn_for d.name journal ≡ None → IsJournal d.stamp more
drawn_more last journal more d kept pushed stamp new =
    subst (IsJournal d.stamp) (sym pushed) (sym (last_more 0 journal d), rise_more 0 journal d kept.1 (stamp ∙ ap (λ n. max n d.floor + 1) kept.0), once_more journal d kept.2 new)
