-- The journal goes on by one commit.
use Rattle.std.proofs.Common.{◌≡◌, ◌≤◌, ◌<◌, ℕ, zero, suc, ◌+◌, List, [], ◌∷◌, ◌++◌, map, Some, None, Bool, true, false, refl, arith}
use Rattle.std.proofs.lemmas.Bool.{and_parts, not-true, or_parts}
use Rattle.std.specs.Prelude.{find, max, Contains}
use Rattle.std.specs.List.{AllByRecursion, list_any}
use Rattle.sql_base.specs.Locks.{same_txn}
use Rattle.sql_base.specs.Tables.{all_differ}
use Rattle.sql_base.specs.declared.lock_names.TxnName.{TxnName}
use Rattle.commit_journal.specs.declared.Drawn.{Drawn}
use Rattle.run_record.specs.Legal.{StampsOfLogRise}
use Rattle.commit_journal.specs.Journal.{StampsRise}
use Rattle.commit_journal.specs.Journal.{last_stamp}
use Rattle.sql_base.proofs.ListFacts.{all_in}

-- none of them is above the last
up_to_last : (last : ℕ) (journal : List Drawn) → StampsRise last journal → (last ≤ last_stamp last journal) × AllByRecursion (λ d. d.stamp ≤ last_stamp last journal) journal
up_to_last last [] h = (omega arith, tt)
up_to_last last (x ∷ journal) h = let rest = up_to_last x.stamp journal h.1 in (omega (arith, rest.0, h.0), (rest.0, rest.1))

pub below_new : (journal : List Drawn) (d : Drawn) → StampsRise 0 journal → d.stamp ≡ max (last_stamp 0 journal) d.floor + 1 → (x : Drawn) → Contains journal x → x.stamp < d.stamp
below_new journal d h is x is_in = let low = all_in (λ (y : Drawn). y.stamp ≤ last_stamp 0 journal) x journal is_in (up_to_last 0 journal h).1 in omega (arith, low, is)

-- the names still differ
none_named : (t : TxnName) (journal : List Drawn) → find (λ d. same_txn d.name t) journal ≡ None → AllByRecursion (λ d. same_txn d.name t ≡ false) journal
none_named t [] h = tt
none_named t (d ∷ journal) h = by_test (same_txn d.name t) refl h (λ g. none_named t journal g)
  where
    by_test : (b : Bool) → same_txn d.name t ≡ b → find (λ x. same_txn x.name t) (d ∷ journal) ≡ None → (find (λ x. same_txn x.name t) journal ≡ None → AllByRecursion (λ x. same_txn x.name t ≡ false) journal)
        → (same_txn d.name t ≡ false) × AllByRecursion (λ x. same_txn x.name t ≡ false) journal
    by_test true e is to = let found : Some d ≡ None = rw e at is in absurd (cc found)
    by_test false e is to = let rest : find (λ x. same_txn x.name t) journal ≡ None = rw e at is in (e, to rest)

any_more : (n : TxnName) (names : List TxnName) (t : TxnName) → same_txn n t ≡ false → list_any (same_txn n) names ≡ false → list_any (same_txn n) (names ++ t ∷ []) ≡ false
any_more n [] t h g = rw h refl
any_more n (m ∷ names) t h g = let two = or_parts (same_txn n m) (list_any (same_txn n) names) g in rw two.0 (any_more n names t h two.1)

pub once_more : (journal : List Drawn) (d : Drawn) → all_differ same_txn (map (λ (x : Drawn). x.name) journal) ≡ true → find (λ x. same_txn x.name d.name) journal ≡ None
    → all_differ same_txn (map (λ (x : Drawn). x.name) (journal ++ d ∷ [])) ≡ true
once_more journal d once new = of journal once (none_named d.name journal new)
  where
    of : (xs : List Drawn) → all_differ same_txn (map (λ (x : Drawn). x.name) xs) ≡ true → AllByRecursion (λ x. same_txn x.name d.name ≡ false) xs
        → all_differ same_txn (map (λ (x : Drawn). x.name) (xs ++ d ∷ [])) ≡ true
    of [] h none = refl
    of (x ∷ xs) h none =
        let two = and_parts _ _ h in
        let first : list_any (same_txn x.name) (map (λ (y : Drawn). y.name) (xs ++ d ∷ [])) ≡ false = map_any x.name xs none.0 (not-true _ two.0) in
        rw first (of xs two.1 none.1)
      where
        map_any : (n : TxnName) (ys : List Drawn) → same_txn n d.name ≡ false → list_any (same_txn n) (map (λ (y : Drawn). y.name) ys) ≡ false → list_any (same_txn n) (map (λ (y : Drawn). y.name) (ys ++ d ∷ [])) ≡ false
        map_any n [] h g = rw h refl
        map_any n (y ∷ ys) h g = let two = or_parts (same_txn n y.name) (list_any (same_txn n) (map (λ (z : Drawn). z.name) ys)) g in rw two.0 (map_any n ys h two.1)

-- and so do those of one log
pub log_more : (ds : List Drawn) (d : Drawn) → StampsOfLogRise ds → ((x : Drawn) → Contains ds x → x.stamp < d.stamp) → StampsOfLogRise (ds ++ d ∷ [])
log_more [] d h below = tt
log_more (x ∷ []) d h below = (below x (zero, omega arith, refl), tt)
log_more (x ∷ y ∷ ds) d h below = (h.0, log_more (y ∷ ds) d h.1 (λ z is_in. below z (suc is_in.0, omega (arith, is_in.1), is_in.2)))
