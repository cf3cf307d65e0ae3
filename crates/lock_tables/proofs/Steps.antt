-- One byte further on the way down to a prefix.
use Rattle.std.proofs.Common.{◌≡◌, ℕ, zero, suc, ◌+◌, ◌≤◌, ◌<◌, List, [], ◌∷◌, ◌++◌, length, take, filter, Bool, true, false, Some, None, refl, ap, sym, ◌∙◌, subst, eqb, not, arith}
use Rattle.std.specs.Prelude.{find, get_or, nat_eq, slice_get}
use Rattle.std.specs.Option.{option_or}
use Rattle.std.specs.List.{list_any, starts_with}
use Rattle.std.specs.List.Sorted.{IsNonDecreasingBy}
use Rattle.std.proofs.lemmas.Bool.{and_from, and_parts, eq-eqb, or_left}
use Rattle.std.proofs.lemmas.List.{length-take, take_all, take_more}
use Rattle.std.proofs.lemmas.List.Folds.{find-append, list_any-append}
use Rattle.std.proofs.lemmas.Option.{slice_get-get_or}
use Rattle.sql_base.specs.Locks.{conflicts, covers, overlaps, same_txn}
use Rattle.sql_base.specs.declared.lock_names.Lock.{Lock}
use Rattle.sql_base.specs.declared.lock_names.Mode.{Mode}
use Rattle.sql_base.specs.declared.lock_names.TxnName.{TxnName}
use Rattle.lock_tables.specs.Runs.{branch, ends_at, goes_on_by, IsNode}
use Rattle.lock_tables.proofs.Descending.{any-ended, any-going, at-next, find-going, rises}

-- what conflicts overlaps, and what covers is a front
pub conflict-overlaps : (holder : TxnName) (prefix : List ℕ) (mode : Mode) (l : Lock) → conflicts (record { holder = holder; prefix = prefix; mode = mode }) l ≡ true → overlaps prefix l.prefix ≡ true
conflict-overlaps holder prefix mode l h = (and_parts (overlaps prefix l.prefix) _ (and_parts (not (same_txn holder l.holder)) _ h).1).0

pub cover-begins : (wanted l : Lock) → covers l wanted ≡ true → starts_with nat_eq wanted.prefix l.prefix ≡ true
cover-begins wanted l h = (and_parts (starts_with nat_eq wanted.prefix l.prefix) _ (and_parts (same_txn l.holder wanted.holder) _ h).1).0

pub cover-overlaps : (wanted l : Lock) → covers l wanted ≡ true → overlaps wanted.prefix l.prefix ≡ true
cover-overlaps wanted l h = or_left (starts_with nat_eq wanted.prefix l.prefix) (starts_with nat_eq l.prefix wanted.prefix) (cover-begins wanted l h)

-- the first of a front is the first of all
pub find-first : (p : Lock → Bool) (own run : List Lock) → (rest : List Lock) × (run ≡ own ++ rest) → (l : Lock) → Some l ≡ find p own → Some l ≡ find p run
find-first p own run (rest, is) l e = sym (ap (find p) is ∙ find-append p own rest ∙ ap (λ o. option_or o (find p rest)) (sym e))

pub any-first : (p : Lock → Bool) (own run : List Lock) → (rest : List Lock) × (run ≡ own ++ rest) → list_any p own ≡ true → list_any p run ≡ true
any-first p own run (rest, is) h = ap (list_any p) is ∙ list_any-append p own rest ∙ or_left (list_any p own) (list_any p rest) h

front-begins : (n : ℕ) (xs : List ℕ) → starts_with nat_eq xs (take n xs) ≡ true
front-begins zero xs = refl
front-begins (suc n) [] = refl
front-begins (suc n) (x ∷ xs) = and_from (eqb x x) (starts_with nat_eq xs (take n xs)) (eq-eqb x x refl) (front-begins n xs)

long : (prefix : List ℕ) (depth : ℕ) → depth ≤ length prefix → length (take depth prefix) ≡ depth
long prefix depth le = let is = length-take depth prefix in omega (arith, is)

pub rises-at : (prefix : List ℕ) (depth : ℕ) (run : List Lock) → depth ≤ length prefix → IsNode (take depth prefix) run → IsNonDecreasingBy (branch depth) run
rises-at prefix depth run le node = subst (λ n. IsNonDecreasingBy (branch n) run) (long prefix depth le) (rises (take depth prefix) run node)

module _ (prefix : List ℕ) (depth d : ℕ) (run own next : List Lock) (lt : depth < length prefix) (node : IsNode (take depth prefix) run)
    (own_is : own ≡ filter (ends_at depth) run) (next_is : next ≡ filter (goes_on_by depth (get_or prefix depth d)) run) where
  behind : length (take depth prefix) ≡ depth
  behind = long prefix depth (omega (arith, lt))

  here : slice_get prefix (length (take depth prefix)) ≡ Some (get_or prefix depth d)
  here = ap (slice_get prefix) behind ∙ slice_get-get_or prefix depth d lt

  pub node-next : IsNode (take (depth + 1) prefix) next
  node-next =
      let deep = subst (λ n. IsNode (take depth prefix ++ get_or prefix depth d ∷ []) (filter (goes_on_by n (get_or prefix depth d)) run)) behind (at-next (take depth prefix) (get_or prefix depth d) run node) in
      subst (λ p. IsNode p next) (sym (take_more prefix depth d lt)) (subst (IsNode (take depth prefix ++ get_or prefix depth d ∷ [])) (sym next_is) deep)

  pub find-next : (p : Lock → Bool) → ((l : Lock) → p l ≡ true → overlaps prefix l.prefix ≡ true) → find p own ≡ None → find p next ≡ find p run
  find-next p meets none =
      let step = find-going p prefix meets (take depth prefix) (get_or prefix depth d) run (front-begins depth prefix) here node in
      ap (find p) next_is ∙ subst (λ n. find p (filter (ends_at n) run) ≡ None → find p (filter (goes_on_by n (get_or prefix depth d)) run) ≡ find p run) behind step (ap (find p) (sym own_is) ∙ none)

  pub any-next : (p : Lock → Bool) → ((l : Lock) → p l ≡ true → overlaps prefix l.prefix ≡ true) → list_any p own ≡ false → list_any p next ≡ list_any p run
  any-next p meets none =
      let step = any-going p prefix meets (take depth prefix) (get_or prefix depth d) run (front-begins depth prefix) here node in
      ap (list_any p) next_is ∙ subst (λ n. list_any p (filter (ends_at n) run) ≡ false → list_any p (filter (goes_on_by n (get_or prefix depth d)) run) ≡ list_any p run) behind step (ap (list_any p) (sym own_is) ∙ none)

-- at the end of a prefix those that end there have all that it begins with
pub any-last : (p : Lock → Bool) (prefix : List ℕ) (depth : ℕ) (run : List Lock) → ((l : Lock) → p l ≡ true → starts_with nat_eq prefix l.prefix ≡ true) → depth ≡ length prefix → IsNode (take depth prefix) run
    → list_any p (filter (ends_at (length prefix)) run) ≡ list_any p run
any-last p prefix depth run meets all node = any-ended p prefix run meets (subst (λ path. IsNode path run) (ap (λ n. take n prefix) all ∙ take_all (length prefix) prefix (omega arith)) node)
