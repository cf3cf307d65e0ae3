-- The journal of one session is what its log drew, in its order.
use Rattle.std.proofs.Common.{◌≡◌, ◌<◌, ◌-◌, ℕ, zero, suc, List, [], ◌∷◌, length, None, inl, inr, refl, ap, sym, ◌∙◌, subst, arith}
use Rattle.std.specs.Prelude.{◌⊎◌, Contains, slice_get, unwrap_or}
use Rattle.std.specs.List.{AllByRecursion}
use Rattle.std.proofs.lemmas.Option.{slice_get_past}
use Rattle.commit_journal.specs.Journal.{StampsRise}
use Rattle.commit_journal.specs.declared.Drawn.{Drawn}
use Rattle.run_record.specs.Legal.{StampsDrawn, StampsOfLogRise, drawn_in}
use Rattle.run_record.specs.Openings.{log_of}
use Rattle.run_record.specs.declared.records.RunRecord.{RunRecord}
use Rattle.serial_passes.proofs.Bases.{stamps_above}
use Rattle.run_record.proofs.DrawnLogs.{drawn_by_logs}
use Rattle.sql_base.proofs.ListFacts.{all_in, all_slice, Contains-further, first_or_behind}

-- each stamp is below those behind it
abbrev pub Rising : List Drawn → Type 0
Rising [] = Unit {0}
Rising (d ∷ ds) = AllByRecursion (λ e. d.stamp < e.stamp) ds × Rising ds

journal_rising : (last : ℕ) (ds : List Drawn) → StampsRise last ds → Rising ds
journal_rising last [] h = tt
journal_rising last (d ∷ ds) h = (stamps_above d.stamp ds h.1, journal_rising d.stamp ds h.1)

above_all : (stamp : ℕ) (d : Drawn) (ds : List Drawn) → stamp < d.stamp → StampsOfLogRise (d ∷ ds) → AllByRecursion (λ e. stamp < e.stamp) (d ∷ ds)
above_all stamp d [] h rise = (h, tt)
above_all stamp d (e ∷ ds) h rise = (h, above_all stamp e ds (let next : d.stamp < e.stamp = rise.0 in omega arith) rise.1)

log_rising : (ds : List Drawn) → StampsOfLogRise ds → Rising ds
log_rising [] h = tt
log_rising (d ∷ []) h = (tt, tt)
log_rising (d ∷ e ∷ ds) h = (above_all d.stamp e ds h.0 h.1, log_rising (e ∷ ds) h.1)

-- where an element stands
first_in : (d : Drawn) (ds : List Drawn) → Contains (d ∷ ds) d
first_in d ds = (0, omega arith, refl)

none_in : (e : Drawn) → Contains [] e → ⊥
none_in e c = let below : c.0 < 0 = c.1 in omega arith

above_in : (d e : Drawn) (ds : List Drawn) → AllByRecursion (λ x. d.stamp < x.stamp) ds → Contains ds e → d.stamp < e.stamp
above_in d e ds all c = all_in (λ (x : Drawn). d.stamp < x.stamp) e ds c all

-- two rising lists of the same elements are one
same_rising : (xs ys : List Drawn) → Rising xs → Rising ys → ((d : Drawn) → Contains xs d → Contains ys d) → ((d : Drawn) → Contains ys d → Contains xs d) → xs ≡ ys
same_rising [] [] h k to back = refl
same_rising [] (y ∷ ys) h k to back = absurd (none_in y (back y (first_in y ys)))
same_rising (x ∷ xs) [] h k to back = absurd (none_in x (to x (first_in x xs)))
same_rising (x ∷ xs) (y ∷ ys) h k to back =
    let head : x ≡ y = by_places (first_or_behind y x ys (to x (first_in x xs))) (first_or_behind x y xs (back y (first_in y ys))) in
    let tail = same_rising xs ys h.1 k.1 (λ d c. inner d c (first_or_behind y d ys (to d (Contains-further x d xs c))) head) (λ d c. outer d c (first_or_behind x d xs (back d (Contains-further y d ys c))) head) in
    λ i. head i ∷ tail i
  where
    by_places : (y ≡ x) ⊎ Contains ys x → (x ≡ y) ⊎ Contains xs y → x ≡ y
    by_places (inl same) other = sym same
    by_places (inr c) (inl same) = same
    by_places (inr c) (inr e) = absurd (let a : y.stamp < x.stamp = above_in y x ys k.0 c in let b : x.stamp < y.stamp = above_in x y xs h.0 e in omega arith)

    inner : (d : Drawn) → Contains xs d → (y ≡ d) ⊎ Contains ys d → x ≡ y → Contains ys d
    inner d c (inl same) head = absurd (let a : x.stamp < d.stamp = above_in x d xs h.0 c in let b : x.stamp ≡ d.stamp = ap (λ (z : Drawn). z.stamp) (head ∙ same) in omega arith)
    inner d c (inr e) head = e

    outer : (d : Drawn) → Contains ys d → (x ≡ d) ⊎ Contains xs d → x ≡ y → Contains xs d
    outer d c (inl same) head = absurd (let a : y.stamp < d.stamp = above_in y d ys k.0 c in let b : y.stamp ≡ d.stamp = ap (λ (z : Drawn). z.stamp) (sym head ∙ same) in omega arith)
    outer d c (inr e) head = e

-- with one log, the journal is what it drew
pub journal_is : (kept : RunRecord) → StampsDrawn kept → length kept.logs ≡ 1 → drawn_in (log_of kept 1) ≡ kept.journal
journal_is kept drawn one =
    same_rising (drawn_in (log_of kept 1)) kept.journal
    (log_rising (drawn_in (log_of kept 1)) (all_slice (λ log. StampsOfLogRise (drawn_in log)) [] tt kept.logs 0 drawn.in_order)) (journal_rising 0 kept.journal drawn.rise)
    (λ d c. (drawn_by_logs kept drawn d).1 (1, c)) (λ d c. let h = (drawn_by_logs kept drawn d).0 c in of_log d h.0 h.1)
  where
    of_log : (d : Drawn) (session : ℕ) → Contains (drawn_in (log_of kept session)) d → Contains (drawn_in (log_of kept 1)) d
    of_log d zero c = subst (λ k. Contains (drawn_in (unwrap_or (slice_get kept.logs k) [])) d) (let e : 0 - 1 ≡ 0 = omega arith in e) c
    of_log d (suc zero) c = c
    of_log d (suc (suc n)) c =
        let past : slice_get kept.logs (suc (suc n) - 1) ≡ None = slice_get_past kept.logs (suc (suc n) - 1) (omega arith) in
        absurd (none_in d (subst (λ o. Contains (drawn_in (unwrap_or o [])) d) past c))
