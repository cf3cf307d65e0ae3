-- The partitions that an attempt has sent something to are those of its entries.
use Rattle.std.proofs.Common.{◌≡◌, ℕ, List, [], ◌∷◌, Bool, true, false, refl, ap, sym, ◌∙◌, ◌||◌}
use Rattle.std.specs.Prelude.{◌==◌, cond, filter, if◌then◌else◌}
use Rattle.std.specs.List.{list_any, range_with_len}
use Rattle.std.proofs.lemmas.Bool.{eqb-true}
use Rattle.sql_base.specs.Scripts.{parts_of}
use Rattle.session_grammar.specs.declared.logs.LogEntry.{LogEntry}
use Rattle.session_grammar.specs.declared.logs.LogEntry.TheVariants.{Asked, Drew}
use Rattle.session_grammar.specs.Follows.{Attempt, joined, touched}
use Rattle.session_grammar.specs.Plans.{Asker}
use Rattle.session_grammar.specs.Rows.{is_for}
use Rattle.session_laws.specs.Scaffold.Machine.{has_seen, in_order, see}
use Rattle.session_laws.proofs.Leading.{walk}
use Rattle.sql_base.proofs.Truths.{or-false}

seen_same : (p q : ℕ) (seen : List ℕ) (b : Bool) → (p == q) ≡ b → has_seen seen p ≡ true → has_seen seen q ≡ (b || has_seen seen q)
seen_same p q seen true e h = ap (has_seen seen) (sym (eqb-true p q e)) ∙ h
seen_same p q seen false e h = refl

see_by : (p q : ℕ) (seen : List ℕ) (b : Bool) → has_seen seen p ≡ b → has_seen (if b then seen else p ∷ seen) q ≡ ((p == q) || has_seen seen q)
see_by p q seen true h = seen_same p q seen (p == q) refl h
see_by p q seen false h = refl

-- a partition was seen where it is this one, or was seen before
has_see : (p q : ℕ) (seen : List ℕ) → has_seen (see p seen) q ≡ ((p == q) || has_seen seen q)
has_see p q seen = see_by p q seen (has_seen seen p) refl

or_swap : (a b c : Bool) → (a || (b || c)) ≡ ((b || a) || c)
or_swap true true c = refl
or_swap true false c = refl
or_swap false true c = refl
or_swap false false c = refl

has_walked : (q : ℕ) (seen : List ℕ) (es : List LogEntry) → has_seen (walk seen es) q ≡ (list_any (is_for q) es || has_seen seen q)
has_walked q seen [] = refl
has_walked q seen (Asked p s x l a ∷ es) =
    has_walked q (see p seen) es ∙ ap (λ b. list_any (is_for q) es || b) (has_see p q seen) ∙ or_swap (list_any (is_for q) es) (p == q) (has_seen seen q)
has_walked q seen (Drew n f a ∷ es) = has_walked q seen es

filter_same : (f g : ℕ → Bool) → ((x : ℕ) → f x ≡ g x) → (xs : List ℕ) → filter f xs ≡ filter g xs
filter_same f g same [] = refl
filter_same f g same (x ∷ xs) = ap (λ b. cond b (x ∷ filter f xs) (filter f xs)) (same x) ∙ ap (λ ys. cond (g x) (x ∷ ys) ys) (filter_same f g same xs)

-- an attempt has touched just those that its parts have led it to
pub touched_seen : (r : Asker) (a : Attempt) → in_order r (walk [] (joined a.parts)) ≡ touched r a
touched_seen r a =
    filter_same (has_seen (walk [] (joined a.parts))) (λ part. list_any (is_for part) (joined a.parts))
    (λ part. has_walked part [] (joined a.parts) ∙ or-false (list_any (is_for part) (joined a.parts))) (range_with_len 0 (parts_of r.tables))
