-- The front of known bytes, where a limit or the end was reached.
use Rattle.std.proofs.Common.{◌≡◌, ℕ, ◌+◌, ◌≤◌, List, ◌++◌, Option, Some, None, IfSome, length, take, drop, sym, ap, ◌∙◌, subst, append-nil}
use Rattle.std.proofs.Math.Seq.{take-append_seam, drop-append_seam, take-add}
use Rattle.std.proofs.lemmas.List.{take_all, drop_all, take-take}
use Rattle.std.proofs.KnownBytes.{Appends-trans, Consumes-trans}
use Rattle.std.specs.Io.KnownBytes.{Consumes, IsAtEnd, Appends}

-- a source that gave as many bytes as the limit gave the front of what was left
pub front_at_limit : (before after : Option (List ℕ)) (bytes : List ℕ) (limit : ℕ)
    → Consumes before after bytes → length bytes ≡ limit → IfSome before (λ left. bytes ≡ take limit left)
front_at_limit None after bytes limit given full = tt
front_at_limit (Some left) None bytes limit given full = absurd given
front_at_limit (Some left) (Some rest) bytes limit given full =
    sym (ap (take limit) given ∙ ap (λ n. take n (bytes ++ rest)) (sym full) ∙ take-append_seam bytes rest)

-- and what it has left is the rest
pub rest_at_limit : (before after : Option (List ℕ)) (bytes : List ℕ) (limit : ℕ)
    → Consumes before after bytes → length bytes ≡ limit → IfSome before (λ left. after ≡ Some (drop limit left))
rest_at_limit None after bytes limit given full = tt
rest_at_limit (Some left) None bytes limit given full = absurd given
rest_at_limit (Some left) (Some rest) bytes limit given full =
    ap Some (sym (ap (drop limit) given ∙ ap (λ n. drop n (bytes ++ rest)) (sym full) ∙ drop-append_seam bytes rest))

-- a source at its end gave all that was left
pub front_at_end : (before after : Option (List ℕ)) (bytes : List ℕ) (limit : ℕ)
    → Consumes before after bytes → IsAtEnd after → length bytes ≤ limit → IfSome before (λ left. bytes ≡ take limit left)
front_at_end None after bytes limit given end within = tt
front_at_end (Some left) None bytes limit given end within = absurd given
front_at_end (Some left) (Some rest) bytes limit given end within =
    let all : left ≡ bytes = given ∙ ap (λ l. bytes ++ l) end ∙ append-nil bytes in
    sym (ap (take limit) all ∙ take_all limit bytes within)

-- and has nothing left
pub rest_at_end : (before after : Option (List ℕ)) (bytes : List ℕ) (limit : ℕ)
    → Consumes before after bytes → IsAtEnd after → length bytes ≤ limit → IfSome before (λ left. after ≡ Some (drop limit left))
rest_at_end None after bytes limit given end within = tt
rest_at_end (Some left) None bytes limit given end within = absurd given
rest_at_end (Some left) (Some rest) bytes limit given end within =
    let all : left ≡ bytes = given ∙ ap (λ l. bytes ++ l) end ∙ append-nil bytes in
    ap Some (end ∙ sym (ap (drop limit) all ∙ drop_all limit bytes within))

-- a read that gave no byte consumed none
pub given_none : (before between after : Option (List ℕ)) (bytes piece : List ℕ) (count : ℕ)
    → Consumes before between bytes → Consumes between after (take count piece) → count ≡ 0 → Consumes before after bytes
given_none before between after bytes piece count first more none =
    subst (Consumes before after) (ap (λ n. bytes ++ take n piece) none ∙ append-nil bytes) (Consumes-trans before between after _ _ first more)

-- a sink that took a front of the bytes, and then more of them, took a longer front
pub front_grows : (before between after : Option (List ℕ)) (bytes rest : List ℕ) (written piece count : ℕ)
    → rest ≡ drop written bytes → count ≤ piece
    → Appends before between (take written bytes) → Appends between after (take count (take piece rest))
    → Appends before after (take (written + count) bytes)
front_grows before between after bytes rest written piece count is_rest within first more =
    let same : take count (take piece rest) ≡ take count (drop written bytes) =
    take-take count piece rest within ∙ ap (take count) is_rest in
    subst (Appends before after) (ap (λ l. take written bytes ++ l) same ∙ sym (take-add written count bytes)) (Appends-trans before between after _ _ first more)
