use Rattle.std.proofs.Common.{◌≡◌, ◌++◌, ◌∷◌, [], ℕ, List, ap, ◌∙◌, append_assoc}
use Rattle.std.specs.Prelude.{codes, count_by, length}
use Rattle.record_text.specs.Summary.{is_aborted, is_committed, is_rolled_back, named, outcomes}
use Rattle.record_text.proofs.summing.put_attempts.Goals as goal

-- five pieces one after the other
behind : (out a b c d e : List ℕ) → out ++ a ++ b ++ c ++ d ++ e ≡ out ++ (a ++ b ++ c ++ d ++ e)
behind out a b c d e = simp append_assoc

pub returns : goal.returns
returns c =
    let out = c.args.out.now.items in
    let ended = outcomes c.args.shown.now in
    let all = named (codes "TXNS") (length ended) in
    let committed = named (codes " COMMITTED") (count_by is_committed ended) in
    let rolled_back = named (codes " ROLLEDBACK") (count_by is_rolled_back ended) in
    let aborted = named (codes " ABORTED") (count_by is_aborted ended) in
    let first : c.put_named.new.out.items ≡ out ++ all = c.in_ok-put_named.ensures ∙ ap (λ n. out ++ named (codes "TXNS") n) c.attempts.ensures in
    let second : c.put_named-2.new.out.items ≡ out ++ all ++ committed = c.in_ok-put_named-2.ensures ∙ (λ i. first i ++ named (codes " COMMITTED") (c.committed.ensures i)) in
    let third : c.put_named-3.new.out.items ≡ out ++ all ++ committed ++ rolled_back = c.in_ok-put_named-3.ensures ∙ (λ i. second i ++ named (codes " ROLLEDBACK") (c.rolled_back.ensures i)) in
    let fourth : c.put_named-4.new.out.items ≡ out ++ all ++ committed ++ rolled_back ++ aborted = c.in_ok-put_named-4.ensures ∙ (λ i. third i ++ named (codes " ABORTED") (c.aborted.ensures i)) in
    c.in_ok-push.ensures.items ∙ ap (λ xs. xs ++ 10 ∷ []) fourth ∙ behind out all committed rolled_back aborted (10 ∷ [])
