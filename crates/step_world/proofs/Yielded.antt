-- The items that a loop has taken, one after the other.
use Rattle.std.proofs.Common.{◌≡◌, suc, List, [], ◌∷◌, ◌++◌, length, sym, ap, ◌∙◌}
use Rattle.std.proofs.lemmas.List.{length-map, map-append}
use Rattle.step_world.specs.Runs.{AreSeated, new_seat}
use Rattle.step_world.specs.declared.seats.Seat.{Seat}
use Rattle.requester_fs.proofs.Lists.{each_more}

-- one more requester is seated
pub seated_more : {Q : Type 0} (requesters : List Q) (seats : List (Seat Q)) (q : Q) → AreSeated requesters seats
    → AreSeated (requesters ++ q ∷ []) (seats ++ new_seat (suc (length requesters)) q ∷ [])
seated_more {Q} requesters seats q seated =
    let many : length seats ≡ length requesters = sym (length-map seats (λ (s : Seat Q). s.requester)) ∙ ap length seated.same in
    record {
      same = map-append (λ (s : Seat Q). s.requester) seats (new_seat (suc (length requesters)) q ∷ []) ∙ ap (λ qs. qs ++ q ∷ []) seated.same;
      each = each_more (λ at s. s ≡ new_seat (suc at) s.requester) seats (new_seat (suc (length requesters)) q) seated.each (ap (λ n. new_seat (suc n) q) (sym many));
    }
