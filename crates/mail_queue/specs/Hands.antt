-- What a token of a mail knows, its hand, and what each step makes of it.
use Rattle.std.specs.Prelude.{ℕ, List, [], ◌∷◌, ◌++◌, drop, take, Option, Some, None, true, false}
use Rattle.std.specs.List.{range_with_len}
use Rattle.mail_queue.specs.declared.hand.Crew.{Crew}
use Rattle.mail_queue.specs.declared.hand.Hand.{Hand}

-- the hand that is to found a mail
abbrev pub first_hand : Hand
first_hand = record { founds = true; crew = None; posters = []; takers = []; posted = []; taken = [] }

-- a hand that has no number
abbrev pub idle_hand : Option Crew → Hand
idle_hand crew = record { founds = false; crew = crew; posters = []; takers = []; posted = []; taken = [] }

-- the hand that has founded a mail, and has every number
abbrev pub founding_hand : Crew → Hand
founding_hand crew = record { founds = false; crew = Some crew; posters = range_with_len 0 crew.posters; takers = range_with_len 0 crew.takers; posted = []; taken = [] }

-- the hand after it gave its first poster's number away, and the hand that got it
abbrev pub without_poster : Hand → Hand
without_poster hand = record hand { posters = drop 1 hand.posters }

abbrev pub next_poster : Hand → Hand
next_poster hand = record { founds = false; crew = hand.crew; posters = take 1 hand.posters; takers = []; posted = []; taken = [] }

-- the same with its first taker's number
abbrev pub without_taker : Hand → Hand
without_taker hand = record hand { takers = drop 1 hand.takers }

abbrev pub next_taker : Hand → Hand
next_taker hand = record { founds = false; crew = hand.crew; posters = []; takers = take 1 hand.takers; posted = []; taken = [] }

-- the hand that has taken another in
abbrev pub both_hands : Hand → Hand → Hand
both_hands hand other = record {
  founds = hand.founds;
  crew = hand.crew;
  posters = hand.posters ++ other.posters;
  takers = hand.takers ++ other.takers;
  posted = hand.posted ++ other.posted;
  taken = hand.taken ++ other.taken;
}

-- the hand after it posted a message
abbrev pub after_post : Hand → List ℕ → Hand
after_post hand message = record hand { posted = hand.posted ++ message ∷ [] }

-- the hand after it took a message
abbrev pub after_take : Hand → List ℕ → Hand
after_take hand message = record hand { taken = hand.taken ++ message ∷ [] }
