-- What contracts see of a mail and of its tokens.
use Rattle.std.specs.Prelude.{ℕ, List, [], ◌∷◌, ◌++◌, Some, false}
use Rattle.atomic_table.specs.Seated.{TableId}
use Rattle.mail_queue.specs.declared.hand.Crew.{Crew}
use Rattle.mail_queue.specs.declared.hand.Hand.{Hand}

-- which mail it is, and for how many posters and takers it was made
pub record MailId : Type 0 where
  pub place : TableId
  pub posters : ℕ
  pub takers : ℕ

-- the right to post, and what was posted by it
pub record PosterToken : Type 0 where
  pub mail : MailId
  pub number : ℕ
  pub posted : List (List ℕ)

-- the right to take, and what was taken by it
pub record TakerToken : Type 0 where
  pub mail : MailId
  pub number : ℕ
  pub taken : List (List ℕ)

abbrev pub crew_of : MailId → Crew
crew_of mail = record { posters = mail.posters; takers = mail.takers }

-- what a poster's token knows
abbrev pub poster_hand : PosterToken → Hand
poster_hand token = record { founds = false; crew = Some (crew_of token.mail); posters = token.number ∷ []; takers = []; posted = token.posted; taken = [] }

-- what a taker's token knows
abbrev pub taker_hand : TakerToken → Hand
taker_hand token = record { founds = false; crew = Some (crew_of token.mail); posters = []; takers = token.number ∷ []; posted = []; taken = token.taken }

-- the tokens as they are made
abbrev pub new_poster : MailId → ℕ → PosterToken
new_poster mail number = record { mail = mail; number = number; posted = [] }

abbrev pub new_taker : MailId → ℕ → TakerToken
new_taker mail number = record { mail = mail; number = number; taken = [] }

-- the token after it posted a message
abbrev pub with_posted : PosterToken → List ℕ → PosterToken
with_posted token message = record token { posted = token.posted ++ message ∷ [] }

-- the token after it took a message
abbrev pub with_taken : TakerToken → List ℕ → TakerToken
with_taken token message = record token { taken = token.taken ++ message ∷ [] }
