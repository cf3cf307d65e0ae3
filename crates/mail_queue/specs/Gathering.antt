-- What the gathered tokens of a mail tell.
use Rattle.std.specs.Prelude.{ℕ, List}
use Rattle.std.specs.List.{flat_map}
use Rattle.mail_queue.specs.Messages.{HasNumbers}
use Rattle.mail_queue.specs.Tokens.{MailId, PosterToken, TakerToken}

-- what all these posters posted, and what all these takers took
abbrev pub posted_by : List PosterToken → List (List ℕ)
posted_by posters = flat_map (λ poster. poster.posted) posters

abbrev pub taken_by : List TakerToken → List (List ℕ)
taken_by takers = flat_map (λ taker. taker.taken) takers

-- the tokens of all numbers that the mail was made with are there
pub record IsComplete (mail : MailId) (posters : List PosterToken) (takers : List TakerToken) : Type 0 where
  pub all_posters : HasNumbers (λ poster. poster.number) mail.posters posters
  pub all_takers : HasNumbers (λ taker. taker.number) mail.takers takers
