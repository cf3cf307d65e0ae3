-- Readings in line.
use Rattle.std.proofs.Common.{◌≡◌, List, [], ◌++◌, Option}
use Rattle.sql_base.specs.declared.outcomes.Abort.{Abort}
use Rattle.sql_base.specs.declared.scripts.Work.{Work}
use Rattle.session_grammar.specs.declared.logs.LogEntry.{LogEntry}
use Rattle.session_grammar.specs.Follows.{Attempt, FollowsInLine, IsInLine, Reads}
use Rattle.session_grammar.specs.Plans.{Asker}
use Rattle.session_laws.proofs.Readings.{no_front, one_reading}
use Rattle.session_laws.proofs.Rows.{in_line_same}

module _ (r : Asker) where
  abbrev Anything : Option Abort → List LogEntry → Type 0
  Anything end us = Unit {0}

  -- a log in line has one reading
  pub one_reading-in_line : (works : List Work) (log : List LogEntry) (xs ys : List Attempt) → Reads IsInLine r works log xs → Reads IsInLine r works log ys → xs ≡ ys
  one_reading-in_line =
      one_reading IsInLine r Anything (λ us. tt) (λ work ordinal a end is turns ending us. tt) (λ ordinal s xs ys us vs e f h k t u is. in_line_same r ordinal s xs ys us vs e f h k is)

  -- and isn't the front of another
  pub no_front-in_line : (works : List Work) (log rest : List LogEntry) → FollowsInLine r works log → FollowsInLine r works (log ++ rest) → rest ≡ []
  no_front-in_line works log rest h k =
      no_front IsInLine r Anything (λ us. tt) (λ work ordinal a end is turns ending us. tt) (λ ordinal s xs ys us vs e f p q t u is. in_line_same r ordinal s xs ys us vs e f p q is)
      works log rest h.0 k.0 h.1 k.1
