-- How many answers a session may still take, where each subset is answered Redrive at most so often.
use Rattle.std.specs.Prelude.{ℕ, zero, suc, ◌+◌, List, [], ◌∷◌, length, Bool, true, false}
use Rattle.sql_base.specs.Scripts.{parts_of}
use Rattle.sql_base.specs.declared.scripts.Work.{Work}
use Rattle.sql_base.specs.declared.statements.Statement.{Statement}
use Rattle.dp_messages.specs.declared.replies.Reply.TheVariants as reply
use Rattle.session_grammar.specs.declared.logs.Answer.{Answer}
use Rattle.session_grammar.specs.declared.logs.Answer.TheVariants.{Reply}
use Rattle.session_grammar.specs.Plans.{Asker, plan_of, sents_of}
use Rattle.session_grammar.specs.declared.plans.Sent.{Sent}
use Rattle.session_laws.specs.Scaffold.Machine.{Asks, At, Closes, Doing, Over, Place, Prepares, Stamps, Trying}

-- so many answers, each so often
abbrev pub times : ℕ → ℕ → ℕ
times zero each = 0
times (suc n) each = each + times n each

module _ (r : Asker) (n : ℕ) where
  -- the answers to one request that is redriven at most `spare` times more
  abbrev pub rows_left : ℕ → ℕ → ℕ
  rows_left spare repeats = times spare (r.limits.patience + 1) + repeats + 1

  abbrev pub sents_left : List Sent → ℕ
  sents_left [] = 0
  sents_left (sent ∷ sents) = rows_left n r.limits.patience + sents_left sents

  abbrev pub statements_left : List Statement → ℕ
  statements_left [] = 0
  statements_left (s ∷ statements) = sents_left (sents_of (plan_of r s)) + statements_left statements

  -- an attempt: its requests, then a Prepare and an End for each partition at the most, and the draw
  abbrev pub ending_left : ℕ
  ending_left = parts_of r.tables + parts_of r.tables + 1

  abbrev pub work_left : Work → ℕ
  work_left work = statements_left work.statements + ending_left

  abbrev pub works_left : List Work → ℕ
  works_left [] = 0
  works_left (work ∷ works) = times (r.limits.restart + 1) (work_left work) + works_left works

  -- what may come behind an attempt
  abbrev pub behind_left : Trying → ℕ
  behind_left t = times t.restarts (work_left t.work) + works_left t.works

  abbrev pub doing_left : ℕ → Doing → ℕ
  doing_left spare (Asks subset part ask repeats sents statements) = rows_left spare repeats + sents_left sents + statements_left statements + ending_left
  doing_left spare (Prepares part parts floor) = length parts + 2 + parts_of r.tables
  doing_left spare (Stamps floor) = parts_of r.tables + 1
  doing_left spare (Closes ask part parts locked) = length parts + 1

  -- the open subset may be redriven `spare` times more
  abbrev pub left : ℕ → Place → ℕ
  left spare (At t seen doing) = doing_left spare doing + behind_left t
  left spare Over = 0

  abbrev pub is_redrive : Place → Answer → Bool
  is_redrive (At t seen (Asks true part ask repeats sents statements)) (Reply (reply.Redrive number last cause rows changed)) = true
  is_redrive place answer = false

  abbrev pub is_some : ℕ → Bool
  is_some zero = false
  is_some (suc k) = true

  abbrev pub is_repeat : Place → Answer → Bool
  is_repeat (At t seen (Asks subset part ask repeats sents statements)) (Reply (reply.Locked lock)) = is_some repeats
  is_repeat place answer = false

  -- how often the open subset may be redriven after an answer; `spare` isn't 0 at a redrive
  abbrev pub spare_after : Bool → Bool → ℕ → ℕ
  spare_after true again zero = 0
  spare_after true again (suc spare) = spare
  spare_after false true spare = spare
  spare_after false false spare = n
