use Rattle.record_text.proofs.trying.+push_tries.Given as goal

-- fewer attempts may follow
abbrev pub decreases-push_tries : goal.decreases-push_tries
decreases-push_tries l = l.more
