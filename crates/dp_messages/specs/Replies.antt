-- What a reply says.
use Rattle.std.specs.Prelude.{Bool, true, false}
use Rattle.dp_messages.specs.declared.replies.Reply.{Reply}
use Rattle.dp_messages.specs.declared.replies.Reply.TheVariants.{Done}

-- the reply says that it was done
abbrev pub is_done : Reply → Bool
is_done Done = true
is_done reply = false
