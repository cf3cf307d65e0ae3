use Rattle.std.proofs.Common.{◌≡◌, ◌++◌, ◌∷◌, [], List, Ok, Err, ap, sym, subst, ◌∙◌, append_assoc}
use Rattle.std.specs.Prelude.{Result, OnOk}
use Rattle.outside.specs.declared.wire.Passage.{Passage}
use Rattle.outside.specs.declared.wire.Passage.TheVariants.{Repeat}
use Rattle.dp_messages.specs.Spelling.{request_bytes}
use Rattle.step_world.specs.Scaffold.Mails.{copies_of}
use Rattle.step_world.proofs.processes.DiskProcess.post_copies.Goals as goal

twice : {T E X : Type 0} (result : Result T E) (a b d : List X) (m : X) → b ≡ a ++ m ∷ [] → OnOk result (d ≡ b ++ m ∷ []) → OnOk result (d ≡ a ++ m ∷ m ∷ [])
twice (Ok u) a b d m h k = k ∙ ap (λ xs. xs ++ m ∷ []) h ∙ append_assoc a (m ∷ []) (m ∷ [])
twice (Err e) a b d m h k = k

by_passage : {T E X : Type 0} (passage : Passage) → passage ≡ Repeat → (result : Result T E) (a d : List X) (m : X) → OnOk result (d ≡ a ++ m ∷ m ∷ []) → OnOk result (d ≡ a ++ copies_of passage m)
by_passage passage is result a d m h = subst (λ p. OnOk result (d ≡ a ++ copies_of p m)) (sym is) h

pub returns-in_ok-post_one-in-Repeat-clause-mail : goal.returns-in_ok-post_one-in-Repeat-clause-mail
returns-in_ok-post_one-in-Repeat-clause-mail c =
    by_passage c.args.passage c.in-Repeat.is c.post_one-in-Repeat-2.result c.args.self.now.mail c.post_one-in-Repeat-2.new.self.mail (request_bytes c.args.envelope.now) (twice c.post_one-in-Repeat-2.result c.args.self.now.mail c.post_one-in-Repeat.new.self.mail c.post_one-in-Repeat-2.new.self.mail (request_bytes c.args.envelope.now)
    c.in_ok-post_one-in-Repeat.ensures.mail c.post_one-in-Repeat-2.ensures.mail)
