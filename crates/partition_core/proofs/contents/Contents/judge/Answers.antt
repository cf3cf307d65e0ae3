use Rattle.std.proofs.Common.{◌≡◌, ◌<◌, ◌-◌, length, get_or, Some, None, ap, sym, ◌∙◌, arith, rules, not, ◌&&◌}
use Rattle.std.specs.Prelude.{find, option_and_then, ◌==◌}
use Rattle.std.proofs.lemmas.Grind.{common_steps}
use Rattle.sql_base.specs.Locks.{same_txn}
use Rattle.partition_core.specs.Scaffold.Contents.{state_of, parts_of}
use Rattle.partition_core.specs.Scaffold.Changes.{tells}
use Rattle.partition_state.specs.declared.lives.Live.{Live}
use Rattle.partition_core.proofs.Judged.{answered-if, ended-kept, judged-ended, judged-other, not_ended}
use Rattle.partition_core.proofs.Rooms.{settles-alone, settles-new}
use Rattle.partition_core.proofs.contents.Contents.judge.Goals as goal

pub returns-then-t-ended-clause-told : goal.returns-then-t-ended-clause-told
returns-then-t-ended-clause-told c =
    let q = parts_of c.args.self.now in
    let t = c.args.t in
    let within : t.session - 1 < length q.ended = search rules in
    ap (tells (state_of q) t) c.refusal.ensures ∙ judged-ended q t c.args.ask.now 0 (c.requires.serving.eight ∙ sym c.requires.serving.eight_ended) within c.if-t-ended.true

pub returns-then-t-ended-clause-settled : goal.returns-then-t-ended-clause-settled
returns-then-t-ended-clause-settled c = λ s.
    let q = parts_of c.args.self.now in
    let t = c.args.t in
    let within : t.session - 1 < length q.ended = search rules in
    let same = c.requires.serving.eight ∙ sym c.requires.serving.eight_ended in
    absurd (settles-new (state_of q) t c.args.ask.now (get_or q.ended (t.session - 1) 0) c.requires.serving.keeps (ended-kept q t 0 same within) c.if-t-ended.true s)

pub returns-in-Some-clause-settled : goal.returns-in-Some-clause-settled
returns-in-Some-clause-settled c = λ s.
    let q = parts_of c.args.self.now in
    let t = c.args.t in
    let other = sym c.in-Some.is ∙ c.other_live.ensures ∙ ap (find (λ (l : Live). (l.name.session == t.session) && not (l.name.ordinal == t.ordinal))) c.deref.ensures.value in
    absurd (settles-alone (state_of q) t c.args.ask.now c.in-Some.other c.requires.serving.keeps other s)

pub returns-in-Some-clause-told : goal.returns-in-Some-clause-told
returns-in-Some-clause-told c =
    let q = parts_of c.args.self.now in
    let t = c.args.t in
    let within : t.session - 1 < length q.ended = search rules in
    let new = not_ended q t 0 (c.requires.serving.eight ∙ sym c.requires.serving.eight_ended) within c.if-t-ended.false in
    let other = sym c.in-Some.is ∙ c.other_live.ensures ∙ ap (find (λ (l : Live). (l.name.session == t.session) && not (l.name.ordinal == t.ordinal))) c.deref.ensures.value in
    ap (tells (state_of q) t) c.refusal-in-Some.ensures ∙ judged-other (state_of q) t c.args.ask.now _ new other

pub returns-in-Some-floor_of-clause-told : goal.returns-in-Some-floor_of-clause-told
returns-in-Some-floor_of-clause-told c =
    let q = parts_of c.args.self.now in
    let t = c.args.t in
    let within : t.session - 1 < length q.ended = search rules in
    let new = not_ended q t 0 (c.requires.serving.eight ∙ sym c.requires.serving.eight_ended) within c.if-t-ended.false in
    let none : None ≡ c.other_live.result = grind (arith, common_steps) in
    let alone = none ∙ c.other_live.ensures ∙ ap (find (λ (l : Live). (l.name.session == t.session) && not (l.name.ordinal == t.ordinal))) c.deref.ensures.value in
    let floor = sym c.in-Some-floor_of.is ∙ c.floor_of.ensures ∙ ap (λ ls. option_and_then (λ (l : Live). l.floor) (find (λ (l : Live). same_txn l.name t) ls)) c.deref-2.ensures.value in
    answered-if (state_of q) t c.args.ask.now (Some c.in-Some-floor_of.floor) c.judge_prepared.result new alone floor c.judge_prepared.ensures.told

pub returns-in-None-clause-told : goal.returns-in-None-clause-told
returns-in-None-clause-told c =
    let q = parts_of c.args.self.now in
    let t = c.args.t in
    let within : t.session - 1 < length q.ended = search rules in
    let new = not_ended q t 0 (c.requires.serving.eight ∙ sym c.requires.serving.eight_ended) within c.if-t-ended.false in
    let none : None ≡ c.other_live.result = grind (arith, common_steps) in
    let alone = none ∙ c.other_live.ensures ∙ ap (find (λ (l : Live). (l.name.session == t.session) && not (l.name.ordinal == t.ordinal))) c.deref.ensures.value in
    let floor = sym c.in-None.is ∙ c.floor_of.ensures ∙ ap (λ ls. option_and_then (λ (l : Live). l.floor) (find (λ (l : Live). same_txn l.name t) ls)) c.deref-2.ensures.value in
    answered-if (state_of q) t c.args.ask.now None c.judge_kind.result new alone floor c.judge_kind.ensures.told
