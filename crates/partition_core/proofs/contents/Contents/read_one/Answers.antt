use Rattle.std.proofs.Common.{◌≤◌, length, ap, sym, ◌∙◌, subst, arith}
use Rattle.std.proofs.lemmas.Result.{IfOk-weaker}
use Rattle.partition_core.specs.Scaffold.Changes.{IsFitting, granule_wanted, tells}
use Rattle.partition_core.specs.Scaffold.Contents.{parts_of, state_of}
use Rattle.partition_core.specs.Scaffold.Firsts.{IsFirst, key_change, key_reply}
use Rattle.partition_core.specs.declared.begins.First.TheVariants.{Barred, Walked}
use Rattle.subset_blocks.specs.declared.Block.{Block}
use Rattle.quantum_core.specs.declared.works.SetWork.{SetWork}
use Rattle.partition_core.proofs.SingleKeys.{single-ends}
use Rattle.partition_core.proofs.Told.{BlockIs, Ends, first_block, key-barred, key-fits, key-told, key-walked, told-by}
use Rattle.partition_core.proofs.contents.Contents.read_one.Goals as goal
use Rattle.quantum_runner.proofs.Walking.{if_both}

pub returns-in-Barred-clause-told : goal.returns-in-Barred-clause-told
returns-in-Barred-clause-told c =
    let p = state_of (parts_of c.args.self.now) in
    let t = c.args.t in
    let key = c.args.key.now in
    let block = c.in_ok-block.block in
    let lock = c.in-Barred.lock in
    let is : BlockIs t c.args.access (record { low = key; high = key }) c.args.work block = c.in_ok-block.ensures ∙ ap (first_block t c.args.access c.args.work) c.in_ok-range.ensures in
    let bars = subst (λ g. IsFirst p block g (Barred lock)) c.in_ok-granule.ensures (subst (IsFirst p block c.in_ok-granule.granule) c.in-Barred.is c.in_ok-lock.ensures) in
    key-told p t c.args.access key c.args.work block c.begun.result is (ap (tells p block.holder) c.begun.ensures ∙ key-barred p block key lock bars)

pub after_key-requires : goal.after_key-requires
after_key-requires c = λ last cause rows changed e.
    let p = state_of (parts_of c.args.self.now) in
    let t = c.args.t in
    let key = c.args.key.now in
    let block = c.in_ok-block.block in
    let walk = c.in-Walked.walk in
    let is : BlockIs t c.args.access (record { low = key; high = key }) c.args.work block = c.in_ok-block.ensures ∙ ap (first_block t c.args.access c.args.work) c.in_ok-range.ensures in
    let first = subst (IsFirst p block c.in_ok-granule.granule) c.in-Walked.is c.in_ok-lock.ensures in
    single-ends p.limits p.table p.cells p.locks block key (ap (λ (b : Block SetWork). b.start) is) (ap (λ (b : Block SetWork). b.high) is) c.requires.serving.keeps.cells.rise last cause rows changed (sym first.1.reply ∙ e)

pub returns-clause-told : goal.returns-clause-told
returns-clause-told c =
    let p = state_of (parts_of c.args.self.now) in
    let t = c.args.t in
    let key = c.args.key.now in
    let block = c.in_ok-block.block in
    let walk = c.in-Walked.walk in
    let is : BlockIs t c.args.access (record { low = key; high = key }) c.args.work block = c.in_ok-block.ensures ∙ ap (first_block t c.args.access c.args.work) c.in_ok-range.ensures in
    let first = subst (λ g. IsFirst p block g (Walked walk)) c.in_ok-granule.ensures (subst (IsFirst p block c.in_ok-granule.granule) c.in-Walked.is c.in_ok-lock.ensures) in
    let rise = c.requires.serving.keeps.cells.rise in
    let ends : Ends walk.reply = λ last cause rows changed e.
    single-ends p.limits p.table p.cells p.locks block key (ap (λ (b : Block SetWork). b.start) is) (ap (λ (b : Block SetWork). b.high) is) rise last cause rows changed (sym first.1.reply ∙ e) in
    let walked = key-walked p block key walk rise first.1 first.0 ends in
    if_both c.after_key.result _ _ _
    (λ j reply change. key-told p t c.args.access key c.args.work block j is
    (told-by p block.holder j (key_reply walk.reply) (key_change (granule_wanted block key block.access) walk) reply (change ∙ ap (λ g. key_change (granule_wanted block g block.access) walk) c.in_ok-granule.ensures) ∙ walked))
    c.after_key.ensures.reply c.after_key.ensures.change

pub returns-clause-fits : goal.returns-clause-fits
returns-clause-fits c =
    let q = parts_of c.args.self.now in
    let block = c.in_ok-block.block in
    let walk = c.in-Walked.walk in
    let first = subst (IsFirst (state_of q) block c.in_ok-granule.granule) c.in-Walked.is c.in_ok-lock.ensures in
    let limits = c.requires.serving.formed.limits in
    let few : length walk.plans ≤ 1000 = omega (arith, first.1.few, limits.quantum.1) in
    IfOk-weaker c.after_key.result _ _ (λ j change. subst (IsFitting q) (sym change) (key-fits q (granule_wanted block c.in_ok-granule.granule block.access) walk.plans walk.reply few)) c.after_key.ensures.change
