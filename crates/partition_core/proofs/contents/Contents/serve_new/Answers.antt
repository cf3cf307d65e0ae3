use Rattle.std.proofs.Common.{ap, sym, ◌∙◌, subst, arith}
use Rattle.std.specs.Prelude.{vec_capacity, vec_len}
use Rattle.sql_base.specs.declared.lock_names.TxnName.{TxnName}
use Rattle.dp_messages.specs.declared.requests.Request.{Request}
use Rattle.partition_core.specs.Scaffold.Contents.{Parts, parts_of, state_of, kept_of, IsServing}
use Rattle.partition_core.specs.Scaffold.Changes.{changed, noted_parts}
use Rattle.partition_core.specs.Rooms.{kept_back}
use Rattle.partition_core.proofs.Rooms.{settles-closing, unsettled}
use Rattle.partition_core.proofs.Serving.{IsServing-after, kept-after, served-below}
use Rattle.partition_core.proofs.contents.Contents.serve_new.Goals as goal
use Rattle.sql_base.proofs.Truths.{on_err}

pub returns-clause-ok : goal.returns-clause-ok
returns-clause-ok c =
    let q = parts_of c.args.self.now in
    let t : TxnName = record { session = c.args.opener; ordinal = c.args.request.now.ordinal } in
    let judged = c.in_ok-judged.judged in
    let serving = c.requires.serving in
    let fresh = served-below q c.args.opener c.args.sync serving.seats (serving.eight ∙ sym serving.eight_ended) c.requires.fresh in
    let noted : Request → Parts → Parts = λ request parts. noted_parts parts (record { opener = c.args.opener; sync = c.args.sync; request = request; reply = judged.reply }) in
    let parts = c.note.ensures.parts
    ∙ ap (noted c.in_ok-kept.kept) (c.apply.ensures.state ∙ ap (λ p. changed p t judged.change) c.in_ok-make_room.ensures.same)
    ∙ ap (λ request. noted request (changed q t judged.change)) c.in_ok-kept.ensures.copy in
    ap kept_of parts ∙ kept-after q c.args.opener c.args.sync c.args.request.now judged serving c.requires.opener fresh c.in_ok-judged.ensures.told

pub returns-clause-serving : goal.returns-clause-serving
returns-clause-serving c =
    let q = parts_of c.args.self.now in
    let t : TxnName = record { session = c.args.opener; ordinal = c.args.request.now.ordinal } in
    let judged = c.in_ok-judged.judged in
    let serving = c.requires.serving in
    let fresh = served-below q c.args.opener c.args.sync serving.seats (serving.eight ∙ sym serving.eight_ended) c.requires.fresh in
    let noted : Request → Parts → Parts = λ request parts. noted_parts parts (record { opener = c.args.opener; sync = c.args.sync; request = request; reply = judged.reply }) in
    let parts = c.note.ensures.parts
    ∙ ap (noted c.in_ok-kept.kept) (c.apply.ensures.state ∙ ap (λ p. changed p t judged.change) c.in_ok-make_room.ensures.same)
    ∙ ap (λ request. noted request (changed q t judged.change)) c.in_ok-kept.ensures.copy in
    subst IsServing (sym parts) (IsServing-after q c.args.opener c.args.sync c.args.request.now judged serving c.requires.opener fresh c.in_ok-judged.ensures.told c.in_ok-judged.ensures.fits)

pub note-requires-clause-room : goal.note-requires-clause-room
note-requires-clause-room c =
    let history = c.apply.ensures.history in
    omega (arith, ap vec_len history, ap vec_capacity history, c.in_ok-make_room.ensures.after)

pub returns-clause-room : goal.returns-clause-room
returns-clause-room c =
    let history = c.apply.ensures.history in
    let lives = ap (λ (q : Parts). kept_back q.lives) c.note.ensures.parts ∙ ap (λ (q : Parts). kept_back q.lives) c.apply.ensures.state in
    omega (arith, lives, c.note.ensures.length, c.note.ensures.capacity, ap vec_len history, ap vec_capacity history, c.in_ok-make_room.ensures.after)

pub returns-in_err-make_room-clause-serving : goal.returns-in_err-make_room-clause-serving
returns-in_err-make_room-clause-serving c = subst IsServing (sym c.in_err-make_room.ensures.same) c.requires.serving

pub returns-in_err-kept-clause-settled : goal.returns-in_err-kept-clause-settled
returns-in_err-kept-clause-settled c =
    let t : TxnName = record { session = c.args.opener; ordinal = c.args.request.now.ordinal } in
    on_err c.from_residual-in_err-kept.result (settles-closing (state_of (parts_of c.args.self.now)) t c.args.request.now.ask c.in_err-kept.ensures.closing)

pub returns-in_err-make_room-clause-settled : goal.returns-in_err-make_room-clause-settled
returns-in_err-make_room-clause-settled c =
    let t : TxnName = record { session = c.args.opener; ordinal = c.args.request.now.ordinal } in
    on_err c.from_residual-in_err-make_room.result (unsettled (state_of (parts_of c.args.self.now)) t c.args.request.now.ask c.in_ok-judged.judged.change c.in_ok-judged.ensures.settled c.in_err-make_room.ensures.err)
