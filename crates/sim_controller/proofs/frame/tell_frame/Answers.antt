use Rattle.std.proofs.Common.{ℕ, ◌-◌, List, length, ap, refl, arith}
use Rattle.sim_controller.specs.declared.waiting.TheConstants.{MAX_PACKETS}
use Rattle.sim_controller.specs.Frames.{told_others}
use Rattle.sim_controller.proofs.Pieces.{fits, exceeds, frame_parts, frame_length}
use Rattle.sim_controller.proofs.frame.tell_frame.Goals as goal

pub returns-then-frame-room-clause-room : goal.returns-then-frame-room-clause-room
returns-then-frame-room-clause-room c =
    let whole = frame_length c.args.phone c.args.cut c.args.frame.now c.requires.cut_least c.requires.some in
    let more = exceeds (MAX_PACKETS - c.len-room.result) c.args.cut c.args.frame.now c.requires.cut_least c.if-frame-room.true in
    ((λ e. absurd cc), (λ h. absurd (omega (arith, h, whole, more, c.len-room.ensures.len))))

pub tell_others-requires-clause-room : goal.tell_others-requires-clause-room
tell_others-requires-clause-room c =
    let whole = frame_length c.args.phone c.args.cut c.args.frame.now c.requires.cut_least c.requires.some in
    let below = fits (MAX_PACKETS - c.len-room.result) c.args.cut c.args.frame.now c.requires.cut_least (omega (arith, c.if-frame-room.false)) in
    let parts = ap length (frame_parts c.args.phone c.args.cut c.args.frame.now c.requires.cut_least c.requires.some) in
    let others = ap (λ (octets : List ℕ). length (told_others c.args.phone c.args.cut octets)) c.behind.ensures in
    omega (arith, whole, below, parts, others, c.put.ensures.len, c.len-room.ensures.len, c.requires.within)

pub returns-clause-room : goal.returns-clause-room
returns-clause-room c =
    let whole = frame_length c.args.phone c.args.cut c.args.frame.now c.requires.cut_least c.requires.some in
    let below = fits (MAX_PACKETS - c.len-room.result) c.args.cut c.args.frame.now c.requires.cut_least (omega (arith, c.if-frame-room.false)) in
    ((λ e. omega (arith, whole, below, c.len-room.ensures.len, c.requires.within)), (λ h. refl))
