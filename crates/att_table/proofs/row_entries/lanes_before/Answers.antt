use Rattle.std.proofs.Common.{◌==◌, sym, ◌∙◌, ap, arith, w16}
use Rattle.std.proofs.lemmas.Simd.{length-chunk, bitmask_splat, leading_from_mask_l, trailing_mask_l}
use lib.Lanes.{chunk}
use Rattle.att_table.proofs.row_entries.lanes_before.Goals as goal

pub returns-then-mask-eq0 : goal.returns-then-mask-eq0
returns-then-mask-eq0 c =
    let lanes = chunk c.args.at 32 c.args.handles.now in
    let long = length-chunk c.args.at 32 c.args.handles.now c.requires in
    let mask = bitmask_splat w16 (λ own other. own == other) lanes 32 c.args.handle long (omega arith) in
    sym (leading_from_mask_l (λ own. own == c.args.handle) lanes (sym mask ∙ c.if-mask-eq0.true) ∙ long)

pub returns-else-mask-eq0 : goal.returns-else-mask-eq0
returns-else-mask-eq0 c =
    let lanes = chunk c.args.at 32 c.args.handles.now in
    let long = length-chunk c.args.at 32 c.args.handles.now c.requires in
    let mask = bitmask_splat w16 (λ own other. own == other) lanes 32 c.args.handle long (omega arith) in
    ap (lib.Count.count_trailing_zeros 64) mask ∙ trailing_mask_l (λ own. own == c.args.handle) 64 lanes (omega (arith, long))
    (omega (arith, mask, c.if-mask-eq0.false))
