use Rattle.std.proofs.Common.{◌+◌, ◌++◌, ℕ, List, length, take, ◌∙◌, ap, arith}
use Rattle.std.proofs.lemmas.Slice.{take-put_mid}
use Rattle.le_acl.specs.Reassembler.{assembled_of}
use Rattle.le_acl.proofs.reassembler.join.Goals as goal

pub returns-clause-joined : goal.returns-clause-joined
returns-clause-joined c =
    let whole =
    take-put_mid c.args.len.now _ c.args.octets.now c.copy_from_slice.new.self (c.args.len.now + length c.args.fragment.now)
    (omega (arith, c.copy_from_slice.ensures.len, ap length c.copy_from_slice.ensures.after)) (omega (arith, c.requires, c.fits-octets))
    ∙ ap (λ (octets : List ℕ). take c.args.len.now c.args.octets.now ++ octets) c.copy_from_slice.ensures.after in
    c.state_of.ensures ∙ ap assembled_of whole
