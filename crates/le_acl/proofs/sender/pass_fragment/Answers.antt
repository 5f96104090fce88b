use Rattle.std.proofs.Common.{◌∙◌, ap, arith}
use Rattle.le_acl.specs.Sending.{queue_of}
use Rattle.le_acl.proofs.Fragments.{passed-last, passed-more}
use Rattle.le_acl.proofs.sender.pass_fragment.Goals as goal

pub returns-then-passed-frame_len-clause-queue : goal.returns-then-passed-frame_len-clause-queue
returns-then-passed-frame_len-clause-queue c =
    ap (queue_of c.args.acl_len 0) c.pop.ensures.pdus
    ∙ passed-last _ _ _ _ c.requires.first c.requires.within c.requires.least (omega (arith, c.if-passed-frame_len.true))

pub returns-else-passed-frame_len-clause-queue : goal.returns-else-passed-frame_len-clause-queue
returns-else-passed-frame_len-clause-queue c =
    passed-more _ _ _ _ c.requires.first c.requires.within c.requires.least (omega (arith, c.if-passed-frame_len.false))
