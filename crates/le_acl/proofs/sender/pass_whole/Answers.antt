use Rattle.std.proofs.Common.{◌∙◌, ap}
use Rattle.le_acl.specs.Sending.{queue_of}
use Rattle.le_acl.proofs.Fragments.{passed_whole}
use Rattle.le_acl.proofs.sender.pass_whole.Goals as goal

pub returns-clause-queue : goal.returns-clause-queue
returns-clause-queue c =
    ap (queue_of c.args.acl_len c.args.gone) c.pop.ensures.pdus
    ∙ passed_whole c.args.acl_len c.args.gone c.args.frame_len c.args.pdus.now.pdus c.requires.gone c.requires.first c.requires.within c.requires.least
    c.requires.whole
