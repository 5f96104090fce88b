use Rattle.std.proofs.Common.{rules, ap, ◌∙◌}
use Rattle.std.specs.Int.{w128, from_le_bytes}
use Rattle.att_pdu.proofs.LongUuid.{long_spelled}
use Rattle.att_pdu.proofs.uuid.Uuid.read.Goals as goal

pub returns-in-Ok-clause-spelled : goal.returns-in-Ok-clause-spelled
returns-in-Ok-clause-spelled c =
    long_spelled c.args.octets.now _ c.in-Ok.ensures.1.long (search rules)
    (c.from_le_bytes-in-Ok.ensures ∙ ap (from_le_bytes w128) c.in-Ok.ensures.1.same)
