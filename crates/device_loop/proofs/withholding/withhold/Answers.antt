use Rattle.device_loop.proofs.Packets.{cut_into_packets}
use Rattle.device_loop.proofs.withholding.withhold.Goals as goal

pub returns-clause-packets : goal.returns-clause-packets
returns-clause-packets c = cut_into_packets
