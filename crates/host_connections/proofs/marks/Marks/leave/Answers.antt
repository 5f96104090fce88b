use Rattle.std.proofs.Common.{None, arith}
use Rattle.std.proofs.lemmas.List.{length-set}
use Rattle.host_connections.proofs.Covering.{covered_still}
use Rattle.host_connections.specs.declared.places.Due.TheVariants.{Command, Packet, Value, Indication}
use Rattle.host_connections.proofs.marks.Marks.leave.Goals as goal

pub returns : goal.returns
returns c = λ slots place marked.
    let old = c.args.self.now in
    record {
      few = omega (arith, marked.few, length-set slots place None);
      commands = covered_still Command old.commands.bits slots place None marked.commands (λ is. cc is);
      packets = covered_still Packet old.packets.bits slots place None marked.packets (λ is. cc is);
      listening = covered_still Value old.listening.bits slots place None marked.listening (λ is. cc is);
      waiting = covered_still Indication old.waiting.bits slots place None marked.waiting (λ is. cc is);
      free = λ none. cc none;
    }
