use Rattle.std.proofs.Common.{arith}
use Rattle.std.proofs.lemmas.List.{length-set}
use Rattle.host_connections.proofs.Covering.{covered_if, covered_still, covered_with, none_with}
use Rattle.host_connections.specs.declared.places.Due.TheVariants.{Command, Packet, Value, Indication}
use Rattle.std.specs.Prelude.{is_none}
use Rattle.host_connections.proofs.marks.Marks.happen.Goals as goal

pub returns : goal.returns
returns c = λ slots slot within marked goes due.
    let old = c.args.self.now in
    let place = c.args.place in
    record {
      few = omega (arith, marked.few, length-set slots place slot);
      commands =
          covered_if Command c.args.commanded old.commands.bits c.add_if.new.self.bits slots place slot marked.commands c.add_if.ensures.added
          c.add_if.ensures.others due;
      packets = covered_with Packet old.packets.bits c.add.new.self.bits slots place slot marked.packets c.add.ensures.added c.add.ensures.others;
      listening = covered_with Value old.listening.bits c.add-2.new.self.bits slots place slot marked.listening c.add-2.ensures.added c.add-2.ensures.others;
      waiting = covered_still Indication old.waiting.bits slots place slot marked.waiting goes.waiting;
      free = λ none. none_with (λ it. is_none it) slot slots place (marked.free none) goes.free;
    }
