use Rattle.std.proofs.Common.{sym, ◌∙◌}
use Rattle.host_connections.proofs.Covering.{covered_still, covered_with}
use Rattle.host_connections.proofs.Found.{clash}
use Rattle.host_connections.specs.declared.places.Due.TheVariants.{Packet, Indication}
use Rattle.host_connections.proofs.event_end.HeardPlaces.take.Goals as goal

pub returns-then-told : goal.returns-then-told
returns-then-told c = λ slots slot covers given waits idle.
    let old = c.args.self.now in
    record {
      packets = covered_with Packet old.packets.bits c.add.new.self.bits slots c.args.place slot covers.packets c.add.ensures.added c.add.ensures.others;
      waiting = covered_still Indication old.waiting.bits slots c.args.place slot covers.waiting (λ is. sym (waits c.if-told.true) ∙ is);
    }

pub returns-then-waiting : goal.returns-then-waiting
returns-then-waiting c = λ slots slot covers given waits idle.
    let old = c.args.self.now in
    let new = c.add-then-waiting in
    record {
      packets = covered_still Packet old.packets.bits slots c.args.place slot covers.packets (λ is. sym (given c.if-told.false) ∙ is);
      waiting = covered_with Indication old.waiting.bits new.new.self.bits slots c.args.place slot covers.waiting new.ensures.added new.ensures.others;
    }

pub returns-else-waiting : goal.returns-else-waiting
returns-else-waiting c = λ slots slot covers given waits idle.
    let old = c.args.self.now in
    record {
      packets = covered_still Packet old.packets.bits slots c.args.place slot covers.packets (λ is. sym (given c.if-told.false) ∙ is);
      waiting = covered_still Indication old.waiting.bits slots c.args.place slot covers.waiting (λ is. clash is (idle c.if-waiting.false));
    }
