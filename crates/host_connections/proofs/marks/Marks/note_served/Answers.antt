use Rattle.std.proofs.Common.{refl}
use Rattle.host_connections.proofs.Covering.{covered_with, marked_off, marked_on}
use Rattle.host_connections.specs.declared.places.Due.TheVariants.{Value}
use Rattle.host_connections.proofs.marks.Marks.note_served.Goals as goal

pub returns-then-giving : goal.returns-then-giving
returns-then-giving c = λ slots slot within marked goes giving.
    let old = c.args.self.now in
    marked_on slots c.args.place slot old
    (record { commands = old.commands; packets = c.add.new.self; listening = c.add-then-giving.new.self; waiting = old.waiting; free = old.free })
    marked c.add.ensures.added c.add.ensures.others refl refl refl (goes c.if-ended.false)
    (covered_with Value old.listening.bits c.add-then-giving.new.self.bits slots c.args.place slot marked.listening c.add-then-giving.ensures.added
    c.add-then-giving.ensures.others)

pub returns-else-giving : goal.returns-else-giving
returns-else-giving c = λ slots slot within marked goes giving.
    let old = c.args.self.now in
    marked_off slots c.args.place slot old
    (record { commands = old.commands; packets = old.packets; listening = c.add-else-giving.new.self; waiting = old.waiting; free = old.free })
    within marked (giving c.if-giving.false) (λ other below apart. refl) refl refl refl (goes c.if-ended.false)
    (covered_with Value old.listening.bits c.add-else-giving.new.self.bits slots c.args.place slot marked.listening c.add-else-giving.ensures.added
    c.add-else-giving.ensures.others)
