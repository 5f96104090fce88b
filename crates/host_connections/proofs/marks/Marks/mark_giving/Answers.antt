use Rattle.std.proofs.Common.{refl}
use Rattle.host_connections.proofs.Covering.{covered_still, marked_off, marked_on}
use Rattle.host_connections.specs.declared.places.Due.TheVariants.{Value}
use Rattle.host_connections.proofs.marks.Marks.mark_giving.Goals as goal

pub returns-then-giving : goal.returns-then-giving
returns-then-giving c = λ slots slot within marked goes listens giving.
    marked_on slots c.args.place slot c.args.self.now
    (record {
      commands = c.args.self.now.commands;
      packets = c.add.new.self;
      listening = c.args.self.now.listening;
      waiting = c.args.self.now.waiting;
      free = c.args.self.now.free;
    })
    marked c.add.ensures.added c.add.ensures.others refl refl refl goes
    (covered_still Value c.args.self.now.listening.bits slots c.args.place slot marked.listening listens)

pub returns-else-giving : goal.returns-else-giving
returns-else-giving c = λ slots slot within marked goes listens giving.
    marked_off slots c.args.place slot c.args.self.now
    (record {
      commands = c.args.self.now.commands;
      packets = c.remove.new.self;
      listening = c.args.self.now.listening;
      waiting = c.args.self.now.waiting;
      free = c.args.self.now.free;
    })
    within marked (giving c.if-giving.false) c.remove.ensures.others refl refl refl goes
    (covered_still Value c.args.self.now.listening.bits slots c.args.place slot marked.listening listens)
