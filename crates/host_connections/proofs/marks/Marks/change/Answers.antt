use Rattle.std.proofs.Common.{true}
use Rattle.host_connections.proofs.Covering.{marked_with}
use Rattle.host_connections.proofs.marks.Marks.change.Goals as goal

pub returns : goal.returns
returns c = λ slots slot within marked.
    marked_with slots c.args.place slot c.args.self.now
    (record { commands = c.add.new.self; packets = c.add-2.new.self; listening = c.add-3.new.self; waiting = c.add-4.new.self; free = true })
    marked c.add-2.ensures.added c.add-2.ensures.others c.add.ensures.added c.add.ensures.others c.add-3.ensures.added c.add-3.ensures.others
    c.add-4.ensures.added c.add-4.ensures.others (λ none. cc none)
