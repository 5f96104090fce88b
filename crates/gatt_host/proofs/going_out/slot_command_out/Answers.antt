use Rattle.std.proofs.Common.{ap, sym, ◌∙◌}
use Rattle.std.specs.Option.{option_map}
use Rattle.gatt_host.proofs.owing.Firsts.{first_command, found_at, found_changed, found_passes, no_command, none_changed}
use Rattle.host_connections.specs.Commands.{command_due, has_command, slot_without_command}
use Rattle.le_hci.specs.Command.{opcode_of}
use Rattle.gatt_host.proofs.going_out.slot_command_out.Goals as goal

pub command_at_out-requires-clause-due : goal.command_at_out-requires-clause-due
command_at_out-requires-clause-due c =
    let first = c.first_with_command in
    found_passes has_command c.args.slots.now first.new.self first.ensures.unchanged c.in-Some.place (sym first.ensures.place ∙ c.in-Some.is)

pub returns-in-Some-clause-opcode : goal.returns-in-Some-clause-opcode
returns-in-Some-clause-opcode c =
    let first = c.first_with_command in
    let at = sym first.ensures.place ∙ c.in-Some.is in
    c.command_at_out.ensures.opcode
    ∙ sym (ap (option_map opcode_of) (first_command c.args.slots.now c.in-Some.place _ at
    ∙ ap command_due (sym (found_at has_command c.args.slots.now first.new.self first.ensures.unchanged c.in-Some.place at))))

pub returns-in-Some-clause-octets : goal.returns-in-Some-clause-octets
returns-in-Some-clause-octets c = λ command is.
    let first = c.first_with_command in
    let at = sym first.ensures.place ∙ c.in-Some.is in
    c.command_at_out.ensures.octets command
    (ap command_due (found_at has_command c.args.slots.now first.new.self first.ensures.unchanged c.in-Some.place at)
    ∙ sym (first_command c.args.slots.now c.in-Some.place _ at) ∙ is)

pub returns-in-Some-clause-after : goal.returns-in-Some-clause-after
returns-in-Some-clause-after c =
    let first = c.first_with_command in
    c.command_at_out.ensures.after
    ∙ found_changed has_command c.args.slots.now first.new.self first.ensures.unchanged c.in-Some.place (sym first.ensures.place ∙ c.in-Some.is)
    slot_without_command

pub returns-in-None-clause-opcode : goal.returns-in-None-clause-opcode
returns-in-None-clause-opcode c = sym (ap (option_map opcode_of) (no_command c.args.slots.now (sym c.first_with_command.ensures.place ∙ c.in-None.is)))

pub returns-in-None-clause-octets : goal.returns-in-None-clause-octets
returns-in-None-clause-octets c = λ command is. cc (no_command c.args.slots.now (sym c.first_with_command.ensures.place ∙ c.in-None.is), is)

pub returns-in-None-clause-after : goal.returns-in-None-clause-after
returns-in-None-clause-after c =
    c.first_with_command.ensures.unchanged
    ∙ sym (none_changed has_command (option_map slot_without_command) c.args.slots.now (sym c.first_with_command.ensures.place ∙ c.in-None.is))
