use Rattle.std.proofs.Common.{◌≡◌, true, ap, sym, ◌∙◌}
use Rattle.std.specs.Prelude.{is_some}
use Rattle.std.specs.Option.{option_and_then, option_map}
use Rattle.std.proofs.lemmas.Bool.{OnTrue_at, OnTrue_from}
use Rattle.gatt_host.proofs.owing.Firsts.{first_packet, found_at, found_changed, found_passes, no_packet, none_changed}
use Rattle.host_connections.specs.Commands.{gives, slot_packet, slot_without_packet}
use Rattle.gatt_host.proofs.going_out.packet_out.Goals as goal

pub returns-in_default-clause-after : goal.returns-in_default-clause-after
returns-in_default-clause-after c =
    c.first_that_gives.ensures.unchanged
    ∙ sym (none_changed gives (option_map slot_without_packet) c.args.slots.now (sym c.first_that_gives.ensures.place ∙ c.in_default.is))

pub returns-in_default-clause-some : goal.returns-in_default-clause-some
returns-in_default-clause-some c = sym (ap is_some (no_packet c.args.slots.now (sym c.first_that_gives.ensures.place ∙ c.in_default.is)))

pub returns-clause-some : goal.returns-clause-some
returns-clause-some c =
    let slots = c.args.slots.now in
    let first = c.first_that_gives in
    let at = sym first.ensures.place ∙ c.in-Some.is in
    let is : c.next_packet.result ≡ true = c.next_packet.ensures.gives ∙ found_passes gives slots first.new.self first.ensures.unchanged c.in-Some.place at in
    is
    ∙ sym (ap is_some (first_packet slots c.in-Some.place _ at
    ∙ ap (option_and_then slot_packet) (sym (found_at gives slots first.new.self first.ensures.unchanged c.in-Some.place at))
    ∙ OnTrue_at is c.next_packet.ensures.packet))

pub returns-clause-octets : goal.returns-clause-octets
returns-clause-octets c =
    let slots = c.args.slots.now in
    let first = c.first_that_gives in
    let at = sym first.ensures.place ∙ c.in-Some.is in
    OnTrue_from _ _ (λ is.
    first_packet slots c.in-Some.place _ at
    ∙ ap (option_and_then slot_packet) (sym (found_at gives slots first.new.self first.ensures.unchanged c.in-Some.place at))
    ∙ OnTrue_at is c.next_packet.ensures.packet)

pub returns-clause-after : goal.returns-clause-after
returns-clause-after c =
    let slots = c.args.slots.now in
    let first = c.first_that_gives in
    let at = sym first.ensures.place ∙ c.in-Some.is in
    let is : c.next_packet.result ≡ true = c.next_packet.ensures.gives ∙ found_passes gives slots first.new.self first.ensures.unchanged c.in-Some.place at in
    OnTrue_at is c.next_packet.ensures.after ∙ found_changed gives slots first.new.self first.ensures.unchanged c.in-Some.place at slot_without_packet
