use Rattle.std.proofs.Common.{◌≡◌, ℕ, true, IfSome, Option, Some, None, List, take, ap, sym, ◌∙◌}
use Rattle.std.specs.Prelude.{is_some}
use Rattle.std.specs.Option.{option_and_then, option_map}
use Rattle.std.proofs.lemmas.Bool.{OnTrue_at}
use Rattle.gatt_host.proofs.owing.Firsts.{first_packet, found_at, found_changed, found_passes, no_packet, none_changed}
use Rattle.host_connections.specs.Commands.{gives, slot_packet, slot_without_packet}
use Rattle.gatt_host.proofs.going_out.packet_into.Goals as goal

pub returns-in_default-clause-after : goal.returns-in_default-clause-after
returns-in_default-clause-after c =
    c.first_that_gives.ensures.unchanged
    ∙ sym (none_changed gives (option_map slot_without_packet) c.args.slots.now (sym c.first_that_gives.ensures.place ∙ c.in_default.is))

pub returns-in_default-clause-some : goal.returns-in_default-clause-some
returns-in_default-clause-some c = sym (ap is_some (no_packet c.args.slots.now (sym c.first_that_gives.ensures.place ∙ c.in_default.is)))

-- what is written is the packet that is found
same_octets : (given : Option ℕ) (octets : ℕ → List ℕ) (found packet : Option (List ℕ)) → packet ≡ found
    → IfSome given (λ count. found ≡ Some (octets count)) → IfSome given (λ count. packet ≡ Some (octets count))
same_octets (Some count) octets found packet same is = same ∙ is
same_octets None octets found packet same is = is

-- and there is one
some_packet : (given : Option ℕ) (octets : ℕ → List ℕ) (packet : Option (List ℕ)) → is_some given ≡ true
    → IfSome given (λ count. packet ≡ Some (octets count)) → is_some packet ≡ true
some_packet (Some count) octets packet gives is = ap is_some is
some_packet None octets packet gives is = cc gives

pub returns-clause-octets : goal.returns-clause-octets
returns-clause-octets c =
    let slots = c.args.slots.now in
    let first = c.first_that_gives in
    let at = sym first.ensures.place ∙ c.in-Some.is in
    same_octets c.next_into.result (λ count. take count c.next_into.new.out) _ _
    (first_packet slots c.in-Some.place _ at
    ∙ ap (option_and_then slot_packet) (sym (found_at gives slots first.new.self first.ensures.unchanged c.in-Some.place at)))
    c.next_into.ensures.packet

pub returns-clause-some : goal.returns-clause-some
returns-clause-some c =
    let slots = c.args.slots.now in
    let first = c.first_that_gives in
    let at = sym first.ensures.place ∙ c.in-Some.is in
    let is : is_some c.next_into.result ≡ true = c.next_into.ensures.gives ∙ found_passes gives slots first.new.self first.ensures.unchanged c.in-Some.place at
    in
    is
    ∙ sym (some_packet c.next_into.result (λ count. take count c.next_into.new.out) _ is (returns-clause-octets c))

pub returns-clause-after : goal.returns-clause-after
returns-clause-after c =
    let slots = c.args.slots.now in
    let first = c.first_that_gives in
    let at = sym first.ensures.place ∙ c.in-Some.is in
    let is : is_some c.next_into.result ≡ true = c.next_into.ensures.gives ∙ found_passes gives slots first.new.self first.ensures.unchanged c.in-Some.place at
    in
    OnTrue_at is c.next_into.ensures.after ∙ found_changed gives slots first.new.self first.ensures.unchanged c.in-Some.place at slot_without_packet
