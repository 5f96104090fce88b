-- What a connection has said is left by all that happens to others.
use Rattle.std.proofs.Common.{◌≡◌, ℕ, ◌+◌, Bool, true, false, List, length, None, refl, ap, ◌∙◌}
use Rattle.std.specs.Prelude.{is_some, nat_lt, if◌then◌else◌}
use Rattle.att_numbers.specs.Types.{Handle}
use Rattle.gatt_laws.specs.machine.Controller.{command_of_init, count_before, without_command}
use Rattle.gatt_laws.specs.machine.Heard.{after_hearing}
use Rattle.gatt_laws.specs.laws.OwnQueues.{LeavesOthersPrepared}
use Rattle.gatt_laws.specs.machine.ConnectionState.{ConnectionState, is_live}
use Rattle.gatt_laws.specs.machine.SharedState.{SharedState, Bonds, share_of, fragment_size_of}
use Rattle.gatt_laws.specs.machine.State.{Change, own_change, change_of, finished, connections_finished, step}
use Rattle.le_acl.specs.History.{packets_allowed}
use Rattle.gatt_laws.specs.machine.Effect.{effect_of}

given-said : (connection : ConnectionState) (given : ℕ) (live : Bool) → (if live then record connection { given = given } else connection).said
    ≡ connection.said
given-said connection given true = refl
given-said connection given false = refl

finished-said : (shared : SharedState) (bonds : Bonds) (handles : List Handle) (connection : ConnectionState) → (finished shared bonds handles connection).said
    ≡ connection.said
unfolding after_hearing
finished-said shared bonds handles connection =
    let heard : ConnectionState = after_hearing shared (bonds connection.peer) handles connection in
    given-said heard (packets_allowed (share_of shared.slots shared.buffers) (fragment_size_of shared.buffers) heard.pdus heard.done) (is_live heard.mark)

sent-said : (connection : ConnectionState) (sent : Bool) → (if sent then without_command connection else connection).said ≡ connection.said
sent-said connection true =
    elim (is_some connection.reason) as (λ (has : Bool). (if has then record connection { reason = None } else record connection { reply = None }).said
    ≡ connection.said) [ true ↦ refl | false ↦ refl ]
sent-said connection false = refl

pub leaves_others_prepared : LeavesOthersPrepared
unfolding step change_of
leaves_others_prepared state ordinal other own differs =
    let change : Change = own_change state ordinal own in
    sent-said (connections_finished change other)
    (nat_lt (length (command_of_init change.state.controller) + count_before other (connections_finished change) change.state.slots)
    change.state.controller.credit)
    ∙ finished-said change.state.shared change.state.bonds (change.to_notify other) (change.state.connections other)
    ∙ ap (λ (same : Bool).
    (if same
    then (effect_of state.shared (state.bonds (state.connections ordinal).peer) (state.owed (state.connections ordinal).peer) (state.connections ordinal)
    own).connection else state.connections other).said) differs
