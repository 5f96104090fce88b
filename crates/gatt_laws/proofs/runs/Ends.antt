-- What the end of an event leaves of a connection: all but what is queued and given, what waits to be told, and what waits
-- to be commanded.
use Rattle.std.proofs.Common.{◌≡◌, ℕ, ◌+◌, Bool, true, false, List, length, Option, None, refl, ◌∙◌}
use Rattle.std.specs.Prelude.{is_some, nat_lt, if◌then◌else◌}
use Rattle.att_numbers.specs.Types.{Handle}
use Rattle.gatt_laws.specs.machine.Controller.{command_of_init, count_before, without_command}
use Rattle.gatt_laws.specs.machine.Event.{Ordinal, Event}
use Rattle.gatt_laws.specs.machine.Heard.{after_hearing}
use Rattle.gatt_laws.specs.machine.ConnectionState.{ConnectionState, KeyReply, is_live}
use Rattle.gatt_laws.specs.machine.SharedState.{SharedState, Bonds, share_of, fragment_size_of}
use Rattle.gatt_laws.specs.machine.State.{State, Change, change_of, finished, connections_finished, step}
use Rattle.gatt_subs.specs.Indications.{Indications}
use Rattle.le_acl.specs.History.{packets_allowed}
use Rattle.le_acl.specs.Packets.{Pdu}

-- a fact that reads none of these
abbrev pub KeepsAtEnd : {A : Type 0} → (ConnectionState → A) → Type 0
KeepsAtEnd fact = (connection : ConnectionState) (pdus : List Pdu) (pending : Indications) (given : ℕ) (reply : Option KeyReply) (reason : Option ℕ)
    → fact (record connection { pdus = pdus; pending = pending; given = given; reply = reply; reason = reason }) ≡ fact connection

module _ {A : Type 0} (fact : ConnectionState → A) (keeps : KeepsAtEnd fact) where
  given-keeps : (connection : ConnectionState) (given : ℕ) (live : Bool) → fact (if live then record connection { given = given } else connection)
      ≡ fact connection
  given-keeps connection given true = keeps connection connection.pdus connection.pending given connection.reply connection.reason
  given-keeps connection given false = refl

  pub finished_keeps : (shared : SharedState) (bonds : Bonds) (handles : List Handle) (connection : ConnectionState)
      → fact (finished shared bonds handles connection) ≡ fact connection
  unfolding after_hearing
  finished_keeps shared bonds handles connection =
      let heard : ConnectionState = after_hearing shared (bonds connection.peer) handles connection in
      given-keeps heard (packets_allowed (share_of shared.slots shared.buffers) (fragment_size_of shared.buffers) heard.pdus heard.done) (is_live heard.mark)
      ∙ keeps connection heard.pdus heard.pending connection.given connection.reply connection.reason

  sent-keeps : (connection : ConnectionState) (sent : Bool) → fact (if sent then without_command connection else connection) ≡ fact connection
  sent-keeps connection true =
      elim (is_some connection.reason) as (λ (has : Bool). fact (if has then record connection { reason = None } else record connection { reply = None })
      ≡ fact connection) [
        | true ↦ keeps connection connection.pdus connection.pending connection.given connection.reply None
        | false ↦ keeps connection connection.pdus connection.pending connection.given None connection.reason
      ]
  sent-keeps connection false = refl

  pub end_keeps : (state : State) (event : Event) (ordinal : Ordinal) → fact ((step state event).connections ordinal)
      ≡ fact ((change_of state event).state.connections ordinal)
  unfolding step
  end_keeps state event ordinal =
      let change : Change = change_of state event in
      sent-keeps (connections_finished change ordinal)
      (nat_lt (length (command_of_init change.state.controller) + count_before ordinal (connections_finished change) change.state.slots)
      change.state.controller.credit)
      ∙ finished_keeps change.state.shared change.state.bonds (change.to_notify ordinal) (change.state.connections ordinal)
