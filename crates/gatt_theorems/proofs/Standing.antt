-- What decides what a connection may changes by the application, the controller and a replacement alone.
use Rattle.std.proofs.Common.{◌≡◌, ℕ, Bool, true, false, List, [], ◌∷◌, Option, Some, None, refl, sym, ap, ◌∙◌}
use Rattle.std.specs.Prelude.{◌==◌, ◌&&◌, if◌then◌else◌}
use Rattle.std.proofs.lemmas.Bool.{eqb-true}
use Rattle.att_numbers.specs.Types.{Row}
use Rattle.att_pdu.specs.Grammar.{request_of, is_due}
use Rattle.att_table.specs.ConfigRow.{kept_row}
use Rattle.att_table.specs.Table.{Contents}
use Rattle.gatt_conn.specs.Transcript.{Dropped}
use Rattle.gatt_laws.proofs.runs.Ends.{end_keeps, KeepsAtEnd}
use Rattle.gatt_laws.specs.machine.Event.{Ordinal, Own, Event, Connected, Disconnected, KeyAsked, Encrypted, Refreshed, Asks, OtherChannel, Authorized, Ended, Of, Completed, Credit, Tick, Replaced}
use Rattle.gatt_laws.specs.machine.ConnectionState.{ConnectionState, is_live, key_of, connection_mtu, with_pdus, after_ending}
use Rattle.gatt_laws.specs.machine.SharedState.{SharedState}
use Rattle.gatt_laws.specs.machine.State.{State, with_packets_completed, after_packets_completed, connection_after_replacement, change_of, step}
use Rattle.gatt_laws.specs.machine.Effect.{effect_on_connection, served, is_full, after_other_channel, channel_answer, with_step, lost_encryption, live_effect, effect_of, remote_user_terminated, authentication_failure}
use Rattle.gatt_subs.specs.Indications.{after_replacement}
use Rattle.le_security.specs.Link.{Step, Encryption, Refresh}
use Rattle.octet_io.specs.Number.{Octets}
use Rattle.gatt_theorems.specs.Standing.{KeepsTheGuards, KeepsTheKeys, TellsTheTimeAlone, Authorizes, AuthorizesOne, AuthorizesByTheApplication, Encrypts, EncryptsOne, EncryptsByTheController}

pub keeps_the_guards : KeepsTheGuards
unfolding step change_of
keeps_the_guards state (Of ordinal own) is = refl
keeps_the_guards state (Credit allowed opcode status (Some init)) is = refl
keeps_the_guards state (Replaced table) is = cc is
keeps_the_guards state event is = refl

pub keeps_the_keys : KeepsTheKeys
unfolding step change_of
keeps_the_keys state (Of ordinal own) = refl
keeps_the_keys state (Credit allowed opcode status (Some init)) = refl
keeps_the_keys state event = refl

pub tells_the_time_alone : TellsTheTimeAlone
unfolding step change_of
tells_the_time_alone state (Of ordinal own) differs = differs refl
tells_the_time_alone state (Credit allowed opcode status (Some init)) differs = differs refl
tells_the_time_alone state (Tick time) differs = tt
tells_the_time_alone state event differs = differs refl

-- A fact of a connection that reads its steps and its authorization alone.

module _ {A : Type 0} (fact : ConnectionState → A) (ended : (connection : ConnectionState) (reason : ℕ) → fact (after_ending connection reason)
    ≡ fact connection) (at_end : KeepsAtEnd fact) where
  abbrev KeepsBySaying : Type 0
  KeepsBySaying = (shared : SharedState) (bond : Row) (owed : Bool) (connection : ConnectionState) (pdu : Octets)
      → fact (served shared bond owed connection pdu (request_of pdu (connection_mtu shared connection))).connection ≡ fact connection

  asked-keeps : KeepsBySaying → (shared : SharedState) (bond : Row) (owed : Bool) (connection : ConnectionState) (pdu : Octets) (live full : Bool)
      → fact (if live then (if full then effect_on_connection shared bond owed (after_ending connection remote_user_terminated)
      else served shared bond owed connection pdu (request_of pdu (connection_mtu shared connection)))
      else effect_on_connection shared bond owed connection).connection ≡ fact connection
  asked-keeps says shared bond owed connection pdu true true = ended connection remote_user_terminated
  asked-keeps says shared bond owed connection pdu true false = says shared bond owed connection pdu
  asked-keeps says shared bond owed connection pdu false full = refl

  channel-keeps : ((connection : ConnectionState) (channel : ℕ) (answer : Octets) → fact (with_pdus connection ((channel, answer) ∷ [])) ≡ fact connection)
      → (shared : SharedState) (connection : ConnectionState) (channel : ℕ) (answer : Option Octets) (full : Bool) → is_full shared connection ≡ full
      → fact (after_other_channel shared connection channel answer) ≡ fact connection
  channel-keeps queues shared connection channel None full is = refl
  channel-keeps queues shared connection channel (Some answer) true is =
      ap (λ (full : Bool). fact (if full then after_ending connection remote_user_terminated else with_pdus connection ((channel, answer) ∷ []))) is
      ∙ ended connection remote_user_terminated
  channel-keeps queues shared connection channel (Some answer) false is =
      ap (λ (full : Bool). fact (if full then after_ending connection remote_user_terminated else with_pdus connection ((channel, answer) ∷ []))) is
      ∙ queues connection channel answer

  live-keeps : (shared : SharedState) (bond : Row) (owed : Bool) (connection : ConnectionState) (own : Own) (live : Bool)
      → fact (live_effect shared bond owed connection own).connection ≡ fact connection
      → fact (if live then live_effect shared bond owed connection own else effect_on_connection shared bond owed connection).connection ≡ fact connection
  live-keeps shared bond owed connection own true is = is
  live-keeps shared bond owed connection own false is = refl

  link-keeps : (connection : ConnectionState) (step : Step) (lost : Bool) → fact (with_step connection step) ≡ fact connection
      → fact (if lost then after_ending (with_step connection step) authentication_failure else with_step connection step) ≡ fact connection
  link-keeps connection step true is = ended (with_step connection step) authentication_failure ∙ is
  link-keeps connection step false is = is

  completed-keeps : (ordinal : Ordinal) (entries : List (Ordinal × ℕ)) (connection : ConnectionState)
      → ((one : ConnectionState) (done : ℕ) → fact (record one { done = done }) ≡ fact one)
      → fact (after_packets_completed ordinal entries connection) ≡ fact connection
  completed-keeps ordinal [] connection counts = refl
  completed-keeps ordinal (entry ∷ entries) connection counts =
      completed-keeps ordinal entries (if entry.0 == ordinal then with_packets_completed connection entry.1 else connection) counts
      ∙ elim (entry.0 == ordinal) as (λ (own : Bool). fact (if own then with_packets_completed connection entry.1 else connection) ≡ fact connection) [
        | true ↦ counts connection (with_packets_completed connection entry.1).done
        | false ↦ refl
      ]

  replaced-keeps : (old new : Contents) (connection : ConnectionState) → ((one : ConnectionState) (row : Row) → fact (record one { row = row }) ≡ fact one)
      → ((one : ConnectionState) → fact (record one { said = Dropped ∷ one.said; pending = after_replacement one.pending }) ≡ fact one)
      → fact (connection_after_replacement old new connection) ≡ fact connection
  replaced-keeps old new connection rows drops =
      rows _ (kept_row old.attributes new.attributes connection.row)
      ∙ elim (is_live connection.mark) as
      (λ (live : Bool). fact (if live then record connection { said = Dropped ∷ connection.said; pending = after_replacement connection.pending }
      else connection) ≡ fact connection) [
        | true ↦ drops connection
        | false ↦ refl
      ]

-- Its authorization.

module _ (shared : SharedState) (bond : Row) (owed : Bool) (connection : ConnectionState) where
  abbrev until : ConnectionState → ℕ
  until one = one.until

  by-application : (own : Own) → ((effect_of shared bond owed connection own).connection.until ≡ connection.until → ⊥) → Authorizes own
  unfolding live_effect
  by-application (Connected handle peer) differs = tt
  by-application Disconnected differs = tt
  by-application (Authorized moment) differs = tt
  by-application (Asks pdu) differs =
      differs (asked-keeps until (λ one reason. refl) (λ of pdus pending given reply reason. refl) (λ shared bond owed connection pdu. refl) shared bond owed
      connection pdu (is_live connection.mark)
      (is_due (request_of pdu (connection_mtu shared connection)) && is_full shared connection))
  by-application (OtherChannel channel payload) differs =
      differs (live-keeps until (λ one reason. refl) (λ of pdus pending given reply reason. refl) shared bond owed connection (OtherChannel channel payload)
      (is_live connection.mark)
      (channel-keeps until (λ one reason. refl) (λ of pdus pending given reply reason. refl) (λ one channel answer. refl) shared connection channel
      (channel_answer channel payload) (is_full shared connection) refl))
  by-application (Encrypted status enabled) differs =
      differs (live-keeps until (λ one reason. refl) (λ of pdus pending given reply reason. refl) shared bond owed connection (Encrypted status enabled)
      (is_live connection.mark)
      (link-keeps until (λ one reason. refl) (λ of pdus pending given reply reason. refl) connection (Encryption status enabled)
      (lost_encryption (key_of connection) (key_of (with_step connection (Encryption status enabled)))) refl))
  by-application (Refreshed status) differs =
      differs (live-keeps until (λ one reason. refl) (λ of pdus pending given reply reason. refl) shared bond owed connection (Refreshed status)
      (is_live connection.mark)
      (link-keeps until (λ one reason. refl) (λ of pdus pending given reply reason. refl) connection (Refresh status)
      (lost_encryption (key_of connection) (key_of (with_step connection (Refresh status)))) refl))
  by-application own differs =
      differs (live-keeps until (λ one reason. refl) (λ of pdus pending given reply reason. refl) shared bond owed connection own (is_live connection.mark)
      refl)

  -- and the key of its link
  by-controller : (own : Own) → (key_of (effect_of shared bond owed connection own).connection ≡ key_of connection → ⊥) → Encrypts own
  unfolding live_effect
  by-controller (Asks pdu) differs =
      differs (asked-keeps key_of (λ one reason. refl) (λ of pdus pending given reply reason. refl) (λ shared bond owed connection pdu. refl) shared bond owed
      connection pdu (is_live connection.mark)
      (is_due (request_of pdu (connection_mtu shared connection)) && is_full shared connection))
  by-controller (OtherChannel channel payload) differs =
      differs (live-keeps key_of (λ one reason. refl) (λ of pdus pending given reply reason. refl) shared bond owed connection (OtherChannel channel payload)
      (is_live connection.mark)
      (channel-keeps key_of (λ one reason. refl) (λ of pdus pending given reply reason. refl) (λ one channel answer. refl) shared connection channel
      (channel_answer channel payload) (is_full shared connection) refl))
  by-controller (KeyAsked random_number diversifier) differs =
      differs (live-keeps key_of (λ one reason. refl) (λ of pdus pending given reply reason. refl) shared bond owed connection
      (KeyAsked random_number diversifier) (is_live connection.mark) refl)
  by-controller (Authorized moment) differs =
      differs (live-keeps key_of (λ one reason. refl) (λ of pdus pending given reply reason. refl) shared bond owed connection (Authorized moment)
      (is_live connection.mark) refl)
  by-controller Ended differs =
      differs (live-keeps key_of (λ one reason. refl) (λ of pdus pending given reply reason. refl) shared bond owed connection Ended (is_live connection.mark)
      refl)
  by-controller own differs = tt

-- Each event.

authorized-if : (state : State) (at ordinal : Ordinal) (own : Own) (same : Bool) → (ordinal == at) ≡ same
    → ((if same
    then (effect_of state.shared (state.bonds (state.connections at).peer) (state.owed (state.connections at).peer) (state.connections at) own).connection
    else state.connections ordinal).until
    ≡ (state.connections ordinal).until → ⊥)
    → (ordinal ≡ at) × Authorizes own
authorized-if state at ordinal own true is differs =
    let equal : ordinal ≡ at = eqb-true ordinal at is in (
      equal,
      by-application state.shared (state.bonds (state.connections at).peer) (state.owed (state.connections at).peer) (state.connections at) own
          (λ same. differs (same ∙ ap (λ (of : Ordinal). (state.connections of).until) (sym equal))),
    )
authorized-if state at ordinal own false is differs = absurd (differs refl)

change-authorizes : (state : State) (event : Event) (ordinal : Ordinal)
    → (((change_of state event).state.connections ordinal).until ≡ (state.connections ordinal).until → ⊥) → AuthorizesOne ordinal event
unfolding change_of
change-authorizes state (Of at own) ordinal differs = authorized-if state at ordinal own (ordinal == at) refl differs
change-authorizes state (Completed entries) ordinal differs =
    differs (completed-keeps (λ (of : ConnectionState). of.until) (λ one reason. refl) (λ of pdus pending given reply reason. refl) ordinal entries
    (state.connections ordinal) (λ one done. refl))
change-authorizes state (Credit allowed opcode status (Some init)) ordinal differs = differs refl
change-authorizes state (Replaced table) ordinal differs =
    differs (replaced-keeps (λ (of : ConnectionState). of.until) (λ one reason. refl) (λ of pdus pending given reply reason. refl) state.shared.table table
    (state.connections ordinal)
    (λ one row. refl) (λ one. refl))
change-authorizes state event ordinal differs = differs refl

pub authorizes_by_the_application : AuthorizesByTheApplication
authorizes_by_the_application state event ordinal differs =
    change-authorizes state event ordinal
    (λ same. differs (end_keeps (λ (of : ConnectionState). of.until) (λ of pdus pending given reply reason. refl) state event ordinal ∙ same))

encrypted-if : (state : State) (at ordinal : Ordinal) (own : Own) (same : Bool) → (ordinal == at) ≡ same
    → (key_of
    (if same
    then (effect_of state.shared (state.bonds (state.connections at).peer) (state.owed (state.connections at).peer) (state.connections at) own).connection
    else state.connections ordinal)
    ≡ key_of (state.connections ordinal) → ⊥)
    → (ordinal ≡ at) × Encrypts own
encrypted-if state at ordinal own true is differs =
    let equal : ordinal ≡ at = eqb-true ordinal at is in (
      equal,
      by-controller state.shared (state.bonds (state.connections at).peer) (state.owed (state.connections at).peer) (state.connections at) own
          (λ same. differs (same ∙ ap (λ (of : Ordinal). key_of (state.connections of)) (sym equal))),
    )
encrypted-if state at ordinal own false is differs = absurd (differs refl)

change-encrypts : (state : State) (event : Event) (ordinal : Ordinal)
    → (key_of ((change_of state event).state.connections ordinal) ≡ key_of (state.connections ordinal) → ⊥) → EncryptsOne ordinal event
unfolding change_of
change-encrypts state (Of at own) ordinal differs = encrypted-if state at ordinal own (ordinal == at) refl differs
change-encrypts state (Completed entries) ordinal differs =
    differs (completed-keeps key_of (λ one reason. refl) (λ of pdus pending given reply reason. refl) ordinal entries (state.connections ordinal)
    (λ one done. refl))
change-encrypts state (Credit allowed opcode status (Some init)) ordinal differs = differs refl
change-encrypts state (Replaced table) ordinal differs =
    differs (replaced-keeps key_of (λ one reason. refl) (λ of pdus pending given reply reason. refl) state.shared.table table (state.connections ordinal)
    (λ one row. refl) (λ one. refl))
change-encrypts state event ordinal differs = differs refl

pub encrypts_by_the_controller : EncryptsByTheController
encrypts_by_the_controller state event ordinal differs =
    change-encrypts state event ordinal
    (λ same. differs (end_keeps key_of (λ of pdus pending given reply reason. refl) state event ordinal ∙ same))
