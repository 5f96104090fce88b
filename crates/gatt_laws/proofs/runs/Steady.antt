-- What becomes of a connection leaves facts of it that read none of what is changed.
use Rattle.std.proofs.Common.{◌≡◌, ℕ, Bool, true, false, List, [], ◌∷◌, ◌++◌, Option, Some, None}
use Rattle.std.proofs.Common.{refl, ◌∙◌}
use Rattle.std.specs.Option.{option_map}
use Rattle.std.specs.Prelude.{◌==◌, if◌then◌else◌}
use Rattle.att_numbers.specs.Types.{Row}
use Rattle.gatt_conn.specs.Transcript.{Said, Dropped}
use Rattle.gatt_laws.specs.machine.Event.{Ordinal, Own, Connected, Disconnected, KeyAsked, Encrypted, Refreshed}
use Rattle.gatt_laws.specs.machine.Event.{Asks, OtherChannel, Authorized, Ended}
use Rattle.gatt_laws.specs.machine.ConnectionState.{Mark, Ending, ConnectionState, KeyReply, key_of, with_pdus, after_ending}
use Rattle.gatt_laws.specs.machine.SharedState.{SharedState}
use Rattle.gatt_laws.specs.machine.State.{with_packets_completed, after_packets_completed}
use Rattle.gatt_laws.specs.machine.Effect.{is_full, after_other_channel, channel_answer, with_step}
use Rattle.gatt_laws.specs.machine.Effect.{lost_encryption, live_effect, authentication_failure}
use Rattle.gatt_laws.specs.machine.Effect.{remote_user_terminated}
use Rattle.gatt_subs.specs.Indications.{Indications, after_end}
use Rattle.le_acl.specs.Packets.{Pdu}
use Rattle.le_security.specs.declared.entry.Key.{Key}
use Rattle.le_security.specs.Keys.{key_asked_for}
use Rattle.le_security.specs.Link.{Step, Request, Encryption, Refresh}
use Rattle.octet_io.specs.Number.{Octets}

-- it reads none of these
abbrev pub IsSteady : {A : Type 0} → (ConnectionState → A) → Type 0
IsSteady fact = (connection : ConnectionState) (mark : Mark) (until : ℕ) (steps : List Step) (said : List Said)
    (pending : Indications) (pdus : List Pdu) (reply : Option KeyReply) (reason : Option ℕ)
    → fact (record connection {
      mark = mark;
      until = until;
      steps = steps;
      said = said;
      pending = pending;
      pdus = pdus;
      reply = reply;
      reason = reason;
    })
    ≡ fact connection

abbrev pub is_asking : Own → Bool
is_asking (Asks pdu) = true
is_asking own = false

module _ {A : Type 0} (fact : ConnectionState → A) (steady : IsSteady fact) where
  channel-steady : (shared : SharedState) (connection : ConnectionState) (channel : ℕ) (answer : Option Octets)
      → fact (after_other_channel shared connection channel answer) ≡ fact connection
  channel-steady shared connection channel None = refl
  channel-steady shared connection channel (Some answer) =
      elim (is_full shared connection) as (λ (full : Bool). fact
      (if full then after_ending connection remote_user_terminated
      else with_pdus connection ((channel, answer) ∷ [])) ≡ fact connection) [
        | true ↦
            steady connection Ending connection.until connection.steps (Dropped ∷ connection.said)
            (after_end connection.pending) connection.pdus None
            (Some remote_user_terminated)
        | false ↦
            steady connection connection.mark connection.until connection.steps connection.said connection.pending
            (connection.pdus ++ ((channel, answer) ∷ []))
            connection.reply connection.reason
      ]

  link-steady : (connection : ConnectionState) (step : Step) (lost : Bool)
      → fact (if lost then after_ending (with_step connection step) authentication_failure
      else with_step connection step)
      ≡ fact connection
  link-steady connection step true =
      steady connection Ending connection.until (step ∷ connection.steps) (Dropped ∷ connection.said)
      (after_end connection.pending) connection.pdus None
      (Some authentication_failure)
  link-steady connection step false =
      steady connection connection.mark connection.until
      (step ∷ connection.steps) connection.said connection.pending connection.pdus connection.reply connection.reason

  -- whatever happens to a connection that serves, but for a request
  pub live_steady : (shared : SharedState) (bond : Row) (owed : Bool) (connection : ConnectionState) (own : Own)
      → is_asking own ≡ false
      → fact (live_effect shared bond owed connection own).connection ≡ fact connection
  unfolding live_effect
  live_steady shared bond owed connection (Asks pdu) kind = cc kind
  live_steady shared bond owed connection (OtherChannel channel payload) kind =
      channel-steady shared connection channel (channel_answer channel payload)
  live_steady shared bond owed connection (KeyAsked random_number diversifier) kind =
      let found : Option Key = key_asked_for shared.keys connection.peer random_number diversifier in
      steady connection connection.mark connection.until
      (Request (option_map (λ (key : Key). key.facts) found) ∷ connection.steps) connection.said
      connection.pending connection.pdus (Some (option_map (λ (key : Key). key.ltk) found)) connection.reason
  live_steady shared bond owed connection (Encrypted status enabled) kind =
      link-steady connection (Encryption status enabled)
      (lost_encryption (key_of connection) (key_of (with_step connection (Encryption status enabled))))
  live_steady shared bond owed connection (Refreshed status) kind =
      link-steady connection (Refresh status)
      (lost_encryption (key_of connection) (key_of (with_step connection (Refresh status))))
  live_steady shared bond owed connection (Authorized until) kind =
      steady connection connection.mark until connection.steps connection.said connection.pending connection.pdus connection.reply connection.reason
  live_steady shared bond owed connection Ended kind =
      steady connection Ending connection.until connection.steps (Dropped ∷ connection.said) (after_end connection.pending) connection.pdus None
      (Some remote_user_terminated)
  live_steady shared bond owed connection (Connected handle peer) kind = refl
  live_steady shared bond owed connection Disconnected kind = refl

-- packets that are completed leave what does not count them
pub completed_steady : {A : Type 0} (fact : ConnectionState → A)
    → ((connection : ConnectionState) (done : ℕ) → fact (record connection { done = done }) ≡ fact connection)
    → (ordinal : Ordinal) (entries : List (Ordinal × ℕ)) (connection : ConnectionState)
    → fact (after_packets_completed ordinal entries connection) ≡ fact connection
completed_steady fact keeps ordinal [] connection = refl
completed_steady fact keeps ordinal (entry ∷ entries) connection =
    completed_steady fact keeps ordinal entries
    (if entry.0 == ordinal then with_packets_completed connection entry.1 else connection)
    ∙ elim (entry.0 == ordinal) as (λ (own : Bool).
    fact (if own then with_packets_completed connection entry.1 else connection) ≡ fact connection) [
      | true ↦ keeps connection (with_packets_completed connection entry.1).done
      | false ↦ refl
    ]
