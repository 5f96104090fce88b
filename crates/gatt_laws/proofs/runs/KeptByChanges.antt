-- What becomes of a connection, change by change: a relation that each change keeps is kept by all that happens to it.
use Rattle.std.proofs.Common.{◌≡◌, ℕ, Bool, true, List, [], ◌∷◌, Option, Some, None}
use Rattle.std.specs.Prelude.{is_some, if◌then◌else◌, ◌==◌, ◌&&◌}
use Rattle.att_numbers.specs.Types.{Handle, Row}
use Rattle.att_pdu.specs.Grammar.{request_of, is_due}
use Rattle.att_table.specs.ConfigRow.{kept_row}
use Rattle.att_table.specs.Table.{Contents}
use Rattle.gatt_conn.specs.Answer.{Question}
use Rattle.gatt_conn.specs.Transcript.{Dropped}
use Rattle.gatt_laws.specs.machine.Controller.{without_command}
use Rattle.gatt_laws.specs.machine.Event.{Ordinal, Own, KeyAsked, Encrypted, Refreshed, Asks, OtherChannel, Authorized, Ended}
use Rattle.gatt_laws.specs.machine.ConnectionState.{ConnectionState, is_live, key_of, connection_mtu, with_pdus, after_ending, after_giving}
use Rattle.gatt_laws.specs.machine.Effect.{Effect, effect_on_connection, served, is_full, after_other_channel, channel_answer, with_key_asked, with_step, lost_encryption, live_effect, authentication_failure, remote_user_terminated}
use Rattle.gatt_laws.specs.machine.Heard.{after_hearing}
use Rattle.gatt_laws.specs.machine.SharedState.{SharedState, Bonds}
use Rattle.gatt_laws.specs.machine.State.{connection_after_replacement, finished, with_packets_completed, after_packets_completed}
use Rattle.gatt_subs.specs.Indications.{after_replacement}
use Rattle.le_acl.specs.Packets.{Pdu}
use Rattle.le_security.specs.declared.entry.Key.{Key}
use Rattle.le_security.specs.Keys.{key_asked_for}
use Rattle.le_security.specs.Link.{Step, Encryption, Refresh}
use Rattle.octet_io.proofs.Choices.{either_choice, chosen_choice}
use Rattle.octet_io.specs.Number.{Octets}

-- of a connection that serves
pub record KeepsByChanges (R : ConnectionState → ConnectionState → Type 0) (connection : ConnectionState) : Type 0 where
  pub same : R connection connection
  pub authorized : (until : ℕ) → R connection (record connection { until = until })
  pub ended : (reason : ℕ) → R connection (after_ending connection reason)
  pub key_asked : (found : Option Key) → R connection (with_key_asked connection found)
  pub stepped : (step : Step) → R connection (with_step connection step)
  pub ended_then : (step : Step) (reason : ℕ) → R connection (after_ending (with_step connection step) reason)
  pub queued : (pdu : Pdu) → R connection (with_pdus connection (pdu ∷ []))
  pub served_by : (shared : SharedState) (bond : Row) (owed : Bool) (pdu : Octets) (asked : Question)
      → R connection (served shared bond owed connection pdu asked).connection

module _ (R : ConnectionState → ConnectionState → Type 0) (shared : SharedState) (bond : Row) (owed : Bool) (connection : ConnectionState) where
  channel-keeps : KeepsByChanges R connection → (channel : ℕ) (answer : Option Octets) → R connection (after_other_channel shared connection channel answer)
  channel-keeps keeps channel None = keeps.same
  channel-keeps keeps channel (Some answer) =
      either_choice (R connection) (is_full shared connection) _ _ (keeps.ended remote_user_terminated) (keeps.queued (channel, answer))

  link-keeps : KeepsByChanges R connection → (step : Step)
      → R connection (if lost_encryption (key_of connection) (key_of (with_step connection step))
      then after_ending (with_step connection step) authentication_failure else with_step connection step)
  link-keeps keeps step =
      either_choice (R connection) (lost_encryption (key_of connection) (key_of (with_step connection step))) _ _ (keeps.ended_then step authentication_failure)
      (keeps.stepped step)

  pub live_keeps : KeepsByChanges R connection → (own : Own) → R connection (live_effect shared bond owed connection own).connection
  unfolding live_effect
  live_keeps keeps (Asks pdu) =
      let asked : Question = request_of pdu (connection_mtu shared connection) in
      either_choice (λ (effect : Effect). R connection effect.connection) (is_due asked && is_full shared connection) _ _
      (keeps.ended remote_user_terminated) (keeps.served_by shared bond owed pdu asked)
  live_keeps keeps (OtherChannel channel payload) = channel-keeps keeps channel (channel_answer channel payload)
  live_keeps keeps (KeyAsked random_number diversifier) = keeps.key_asked (key_asked_for shared.keys connection.peer random_number diversifier)
  live_keeps keeps (Encrypted status enabled) = link-keeps keeps (Encryption status enabled)
  live_keeps keeps (Refreshed status) = link-keeps keeps (Refresh status)
  live_keeps keeps (Authorized until) = keeps.authorized until
  live_keeps keeps Ended = keeps.ended remote_user_terminated
  live_keeps keeps own = keeps.same

  pub keeps_if_live : R connection connection → (is_live connection.mark ≡ true → KeepsByChanges R connection) → (own : Own)
      → R connection (if is_live connection.mark then live_effect shared bond owed connection own
      else effect_on_connection shared bond owed connection).connection
  keeps_if_live same keeps own =
      chosen_choice (λ (effect : Effect). R connection effect.connection) (is_live connection.mark) _ _ (λ live. live_keeps (keeps live) own) (λ away. same)

-- and of any: packets are completed, it hears, packets are given, a command is sent, and the table is replaced
module _ (R : ConnectionState → ConnectionState → Type 0) (same : (connection : ConnectionState) → R connection connection)
    (both : (one two three : ConnectionState) → R one two → R two three → R one three) where
  pub completed_keeps : ((connection : ConnectionState) (done : ℕ) → R connection (record connection { done = done }))
      → (ordinal : Ordinal) (entries : List (Ordinal × ℕ)) (connection : ConnectionState)
      → R connection (after_packets_completed ordinal entries connection)
  completed_keeps counts ordinal [] connection = same connection
  completed_keeps counts ordinal (entry ∷ entries) connection =
      both connection (if entry.0 == ordinal then with_packets_completed connection entry.1 else connection)
      (after_packets_completed ordinal (entry ∷ entries) connection)
      (either_choice (R connection) (entry.0 == ordinal) _ _ (counts connection _) (same connection)) (completed_keeps counts ordinal entries _)

  pub finished_keeps : ((shared : SharedState) (bond : Row) (handles : List Handle) (connection : ConnectionState)
      → R connection (after_hearing shared bond handles connection))
      → ((connection : ConnectionState) (given : ℕ) → R connection (record connection { given = given }))
      → (shared : SharedState) (bonds : Bonds) (handles : List Handle) (connection : ConnectionState) → R connection (finished shared bonds handles connection)
  finished_keeps hears gives shared bonds handles connection =
      let heard : ConnectionState = after_hearing shared (bonds connection.peer) handles connection in
      both connection heard (after_giving shared heard) (hears shared (bonds connection.peer) handles connection)
      (either_choice (R heard) (is_live heard.mark) _ _ (gives heard _) (same heard))

  pub sent_keeps : ((connection : ConnectionState) → R connection (record connection { reason = None }))
      → ((connection : ConnectionState) → R connection (record connection { reply = None }))
      → (connection : ConnectionState) (sent : Bool) → R connection (if sent then without_command connection else connection)
  sent_keeps ends replies connection sent =
      either_choice (R connection) sent _ _ (either_choice (R connection) (is_some connection.reason) _ _ (ends connection) (replies connection))
      (same connection)

  pub replaced_keeps : (old new : Contents) (connection : ConnectionState)
      → R connection
      (record connection {
        said = Dropped ∷ connection.said;
        pending = after_replacement connection.pending;
        row = kept_row old.attributes new.attributes connection.row;
      })
      → R connection (record connection { row = kept_row old.attributes new.attributes connection.row })
      → R connection (connection_after_replacement old new connection)
  replaced_keeps old new connection serving other =
      either_choice (λ (dropped : ConnectionState). R connection (record dropped { row = kept_row old.attributes new.attributes connection.row }))
      (is_live connection.mark) _ _ serving other
