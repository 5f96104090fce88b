-- What an event changes and notifies before its end, and what waits then.
use Rattle.std.proofs.Common.{◌≡◌, ℕ, Bool, true, false, List, [], ◌∷◌, ◌++◌, map, Option, Some, None, refl, sym, ap, subst, ◌∙◌, append-nil}
use Rattle.std.specs.Prelude.{is_some, ◌==◌, ◌&&◌, not, if◌then◌else◌}
use Rattle.std.specs.Option.{option_map, option_to_list}
use Rattle.std.proofs.lemmas.Bool.{eqb-true}
use Rattle.att_numbers.specs.Types.{Handle, Row}
use Rattle.att_pdu.specs.Grammar.{request_of, is_due}
use Rattle.att_pdu.specs.Response.{Response}
use Rattle.att_table.specs.Table.{Contents}
use Rattle.gatt_conn.proofs.Dues.{answered_where_due}
use Rattle.gatt_conn.specs.Answer.{Question, answer_to, handles_by, is_confirmation}
use Rattle.gatt_conn.specs.Transcript.{Dropped}
use Rattle.gatt_laws.proofs.runs.Steady.{completed_steady}
use Rattle.gatt_laws.specs.machine.Event.{Ordinal, Own, Event, Connected, Disconnected, Encrypted, Refreshed, Asks, OtherChannel, Ended, Of, Completed, Credit, Tick, Replaced}
use Rattle.gatt_laws.specs.machine.Heard.{att_pdu}
use Rattle.gatt_laws.specs.machine.ConnectionState.{ConnectionState, fresh_connection, is_live, is_there, key_of, row_in_force, connection_mtu, bearer_of, with_pdus, after_ending}
use Rattle.gatt_laws.specs.machine.SharedState.{SharedState}
use Rattle.gatt_laws.specs.machine.State.{State, connection_after_replacement, change_of, step}
use Rattle.gatt_laws.specs.machine.Effect.{Effect, effect_on_connection, served, is_full, request_effect, after_other_channel, channel_answer, with_step, lost_encryption, gained_encryption, handles_written, values_among, live_effect, effect_of, remote_user_terminated, authentication_failure}
use Rattle.gatt_subs.specs.Indications.{Indications, after_replacement, times_out, is_waiting}
use Rattle.le_acl.specs.Packets.{Pdu}
use Rattle.le_security.specs.Link.{Step, Encryption, Refresh}
use Rattle.octet_io.specs.Number.{Octets}
use Rattle.gatt_theorems.specs.Gained.{queue_kept_by, kept_queue, answer_to_own, is_answered, answers_at, to_notify_by_own, to_notify_for}

nothing : (test : Bool) (none : List Pdu) → (if test then none else none) ≡ none
nothing true none = refl
nothing false none = refl

as-it-was : (pdus : List Pdu) (test : Bool) → pdus ≡ pdus ++ (if test then [] else [])
as-it-was pdus test = sym (append-nil pdus) ∙ ap (λ (more : List Pdu). pdus ++ more) (sym (nothing test []))

-- a request, where there is room for an answer or none is due
asked-queue : (shared : SharedState) (bond : Row) (owed : Bool) (connection : ConnectionState) (pdu : Octets) (due full : Bool)
    → (let answer : Option Response = answer_to shared.table (row_in_force bond connection) (bearer_of shared connection)
    (request_of pdu (connection_mtu shared connection)) in
    is_some answer ≡ due
    → (if due && full then effect_on_connection shared bond owed (after_ending connection remote_user_terminated)
    else served shared bond owed connection pdu (request_of pdu (connection_mtu shared connection))).connection.pdus
    ≡ connection.pdus ++ (if not full then map att_pdu (option_to_list answer) else []))
asked-queue shared bond owed connection pdu true true is = sym (append-nil connection.pdus)
asked-queue shared bond owed connection pdu true false is = refl
asked-queue shared bond owed connection pdu false false is = refl
asked-queue shared bond owed connection pdu false true is =
    ap (λ (answer : Option Response). connection.pdus ++ map att_pdu (option_to_list answer))
    (none-there (answer_to shared.table (row_in_force bond connection) (bearer_of shared connection) (request_of pdu (connection_mtu shared connection))) is)
  where
    none-there : (answer : Option Response) → is_some answer ≡ false → answer ≡ None
    none-there None none = refl
    none-there (Some answer) none = cc none

request-queue : (shared : SharedState) (bond : Row) (owed : Bool) (connection : ConnectionState) (pdu : Octets)
    → (request_effect shared bond owed connection pdu).connection.pdus
    ≡ connection.pdus ++ (if not (is_full shared connection)
    then map att_pdu
    (option_to_list (answer_to shared.table (row_in_force bond connection) (bearer_of shared connection) (request_of pdu (connection_mtu shared connection))))
    else [])
request-queue shared bond owed connection pdu =
    let asked : Question = request_of pdu (connection_mtu shared connection) in
    asked-queue shared bond owed connection pdu (is_due asked) (is_full shared connection)
    (answered_where_due shared.table (row_in_force bond connection) (bearer_of shared connection) asked)

channel-queue : (shared : SharedState) (connection : ConnectionState) (channel : ℕ) (answer : Option Octets) (full : Bool) → is_full shared connection ≡ full
    → (after_other_channel shared connection channel answer).pdus
    ≡ connection.pdus ++ (if not full then option_to_list (option_map (λ (octets : Octets). (channel, octets)) answer) else [])
channel-queue shared connection channel None full is = as-it-was connection.pdus (not full)
channel-queue shared connection channel (Some answer) true is =
    ap (λ (full : Bool). (if full then after_ending connection remote_user_terminated else with_pdus connection ((channel, answer) ∷ [])).pdus) is
    ∙ sym (append-nil connection.pdus)
channel-queue shared connection channel (Some answer) false is =
    ap (λ (full : Bool). (if full then after_ending connection remote_user_terminated else with_pdus connection ((channel, answer) ∷ [])).pdus) is

module _ (state : State) (at : Ordinal) where
  here : ConnectionState
  here = state.connections at

  here-bond : Row
  here-bond = state.bonds here.peer

  here-owed : Bool
  here-owed = state.owed here.peer

  own-turn : Own → Effect
  own-turn own = effect_of state.shared here-bond here-owed here own

  abbrev Queues : Own → Type 0
  Queues own = (own-turn own).connection.pdus ≡ queue_kept_by here own ++ (if is_answered state at then answer_to_own state at own else [])

  if-live-queue : (own : Own) (answer : List Pdu) (live full : Bool)
      → (live_effect state.shared here-bond here-owed here own).connection.pdus ≡ here.pdus ++ (if not full then answer else [])
      → (if live then live_effect state.shared here-bond here-owed here own else effect_on_connection state.shared here-bond here-owed here).connection.pdus
      ≡ here.pdus ++ (if live && not full then answer else [])
  unfolding here here-bond here-owed
  if-live-queue own answer true full is = is
  if-live-queue own answer false full is = sym (append-nil (state.connections at).pdus)

  kept-queue : (own : Own) → (live_effect state.shared here-bond here-owed here own).connection.pdus ≡ here.pdus
      → (if is_live here.mark then live_effect state.shared here-bond here-owed here own
      else effect_on_connection state.shared here-bond here-owed here).connection.pdus
      ≡ here.pdus ++ (if is_live here.mark && not (is_full state.shared here) then [] else [])
  unfolding here here-bond here-owed
  kept-queue own is =
      if-live-queue own [] (is_live (state.connections at).mark) (is_full state.shared (state.connections at))
      (is ∙ as-it-was (state.connections at).pdus (not (is_full state.shared (state.connections at))))

  link-queue : (step : Step) (lost : Bool)
      → (let new : ConnectionState = if lost then after_ending (with_step (state.connections at) step) authentication_failure
      else with_step (state.connections at) step in new).pdus ≡ (state.connections at).pdus
  link-queue step true = refl
  link-queue step false = refl

  own-queue : (own : Own) → Queues own
  unfolding own-turn here here-bond here-owed live_effect
  own-queue (Connected handle peer) =
      elim (is_there (state.connections at).mark) as (λ (there : Bool).
      (if there then state.connections at else fresh_connection handle peer).pdus
      ≡ (if there then (state.connections at).pdus else []) ++ (if is_answered state at then [] else [])) [
        | true ↦ as-it-was (state.connections at).pdus (is_answered state at)
        | false ↦ as-it-was [] (is_answered state at)
      ]
  own-queue Disconnected = as-it-was [] (is_answered state at)
  own-queue (Asks pdu) =
      if-live-queue (Asks pdu) _ (is_live (state.connections at).mark) (is_full state.shared (state.connections at))
      (request-queue state.shared (state.bonds (state.connections at).peer) (state.owed (state.connections at).peer) (state.connections at) pdu)
  own-queue (OtherChannel channel payload) =
      if-live-queue (OtherChannel channel payload) _ (is_live (state.connections at).mark) (is_full state.shared (state.connections at))
      (channel-queue state.shared (state.connections at) channel (channel_answer channel payload) (is_full state.shared (state.connections at)) refl)
  own-queue (Encrypted status enabled) = kept-queue (Encrypted status enabled)
      (link-queue (Encryption status enabled)
      (lost_encryption (key_of (state.connections at)) (key_of (with_step (state.connections at) (Encryption status enabled)))))
  own-queue (Refreshed status) = kept-queue (Refreshed status)
      (link-queue (Refresh status) (lost_encryption (key_of (state.connections at)) (key_of (with_step (state.connections at) (Refresh status)))))
  own-queue own = kept-queue own refl

of-queue : (state : State) (at ordinal : Ordinal) (own : Own) (same : Bool) → (ordinal == at) ≡ same
    → (if same
    then (effect_of state.shared (state.bonds (state.connections at).peer) (state.owed (state.connections at).peer) (state.connections at) own).connection
    else state.connections ordinal).pdus
    ≡ (if same then queue_kept_by (state.connections at) own else (state.connections ordinal).pdus)
    ++ (if same && is_answered state at then answer_to_own state at own else [])
unfolding own-turn here here-bond here-owed
of-queue state at ordinal own true is = own-queue state at own
of-queue state at ordinal own false is = sym (append-nil (state.connections ordinal).pdus)

replaced-queue : (old new : Contents) (connection : ConnectionState) → (connection_after_replacement old new connection).pdus ≡ connection.pdus
replaced-queue old new connection =
    elim (is_live connection.mark) as (λ (live : Bool).
    (if live then record connection { said = Dropped ∷ connection.said; pending = after_replacement connection.pending } else connection).pdus
    ≡ connection.pdus) [
      | true ↦ refl
      | false ↦ refl
    ]

pub change-queue : (state : State) (event : Event) (ordinal : Ordinal)
    → ((change_of state event).state.connections ordinal).pdus ≡ kept_queue state ordinal event ++ answers_at state ordinal event
unfolding change_of
change-queue state (Of at own) ordinal = of-queue state at ordinal own (ordinal == at) refl
change-queue state (Completed entries) ordinal =
    completed_steady (λ (of : ConnectionState). of.pdus) (λ of done. refl) ordinal entries (state.connections ordinal)
    ∙ sym (append-nil (state.connections ordinal).pdus)
change-queue state (Credit allowed opcode status (Some init)) ordinal = sym (append-nil (state.connections ordinal).pdus)
change-queue state (Replaced table) ordinal =
    replaced-queue state.shared.table table (state.connections ordinal) ∙ sym (append-nil (state.connections ordinal).pdus)
change-queue state event ordinal = sym (append-nil (state.connections ordinal).pdus)

-- What it notifies.

link-raises : (shared : SharedState) (bond : Row) (owed : Bool) (connection : ConnectionState) (step : Step) (live : Bool)
    → (if live then (if gained_encryption (key_of connection) (key_of (with_step connection step)) && owed then option_to_list shared.changer else []) else [])
    ≡ (if live && gained_encryption (key_of connection) (key_of (with_step connection step)) && owed then option_to_list shared.changer else [])
link-raises shared bond owed connection step true = refl
link-raises shared bond owed connection step false = refl

none-raised : (test : Bool) (none : List Handle) → (if test then none else none) ≡ none
none-raised true none = refl
none-raised false none = refl

-- nothing is notified to the connection itself but by its link
served-here : (shared : SharedState) (bond : Row) (owed : Bool) (connection : ConnectionState) (pdu : Octets) (asked : Question) (live ended : Bool)
    → (if live
    then (if ended then effect_on_connection shared bond owed (after_ending connection remote_user_terminated)
    else served shared bond owed connection pdu asked)
    else effect_on_connection shared bond owed connection).to_notify_here ≡ []
served-here shared bond owed connection pdu asked true true = refl
served-here shared bond owed connection pdu asked true false = refl
served-here shared bond owed connection pdu asked false ended = refl

live-here : (shared : SharedState) (bond : Row) (owed : Bool) (connection : ConnectionState) (own : Own) (live : Bool) (raised : List Handle)
    → (live_effect shared bond owed connection own).to_notify_here ≡ raised
    → (if live then live_effect shared bond owed connection own else effect_on_connection shared bond owed connection).to_notify_here
    ≡ (if live then raised else [])
live-here shared bond owed connection own true raised is = is
live-here shared bond owed connection own false raised is = refl

module _ (state : State) (at : Ordinal) where
  raised-here : (own : Own)
      → (effect_of state.shared (state.bonds (state.connections at).peer) (state.owed (state.connections at).peer) (state.connections at) own).to_notify_here
      ≡ to_notify_by_own state at own
  unfolding live_effect
  raised-here (Connected handle peer) = refl
  raised-here Disconnected = refl
  raised-here (Asks pdu) =
      let connection : ConnectionState = state.connections at in
      let asked : Question = request_of pdu (connection_mtu state.shared connection) in
      served-here state.shared (state.bonds connection.peer) (state.owed connection.peer) connection pdu asked (is_live connection.mark)
      (is_due asked && is_full state.shared connection)
  raised-here (Encrypted status enabled) =
      let connection : ConnectionState = state.connections at in
      live-here state.shared (state.bonds connection.peer) (state.owed connection.peer) connection (Encrypted status enabled) (is_live connection.mark) _ refl
      ∙ link-raises state.shared (state.bonds connection.peer) (state.owed connection.peer) connection (Encryption status enabled) (is_live connection.mark)
  raised-here (Refreshed status) =
      let connection : ConnectionState = state.connections at in
      live-here state.shared (state.bonds connection.peer) (state.owed connection.peer) connection (Refreshed status) (is_live connection.mark) _ refl
      ∙ link-raises state.shared (state.bonds connection.peer) (state.owed connection.peer) connection (Refresh status) (is_live connection.mark)
  raised-here own =
      let connection : ConnectionState = state.connections at in
      live-here state.shared (state.bonds connection.peer) (state.owed connection.peer) connection own (is_live connection.mark) [] refl
      ∙ none-raised (is_live connection.mark) []

-- and for the others the values that are written
served-raises : (shared : SharedState) (bond : Row) (owed : Bool) (connection : ConnectionState) (pdu : Octets) (asked : Question) (live ended : Bool)
    → (if live
    then (if ended then effect_on_connection shared bond owed (after_ending connection remote_user_terminated)
    else served shared bond owed connection pdu asked)
    else effect_on_connection shared bond owed connection).to_notify
    ≡ values_among shared.table.attributes (if live && not ended then handles_by shared.table (row_in_force bond connection) (bearer_of shared connection) asked
    else [])
served-raises shared bond owed connection pdu asked true true = refl
served-raises shared bond owed connection pdu asked true false = refl
served-raises shared bond owed connection pdu asked false ended = refl

raises-none : (shared : SharedState) (bond : Row) (owed : Bool) (connection : ConnectionState) (own : Own) (live : Bool)
    → (live_effect shared bond owed connection own).to_notify ≡ []
    → (if live then live_effect shared bond owed connection own else effect_on_connection shared bond owed connection).to_notify ≡ []
raises-none shared bond owed connection own true is = is
raises-none shared bond owed connection own false is = refl

raised-by : (shared : SharedState) (bond : Row) (owed : Bool) (connection : ConnectionState) (own : Own)
    → (effect_of shared bond owed connection own).to_notify ≡ values_among shared.table.attributes (handles_written shared bond connection own)
unfolding live_effect
raised-by shared bond owed connection (Connected handle peer) = refl
raised-by shared bond owed connection Disconnected = refl
raised-by shared bond owed connection (Asks pdu) =
    let asked : Question = request_of pdu (connection_mtu shared connection) in
    served-raises shared bond owed connection pdu asked (is_live connection.mark) (is_due asked && is_full shared connection)
raised-by shared bond owed connection own = raises-none shared bond owed connection own (is_live connection.mark) refl

pub change-raises : (state : State) (event : Event) (ordinal : Ordinal) → (change_of state event).to_notify ordinal ≡ to_notify_for state ordinal event
unfolding change_of
change-raises state (Of at own) ordinal =
    let connection : ConnectionState = state.connections at in
    λ i. if ordinal == at then raised-here state at own i
    else raised-by state.shared (state.bonds connection.peer) (state.owed connection.peer) connection own i
change-raises state (Credit allowed opcode status (Some init)) ordinal = refl
change-raises state event ordinal = refl

-- What waits before its end waited before it.

abbrev WaitedIn : List Handle → Handle → ConnectionState → Type 0
WaitedIn waiting handle new = is_waiting new.pending.waiting handle ≡ true → is_waiting waiting handle ≡ true

served-waited : (shared : SharedState) (bond : Row) (owed : Bool) (connection : ConnectionState) (pdu : Octets) (asked : Question) (handle : Handle)
    (live ended confirms : Bool)
    → is_confirmation pdu ≡ confirms
    → WaitedIn connection.pending.waiting handle
    (if live
    then (if ended then effect_on_connection shared bond owed (after_ending connection remote_user_terminated)
    else served shared bond owed connection pdu asked)
    else effect_on_connection shared bond owed connection).connection
served-waited shared bond owed connection pdu asked handle true true confirms is = λ waits. cc waits
served-waited shared bond owed connection pdu asked handle true false true is = rw is (λ waits. waits)
served-waited shared bond owed connection pdu asked handle true false false is = rw is (λ waits. waits)
served-waited shared bond owed connection pdu asked handle false ended confirms is = λ waits. waits

link-waited : (connection : ConnectionState) (step : Step) (handle : Handle) (lost : Bool)
    → WaitedIn connection.pending.waiting handle (if lost then after_ending (with_step connection step) authentication_failure else with_step connection step)
link-waited connection step handle true = λ waits. cc waits
link-waited connection step handle false = λ waits. waits

channel-waited : (shared : SharedState) (connection : ConnectionState) (channel : ℕ) (answer : Option Octets) (handle : Handle) (full : Bool)
    → is_full shared connection ≡ full
    → WaitedIn connection.pending.waiting handle (after_other_channel shared connection channel answer)
channel-waited shared connection channel None handle full is = λ waits. waits
channel-waited shared connection channel (Some answer) handle true is = rw is (λ waits. cc waits)
channel-waited shared connection channel (Some answer) handle false is = rw is (λ waits. waits)

live-waited : (shared : SharedState) (bond : Row) (owed : Bool) (connection : ConnectionState) (own : Own) (handle : Handle) (live : Bool)
    → WaitedIn connection.pending.waiting handle (live_effect shared bond owed connection own).connection
    → WaitedIn connection.pending.waiting handle (if live then live_effect shared bond owed connection own
    else effect_on_connection shared bond owed connection).connection
live-waited shared bond owed connection own handle true waited = waited
live-waited shared bond owed connection own handle false waited = λ waits. waits

turn-waited : (shared : SharedState) (bond : Row) (owed : Bool) (connection : ConnectionState) (own : Own) (handle : Handle)
    → WaitedIn connection.pending.waiting handle (effect_of shared bond owed connection own).connection
unfolding live_effect
turn-waited shared bond owed connection (Connected at peer) handle =
    elim (is_there connection.mark) as (λ (there : Bool). WaitedIn connection.pending.waiting handle (if there then connection else fresh_connection at peer)) [
      | true ↦ λ waits. waits
      | false ↦ λ waits. cc waits
    ]
turn-waited shared bond owed connection Disconnected handle = λ waits. cc waits
turn-waited shared bond owed connection (Asks pdu) handle =
    let asked : Question = request_of pdu (connection_mtu shared connection) in
    served-waited shared bond owed connection pdu asked handle (is_live connection.mark) (is_due asked && is_full shared connection) (is_confirmation pdu) refl
turn-waited shared bond owed connection (OtherChannel channel payload) handle =
    live-waited shared bond owed connection (OtherChannel channel payload) handle (is_live connection.mark)
    (channel-waited shared connection channel (channel_answer channel payload) handle (is_full shared connection) refl)
turn-waited shared bond owed connection (Encrypted status enabled) handle =
    live-waited shared bond owed connection (Encrypted status enabled) handle (is_live connection.mark)
    (link-waited connection (Encryption status enabled) handle
    (lost_encryption (key_of connection) (key_of (with_step connection (Encryption status enabled)))))
turn-waited shared bond owed connection (Refreshed status) handle =
    live-waited shared bond owed connection (Refreshed status) handle (is_live connection.mark)
    (link-waited connection (Refresh status) handle (lost_encryption (key_of connection) (key_of (with_step connection (Refresh status)))))
turn-waited shared bond owed connection Ended handle = live-waited shared bond owed connection Ended handle (is_live connection.mark) (λ waits. cc waits)
turn-waited shared bond owed connection own handle = live-waited shared bond owed connection own handle (is_live connection.mark) (λ waits. waits)

of-waited : (state : State) (at ordinal : Ordinal) (own : Own) (handle : Handle) (same : Bool) → (ordinal == at) ≡ same
    → WaitedIn (state.connections ordinal).pending.waiting handle
    (if same
    then (effect_of state.shared (state.bonds (state.connections at).peer) (state.owed (state.connections at).peer) (state.connections at) own).connection
    else state.connections ordinal)
of-waited state at ordinal own handle true is =
    let connection : ConnectionState = state.connections at in
    subst (λ (one : Ordinal). WaitedIn (state.connections one).pending.waiting handle
    (effect_of state.shared (state.bonds connection.peer) (state.owed connection.peer) connection own).connection)
    (sym (eqb-true ordinal at is)) (turn-waited state.shared (state.bonds connection.peer) (state.owed connection.peer) connection own handle)
of-waited state at ordinal own handle false is = λ waits. waits

pub change-waited : (state : State) (event : Event) (ordinal : Ordinal) (handle : Handle)
    → WaitedIn (state.connections ordinal).pending.waiting handle ((change_of state event).state.connections ordinal)
unfolding change_of
change-waited state (Of at own) ordinal handle = of-waited state at ordinal own handle (ordinal == at) refl
change-waited state (Completed entries) ordinal handle =
    λ waits. ap (λ (pending : Indications). is_waiting pending.waiting handle)
    (sym (completed_steady (λ (of : ConnectionState). of.pending) (λ of done. refl) ordinal entries (state.connections ordinal))) ∙ waits
change-waited state (Credit allowed opcode status (Some init)) ordinal handle = λ waits. waits
change-waited state (Tick time) ordinal handle =
    elim (times_out (state.connections ordinal).pending time) as (λ (late : Bool).
    is_waiting (if late then record { waiting = []; unconfirmed = None; timed_out = true } else (state.connections ordinal).pending).waiting handle ≡ true
    → is_waiting (state.connections ordinal).pending.waiting handle ≡ true) [
      | true ↦ λ waits. cc waits
      | false ↦ λ waits. waits
    ]
change-waited state (Replaced table) ordinal handle =
    let connection : ConnectionState = state.connections ordinal in
    elim (is_live connection.mark) as (λ (live : Bool).
    is_waiting (if live then record connection { said = Dropped ∷ connection.said; pending = after_replacement connection.pending }
    else connection).pending.waiting handle ≡ true
    → is_waiting connection.pending.waiting handle ≡ true) [
      | true ↦ λ waits. cc waits
      | false ↦ λ waits. waits
    ]
change-waited state event ordinal handle = λ waits. waits
