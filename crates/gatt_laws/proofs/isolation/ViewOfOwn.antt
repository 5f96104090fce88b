-- What a connection sees decides what the end of an event and what happens to itself leave of it.
use Rattle.std.proofs.Common.{◌≡◌, ℕ, ◌+◌, Bool, true, false, List, [], ◌∷◌, length, Option, Some, None, refl, sym, ap, ◌∙◌, append-nil}
use Rattle.std.specs.Prelude.{is_some, nat_lt, ◌==◌, ◌&&◌, not, if◌then◌else◌}
use Rattle.std.specs.Option.{option_map, option_to_list}
use Rattle.std.proofs.lemmas.Bool.{eq-eqb}
use Rattle.att_numbers.specs.Types.{Handle, Row, Values}
use Rattle.att_pdu.specs.Grammar.{request_of, is_due}
use Rattle.att_policy.specs.declared.standing.Standing.{Standing}
use Rattle.att_attributes.specs.declared.attr.Attr.{Attr}
use Rattle.gatt_conn.specs.Answer.{Question}
use Rattle.gatt_laws.proofs.runs.Ends.{end_keeps}
use Rattle.gatt_laws.proofs.runs.Silence.{only_serves_the_live}
use Rattle.gatt_laws.specs.machine.Controller.{command_of_init, count_before, without_command}
use Rattle.gatt_laws.specs.machine.Event.{Ordinal, Own, Event, Connected, Disconnected, Encrypted, Refreshed, Asks, OtherChannel}
use Rattle.gatt_laws.specs.machine.Heard.{Heard, heard_in_turn, hearer_of, with_heard, after_hearing}
use Rattle.gatt_laws.specs.machine.ConnectionState.{Mark, Absent, Live, Ending, ConnectionState, no_connection, fresh_connection, is_live, is_there, key_of, connection_mtu, with_pdus, after_giving, after_ending}
use Rattle.gatt_laws.specs.machine.SharedState.{SharedState, Bonds, share_of, fragment_size_of}
use Rattle.gatt_laws.specs.laws.SameView.{Seen, without_commands, seen_of, IsIndicated, IsKnown}
use Rattle.gatt_laws.specs.laws.Silence.{IsAllGiven}
use Rattle.gatt_laws.specs.machine.State.{State, Change, at_peer, with_values, own_change, change_of, finished, connections_finished, step}
use Rattle.gatt_laws.specs.machine.Effect.{Effect, effect_on_connection, served, is_full, request_effect, after_other_channel, channel_answer, with_step, lost_encryption, link_effect, live_effect, effect_of, remote_user_terminated, authentication_failure}
use Rattle.gatt_subs.specs.Hearing.{is_indicated}
use Rattle.gatt_subs.specs.Indications.{Indications, may_indicate, from_due, first_handle, rest_of, unconfirmed_since}
use Rattle.gatt_subs.specs.Told.{Hearer}
use Rattle.le_acl.specs.History.{packets_allowed}
use Rattle.le_hci.specs.declared.buffers.Buffers.{Buffers}
use Rattle.le_hci.specs.declared.peer.Peer.{Peer}
use Rattle.le_security.proofs.Peers.{equal_peers, same_as_itself}
use Rattle.le_security.specs.Entry.{same_peer}
use Rattle.le_security.specs.Link.{Step, Encryption, Refresh}
use Rattle.octet_io.specs.Number.{Octets}

unfoldable pub seen_end : SharedState → Row → Bool → List Handle → ConnectionState → Seen
seen_end shared bond owed handles connection =
    record { shared = shared; bond = bond; owed = owed; connection = finished shared (λ (peer : Peer). bond) handles connection }

abbrev pub with_buffers : SharedState → Option Buffers → SharedState
with_buffers shared buffers = record shared { buffers = buffers }

pub commands-kept : (connection : ConnectionState) (sent : Bool) → without_commands (if sent then without_command connection else connection)
    ≡ without_commands connection
commands-kept connection true =
    elim (is_some connection.reason) as
    (λ (has : Bool). without_commands (if has then record connection { reason = None } else record connection { reply = None }) ≡ without_commands connection) [
      | true ↦ refl
      | false ↦ refl
    ]
commands-kept connection false = refl

given-silent : (connection : ConnectionState) (given : ℕ) (live : Bool)
    → without_commands (if live then record connection { given = given } else connection)
    ≡ (if live then record (without_commands connection) { given = given } else without_commands connection)
given-silent connection given true = refl
given-silent connection given false = refl

finish-silent : (shared : SharedState) (bond : Row) (handles : List Handle) (connection : ConnectionState)
    → without_commands (after_giving shared (after_hearing shared bond handles connection))
    ≡ after_giving shared (after_hearing shared bond handles (without_commands connection))
unfolding after_hearing
finish-silent shared bond handles connection =
    let heard : ConnectionState = after_hearing shared bond handles connection in
    given-silent heard (packets_allowed (share_of shared.slots shared.buffers) (fragment_size_of shared.buffers) heard.pdus heard.done) (is_live heard.mark)

end-alike : (buffers : Option Buffers) (peer : Peer) (shared : SharedState) (bonds : Bonds) (handles : List Handle) (connection : ConnectionState) (live : Bool)
    → is_live connection.mark ≡ live
    → (is_live connection.mark ≡ true → connection.peer ≡ peer) → (is_live connection.mark ≡ true → shared.buffers ≡ buffers)
    → finished shared bonds handles connection ≡ finished (with_buffers shared buffers) (λ (other : Peer). bonds peer) handles connection
end-alike buffers peer shared bonds handles connection false is peers told =
    only_serves_the_live shared bonds handles connection is
    ∙ sym (only_serves_the_live (with_buffers shared buffers) (λ (other : Peer). bonds peer) handles connection is)
end-alike buffers peer shared bonds handles connection true is peers told =
    ap (λ (of : Peer). after_giving shared (after_hearing shared (bonds of) handles connection)) (peers is)
    ∙ ap (λ (of : Option Buffers). after_giving (with_buffers shared of) (after_hearing (with_buffers shared of) (bonds peer) handles connection)) (told is)

pub there-if-live : (mark : Mark) → is_live mark ≡ true → is_there mark ≡ true
there-if-live Absent is = cc is
there-if-live Live is = refl
there-if-live Ending is = refl

unfoldable pub seen_change : Option Buffers → Peer → Ordinal → Change → Seen
seen_change buffers peer ordinal change =
    seen_end (with_buffers change.state.shared buffers) (change.state.bonds peer) (change.state.owed peer) (change.to_notify ordinal)
    (without_commands (change.state.connections ordinal))

part-at-end : (buffers : Option Buffers) (peer : Peer) (ordinal : Ordinal) (state : State) (event : Event) → IsKnown buffers peer ordinal (step state event)
    → without_commands ((step state event).connections ordinal)
    ≡ finished (with_buffers (change_of state event).state.shared buffers) (λ (other : Peer). (change_of state event).state.bonds peer)
    ((change_of state event).to_notify ordinal) (without_commands ((change_of state event).state.connections ordinal))
unfolding step
part-at-end buffers peer ordinal state event known =
    let change : Change = change_of state event in
    let connection : ConnectionState = change.state.connections ordinal in
    let marks : ((step state event).connections ordinal).mark ≡ connection.mark =
    end_keeps (λ (of : ConnectionState). of.mark) (λ of pdus pending given reply reason. refl) state event ordinal in
    let peers : ((step state event).connections ordinal).peer ≡ connection.peer =
    end_keeps (λ (of : ConnectionState). of.peer) (λ of pdus pending given reply reason. refl) state event ordinal in
    let there : is_live connection.mark ≡ true → is_there ((step state event).connections ordinal).mark ≡ true =
    λ live. ap is_there marks ∙ there-if-live connection.mark live in
    commands-kept (connections_finished change ordinal)
    (nat_lt (length (command_of_init change.state.controller) + count_before ordinal (connections_finished change) change.state.slots)
    change.state.controller.credit)
    ∙ finish-silent change.state.shared (change.state.bonds connection.peer) (change.to_notify ordinal) connection
    ∙ end-alike buffers peer change.state.shared change.state.bonds (change.to_notify ordinal) (without_commands connection) (is_live connection.mark) refl
    (λ live. sym peers ∙ known.peers (there live)) (λ live. known.told (there live))

pub seen-at-end : (buffers : Option Buffers) (peer : Peer) (ordinal : Ordinal) (state : State) (event : Event) → IsKnown buffers peer ordinal (step state event)
    → seen_of buffers peer ordinal (step state event) ≡ seen_change buffers peer ordinal (change_of state event)
unfolding step seen_change seen_end
seen-at-end buffers peer ordinal state event known =
    let change : Change = change_of state event in
    let same = part-at-end buffers peer ordinal state event known in
    λ i. record { shared = with_buffers change.state.shared buffers; bond = change.state.bonds peer; owed = change.state.owed peer; connection = same i }

-- Where nothing is notified and nothing waits, the end of an event changes nothing.

none-of : {A : Type 0} (found : Option A) → is_some found ≡ false → found ≡ None
none-of None is = refl
none-of (Some x) is = cc is

first-not : (one other last : Bool) → (not one && other && last) ≡ true → one ≡ false
first-not true other last is = cc is
first-not false other last is = refl

none-released : (pending : Indications) (attributes : List Attr) (row : Row) (standing : Standing) (backlog : ℕ) (may : Bool) → may_indicate pending backlog
    ≡ may → IsIndicated pending
    → (if may then first_handle (from_due (is_indicated attributes row standing) pending.waiting) else None) ≡ None
none-released pending attributes row standing backlog false is released = refl
none-released pending attributes row standing backlog true is released =
    ap (λ (waiting : List Handle). first_handle (from_due (is_indicated attributes row standing) waiting))
    (released (first-not (is_some pending.unconfirmed) (not pending.timed_out) (nat_lt backlog 8) is))

same-pending : (pending : Indications) (attributes : List Attr) (row : Row) (standing : Standing) (backlog now : ℕ) (may : Bool) → may_indicate pending backlog
    ≡ may → IsIndicated pending
    → (if may then record pending {
      waiting = rest_of (from_due (is_indicated attributes row standing) pending.waiting);
      unconfirmed = option_map (unconfirmed_since now) (first_handle (from_due (is_indicated attributes row standing) pending.waiting));
    } else pending) ≡ pending
same-pending pending attributes row standing backlog now false is released = refl
same-pending pending attributes row standing backlog now true is released =
    let free : is_some pending.unconfirmed ≡ false = first-not (is_some pending.unconfirmed) (not pending.timed_out) (nat_lt backlog 8) is in
    let none : pending.waiting ≡ [] = released free in
    let unconfirmed = none-of pending.unconfirmed free in
    ap (λ (waiting : List Handle). record pending {
      waiting = rest_of (from_due (is_indicated attributes row standing) waiting);
      unconfirmed = option_map (unconfirmed_since now) (first_handle (from_due (is_indicated attributes row standing) waiting));
    }) none
    ∙ (λ i. record pending { waiting = sym none i; unconfirmed = sym unconfirmed i })

quiet-heard : (attributes : List Attr) (values : Values) (hearer : Hearer) (now : ℕ) → hearer.live ≡ true → IsIndicated hearer.pending
    → heard_in_turn attributes values hearer now [] ≡ record { responses = []; pending = hearer.pending }
quiet-heard attributes values hearer now live released =
    let none = none-released hearer.pending attributes hearer.row hearer.standing hearer.backlog (may_indicate hearer.pending hearer.backlog) refl released in
    let same = same-pending hearer.pending attributes hearer.row hearer.standing hearer.backlog now (may_indicate hearer.pending hearer.backlog) refl released
    in
    rw live (λ i. record {
      responses = option_to_list (option_map (λ handle. Rattle.gatt_subs.specs.Told.indication_of values handle hearer.mtu) (none i));
      pending = same i;
    })

all-given-already : (shared : SharedState) (connection : ConnectionState) (live : Bool) → is_live connection.mark ≡ live → IsAllGiven shared connection
    → (if live
    then record connection { given = packets_allowed (share_of shared.slots shared.buffers) (fragment_size_of shared.buffers) connection.pdus connection.done }
    else connection) ≡ connection
all-given-already shared connection false is all = refl
all-given-already shared connection true is all = λ i. record connection { given = sym (all is) i }

quiet-live : (shared : SharedState) (bond : Row) (connection : ConnectionState) → is_live connection.mark ≡ true → IsAllGiven shared connection
    → IsIndicated connection.pending
    → after_giving shared (after_hearing shared bond [] connection) ≡ connection
unfolding after_hearing
quiet-live shared bond connection live all released =
    ap (λ (heard : Heard). after_giving shared (with_heard connection heard))
    (quiet-heard shared.table.attributes shared.table.values (hearer_of shared bond connection) shared.time live released)
    ∙ ap (λ pdus. after_giving shared (record connection { pdus = pdus })) (append-nil connection.pdus)
    ∙ all-given-already shared connection (is_live connection.mark) refl all

pub quiet : (shared : SharedState) (bond : Row) (connection : ConnectionState) (live : Bool) → is_live connection.mark ≡ live → IsAllGiven shared connection
    → IsIndicated connection.pending
    → finished shared (λ (other : Peer). bond) [] connection ≡ connection
quiet shared bond connection false is all released = only_serves_the_live shared (λ (other : Peer). bond) [] connection is
quiet shared bond connection true is all released = quiet-live shared bond connection is all released

-- What happens to the connection itself.

silent : Effect → Effect
silent effect = record effect { connection = without_commands effect.connection }

request-silent : (shared : SharedState) (bond : Row) (owed : Bool) (connection : ConnectionState) (pdu : Octets)
    → silent (request_effect shared bond owed (without_commands connection) pdu) ≡ silent (request_effect shared bond owed connection pdu)
unfolding silent
request-silent shared bond owed connection pdu =
    let asked : Question = request_of pdu (connection_mtu shared connection) in
    elim (is_due asked && is_full shared connection) as (λ (full : Bool).
    silent (if full then effect_on_connection shared bond owed (after_ending (without_commands connection) remote_user_terminated)
    else served shared bond owed (without_commands connection) pdu asked)
    ≡ silent (if full then effect_on_connection shared bond owed (after_ending connection remote_user_terminated)
    else served shared bond owed connection pdu asked)) [ true ↦ refl | false ↦ refl ]

channel-silent : (shared : SharedState) (connection : ConnectionState) (channel : ℕ) (answer : Option Octets)
    → without_commands (after_other_channel shared (without_commands connection) channel answer)
    ≡ without_commands (after_other_channel shared connection channel answer)
channel-silent shared connection channel None = refl
channel-silent shared connection channel (Some answer) =
    elim (is_full shared connection) as (λ (full : Bool).
    without_commands (if full then after_ending (without_commands connection) remote_user_terminated
    else with_pdus (without_commands connection) ((channel, answer) ∷ []))
    ≡ without_commands (if full then after_ending connection remote_user_terminated else with_pdus connection ((channel, answer) ∷ [])))
    [ true ↦ refl | false ↦ refl ]

link-silent : (connection : ConnectionState) (step : Step) (lost : Bool)
    → without_commands (if lost then after_ending (with_step (without_commands connection) step) authentication_failure
    else with_step (without_commands connection) step)
    ≡ without_commands (if lost then after_ending (with_step connection step) authentication_failure else with_step connection step)
link-silent connection step true = refl
link-silent connection step false = refl

live-silent : (shared : SharedState) (bond : Row) (owed : Bool) (connection : ConnectionState) (own : Own)
    → silent (live_effect shared bond owed (without_commands connection) own) ≡ silent (live_effect shared bond owed connection own)
unfolding live_effect silent
live-silent shared bond owed connection (Asks pdu) = request-silent shared bond owed connection pdu
live-silent shared bond owed connection (OtherChannel channel payload) =
    let same = channel-silent shared connection channel (channel_answer channel payload) in λ i. effect_on_connection shared bond owed (same i)
live-silent shared bond owed connection (Encrypted status enabled) =
    let same =
    link-silent connection (Encryption status enabled) (lost_encryption (key_of connection) (key_of (with_step connection (Encryption status enabled)))) in
    λ i. record (link_effect shared bond owed connection (Encryption status enabled)) { connection = same i }
live-silent shared bond owed connection (Refreshed status) =
    let same = link-silent connection (Refresh status) (lost_encryption (key_of connection) (key_of (with_step connection (Refresh status)))) in
    λ i. record (link_effect shared bond owed connection (Refresh status)) { connection = same i }
live-silent shared bond owed connection own = refl

if-live-silent : (shared : SharedState) (bond : Row) (owed : Bool) (connection : ConnectionState) (own : Own) (live : Bool)
    → silent (if live then live_effect shared bond owed (without_commands connection) own
    else effect_on_connection shared bond owed (without_commands connection))
    ≡ silent (if live then live_effect shared bond owed connection own else effect_on_connection shared bond owed connection)
unfolding silent
if-live-silent shared bond owed connection own true = live-silent shared bond owed connection own
if-live-silent shared bond owed connection own false = refl

effect-silent : (shared : SharedState) (bond : Row) (owed : Bool) (connection : ConnectionState) (own : Own)
    → silent (effect_of shared bond owed (without_commands connection) own) ≡ silent (effect_of shared bond owed connection own)
unfolding silent
effect-silent shared bond owed connection (Connected handle peer) =
    elim (is_there connection.mark) as
    (λ (there : Bool). silent (effect_on_connection shared bond owed (if there then without_commands connection else fresh_connection handle peer))
    ≡ silent (effect_on_connection shared bond owed (if there then connection else fresh_connection handle peer))) [ true ↦ refl | false ↦ refl ]
effect-silent shared bond owed connection Disconnected = refl
effect-silent shared bond owed connection own = if-live-silent shared bond owed connection own (is_live connection.mark)

-- who does not serve comes or goes, and else stays
idle_part : ConnectionState → Own → ConnectionState
idle_part connection (Connected handle peer) = if is_there connection.mark then connection else fresh_connection handle peer
idle_part connection Disconnected = no_connection
idle_part connection own = connection

effect-idle : (shared : SharedState) (bond : Row) (owed : Bool) (connection : ConnectionState) (own : Own) → is_live connection.mark ≡ false
    → effect_of shared bond owed connection own ≡ effect_on_connection shared bond owed (idle_part connection own)
unfolding idle_part
effect-idle shared bond owed connection (Connected handle peer) is = refl
effect-idle shared bond owed connection Disconnected is = refl
effect-idle shared bond owed connection own is = rw is refl

-- what a turn leaves to be seen, where it is the connection's own
seen_effect : SharedState → Effect → Seen
seen_effect shared effect = seen_end (with_values shared effect.values) effect.bond effect.owed effect.to_notify_here (without_commands effect.connection)

seen-silent : (shared : SharedState) (effect : Effect) → seen_effect shared (silent effect) ≡ seen_effect shared effect
unfolding silent seen_effect
seen-silent shared effect = refl

-- where its peer is another one, what is set is what is there
unchanged-at : {A : Type 0} (peer : Peer) (old : Peer → A) (other : Peer) → at_peer peer (old peer) old other ≡ old other
unchanged-at peer old other =
    elim (same_peer other peer) as (λ same. same_peer other peer ≡ same → (if same then old peer else old other) ≡ old other) [
      | true ↦ λ same. ap old (sym (equal_peers other peer same))
      | false ↦ λ differs. refl
    ] refl

changed-at : {A : Type 0} (peer other : Peer) (new : A) (old : Peer → A) → other ≡ peer → at_peer other new old peer ≡ new
changed-at peer other new old same =
    ap (λ (of : Peer). if same_peer peer of then new else old peer) same ∙ ap (λ test. if test then new else old peer) (same_as_itself peer)

own-at : (buffers : Option Buffers) (peer : Peer) (ordinal : Ordinal) (state : State) (own : Own) (live : Bool) → is_live (state.connections ordinal).mark
    ≡ live → IsKnown buffers peer ordinal state
    → let connection : ConnectionState = state.connections ordinal in
    let effect : Effect = effect_of state.shared (state.bonds connection.peer) (state.owed connection.peer) connection own in
    seen_end (with_buffers (with_values state.shared effect.values) buffers) (at_peer connection.peer effect.bond state.bonds peer)
    (at_peer connection.peer effect.owed state.owed peer) effect.to_notify_here (without_commands effect.connection)
    ≡ seen_effect (with_buffers state.shared buffers) (effect_of (with_buffers state.shared buffers) (state.bonds peer) (state.owed peer) connection own)
unfolding seen_effect
own-at buffers peer ordinal state own true is known =
    let connection : ConnectionState = state.connections ordinal in
    let there : is_there connection.mark ≡ true = there-if-live connection.mark is in
    let effect : Effect = effect_of state.shared (state.bonds connection.peer) (state.owed connection.peer) connection own in
    let same : effect ≡ effect_of (with_buffers state.shared buffers) (state.bonds peer) (state.owed peer) connection own =
    (λ i. effect_of (with_buffers state.shared (known.told there i)) (state.bonds (known.peers there i)) (state.owed (known.peers there i)) connection own) in
    let bonds = changed-at peer connection.peer effect.bond state.bonds (known.peers there) in
    let owed = changed-at peer connection.peer effect.owed state.owed (known.peers there) in
    (λ i. seen_end (with_buffers (with_values state.shared effect.values) buffers) (bonds i) (owed i) effect.to_notify_here
    (without_commands effect.connection))
    ∙ ap (seen_effect (with_buffers state.shared buffers)) same
own-at buffers peer ordinal state own false is known =
    let connection : ConnectionState = state.connections ordinal in
    let effect : Effect = effect_of state.shared (state.bonds connection.peer) (state.owed connection.peer) connection own in
    let new : ConnectionState = idle_part connection own in
    let bonds = unchanged-at connection.peer state.bonds peer in
    let owed = unchanged-at connection.peer state.owed peer in
    ap (λ (of : Effect). seen_end (with_buffers (with_values state.shared of.values) buffers) (at_peer connection.peer of.bond state.bonds peer)
    (at_peer connection.peer of.owed state.owed peer) of.to_notify_here (without_commands of.connection))
    (effect-idle state.shared (state.bonds connection.peer) (state.owed connection.peer) connection own is)
    ∙ (λ i. seen_end (with_buffers state.shared buffers) (bonds i) (owed i) [] (without_commands new))
    ∙ ap (seen_effect (with_buffers state.shared buffers))
    (sym (effect-idle (with_buffers state.shared buffers) (state.bonds peer) (state.owed peer) connection own is))

pub own-next : Seen → Own → Seen
own-next old own = seen_effect old.shared (effect_of old.shared old.bond old.owed old.connection own)

pub own-seen : (buffers : Option Buffers) (peer : Peer) (ordinal : Ordinal) (state : State) (own : Own) → IsKnown buffers peer ordinal state
    → seen_change buffers peer ordinal (own_change state ordinal own) ≡ own-next (seen_of buffers peer ordinal state) own
unfolding seen_change own-next
own-seen buffers peer ordinal state own known =
    let connection : ConnectionState = state.connections ordinal in
    let effect : Effect = effect_of state.shared (state.bonds connection.peer) (state.owed connection.peer) connection own in
    let shared : SharedState = with_buffers state.shared buffers in
    let itself : (ordinal == ordinal) ≡ true = eq-eqb ordinal ordinal refl in
    ap (λ (same : Bool).
    seen_end (with_buffers (with_values state.shared effect.values) buffers) (at_peer connection.peer effect.bond state.bonds peer)
    (at_peer connection.peer effect.owed state.owed peer)
    (if same then effect.to_notify_here else effect.to_notify) (without_commands (if same then effect.connection else connection))) itself
    ∙ own-at buffers peer ordinal state own (is_live connection.mark) refl known
    ∙ sym (seen-silent shared (effect_of shared (state.bonds peer) (state.owed peer) connection own))
    ∙ ap (seen_effect shared) (sym (effect-silent shared (state.bonds peer) (state.owed peer) connection own))
    ∙ seen-silent shared (effect_of shared (state.bonds peer) (state.owed peer) (without_commands connection) own)
