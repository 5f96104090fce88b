-- Each possible event keeps what is queued within its bounds.
use Rattle.std.proofs.Common.{◌≡◌, ℕ, ◌+◌, ◌-◌, ◌<◌, ◌≤◌, Bool, true, false, List, [], ◌∷◌, ◌++◌, length, map, Option, Some, None, refl, sym, ap, subst, ◌∙◌, inl, inr, arith, append_assoc, append-nil}
use Rattle.std.specs.Prelude.{min, is_some, nat_lt, nat_le, ◌==◌, ◌&&◌, if◌then◌else◌}
use Rattle.std.specs.Option.{option_map, option_to_list}
use Rattle.std.proofs.lemmas.Bool.{cases_lt, le-ltb, lt-ltb, ltb-true, leb-false}
use Rattle.std.proofs.lemmas.List.{length-append, map-append}
use Rattle.att_numbers.specs.Types.{Handle, Row, Values}
use Rattle.att_pdu.specs.Grammar.{request_of, is_due}
use Rattle.att_pdu.specs.Response.{Response}
use Rattle.att_attributes.specs.declared.attr.Attr.{Attr}
use Rattle.gatt_conn.proofs.Dues.{answered_where_due}
use Rattle.gatt_conn.specs.Answer.{Question, answer_to}
use Rattle.gatt_laws.proofs.runs.Always.{always, any_tables}
use Rattle.std.proofs.lemmas.List.{length-map}
use Rattle.att_table.specs.ConfigRow.{kept_row}
use Rattle.att_table.specs.Table.{Contents}
use Rattle.gatt_conn.specs.Transcript.{Dropped}
use Rattle.gatt_laws.proofs.invariants.Settled.{stays_settled, settled_at_first}
use Rattle.gatt_laws.specs.machine.Controller.{command_of_init, count_before, without_command, is_ready}
use Rattle.gatt_laws.specs.machine.Input.{run_at_start, run}
use Rattle.gatt_laws.specs.laws.Possible.{Possible}
use Rattle.gatt_laws.specs.machine.SharedState.{SharedState, Bonds, share_of, fragment_size_of}
use Rattle.gatt_laws.specs.laws.Settled.{has_slot, IsSettled}
use Rattle.gatt_laws.specs.machine.Start.{before_first_command}
use Rattle.gatt_laws.specs.machine.State.{State, Change, own_change, with_packets_completed, after_packets_completed, connection_after_replacement, change_of, finished, connections_finished, step}
use Rattle.gatt_laws.specs.machine.Effect.{effect_on_connection, served, is_full, request_effect, after_other_channel, channel_answer, with_step, lost_encryption, live_effect, effect_of, remote_user_terminated, authentication_failure}
use Rattle.gatt_subs.specs.Indications.{after_replacement}
use Rattle.le_acl.specs.History.{packets_allowed}
use Rattle.le_security.specs.Link.{Step, Encryption, Refresh}
use Rattle.octet_io.proofs.Choices.{and_true_right}
use Rattle.octet_io.specs.Number.{Octets}
use Rattle.gatt_laws.specs.machine.Event.{Ordinal, Own, Event, Connected, Disconnected, Encrypted, Refreshed, Asks, OtherChannel, Of, Completed, Credit, Tick, Replaced}
use Rattle.gatt_laws.specs.machine.Heard.{Heard, hearer_of, after_hearing, heard_when_notifying, hearer_after, heard_in_turn, att_pdu}
use Rattle.gatt_laws.specs.machine.ConnectionState.{ConnectionState, no_connection, fresh_connection, is_live, is_there, key_of, row_in_force, connection_mtu, bearer_of, backlog_of, with_pdus, after_ending}
use Rattle.gatt_laws.specs.laws.Queued.{IsWithinBounds, HasBoundedQueues, AlwaysHasBoundedQueues}
use Rattle.gatt_subs.specs.Indications.{first_handle, from_due, is_notified, may_indicate, indicated_handle}
use Rattle.gatt_subs.specs.Hearing.{is_indicated}
use Rattle.gatt_subs.specs.Told.{Hearer, notification_of, indication_of}
use Rattle.le_acl.proofs.Shares.{fragments-some, rest-push}
use Rattle.le_acl.specs.Fragment.{Fragment}
use Rattle.le_acl.specs.Packets.{Pdu, fragments_of, packets_of, total, rest}

-- what is left where more is given
rest-most : (given : ℕ) (queued : List (List Fragment)) → length (rest given queued) ≤ length queued
rest-most given [] = omega arith
rest-most given (packets ∷ queued) = elim (cases_lt given (length packets)) [
  | inl less ↦ rw (lt-ltb given (length packets) less) (omega arith)
  | inr past ↦ rw (le-ltb given (length packets) past) (omega (arith, rest-most (given - length packets) queued))
]

rest-fewer : (given more : ℕ) (queued : List (List Fragment)) → given ≤ more → length (rest more queued) ≤ length (rest given queued)
rest-fewer given more [] le = omega arith
rest-fewer given more (packets ∷ queued) le = elim (cases_lt given (length packets)) [
  | inl less ↦
      elim (cases_lt more (length packets)) [
        | inl both ↦ rw (lt-ltb given (length packets) less) (rw (lt-ltb more (length packets) both) (omega arith))
        | inr past ↦
            rw (lt-ltb given (length packets) less) (rw (le-ltb more (length packets) past) (omega (arith, rest-most (more - length packets) queued)))
      ]
  | inr past ↦
      rw (le-ltb given (length packets) past) (rw (le-ltb more (length packets) (omega arith))
      (rest-fewer (given - length packets) (more - length packets) queued (omega arith)))
]

-- how much is queued with PDUs more
module _ (size : ℕ) where
  total-push : (pdus : List Pdu) (pdu : Pdu) → total size pdus ≤ total size (pdus ++ pdu ∷ [])
  total-push [] pdu = omega arith
  total-push (first ∷ pdus) pdu =
      omega (
        arith,
        total-push pdus pdu,
        length-append (fragments_of size first) (packets_of size pdus),
        length-append (fragments_of size first) (packets_of size (pdus ++ pdu ∷ [])),
      )

  left : ℕ → List Pdu → ℕ
  left given pdus = length (rest given (map (fragments_of size) pdus))

  left-push : (given : ℕ) (pdus : List Pdu) (pdu : Pdu) → given ≤ total size pdus → left given (pdus ++ pdu ∷ []) ≡ left given pdus + 1
  unfolding left
  left-push given pdus pdu within =
      ap (λ (queued : List (List Fragment)). length (rest given queued)) (map-append (fragments_of size) pdus (pdu ∷ []))
      ∙ ap length (rest-push given (map (fragments_of size) pdus) (fragments_of size pdu) within (fragments-some size pdu))
      ∙ length-append (rest given (map (fragments_of size) pdus)) (fragments_of size pdu ∷ [])

  record HasMore (given : ℕ) (pdus more : List Pdu) : Type 0 where
    count : left given (pdus ++ more) ≡ left given pdus + length more
    total : given ≤ total size (pdus ++ more)

  has-more : (given : ℕ) (pdus more : List Pdu) → given ≤ total size pdus → HasMore given pdus more
  has-more given pdus [] within = record {
    count = ap (left given) (append-nil pdus) ∙ omega arith;
    total = subst (λ (all : List Pdu). given ≤ total size all) (sym (append-nil pdus)) within;
  }
  has-more given pdus (pdu ∷ more) within =
      let next = has-more given (pdus ++ pdu ∷ []) more (omega (arith, total-push pdus pdu)) in
      let same : (pdus ++ pdu ∷ []) ++ more ≡ pdus ++ (pdu ∷ more) = append_assoc pdus (pdu ∷ []) more in
      record {
        count = ap (left given) (sym same) ∙ next.count ∙ omega (arith, left-push given pdus pdu within);
        total = subst (λ (all : List Pdu). given ≤ total size all) same next.total;
      }

-- what a hearer is sent
one-or-none : {X : Type 0} (found : Option X) (count : ℕ) → count < 16 → count + length (option_to_list found) ≤ 16
one-or-none (Some x) count few = omega arith
one-or-none None count few = omega arith

raised-few : (attributes : List Attr) (values : Values) (hearer : Hearer) (handle : Handle) → hearer.backlog ≤ 16
    → hearer.backlog + length (heard_when_notifying attributes values hearer handle).responses ≤ 16
raised-few attributes values hearer handle few =
    elim (hearer.live && is_notified hearer.pending attributes hearer.row hearer.standing handle hearer.backlog) as
    (λ (tells : Bool). (hearer.live && is_notified hearer.pending attributes hearer.row hearer.standing handle hearer.backlog) ≡ tells
    → hearer.backlog + length (option_to_list (if tells then Some (notification_of values handle hearer.mtu) else None)) ≤ 16) [
      | true ↦ λ is.
          let below_limit : nat_lt hearer.backlog 8 ≡ true = and_true_right _ _ (and_true_right hearer.live _ is) in
          omega (arith, ltb-true hearer.backlog 8 below_limit)
      | false ↦ λ is. omega (arith, few)
    ] refl

released-if : (attributes : List Attr) (values : Values) (hearer : Hearer) (live : Bool) → hearer.backlog ≤ 16
    → hearer.backlog + length (option_to_list (if live then option_map (λ handle. indication_of values handle hearer.mtu)
    (indicated_handle hearer.pending attributes hearer.row hearer.standing hearer.backlog) else None)) ≤ 16
released-if attributes values hearer false few = omega (arith, few)
released-if attributes values hearer true few =
    elim (may_indicate hearer.pending hearer.backlog) as
    (λ (may : Bool). may_indicate hearer.pending hearer.backlog ≡ may
    → hearer.backlog + length (option_to_list (option_map (λ handle. indication_of values handle hearer.mtu)
    (if may then first_handle (from_due (is_indicated attributes hearer.row hearer.standing) hearer.pending.waiting) else None))) ≤ 16) [
      | true ↦ λ is.
          let below_limit : nat_lt hearer.backlog 8 ≡ true = and_true_right _ _ is in
          one-or-none
          (option_map (λ handle. indication_of values handle hearer.mtu)
          (first_handle (from_due (is_indicated attributes hearer.row hearer.standing) hearer.pending.waiting)))
          hearer.backlog (omega (arith, ltb-true hearer.backlog 8 below_limit))
      | false ↦ λ is. omega (arith, few)
    ] refl

heard-few : (attributes : List Attr) (values : Values) (hearer : Hearer) (now : ℕ) (handles : List Handle) → hearer.backlog ≤ 16
    → hearer.backlog + length (heard_in_turn attributes values hearer now handles).responses ≤ 16
heard-few attributes values hearer now [] few = released-if attributes values hearer hearer.live few
heard-few attributes values hearer now (handle ∷ handles) few =
    let first : Heard = heard_when_notifying attributes values hearer handle in
    let others : Heard = heard_in_turn attributes values (hearer_after hearer first) now handles in
    omega (
      arith,
      length-append first.responses others.responses,
      heard-few attributes values (hearer_after hearer first) now handles (raised-few attributes values hearer handle few),
    )

-- one connection
few-answers : (count : ℕ) (answer : Option Response) (due full : Bool) → is_some answer ≡ due → (due && full) ≡ false → (full ≡ false → count < 16) → count ≤ 16
    → count + length (map att_pdu (option_to_list answer)) ≤ 16
few-answers count (Some response) true false is shared below few = omega (arith, below refl)
few-answers count (Some response) true true is shared below few = cc shared
few-answers count (Some response) false full is shared below few = cc is
few-answers count None due full is shared below few = omega (arith, few)

module _ (share size : ℕ) where
  abbrev Within : ConnectionState → Type 0
  Within connection = IsWithinBounds share size connection

  nothing-queued : (connection : ConnectionState) → connection.pdus ≡ [] → connection.given ≡ 0 → connection.done ≡ 0 → Within connection
  nothing-queued connection none given done = record {
    few = subst (λ (pdus : List Pdu). length (rest connection.given (map (fragments_of size) pdus)) ≤ 16) (sym none) (omega arith);
    given = omega (arith, given);
    within = omega (arith, given);
    done = omega (arith, done);
  }

  with-more : (connection : ConnectionState) (more : List Pdu) → Within connection → left size connection.given connection.pdus + length more ≤ 16
      → Within (with_pdus connection more)
  unfolding left
  with-more connection more is few =
      let queued = has-more size connection.given connection.pdus more is.given in
      record { few = omega (arith, queued.count, few); given = queued.total; within = is.within; done = is.done }

  -- a slot is full
  not-full : (count : ℕ) → nat_le 16 count ≡ false → count < 16
  not-full count is = omega (arith, leb-false 16 count is)

  module _ (shared : SharedState) (shares : share_of shared.slots shared.buffers ≡ share) (sizes : fragment_size_of shared.buffers ≡ size) where
    below : (connection : ConnectionState) → is_full shared connection ≡ false → left size connection.given connection.pdus < 16
    unfolding left
    below connection is =
        subst (λ (n : ℕ). length (rest connection.given (map (fragments_of n) connection.pdus)) < 16) sizes (not-full (backlog_of shared connection) is)

    ending : (connection : ConnectionState) (reason : ℕ) → Within connection → Within (after_ending connection reason)
    ending connection reason is = record { few = is.few; given = is.given; within = is.within; done = is.done }

    served-within : (bond : Row) (owed : Bool) (connection : ConnectionState) (pdu : Octets) (asked : Question) → (is_due asked && is_full shared connection)
        ≡ false → Within connection
        → Within (served shared bond owed connection pdu asked).connection
    unfolding left
    served-within bond owed connection pdu asked room_is is =
        let answer = answer_to shared.table (row_in_force bond connection) (bearer_of shared connection) asked in
        let more : Within (with_pdus connection (map att_pdu (option_to_list answer))) =
        with-more connection (map att_pdu (option_to_list answer)) is
        (few-answers (left size connection.given connection.pdus) answer (is_due asked) (is_full shared connection)
        (answered_where_due shared.table (row_in_force bond connection) (bearer_of shared connection) asked) room_is (below connection) is.few) in
        record { few = more.few; given = more.given; within = more.within; done = more.done }

    request-within : (bond : Row) (owed : Bool) (connection : ConnectionState) (pdu : Octets) → Within connection
        → Within (request_effect shared bond owed connection pdu).connection
    request-within bond owed connection pdu is =
        let asked : Question = request_of pdu (connection_mtu shared connection) in
        elim (is_due asked && is_full shared connection) as (λ (full : Bool). (is_due asked && is_full shared connection) ≡ full
        → Within (if full then effect_on_connection shared bond owed (after_ending connection remote_user_terminated)
        else served shared bond owed connection pdu asked).connection) [
          | true ↦ λ full. ending connection remote_user_terminated is
          | false ↦ λ free. served-within bond owed connection pdu asked free is
        ] refl

    channel-within : (connection : ConnectionState) (channel : ℕ) (answer : Option Octets) → Within connection
        → Within (after_other_channel shared connection channel answer)
    unfolding left
    channel-within connection channel None is = is
    channel-within connection channel (Some answer) is =
        elim (is_full shared connection) as (λ (full : Bool). is_full shared connection ≡ full
        → Within (if full then after_ending connection remote_user_terminated else with_pdus connection ((channel, answer) ∷ []))) [
          | true ↦ λ full. ending connection remote_user_terminated is
          | false ↦ λ free. with-more connection ((channel, answer) ∷ []) is (omega (arith, below connection free))
        ] refl

    link-within : (connection : ConnectionState) (step : Step) (lost : Bool) → Within connection
        → Within (if lost then after_ending (with_step connection step) authentication_failure else with_step connection step)
    link-within connection step true is = record { few = is.few; given = is.given; within = is.within; done = is.done }
    link-within connection step false is = record { few = is.few; given = is.given; within = is.within; done = is.done }

    live-within : (bond : Row) (owed : Bool) (connection : ConnectionState) (own : Own) → Within connection
        → Within (live_effect shared bond owed connection own).connection
    unfolding live_effect
    live-within bond owed connection (Asks pdu) is = request-within bond owed connection pdu is
    live-within bond owed connection (OtherChannel channel payload) is = channel-within connection channel (channel_answer channel payload) is
    live-within bond owed connection (Encrypted status enabled) is =
        link-within connection (Encryption status enabled) (lost_encryption (key_of connection) (key_of (with_step connection (Encryption status enabled)))) is
    live-within bond owed connection (Refreshed status) is =
        link-within connection (Refresh status) (lost_encryption (key_of connection) (key_of (with_step connection (Refresh status)))) is
    live-within bond owed connection (Connected handle peer) is = is
    live-within bond owed connection Disconnected is = is
    live-within bond owed connection own is = record { few = is.few; given = is.given; within = is.within; done = is.done }

    if-live : (bond : Row) (owed : Bool) (connection : ConnectionState) (own : Own) (live : Bool) → Within connection
        → Within (if live then live_effect shared bond owed connection own else effect_on_connection shared bond owed connection).connection
    if-live bond owed connection own true is = live-within bond owed connection own is
    if-live bond owed connection own false is = is

    turn-within : (bond : Row) (owed : Bool) (connection : ConnectionState) (own : Own) → Within connection
        → Within (effect_of shared bond owed connection own).connection
    turn-within bond owed connection (Connected handle peer) is =
        elim (is_there connection.mark) as (λ (there : Bool). Within (if there then connection else fresh_connection handle peer))
        [ true ↦ is | false ↦ nothing-queued (fresh_connection handle peer) refl refl refl ]
    turn-within bond owed connection Disconnected is = nothing-queued no_connection refl refl refl
    turn-within bond owed connection own is = if-live bond owed connection own (is_live connection.mark) is

    -- and at the end of an event
    pub heard-within : (bond : Row) (handles : List Handle) (connection : ConnectionState) → Within connection
        → Within (after_hearing shared bond handles connection)
    unfolding after_hearing left
    heard-within bond handles connection is =
        let hearer : Hearer = hearer_of shared bond connection in
        let heard : Heard = heard_in_turn shared.table.attributes shared.table.values hearer shared.time handles in
        let few : backlog_of shared connection ≤ 16 =
        subst (λ (n : ℕ). length (rest connection.given (map (fragments_of n) connection.pdus)) ≤ 16) (sym sizes) is.few in
        let told : backlog_of shared connection + length heard.responses ≤ 16 =
        heard-few shared.table.attributes shared.table.values hearer shared.time handles few in
        let same : backlog_of shared connection ≡ left size connection.given connection.pdus =
        ap (λ (n : ℕ). length (rest connection.given (map (fragments_of n) connection.pdus))) sizes in
        let more : Within (with_pdus connection (map att_pdu heard.responses)) =
        with-more connection (map att_pdu heard.responses) is (omega (arith, told, same, length-map heard.responses att_pdu)) in
        record { few = more.few; given = more.given; within = more.within; done = more.done }

    given-within : (connection : ConnectionState) (live : Bool) → Within connection
        → Within
        (if live
        then record connection
        { given = packets_allowed (share_of shared.slots shared.buffers) (fragment_size_of shared.buffers) connection.pdus connection.done } else connection)
    given-within connection false is = is
    given-within connection true is =
        let given : ℕ = packets_allowed (share_of shared.slots shared.buffers) (fragment_size_of shared.buffers) connection.pdus connection.done in
        let same : given ≡ min (total size connection.pdus) (share + connection.done) =
        ap (λ (n : ℕ). min (total n connection.pdus) (share_of shared.slots shared.buffers + connection.done)) sizes
        ∙ ap (λ (n : ℕ). min (total size connection.pdus) (n + connection.done)) shares in
        let more : connection.given ≤ given = omega (arith, same, is.given, is.within) in
        record {
          few = omega (arith, rest-fewer connection.given given (map (fragments_of size) connection.pdus) more, is.few);
          given = omega (arith, same);
          within = omega (arith, same);
          done = omega (arith, is.done, more);
        }

    finished-within : (bonds : Bonds) (handles : List Handle) (connection : ConnectionState) → Within connection
        → Within (finished shared bonds handles connection)
    finished-within bonds handles connection is =
        let heard : ConnectionState = after_hearing shared (bonds connection.peer) handles connection in
        given-within heard (is_live heard.mark) (heard-within (bonds connection.peer) handles connection is)

  sent-within : (connection : ConnectionState) (sent : Bool) → Within connection → Within (if sent then without_command connection else connection)
  sent-within connection true is =
      elim (is_some connection.reason) as (λ (has : Bool). Within (if has then record connection { reason = None } else record connection { reply = None })) [
        | true ↦ record { few = is.few; given = is.given; within = is.within; done = is.done }
        | false ↦ record { few = is.few; given = is.given; within = is.within; done = is.done }
      ]
  sent-within connection false is = is

  completed-within : (ordinal : Ordinal) (entries : List (Ordinal × ℕ)) (connection : ConnectionState) → Within connection
      → Within (after_packets_completed ordinal entries connection)
  completed-within ordinal [] connection is = is
  completed-within ordinal (entry ∷ entries) connection is =
      completed-within ordinal entries (if entry.0 == ordinal then with_packets_completed connection entry.1 else connection)
      (elim (entry.0 == ordinal) as (λ (own : Bool). Within (if own then with_packets_completed connection entry.1 else connection)) [
        | true ↦ record { few = is.few; given = is.given; within = omega (arith, is.within); done = omega (arith, is.done) }
        | false ↦ is
      ])

  replaced-within : (old new : Contents) (connection : ConnectionState) → Within connection → Within (connection_after_replacement old new connection)
  replaced-within old new connection is =
      elim (is_live connection.mark) as
      (λ (live : Bool).
      Within (record (if live then record connection { said = Dropped ∷ connection.said; pending = after_replacement connection.pending } else connection)
      { row = kept_row old.attributes new.attributes connection.row })) [
        | true ↦ record { few = is.few; given = is.given; within = is.within; done = is.done }
        | false ↦ record { few = is.few; given = is.given; within = is.within; done = is.done }
      ]

-- all connections
pub record IsKept (state : State) : Type 0 where
  pub settled : IsSettled state
  pub queued : HasBoundedQueues state

own-queued : (state : State) (at : Ordinal) (own : Own) → HasBoundedQueues state → HasBoundedQueues (own_change state at own).state
own-queued state at own queued = λ ordinal.
    let connection : ConnectionState = state.connections at in
    let share = share_of state.shared.slots state.shared.buffers in
    let size = fragment_size_of state.shared.buffers in
    elim (ordinal == at) as
    (λ (same : Bool).
    IsWithinBounds share size (if same then (effect_of state.shared (state.bonds connection.peer) (state.owed connection.peer) connection own).connection
    else state.connections ordinal)) [
      | true ↦ turn-within share size state.shared refl refl (state.bonds connection.peer) (state.owed connection.peer) connection own (queued at)
      | false ↦ queued ordinal
    ]

-- before the controller is initialised nobody is there
early-queued : (state : State) (share size : ℕ) (ordinal : Ordinal) → IsSettled state → is_ready state.controller ≡ false
    → IsWithinBounds share size (state.connections ordinal)
early-queued state share size ordinal settled early =
    let none : state.connections ordinal ≡ no_connection = settled.absent ordinal (ap (has_slot ordinal) (settled.early early)) in
    subst (λ (connection : ConnectionState). IsWithinBounds share size connection) (sym none) (nothing-queued share size no_connection refl refl refl)

pub change-queued : (state : State) (event : Event) → Possible (λ table. Unit) state event → IsKept state → HasBoundedQueues (change_of state event).state
unfolding change_of
change-queued state (Of at own) possible kept = own-queued state at own kept.queued
change-queued state (Completed entries) possible kept = λ ordinal. completed-within _ _ ordinal entries (state.connections ordinal) (kept.queued ordinal)
change-queued state (Credit allowed opcode status (Some init)) possible kept = λ ordinal. early-queued state _ _ ordinal kept.settled possible
change-queued state (Tick time) possible kept = λ ordinal.
    let is = kept.queued ordinal in record { few = is.few; given = is.given; within = is.within; done = is.done }
change-queued state (Replaced table) possible kept = λ ordinal. replaced-within _ _ state.shared.table table (state.connections ordinal) (kept.queued ordinal)
change-queued state event possible kept = kept.queued

pub stays-kept : (state : State) (event : Event) → Possible (λ table. Unit) state event → IsKept state → IsKept (step state event)
unfolding step
stays-kept state event possible kept =
    let change : Change = change_of state event in
    let share = share_of change.state.shared.slots change.state.shared.buffers in
    let size = fragment_size_of change.state.shared.buffers in
    record {
      settled = stays_settled state event possible kept.settled;
      queued = λ ordinal.
          sent-within share size (connections_finished change ordinal)
          (nat_lt (length (command_of_init change.state.controller) + count_before ordinal (connections_finished change) change.state.slots)
          change.state.controller.credit)
          (finished-within share size change.state.shared refl refl change.state.bonds (change.to_notify ordinal) (change.state.connections ordinal)
          (change-queued state event possible kept ordinal));
    }

pub always_has_bounded_queues : AlwaysHasBoundedQueues
unfolding run
always_has_bounded_queues start input =
    let old : State = before_first_command start in
    (always (λ table. Unit) IsKept stays-kept (run_at_start start) input (any_tables input) (record {
      settled = settled_at_first start;
      queued = λ ordinal.
          sent-within _ _ no_connection
          (nat_lt (length (command_of_init old.controller) + count_before ordinal old.connections old.slots) old.controller.credit)
          (nothing-queued _ _ no_connection refl refl refl);
    })).queued
