-- A queue gains only what is due.
use Rattle.std.proofs.Common.{◌≡◌, ℕ, ◌+◌, Bool, true, false, List, ◌++◌, length, map, None, refl, sym, ap, subst, ◌∙◌, append_assoc}
use Rattle.std.specs.Prelude.{IfSome, is_some, nat_lt, ◌||◌, if◌then◌else◌}
use Rattle.std.specs.Option.{option_map, option_to_list}
use Rattle.att_numbers.specs.Types.{Handle, Row, Mtu}
use Rattle.att_pdu.specs.Response.{Response}
use Rattle.att_policy.specs.declared.standing.Standing.{Standing}
use Rattle.gatt_laws.proofs.runs.Ends.{end_keeps}
use Rattle.gatt_laws.specs.laws.Headline.{Each}
use Rattle.gatt_laws.specs.laws.OwnWrites.{row_of_connection}
use Rattle.gatt_laws.specs.machine.Controller.{command_of_init, count_before, without_command}
use Rattle.gatt_laws.specs.machine.Event.{Ordinal, Event}
use Rattle.gatt_laws.specs.machine.Heard.{hearer_of, after_hearing, heard_in_turn, att_pdu}
use Rattle.gatt_laws.specs.machine.ConnectionState.{ConnectionState, is_live, row_in_force, connection_mtu, standing_of}
use Rattle.gatt_laws.specs.machine.SharedState.{SharedState, Bonds, share_of, fragment_size_of}
use Rattle.gatt_laws.specs.machine.State.{State, Change, change_of, finished, connections_finished, step}
use Rattle.gatt_subs.specs.Hearing.{wants_indications}
use Rattle.gatt_subs.specs.Indications.{Indications, hears, is_waiting}
use Rattle.gatt_subs.specs.Told.{Hearer, notification_of, indication_of}
use Rattle.le_acl.specs.History.{packets_allowed}
use Rattle.le_acl.specs.Packets.{Pdu}
use Rattle.gatt_theorems.specs.Gained.{kept_queue, answers_at, to_notify_for, picked, TellsOnly, GainsOnlyWhatIsDue}
use Rattle.gatt_theorems.proofs.HearerTold.{Hears, Leaves, MayHear, hears-in-turn, if-some, leaves-in-turn}
use Rattle.gatt_theorems.proofs.GainedBefore.{change-queue, change-raises, change-waited}

-- At its end.

given-queue : (connection : ConnectionState) (given : ℕ) (live : Bool) → (if live then record connection { given = given } else connection).pdus
    ≡ connection.pdus
given-queue connection given true = refl
given-queue connection given false = refl

pub sent_queue : (connection : ConnectionState) (sent : Bool) → (if sent then without_command connection else connection).pdus ≡ connection.pdus
sent_queue connection true =
    elim (is_some connection.reason) as (λ (has : Bool). (if has then record connection { reason = None } else record connection { reply = None }).pdus
    ≡ connection.pdus) [
      | true ↦ refl
      | false ↦ refl
    ]
sent_queue connection false = refl

told-at : SharedState → Bonds → List Handle → ConnectionState → List Response
told-at shared bonds handles connection =
    (heard_in_turn shared.table.attributes shared.table.values (hearer_of shared (bonds connection.peer) connection) shared.time handles).responses

finished-queue : (shared : SharedState) (bonds : Bonds) (handles : List Handle) (connection : ConnectionState)
    → (finished shared bonds handles connection).pdus ≡ connection.pdus ++ map att_pdu (told-at shared bonds handles connection)
unfolding after_hearing told-at
finished-queue shared bonds handles connection =
    let heard : ConnectionState = after_hearing shared (bonds connection.peer) handles connection in
    given-queue heard (packets_allowed (share_of shared.slots shared.buffers) (fragment_size_of shared.buffers) heard.pdus heard.done) (is_live heard.mark)

step-queue : (state : State) (event : Event) (ordinal : Ordinal)
    → (let change : Change = change_of state event in
    ((step state event).connections ordinal).pdus
    ≡ (change.state.connections ordinal).pdus
    ++ map att_pdu (told-at change.state.shared change.state.bonds (change.to_notify ordinal) (change.state.connections ordinal)))
unfolding step
step-queue state event ordinal =
    let change : Change = change_of state event in
    sent_queue (connections_finished change ordinal)
    (nat_lt (length (command_of_init change.state.controller) + count_before ordinal (connections_finished change) change.state.slots)
    change.state.controller.credit)
    ∙ finished-queue change.state.shared change.state.bonds (change.to_notify ordinal) (change.state.connections ordinal)

-- and what it leaves of the indications
given-pending : (connection : ConnectionState) (given : ℕ) (live : Bool) → (if live then record connection { given = given } else connection).pending
    ≡ connection.pending
given-pending connection given true = refl
given-pending connection given false = refl

sent-pending : (connection : ConnectionState) (sent : Bool) → (if sent then without_command connection else connection).pending ≡ connection.pending
sent-pending connection true =
    elim (is_some connection.reason) as (λ (has : Bool). (if has then record connection { reason = None } else record connection { reply = None }).pending
    ≡ connection.pending) [
      | true ↦ refl
      | false ↦ refl
    ]
sent-pending connection false = refl

pending-at : SharedState → Bonds → List Handle → ConnectionState → Indications
pending-at shared bonds handles connection =
    (heard_in_turn shared.table.attributes shared.table.values (hearer_of shared (bonds connection.peer) connection) shared.time handles).pending

step-pending : (state : State) (event : Event) (ordinal : Ordinal)
    → (let change : Change = change_of state event in
    ((step state event).connections ordinal).pending
    ≡ pending-at change.state.shared change.state.bonds (change.to_notify ordinal) (change.state.connections ordinal))
unfolding step after_hearing pending-at
step-pending state event ordinal =
    let change : Change = change_of state event in
    let shared : SharedState = change.state.shared in
    let connection : ConnectionState = change.state.connections ordinal in
    let heard : ConnectionState = after_hearing shared (change.state.bonds connection.peer) (change.to_notify ordinal) connection in
    sent-pending (connections_finished change ordinal)
    (nat_lt (length (command_of_init change.state.controller) + count_before ordinal (connections_finished change) change.state.slots)
    change.state.controller.credit)
    ∙ given-pending heard (packets_allowed (share_of shared.slots shared.buffers) (fragment_size_of shared.buffers) heard.pdus heard.done) (is_live heard.mark)

-- what is told, by what is notified
record TellsOf (state : State) (event : Event) (ordinal : Ordinal) (told : List Response) (raised : List Handle) : Type 0 where
  only : TellsOnly (step state event) ordinal raised (state.connections ordinal).pending.waiting told
  single : IfSome only.indicated (λ handle. ((change_of state event).state.connections ordinal).pending.unconfirmed ≡ None)

-- what a hearer is told, in the words of the state in which the event ends
tells-only : (state : State) (event : Event) (ordinal : Ordinal) (raised : List Handle) (told : List Response)
    → (let change : Change = change_of state event in let connection : ConnectionState = change.state.connections ordinal in
    let hearer : Hearer = hearer_of change.state.shared (change.state.bonds connection.peer) connection in
    Hears change.state.shared.table.attributes change.state.shared.table.values hearer raised told
    → Leaves hearer raised ((step state event).connections ordinal).pending
    → TellsOf state event ordinal told raised)
unfolding step
tells-only state event ordinal raised told hears leaves =
    let change : Change = change_of state event in
    let connection : ConnectionState = change.state.connections ordinal in
    let shared : SharedState = change.state.shared in
    let mtu = end_keeps (λ (of : ConnectionState). connection_mtu shared of) (λ of pdus pending given reply reason. refl) state event ordinal in
    let row =
    end_keeps (λ (of : ConnectionState). row_in_force (change.state.bonds of.peer) of) (λ of pdus pending given reply reason. refl) state event ordinal in
    let standing = end_keeps (λ (of : ConnectionState). standing_of shared of) (λ of pdus pending given reply reason. refl) state event ordinal in
    let only : TellsOnly (step state event) ordinal raised (state.connections ordinal).pending.waiting told = record {
      picks = hears.picks;
      indicated = hears.indicated;
      is = hears.is ∙ ap (λ (of : Mtu).
          map (λ handle. notification_of shared.table.values handle of) (picked hears.picks raised)
          ++ option_to_list (option_map (λ handle. indication_of shared.table.values handle of) hears.indicated)) (sym mtu);
      due = if-some _ (λ handle. (is_waiting raised handle || is_waiting (state.connections ordinal).pending.waiting handle) ≡ true) hears.indicated
          (λ handle is. waited (is_waiting raised handle) (is_waiting connection.pending.waiting handle)
          (is_waiting (state.connections ordinal).pending.waiting handle)
          (change-waited state event ordinal handle) is) hears.due;
      may = subst
          (λ (of : Standing). Each (MayHear shared.table.attributes (row_of_connection (step state event) ordinal) of)
          (picked hears.picks raised ++ option_to_list hears.indicated))
          (sym standing)
          (subst (λ (of : Row). Each (MayHear shared.table.attributes of (standing_of shared connection))
          (picked hears.picks raised ++ option_to_list hears.indicated))
          (sym row) hears.may);
      notified = subst (λ (of : Row). Each (λ handle. wants_indications of handle ≡ false) (picked hears.picks raised)) (sym row) hears.notified;
      asked = subst (λ (of : Row). Each (λ handle. wants_indications of handle ≡ true) (option_to_list hears.indicated)) (sym row) hears.asked;
      waits = λ handle is.
          waited (is_waiting raised handle) (is_waiting connection.pending.waiting handle) (is_waiting (state.connections ordinal).pending.waiting handle)
          (change-waited state event ordinal handle) (leaves.waits handle is);
      in_time = λ late. hears.in_time (sym leaves.late ∙ late);
    } in
    record { only = only; single = hears.single }
  where
    waited : (raised now before : Bool) → (now ≡ true → before ≡ true) → (raised || now) ≡ true → (raised || before) ≡ true
    waited true now before waits is = refl
    waited false now before waits is = waits is

pub gains_only_what_is_due : GainsOnlyWhatIsDue
unfolding told-at pending-at
gains_only_what_is_due state event ordinal =
    let change : Change = change_of state event in
    let connection : ConnectionState = change.state.connections ordinal in
    let shared : SharedState = change.state.shared in
    let raised : List Handle = change.to_notify ordinal in
    let told : List Response = told-at shared change.state.bonds raised connection in
    let hearer : Hearer = hearer_of shared (change.state.bonds connection.peer) connection in
    let hears : Hears shared.table.attributes shared.table.values hearer raised told =
    hears-in-turn shared.table.attributes shared.table.values hearer shared.time raised in
    let leaves : Leaves hearer raised ((step state event).connections ordinal).pending =
    subst (λ (pending : Indications). Leaves hearer raised pending) (sym (step-pending state event ordinal))
    (leaves-in-turn shared.table.attributes shared.table.values hearer shared.time raised) in
    let tells : TellsOf state event ordinal told (to_notify_for state ordinal event) =
    subst (TellsOf state event ordinal told) (change-raises state event ordinal)
    (tells-only state event ordinal raised told hears leaves) in
    record {
      told = told;
      queue =
          step-queue state event ordinal
          ∙ ap (λ (pdus : List Pdu). pdus ++ map att_pdu told) (change-queue state event ordinal)
          ∙ append_assoc (kept_queue state ordinal event) (answers_at state ordinal event) (map att_pdu told);
      only = tells.only;
      single = tells.single;
    }
