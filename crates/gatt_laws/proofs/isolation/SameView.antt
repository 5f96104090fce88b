-- What a connection sees of an event decides what it leaves of it.
use Rattle.std.proofs.Common.{◌≡◌, ℕ, zero, suc, arith, ◌+◌, Bool, true, false, List, [], ◌∷◌, ◌++◌, length, map, Option, Some, None, refl, sym, subst, ap, ◌∙◌}
use Rattle.std.specs.Prelude.{nat_lt, drop, take, ◌==◌, ◌&&◌, not, if◌then◌else◌}
use Rattle.std.proofs.lemmas.Grind.{common_steps}
use Rattle.std.specs.Option.{option_to_list}
use Rattle.std.proofs.lemmas.Bool.{eqb-true, not-true}
use Rattle.att_table.specs.Changer.{changer_of}
use Rattle.att_table.specs.ConfigRow.{kept_row}
use Rattle.att_table.specs.Table.{with_value}
use Rattle.gatt_laws.proofs.policy.Stores.{store, set_bits}
use Rattle.gatt_laws.specs.machine.Controller.{command_of_init, count_before}
use Rattle.gatt_laws.specs.machine.Event.{Ordinal, Own, Event, Of, Completed, Credit, Update, Tick, Replaced}
use Rattle.gatt_laws.specs.machine.ConnectionState.{ConnectionState, no_connection, is_live, is_there}
use Rattle.gatt_laws.specs.machine.SharedState.{SharedState, share_of, fragment_size_of}
use Rattle.gatt_laws.specs.laws.Runs.{after_events}
use Rattle.gatt_laws.specs.laws.SameView.{Seen, without_commands, seen_of, IsKnown, LeavesWhoSeesNothing, DoesTheSameToWhoSeesTheSame, IsKnownThroughout, SameViewSamePacketsOfEvents}
use Rattle.gatt_laws.specs.laws.Given.{packets_at, packets_given_in_order}
use Rattle.gatt_laws.specs.laws.Silence.{IsAllGiven}
use Rattle.gatt_laws.specs.machine.State.{State, Change, with_values, own_change, announced, connection_after_replacement, change_of, connections_finished, packets_given, step}
use Rattle.gatt_laws.specs.laws.View.{WrittenByOthers, ShownEvent, Happens, Completes, Updates, Tells, Replaces, Writes, written_in, are_none, is_unseen, shown_written, own_counts, shown_counts, shown, shown_in}
use Rattle.gatt_subs.specs.Fit.{wants_changes}
use Rattle.gatt_subs.specs.Indications.{after_tick}
use Rattle.le_acl.specs.History.{packets_allowed}
use Rattle.le_acl.specs.Outgoing.{acl_octets}
use Rattle.le_acl.specs.Packets.{packets_of}
use Rattle.le_hci.specs.declared.buffers.Buffers.{Buffers}
use Rattle.le_hci.specs.declared.peer.Peer.{Peer}
use Rattle.octet_io.proofs.Choices.{and_true_right, and_true_left}
use Rattle.octet_io.specs.Number.{Octets}
use Rattle.gatt_laws.proofs.isolation.ViewOfOwn.{commands-kept, own-next, own-seen, quiet, seen-at-end, seen_change, seen_end, there-if-live, with_buffers}
use Rattle.gatt_laws.proofs.isolation.ViewOfOthers.{acknowledged, completed-silent, handles_of_values, other-seen, replaced-silent, without-ceasing, write-next}

-- Each event.

seen_next : Seen → ShownEvent → Seen
seen_next old (Happens own) = own-next old own
seen_next old (Completes counts) = seen_end old.shared old.bond old.owed [] (acknowledged old.connection counts)
seen_next old (Updates handle value) =
    seen_end (with_values old.shared (with_value old.shared.table.values handle value)) old.bond old.owed (handle ∷ []) old.connection
seen_next old (Tells time) =
    seen_end (record old.shared { time = time }) old.bond old.owed [] (record old.connection { pending = after_tick old.connection.pending time })
seen_next old (Replaces table) =
    let bond = kept_row old.shared.table.attributes table.attributes old.bond in
    seen_end (record old.shared { table = announced table; changer = changer_of table }) bond (wants_changes (changer_of table) bond)
    (option_to_list (changer_of table))
    (connection_after_replacement old.shared.table table old.connection)
seen_next old (Writes written) = write-next old written

abbrev seen_any : Seen → Option ShownEvent → Seen
seen_any old None = old
seen_any old (Some item) = seen_next old item

module _ (buffers : Option Buffers) (peer : Peer) (ordinal : Ordinal) where
  all-given : (state : State) → IsKnown buffers peer ordinal state
      → IsAllGiven (with_buffers state.shared buffers) (without_commands (state.connections ordinal))
  all-given state known live =
      let connection : ConnectionState = state.connections ordinal in
      known.given live ∙ ap (λ (of : Option Buffers). packets_allowed (share_of state.shared.slots of) (fragment_size_of of) connection.pdus connection.done)
      (known.told (there-if-live connection.mark live))

  quiet-seen : (state : State) → IsKnown buffers peer ordinal state
      → let old : Seen = seen_of buffers peer ordinal state in seen_end old.shared old.bond old.owed [] old.connection ≡ old
  unfolding seen_end
  quiet-seen state known =
      let old : Seen = seen_of buffers peer ordinal state in
      let same = quiet old.shared old.bond old.connection (is_live old.connection.mark) refl (all-given state known) known.released in
      λ i. record old { connection = same i }

  none-there : {A : Type 0} (xs : List A) → are_none xs ≡ true → xs ≡ []
  none-there [] is = refl
  none-there (x ∷ xs) is = cc is

  unseen-next : (state : State) (written : WrittenByOthers) → IsKnown buffers peer ordinal state → is_unseen written ≡ true
      → write-next (seen_of buffers peer ordinal state) written ≡ seen_of buffers peer ordinal state
  unfolding write-next store set_bits handles_of_values
  unseen-next state written known is =
      let old : Seen = seen_of buffers peer ordinal state in
      let lists : (are_none written.values && are_none written.bits) ≡ true =
      and_true_left (are_none written.values && are_none written.bits) (not written.ceases) is in
      let values : written.values ≡ [] = none-there written.values (and_true_left (are_none written.values) (are_none written.bits) lists) in
      let bits : written.bits ≡ [] = none-there written.bits (and_true_right (are_none written.values) (are_none written.bits) lists) in
      let stays : written.ceases ≡ false = not-true written.ceases (and_true_right (are_none written.values && are_none written.bits) (not written.ceases) is)
      in
      (λ i. write-next old (record { values = values i; bits = bits i; ceases = stays i }))
      ∙ ap (λ (owed : Bool). seen_end old.shared old.bond owed [] old.connection) (sym (without-ceasing old.owed))
      ∙ quiet-seen state known

  written-seen : (state : State) (at : Ordinal) (own : Own) (unseen : Bool) → is_unseen (written_in state peer at own) ≡ unseen
      → IsKnown buffers peer ordinal state
      → write-next (seen_of buffers peer ordinal state) (written_in state peer at own)
      ≡ seen_any (seen_of buffers peer ordinal state) (if unseen then None else Some (Writes (written_in state peer at own)))
  unfolding seen_next
  written-seen state at own true is known = unseen-next state (written_in state peer at own) known is
  written-seen state at own false is known = refl

  of-seen : (state : State) (at : Ordinal) (own : Own) (same : Bool) → (ordinal == at) ≡ same → IsKnown buffers peer ordinal state
      → seen_change buffers peer ordinal (own_change state at own)
      ≡ seen_any (seen_of buffers peer ordinal state) (if same then Some (Happens own) else shown_written (written_in state peer at own))
  unfolding seen_next
  of-seen state at own true is known =
      subst (λ (one : Ordinal). seen_change buffers peer ordinal (own_change state one own) ≡ own-next (seen_of buffers peer ordinal state) own)
      (eqb-true ordinal at is)
      (own-seen buffers peer ordinal state own known)
  of-seen state at own false is known =
      other-seen buffers peer ordinal state at own is
      ∙ written-seen state at own (is_unseen (written_in state peer at own)) refl known

  counts-seen : (state : State) (counts : List ℕ) → IsKnown buffers peer ordinal state
      → let old : Seen = seen_of buffers peer ordinal state in
      seen_end old.shared old.bond old.owed [] (acknowledged old.connection counts) ≡ seen_any old (shown_counts counts)
  unfolding seen_next acknowledged
  counts-seen state [] known = quiet-seen state known
  counts-seen state (count ∷ counts) known = refl

  change-seen : (state : State) (event : Event) → IsKnown buffers peer ordinal state
      → seen_change buffers peer ordinal (change_of state event) ≡ seen_any (seen_of buffers peer ordinal state) (shown peer ordinal state event)
  unfolding change_of shown seen_change seen_next
  change-seen state (Of at own) known = of-seen state at own (ordinal == at) refl known
  change-seen state (Completed entries) known =
      ap (seen_end (with_buffers state.shared buffers) (state.bonds peer) (state.owed peer) []) (completed-silent ordinal entries (state.connections ordinal))
      ∙ counts-seen state (own_counts ordinal entries) known
  change-seen state (Credit allowed opcode status (Some init)) known = quiet-seen state known
  change-seen state (Update handle value) known = refl
  change-seen state (Tick time) known = refl
  change-seen state (Replaced table) known =
      let bond = kept_row state.shared.table.attributes table.attributes (state.bonds peer) in
      ap (seen_end (record state.shared { table = announced table; changer = changer_of table; buffers = buffers }) bond (wants_changes (changer_of table) bond)
      (option_to_list (changer_of table)))
      (replaced-silent state.shared.table table (state.connections ordinal))
  change-seen state event known = quiet-seen state known

  step_seen : (state : State) (event : Event) → IsKnown buffers peer ordinal state → IsKnown buffers peer ordinal (step state event)
      → seen_of buffers peer ordinal (step state event) ≡ seen_any (seen_of buffers peer ordinal state) (shown peer ordinal state event)
  step_seen state event known knows = seen-at-end buffers peer ordinal state event knows ∙ change-seen state event known

-- the packets that are given
abbrev gain : Seen → Seen → List Octets
gain old new = packets_given new.shared old.connection new.connection

no-gain : (old : Seen) → gain old old ≡ []
no-gain old = ap (map (acl_octets old.connection.handle)) (dropped old.connection.given (packets_of (fragment_size_of old.shared.buffers) old.connection.pdus))
  where
    dropped : {A : Type 0} (n : ℕ) (xs : List A) → drop n (take n xs) ≡ []
    dropped n [] = grind (arith, common_steps)
    dropped zero (x ∷ xs) = refl
    dropped (suc n) (x ∷ xs) = dropped n xs

nothing-left : {A : Type 0} (n : ℕ) → ◌≡◌ {A = List A} (drop n []) []
nothing-left zero = refl
nothing-left (suc n) = refl

absent-given : (shared : SharedState) (old : ConnectionState) → packets_given shared old no_connection ≡ []
absent-given shared old = ap (map (acl_octets 0)) (nothing-left old.given)

-- over a run
gained : Seen → List ShownEvent → List Octets
gained old [] = []
gained old (item ∷ items) = gain old (seen_next old item) ++ gained (seen_next old item) items

after_shown : Seen → List ShownEvent → Seen
after_shown old [] = old
after_shown old (item ∷ items) = after_shown (seen_next old item) items

gained-next : (old : Seen) (found : Option ShownEvent) (items : List ShownEvent) → gained old (option_to_list found ++ items) ≡ gain old (seen_any old found)
    ++ gained (seen_any old found) items
unfolding gained
gained-next old None items = ap (λ packets. packets ++ gained old items) (sym (no-gain old))
gained-next old (Some item) items = refl

module _ (buffers : Option Buffers) (peer : Peer) (ordinal : Ordinal) where
  told-gain : (state : State) (old : ConnectionState) (there : Bool) → is_there (state.connections ordinal).mark ≡ there → IsKnown buffers peer ordinal state
      → packets_given state.shared old (without_commands (state.connections ordinal)) ≡ packets_given (with_buffers state.shared buffers) old
      (without_commands (state.connections ordinal))
  told-gain state old true is known =
      ap (λ (of : Option Buffers). packets_given (with_buffers state.shared of) old (without_commands (state.connections ordinal))) (known.told is)
  told-gain state old false is known =
      let none = known.absent is in
      ap (λ (connection : ConnectionState). packets_given state.shared old (without_commands connection)) none ∙ absent-given state.shared old
      ∙ sym (ap (λ (connection : ConnectionState). packets_given (with_buffers state.shared buffers) old (without_commands connection)) none
      ∙ absent-given (with_buffers state.shared buffers) old)

  packets-seen : (state : State) (event : Event) → IsKnown buffers peer ordinal (step state event)
      → packets_at ordinal state event ≡ gain (seen_of buffers peer ordinal state) (seen_of buffers peer ordinal (step state event))
  unfolding step
  packets-seen state event knows =
      let change : Change = change_of state event in
      let new : State = step state event in
      let same : without_commands (new.connections ordinal) ≡ without_commands (connections_finished change ordinal) =
      commands-kept (connections_finished change ordinal)
      (nat_lt (length (command_of_init change.state.controller) + count_before ordinal (connections_finished change) change.state.slots)
      change.state.controller.credit) in
      ap (packets_given change.state.shared (without_commands (state.connections ordinal))) (sym same)
      ∙ told-gain new (without_commands (state.connections ordinal)) (is_there (new.connections ordinal).mark) refl knows

  known-now : (state : State) (events : List Event) → IsKnownThroughout buffers peer ordinal state events → IsKnown buffers peer ordinal state
  known-now state [] known = known
  known-now state (event ∷ events) known = known.0

  packets-gained : (state : State) (events : List Event) → IsKnownThroughout buffers peer ordinal state events
      → packets_given_in_order ordinal state events ≡ gained (seen_of buffers peer ordinal state) (shown_in peer ordinal state events)
  unfolding gained
  packets-gained state [] known = refl
  packets-gained state (event ∷ events) known =
      let old : Seen = seen_of buffers peer ordinal state in
      let new : State = step state event in
      let knows = known-now new events known.1 in
      let next = step_seen buffers peer ordinal state event known.0 knows in
      (λ i. packets-seen state event knows i ++ packets-gained new events known.1 i)
      ∙ ap (λ (after : Seen). gain old after ++ gained after (shown_in peer ordinal new events)) next
      ∙ sym (gained-next old (shown peer ordinal state event) (shown_in peer ordinal new events))

  shown-more : (old : Seen) (found : Option ShownEvent) (items : List ShownEvent) → after_shown old (option_to_list found ++ items)
      ≡ after_shown (seen_any old found) items
  unfolding after_shown
  shown-more old None items = refl
  shown-more old (Some item) items = refl

  run-seen : (state : State) (events : List Event) → IsKnownThroughout buffers peer ordinal state events
      → seen_of buffers peer ordinal (after_events state events) ≡ after_shown (seen_of buffers peer ordinal state) (shown_in peer ordinal state events)
  unfolding after_shown
  run-seen state [] known = refl
  run-seen state (event ∷ events) known =
      let new : State = step state event in
      run-seen new events known.1
      ∙ ap (λ (old : Seen). after_shown old (shown_in peer ordinal new events))
      (step_seen buffers peer ordinal state event known.0 (known-now new events known.1))
      ∙ sym (shown-more (seen_of buffers peer ordinal state) (shown peer ordinal state event) (shown_in peer ordinal new events))

-- The laws.

pub leaves_who_sees_nothing : LeavesWhoSeesNothing
leaves_who_sees_nothing buffers peer ordinal state event known knows none =
    let old : Seen = seen_of buffers peer ordinal state in
    let same : seen_of buffers peer ordinal (step state event) ≡ old = step_seen buffers peer ordinal state event known knows ∙ ap (seen_any old) none in
    record {
      seen = same;
      packets = packets-seen buffers peer ordinal state event knows ∙ ap (gain old) same ∙ no-gain old;
    }

pub does_the_same_to_who_sees_the_same : DoesTheSameToWhoSeesTheSame
does_the_same_to_who_sees_the_same buffers peer one other state another event further item known knows known_too knows_too same is is_too =
    let new : seen_of buffers peer one (step state event) ≡ seen_of buffers peer other (step another further) =
    step_seen buffers peer one state event known knows ∙ ap (seen_any (seen_of buffers peer one state)) is ∙ ap (λ (old : Seen). seen_next old item) same
    ∙ sym (step_seen buffers peer other another further known_too knows_too ∙ ap (seen_any (seen_of buffers peer other another)) is_too) in
    record {
      seen = new;
      packets =
          packets-seen buffers peer one state event knows
          ∙ (λ i. packets_given (new i).shared (same i).connection (new i).connection)
          ∙ sym (packets-seen buffers peer other another further knows_too);
    }

pub same_view_same_packets_of_events : SameViewSamePacketsOfEvents
same_view_same_packets_of_events buffers peer one other state another events further known known_too same items = record {
  seen = run-seen buffers peer one state events known ∙ (λ i. after_shown (same i) (items i)) ∙ sym (run-seen buffers peer other another further known_too);
  packets =
      packets-gained buffers peer one state events known ∙ (λ i. gained (same i) (items i)) ∙ sym (packets-gained buffers peer other another further known_too);
}
