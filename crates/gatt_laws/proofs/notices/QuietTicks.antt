-- A Tick before the deadline causes no notice and no packet, and each connection is allowed the same after it.
use Rattle.std.proofs.Common.{◌≡◌, ℕ, ◌<◌, ◌≤◌, Bool, true, false, List, [], ◌∷◌, ◌++◌, map, Option, Some, None, refl, sym, ap, ◌∙◌, arith}
use Rattle.std.proofs.Common.{subst}
use Rattle.std.specs.Prelude.{◌+◌, ◌&&◌, length, ◌^◌, ◌==◌, ◌||◌, is_some, nat_le, nat_lt, filter_map, take, if◌then◌else◌}
use Rattle.std.specs.List.{list_any, flat_map, cons_option}
use Rattle.std.specs.Option.{option_and_then, option_map, option_map_or, option_to_list}
use Rattle.std.proofs.lemmas.Bool.{eqb-true, eq-eqb, or_left, or_right}
use Rattle.att_attributes.specs.declared.attr.Attr.{Attr}
use Rattle.att_numbers.specs.Types.{Handle, Row, Values}
use Rattle.att_pdu.specs.Response.{Response}
use Rattle.gatt_laws.proofs.notices.Deadline.{has-come, least-come, reached}
use Rattle.gatt_laws.proofs.notices.LaterStandings.{answer_later, handles_later, indicated_later, may_hear_later, stored_later}
use Rattle.gatt_laws.proofs.notices.Skips.{noticed_where_quiet}
use Rattle.gatt_laws.specs.laws.Deadline.{authorization_end, at_time, deadline, earlier_of, end_after, is_reached, slot_deadline}
use Rattle.gatt_laws.specs.laws.Deadline.{EndsAuthorizations, IsAllowedTheSame, IsQuietBeforeTheDeadline}
use Rattle.gatt_laws.specs.laws.Settled.{has_slot}
use Rattle.gatt_laws.specs.machine.ConnectionState.{ConnectionState, after_giving, backlog_of, bearer_of, is_live, row_in_force}
use Rattle.gatt_laws.specs.machine.ConnectionState.{connection_mtu, standing_of}
use Rattle.gatt_laws.specs.machine.Controller.{Slots, command_for, commands_due, commands_for, enabling, command_of_init}
use Rattle.gatt_laws.specs.machine.Controller.{count_before}
use Rattle.gatt_laws.specs.machine.Event.{Ordinal, Nothing, Tick}
use Rattle.gatt_laws.specs.machine.Heard.{Heard, after_hearing, hearer_of, heard_when_indicating, with_heard}
use Rattle.gatt_laws.specs.machine.Notice.{TimedOut, event_told, slot_told}
use Rattle.gatt_laws.specs.machine.SharedState.{SharedState, fragment_size_of, share_of}
use Rattle.le_acl.specs.History.{packets_allowed}
use Rattle.gatt_laws.specs.machine.State.{State, before_commands, change_of, command_octets, finished, out, packets_given, step}
use Rattle.gatt_subs.specs.Deadline.{deadline_of, late_at, late_from}
use Rattle.gatt_subs.specs.Indications.{Indications, after_tick, first_handle, from_due, is_late, may_indicate, no_indications, times_out}
use Rattle.gatt_subs.specs.Hearing.{is_indicated}
use Rattle.gatt_subs.specs.Told.{indicate_tells, indication_of}
use Rattle.gatt_subs.specs.declared.pending.Unconfirmed.{Unconfirmed}
use Rattle.octet_io.proofs.Choices.{or_false_left, or_false_right}
use Rattle.octet_io.specs.Number.{Octets}

-- The deadline is not reached if no time of a connection is.
module _ (time : ℕ) where
  either-come : (one other : Option ℕ) → is_reached (earlier_of one other) time ≡ (is_reached one time || is_reached other time)
  either-come None other = refl
  either-come (Some one) None = or-none (nat_le one time)
    where
      or-none : (is : Bool) → is ≡ (is || false)
      or-none true = refl
      or-none false = refl
  either-come (Some one) (Some other) = least-come time one other

  one-come : (found : Option ℕ) (rest : List ℕ)
      → list_any (has-come time) (cons_option found rest) ≡ (is_reached found time || list_any (has-come time) rest)
  one-come None rest = refl
  one-come (Some one) rest = refl

  module _ (state : State) (ordinal : Ordinal) where
    abbrev times : Slots → List ℕ
    times slots = filter_map (slot_deadline state.shared.time state) slots

    of-slot : (slots : Slots) → has_slot ordinal slots ≡ true → list_any (has-come time) (times slots) ≡ false
        → is_reached (slot_deadline state.shared.time state (Some ordinal)) time ≡ false
    of-slot [] has none = cc has
    of-slot (None ∷ slots) has none = of-slot slots has none
    of-slot (Some one ∷ slots) has none =
        let found : Option ℕ = slot_deadline state.shared.time state (Some one) in
        let neither : (is_reached found time || list_any (has-come time) (times slots)) ≡ false =
        sym (one-come found (times slots)) ∙ none in
        by-place (one == ordinal) refl has (or_false_left _ _ neither)
        (λ there. of-slot slots there (or_false_right _ _ neither))
      where
        by-place : (same : Bool) → (one == ordinal) ≡ same → (same || has_slot ordinal slots) ≡ true
            → is_reached (slot_deadline state.shared.time state (Some one)) time ≡ false
            → (has_slot ordinal slots ≡ true → is_reached (slot_deadline state.shared.time state (Some ordinal)) time ≡ false)
            → is_reached (slot_deadline state.shared.time state (Some ordinal)) time ≡ false
        by-place true is there here later =
            subst (λ (of : Ordinal). is_reached (slot_deadline state.shared.time state (Some of)) time ≡ false)
            (eqb-true one ordinal is) here
        by-place false is there here later = later there

-- An indication that is not late, and an authorization that does not end.

not-late-if : (at time : ℕ) (within : Bool) → nat_lt at (2 ^ 64) ≡ within → time < 2 ^ 64
    → is_reached (if within then Some at else None) time ≡ false → nat_le at time ≡ false
not-late-if at time true is few none = none
not-late-if at time false is few none = grind (arith, is, few)

not-late : (pending : Indications) (time : ℕ) → time < 2 ^ 64 → is_reached (deadline_of pending) time ≡ false
    → times_out pending time ≡ false
not-late pending time few none = of pending.unconfirmed none
  where
    of : (unconfirmed : Option Unconfirmed) → is_reached (option_and_then late_from unconfirmed) time ≡ false
        → option_map_or (is_late time) unconfirmed false ≡ false
    of None none = refl
    of (Some unconfirmed) none = not-late-if (late_at unconfirmed) time (nat_lt (late_at unconfirmed) (2 ^ 64)) refl few none

same-end : (now time until : ℕ) (on : Bool) → nat_lt now until ≡ on → now ≤ time
    → is_reached (if on then Some until else None) time ≡ false → nat_le until time ≡ nat_le until now
same-end now time until true is later none = none ∙ sym (before is)
  where
    before : nat_lt now until ≡ true → nat_le until now ≡ false
    before is = grind (arith, is)
same-end now time until false is later none = now-too is ∙ sym (then-too is)
  where
    now-too : nat_lt now until ≡ false → nat_le until time ≡ true
    now-too is = grind (arith, is, later)

    then-too : nat_lt now until ≡ false → nat_le until now ≡ true
    then-too is = grind (arith, is)

-- A Tick before the deadline.
module _ (state : State) (time : ℕ) (later : state.shared.time ≤ time) (few : time < 2 ^ 64)
    (below : is_reached (deadline state) time ≡ false) where
  abbrev then_shared : SharedState
  then_shared = at_time time state.shared

  abbrev connection_at : Ordinal → ConnectionState
  connection_at ordinal = state.connections ordinal

  neither : (ordinal : Ordinal) → has_slot ordinal state.slots ≡ true
      → (is_reached (deadline_of (connection_at ordinal).pending) time
      || is_reached (authorization_end state.shared.time (connection_at ordinal)) time) ≡ false
  neither ordinal has =
      sym (either-come time (deadline_of (connection_at ordinal).pending) (authorization_end state.shared.time (connection_at ordinal)))
      ∙ of-slot time state ordinal state.slots has
      (reached time (filter_map (slot_deadline state.shared.time state) state.slots) ∙ below)

  quiet : (ordinal : Ordinal) → has_slot ordinal state.slots ≡ true → times_out (connection_at ordinal).pending time ≡ false
  quiet ordinal has = not-late (connection_at ordinal).pending time few (or_false_left _ _ (neither ordinal has))

  same-if : (ordinal : Ordinal) (live : Bool)
      → is_reached (if live then end_after state.shared.time (connection_at ordinal).until else None) time ≡ false → live ≡ true
      → nat_le (connection_at ordinal).until time ≡ nat_le (connection_at ordinal).until state.shared.time
  same-if ordinal true none is =
      same-end state.shared.time time (connection_at ordinal).until (nat_lt state.shared.time (connection_at ordinal).until) refl later none
  same-if ordinal false none is = cc is

  same-authorization : (ordinal : Ordinal) → has_slot ordinal state.slots ≡ true → is_live (connection_at ordinal).mark ≡ true
      → nat_le (connection_at ordinal).until time ≡ nat_le (connection_at ordinal).until state.shared.time
  same-authorization ordinal has live =
      same-if ordinal (is_live (connection_at ordinal).mark) (or_false_right _ _ (neither ordinal has)) live

  allowed_the_same : (ordinal : Ordinal) → has_slot ordinal state.slots ≡ true → is_live (connection_at ordinal).mark ≡ true
      → IsAllowedTheSame then_shared state.shared (connection_at ordinal)
  allowed_the_same ordinal has live =
      let connection : ConnectionState = connection_at ordinal in
      let same = same-authorization ordinal has live in
      record {
        answers = λ table row asked. answer_later (standing_of state.shared connection) time same table row (bearer_of state.shared connection) asked;
        stores = λ table row asked. stored_later (standing_of state.shared connection) time same table row (bearer_of state.shared connection) asked;
        writes = λ table row asked. handles_later (standing_of state.shared connection) time same table row (bearer_of state.shared connection) asked;
        hears = λ attributes row handle. may_hear_later (standing_of state.shared connection) time same attributes row handle;
      }

  -- No notice.

  none-told : (slots : Slots) → ((ordinal : Ordinal) → has_slot ordinal slots ≡ true → has_slot ordinal state.slots ≡ true)
      → flat_map (slot_told state time) slots ≡ []
  none-told [] has = refl
  none-told (None ∷ slots) has = none-told slots has
  none-told (Some ordinal ∷ slots) has = λ i.
      (if quiet ordinal (has ordinal (or_left (ordinal == ordinal) (has_slot ordinal slots) (eq-eqb ordinal ordinal refl))) i
      then TimedOut (connection_at ordinal).handle ∷ [] else [])
      ++ none-told slots (λ other is. has other (or_right (ordinal == other) (has_slot other slots) is)) i

  -- Each connection is sent the same.

  abbrev without_indications : ConnectionState → ConnectionState
  without_indications connection = record connection { pending = no_indications }

  given-alike : (shared : SharedState) (connection : ConnectionState) (responses : List Response) (one other : Indications)
      → without_indications (after_giving shared (with_heard connection (record { responses = responses; pending = one })))
      ≡ without_indications (after_giving shared (with_heard connection (record { responses = responses; pending = other })))
  given-alike shared connection responses one other = by-mark (is_live connection.mark)
    where
      given : ConnectionState → ConnectionState
      given heard = record heard { given = packets_allowed (share_of shared.slots shared.buffers) (fragment_size_of shared.buffers) heard.pdus heard.done }

      heard_with : Indications → ConnectionState
      heard_with pending = with_heard connection (record { responses = responses; pending = pending })

      by-mark : (live : Bool)
          → without_indications (if live then given (heard_with one) else heard_with one)
          ≡ without_indications (if live then given (heard_with other) else heard_with other)
      by-mark true = refl
      by-mark false = refl

  indicates-alike : (ordinal : Ordinal) (bond : Row) (attributes : List Attr) (values : Values) → has_slot ordinal state.slots ≡ true
      → indicate_tells attributes values (hearer_of then_shared bond (connection_at ordinal))
      ≡ indicate_tells attributes values (hearer_of state.shared bond (connection_at ordinal))
  indicates-alike ordinal bond attributes values has = by-mark (is_live connection.mark) refl
    where
      connection : ConnectionState
      connection = connection_at ordinal

      tells : (Handle → Bool) → Option Response
      tells is_due = option_map (λ handle. indication_of values handle (connection_mtu state.shared connection))
          (if may_indicate connection.pending (backlog_of state.shared connection)
          then first_handle (from_due is_due connection.pending.waiting) else None)

      by-mark : (live : Bool) → is_live connection.mark ≡ live
          → (if live then tells (is_indicated attributes (row_in_force bond connection) (standing_of then_shared connection)) else None)
          ≡ (if live then tells (is_indicated attributes (row_in_force bond connection) (standing_of state.shared connection)) else None)
      by-mark true is =
          ap tells (indicated_later (standing_of state.shared connection) time (same-authorization ordinal has is)
          attributes (row_in_force bond connection))
      by-mark false is = refl

  not-timed-out : (pending : Indications) (late : Bool) → late ≡ false
      → (if late then record { waiting = []; unconfirmed = None; timed_out = true } else pending) ≡ pending
  not-timed-out pending true is = cc is
  not-timed-out pending false is = refl

  pending-same : (ordinal : Ordinal) → has_slot ordinal state.slots ≡ true
      → record (connection_at ordinal) { pending = after_tick (connection_at ordinal).pending time } ≡ connection_at ordinal
  pending-same ordinal has =
      ap (λ (pending : Indications). record (connection_at ordinal) { pending = pending })
      (not-timed-out (connection_at ordinal).pending (times_out (connection_at ordinal).pending time) (quiet ordinal has))

  finished-alike : (ordinal : Ordinal) (bond : Row) → has_slot ordinal state.slots ≡ true
      → without_indications (after_giving then_shared (after_hearing then_shared bond [] (connection_at ordinal)))
      ≡ without_indications (after_giving state.shared (after_hearing state.shared bond [] (connection_at ordinal)))
  unfolding after_hearing
  finished-alike ordinal bond has =
      let connection : ConnectionState = connection_at ordinal in
      let attributes : List Attr = state.shared.table.attributes in
      let values : Values = state.shared.table.values in
      let one : Heard = heard_when_indicating attributes values (hearer_of then_shared bond connection) time in
      let other : Heard = heard_when_indicating attributes values (hearer_of state.shared bond connection) state.shared.time in
      ap (λ (response : Option Response). without_indications (after_giving state.shared
      (with_heard connection (record { responses = option_to_list response; pending = one.pending }))))
      (indicates-alike ordinal bond attributes values has)
      ∙ given-alike state.shared connection other.responses one.pending other.pending

  abbrev AgreeInSlots : (Ordinal → ConnectionState) → (Ordinal → ConnectionState) → Type 0
  AgreeInSlots one other = (ordinal : Ordinal) → has_slot ordinal state.slots ≡ true
      → without_indications (one ordinal) ≡ without_indications (other ordinal)

  agree : AgreeInSlots (before_commands state (Tick time)).connections (before_commands state Nothing).connections
  unfolding change_of
  agree ordinal has =
      ap (λ (connection : ConnectionState). without_indications (finished then_shared state.bonds [] connection)) (pending-same ordinal has)
      ∙ finished-alike ordinal (state.bonds (connection_at ordinal).peer) has

  module _ (one other : Ordinal → ConnectionState) (alike : AgreeInSlots one other) where
    abbrev Within : Slots → Type 0
    Within slots = (ordinal : Ordinal) → has_slot ordinal slots ≡ true → has_slot ordinal state.slots ≡ true

    at-first : (ordinal : Ordinal) (slots : Slots) → Within (Some ordinal ∷ slots) → has_slot ordinal state.slots ≡ true
    at-first ordinal slots has = has ordinal (or_left (ordinal == ordinal) (has_slot ordinal slots) (eq-eqb ordinal ordinal refl))

    in-rest : (ordinal : Ordinal) (slots : Slots) → Within (Some ordinal ∷ slots) → Within slots
    in-rest ordinal slots has = λ other is. has other (or_right (ordinal == other) (has_slot other slots) is)

    commands-alike : (slots : Slots) → Within slots → commands_for one slots ≡ commands_for other slots
    commands-alike [] has = refl
    commands-alike (None ∷ slots) has = commands-alike slots has
    commands-alike (Some ordinal ∷ slots) has = λ i.
        option_to_list (command_for (alike ordinal (at-first ordinal slots has) i)) ++ commands-alike slots (in-rest ordinal slots has) i

    abbrev given_of : (Ordinal → ConnectionState) → Option Ordinal → List Octets
    given_of connections None = []
    given_of connections (Some ordinal) = packets_given state.shared (state.connections ordinal) (connections ordinal)

    packets-alike : (slots : Slots) → Within slots → flat_map (given_of one) slots ≡ flat_map (given_of other) slots
    packets-alike [] has = refl
    packets-alike (None ∷ slots) has = packets-alike slots has
    packets-alike (Some ordinal ∷ slots) has = λ i.
        packets_given state.shared (state.connections ordinal) (alike ordinal (at-first ordinal slots has) i)
        ++ packets-alike slots (in-rest ordinal slots has) i

  same_packets : out state (Tick time) ≡ out state Nothing
  unfolding out change_of commands_due
  same_packets =
      let one : Ordinal → ConnectionState = (before_commands state (Tick time)).connections in
      let other : Ordinal → ConnectionState = (before_commands state Nothing).connections in
      λ i.
      map command_octets (take state.controller.credit
      (command_of_init state.controller ++ commands-alike one other agree state.slots (λ ordinal has. has) i
      ++ enabling state.controller state.slots))
      ++ packets-alike one other agree state.slots (λ ordinal has. has) i

pub is_quiet_before_the_deadline : IsQuietBeforeTheDeadline
unfolding event_told
is_quiet_before_the_deadline state time later few below = record {
  notices = noticed_where_quiet state (Tick time) refl ∙ none-told state time later few below state.slots (λ ordinal has. has);
  packets = same_packets state time later few below;
  same = allowed_the_same state time later few below;
}

-- The end of an authorization.

sent-until : (connection : ConnectionState) (sent reasoned : Bool)
    → (if sent then (if reasoned then record connection { reason = None } else record connection { reply = None })
    else connection).until ≡ connection.until
sent-until connection true true = refl
sent-until connection true false = refl
sent-until connection false reasoned = refl

given-until : (shared : SharedState) (connection : ConnectionState) → (after_giving shared connection).until ≡ connection.until
given-until shared connection = by-mark (is_live connection.mark)
  where
    by-mark : (live : Bool)
        → (if live then record connection {
          given = packets_allowed (share_of shared.slots shared.buffers)
              (fragment_size_of shared.buffers) connection.pdus connection.done;
        } else connection).until ≡ connection.until
    by-mark true = refl
    by-mark false = refl

pub ends_authorizations : EndsAuthorizations
unfolding step change_of after_hearing
ends_authorizations state time ordinal need ended required =
    let new : State = before_commands state (Tick time) in
    let until : ((step state (Tick time)).connections ordinal).until ≡ (state.connections ordinal).until =
    sent-until (new.connections ordinal)
    (nat_lt (length (command_of_init new.controller) + count_before ordinal new.connections new.slots) new.controller.credit)
    (is_some (new.connections ordinal).reason)
    ∙ given-until (at_time time state.shared) (after_hearing (at_time time state.shared) (state.bonds (state.connections ordinal).peer) []
    (record (state.connections ordinal) { pending = after_tick (state.connections ordinal).pending time })) in
    λ i. both required (ap (λ (end : ℕ). nat_le end time) until ∙ le-true ended) i
  where
    both : {one other : Bool} → one ≡ true → other ≡ true → (one && other) ≡ true
    both first second = λ i. first i && second i

    le-true : (state.connections ordinal).until ≤ time → nat_le (state.connections ordinal).until time ≡ true
    le-true ended = grind (arith, ended)
