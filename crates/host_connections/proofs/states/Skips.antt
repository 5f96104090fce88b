-- What is skipped for a connection, by what its slot keeps and by what the state machine knows of it.
use Rattle.std.proofs.Common.{◌≡◌, ℕ, ◌+◌, Bool, true, false, List, [], ◌∷◌, ◌++◌, length, map, Option, Some, None, refl, sym, ap, ◌∙◌}
use Rattle.std.specs.Prelude.{is_some, if◌then◌else◌, not, nat_lt, ◌&&◌}
use Rattle.std.proofs.lemmas.Bool.{and_right}
use Rattle.att_numbers.specs.Types.{Handle, Row, Values}
use Rattle.att_attributes.specs.declared.attr.Attr.{Attr}
use Rattle.att_attributes.specs.Attributes.{attribute_at, is_value_at}
use Rattle.att_table.specs.Table.{Contents}
use Rattle.gatt_laws.specs.machine.ConnectionState.{ConnectionState, Mark, Absent, Live, Ending, is_live, is_there, key_of}
use Rattle.gatt_laws.specs.machine.Effect.{values_among}
use Rattle.gatt_laws.specs.machine.Heard.{hearer_of, hearer_after, heard_when_notifying, is_skipped, skipped_in_turn}
use Rattle.gatt_laws.specs.machine.SharedState.{SharedState}
use Rattle.host_connections.proofs.Skipping.{skipped_by, skips_behind}
use Rattle.host_connections.proofs.states.Heard.{same_hearer, unheard_attr}
use Rattle.host_connections.proofs.states.SlotStates.{kept_there}
use Rattle.host_connections.specs.declared.skipped.Skipped.{Skipped}
use Rattle.host_connections.specs.Hearing.{HearerFacts, delivery_of, hearer_facts_of, slot_hearer}
use Rattle.host_connections.specs.Skips.{skip_of, skips_by, slot_skips, wants_notification}
use Rattle.host_connections.specs.SlotState.{SlotState, slot_state_of, slot_state_if_there}
use Rattle.gatt_subs.specs.declared.pending.TheConstants.{MAX_BACKLOG}
use Rattle.gatt_subs.specs.Indications.{hears}
use Rattle.gatt_subs.specs.Hearing.{bits_for, may_hear_at, wants_indications}
use Rattle.gatt_subs.specs.Rows.{Subscriptions, row_of}
use Rattle.gatt_subs.specs.Told.{Hearer}

-- nothing is skipped for a connection that does not serve
unless-live : (attributes : List Attr) (hearer : Hearer) (handle : Handle) → hearer.live ≡ false → is_skipped attributes hearer handle ≡ false
unless-live attributes hearer handle is =
    ap (λ (live : Bool). live && hears hearer.pending attributes hearer.row hearer.standing handle && not (wants_indications hearer.row handle) && not
    (nat_lt hearer.backlog MAX_BACKLOG)) is

pub none_unless_live : (attributes : List Attr) (values : Values) (hearer : Hearer) (handles : List Handle) → hearer.live ≡ false
    → skipped_in_turn attributes values hearer handles ≡ []
none_unless_live attributes values hearer [] is = refl
none_unless_live attributes values hearer (handle ∷ handles) is =
    let next : Hearer = hearer_after hearer (heard_when_notifying attributes values hearer handle) in
    ap (λ (skipped : Bool). (if skipped then handle ∷ [] else []) ++ skipped_in_turn attributes values next handles) (unless-live attributes hearer handle is)
    ∙ none_unless_live attributes values next handles is

module _ (shared : SharedState) (rows : Subscriptions) (bond : Row) (handles : List Handle) (connection : ConnectionState)
    (has : is_some (key_of connection) ≡ true → row_of rows connection.peer ≡ Some bond) where
  abbrev slot_state : SlotState
  slot_state = slot_state_of shared connection connection.given

  abbrev skipped : List Handle
  skipped = skipped_in_turn shared.table.attributes shared.table.values (hearer_of shared bond connection) handles

  abbrev skips-of : Hearer → List Skipped
  skips-of hearer = map (skip_of connection.handle) (skipped_in_turn shared.table.attributes shared.table.values hearer handles)

  abbrev slot-skips : Option SlotState → List Skipped
  slot-skips slot = slot_skips shared.table shared.time rows handles slot

  abbrev hearer : Hearer
  hearer = slot_hearer (hearer_facts_of shared.time (row_of rows connection.peer) slot_state) (delivery_of slot_state)

  none : is_live connection.mark ≡ false → skips-of (hearer_of shared bond connection) ≡ []
  none is = ap (λ (those : List Handle). map (skip_of connection.handle) those)
      (none_unless_live shared.table.attributes shared.table.values (hearer_of shared bond connection) handles is)

  by-mark : (mark : Mark) → connection.mark ≡ mark
      → slot-skips (slot_state_if_there shared connection connection.given) ≡ map (skip_of connection.handle) skipped
  by-mark Absent is =
      ap slot-skips (ap (λ (mark : Mark). if is_there mark then Some slot_state else None) is) ∙ sym (none (ap is_live is))
  by-mark Live is =
      ap slot-skips (kept_there shared connection connection.given (ap is_there is))
      ∙ ap (λ (mark : Mark). if is_live mark then skips-of hearer else []) is
      ∙ ap skips-of (same_hearer shared (row_of rows connection.peer) bond connection has (ap is_live is))
  by-mark Ending is =
      ap slot-skips (kept_there shared connection connection.given (ap is_there is))
      ∙ ap (λ (mark : Mark). if is_live mark then skips-of hearer else []) is
      ∙ sym (none (ap is_live is))

  -- what is skipped for a connection at the end of an event
  pub skips_kept : slot_skips shared.table shared.time rows handles (slot_state_if_there shared connection connection.given)
      ≡ map (skip_of connection.handle) skipped
  skips_kept = by-mark connection.mark refl

-- of handles that are not of values nothing is skipped
module _ (attributes : List Attr) (wants : Handle → Bool) (only : (handle : Handle) → is_value_at attributes handle ≡ false → wants handle ≡ false) where
  behind-alike : (wanted few : Bool) (backlog : ℕ) (handle : Handle) (some others : List Handle)
      → skips_by wants (backlog + 1) some ≡ skips_by wants (backlog + 1) others → skips_by wants backlog some ≡ skips_by wants backlog others
      → skips_behind wants wanted few backlog handle some ≡ skips_behind wants wanted few backlog handle others
  behind-alike true true backlog handle some others sent not_sent = sent
  behind-alike true false backlog handle some others sent not_sent = ap (λ (rest : List Handle). handle ∷ rest) not_sent
  behind-alike false few backlog handle some others sent not_sent = not_sent

  among : (backlog : ℕ) (handles : List Handle) → skips_by wants backlog (values_among attributes handles) ≡ skips_by wants backlog handles
  among backlog [] = refl
  among backlog (handle ∷ handles) =
      elim (is_value_at attributes handle) as (λ (value : Bool). is_value_at attributes handle ≡ value
      → skips_by wants backlog (if value then handle ∷ values_among attributes handles else values_among attributes handles)
      ≡ skips_by wants backlog (handle ∷ handles)) [
        | true ↦ λ is. behind-alike (wants handle) (nat_lt backlog MAX_BACKLOG) backlog handle (values_among attributes handles) handles
            (among (backlog + 1) handles) (among backlog handles)
        | false ↦ λ is. among backlog handles ∙ sym
            (ap (λ (wanted : Bool). skips_behind wants wanted (nat_lt backlog MAX_BACKLOG) backlog handle handles) (only handle is))
      ] refl

pub skipped_of_values : (table : Contents) (now : ℕ) (found : Option Row) (handles : List Handle) (slot_state : SlotState) →
    let hearer : Hearer = slot_hearer (hearer_facts_of now found slot_state) (delivery_of slot_state) in
    skipped_in_turn table.attributes table.values hearer (values_among table.attributes handles) ≡ skipped_in_turn table.attributes table.values hearer handles
skipped_of_values table now found handles slot_state =
    let ear : HearerFacts = hearer_facts_of now found slot_state in
    let backlog : ℕ = length slot_state.outgoing.queue in
    let wants : Handle → Bool = wants_notification table.attributes slot_state.pending ear.row ear.standing in
    let by : (those : List Handle) → skipped_in_turn table.attributes table.values (slot_hearer ear (delivery_of slot_state)) those
    ≡ skips_by wants backlog those =
    λ those. skipped_by table.attributes table.values ear.row ear.standing ear.mtu backlog slot_state.pending those in
    by (values_among table.attributes handles) ∙ among table.attributes wants (λ handle is.
    ap (λ (heard : Bool). heard && not (wants_indications ear.row handle))
    (and_right (not slot_state.pending.timed_out) (may_hear_at table.attributes ear.row ear.standing handle)
    (unheard_attr (attribute_at table.attributes handle) (bits_for ear.row handle) ear.standing is))) backlog handles
    ∙ sym (by handles)
