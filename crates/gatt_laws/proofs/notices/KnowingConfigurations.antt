-- A listener knows the configurations, after each event and in every run.
use Rattle.std.proofs.Common.{◌≡◌, ℕ, Bool, true, false, List, [], ◌∷◌, Option, Some, None}
use Rattle.std.proofs.Common.{refl, sym, ap, subst, ◌∙◌}
use Rattle.std.specs.Prelude.{◌==◌, is_some, fold, if◌then◌else◌}
use Rattle.std.specs.List.{list_any}
use Rattle.std.specs.Option.{option_map_or}
use Rattle.att_numbers.specs.Types.{Handle}
use Rattle.att_policy.specs.declared.standing.KeyFacts.{KeyFacts}
use Rattle.att_table.specs.ConfigRow.{bits_at}
use Rattle.att_table.specs.Table.{Contents}
use Rattle.gatt_laws.proofs.notices.ConfiguringNotices.{is_configured_notice, is_link_notice}
use Rattle.gatt_laws.proofs.notices.ConfiguringNotices.{request_changes_no_link, others_configure_nothing}
use Rattle.gatt_laws.proofs.runs.ItemEvents.{MeantIfSome, any_table, item_meant, means_its_event}
use Rattle.gatt_laws.proofs.notices.KeyNotices.{changes_key, none-stricter, stays_keyed}
use Rattle.gatt_laws.proofs.notices.KnowingWho.{had_slot, knowing-at-first, stays-knowing, tells_who_is_there}
use Rattle.gatt_laws.proofs.notices.KnownConfigurations.{held, present-at, fold-present, fold-keys, same-present, same-keys}
use Rattle.gatt_laws.proofs.notices.KnownConfigurations.{same-bonds, own-unconfigured, own-configured, bonds-configured}
use Rattle.gatt_laws.proofs.notices.KnownKeys.{connects, has-slot, is-alone, keys-known, was-there}
use Rattle.gatt_laws.proofs.runs.Meant.{possible_where_meant, unused_where_meant}
use Rattle.gatt_laws.proofs.runs.Named.{step_named}
use Rattle.gatt_laws.proofs.notices.RowNotices.{tells_each_bond, tells_each_own_row}
use Rattle.gatt_laws.proofs.notices.Skips.{knows_what_is_told, present_by_what_is_told}
use Rattle.gatt_laws.proofs.notices.ToldIsSo.{tells_what_is_so}
use Rattle.gatt_laws.specs.laws.KnownConfigurations.{Known, known_after_notice, known_at_start, with_bits_read}
use Rattle.gatt_laws.specs.laws.KnownConfigurations.{is_replacing, known_after_item, known_after_items, bits_known_of}
use Rattle.gatt_laws.specs.laws.KnownConfigurations.{KnowsTheConfigurations}
use Rattle.gatt_laws.specs.laws.KnownKeys.{known_keys_after, AreKeysKnown}
use Rattle.gatt_laws.specs.laws.OwnWrites.{row_of_connection}
use Rattle.gatt_laws.specs.laws.Possible.{Possible}
use Rattle.gatt_laws.specs.laws.Present.{Present, present_in, peers_in, ConnectsUnused, IsKnowing}
use Rattle.gatt_laws.specs.laws.RowNotices.{tells_bits, is_bits_told, is_replacement, is_connection_or_disconnection}
use Rattle.gatt_laws.specs.laws.Settled.{has_slot}
use Rattle.gatt_laws.specs.machine.ConnectionState.{ConnectionState, is_there, key_of}
use Rattle.gatt_laws.specs.machine.Event.{Ordinal, Event, Asks, Of, Replaced}
use Rattle.gatt_laws.specs.machine.Input.{Item, Run, after_item, after_items, run_at_start, run}
use Rattle.gatt_laws.specs.machine.ItemEvents.{event_at, after_if}
use Rattle.gatt_laws.specs.machine.Notice.{Notice, Connected, Secured, Unsecured, Configured, event_told, noticed, notices_of}
use Rattle.gatt_laws.specs.machine.Start.{Start, state_at}
use Rattle.gatt_laws.specs.machine.State.{State, step}
use Rattle.le_hci.specs.declared.peer.Peer.{Peer}
use Rattle.le_security.specs.Entry.{same_peer}
use Rattle.octet_io.proofs.Choices.{and_with_false}
use Rattle.octet_io.specs.Number.{Octets}

-- what a listener knows is right
record IsKnown (state : State) (known : Known) : Type 0 where
  knowing : IsKnowing state
  present : known.present ≡ peers_in state
  keys : AreKeysKnown state known.keys
  own : (ordinal : Ordinal) (attribute : Handle) → is_there (state.connections ordinal).mark ≡ true
      → known.own (state.connections ordinal).handle attribute ≡ bits_at (state.connections ordinal).row attribute
  bonds : (peer : Peer) (attribute : Handle) → known.bonds peer attribute ≡ bits_at (state.bonds peer) attribute

bits-told : (handle : ℕ) (attribute : Handle) (notice : Notice) → is_configured_notice notice ≡ false
    → tells_bits handle attribute notice ≡ false
bits-told handle attribute (Configured other at bits) none = cc none
bits-told handle attribute notice none = refl

links-connect : (handle : ℕ) (notice : Notice) → is_link_notice notice ≡ false → connects handle notice ≡ false
links-connect handle (Connected other peer) none = cc none
links-connect handle notice none = refl

links-change : (handle : ℕ) (notice : Notice) → is_link_notice notice ≡ false → changes_key handle notice ≡ false
links-change handle (Secured other facts) none = cc none
links-change handle (Unsecured other) none = cc none
links-change handle notice none = refl

-- At an event.

module _ (state : State) (happens : Event) (known : Known) (is : IsKnown state known)
    (possible : Possible (λ table. Unit) state happens) (unused : ConnectsUnused state happens) where
  abbrev new : State
  new = step state happens

  abbrev after : Known
  after = fold known_after_notice known (noticed state happens)

  knowing-then : IsKnowing new
  knowing-then = stays-knowing state happens possible unused is.knowing

  present-folded : present_in known.present (noticed state happens) ≡ peers_in new
  present-folded =
      ap (λ (of : Present). present_in of (noticed state happens)) is.present
      ∙ (λ i asked. tells_who_is_there state happens asked is.knowing possible unused i)

  present-then : after.present ≡ peers_in new
  present-then = fold-present (noticed state happens) known ∙ present-folded

  keys-folded : AreKeysKnown new (fold known_keys_after known.keys (noticed state happens))
  keys-folded = keys-known state happens known.keys is.knowing possible unused is.keys

  keys-then : AreKeysKnown new after.keys
  keys-then = subst (AreKeysKnown new) (sym (fold-keys (noticed state happens) known)) keys-folded

  -- the bits of its own that a connection had
  own-kept : is_replacement happens ≡ false → (ordinal : Ordinal) (attribute : Handle)
      → has_slot ordinal state.slots ≡ true → is_connection_or_disconnection ordinal happens ≡ false
      → (is_some (key_of (state.connections ordinal)) ≡ false
      → is_bits_told (state.connections ordinal).handle attribute (noticed state happens) ≡ false)
      → known.own (new.connections ordinal).handle attribute ≡ bits_at (new.connections ordinal).row attribute
  own-kept stands ordinal attribute has kind untold =
      ap (λ (handle : ℕ). known.own handle attribute) (step_named state happens ordinal kind).handle
      ∙ is.own ordinal attribute (is.knowing.placed.there ordinal has)
      ∙ sym (tells_each_own_row state happens ordinal attribute stands kind untold)

  -- where nothing is configured
  module _ (stands : is_replacement happens ≡ false)
      (none : list_any is_configured_notice (noticed state happens) ≡ false) where
    unbits : (handle : ℕ) (attribute : Handle) → is_bits_told handle attribute (noticed state happens) ≡ false
    unbits handle attribute =
        none-stricter (tells_bits handle attribute) is_configured_notice (bits-told handle attribute)
        (noticed state happens) none

    other-own : (ordinal : Ordinal) (attribute : Handle) → is_there (new.connections ordinal).mark ≡ true
        → after.own (new.connections ordinal).handle attribute ≡ bits_at (new.connections ordinal).row attribute
    other-own ordinal attribute there =
        own-unconfigured new ordinal (is-alone new ordinal knowing-then there) attribute (noticed state happens) known
        (tells_what_is_so state happens) none
        (λ connected.
        let was = was-there state happens ordinal is.knowing possible unused
        (has-slot new ordinal knowing-then.settled there) connected in
        own-kept stands ordinal attribute was.0 was.1
        (λ unkeyed. unbits (state.connections ordinal).handle attribute))

    other-bonds : (peer : Peer) (attribute : Handle) → after.bonds peer attribute ≡ bits_at (new.bonds peer) attribute
    other-bonds peer attribute =
        same-bonds (noticed state happens) known peer attribute none
        ∙ is.bonds peer attribute
        ∙ sym (tells_each_bond state happens peer attribute stands
        (λ ordinal its keyed. unbits (state.connections ordinal).handle attribute))

    other-known : IsKnown new after
    other-known = record {
      knowing = knowing-then;
      present = present-then;
      keys = keys-then;
      own = other-own;
      bonds = other-bonds;
    }

-- at a request
module _ (state : State) (at : Ordinal) (pdu : Octets) (known : Known) (is : IsKnown state known) where
  abbrev asks : Event
  asks = Of at (Asks pdu)

  abbrev asked : State
  asked = step state asks

  no-link : list_any is_link_notice (noticed state asks) ≡ false
  no-link = request_changes_no_link state at pdu

  knowing-asked : IsKnowing asked
  knowing-asked = knowing-then state asks known is tt tt

  keys-asked : AreKeysKnown asked known.keys
  keys-asked = subst (AreKeysKnown asked) (same-keys (noticed state asks) known.keys no-link)
      (keys-folded state asks known is tt tt)

  present-asked : known.present ≡ peers_in asked
  present-asked = sym (same-present (noticed state asks) known.present no-link) ∙ present-folded state asks known is tt tt

  still : (ordinal : Ordinal) → is_connection_or_disconnection ordinal asks ≡ false
  still ordinal = and_with_false (ordinal == at)

  same-key : (ordinal : Ordinal) → key_of (asked.connections ordinal) ≡ key_of (state.connections ordinal)
  same-key ordinal =
      stays_keyed state asks ordinal (still ordinal)
      (none-stricter (changes_key (state.connections ordinal).handle) is_link_notice
      (links-change (state.connections ordinal).handle) (noticed state asks) no-link)

  asked-own : (ordinal : Ordinal) (attribute : Handle) → is_there (asked.connections ordinal).mark ≡ true
      → (after state asks known is tt tt).own (asked.connections ordinal).handle attribute
      ≡ bits_at (asked.connections ordinal).row attribute
  asked-own ordinal attribute there =
      let named = (step_named state asks ordinal (still ordinal)).handle in
      own-configured asked ordinal (is-alone asked ordinal knowing-asked there) attribute (noticed state asks) known
      (tells_what_is_so state asks) no-link (keys-asked ordinal there)
      (λ untold.
      let had = had_slot state asks ordinal is.knowing.settled tt refl
      (has-slot asked ordinal knowing-asked.settled there) in
      own-kept state asks known is tt tt refl ordinal attribute had.0 had.1
      (λ unkeyed.
      ap (λ (handle : ℕ). is_bits_told handle attribute (noticed state asks)) (sym named)
      ∙ untold (ap (λ (found : Option KeyFacts). is_some found) (same-key ordinal) ∙ unkeyed)))

  asked-bonds : (peer : Peer) (attribute : Handle)
      → (after state asks known is tt tt).bonds peer attribute ≡ bits_at (asked.bonds peer) attribute
  asked-bonds peer attribute =
      bonds-configured asked knowing-asked peer attribute (noticed state asks) known (tells_what_is_so state asks)
      no-link keys-asked present-asked
      (λ untold.
      is.bonds peer attribute
      ∙ sym (tells_each_bond state asks peer attribute refl
      (λ ordinal its keyed.
      let named = step_named state asks ordinal (still ordinal) in
      ap (λ (handle : ℕ). is_bits_told handle attribute (noticed state asks)) (sym named.handle)
      ∙ untold ordinal (ap (same_peer peer) named.peer ∙ its)
      (ap (λ (found : Option KeyFacts). is_some found) (same-key ordinal) ∙ keyed))))

  asked-known : IsKnown asked (after state asks known is tt tt)
  asked-known = record {
    knowing = knowing-asked;
    present = present-then state asks known is tt tt;
    keys = keys-then state asks known is tt tt;
    own = asked-own;
    bonds = asked-bonds;
  }

-- at a replacement
replaced-known : (state : State) (table : Contents) (known : Known) → IsKnown state known
    → IsKnown (step state (Replaced table)) (with_bits_read (step state (Replaced table)) known)
unfolding event_told
replaced-known state table known is =
    let happens : Event = Replaced table in
    let new : State = step state happens in
    let knowing = knowing-then state happens known is tt tt in
    record {
      knowing = knowing;
      present = sym (present_by_what_is_told state happens known.present) ∙ present-folded state happens known is tt tt;
      keys = subst (AreKeysKnown new)
          (knows_what_is_told known_keys_after (λ keys handle attribute. refl) state happens known.keys)
          (keys-folded state happens known is tt tt);
      own = λ ordinal attribute there.
          ap (λ (found : Option Ordinal). option_map_or (λ one. bits_at (new.connections one).row attribute) found 0)
          (held new ordinal knowing there);
      bonds = λ peer attribute. refl;
    }

event-known : (state : State) (happens : Event) (known : Known) → IsKnown state known
    → Possible (λ table. Unit) state happens → ConnectsUnused state happens
    → IsKnown (step state happens) (if is_replacement happens then with_bits_read (step state happens) known
    else fold known_after_notice known (noticed state happens))
event-known state (Replaced table) known is possible unused = replaced-known state table known is
event-known state (Of at (Asks pdu)) known is possible unused = asked-known state at pdu known is
event-known state happens known is possible unused =
    other-known state happens known is possible unused refl (others_configure_nothing state happens refl)

-- In every run.

found-known : (state : State) (found : Option Event) (known : Known) → IsKnown state known
    → MeantIfSome (λ table. Unit) state found
    → IsKnown (after_if state found) (if is_replacing found then with_bits_read (after_if state found) known
    else fold known_after_notice known (option_map_or (noticed state) found []))
found-known state None known is meant = is
found-known state (Some happens) known is meant =
    event-known state happens known is (possible_where_meant (λ table. Unit) state happens meant)
    (unused_where_meant (λ table. Unit) state happens meant)

run-known : (old : Run) (items : List Item) (known : Known) → IsKnown old.intake.state known
    → IsKnown (after_items old items).intake.state (known_after_items old known items)
run-known old [] known is = is
run-known old (item ∷ items) known is =
    let found : Option Event = event_at old.intake item in
    run-known (after_item old item) items (known_after_item old known item)
    (subst (λ (state : State). IsKnown state (if is_replacing found then with_bits_read state known
    else fold known_after_notice known (notices_of old item))) (sym (means_its_event old item).state)
    (found-known old.intake.state found known is
    (item_meant (λ table. Unit) old.intake item (any_table item))))

known-at-first : (start : Start) → IsKnown (state_at start) (known_at_start start)
known-at-first start = record {
  knowing = knowing-at-first start;
  present = λ i asked. None;
  keys = λ ordinal there. cc there;
  own = λ ordinal attribute there. cc there;
  bonds = λ peer attribute. refl;
}

-- and the bits that are in force follow
in-force : (state : State) (known : Known) → IsKnown state known → (ordinal : Ordinal) (attribute : Handle)
    → is_there (state.connections ordinal).mark ≡ true
    → bits_known_of known (state.connections ordinal).handle attribute
    ≡ bits_at (row_of_connection state ordinal) attribute
in-force state known is ordinal attribute there =
    let connection : ConnectionState = state.connections ordinal in
    let found = present-at state known.present ordinal is.knowing is.present there in
    (λ i. if is_some (is.keys ordinal there i)
    then option_map_or (λ peer. known.bonds peer attribute) (found i) 0 else is.own ordinal attribute there i)
    ∙ elim (is_some (key_of connection)) as (λ (keyed : Bool).
    (if keyed then known.bonds connection.peer attribute else bits_at connection.row attribute)
    ≡ bits_at (if keyed then state.bonds connection.peer else connection.row) attribute) [
      | true ↦ is.bonds connection.peer attribute
      | false ↦ refl
    ]

pub knows_the_configurations : KnowsTheConfigurations
unfolding run
knows_the_configurations start input =
    let is = run-known (run_at_start start) input (known_at_start start) (known-at-first start) in
    record {
      own = is.own;
      bonds = is.bonds;
      in_force = in-force (after_items (run_at_start start) input).intake.state
          (known_after_items (run_at_start start) (known_at_start start) input) is;
    }
