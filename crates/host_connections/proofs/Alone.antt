-- A value that is the only one may be told at once: what is then due leads to the same as if it had waited.
use Rattle.std.proofs.Common.{◌≡◌, ℕ, ◌+◌, ◌<◌, ◌≤◌, ◌==◌, Bool, true, false, nat_lt, ◌&&◌, not, if◌then◌else◌, List, [], ◌∷◌, length, Option, Some, None, refl, sym, ap, subst, ◌∙◌, arith}
use Rattle.std.specs.Prelude.{is_some}
use Rattle.std.specs.Int.{bit_at}
use Rattle.std.specs.Option.{option_map, option_to_list}
use Rattle.std.proofs.lemmas.Bool.{cases_lt}
use Rattle.std.proofs.Math.Logic.{⊎_elim}
use Rattle.att_numbers.specs.Types.{Handle, Row}
use Rattle.att_policy.specs.declared.standing.Standing.{Standing}
use Rattle.att_attributes.specs.declared.attr.Attr.{Attr}
use Rattle.att_table.specs.Table.{Contents}
use Rattle.gatt_subs.specs.declared.hearing.Telling.{Telling}
use Rattle.gatt_subs.specs.declared.hearing.Telling.TheVariants.{Indication, Notification}
use Rattle.gatt_subs.specs.declared.pending.TheConstants.{MAX_BACKLOG}
use Rattle.gatt_subs.specs.declared.pending.Unconfirmed.{Unconfirmed}
use Rattle.gatt_subs.specs.Alone.{after_notify_alone, none_waits, telling_alone, telling_of}
use Rattle.gatt_subs.specs.Hearing.{may_hear_at, wants_indications}
use Rattle.gatt_subs.specs.Indications.{Indications, first_handle, hears, may_indicate, rest_of, unconfirmed_since, with_handle}
use Rattle.gatt_subs.specs.Rows.{Subscriptions, row_of}
use Rattle.gatt_subs.specs.Told.{indication_of, notification_of}
use Rattle.host_connections.specs.Commands.{gives}
use Rattle.host_connections.specs.Hearing.{HearerFacts, Delivery, delivery_of, delivery_when_indicating, delivery_when_notifying, delivery_when_notifying_alone, delivery_with_heard, hearer_facts_of, with_delivery}
use Rattle.host_connections.specs.SlotState.{SlotState}
use Rattle.gatt_conn.specs.Connection.{Bearer}
use Rattle.gatt_laws.specs.machine.ConnectionState.{KeyReply}
use Rattle.host_connections.specs.declared.slot.Use.{Use}
use Rattle.host_connections.specs.declared.slot.Use.TheVariants.{Free, Live, Ending}
use Rattle.host_connections.specs.Use.{slot_state_where}
use Rattle.host_connections.specs.Places.{is_some_handle, may_listen, waits, Covers}
use Rattle.le_acl.specs.Sending.{Sending}
use Rattle.le_hci.specs.declared.peer.Peer.{Peer}
use Rattle.le_security.specs.Link.{Linking}
use Rattle.host_connections.specs.Slots.{SlotStates, all_heard, all_notified_alone, handles_for, is_in, is_own_place, slot_heard, slot_notified_alone, slot_state_at}
use Rattle.host_connections.specs.declared.places.Due.TheVariants.{Value}
use Rattle.host_api.specs.declared.TheConstants.{MAX_SLOTS}
use Rattle.host_connections.proofs.Found.{clash, past}
use Rattle.host_connections.proofs.InTurn.{alike, alike-there, nothing, together, unlistened}
use Rattle.le_acl.specs.Outgoing.{Outgoing}

-- one that is told waits for nothing more
pub told_stays : (pending : Indications) (attributes : List Attr) (row : Row) (standing : Standing) (handle : Handle) (backlog now : ℕ) (telling : Telling)
    → telling_alone pending attributes row standing handle backlog ≡ Some telling
    → (after_notify_alone pending attributes row standing handle backlog now).waiting ≡ pending.waiting
told_stays pending attributes row standing handle backlog now telling =
    by (hears pending attributes row standing handle) (wants_indications row handle) (nat_lt backlog MAX_BACKLOG) (none_waits pending.waiting)
    (may_indicate pending backlog)
  where
    by : (heard wanted few none free : Bool)
        → (let told : Option Telling = if heard && not wanted && few then Some Notification
        else (if heard && wanted && none && free then Some Indication else None) in told) ≡ Some telling
        → (let after : Indications = if heard && wanted && none && free then record pending { unconfirmed = Some (unconfirmed_since now handle) }
        else (if heard && wanted then record pending { waiting = with_handle pending.waiting handle } else pending) in after).waiting ≡ pending.waiting
    by true true few true true is = refl
    by true true few true false is = cc is
    by true true few false free is = cc is
    by true false few none free is = refl
    by false wanted few none free is = refl

-- so that its slot waits as before
pub waits_as_before : (used : Use) (handle : ℕ) (peer : Peer) (key_known : Bool) (until : ℕ) (row : Row) (link : Linking) (conn : Bearer)
    (pending new : Indications) (sender new-sender : Sending)
    (reply : Option KeyReply) (reason : Option ℕ) → new.waiting ≡ pending.waiting
    → waits (slot_state_where used handle peer key_known until row link conn new new-sender reply reason)
    ≡ waits (slot_state_where used handle peer key_known until row link conn pending sender reply reason)
waits_as_before Free handle peer key_known until row link conn pending new sender new-sender reply reason same = refl
waits_as_before Live handle peer key_known until row link conn pending new sender new-sender reply reason same = ap is_some_handle same
waits_as_before Ending handle peer key_known until row link conn pending new sender new-sender reply reason same = ap is_some_handle same

-- and where no packet was queued, it gives as before
pub gives_as_before : (used : Use) (handle : ℕ) (peer : Peer) (key_known : Bool) (until : ℕ) (row : Row) (link : Linking) (conn : Bearer)
    (pending new : Indications) (sender : Sending)
    (reply : Option KeyReply) (reason : Option ℕ)
    → gives (slot_state_where used handle peer key_known until row link conn new sender reply reason)
    ≡ gives (slot_state_where used handle peer key_known until row link conn pending sender reply reason)
gives_as_before Free handle peer key_known until row link conn pending new sender reply reason = refl
gives_as_before Live handle peer key_known until row link conn pending new sender reply reason = refl
gives_as_before Ending handle peer key_known until row link conn pending new sender reply reason = refl

module _ (table : Contents) (ear : HearerFacts) (now : ℕ) (handle : Handle) where
  abbrev told-with : List Handle → Option Unconfirmed → Bool → Outgoing → Delivery
  told-with waiting unconfirmed timed_out outgoing =
      record { pending = record { waiting = waiting; unconfirmed = unconfirmed; timed_out = timed_out }; outgoing = outgoing }

  -- what is left, by whether the connection may hear of the value, has asked for indications, and has few PDUs queued
  abbrev alone : Bool → Bool → Bool → List Handle → Option Unconfirmed → Bool → Outgoing → Delivery
  alone may wanted few waiting unconfirmed timed_out outgoing =
      let told : Delivery = told-with waiting unconfirmed timed_out outgoing in
      let heard : Bool = not timed_out && may in
      let at-once : Bool = heard && wanted && none_waits waiting && (not (is_some unconfirmed) && not timed_out && few) in
      delivery_with_heard told (record {
        responses =
            option_to_list
            (option_map (telling_of table.values handle ear.mtu) (if heard && not wanted && few then Some Notification
            else (if at-once then Some Indication else None)));
        pending = if at-once then record told.pending { unconfirmed = Some (unconfirmed_since now handle) }
            else (if heard && wanted then record told.pending { waiting = with_handle waiting handle } else told.pending);
      })

  abbrev notified : Bool → Bool → Bool → List Handle → Option Unconfirmed → Bool → Outgoing → Delivery
  notified may wanted few waiting unconfirmed timed_out outgoing =
      let told : Delivery = told-with waiting unconfirmed timed_out outgoing in
      let heard : Bool = not timed_out && may in
      delivery_with_heard told (record {
        responses = option_to_list (if heard && not wanted && few then Some (notification_of table.values handle ear.mtu) else None);
        pending = if heard && wanted then record told.pending { waiting = with_handle waiting handle } else told.pending;
      })

  -- and what is then due of it, where nothing waited before it
  abbrev released : Bool → Bool → Bool → Outgoing → Delivery
  released may wanted few outgoing =
      let due : List Handle = if may && wanted then handle ∷ [] else [] in
      let told : Delivery = told-with (handle ∷ []) None false outgoing in
      delivery_with_heard told (record {
        responses = option_to_list (option_map (λ (it : Handle). indication_of table.values it ear.mtu) (if few then first_handle due else None));
        pending = if few then record told.pending { waiting = rest_of due; unconfirmed = option_map (unconfirmed_since now) (first_handle due) }
            else told.pending;
      })

  same-by : (outgoing : Outgoing) (may wanted few : Bool) → may_hear_at table.attributes ear.row ear.standing handle ≡ may → wants_indications ear.row handle
      ≡ wanted
      → nat_lt (length outgoing.queue) MAX_BACKLOG ≡ few → (waiting : List Handle) (unconfirmed : Option Unconfirmed) (timed_out : Bool)
      → delivery_when_indicating table ear now (alone may wanted few waiting unconfirmed timed_out outgoing)
      ≡ delivery_when_indicating table ear now (notified may wanted few waiting unconfirmed timed_out outgoing)
  same-by outgoing may wanted few m w f waiting unconfirmed true = refl
  same-by outgoing false wanted few m w f waiting unconfirmed false = refl
  same-by outgoing true false true m w f waiting unconfirmed false = refl
  same-by outgoing true false false m w f waiting unconfirmed false = refl
  same-by outgoing true true true m w f [] None false = sym (λ i. released (m i) (w i) (f i) outgoing)
  same-by outgoing true true true m w f [] (Some sent) false = refl
  same-by outgoing true true true m w f (first ∷ rest) unconfirmed false = refl
  same-by outgoing true true false m w f [] None false = refl
  same-by outgoing true true false m w f [] (Some sent) false = refl
  same-by outgoing true true false m w f (first ∷ rest) unconfirmed false = refl

  same-released : (told : Delivery) → delivery_when_indicating table ear now (delivery_when_notifying_alone table ear now handle told)
      ≡ delivery_when_indicating table ear now (delivery_when_notifying table ear handle told)
  same-released told =
      same-by told.outgoing (may_hear_at table.attributes ear.row ear.standing handle) (wants_indications ear.row handle)
      (nat_lt (length told.outgoing.queue) MAX_BACKLOG)
      refl refl refl told.pending.waiting told.pending.unconfirmed told.pending.timed_out

  -- one that may not hear of it is told nothing
  unheard-by : (outgoing : Outgoing) (may : Bool) → may ≡ false → (wanted few : Bool) (waiting : List Handle) (unconfirmed : Option Unconfirmed)
      (timed_out : Bool)
      → alone may wanted few waiting unconfirmed timed_out outgoing ≡ told-with waiting unconfirmed timed_out outgoing
  unheard-by outgoing true none wanted few waiting unconfirmed timed_out = cc none
  unheard-by outgoing false none wanted few waiting unconfirmed true = refl
  unheard-by outgoing false none wanted few waiting unconfirmed false = refl

  unheard-alone : (told : Delivery) → may_hear_at table.attributes ear.row ear.standing handle ≡ false → delivery_when_notifying_alone table ear now handle told
      ≡ told
  unheard-alone told silent =
      unheard-by told.outgoing (may_hear_at table.attributes ear.row ear.standing handle) silent (wants_indications ear.row handle)
      (nat_lt (length told.outgoing.queue) MAX_BACKLOG)
      told.pending.waiting told.pending.unconfirmed told.pending.timed_out

module _ (table : Contents) (now : ℕ) (rows : Subscriptions) (handle : Handle) where
  heard-alone : (slot : Option SlotState)
      → slot_heard table now rows [] (slot_notified_alone table now rows handle slot) ≡ slot_heard table now rows (handle ∷ []) slot
  heard-alone None = refl
  heard-alone (Some slot_state) =
      elim slot_state.live as (λ (live : Bool). let it : Option SlotState = Some (record slot_state { live = live }) in
      slot_heard table now rows [] (slot_notified_alone table now rows handle it) ≡ slot_heard table now rows (handle ∷ []) it) [
        | true ↦ ap (λ (told : Delivery). Some (with_delivery (record slot_state { live = true }) told))
            (same-released table (hearer_facts_of now (row_of rows slot_state.peer) slot_state) now handle (delivery_of slot_state))
        | false ↦ refl
      ]

  silent-alone : ((row : Row) (standing : Standing) → may_hear_at table.attributes row standing handle ≡ false)
      → (slot : Option SlotState) → slot_notified_alone table now rows handle slot ≡ slot
  silent-alone silent None = refl
  silent-alone silent (Some slot_state) =
      let ear : HearerFacts = hearer_facts_of now (row_of rows slot_state.peer) slot_state in
      elim slot_state.live as
      (λ live. Some (if live then with_delivery slot_state (delivery_when_notifying_alone table ear now handle (delivery_of slot_state)) else slot_state)
      ≡ Some slot_state) [
        | true ↦ ap (λ (told : Delivery). Some (with_delivery slot_state told))
            (unheard-alone table ear now handle (delivery_of slot_state) (silent ear.row ear.standing))
        | false ↦ refl
      ]

-- where nobody may hear of it
pub nobody_hears_alone : (table : Contents) (now : ℕ) (rows : Subscriptions) (places : ℕ) (handle : Handle) (slots : SlotStates)
    → ((row : Row) (standing : Standing) → may_hear_at table.attributes row standing handle ≡ false)
    → slots ≡ all_notified_alone table now rows places handle slots
nobody_hears_alone table now rows places handle slots silent =
    sym (alike (λ place slot. if is_in places place then slot_notified_alone table now rows handle slot else slot) (λ place slot. slot) slots
    (λ place slot. same (is_in places place) slot) ∙ nothing 0 slots)
  where
    same : (among : Bool) (slot : Option SlotState) → (if among then slot_notified_alone table now rows handle slot else slot) ≡ slot
    same true slot = silent-alone table now rows handle silent slot
    same false slot = refl

-- for all: of those that may listen, `theirs` has those that it did not happen to
module _ (table : Contents) (now : ℕ) (rows : Subscriptions) (own : Option ℕ) (theirs listening : ℕ) (handle : Handle) (slots : SlotStates)
    (covers : Covers Value listening slots)
    (own_theirs : (place : ℕ) → place < MAX_SLOTS → is_own_place own place ≡ true → bit_at theirs place ≡ 0)
    (others_theirs : (place : ℕ) → place < MAX_SLOTS → is_own_place own place ≡ false → bit_at theirs place ≡ bit_at listening place) where
  abbrev by-bit : ℕ → Option SlotState → Option SlotState
  by-bit bit slot = slot_heard table now rows [] (if bit == 1 then slot_notified_alone table now rows handle slot else slot)

  abbrev heard-by : Bool → Option SlotState → Option SlotState
  heard-by is slot = slot_heard table now rows (if is then [] else handle ∷ []) slot

  theirs-heard : (place : ℕ) (in-it : Bool) → is_in listening place ≡ in-it
      → slot_heard table now rows [] (if in-it then slot_notified_alone table now rows handle (slot_state_at slots place) else slot_state_at slots place)
      ≡ slot_heard table now rows (handle ∷ []) (slot_state_at slots place)
  theirs-heard place true is = heard-alone table now rows handle (slot_state_at slots place)
  theirs-heard place false is = sym (unlistened table now rows (handle ∷ []) (slot_state_at slots place) (deaf (may_listen (slot_state_at slots place)) refl))
    where
      deaf : (so : Bool) → may_listen (slot_state_at slots place) ≡ so → may_listen (slot_state_at slots place) ≡ false
      deaf true so = clash (ap (λ (bit : ℕ). bit == 1) (covers place so)) is
      deaf false so = so

  each-within : (place : ℕ) → place < MAX_SLOTS → (is : Bool) → is_own_place own place ≡ is
      → by-bit (bit_at theirs place) (slot_state_at slots place) ≡ heard-by (is_own_place own place) (slot_state_at slots place)
  each-within place few true is =
      ap (λ (bit : ℕ). by-bit bit (slot_state_at slots place)) (own_theirs place few is)
      ∙ ap (λ (so : Bool). heard-by so (slot_state_at slots place)) (sym is)
  each-within place few false is =
      ap (λ (bit : ℕ). by-bit bit (slot_state_at slots place)) (others_theirs place few is)
      ∙ theirs-heard place (is_in listening place) refl
      ∙ ap (λ (so : Bool). heard-by so (slot_state_at slots place)) (sym is)

  nobody-there : (their is : Bool) → slot_heard table now rows [] (if their then slot_notified_alone table now rows handle None else None) ≡ heard-by is None
  nobody-there true is = refl
  nobody-there false is = refl

  each : length slots ≤ MAX_SLOTS → (place : ℕ)
      → by-bit (bit_at theirs (0 + place)) (slot_state_at slots place) ≡ slot_heard table now rows (handles_for own [] (handle ∷ []) (0 + place))
      (slot_state_at slots place)
  each few place =
      let first : 0 + place ≡ place = omega arith in
      subst (λ (at : ℕ). by-bit (bit_at theirs at) (slot_state_at slots place) ≡ heard-by (is_own_place own at) (slot_state_at slots place)) (sym first)
      (⊎_elim (λ within. each-within place within (is_own_place own place) refl)
      (λ beyond. subst (λ (it : Option SlotState). by-bit (bit_at theirs place) it ≡ heard-by (is_own_place own place) it)
      (sym (past slots place (omega (arith, few, beyond)))) (nobody-there (bit_at theirs place == 1) (is_own_place own place)))
      (cases_lt place MAX_SLOTS))

  pub all_alone : length slots ≤ MAX_SLOTS
      → all_heard table now rows None [] [] (all_notified_alone table now rows theirs handle slots) ≡ all_heard table now rows own [] (handle ∷ []) slots
  all_alone few =
      let told : ℕ → Option SlotState → Option SlotState = λ place slot. if is_in theirs place then slot_notified_alone table now rows handle slot else slot in
      let due : ℕ → Option SlotState → Option SlotState = λ place slot. slot_heard table now rows [] slot in
      together due told 0 slots
      ∙ alike-there (λ place slot. due place (told place slot)) (λ place slot. slot_heard table now rows (handles_for own [] (handle ∷ []) place) slot) 0 slots
      (each few)
