-- What is noted of slots, as they change, and what is found by it.
use Rattle.std.proofs.Common.{◌≡◌, replicate, ℕ, zero, suc, ◌+◌, ◌<◌, ◌==◌, ◌&&◌, Bool, true, false, List, [], ◌∷◌, ◌++◌, drop, length, map, set, get_or, take, Option, Some, None, refl, sym, ap, subst, ◌∙◌, arith}
use Rattle.std.specs.Prelude.{is_some, if◌then◌else◌}
use Rattle.std.specs.Bool.{OnFalse, OnTrue}
use Rattle.std.specs.List.{position}
use Rattle.std.specs.Option.{option_map, option_map_or}
use Rattle.std.proofs.lemmas.Bool.{OnFalse_at, OnTrue_at, and_right, cases_eq, cases_lt}
use Rattle.std.proofs.lemmas.Bool.Decides.{eqb_tells}
use Rattle.std.proofs.lemmas.List.{drop_all, get_or_past, get_or-replicate, get_or-set_same, get_or-set_other, length-set, take-append-le, take_all}
use Rattle.std.proofs.lemmas.List.Quantifiers.{position-Some}
use Rattle.std.proofs.Math.Logic.{⊎_elim}
use Rattle.att_numbers.specs.Types.{Handle, Row}
use Rattle.att_attributes.specs.declared.attr.Attr.{Attr}
use Rattle.att_table.specs.ConfigRow.{kept_row}
use Rattle.att_table.specs.Table.{Contents}
use Rattle.gatt_laws.specs.machine.Effect.{authentication_failure, channel_answer, lost_encryption, remote_user_terminated}
use Rattle.host_connections.proofs.Covering.{at-other, at-same, read_at}
use Rattle.host_connections.proofs.HeardMarks.{heard-at}
use Rattle.host_connections.proofs.Found.{clash, first_at, kept-is}
use Rattle.host_connections.specs.Commands.{slot_without_command, slot_without_packet}
use Rattle.host_connections.specs.Handles.{noted_of, AreNoted, AreNotedIfAny}
use Rattle.host_connections.specs.Hearing.{hearer_facts_of, delivery_in_turn, delivery_of, with_delivery}
use Rattle.host_connections.specs.SlotState.{SlotState, slot_backlog}
use Rattle.host_connections.specs.Request.{overflows, slot_after_request}
use Rattle.host_connections.specs.Slots.{SlotStates, all_heard, handles_for, slot_heard, is_holding, is_serving, slot_state_at, place_holding, place_serving}
use Rattle.host_connections.specs.SlotEffects.{after_link_step, slot_after_ending, slot_after_other_channel, after_table, with_channel_answer}
use Rattle.host_api.specs.declared.TheConstants.{MAX_SLOTS}
use Rattle.host_connections.specs.declared.handles.TheConstants.{FREE}
use Rattle.gatt_subs.specs.Rows.{Subscriptions, row_of}
use Rattle.le_acl.specs.Outgoing.{with_pdu}
use Rattle.le_acl.specs.declared.pdus.TheConstants.{MAX_PDUS}
use Rattle.le_security.specs.Link.{Linking, Step, after_step}
use Rattle.octet_io.specs.Number.{Octets}

-- a handle is noted of the connection that has it
holds-noted : (handle : ℕ) → handle < 65536 → (slot : Option SlotState) → is_holding handle slot ≡ (noted_of slot == handle)
holds-noted handle below None = ⊎_elim (λ same. absurd (omega (arith, same.1, below))) (λ apart. sym apart.0) (eqb_tells 65536 handle)
holds-noted handle below (Some slot_state) = refl

module _ (slots : SlotStates) (noted : List ℕ) (are : AreNoted slots noted) where
  -- a slot is changed whose connection keeps its handle
  pub noted_still : (place : ℕ) (slot : Option SlotState) → place < length slots → noted_of slot ≡ noted_of (slot_state_at slots place)
      → AreNoted (set slots place slot) noted
  noted_still place slot within same = λ other there. ⊎_elim
      (λ is. ap (λ at. get_or noted at 65536) is ∙ are place within ∙ sym same
      ∙ ap noted_of (sym (at-same slots place slot within)) ∙ ap (λ at. noted_of (slot_state_at (set slots place slot) at)) (sym is))
      (λ apart. are other (omega (arith, there, length-set slots place slot)) ∙ ap noted_of (sym (at-other slots place other slot apart)))
      (cases_eq other place)

-- the event of a connection leaves it its handle
pub mapped_noted : (change : SlotState → SlotState) → ((slot_state : SlotState) → (change slot_state).handle ≡ slot_state.handle) → (slot : Option SlotState)
    → noted_of (option_map change slot) ≡ noted_of slot
mapped_noted change keeps None = refl
mapped_noted change keeps (Some slot_state) = keeps slot_state

pub changed_noted : (slots : SlotStates) (noted : List ℕ) (place : ℕ) (old new : Option SlotState) (change : SlotState → SlotState) → place < length slots
    → old ≡ get_or slots place old
    → ((slot_state : SlotState) → (change slot_state).handle ≡ slot_state.handle) → new ≡ option_map change old → AreNoted slots noted
    → AreNoted (set slots place new) noted
changed_noted slots noted place old new change within is keeps changes are =
    noted_still slots noted are place new within
    (ap noted_of changes ∙ mapped_noted change keeps old ∙ ap noted_of (sym (read_at slots place old within is)))

-- what becomes of a served one
ended-or : (full : Bool) (reason : ℕ) (slot_state other : SlotState) → other.handle ≡ slot_state.handle
    → (let after : SlotState = if full then slot_after_ending reason slot_state else other in after).handle ≡ slot_state.handle
ended-or true reason slot_state other same = refl
ended-or false reason slot_state other same = same

pub served_handle : (table : Contents) (now : ℕ) (bond : Option Row) (pdu : Octets) (slot_state : SlotState)
    → (slot_after_request table now bond pdu slot_state).handle ≡ slot_state.handle
served_handle table now bond pdu slot_state = ended-or (overflows pdu slot_state) remote_user_terminated slot_state _ refl

table-handle : (live : Bool) (slot_state other : SlotState) → other.handle ≡ slot_state.handle → (let after : SlotState = if live then other else slot_state in
    after).handle ≡ slot_state.handle
table-handle true slot_state other same = same
table-handle false slot_state other same = refl

pub replaced_handle : (old new : List Attr) (slot_state : SlotState) → (after_table old new slot_state).handle ≡ slot_state.handle
replaced_handle old new slot_state = table-handle slot_state.live (record slot_state { row = kept_row old new slot_state.row }) _ refl

-- and of one of which a packet may be given
pub given_noted : (slot given : Option SlotState) (gave : Bool) → OnTrue gave (given ≡ option_map slot_without_packet slot) → OnFalse gave (given ≡ slot)
    → noted_of given ≡ noted_of slot
given_noted slot given true after stays = ap noted_of (OnTrue_at refl after) ∙ mapped_noted slot_without_packet (λ slot_state. refl) slot
given_noted slot given false after stays = ap noted_of (OnFalse_at refl stays)

-- the first ones alone
first-kept : (slots : SlotStates) (count place : ℕ) → place < length (take count slots) → (slot_state_at (take count slots) place ≡ slot_state_at slots place)
    × (place < length slots)
first-kept [] zero place there = absurd (omega (arith, there))
first-kept [] (suc count) place there = absurd (omega (arith, there))
first-kept (slot ∷ slots) zero place there = absurd (omega (arith, there))
first-kept (slot ∷ slots) (suc count) zero there = (refl, omega arith)
first-kept (slot ∷ slots) (suc count) (suc place) there =
    let rest = first-kept slots count place (omega (arith, there)) in
    (rest.0, omega (arith, rest.1))

pub first_noted : (slots : SlotStates) (noted : List ℕ) (count : ℕ) → AreNoted slots noted → AreNoted (take count slots) noted
first_noted slots noted count are = λ place there.
    let first = first-kept slots count place there in
    are place first.1 ∙ ap noted_of (sym first.0)

-- each is changed
map-kept : (f : Option SlotState → Option SlotState) (slots : SlotStates) (place : ℕ) → place < length (map f slots)
    → (slot_state_at (map f slots) place ≡ f (slot_state_at slots place)) × (place < length slots)
map-kept f [] place there = absurd (omega (arith, there))
map-kept f (slot ∷ slots) zero there = (refl, omega arith)
map-kept f (slot ∷ slots) (suc place) there =
    let rest = map-kept f slots place (omega (arith, there)) in
    (rest.0, omega (arith, rest.1))

pub each_noted : (slots others : SlotStates) (noted : List ℕ) (change : SlotState → SlotState)
    → ((slot_state : SlotState) → (change slot_state).handle ≡ slot_state.handle)
    → others ≡ map (λ (slot : Option SlotState). option_map change slot) slots → AreNoted slots noted → AreNoted others noted
each_noted slots others noted change keeps is are =
    subst (λ (it : SlotStates). AreNoted it noted) (sym is) (λ place there.
    let at = map-kept (λ (slot : Option SlotState). option_map change slot) slots place there in
    are place at.1 ∙ sym (mapped_noted change keeps (slot_state_at slots place)) ∙ ap noted_of (sym at.0))

-- what is written over all of them is there
pub written_over : (len : ℕ) (old new : SlotStates) → length new ≡ length old → length old ≡ len → take len (new ++ drop (length new) old) ≡ new
written_over len old new same is =
    ap (λ (rest : SlotStates). take len (new ++ rest)) (drop_all (length new) old (omega (arith, same)))
    ∙ take-append-le len new [] (omega (arith, same, is)) ∙ take_all len new (omega (arith, same, is))

heard-handle : (table : Contents) (now : ℕ) (rows : Subscriptions) (handles : List Handle) (slot : Option SlotState)
    → noted_of (slot_heard table now rows handles slot) ≡ noted_of slot
heard-handle table now rows handles None = refl
heard-handle table now rows handles (Some slot_state) =
    table-handle slot_state.live slot_state
    (with_delivery slot_state (delivery_in_turn table (hearer_facts_of now (row_of rows slot_state.peer) slot_state) now handles (delivery_of slot_state))) refl

pub heard_noted : (table : Contents) (now : ℕ) (rows : Subscriptions) (own : Option ℕ) (here handles : List Handle) (slots heard : SlotStates) (noted : List ℕ)
    → heard ≡ all_heard table now rows own here handles slots → length heard ≡ length slots → AreNoted slots noted → AreNoted heard noted
heard_noted table now rows own here handles slots heard noted is count are = λ place there.
    let hear : ℕ → Option SlotState → Option SlotState = λ at slot. slot_heard table now rows (handles_for own here handles at) slot in
    are place (omega (arith, there, count))
    ∙ sym (heard-handle table now rows (handles_for own here handles place) (slot_state_at slots place))
    ∙ ap noted_of (sym (heard-at hear (λ at. refl) 0 slots place ∙ ap (λ (at : ℕ). hear at (slot_state_at slots place)) (first place)))
    ∙ ap (λ (it : SlotStates). noted_of (slot_state_at it place)) (sym is)
  where
    first : (place : ℕ) → 0 + place ≡ place
    first place = omega arith

-- where none is noted, and where more and more are
pub none_noted : (slots : SlotStates) → AreNotedIfAny slots (replicate MAX_SLOTS FREE)
none_noted slots place some = absurd (⊎_elim
    (λ within. omega (arith, some, get_or-replicate {A = ℕ} MAX_SLOTS place FREE FREE within))
    (λ beyond. omega (arith, some, get_or_past {X = ℕ} (replicate MAX_SLOTS FREE) place FREE beyond))
    (cases_lt place MAX_SLOTS))

pub noted_more : (slots : SlotStates) (noted : List ℕ) (place handle : ℕ) → place < length noted → handle ≡ noted_of (slot_state_at slots place)
    → ((other : ℕ) → other < place → get_or noted other FREE ≡ noted_of (slot_state_at slots other))
    → (other : ℕ) → other < place + 1 → get_or (set noted place handle) other FREE ≡ noted_of (slot_state_at slots other)
noted_more slots noted place handle within is are other less = ⊎_elim
    (λ same. ap (λ at. get_or (set noted place handle) at FREE) same ∙ get_or-set_same noted place handle FREE within ∙ is
    ∙ ap (λ at. noted_of (slot_state_at slots at)) (sym same))
    (λ apart. get_or-set_other noted place other handle FREE apart ∙ are other (omega (arith, less, apart)))
    (cases_eq other place)

-- what is found by a handle
module _ (slots : SlotStates) (noted : List ℕ) (any : AreNotedIfAny slots noted) (handle : ℕ) (below : handle < 65536) where
  pub noted_found : (place : ℕ) → position (λ (it : ℕ). it == handle) noted ≡ Some place → place < length slots → Some place ≡ place_holding slots handle
  noted_found place is there =
      let found = position-Some (λ (it : ℕ). it == handle) noted place 65536 is in
      let some : get_or noted place 65536 < 65536 =
      ⊎_elim (λ same. omega (arith, same.1, below)) (λ apart. clash found.1 apart.0) (eqb_tells (get_or noted place 65536) handle) in
      let are : AreNoted slots noted = any place some in
      let is-noted : (at : ℕ) → at < length slots → is_holding handle (slot_state_at slots at) ≡ (get_or noted at 65536 == handle) =
      λ at within. holds-noted handle below (slot_state_at slots at) ∙ ap (λ (it : ℕ). it == handle) (sym (are at within)) in
      sym (first_at (is_holding handle) refl slots place (is-noted place there ∙ found.1)
      (λ other less. is-noted other (omega (arith, less, there)) ∙ found.2 other less))

-- a connection that is found and serves is the first that does
live-holds : (handle : ℕ) (slot : Option SlotState) → is_holding handle slot ≡ false → is_serving handle slot ≡ false
live-holds handle None not = refl
live-holds handle (Some slot_state) not = and_right slot_state.live (slot_state.handle == handle) not

serves-live : (handle : ℕ) (slot : Option SlotState) → is_holding handle slot ≡ true → option_map_or (λ (slot_state : SlotState). slot_state.live) slot false
    ≡ true → is_serving handle slot ≡ true
serves-live handle None holds live = holds
serves-live handle (Some slot_state) holds live = λ i. live i && holds i

pub found_serving : (slots : SlotStates) (handle place : ℕ) → Some place ≡ place_holding slots handle
    → option_map_or (λ (slot_state : SlotState). slot_state.live) (slot_state_at slots place) false ≡ true
    → Some place ≡ place_serving slots handle
found_serving slots handle place is live =
    let found = position-Some (is_holding handle) slots place None (sym is) in
    let held : (other : ℕ) → other < place → is_serving handle (slot_state_at slots other) ≡ false = λ other less.
    live-holds handle (slot_state_at slots other) (ap (is_holding handle) (kept-is slots other (omega (arith, less, found.0))) ∙ found.2 other less) in
    sym (first_at (is_serving handle) refl slots place
    (serves-live handle (slot_state_at slots place) (ap (is_holding handle) (kept-is slots place found.0) ∙ found.1) live) held)

-- and of what happens beside requests
pub linked_handle : (step : Step) (slot_state : SlotState) → (after_link_step step slot_state).handle ≡ slot_state.handle
linked_handle step slot_state =
    let link : Linking = after_step slot_state.link step in
    let new : SlotState = record slot_state { link = link } in
    ended-or (lost_encryption slot_state.link.key link.key) authentication_failure new new refl

answered-handle : (channel : ℕ) (answer : Option Octets) (slot_state : SlotState) → (with_channel_answer channel answer slot_state).handle ≡ slot_state.handle
answered-handle channel None slot_state = refl
answered-handle channel (Some answer) slot_state =
    ended-or (slot_backlog slot_state == MAX_PDUS) remote_user_terminated slot_state
    (record slot_state { outgoing = with_pdu slot_state.outgoing (channel, answer) }) refl

pub other_channel_handle : (channel : ℕ) (payload : Octets) (slot_state : SlotState) → (slot_after_other_channel channel payload slot_state).handle
    ≡ slot_state.handle
other_channel_handle channel payload slot_state = answered-handle channel (channel_answer channel payload) slot_state

pub sent_handle : (slot_state : SlotState) → (slot_without_command slot_state).handle ≡ slot_state.handle
sent_handle slot_state = by (is_some slot_state.reason)
  where
    by : (ending : Bool) → (let after : SlotState = if ending then record slot_state { reason = None } else record slot_state { reply = None } in
        after).handle ≡ slot_state.handle
    by true = refl
    by false = refl
