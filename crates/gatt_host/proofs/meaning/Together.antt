-- What is put together at the slots stays so at each event: a connection that comes begins with nothing, and no other slot gets another.
use Rattle.std.proofs.Common.{◌≡◌, ◌≢◌, ◌⊎◌, inl, inr, ℕ, zero, suc, ◌+◌, ◌≤◌, ◌<◌, Bool, true, false, List, [], ◌∷◌, length, map, set, get_or, slice_get, Option, Some, None, refl, sym, ap, subst, ◌∙◌, arith}
use Rattle.std.specs.Prelude.{is_some, is_none, replicate, ◌==◌, ◌||◌, if◌then◌else◌}
use Rattle.std.specs.Option.{option_map}
use Rattle.std.proofs.lemmas.Bool.{eq-eqb, ne_eqb, or_right}
use Rattle.std.proofs.lemmas.List.{get_or-set_same, get_or-set_other, length-replicate, length-set}
use Rattle.gatt_host.proofs.meaning.Staying.{rooms_stay}
use Rattle.gatt_host.proofs.owing.Nexts.{clash}
use Rattle.gatt_host.proofs.refinement.ForAll.{each_length}
use Rattle.gatt_host.proofs.refinement.Holding.{Holds, has_slot_there, holds, some-is, were_open}
use Rattle.gatt_host.specs.ServerState.{ServerState}
use Rattle.gatt_host.specs.Meaning.{IncomingFrames, frames_after, once_heard}
use Rattle.gatt_host.specs.Owing.{all_given, slot_state_handed}
use Rattle.gatt_host.specs.RunRefinement.{IsPutTogether, accepted_before}
use Rattle.gatt_host.specs.StateRefinement.{IsSound, RefinesState, place_among, slots_with_buffers}
use Rattle.gatt_laws.proofs.invariants.Settled.{none_next}
use Rattle.gatt_laws.specs.machine.Controller.{Slots, has_free, is_ready, with_freed, with_taken}
use Rattle.gatt_laws.specs.machine.Event.{Ordinal, Own, Event, Happening, Connected, Disconnected, Of, Credit}
use Rattle.gatt_laws.specs.machine.Packets.{Fragments, Heard, with_heard}
use Rattle.gatt_laws.specs.laws.Settled.{has_slot}
use Rattle.gatt_laws.specs.machine.State.{State, change_of, slots_when_ready, step}
use Rattle.host_connections.proofs.states.Places.{position_step}
use Rattle.host_connections.specs.Arrivals.{counted_on}
use Rattle.host_connections.specs.SlotState.{SlotState}
use Rattle.host_connections.specs.Slots.{place_free}
use Rattle.le_acl.specs.Fragment.{Fragment}
use Rattle.le_acl.specs.Reassembler.{no_assembly, assembly_after}
use Rattle.le_hci.specs.declared.buffers.Buffers.{Buffers}
use Rattle.le_hci.specs.declared.init.Init.{Init}
use Rattle.le_hci.specs.declared.init.Init.TheVariants.{Ready}
use Rattle.le_hci.specs.declared.peer.Peer.{Peer}
use Rattle.octet_io.proofs.Choices.{or_false_left, or_false_right}
use Rattle.octet_io.specs.Number.{Octets}

-- no more slots are opened than a host was opened with
within : (slots : ℕ) (buffers : Option Buffers) → slots_with_buffers slots buffers ≤ slots
within slots None = omega arith
within slots (Some buffers) = omega arith

pub few_slots : (state : State) (server : ServerState) → IsSound state → RefinesState state [] server → length state.slots ≤ state.shared.slots
few_slots state server sound refines = by (is_ready state.controller) refl
  where
    is : Holds state (all_given state) server
    is = holds state server refines

    by : (ready : Bool) → is_ready state.controller ≡ ready → length state.slots ≤ state.shared.slots
    by true ready =
        let count : length state.slots ≡ slots_with_buffers state.shared.slots state.shared.buffers =
        sym (each_length (slot_state_handed state (all_given state)) state.slots)
        ∙ sym (ap (λ (slots : List (Option SlotState)). length slots) (were_open state (all_given state) server is ready)) ∙ is.ready ready in
        omega (arith, count, within state.shared.slots state.shared.buffers)
    by false early =
        let none : length state.slots ≡ 0 = ap (λ (slots : Slots). length slots) (sound.settled.early early) in
        omega (arith, none)

-- a host has no more slots than it was opened with
pub slots_within : (state : State) (owed : List Octets) (server : ServerState) → RefinesState state owed server → length server.slots ≤ state.shared.slots
slots_within state owed server refines = by (is_ready state.controller) refl
  where
    by : (ready : Bool) → is_ready state.controller ≡ ready → length server.slots ≤ state.shared.slots
    by true ready = omega (arith, refines.ready ready, within state.shared.slots state.shared.buffers)
    by false early =
        let free : length server.slots ≡ state.shared.slots =
        ap (λ (slots : List (Option SlotState)). length slots) (refines.free early) ∙ length-replicate {A = Option SlotState} state.shared.slots None in
        omega (arith, free)

-- an event with which a connection comes
abbrev pub is_coming_own : Own → Bool
is_coming_own (Connected handle peer) = true
is_coming_own own = false

abbrev pub is_coming : {C : Type 0} → Happening C → Bool
is_coming (Of connection own) = is_coming_own own
is_coming event = false

-- at any other event each slot keeps its connection, or none
freed-before : (ordinal : Ordinal) (slots : Slots) (place : ℕ) (other : Ordinal)
    → slice_get (with_freed ordinal slots) place ≡ Some (Some other) → slice_get slots place ≡ Some (Some other)
freed-before ordinal [] place other there = there
freed-before ordinal (None ∷ slots) zero other there = there
freed-before ordinal (Some first ∷ slots) zero other there = by (first == ordinal) there
  where
    by : (own : Bool) → Some (if own then None else Some first) ≡ Some (Some other) → Some (Some first) ≡ Some (Some other)
    by true is = absurd (clash (ap (λ (slot : Option Ordinal). is_some slot) (some-is is)))
    by false is = is
freed-before ordinal (None ∷ slots) (suc place) other there = freed-before ordinal slots place other there
freed-before ordinal (Some first ∷ slots) (suc place) other there = freed-before ordinal slots place other there

abbrev all_free : ℕ → Slots
all_free count = replicate count None

none-there : (count place : ℕ) (other : Ordinal) → slice_get (all_free count) place ≡ Some (Some other) → ⊥
none-there zero place other there = cc there
none-there (suc count) zero other there = clash (ap (λ (slot : Option Ordinal). is_some slot) (some-is there))
none-there (suc count) (suc place) other there = none-there count place other there

opened-before : (count : ℕ) (init : Init) (slots : Slots) (place : ℕ) (other : Ordinal)
    → slice_get (slots_when_ready count init slots) place ≡ Some (Some other) → slice_get slots place ≡ Some (Some other)
opened-before count (Ready told packets) slots place other there = absurd (none-there _ place other there)
opened-before count init slots place other there = there

pub record KeepsOrFrees (old new : State) : Type 0 where
  pub there : (place : ℕ) (ordinal : Ordinal)
      → slice_get new.slots place ≡ Some (Some ordinal) → slice_get old.slots place ≡ Some (Some ordinal)
  pub next : new.next ≡ old.next

pub keeps_or_frees : (state : State) (event : Event) → is_coming event ≡ false → KeepsOrFrees state (step state event)
unfolding step change_of
keeps_or_frees state (Of own (Connected handle peer)) other = absurd (clash (sym other))
keeps_or_frees state (Of own Disconnected) other = record { there = λ place ordinal is. freed-before own state.slots place ordinal is; next = refl }
keeps_or_frees state (Credit allowed opcode status (Some init)) other =
    record { there = λ place ordinal is. opened-before state.shared.slots init state.slots place ordinal is; next = refl }
keeps_or_frees state (Credit allowed opcode status None) other = record { there = λ place ordinal is. is; next = refl }
keeps_or_frees state event other = record { there = λ place ordinal is. is; next = refl }

pub together_then : (state : State) (event : Event) (fragments : Fragments) (heard : Heard) (frames : IncomingFrames) → is_coming event ≡ false
    → IsPutTogether state fragments heard frames → IsPutTogether (step state event) fragments heard frames
together_then state event fragments heard frames other is =
    let keeps : KeepsOrFrees state (step state event) = keeps_or_frees state event other in
    let slots : (count : ℕ) → state.shared.slots ≤ count → (step state event).shared.slots ≤ count =
    λ count enough. subst (λ (slots : ℕ). slots ≤ count) (sym (rooms_stay state event)) enough in
    record {
      there = λ place ordinal at. is.there place ordinal (keeps.there place ordinal at);
      fresh = λ ordinal later. is.fresh ordinal (subst (λ (next : Ordinal). next ≤ ordinal) keeps.next later);
      enough = slots (length frames.assembled) is.enough;
      numbered = record {
        there = λ place ordinal at. is.numbered.there place ordinal (keeps.there place ordinal at);
        accepted = is.numbered.accepted ∙ sym (ap accepted_before keeps.next);
        enough = slots (length frames.arrivals.ordinals) is.numbered.enough;
      };
      timed = record {
        there = λ place ordinal at. is.timed.there place ordinal (keeps.there place ordinal at);
        enough = slots (length frames.arrivals.heard) is.timed.enough;
      };
    }

-- the first slot that is free
pub first_free : Slots → ℕ
first_free [] = 0
first_free (None ∷ slots) = 0
first_free (Some ordinal ∷ slots) = suc (first_free slots)

free-within : (slots : Slots) → has_free slots ≡ true → first_free slots < length slots
unfolding first_free
free-within [] has = absurd (clash has)
free-within (None ∷ slots) has = omega arith
free-within (Some ordinal ∷ slots) has = let later = free-within slots has in omega (arith, later)

module _ (keep : Option Ordinal → Option SlotState) (free : keep None ≡ None) where
  if-there : (slot : Option SlotState) (place : Option ℕ) → is_some slot ≡ true → (if is_none slot then Some 0 else place) ≡ place
  if-there None place there = absurd (clash there)
  if-there (Some slot_state) place there = refl

  pub finds_free : (slots : Slots) → has_free slots ≡ true
      → ((other : Ordinal) → has_slot other slots ≡ true → is_some (keep (Some other)) ≡ true)
      → place_free (map keep slots) ≡ Some (first_free slots)
  unfolding first_free
  finds_free [] has there = absurd (clash has)
  finds_free (None ∷ slots) has there =
      position_step is_none (keep None) (map keep slots)
      ∙ ap (λ (slot : Option SlotState). if is_none slot then Some 0 else option_map suc (place_free (map keep slots))) free
  finds_free (Some first ∷ slots) has there =
      position_step is_none (keep (Some first)) (map keep slots)
      ∙ if-there (keep (Some first)) (option_map suc (place_free (map keep slots)))
      (there first (ap (λ (own : Bool). own || has_slot first slots) (eq-eqb first first refl)))
      ∙ ap (λ (place : Option ℕ). option_map suc place)
      (finds_free slots has (λ other other_has. there other (or_right (first == other) (has_slot other slots) other_has)))

pub next_place : (next : Ordinal) (slots : Slots) → has_free slots ≡ true → has_slot next slots ≡ false → place_among (with_taken next slots) next
    ≡ first_free slots
unfolding first_free
next_place next [] free lacks = absurd (clash free)
next_place next (None ∷ slots) free lacks = ap (λ (own : Bool). if own then 0 else suc (place_among slots next)) (eq-eqb next next refl)
next_place next (Some first ∷ slots) free lacks =
    ap (λ (own : Bool). if own then 0 else suc (place_among (with_taken next slots) next)) (or_false_left (first == next) (has_slot next slots) lacks)
    ∙ ap (λ (place : ℕ). suc place) (next_place next slots free (or_false_right (first == next) (has_slot next slots) lacks))

-- who has a slot once one is taken had it before, or has come to it
abbrev CameOrWas : Ordinal → Slots → ℕ → Ordinal → Type 0
CameOrWas next slots place other =
    ((place ≡ first_free slots) × (other ≡ next)) ⊎ ((place ≢ first_free slots) × (slice_get slots place ≡ Some (Some other)))

came-or-was : (next : Ordinal) (slots : Slots) (place : ℕ) (other : Ordinal)
    → slice_get (with_taken next slots) place ≡ Some (Some other) → CameOrWas next slots place other
unfolding first_free
came-or-was next [] place other there = absurd (none-there 0 place other there)
came-or-was next (None ∷ slots) zero other there = inl (refl, sym (some-is (some-is there)))
came-or-was next (None ∷ slots) (suc place) other there = inr ((λ same. omega (arith, same)), there)
came-or-was next (Some first ∷ slots) zero other there = inr ((λ same. omega (arith, same)), there)
came-or-was next (Some first ∷ slots) (suc place) other there = elim (came-or-was next slots place other there) [
  | inl came ↦ inl (ap (λ (at : ℕ). suc at) came.0, came.1)
  | inr was ↦ inr ((λ same. was.0 (omega (arith, same))), was.1)
]

-- the count goes on
counted : (next : Ordinal) → counted_on (accepted_before next) ≡ accepted_before (next + 1)
counted next = omega arith

counted-as : (next : Ordinal) → accepted_before (next + 1) ≡ counted_on next
counted-as next = omega arith

-- a connection comes, begins with nothing, has the next ordinal and is heard
pub together_coming : (state : State) (server : ServerState) (fragments : Fragments) (heard : Heard) (frames : IncomingFrames) (time handle : ℕ) (peer : Peer)
    → IsSound state → RefinesState state [] server → has_free state.slots ≡ true → IsPutTogether state fragments heard frames
    → IsPutTogether (step state (Of state.next (Connected handle peer))) fragments (with_heard time heard (Some state.next))
    (frames_after time (Of (first_free state.slots) (Connected handle peer)) frames)
unfolding step change_of
together_coming state server fragments heard frames time handle peer sound refines free is = record {
  there = λ place ordinal there. read place ordinal (came-or-was state.next state.slots place ordinal there);
  fresh = λ ordinal later. is.fresh ordinal (omega (arith, later));
  enough = omega (arith, is.enough, length-set frames.assembled taken no_assembly);
  numbered = record {
    there = λ place ordinal there. number place ordinal (came-or-was state.next state.slots place ordinal there);
    accepted = ap counted_on is.numbered.accepted ∙ counted state.next;
    enough = omega (arith, is.numbered.enough, length-set frames.arrivals.ordinals taken (counted_on frames.arrivals.accepted));
  };
  timed = record {
    there = λ place ordinal there. times place ordinal (came-or-was state.next state.slots place ordinal there);
    enough = omega (arith, is.timed.enough, length-set frames.arrivals.heard taken time);
  };
}
  where
    taken : ℕ
    taken = first_free state.slots

    inside : (count : ℕ) → state.shared.slots ≤ count → taken < count
    inside count enough = omega (arith, free-within state.slots free, few_slots state server sound refines, enough)

    read : (place : ℕ) (ordinal : Ordinal) → CameOrWas state.next state.slots place ordinal
        → get_or (set frames.assembled taken no_assembly) place no_assembly ≡ once_heard (assembly_after (fragments ordinal))
    read place ordinal (inl came) =
        ap (λ (at : ℕ). get_or (set frames.assembled taken no_assembly) at no_assembly) came.0
        ∙ get_or-set_same frames.assembled taken no_assembly no_assembly (inside (length frames.assembled) is.enough)
        ∙ sym (ap (λ (own : Ordinal). once_heard (assembly_after (fragments own))) came.1
        ∙ ap (λ (none : List Fragment). once_heard (assembly_after none)) (is.fresh state.next (omega arith)))
    read place ordinal (inr was) = get_or-set_other frames.assembled taken place no_assembly no_assembly was.0 ∙ is.there place ordinal was.1

    own : ℕ
    own = counted_on frames.arrivals.accepted

    number : (place : ℕ) (ordinal : Ordinal) → CameOrWas state.next state.slots place ordinal
        → get_or (set frames.arrivals.ordinals taken own) place 0 ≡ counted_on ordinal
    number place ordinal (inl came) =
        ap (λ (at : ℕ). get_or (set frames.arrivals.ordinals taken own) at 0) came.0
        ∙ get_or-set_same frames.arrivals.ordinals taken own 0 (inside (length frames.arrivals.ordinals) is.numbered.enough)
        ∙ ap counted_on is.numbered.accepted ∙ counted state.next ∙ counted-as state.next
        ∙ sym (ap counted_on came.1)
    number place ordinal (inr was) = get_or-set_other frames.arrivals.ordinals taken place own 0 was.0 ∙ is.numbered.there place ordinal was.1

    heard_by : Ordinal → Bool → ℕ
    heard_by ordinal comes = if comes then time else heard ordinal

    next-lacks : has_slot state.next state.slots ≡ false
    next-lacks = none_next state.next state.next state.slots (omega arith) sound.settled.slots

    times : (place : ℕ) (ordinal : Ordinal) → CameOrWas state.next state.slots place ordinal
        → get_or (set frames.arrivals.heard taken time) place 0 ≡ heard_by ordinal (ordinal == state.next)
    times place ordinal (inl came) =
        ap (λ (at : ℕ). get_or (set frames.arrivals.heard taken time) at 0) came.0
        ∙ get_or-set_same frames.arrivals.heard taken time 0 (inside (length frames.arrivals.heard) is.timed.enough)
        ∙ ap (heard_by ordinal) (sym (eq-eqb ordinal state.next came.1))
    times place ordinal (inr was) =
        let differs : ordinal ≢ state.next = λ same.
        clash (sym next-lacks ∙ ap (λ (one : Ordinal). has_slot one state.slots) (sym same) ∙ has_slot_there ordinal state.slots place was.1) in
        get_or-set_other frames.arrivals.heard taken place time 0 was.0 ∙ is.timed.there place ordinal was.1
        ∙ ap (heard_by ordinal) (sym (ne_eqb ordinal state.next differs))
