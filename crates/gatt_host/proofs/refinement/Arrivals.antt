-- A fragment makes the same frame whole behind what is put together at a slot as behind the fragments of its connection, and the
-- frames at the slots stay those of their connections' fragments.
use Rattle.std.proofs.Common.{◌≡◌, ◌≢◌, ℕ, ◌≤◌, ◌<◌, Bool, true, false, List, [], ◌∷◌, length, set, get_or, slice_get, Option, Some, None, refl, sym, ap, subst, ◌∙◌, arith}
use Rattle.std.specs.Prelude.{◌==◌, if◌then◌else◌}
use Rattle.std.proofs.lemmas.Bool.{eq-eqb, eqb-true}
use Rattle.std.proofs.lemmas.List.{get_or-set_same, get_or-set_other, length-set, set-get_or}
use Rattle.std.proofs.lemmas.Option.{slice_get_within}
use Rattle.gatt_host.proofs.owing.Nexts.{clash}
use Rattle.gatt_host.proofs.refinement.Holding.{some-is}
use Rattle.gatt_host.proofs.refinement.Names.{finds, place_there}
use Rattle.gatt_host.proofs.refinement.OneSlot.{same_place}
use Rattle.gatt_host.specs.ServerState.{ServerState}
use Rattle.gatt_host.specs.EventRefinement.{HoldsFrames, FramesFollow}
use Rattle.gatt_host.specs.Meaning.{Assemblies, once_heard, recombination, with_fragment}
use Rattle.gatt_host.specs.Packet.{arrivals_with, assembled_with}
use Rattle.gatt_host.specs.RunRefinement.{HasTimes}
use Rattle.gatt_host.specs.StateRefinement.{IsSound, RefinesState, place_of_connection}
use Rattle.gatt_laws.proofs.runs.Meant.{serves_in_a_slot}
use Rattle.gatt_laws.specs.laws.Renaming.{RecombineAlike}
use Rattle.gatt_laws.specs.machine.Context.{context_of, serving}
use Rattle.gatt_laws.specs.machine.Event.{Ordinal}
use Rattle.gatt_laws.specs.machine.Packets.{Fragments, Heard, arrival_of, recombinations_of, with_arrival, with_heard}
use Rattle.gatt_laws.specs.machine.State.{State}
use Rattle.host_connections.proofs.states.Places.{Finds}
use Rattle.host_connections.specs.declared.arrivals.Arrivals.{Arrivals}
use Rattle.host_connections.specs.Slots.{Place, place_serving}
use Rattle.le_acl.proofs.Frames.{assembled_frame}
use Rattle.le_acl.specs.Fragment.{Fragment, Beginning, Continuation, fragment_of}
use Rattle.le_acl.specs.Reassembler.{Assembly, no_assembly, assembly_after}

-- one fragment more
one-more : (fragment : Fragment) (fragments : List Fragment) → with_fragment (once_heard (assembly_after fragments)) fragment
    ≡ assembly_after (fragment ∷ fragments)
one-more (Beginning octets) fragments = refl
one-more (Continuation octets) fragments = refl

module _ (state : State) (server : ServerState) (sound : IsSound state) (refines : RefinesState state [] server) (fragments : Fragments) (frames : Assemblies)
    (holds : HoldsFrames state fragments frames) where
  pub recombine_alike : RecombineAlike Ordinal Place (place_of_connection state) (context_of state) (recombinations_of fragments)
      (λ place. recombination (get_or frames place no_assembly))
  recombine_alike handle ordinal serves fragment =
      ap (λ (assembly : Assembly). (with_fragment assembly fragment).frame)
      (holds (place_of_connection state ordinal) ordinal (place_there state server sound refines ordinal (serves_in_a_slot state handle ordinal serves).has))
      ∙ ap (λ (assembly : Assembly). assembly.frame) (one-more fragment (fragments ordinal))
      ∙ assembled_frame (fragment ∷ fragments ordinal)

  -- the frames then
  module _ (shared : length state.slots ≤ length frames) where
    frame-set : (at : ℕ) (own : Ordinal) (fragment : Fragment) → slice_get state.slots at ≡ Some (Some own)
        → HoldsFrames state (λ ordinal. if ordinal == own then fragment ∷ fragments ordinal else fragments ordinal)
        (set frames at (once_heard (with_fragment (get_or frames at no_assembly) fragment)))
    frame-set at own fragment has = λ place ordinal there.
        let new : Assembly = once_heard (with_fragment (get_or frames at no_assembly) fragment) in
        elim (ordinal == own) as (λ (same : Bool). (ordinal == own) ≡ same
        → get_or (set frames at new) place no_assembly ≡ once_heard (assembly_after (if same then fragment ∷ fragments ordinal else fragments ordinal))) [
          | true ↦ λ same.
              let is : ordinal ≡ own = eqb-true ordinal own same in
              let places : at ≡ place =
              same_place state.next state.slots at place own sound.settled.slots has (there ∙ ap (λ (one : Ordinal). Some (Some one)) is) in
              let within : at < length frames = let below = slice_get_within state.slots at (Some own) has in omega (arith, below, shared) in
              ap (λ (k : ℕ). get_or (set frames at new) k no_assembly) (sym places)
              ∙ get_or-set_same frames at new no_assembly within
              ∙ ap (λ (assembly : Assembly). once_heard (with_fragment assembly fragment)) (holds at own has)
              ∙ ap once_heard (one-more fragment (fragments own))
              ∙ ap (λ (one : Ordinal). once_heard (assembly_after (fragment ∷ fragments one))) (sym is)
          | false ↦ λ differs.
              let apart : place ≢ at = λ same.
              let read : Some (Some ordinal) ≡ Some (Some own) = sym there ∙ ap (λ (k : ℕ). slice_get state.slots k) same ∙ has in
              clash (sym differs ∙ eq-eqb ordinal own (some-is (some-is read))) in
              get_or-set_other frames at place new no_assembly apart ∙ holds place ordinal there
        ] refl

    frames-follow : (found : Option Ordinal) (place : Option ℕ) (fragment : Option Fragment) → Finds state.slots found place
        → HoldsFrames state (with_arrival fragments (arrival_of found fragment)) (assembled_with place fragment frames)
    frames-follow None place fragment none =
        subst (λ (place : Option ℕ). HoldsFrames state (with_arrival fragments (arrival_of None fragment)) (assembled_with place fragment frames))
        (sym none) holds
    frames-follow (Some ordinal) place None found =
        subst (λ (place : Option ℕ). HoldsFrames state (with_arrival fragments (arrival_of (Some ordinal) None)) (assembled_with place None frames))
        (sym found.is)
        (subst (HoldsFrames state fragments) (sym (set-get_or frames found.at no_assembly)) holds)
    frames-follow (Some ordinal) place (Some fragment) found =
        subst (λ (place : Option ℕ). HoldsFrames state (with_arrival fragments (arrival_of (Some ordinal) (Some fragment)))
        (assembled_with place (Some fragment) frames)) (sym found.is)
        (frame-set found.at ordinal fragment found.has)

-- the times then
module _ (state : State) (sound : IsSound state) (time : ℕ) (heard : Heard) where
  heard-set : (own : Ordinal) (at : ℕ) (times : List ℕ) → slice_get state.slots at ≡ Some (Some own) → at < length times → HasTimes state heard times
      → HasTimes state (with_heard time heard (Some own)) (set times at time)
  heard-set own at times has within is = record {
    there = λ place ordinal there.
        elim (ordinal == own) as (λ (same : Bool). (ordinal == own) ≡ same → get_or (set times at time) place 0 ≡ (if same then time else heard ordinal)) [
          | true ↦ λ same.
              let is_own : ordinal ≡ own = eqb-true ordinal own same in
              let places : at ≡ place =
              same_place state.next state.slots at place own sound.settled.slots has (there ∙ ap (λ (one : Ordinal). Some (Some one)) is_own) in
              ap (λ (k : ℕ). get_or (set times at time) k 0) (sym places) ∙ get_or-set_same times at time 0 within
          | false ↦ λ differs.
              let apart : place ≢ at = λ same.
              let read : Some (Some ordinal) ≡ Some (Some own) = sym there ∙ ap (λ (k : ℕ). slice_get state.slots k) same ∙ has in
              clash (sym differs ∙ eq-eqb ordinal own (some-is (some-is read))) in
              get_or-set_other times at place time 0 apart ∙ is.there place ordinal there
        ] refl;
    enough = subst (λ (count : ℕ). state.shared.slots ≤ count) (sym (length-set times at time)) is.enough;
  }

  pub times_follow : (found : Option Ordinal) (place : Option ℕ) (arrivals : Arrivals) → length state.slots ≤ length arrivals.heard
      → Finds state.slots found place → HasTimes state heard arrivals.heard
      → HasTimes state (with_heard time heard found) (arrivals_with time place arrivals).heard
  times_follow None place arrivals shared none is =
      subst (λ (place : Option ℕ). HasTimes state heard (arrivals_with time place arrivals).heard) (sym none) is
  times_follow (Some own) place arrivals shared found is =
      subst (λ (place : Option ℕ). HasTimes state (with_heard time heard (Some own)) (arrivals_with time place arrivals).heard) (sym found.is)
      (heard-set own found.at arrivals.heard found.has
      (let below = slice_get_within state.slots found.at (Some own) found.has in omega (arith, below, shared)) is)

pub frames_follow : FramesFollow
frames_follow state server fragments frames handle boundary broadcast octets sound refines shared holds =
    frames-follow state server sound refines fragments frames holds shared (serving state handle) (place_serving server.slots handle)
    (fragment_of boundary broadcast octets)
    (finds state server sound refines handle)
