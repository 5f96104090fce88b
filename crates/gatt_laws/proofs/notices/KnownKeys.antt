-- A listener knows the keys of links, after each event and in every run.
use Rattle.std.proofs.Common.{◌≡◌, ℕ, Bool, true, false, List, [], ◌∷◌, Option, Some, None}
use Rattle.std.proofs.Common.{refl, sym, ap, subst, ◌∙◌}
use Rattle.std.specs.Prelude.{◌==◌, ◌&&◌, ◌||◌, All, fold, if◌then◌else◌}
use Rattle.std.specs.List.{list_any}
use Rattle.std.specs.Option.{option_map_or}
use Rattle.std.proofs.lemmas.Bool.{eqb-true, eq-eqb}
use Rattle.std.proofs.lemmas.List.Elements.{All-head, All-tail}
use Rattle.std.proofs.lemmas.List.Sums.{fold-append}
use Rattle.att_policy.specs.declared.standing.KeyFacts.{KeyFacts}
use Rattle.gatt_laws.proofs.runs.ItemEvents.{MeantIfSome, any_table, item_meant, means_its_event}
use Rattle.gatt_laws.proofs.notices.KeyNotices.{changes_key, none-stricter, stays_keyed}
use Rattle.gatt_laws.proofs.notices.KnowingWho.{away, had_slot, its-handle, knowing-at-first, old-slot}
use Rattle.gatt_laws.proofs.notices.KnowingWho.{stays-knowing}
use Rattle.gatt_laws.proofs.runs.Meant.{possible_where_meant, unused_where_meant}
use Rattle.gatt_laws.proofs.runs.Named.{step_named}
use Rattle.gatt_laws.proofs.notices.Skips.{none_of_the_event}
use Rattle.gatt_laws.proofs.notices.ToldIsSo.{tells_what_is_so}
use Rattle.gatt_laws.specs.laws.KnownKeys.{KnownKeys, with_key, known_keys_after, no_keys_known, AreKeysKnown, KnowsTheKeys}
use Rattle.gatt_laws.specs.laws.Possible.{Possible}
use Rattle.gatt_laws.specs.laws.Present.{ConnectsUnused, IsKnowing}
use Rattle.gatt_laws.specs.laws.RowNotices.{is_connection_or_disconnection}
use Rattle.gatt_laws.specs.laws.Settled.{has_slot, IsSettled}
use Rattle.gatt_laws.specs.laws.ToldIsSo.{OfOne, IsSo}
use Rattle.gatt_laws.specs.machine.ConnectionState.{ConnectionState, is_there, key_of}
use Rattle.gatt_laws.specs.machine.Event as event
use Rattle.gatt_laws.specs.machine.Event.{Ordinal, Event, Of}
use Rattle.gatt_laws.specs.machine.Input.{Item, Run, after_item, after_items, run_at_start, run}
use Rattle.gatt_laws.specs.machine.ItemEvents.{event_at, after_if}
use Rattle.gatt_laws.specs.machine.Notice.{Notice, Connected, Secured, Unsecured, event_told, noticed, notices_of, notices_in}
use Rattle.gatt_laws.specs.machine.State.{State, step}
use Rattle.octet_io.proofs.Choices.{or_false_left}

-- a connection that is there has a slot
pub has-slot : (state : State) (ordinal : Ordinal) → IsSettled state → is_there (state.connections ordinal).mark ≡ true
    → has_slot ordinal state.slots ≡ true
has-slot state ordinal settled there =
    elim (has_slot ordinal state.slots) as (λ (has : Bool). has_slot ordinal state.slots ≡ has → has ≡ true) [
      | true ↦ λ has. refl
      | false ↦ λ lacks.
          let away : is_there (state.connections ordinal).mark ≡ false =
          ap (λ (connection : ConnectionState). is_there connection.mark) (settled.absent ordinal lacks) in
          absurd (cc (away, there))
    ] refl

-- no other that is there has its handle
abbrev pub IsAlone : State → Ordinal → Type 0
IsAlone state ordinal = (other : Ordinal) → is_there (state.connections other).mark ≡ true
    → (state.connections other).handle ≡ (state.connections ordinal).handle → other ≡ ordinal

pub is-alone : (state : State) (ordinal : Ordinal) → IsKnowing state → is_there (state.connections ordinal).mark ≡ true
    → IsAlone state ordinal
is-alone state ordinal is there other there_too same =
    is.handles other ordinal (has-slot state other is.settled there_too) (has-slot state ordinal is.settled there) same

-- A notice sets what is known of the key at its handle.

abbrev pub sets_key : ℕ → Notice → Bool
sets_key handle (Connected other peer) = other == handle
sets_key handle (Secured other facts) = other == handle
sets_key handle (Unsecured other) = other == handle
sets_key handle notice = false

sets-changes : (handle : ℕ) (notice : Notice) → sets_key handle notice ≡ false → changes_key handle notice ≡ false
sets-changes handle (Secured other facts) none = none
sets-changes handle (Unsecured other) none = none
sets-changes handle notice none = refl

pub set-or-kept : {A : Type 0} (found old right : A) (same later : Bool) → (same ≡ true → found ≡ right)
    → ((same || later) ≡ false → old ≡ right) → later ≡ false → (if same then found else old) ≡ right
set-or-kept found old right true later is keeps none = is refl
set-or-kept found old right false later is keeps none = keeps none

-- and since it is so afterwards, the last of some leaves it right
module _ (new : State) (ordinal : Ordinal) (alone : IsAlone new ordinal) where
  abbrev handle : ℕ
  handle = (new.connections ordinal).handle

  abbrev key : Option KeyFacts
  key = key_of (new.connections ordinal)

  its-key : (other : ℕ) (found : Option KeyFacts) → (other == handle) ≡ true
      → OfOne new other (λ one. key_of (new.connections one) ≡ found) → found ≡ key
  its-key other found same of =
      sym of.holds
      ∙ ap (λ (one : Ordinal). key_of (new.connections one))
      (alone of.ordinal of.there (of.named ∙ eqb-true other handle same))

  pub right-after : (notices : List Notice) (known : KnownKeys) → All (IsSo new) notices
      → (list_any (sets_key handle) notices ≡ false → known handle ≡ key)
      → fold known_keys_after known notices handle ≡ key
  right-after [] known are keeps = keeps refl
  right-after (Connected other peer ∷ rest) known are keeps =
      let is = All-head (IsSo new) (Connected other peer) rest are in
      right-after rest (with_key other None known) (All-tail (IsSo new) (Connected other peer) rest are)
      (set-or-kept None (known handle) key (other == handle) (list_any (sets_key handle) rest)
      (λ same. its-key other None same (record {
        ordinal = is.ordinal;
        there = is.there;
        named = is.named;
        holds = is.holds.key;
      })) keeps)
  right-after (Secured other facts ∷ rest) known are keeps =
      let is = All-head (IsSo new) (Secured other facts) rest are in
      right-after rest (with_key other (Some facts) known) (All-tail (IsSo new) (Secured other facts) rest are)
      (set-or-kept (Some facts) (known handle) key (other == handle) (list_any (sets_key handle) rest)
      (λ same. its-key other (Some facts) same is) keeps)
  right-after (Unsecured other ∷ rest) known are keeps =
      let is = All-head (IsSo new) (Unsecured other) rest are in
      right-after rest (with_key other None known) (All-tail (IsSo new) (Unsecured other) rest are)
      (set-or-kept None (known handle) key (other == handle) (list_any (sets_key handle) rest)
      (λ same. its-key other None same is) keeps)
  right-after (notice ∷ rest) known are keeps =
      right-after rest known (All-tail (IsSo new) notice rest are) keeps

-- At an event.

module _ (state : State) (happens : Event) (known : KnownKeys) (ordinal : Ordinal) (is : IsKnowing state)
    (right : AreKeysKnown state known) where
  abbrev new : State
  new = step state happens

  -- of a connection that was there
  kept-key : has_slot ordinal state.slots ≡ true → is_connection_or_disconnection ordinal happens ≡ false
      → list_any (sets_key (new.connections ordinal).handle) (noticed state happens) ≡ false
      → known (new.connections ordinal).handle ≡ key_of (new.connections ordinal)
  kept-key has kind none =
      let named : (new.connections ordinal).handle ≡ (state.connections ordinal).handle =
      (step_named state happens ordinal kind).handle in
      let unset : list_any (sets_key (state.connections ordinal).handle) (noticed state happens) ≡ false =
      ap (λ (of : ℕ). list_any (sets_key of) (noticed state happens)) (sym named) ∙ none in
      ap known named ∙ right ordinal (is.placed.there ordinal has)
      ∙ sym (stays_keyed state happens ordinal kind
      (none-stricter (changes_key (state.connections ordinal).handle) (sets_key (state.connections ordinal).handle)
      (sets-changes (state.connections ordinal).handle) (noticed state happens) unset))

-- a connection that is there afterwards was there, unless it is noticed to connect
abbrev pub connects : ℕ → Notice → Bool
connects named (Connected other peer) = other == named
connects named notice = false

sets-connects : (handle : ℕ) (notice : Notice) → sets_key handle notice ≡ false → connects handle notice ≡ false
sets-connects named (Connected other peer) none = none
sets-connects named notice none = refl

pub was-there : (state : State) (happens : Event) (ordinal : Ordinal) → IsKnowing state
    → Possible (λ table. Unit) state happens → ConnectsUnused state happens
    → has_slot ordinal (step state happens).slots ≡ true
    → list_any (connects ((step state happens).connections ordinal).handle) (noticed state happens) ≡ false
    → (has_slot ordinal state.slots ≡ true) × (is_connection_or_disconnection ordinal happens ≡ false)
unfolding event_told
was-there state (Of at (event.Connected handle peer)) ordinal is possible unused has none =
    let happens : Event = Of at (event.Connected handle peer) in
    elim (ordinal == at) as (λ (same : Bool). (ordinal == at) ≡ same
    → (has_slot ordinal state.slots ≡ true) × ((same && true) ≡ false)) [
      | true ↦ λ same.
          let its : ((step state happens).connections ordinal).handle ≡ handle =
          its-handle state at handle peer is possible unused ordinal same in
          let missing : ((handle == ((step state happens).connections ordinal).handle) || false) ≡ false =
          ap (λ (there : Bool). list_any (connects ((step state happens).connections ordinal).handle)
          (if there then [] else Connected handle peer ∷ []))
          (sym (away state at handle peer is possible unused))
          ∙ none_of_the_event (connects ((step state happens).connections ordinal).handle) (λ handle attribute. refl)
          state happens none in
          let found : (handle == ((step state happens).connections ordinal).handle) ≡ true =
          eq-eqb handle ((step state happens).connections ordinal).handle (sym its) in
          let lacks : (handle == ((step state happens).connections ordinal).handle) ≡ false =
          or_false_left (handle == ((step state happens).connections ordinal).handle) false missing in
          absurd (cc (found, lacks))
      | false ↦ λ differs. (old-slot state at handle peer is possible unused ordinal differs has, refl)
    ] refl
was-there state happens ordinal is possible unused has none = had_slot state happens ordinal is.settled possible refl has

key-kept : (state : State) (happens : Event) (known : KnownKeys) (ordinal : Ordinal) → IsKnowing state
    → AreKeysKnown state known → Possible (λ table. Unit) state happens → ConnectsUnused state happens
    → has_slot ordinal (step state happens).slots ≡ true
    → list_any (sets_key ((step state happens).connections ordinal).handle) (noticed state happens) ≡ false
    → known ((step state happens).connections ordinal).handle ≡ key_of ((step state happens).connections ordinal)
key-kept state happens known ordinal is right possible unused has none =
    let handle : ℕ = ((step state happens).connections ordinal).handle in
    let had = was-there state happens ordinal is possible unused has
    (none-stricter (connects handle) (sets_key handle) (sets-connects handle) (noticed state happens) none) in
    kept-key state happens known ordinal is right had.0 had.1 none

pub keys-known : (state : State) (happens : Event) (known : KnownKeys) → IsKnowing state
    → Possible (λ table. Unit) state happens → ConnectsUnused state happens → AreKeysKnown state known
    → AreKeysKnown (step state happens) (fold known_keys_after known (noticed state happens))
keys-known state happens known is possible unused right ordinal there =
    let new : State = step state happens in
    let knowing = stays-knowing state happens possible unused is in
    right-after new ordinal (is-alone new ordinal knowing there) (noticed state happens) known
    (tells_what_is_so state happens)
    (key-kept state happens known ordinal is right possible unused (has-slot new ordinal knowing.settled there))

-- In every run.

record KeysGo (new : State) (known : KnownKeys) : Type 0 where
  knowing : IsKnowing new
  right : AreKeysKnown new known

event-keys : (state : State) (found : Option Event) (known : KnownKeys) → KeysGo state known
    → MeantIfSome (λ table. Unit) state found
    → KeysGo (after_if state found) (fold known_keys_after known (option_map_or (noticed state) found []))
event-keys state None known is meant = is
event-keys state (Some happens) known is meant =
    let possible = possible_where_meant (λ table. Unit) state happens meant in
    let unused = unused_where_meant (λ table. Unit) state happens meant in
    record {
      knowing = stays-knowing state happens possible unused is.knowing;
      right = keys-known state happens known is.knowing possible unused is.right;
    }

run-keys : (old : Run) (items : List Item) (known : KnownKeys) → KeysGo old.intake.state known
    → KeysGo (after_items old items).intake.state (fold known_keys_after known (notices_in old items))
run-keys old [] known is = is
run-keys old (item ∷ items) known is =
    let next : KnownKeys = fold known_keys_after known (notices_of old item) in
    let goes : KeysGo (after_item old item).intake.state next =
    subst (λ (state : State). KeysGo state next) (sym (means_its_event old item).state)
    (event-keys old.intake.state (event_at old.intake item) known is
    (item_meant (λ table. Unit) old.intake item (any_table item))) in
    subst (KeysGo (after_items old (item ∷ items)).intake.state)
    (sym (fold-append known_keys_after known (notices_of old item) (notices_in (after_item old item) items)))
    (run-keys (after_item old item) items next goes)

pub knows_the_keys : KnowsTheKeys
unfolding run
knows_the_keys start input =
    (run-keys (run_at_start start) input no_keys_known (record {
      knowing = knowing-at-first start;
      right = λ ordinal there. cc there;
    })).right
