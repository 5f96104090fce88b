-- What is heard adds nothing to the sets of places: no command comes of it, no listener and no free slot.
use Rattle.std.proofs.Common.{◌≡◌, ℕ, zero, suc, ◌+◌, Bool, true, false, ◌||◌, List, [], ◌∷◌, Option, Some, None, refl, sym, ap, ◌∙◌, arith}
use Rattle.std.specs.Prelude.{is_none, if◌then◌else◌}
use Rattle.std.specs.List.{list_any}
use Rattle.att_numbers.specs.Types.{Handle}
use Rattle.att_table.specs.Table.{Contents}
use Rattle.host_connections.specs.Commands.{has_command}
use Rattle.host_connections.specs.Hearing.{hearer_facts_of, delivery_in_turn, delivery_of, with_delivery}
use Rattle.host_connections.specs.SlotState.{SlotState}
use Rattle.host_connections.specs.Places.{may_listen, Covers}
use Rattle.host_connections.specs.Slots.{SlotStates, all_heard, handles_for, slot_heard, heard_from, slot_state_at}
use Rattle.gatt_subs.specs.Rows.{Subscriptions, row_of}
use Rattle.host_connections.specs.declared.places.Due.TheVariants.{Command, Value}

-- what hears at each place
module _ (hear : ℕ → Option SlotState → Option SlotState) (nobody : (place : ℕ) → hear place None ≡ None) where
  pub heard-at : (start : ℕ) (slots : SlotStates) (place : ℕ) → slot_state_at (heard_from start hear slots) place
      ≡ hear (start + place) (slot_state_at slots place)
  heard-at start [] place = sym (nobody (start + place))
  heard-at start (slot ∷ slots) zero = ap (λ (at : ℕ). hear at slot) (omega arith)
  heard-at start (slot ∷ slots) (suc place) =
      heard-at (start + 1) slots place ∙ ap (λ (at : ℕ). hear at (slot_state_at slots place)) (omega arith)

-- no command comes of what is heard
heard-command : (table : Contents) (now : ℕ) (rows : Subscriptions) (handles : List Handle) (slot : Option SlotState)
    → has_command (slot_heard table now rows handles slot) ≡ has_command slot
heard-command table now rows handles None = refl
heard-command table now rows handles (Some slot_state) =
    elim slot_state.live as
    (λ (live : Bool).
    (let heard : SlotState = if live
    then with_delivery slot_state (delivery_in_turn table (hearer_facts_of now (row_of rows slot_state.peer) slot_state) now handles (delivery_of slot_state))
    else slot_state in has_command (Some heard)) ≡ has_command (Some slot_state)) [
      | true ↦ refl
      | false ↦ refl
    ]

pub commands_heard : (table : Contents) (now : ℕ) (rows : Subscriptions) (own : Option ℕ) (here handles : List Handle) (places : ℕ) (slots heard : SlotStates)
    → heard ≡ all_heard table now rows own here handles slots → Covers Command places slots → Covers Command places heard
commands_heard table now rows own here handles places slots heard is covers = λ place due.
    let hear : ℕ → Option SlotState → Option SlotState = λ at slot. slot_heard table now rows (handles_for own here handles at) slot in
    covers place
    (sym (heard-command table now rows (handles_for own here handles place) (slot_state_at slots place))
    ∙ ap has_command (sym (heard-at hear (λ at. refl) 0 slots place ∙ ap (λ (at : ℕ). hear at (slot_state_at slots place)) (first place)))
    ∙ ap (λ (it : SlotStates). has_command (slot_state_at it place)) (sym is) ∙ due)
  where
    first : (place : ℕ) → 0 + place ≡ place
    first place = omega arith

-- nor does a connection come to listen by what it hears
heard-listens : (table : Contents) (now : ℕ) (rows : Subscriptions) (handles : List Handle) (slot : Option SlotState)
    → may_listen (slot_heard table now rows handles slot) ≡ may_listen slot
heard-listens table now rows handles None = refl
heard-listens table now rows handles (Some slot_state) =
    elim slot_state.live as
    (λ (live : Bool).
    (let heard : SlotState = if live
    then with_delivery slot_state (delivery_in_turn table (hearer_facts_of now (row_of rows slot_state.peer) slot_state) now handles (delivery_of slot_state))
    else slot_state in may_listen (Some heard)) ≡ may_listen (Some slot_state)) [
      | true ↦ refl
      | false ↦ refl
    ]

pub listening_heard : (table : Contents) (now : ℕ) (rows : Subscriptions) (own : Option ℕ) (here handles : List Handle) (places : ℕ) (slots heard : SlotStates)
    → heard ≡ all_heard table now rows own here handles slots → Covers Value places slots → Covers Value places heard
listening_heard table now rows own here handles places slots heard is covers = λ place listens.
    let hear : ℕ → Option SlotState → Option SlotState = λ at slot. slot_heard table now rows (handles_for own here handles at) slot in
    covers place
    (sym (heard-listens table now rows (handles_for own here handles place) (slot_state_at slots place))
    ∙ ap may_listen (sym (heard-at hear (λ at. refl) 0 slots place ∙ ap (λ (at : ℕ). hear at (slot_state_at slots place)) (first place)))
    ∙ ap (λ (it : SlotStates). may_listen (slot_state_at it place)) (sym is) ∙ listens)
  where
    first : (place : ℕ) → 0 + place ≡ place
    first place = omega arith

-- nor does a slot come to be free
heard-free : (hear : ℕ → Option SlotState → Option SlotState) → ((place : ℕ) (slot : Option SlotState) → is_none (hear place slot) ≡ is_none slot)
    → (start : ℕ) (slots : SlotStates) → list_any (λ it. is_none it) (heard_from start hear slots) ≡ list_any (λ it. is_none it) slots
heard-free hear stays start [] = refl
heard-free hear stays start (slot ∷ slots) = λ i. stays start slot i || heard-free hear stays (start + 1) slots i

pub free_heard : (table : Contents) (now : ℕ) (rows : Subscriptions) (own : Option ℕ) (here handles : List Handle) (slots heard : SlotStates)
    → heard ≡ all_heard table now rows own here handles slots → list_any (λ it. is_none it) slots ≡ false → list_any (λ it. is_none it) heard ≡ false
free_heard table now rows own here handles slots heard is none =
    ap (λ (it : SlotStates). list_any (λ slot. is_none slot) it) is
    ∙ heard-free (λ at slot. slot_heard table now rows (handles_for own here handles at) slot) stays 0 slots ∙ none
  where
    stays : (place : ℕ) (slot : Option SlotState) → is_none (slot_heard table now rows (handles_for own here handles place) slot) ≡ is_none slot
    stays place None = refl
    stays place (Some slot_state) = refl
