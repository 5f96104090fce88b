-- The state to which an input leads is that to which its events lead.
use Rattle.std.proofs.Common.{◌≡◌, List, [], ◌∷◌, ◌++◌, Option, Some, None, refl, sym, subst, ap, ◌∙◌}
use Rattle.std.specs.Option.{option_to_list}
use Rattle.att_table.specs.Table.{Contents}
use Rattle.gatt_laws.proofs.runs.Always.{first_fine}
use Rattle.gatt_laws.proofs.runs.ItemEvents.{MeantIfSome, item_meant, means_its_event}
use Rattle.gatt_laws.proofs.runs.Meant.{possible_where_meant}
use Rattle.gatt_laws.specs.laws.Possible.{AllTables}
use Rattle.gatt_laws.specs.laws.Runs.{after_events, events_in, events_of, IsAfterItsEvents, ArePossible, MeansPossibleEvents}
use Rattle.gatt_laws.specs.machine.Event.{Event}
use Rattle.gatt_laws.specs.machine.Input.{Item, Run, after_item, after_items, run_at_start, run}
use Rattle.gatt_laws.specs.machine.ItemEvents.{after_if, event_at}
use Rattle.gatt_laws.specs.machine.State.{State}

then-led : (state : State) (event : Option Event) (events : List Event) → after_events state (option_to_list event ++ events)
    ≡ after_events (after_if state event) events
then-led state None events = refl
then-led state (Some event) events = refl

pub items_lead : (old : Run) (items : List Item) → (after_items old items).intake.state ≡ after_events old.intake.state (events_in old items)
items_lead old [] = refl
items_lead old (item ∷ items) =
    items_lead (after_item old item) items
    ∙ ap (λ (state : State). after_events state (events_in (after_item old item) items)) (means_its_event old item).state
    ∙ sym (then-led old.intake.state (event_at old.intake item) (events_in (after_item old item) items))

pub is_where_events_lead : IsAfterItsEvents
unfolding run events_of
is_where_events_lead start input = items_lead (run_at_start start) input

-- Each of the events is possible.

module _ (Fine : Contents → Type 0) where
  then-possible : (state new : State) (event : Option Event) (events : List Event) → MeantIfSome Fine state event → new ≡ after_if state event
      → ArePossible Fine new events
      → ArePossible Fine state (option_to_list event ++ events)
  then-possible state new None events meant is later = subst (λ (of : State). ArePossible Fine of events) is later
  then-possible state new (Some event) events meant is later =
      (possible_where_meant Fine state event meant, subst (λ (of : State). ArePossible Fine of events) is later)

  pub items_possible : (old : Run) (items : List Item) → AllTables Fine items → ArePossible Fine old.intake.state (events_in old items)
  items_possible old [] tables = tt
  items_possible old (item ∷ items) tables =
      let fine = first_fine Fine item items tables in
      then-possible old.intake.state (after_item old item).intake.state (event_at old.intake item) (events_in (after_item old item) items)
      (item_meant Fine old.intake item fine.0) (means_its_event old item).state (items_possible (after_item old item) items fine.1)

pub means_possible_events : (Fine : Contents → Type 0) → MeansPossibleEvents Fine
unfolding events_of
means_possible_events Fine start input tables = items_possible Fine (run_at_start start) input tables
