-- A listener knows the values.
use Rattle.std.proofs.Common.{◌≡◌, ◌<◌, Bool, true, false, List, [], ◌∷◌, Option, Some, None}
use Rattle.std.proofs.Common.{refl, sym, ap, ◌∙◌}
use Rattle.std.specs.Prelude.{if◌then◌else◌}
use Rattle.std.specs.Option.{option_map_or}
use Rattle.att_numbers.specs.Types.{Handle}
use Rattle.att_table.specs.Table.{value_at}
use Rattle.gatt_laws.proofs.runs.ItemEvents.{MeantIfSome, any_table, item_meant, means_its_event}
use Rattle.gatt_laws.proofs.runs.Meant.{possible_where_meant}
use Rattle.gatt_laws.proofs.notices.Notices.{tells_each_value}
use Rattle.gatt_laws.specs.machine.Event.{Event}
use Rattle.gatt_laws.specs.machine.Input.{Item, Run}
use Rattle.gatt_laws.specs.machine.Input.{after_item, after_items, run_at_start, run}
use Rattle.gatt_laws.specs.machine.ItemEvents.{event_at, after_if}
use Rattle.gatt_laws.specs.machine.Notice.{noticed, notices_of}
use Rattle.gatt_laws.specs.laws.Notices.{is_value_told, sets_value, KnownValues, values_in, is_known_anew}
use Rattle.gatt_laws.specs.laws.Notices.{known_after, known_in, KnowsTheValues}
use Rattle.gatt_laws.specs.machine.State.{State}
use Rattle.octet_io.proofs.Choices.{or_false_left, or_false_right}

-- An item of which nothing is told of a value leaves it.

event-values : (state : State) (found : Option Event) (attribute : Handle) → 0 < attribute
    → MeantIfSome (λ table. Unit) state found
    → option_map_or (sets_value attribute) found false ≡ false
    → is_value_told attribute (option_map_or (noticed state) found []) ≡ false
    → value_at (after_if state found).shared.table.values attribute
    ≡ value_at state.shared.table.values attribute
event-values state None attribute used meant sets none = refl
event-values state (Some event) attribute used meant sets none =
    tells_each_value state event attribute used
    (possible_where_meant (λ table. Unit) state event meant) sets none

item-values : (old : Run) (item : Item) (attribute : Handle) → 0 < attribute
    → is_known_anew old item attribute ≡ false
    → values_in (after_item old item) attribute ≡ values_in old attribute
item-values old item attribute used none =
    let found : Option Event = event_at old.intake item in
    let sets : Bool = option_map_or (sets_value attribute) found false in
    ap (λ (state : State). value_at state.shared.table.values attribute) (means_its_event old item).state
    ∙ event-values old.intake.state found attribute used
    (item_meant (λ table. Unit) old.intake item (any_table item))
    (or_false_left sets (is_value_told attribute (notices_of old item)) none)
    (or_false_right sets (is_value_told attribute (notices_of old item)) none)

-- So what is known stays right.

abbrev IsRight : Run → KnownValues → Type 0
IsRight run known = (attribute : Handle) → 0 < attribute → known attribute
    ≡ values_in run attribute

known-next : (old : Run) (known : KnownValues) (item : Item) → IsRight old known
    → IsRight (after_item old item) (known_after old known item)
known-next old known item right attribute used =
    elim (is_known_anew old item attribute) as (λ (anew : Bool). is_known_anew old item attribute
    ≡ anew
    → (if anew then values_in (after_item old item) attribute else known attribute)
    ≡ values_in (after_item old item) attribute) [
      | true ↦ λ is. refl
      | false ↦ λ is. right attribute used ∙ sym (item-values old item attribute used is)
    ] refl

known-all : (old : Run) (known : KnownValues) (items : List Item) → IsRight old known
    → IsRight (after_items old items) (known_in old known items)
known-all old known [] right = right
known-all old known (item ∷ items) right =
    known-all (after_item old item) (known_after old known item) items
    (known-next old known item right)

pub knows_the_values : KnowsTheValues
unfolding run
knows_the_values start input attribute used =
    known-all (run_at_start start) (value_at start.table.values) input
    (λ at at_used. refl) attribute used
