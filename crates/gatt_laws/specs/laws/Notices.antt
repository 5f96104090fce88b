-- The values as a listener knows them, in each state and at each event.
use Rattle.std.specs.Prelude.{◌≡◌, ◌<◌, ◌==◌, ◌||◌, Bool, true, false, if◌then◌else◌}
use Rattle.std.specs.Prelude.{List, [], ◌∷◌}
use Rattle.std.specs.List.{list_any}
use Rattle.std.specs.Option.{option_map_or}
use Rattle.att_numbers.specs.Types.{Handle}
use Rattle.att_table.specs.Table.{value_at}
use Rattle.gatt_laws.specs.machine.Event.{Event, Update, Replaced}
use Rattle.gatt_laws.specs.machine.Input.{Item, Run, after_item, run_at_start, run}
use Rattle.gatt_laws.specs.machine.ItemEvents.{event_at}
use Rattle.gatt_laws.specs.machine.Notice.{Notice, Written, noticed, notices_of}
use Rattle.gatt_laws.specs.laws.Possible.{Possible}
use Rattle.gatt_laws.specs.machine.Start.{Start}
use Rattle.gatt_laws.specs.machine.State.{State, step}
use Rattle.octet_io.specs.Number.{Octets}

abbrev pub tells_value : Handle → Notice → Bool
tells_value attribute (Written handle other) = other == attribute
tells_value attribute notice = false

abbrev pub is_value_told : Handle → List Notice → Bool
is_value_told attribute notices = list_any (tells_value attribute) notices

abbrev pub sets_value : Handle → Event → Bool
sets_value attribute (Update handle value) = handle == attribute
sets_value attribute (Replaced table) = true
sets_value attribute event = false

-- A value that the application does not set, and of which there is no notice, does not change.
abbrev pub TellsEachValue : Type 0
TellsEachValue = (state : State) (event : Event) (attribute : Handle) → 0 < attribute
    → Possible (λ table. Unit) state event
    → sets_value attribute event ≡ false → is_value_told attribute (noticed state event) ≡ false
    → value_at (step state event).shared.table.values attribute
    ≡ value_at state.shared.table.values attribute

-- The listener knows the values of the first table, then each that it sets or is notified of, as it
-- is then.
abbrev pub KnownValues : Type 0
KnownValues = Handle → Octets

abbrev pub values_in : Run → KnownValues
values_in run attribute = value_at run.intake.state.shared.table.values attribute

abbrev pub is_known_anew : Run → Item → Handle → Bool
is_known_anew run item attribute =
    option_map_or (sets_value attribute) (event_at run.intake item) false
    || is_value_told attribute (notices_of run item)

abbrev pub known_after : Run → KnownValues → Item → KnownValues
known_after run known item attribute =
    if is_known_anew run item attribute
    then values_in (after_item run item) attribute else known attribute

abbrev pub known_in : Run → KnownValues → List Item → KnownValues
known_in run known [] = known
known_in run known (item ∷ items) =
    known_in (after_item run item) (known_after run known item) items

-- In every run a listener knows each value.
abbrev pub KnowsTheValues : Type 0
KnowsTheValues = (start : Start) (input : List Item) (attribute : Handle) → 0 < attribute
    → known_in (run_at_start start) (value_at start.table.values) input attribute
    ≡ values_in (run start input) attribute
