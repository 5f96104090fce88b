-- What holds of each event and of each run holds in one.
use Rattle.std.proofs.Common.{List, [], ◌∷◌}
use Rattle.att_table.specs.Table.{Contents}
use Rattle.gatt_laws.proofs.isolation.NothingCrosses.{crosses_nowhere}
use Rattle.gatt_laws.proofs.runs.Runs.{means_possible_events}
use Rattle.gatt_laws.specs.laws.Possible.{AllTables}
use Rattle.gatt_laws.specs.laws.Runs.{ArePossible, events_of}
use Rattle.gatt_laws.specs.machine.Event.{Event}
use Rattle.gatt_laws.specs.machine.Input.{Item, AnOctet, APacket, ACall, ATable, TheEnd}
use Rattle.gatt_laws.specs.machine.Start.{Start, state_at}
use Rattle.gatt_laws.specs.machine.State.{State, step}
use Rattle.gatt_theorems.proofs.Changed.{changes_values_by_right}
use Rattle.gatt_theorems.proofs.Front.{is_always_given_the_front}
use Rattle.gatt_theorems.proofs.Gained.{gains_only_what_is_due}
use Rattle.gatt_theorems.proofs.Promise.{keeps_connections_apart, keeps_the_policy}
use Rattle.gatt_theorems.specs.InRuns.{AtEachEvent, EachGainsWhatIsDue, EachValueChangesByRight, KeepsConnectionsApartIn, KeepsThePolicyIn}

at-each : (state : State) (events : List Event) → AtEachEvent EachGainsWhatIsDue state events
at-each state [] = tt
at-each state (event ∷ events) = (gains_only_what_is_due state event, at-each (step state event) events)

abbrev AnyTable : Contents → Type 0
AnyTable table = Unit

by-right : (state : State) (events : List Event) → ArePossible AnyTable state events → AtEachEvent EachValueChangesByRight state events
by-right state [] possible = tt
by-right state (event ∷ events) possible =
    (λ attribute used differs. changes_values_by_right state event attribute used possible.0 differs, by-right (step state event) events possible.1)

any-tables : (items : List Item) → AllTables AnyTable items
any-tables [] = tt
any-tables (AnOctet octet ∷ items) = any-tables items
any-tables (APacket packet ∷ items) = any-tables items
any-tables (ACall call ∷ items) = any-tables items
any-tables (ATable table ∷ items) = (tt, any-tables items)
any-tables (TheEnd ∷ items) = any-tables items

pub keeps_the_policy_in : (start : Start) (input : List Item) → KeepsThePolicyIn start input
keeps_the_policy_in start input = record {
  laws = keeps_the_policy;
  gains = at-each (state_at start) (events_of start input);
  values = by-right (state_at start) (events_of start input) (means_possible_events AnyTable start input (any-tables input));
  gives = λ ordinal. is_always_given_the_front start ordinal input;
}

pub keeps_connections_apart_in : (start : Start) (input : List Item) → KeepsConnectionsApartIn start input
keeps_connections_apart_in start input = record {
  laws = keeps_connections_apart;
  crosses = λ peer other its. crosses_nowhere peer start other input its;
}
