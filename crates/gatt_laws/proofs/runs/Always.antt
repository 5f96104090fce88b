-- What each possible event keeps is so in every state.
use Rattle.std.proofs.Common.{List, [], ◌∷◌, Option, Some, None, sym, subst}
use Rattle.att_table.specs.Table.{Contents}
use Rattle.gatt_laws.proofs.runs.ItemEvents.{MeantIfSome, item_meant, means_its_event}
use Rattle.gatt_laws.proofs.runs.Meant.{possible_where_meant}
use Rattle.gatt_laws.specs.laws.Possible.{Possible, IsFine, AllTables}
use Rattle.gatt_laws.specs.machine.Event.{Event}
use Rattle.gatt_laws.specs.machine.Input.{Item, AnOctet, APacket, ACall, ATable, TheEnd, Run, after_item, after_items}
use Rattle.gatt_laws.specs.machine.ItemEvents.{event_at, after_if}
use Rattle.gatt_laws.specs.machine.State.{State, step}

-- the tables of items are that of the first, if it is one, and the others
pub first_fine : (Fine : Contents → Type 0) (item : Item) (items : List Item) → AllTables Fine (item ∷ items) → IsFine Fine item × AllTables Fine items
first_fine Fine (ATable table) items tables = (tables.0, tables.1)
first_fine Fine item items tables = (tt, tables)

module _ (Fine : Contents → Type 0) (P : State → Type 0) (keeps : (state : State) (event : Event) → Possible Fine state event → P state → P (step state event))
  where
    if-keeps : (state : State) (found : Option Event) → MeantIfSome Fine state found → P state → P (after_if state found)
    if-keeps state None meant is = is
    if-keeps state (Some event) meant is = keeps state event (possible_where_meant Fine state event meant) is

    pub always : (old : Run) (items : List Item) → AllTables Fine items → P old.intake.state → P (after_items old items).intake.state
    always old [] tables is = is
    always old (item ∷ items) tables is =
        let fine = first_fine Fine item items tables in
        always (after_item old item) items fine.1
        (subst P (sym (means_its_event old item).state)
        (if-keeps old.intake.state (event_at old.intake item) (item_meant Fine old.intake item fine.0) is))

-- where nothing is asked of tables
pub any_tables : (items : List Item) → AllTables (λ table. Unit) items
any_tables [] = tt
any_tables (AnOctet octet ∷ items) = any_tables items
any_tables (APacket packet ∷ items) = any_tables items
any_tables (ACall call ∷ items) = any_tables items
any_tables (ATable table ∷ items) = (tt, any_tables items)
any_tables (TheEnd ∷ items) = any_tables items
