-- What a host holds is of its table, where rows and what waits are so in the state.
use Rattle.std.proofs.Common.{◌≡◌, ℕ, zero, suc, Bool, true, false, List, slice_get, Option, Some, None, refl, sym, ap, subst, ◌∙◌}
use Rattle.std.specs.Prelude.{IfSome, replicate, if◌then◌else◌}
use Rattle.std.specs.Option.{option_map, option_map_or}
use Rattle.std.proofs.lemmas.Option.{slice_get-map}
use Rattle.att_attributes.specs.declared.attr.Attr.{Attr}
use Rattle.att_table.specs.ConfigRow.{IsRowOf}
use Rattle.att_table.specs.Table.{Contents}
use Rattle.gatt_host.proofs.refinement.Holding.{Holds, holds, were_open}
use Rattle.gatt_host.specs.ServerState.{ServerState}
use Rattle.gatt_host.specs.Owing.{all_given, slot_state_handed}
use Rattle.gatt_host.specs.RunRefinement.{HoldsWhatIsOfItsTable}
use Rattle.gatt_host.specs.StateRefinement.{bond_in}
use Rattle.gatt_laws.specs.machine.Controller.{is_ready}
use Rattle.gatt_laws.specs.machine.Event.{Ordinal}
use Rattle.gatt_laws.specs.machine.ConnectionState.{ConnectionState, is_there}
use Rattle.gatt_laws.specs.laws.RowsOfTheTable.{HasRowsOfItsTable}
use Rattle.gatt_laws.specs.laws.WaitingOfTheTable.{MayWait, HasWaitingOfItsTable}
use Rattle.gatt_laws.specs.machine.State.{State}
use Rattle.host_connections.specs.OfTable.{IsOfTable, SlotIsOfTable, HasBondsOfTable, AreOfTable}
use Rattle.host_connections.specs.SlotState.{SlotState, slot_state_of}
use Rattle.host_connections.specs.Slots.{slot_state_at}
use Rattle.gatt_subs.specs.declared.bond.Bond.{Bond}
use Rattle.le_security.specs.Keys.{is_known}

-- nothing is kept while all slots are free
free-at : (count place : ℕ) → slot_state_at (replicate count None) place ≡ None
free-at zero place = refl
free-at (suc count) zero = refl
free-at (suc count) (suc place) = free-at count place

module _ (state : State) (server : ServerState) (is : Holds state (all_given state) server) (rows : HasRowsOfItsTable state)
    (waits : HasWaitingOfItsTable state) where
  abbrev held : List Attr
  held = state.shared.table.attributes

  bonds-held : HasBondsOfTable held server.rows
  bonds-held peer =
      subst (λ (found : Option Bond). IfSome (option_map (λ (bond : Bond). bond.row) found) (λ row. IsRowOf held row)) (sym (is.rows.known peer))
      (elim (is_known state.shared.keys peer) as (λ (known : Bool).
      IfSome (option_map (λ (bond : Bond). bond.row) (if known then Some (bond_in state.bonds state.owed peer) else None)) (λ row. IsRowOf held row)) [
        | true ↦ rows.bonds peer
        | false ↦ tt
      ])

  one-held : (ordinal : Ordinal) → IsOfTable held (slot_state_of state.shared (state.connections ordinal) (state.connections ordinal).given)
  one-held ordinal =
      let connection : ConnectionState = state.connections ordinal in
      record {
        row = rows.own ordinal;
        waiting = λ live. subst (λ (it : Bool). MayWait held it connection.pending.waiting) live (waits ordinal);
      }

  slot-held : (slot : Option (Option Ordinal))
      → SlotIsOfTable held (option_map_or (λ (slot : Option SlotState). slot) (option_map (slot_state_handed state (all_given state)) slot) None)
  slot-held None = tt
  slot-held (Some None) = tt
  slot-held (Some (Some ordinal)) =
      let connection : ConnectionState = state.connections ordinal in
      elim (is_there connection.mark) as
      (λ (there : Bool). SlotIsOfTable held (if there then Some (slot_state_of state.shared connection connection.given) else None)) [
        | true ↦ one-held ordinal
        | false ↦ tt
      ]

  place-held : (place : ℕ) (ready : Bool) → is_ready state.controller ≡ ready → SlotIsOfTable held (slot_state_at server.slots place)
  place-held place true ready =
      subst (λ (slots : List (Option SlotState)). SlotIsOfTable held (slot_state_at slots place))
      (sym (were_open state (all_given state) server is ready))
      (subst (λ (slot : Option (Option SlotState)). SlotIsOfTable held (option_map_or (λ (slot : Option SlotState). slot) slot None))
      (sym (slice_get-map (slot_state_handed state (all_given state)) state.slots place)) (slot-held (slice_get state.slots place)))
  place-held place false early =
      subst (λ (found : Option SlotState). SlotIsOfTable held found)
      (sym (ap (λ (slots : List (Option SlotState)). slot_state_at slots place) (is.free early) ∙ free-at state.shared.slots place)) tt

  all-held : AreOfTable server.table.attributes server.rows server.slots
  all-held =
      subst (λ (table : Contents). AreOfTable table.attributes server.rows server.slots) (sym is.table) (record {
        bonds = bonds-held;
        each = λ place. place-held place (is_ready state.controller) refl;
      })

pub holds_what_is_of_its_table : HoldsWhatIsOfItsTable
holds_what_is_of_its_table run server frames is rows waits = all-held run.intake.state server (holds run.intake.state server is.refines) rows waits
