-- A packet that goes out changes no notice.
use Rattle.std.proofs.Common.{◌≡◌, ℕ, zero, suc, Bool, true, false, cond, List, [], ◌∷◌, map, Option, Some, None, refl, ap, ◌∙◌, ◌++◌}
use Rattle.std.specs.Prelude.{if◌then◌else◌, is_some}
use Rattle.std.specs.Option.{option_map, option_map_or, option_to_list}
use Rattle.att_numbers.specs.Types.{Row}
use Rattle.gatt_host.specs.GoingOut.{command_next, init_command, slots_commanded, slots_then, with_first}
use Rattle.gatt_host.specs.HostModel.{HostModel}
use Rattle.gatt_host.specs.declared.last_event.LastEvent.{LastEvent}
use Rattle.gatt_host.specs.declared.last_event.LastEvent.TheVariants as last
use Rattle.gatt_host.specs.Notices.{last_notices, notices_by, row_at_place, skip_told}
use Rattle.gatt_host.specs.ServerState.{ServerState, after_out}
use Rattle.gatt_host.specs.Telling.{notices_told}
use Rattle.gatt_laws.specs.machine.Controller.{Controller, is_ready}
use Rattle.gatt_laws.specs.machine.Notice.{Notice, Confirmed, Ending, write_told}
use Rattle.gatt_laws.specs.machine.Effect.{remote_user_terminated}
use Rattle.host_connections.specs.Commands.{gives, has_command, slot_without_command, slot_without_packet}
use Rattle.host_connections.specs.Hearing.{slot_row_in_force}
use Rattle.host_connections.specs.SlotState.{SlotState}
use Rattle.host_connections.specs.Slots.{SlotStates, slot_row_at}
use Rattle.gatt_subs.specs.Rows.{Subscriptions, row_of}

-- the row of a slot
abbrev row_of_slot : Subscriptions → Option SlotState → Row
row_of_slot rows slot =
    option_map_or (λ (slot_state : SlotState). slot_row_in_force (row_of rows slot_state.peer) slot_state) slot []

-- a change of a slot that keeps its row
abbrev KeepsTheRow : Subscriptions → (Option SlotState → Option SlotState) → Type 0
KeepsTheRow rows change = (slot : Option SlotState) → row_of_slot rows (change slot) ≡ row_of_slot rows slot

without-command : (rows : Subscriptions) → KeepsTheRow rows (option_map slot_without_command)
without-command rows None = refl
without-command rows (Some slot_state) = by (is_some slot_state.reason)
  where
    by : (ends : Bool)
        → row_of_slot rows (Some (cond ends (record slot_state { reason = None }) (record slot_state { reply = None })))
        ≡ row_of_slot rows (Some slot_state)
    by true = refl
    by false = refl

without-packet : (rows : Subscriptions) → KeepsTheRow rows (option_map slot_without_packet)
without-packet rows None = refl
without-packet rows (Some slot_state) = refl

module _ (rows : Subscriptions) (test : Option SlotState → Bool) (change : Option SlotState → Option SlotState) (keeps : KeepsTheRow rows change) where
  row-kept : (slots : SlotStates) (place : ℕ) → slot_row_at (with_first test change slots) rows place ≡ slot_row_at slots rows place
  row-kept [] place = refl
  row-kept (slot ∷ slots) place = by (test slot) place (λ place. row-kept slots place)
    where
      by : (passes : Bool) (place : ℕ)
          → ((place : ℕ) → slot_row_at (with_first test change slots) rows place ≡ slot_row_at slots rows place)
          → slot_row_at (cond passes (change slot ∷ slots) (slot ∷ with_first test change slots)) rows place ≡ slot_row_at (slot ∷ slots) rows place
      by true zero kept = keeps slot
      by true (suc place) kept = refl
      by false zero kept = refl
      by false (suc place) kept = kept place

commanded-row : (init : Bool) (rows : Subscriptions) (slots : SlotStates) (place : ℕ)
    → slot_row_at (cond init slots (with_first has_command (option_map slot_without_command) slots)) rows place ≡ slot_row_at slots rows place
commanded-row true rows slots place = refl
commanded-row false rows slots place = row-kept rows has_command (option_map slot_without_command) (without-command rows) slots place

then-row : (command : Bool) (controller : Controller) (rows : Subscriptions) (slots : SlotStates) (place : ℕ)
    → slot_row_at (cond command (slots_commanded controller slots) (with_first gives (option_map slot_without_packet) slots)) rows place
    ≡ slot_row_at slots rows place
then-row true controller rows slots place = commanded-row (is_some (init_command controller)) rows slots place
then-row false controller rows slots place = row-kept rows gives (option_map slot_without_packet) (without-packet rows) slots place

out-row : (ready : Bool) (controller : Controller) (rows : Subscriptions) (slots : SlotStates) (place : ℕ)
    → slot_row_at (cond ready (slots_then controller slots) slots) rows place ≡ slot_row_at slots rows place
out-row true controller rows slots place = then-row (is_some (command_next controller slots)) controller rows slots place
out-row false controller rows slots place = refl

row_after_out : (server : ServerState) (place : ℕ) → row_at_place (after_out server) place ≡ row_at_place server place
row_after_out server place = out-row (is_ready server.controller) server.controller server.rows server.slots place

notices_after_out : (server : ServerState) → last_notices (after_out server) ≡ last_notices server
notices_after_out server = ap (λ (notices : List Notice). notices ++ map skip_told server.skipped) (by server.last)
  where
    by : (event : LastEvent) → notices_by (after_out server) event ≡ notices_by server event
    by last.Quiet = refl
    by (last.Connected handle peer) = refl
    by (last.Disconnected handle) = refl
    by (last.LinkChanged handle before after) = refl
    by (last.Served place handle brought) =
        ap (λ (row : Row).
        (map (write_told server.table.attributes row handle) server.written ++ map (Confirmed handle) (option_to_list brought.confirmed))
        ++ (if brought.ended then Ending handle remote_user_terminated ∷ [] else []))
        (row_after_out server place)
    by (last.Ended handle reason) = refl
    by last.Ticked = refl

-- of a host, also of one that has stopped
pub told_after_out : (old : HostModel) (server : ServerState) → server ≡ after_out old.server
    → notices_told (record old { server = server }) ≡ notices_told old
told_after_out old server after =
    ap (λ (notices : List Notice). if is_some old.fault then [] else notices)
    (ap last_notices after ∙ notices_after_out old.server)

pub table_after_out : (old server : ServerState) → server ≡ after_out old → server.table ≡ old.table
table_after_out old server after = ap (λ (server : ServerState). server.table) after
