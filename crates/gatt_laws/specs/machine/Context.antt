-- The context by which packets and calls are understood, by any names of connections (this
-- profile's own).
use Rattle.std.specs.Prelude.{ℕ, ◌==◌, Bool, ◌&&◌, if◌then◌else◌, List, [], ◌∷◌, Option, Some, None}
use Rattle.att_numbers.specs.Types.{Handle}
use Rattle.att_attributes.specs.declared.attr.Attr.{Attr}
use Rattle.gatt_laws.specs.machine.Controller.{Controller, Slots, has_free}
use Rattle.gatt_laws.specs.machine.Event.{Ordinal}
use Rattle.gatt_laws.specs.machine.ConnectionState.{is_live}
use Rattle.gatt_laws.specs.machine.State.{State}

-- `serving` finds the connection with a handle that serves, `holding` the one that has a slot, and
-- `next_free` is the next connection if a slot is free.
pub record Context (C : Type 0) : Type 0 where
  pub controller : Controller
  pub attributes : List Attr
  pub changer : Option Handle
  pub time : ℕ
  pub serving : ℕ → Option C
  pub holding : ℕ → Option C
  pub next_free : Option C

abbrev pub ordinal_where : (Ordinal → Bool) → Slots → Option Ordinal
ordinal_where test [] = None
ordinal_where test (None ∷ slots) = ordinal_where test slots
ordinal_where test (Some ordinal ∷ slots) =
    if test ordinal then Some ordinal else ordinal_where test slots

abbrev pub serving : State → ℕ → Option Ordinal
serving state handle =
    ordinal_where
    (λ ordinal. is_live (state.connections ordinal).mark && (state.connections ordinal).handle
    == handle)
    state.slots

abbrev pub holding : State → ℕ → Option Ordinal
holding state handle =
    ordinal_where (λ ordinal. (state.connections ordinal).handle == handle) state.slots

abbrev pub context_of : State → Context Ordinal
context_of state = record {
  controller = state.controller;
  attributes = state.shared.table.attributes;
  changer = state.shared.changer;
  time = state.shared.time;
  serving = serving state;
  holding = holding state;
  next_free = if has_free state.slots then Some state.next else None;
}
