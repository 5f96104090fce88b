-- The values of a store that stand each in a buffer of its own.
use Rattle.std.proofs.Common.{◌≡◌, ℕ, ◌-◌, Bool, List, length, get_or, set, refl, ap, sym, ◌∙◌, arith}
use Rattle.std.proofs.lemmas.List.{get_or-map, length-map, map-set}
use Rattle.arrayvec.specs.ArrayVec.{ArrayVec}
use Rattle.att_values.specs.declared.plain_store.Slot.{Slot}
use Rattle.att_values.specs.Cell.{Cell, no_cell, IsUsed, cell_at, value_with_part, with_part}
use Rattle.att_values.specs.PlainStore.{cell_of, cells_of}

-- a part that is written into a buffer is written into the value at its handle
pub part_in_slot : (slots : List Slot) (cells : List Cell) (handle at offset : ℕ) (keep : Bool) (part : List ℕ) (slot : Slot) (new : ArrayVec ℕ)
    → cells_of slots ≡ cells → IsUsed cells handle → at ≡ handle → slot ≡ get_or slots (at - 1) slot
    → new.items ≡ value_with_part keep slot.octets.items offset part
    → cells_of (set slots (at - 1) (record { room = slot.room; octets = new })) ≡ with_part cells keep handle offset part
part_in_slot slots cells handle at offset keep part slot new view used is read wrote =
    let count : length slots ≡ length cells = sym (length-map slots cell_of) ∙ ap length view in
    let cell : cell_at cells handle ≡ cell_of slot =
    rw (← view, ← is) (get_or-map cell_of slots (at - 1) slot no_cell (omega arith) ∙ ap cell_of (sym read)) in
    map-set cell_of slots (at - 1) (record { room = slot.room; octets = new }) ∙ rw (view, is, cell, wrote) refl
