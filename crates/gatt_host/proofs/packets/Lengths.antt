-- A value that has a length that it may have fits where it is written.
use Rattle.std.proofs.Common.{◌≡◌, ℕ, ◌-◌, slice_get, Bool, true, false, ◌<◌, ◌≤◌, length, Option, Some, None, refl, sym, ap, ◌∙◌, subst, arith}
use Rattle.std.proofs.lemmas.Option.{slice_get_past}
use Rattle.std.specs.Prelude.{◌==◌, nat_le, if◌then◌else◌}
use Rattle.std.specs.Option.{option_map_or}
use Rattle.std.proofs.lemmas.Bool.{eqb-true, leb-true}
use Rattle.att_numbers.specs.Types.{Handle}
use Rattle.att_attributes.specs.declared.attr.Attr.{Attr}
use Rattle.att_attributes.specs.Attributes.{attribute_at, is_fixed_at, largest_at}
use Rattle.att_table.specs.Facts.{IsTable}
use Rattle.att_table.specs.Table.{Contents, room_at, value_at}
use Rattle.gatt_laws.specs.machine.Calls.{has_length}

has-largest : (largest count : ℕ) (fixed : Bool) → (if fixed then count == largest else nat_le count largest) ≡ true → count ≤ largest
has-largest largest count true is = let same : count ≡ largest = eqb-true count largest is in omega (arith, same)
has-largest largest count false is = leb-true count largest is

has-exact : (largest count : ℕ) (fixed : Bool) → (if fixed then count == largest else nat_le count largest) ≡ true → fixed ≡ true → count ≡ largest
has-exact largest count true is so = eqb-true count largest is
has-exact largest count false is so = cc so

-- the room of a value is its largest length
room-is : (table : Contents) (handle : Handle) (fixed : Bool) → is_fixed_at table.attributes handle ≡ fixed
    → (fixed ≡ true → length (value_at table.values handle) ≡ largest_at table.attributes handle)
    → room_at table handle ≡ largest_at table.attributes handle
room-is table handle true is has =
    ap (λ (fixed : Bool). if fixed then length (value_at table.values handle) else largest_at table.attributes handle) is ∙ has refl
room-is table handle false is has =
    ap (λ (fixed : Bool). if fixed then length (value_at table.values handle) else largest_at table.attributes handle) is

room-there : (table : Contents) (handle : Handle) (attr : Attr) → IsTable table → attribute_at table.attributes handle ≡ Some attr
    → room_at table handle ≡ attr.largest
room-there table handle attr facts there =
    room-is table handle (is_fixed_at table.attributes handle) refl (facts.fixed handle)
    ∙ ap (λ (found : Option Attr). option_map_or (λ (it : Attr). it.largest) found 0) there

pub fits_there : (table : Contents) (handle : Handle) (attr : Attr) (count : ℕ) → IsTable table → attribute_at table.attributes handle ≡ Some attr
    → has_length attr count ≡ true → count ≤ room_at table handle
fits_there table handle attr count facts there has =
    subst (λ (shared : ℕ). count ≤ shared) (sym (room-there table handle attr facts there)) (has-largest attr.largest count attr.fixed has)

pub exact_there : (table : Contents) (handle : Handle) (attr : Attr) (count : ℕ) → IsTable table → attribute_at table.attributes handle ≡ Some attr
    → has_length attr count ≡ true → is_fixed_at table.attributes handle ≡ true → count ≡ room_at table handle
exact_there table handle attr count facts there has fixed =
    has-exact attr.largest count attr.fixed has
    (sym (ap (λ (found : Option Attr). option_map_or (λ (it : Attr). it.fixed) found false) there) ∙ fixed)
    ∙ sym (room-there table handle attr facts there)

none-either : (test : Bool) (found : Option Attr) → found ≡ None → (if test then None else found) ≡ None
none-either true found is = refl
none-either false found is = is

-- there is no attribute past the end
pub none_past : (table : Contents) (handle : Handle) (count : ℕ) → count ≡ length table.attributes → count < handle → attribute_at table.attributes handle
    ≡ None
none_past table handle count is past =
    let before : length table.attributes ≤ handle - 1 = omega (arith, is, past) in
    none-either (handle == 0) (slice_get table.attributes (handle - 1)) (slice_get_past table.attributes (handle - 1) before)
