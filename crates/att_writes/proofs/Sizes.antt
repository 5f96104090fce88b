-- Whether an entry is refused depends on the lengths of values alone.
use Rattle.std.proofs.Common.{◌≡◌, ℕ, ◌+◌, ◌<◌, ◌≤◌, Bool, true, false, ◌==◌, cond, if◌then◌else◌, List, [], ◌∷◌, ◌++◌, length, refl, sym, ap, ◌∙◌, arith, length-append, length-take, length-drop}
use Rattle.std.proofs.lemmas.Bool.Decides.{nat_tests}
use Rattle.std.proofs.lemmas.Grind.{common_steps}
use Rattle.std.specs.Prelude.{IsSome}
use Rattle.att_numbers.specs.Types.{Values}
use Rattle.att_attributes.specs.declared.attr.Attr.{Attr}
use Rattle.att_values.specs.Cell.{value_with_part}
use Rattle.att_attributes.specs.Attributes.{attribute_at, is_fixed_at}
use Rattle.att_table.specs.Table.{value_at, with_value}
use Rattle.att_writes.specs.declared.queue.Place.{Place}
use Rattle.att_writes.specs.Entry.{Entry}
use Rattle.att_writes.specs.Fault.{configuration_fault, value_fault}
use Rattle.att_writes.specs.Sizes.{size_with}

-- the length matters but to values that are no configuration
pub same_form : (attributes : List Attr) (is : Bool) (one other : ℕ) (entry : Entry) → (is ≡ false → one ≡ other)
    → cond is (configuration_fault attributes entry) (value_fault attributes one entry) ≡ cond is (configuration_fault attributes entry)
    (value_fault attributes other entry)
same_form attributes true one other entry same = refl
same_form attributes false one other entry same = ap (λ size. value_fault attributes size entry) (same refl)

-- a handle that has an attribute is none of those that have not
pub used : (attributes : List Attr) (handle : ℕ) → IsSome (attribute_at attributes handle) → 0 < handle
used attributes handle found = grind (arith, nat_tests)

-- one more entry
pub size_with_more : (handle size : ℕ) (places : List Place) (place : Place)
    → size_with handle size (places ++ place ∷ []) ≡ (if place.handle == handle then place.offset + place.len else size_with handle size places)
size_with_more handle size [] place = refl
size_with_more handle size (first ∷ places) place = size_with_more handle (if first.handle == handle then first.offset + first.len else size) places place

-- the length of a value after a part that fits is written
length_patched : (fixed : Bool) (value part : List ℕ) (offset largest : ℕ) → offset ≤ length value → offset + length part ≤ cond fixed (length value) largest
    → length (value_with_part fixed value offset part) ≡ cond fixed (length value) (offset + length part)
length_patched true value part offset largest in_value fits = simp (length-append, length-take, length-drop) (omega arith)
length_patched false value part offset largest in_value fits = simp (length-append, length-take, length-drop) (omega arith)

-- the values after an entry, at any handle that is in use
pub value_written : (values : Values) (handle other : ℕ) (value : List ℕ) → 0 < handle → handle ≤ length values → 0 < other
    → value_at (with_value values handle value) other ≡ (if handle == other then value else value_at values other)
value_written values handle other value is_used within other_used = grind (arith, nat_tests, common_steps)

either_size : (test : Bool) (size : ℕ) → cond test size size ≡ size
either_size true size = refl
either_size false size = refl

at_handle : (attributes : List Attr) (values : Values) (handle other : ℕ) (written : List ℕ) (end : ℕ) (same : Bool) → (handle == other) ≡ same
    → length written ≡ cond (is_fixed_at attributes handle) (length (value_at values handle)) end
    → length (if same then written else value_at values other) ≡ cond (is_fixed_at attributes other) (length (value_at values other))
    (if same then end else length (value_at values other))
at_handle attributes values handle other written end true is size =
    let equal : handle ≡ other = grind (arith, nat_tests) in
    size ∙ ap (λ h. cond (is_fixed_at attributes h) (length (value_at values h)) end) equal
at_handle attributes values handle other written end false is size = sym (either_size (is_fixed_at attributes other) (length (value_at values other)))

-- where an entry that fits leaves another length, it is that of the end of its part
pub after_part : (attributes : List Attr) (values : Values) (entry : Entry) (other : ℕ) (largest : ℕ) → 0 < entry.handle → entry.handle ≤ length values
    → 0 < other
    → entry.offset ≤ length (value_at values entry.handle)
    → entry.offset + length entry.part ≤ cond (is_fixed_at attributes entry.handle) (length (value_at values entry.handle)) largest
    → length
    (value_at (with_value values entry.handle (value_with_part (is_fixed_at attributes entry.handle) (value_at values entry.handle) entry.offset entry.part))
    other)
    ≡ cond (is_fixed_at attributes other) (length (value_at values other)) (if entry.handle == other then entry.offset + length entry.part
    else length (value_at values other))
after_part attributes values entry other largest is_used within other_used in_value fits =
    let value = value_at values entry.handle in
    let fixed = is_fixed_at attributes entry.handle in
    let written = value_written values entry.handle other (value_with_part fixed value entry.offset entry.part) is_used within other_used in
    let size = length_patched fixed value entry.part entry.offset largest in_value fits in
    ap length written ∙ at_handle attributes values entry.handle other (value_with_part fixed value entry.offset entry.part) (entry.offset + length entry.part)
    (entry.handle == other) refl size
