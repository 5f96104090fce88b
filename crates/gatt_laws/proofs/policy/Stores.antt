-- What entries write is what stands afterwards at their handles, each once, and the rest as it was.
use Rattle.std.proofs.Common.{◌≡◌, ℕ, ◌-◌, ◌<◌, Bool, true, false, ◌==◌, not, if◌then◌else◌, List, [], ◌∷◌, length, map, filter, Option, Some, None, Ok, refl, sym, ap, ◌∙◌, arith}
use Rattle.std.proofs.lemmas.Bool.{eq-eqb, eqb-true, not-false}
use Rattle.std.proofs.lemmas.Bool.Decides.{nat_tests}
use Rattle.std.proofs.lemmas.Grind.{common_steps}
use Rattle.std.proofs.lemmas.List.{set-set, set_comm, set-get_or}
use Rattle.std.specs.List.{list_any}
use Rattle.att_numbers.specs.Types.{Handle, Code, Values, Row}
use Rattle.att_policy.specs.declared.policy.Access.{Access}
use Rattle.att_policy.specs.declared.standing.Standing.{Standing}
use Rattle.att_attributes.specs.declared.attr.Attr.{Attr}
use Rattle.att_attributes.specs.Attributes.{is_configuration_at, is_fixed_at}
use Rattle.att_table.specs.ConfigRow.{bits_at, with_bits, has_entry}
use Rattle.att_table.specs.Table.{value_at, with_value}
use Rattle.att_values.specs.Cell.{value_with_part}
use Rattle.att_writes.specs.Applied.{Stored, after_entry, after_entries, first_octet, unless_entry_refused}
use Rattle.att_writes.specs.Entry.{Entry}
use Rattle.att_writes.specs.Fault.{entry_fault}
use Rattle.att_writes.specs.Queue.{once_each, handles_of_entries}
use Rattle.att_writes.specs.SameBut.{values_put, bits_put}
use Rattle.att_writes.proofs.AtOnce.{fits_unless_refused}
use Rattle.att_writes.proofs.Put.{handles_in, stored_touched}
use Rattle.att_writes.proofs.PutBits.{apart, has_own, row_touched, twice}
use Rattle.att_writes.proofs.Sizes.{used}
use Rattle.octet_io.specs.Number.{Octets}

-- the handles but one
abbrev but : Handle → List Handle → List Handle
but handle handles = filter (λ other. not (other == handle)) handles

-- Anything that is put handle by handle, where putting it a second time changes nothing, however it is put elsewhere.
module _ {S : Type 0} (put : S → Handle → S)
    (again : (s : S) (handle : Handle) → put (put s handle) handle ≡ put s handle)
    (still : (s : S) (handle other : Handle) → put s handle ≡ s → put (put s other) handle ≡ put s other) where
  abbrev put_all : List Handle → S → S
  put_all [] s = s
  put_all (handle ∷ handles) s = put_all handles (put s handle)

  same-handle : (s : S) (handle other : Handle) → (other == handle) ≡ true → put s handle ≡ s → put s other ≡ s
  same-handle s handle other is there = ap (put s) (eqb-true other handle is) ∙ there

  -- what is there already need not be put
  without-at : (p : Handle → Bool) (handle other : Handle) (rest : List Handle) (s : S) (own here : Bool) → (other == handle) ≡ own → p other ≡ here
      → put s handle ≡ s
      → ((of : S) → put of handle ≡ of → put_all (filter p rest) of ≡ put_all (filter p (but handle rest)) of)
      → put_all (if here then other ∷ filter p rest else filter p rest) s ≡ put_all (filter p (if not own then other ∷ but handle rest else but handle rest)) s
  without-at p handle other rest s true true is of there later =
      ap (put_all (filter p rest)) (same-handle s handle other is there) ∙ later s there
  without-at p handle other rest s true false is of there later = later s there
  without-at p handle other rest s false true is of there later =
      later (put s other) (still s handle other there)
      ∙ ap (λ (test : Bool). put_all (if test then other ∷ filter p (but handle rest) else filter p (but handle rest)) s) (sym of)
  without-at p handle other rest s false false is of there later =
      later s there ∙ ap (λ (test : Bool). put_all (if test then other ∷ filter p (but handle rest) else filter p (but handle rest)) s) (sym of)

  without : (p : Handle → Bool) (handle : Handle) (handles : List Handle) (s : S) → put s handle ≡ s
      → put_all (filter p handles) s ≡ put_all (filter p (but handle handles)) s
  without p handle [] s there = refl
  without p handle (other ∷ rest) s there =
      without-at p handle other rest s (other == handle) (p other) refl refl there (λ of. without p handle rest of)

  passed-at : (p : Handle → Bool) (handle other : Handle) (rest : List Handle) (own here : Bool) → (other == handle) ≡ own → p other ≡ here → p handle ≡ false
      → filter p (but handle rest) ≡ filter p rest
      → filter p (if not own then other ∷ but handle rest else but handle rest) ≡ (if here then other ∷ filter p rest else filter p rest)
  passed-at p handle other rest true true is of none later =
      let same : other ≡ handle = eqb-true other handle is in absurd (cc (same, of, none))
  passed-at p handle other rest true false is of none later = later
  passed-at p handle other rest false true is of none later = rw of (ap (λ handles. other ∷ handles) later)
  passed-at p handle other rest false false is of none later = rw of later

  passed : (p : Handle → Bool) (handle : Handle) (handles : List Handle) → p handle ≡ false → filter p (but handle handles) ≡ filter p handles
  passed p handle [] none = refl
  passed p handle (other ∷ rest) none = passed-at p handle other rest (other == handle) (p other) refl refl none (passed p handle rest none)

  -- each once is enough
  once-at : (p : Handle → Bool) (handle : Handle) (rest : List Handle) (s : S) (here : Bool) → p handle ≡ here
      → ((of : S) → put_all (filter p rest) of ≡ put_all (filter p (once_each rest)) of)
      → put_all (if here then handle ∷ filter p rest else filter p rest) s
      ≡ put_all (if here then handle ∷ filter p (but handle (once_each rest)) else filter p (but handle (once_each rest))) s
  once-at p handle rest s true is later = later (put s handle) ∙ without p handle (once_each rest) (put s handle) (again s handle)
  once-at p handle rest s false is later = later s ∙ ap (λ handles. put_all handles s) (sym (passed p handle (once_each rest) is))

  once : (p : Handle → Bool) (handles : List Handle) (s : S) → put_all (filter p handles) s ≡ put_all (filter p (once_each handles)) s
  once p [] s = refl
  once p (handle ∷ rest) s = once-at p handle rest s (p handle) refl (once p rest)

  -- and what is there already at all handles of a kind
  kind-at : (p : Handle → Bool) (handle : Handle) (rest : List Handle) (s : S) (here : Bool) → p handle ≡ here
      → ((at : Handle) → p at ≡ false → put s at ≡ s)
      → ((of : S) → ((at : Handle) → p at ≡ false → put of at ≡ of) → put_all rest of ≡ put_all (filter p rest) of)
      → put_all rest (put s handle) ≡ put_all (if here then handle ∷ filter p rest else filter p rest) s
  kind-at p handle rest s true is there later = later (put s handle) (λ at none. still s at handle (there at none))
  kind-at p handle rest s false is there later = ap (put_all rest) (there handle is) ∙ later s there

  kind : (p : Handle → Bool) (handles : List Handle) (s : S) → ((at : Handle) → p at ≡ false → put s at ≡ s) → put_all handles s ≡ put_all (filter p handles) s
  kind p [] s there = refl
  kind p (handle ∷ rest) s there = kind-at p handle rest s (p handle) refl there (kind p rest)

-- Values.

abbrev put_value : Values → Values → Handle → Values
put_value from into handle = with_value into handle (value_at from handle)

value-again : (from into : Values) (handle : Handle) → put_value from (put_value from into handle) handle ≡ put_value from into handle
value-again from into handle = set-set into (handle - 1) (value_at from handle) (value_at from handle)

value-still-at : (from into : Values) (handle other : Handle) (same : Bool) → (other - 1 == handle - 1) ≡ same → put_value from into handle ≡ into
    → put_value from (put_value from into other) handle ≡ put_value from into other
value-still-at from into handle other true is there =
    let equal : other - 1 ≡ handle - 1 = eqb-true (other - 1) (handle - 1) is in
    let value : value_at from handle ≡ value_at from other = ap (λ (i : ℕ). Rattle.std.specs.Prelude.slice_index_or from i []) (sym equal) in
    (λ i. Rattle.std.specs.Prelude.slice_set (put_value from into other) (sym equal i) (value i))
    ∙ set-set into (other - 1) (value_at from other) (value_at from other)
value-still-at from into handle other false is there =
    set_comm into (other - 1) (handle - 1) (value_at from other) (value_at from handle) (λ equal. absurd (cc (eq-eqb (other - 1) (handle - 1) equal, is)))
    ∙ ap (λ (of : Values). put_value from of other) there

value-still : (from into : Values) (handle other : Handle) → put_value from into handle ≡ into → put_value from (put_value from into other) handle
    ≡ put_value from into other
value-still from into handle other there = value-still-at from into handle other (other - 1 == handle - 1) refl there

-- pairs of handles and values, stored in their order
abbrev pub store : List (Handle × Octets) → Values → Values
store [] values = values
store (first ∷ rest) values = store rest (with_value values first.0 first.1)

stores-all : (from : Values) (handles : List Handle) (into : Values)
    → put_all (put_value from) (value-again from) (value-still from) handles into ≡ store (map (λ handle. (handle, value_at from handle)) handles) into
stores-all from [] into = refl
stores-all from (handle ∷ rest) into = stores-all from rest (put_value from into handle)

puts-all : (from : Values) (handles : List Handle) (into : Values) → values_put handles from into
    ≡ put_all (put_value from) (value-again from) (value-still from) handles into
puts-all from [] into = refl
puts-all from (handle ∷ rest) into = puts-all from rest (put_value from into handle)

-- a configuration has no value that is written
abbrev LeavesConfigurations : List Attr → Stored → Stored → Type 0
LeavesConfigurations attributes old new = (handle : Handle) → is_configuration_at attributes handle ≡ true → value_at new.values handle
    ≡ value_at old.values handle

not-first : (attributes : List Attr) (handle : Handle) → is_configuration_at attributes handle ≡ true → 0 < handle
not-first attributes handle is = grind (arith, nat_tests, common_steps)

pub other-value : (values : Values) (handle other : Handle) (value : Octets) → 0 < handle → 0 < other → (handle == other) ≡ false
    → value_at (with_value values handle value) other ≡ value_at values other
other-value values handle other value is_used other_used differs = grind (arith, nat_tests, common_steps)

not-same : (attributes : List Attr) (first handle : Handle) (same : Bool) → (first == handle) ≡ same → is_configuration_at attributes first ≡ false
    → is_configuration_at attributes handle ≡ true → same ≡ false
not-same attributes first handle true is not of = absurd (cc (eqb-true first handle is, not, of))
not-same attributes first handle false is not of = refl

entry-leaves : (attributes : List Attr) (stored : Stored) (entry : Entry) (own : Bool) → is_configuration_at attributes entry.handle ≡ own → 0 < entry.handle
    → LeavesConfigurations attributes stored
    (if own then record stored { row = with_bits stored.row entry.handle (first_octet entry.part) }
    else record stored {
      values = with_value stored.values entry.handle
          (value_with_part (is_fixed_at attributes entry.handle) (value_at stored.values entry.handle) entry.offset entry.part);
    })
entry-leaves attributes stored entry true is used_one = λ handle of. refl
entry-leaves attributes stored entry false is used_one = λ handle of.
    other-value stored.values entry.handle handle
    (value_with_part (is_fixed_at attributes entry.handle) (value_at stored.values entry.handle) entry.offset entry.part)
    used_one (not-first attributes handle of) (not-same attributes entry.handle handle (entry.handle == handle) refl is of)

leaves-at : (access : Access) (attributes : List Attr) (standing : Standing) (stored new : Stored) (entry : Entry) (rest : List Entry) (fault : Option Code)
    → entry_fault access attributes standing (length (value_at stored.values entry.handle)) entry ≡ fault
    → unless_entry_refused entry fault (after_entries access attributes standing (after_entry attributes stored entry) rest) ≡ Ok new
    → (after_entries access attributes standing (after_entry attributes stored entry) rest ≡ Ok new
    → LeavesConfigurations attributes (after_entry attributes stored entry) new)
    → LeavesConfigurations attributes stored new
leaves-at access attributes standing stored new entry rest (Some code) judged is later = cc is
leaves-at access attributes standing stored new entry rest None judged is later =
    let fit = fits_unless_refused access attributes standing stored entry judged in
    λ handle of. later is handle of ∙ entry-leaves attributes stored entry (is_configuration_at attributes entry.handle) refl
    (used attributes entry.handle fit.exists) handle of

pub leaves-configurations : (access : Access) (attributes : List Attr) (standing : Standing) (entries : List Entry) (stored new : Stored)
    → after_entries access attributes standing stored entries ≡ Ok new → LeavesConfigurations attributes stored new
unfolding after_entries
leaves-configurations access attributes standing [] stored new is =
    let same : stored ≡ new = cc is in λ handle of. ap (λ (one : Stored). value_at one.values handle) (sym same)
leaves-configurations access attributes standing (entry ∷ rest) stored new is =
    leaves-at access attributes standing stored new entry rest (entry_fault access attributes standing (length (value_at stored.values entry.handle)) entry)
    refl is
    (leaves-configurations access attributes standing rest (after_entry attributes stored entry) new)

-- what is written is the old values with those of the written handles stored, each once
pub stores_written : (access : Access) (attributes : List Attr) (standing : Standing) (entries : List Entry) (stored new : Stored)
    → after_entries access attributes standing stored entries ≡ Ok new
    → new.values
    ≡ store (map (λ handle. (handle, value_at new.values handle)) (filter (λ handle. not (is_configuration_at attributes handle)) (handles_of_entries entries)))
    stored.values
stores_written access attributes standing entries stored new is =
    let from : Values = new.values in
    let test : Handle → Bool = λ handle. not (is_configuration_at attributes handle) in
    let there : (at : Handle) → test at ≡ false → put_value from stored.values at ≡ stored.values =
    λ at none.
    ap (with_value stored.values at)
    (leaves-configurations access attributes standing entries stored new is at (not-false (is_configuration_at attributes at) none))
    ∙ set-get_or stored.values (at - 1) [] in
    stored_touched access attributes standing entries stored new is
    ∙ puts-all from (handles_in entries) stored.values
    ∙ kind (put_value from) (value-again from) (value-still from) test (handles_in entries) stored.values there
    ∙ once (put_value from) (value-again from) (value-still from) test (handles_in entries) stored.values
    ∙ stores-all from (filter test (handles_of_entries entries)) stored.values

-- Configurations.

abbrev put_bits : Row → Row → Handle → Row
put_bits from into handle = with_bits into handle (bits_at from handle)

bits-again : (from into : Row) (handle : Handle) → put_bits from (put_bits from into handle) handle ≡ put_bits from into handle
bits-again from into handle = twice into handle (bits_at from handle) (bits_at from handle)

bits-still-at : (from into : Row) (handle other : Handle) (same : Bool) → (other == handle) ≡ same → put_bits from into handle ≡ into
    → put_bits from (put_bits from into other) handle ≡ put_bits from into other
bits-still-at from into handle other true is there =
    let equal : other ≡ handle = eqb-true other handle is in
    ap (put_bits from (put_bits from into other)) (sym equal) ∙ bits-again from into other
bits-still-at from into handle other false is there =
    let has : has_entry into handle ≡ true = ap (λ row. has_entry row handle) (sym there) ∙ has_own into handle (bits_at from handle) in
    apart into handle (bits_at from handle) other (bits_at from other) has is ∙ ap (λ (of : Row). put_bits from of other) there

bits-still : (from into : Row) (handle other : Handle) → put_bits from into handle ≡ into → put_bits from (put_bits from into other) handle
    ≡ put_bits from into other
bits-still from into handle other there = bits-still-at from into handle other (other == handle) refl there

abbrev pub set_bits : List (Handle × ℕ) → Row → Row
set_bits [] row = row
set_bits (first ∷ rest) row = set_bits rest (with_bits row first.0 first.1)

sets-all : (from : Row) (handles : List Handle) (into : Row)
    → put_all (put_bits from) (bits-again from) (bits-still from) handles into ≡ set_bits (map (λ handle. (handle, bits_at from handle)) handles) into
sets-all from [] into = refl
sets-all from (handle ∷ rest) into = sets-all from rest (put_bits from into handle)

puts-bits : (from : Row) (handles : List Handle) (into : Row) → bits_put handles from into
    ≡ put_all (put_bits from) (bits-again from) (bits-still from) handles into
puts-bits from [] into = refl
puts-bits from (handle ∷ rest) into = puts-bits from rest (put_bits from into handle)

-- and the old row with the bits of the written configurations set, each once
pub sets_written : (access : Access) (attributes : List Attr) (standing : Standing) (entries : List Entry) (stored new : Stored)
    → after_entries access attributes standing stored entries ≡ Ok new
    → new.row ≡ set_bits (map (λ handle. (handle, bits_at new.row handle)) (filter (is_configuration_at attributes) (handles_of_entries entries))) stored.row
sets_written access attributes standing entries stored new is =
    let from : Row = new.row in
    row_touched access attributes standing entries stored new is
    ∙ puts-bits from (filter (is_configuration_at attributes) (handles_in entries)) stored.row
    ∙ once (put_bits from) (bits-again from) (bits-still from) (is_configuration_at attributes) (handles_in entries) stored.row
    ∙ sets-all from (filter (is_configuration_at attributes) (handles_of_entries entries)) stored.row
