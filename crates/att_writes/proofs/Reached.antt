-- How far a list of entries is judged.
use Rattle.std.proofs.Common.{◌≡◌, ℕ, ◌+◌, ◌-◌, ◌<◌, ◌≤◌, Bool, true, false, ◌==◌, cond, if◌then◌else◌, List, [], ◌∷◌, ◌++◌, length, take, drop, get_or, Option, Some, None, refl, sym, ap, subst, ◌∙◌, arith}
use Rattle.std.proofs.lemmas.Bool.Decides.{nat_tests}
use Rattle.std.proofs.lemmas.Grind.{common_steps}
use Rattle.std.proofs.lemmas.List.{length-set, length-take-le, drop_all}
use Rattle.std.specs.Prelude.{Ok, Err}
use Rattle.std.specs.Option.{option_map_or}
use Rattle.att_numbers.specs.Types.{Row}
use Rattle.att_policy.specs.declared.policy.Access.{Access}
use Rattle.att_policy.specs.declared.standing.Standing.{Standing}
use Rattle.att_attributes.specs.declared.attr.Attr.{Attr}
use Rattle.att_policy.specs.Policy.{first_broken_of}
use Rattle.att_values.specs.Cell.{value_with_part}
use Rattle.att_attributes.specs.Attributes.{attribute_at, guard_at, is_configuration_at, is_fixed_at}
use Rattle.att_table.specs.ConfigRow.{with_bits}
use Rattle.att_table.specs.Table.{value_at, with_value}
use Rattle.att_writes.specs.declared.queue.Place.{Place}
use Rattle.att_writes.specs.Applied.{Stored, after_entries, after_entry, first_octet}
use Rattle.att_writes.specs.Entry.{Entry}
use Rattle.att_writes.specs.Fault.{unless_broken, value_fault, configuration_fault, room_for, form_fault, entry_fault}
use Rattle.att_writes.specs.Fits.{EntriesFit, after_all}
use Rattle.att_writes.specs.Queue.{entries_in, sizes_of}
use Rattle.att_writes.specs.Sizes.{size_with, size_after}
use Rattle.att_writes.proofs.AtOnce.{size_at_first, attribute_there, fits_unless_refused, applied_more, refused_more, applied_none}
use Rattle.att_writes.proofs.Laid.{no_place, entry_at, entries_left, part_within}
use Rattle.att_writes.proofs.Sizes.{same_form, used, size_with_more, after_part}

-- entries before these are judged, and what stands by then has the values and the row that they leave
pub record IsReached (access : Access) (attributes : List Attr) (standing : Standing) (stored : Stored) (all rest : List Entry) (visited : List Place)
    (by : Stored) : Type 0 where
  pub same : after_entries access attributes standing stored all ≡ after_entries access attributes standing by rest
  pub after : after_all attributes stored all ≡ after_all attributes by rest
  pub fits : EntriesFit attributes by rest → EntriesFit attributes stored all
  pub count : length by.values ≡ length stored.values
  pub sizes : (handle : ℕ) → 0 < handle → is_configuration_at attributes handle ≡ false → length (value_at by.values handle)
      ≡ size_after attributes stored.values handle visited

pub begin : (access : Access) (attributes : List Attr) (standing : Standing) (stored : Stored) (all : List Entry)
    → IsReached access attributes standing stored all all [] stored
begin access attributes standing stored all = record {
  same = refl;
  after = refl;
  fits = λ fits. fits;
  count = refl;
  sizes = λ handle is_used is. sym (size_at_first attributes stored.values handle);
}

-- an entry is refused by what stands by then as it is by the lengths; where it has no attribute, whatever they are
pub same_by_then : (access : Access) (attributes : List Attr) (standing : Standing) (one other : ℕ) (entry : Entry)
    → (0 < entry.handle → is_configuration_at attributes entry.handle ≡ false → one ≡ other)
    → entry_fault access attributes standing one entry ≡ entry_fault access attributes standing other entry
same_by_then access attributes standing one other entry same =
    elim (first_broken_of access (guard_at attributes entry.handle) standing)
    as (λ broken. first_broken_of access (guard_at attributes entry.handle) standing ≡ broken → unless_broken broken (form_fault attributes one entry)
    ≡ unless_broken broken (form_fault attributes other entry)) [
      | Some broken ↦ λ is. refl
      | None ↦ λ is. same_form attributes (is_configuration_at attributes entry.handle) one other entry
          (same (used attributes entry.handle
          (attribute_there access (attribute_at attributes entry.handle) standing None (ap (λ broken. unless_broken broken None) is))))
    ] refl

fault_by_then : (access : Access) (attributes : List Attr) (standing : Standing) (stored : Stored) (all rest : List Entry) (visited : List Place) (by : Stored)
    (entry : Entry) (fault : Option ℕ)
    → IsReached access attributes standing stored all (entry ∷ rest) visited by
    → entry_fault access attributes standing (size_after attributes stored.values entry.handle visited) entry ≡ fault
    → entry_fault access attributes standing (length (value_at by.values entry.handle)) entry ≡ fault
fault_by_then access attributes standing stored all rest visited by entry fault reached is =
    same_by_then access attributes standing (length (value_at by.values entry.handle)) (size_after attributes stored.values entry.handle visited) entry
    (reached.sizes entry.handle) ∙ is

pub refused : (access : Access) (attributes : List Attr) (standing : Standing) (stored : Stored) (all rest : List Entry) (visited : List Place) (by : Stored)
    (entry : Entry) (code : ℕ)
    → IsReached access attributes standing stored all (entry ∷ rest) visited by
    → entry_fault access attributes standing (size_after attributes stored.values entry.handle visited) entry ≡ Some code
    → after_entries access attributes standing stored all ≡ Err (record { handle = entry.handle; code = code })
refused access attributes standing stored all rest visited by entry code reached is =
    reached.same ∙ refused_more access attributes standing by entry rest code
    (fault_by_then access attributes standing stored all rest visited by entry (Some code) reached is)

pub finished : (access : Access) (attributes : List Attr) (standing : Standing) (stored : Stored) (all : List Entry) (visited : List Place) (by : Stored)
    → IsReached access attributes standing stored all [] visited by
    → (after_entries access attributes standing stored all ≡ Ok (after_all attributes stored all)) × EntriesFit attributes stored all
finished access attributes standing stored all visited by reached =
    (reached.same ∙ applied_none access attributes standing by ∙ ap Ok (sym reached.after), reached.fits tt)

unlike : (attributes : List Attr) (handle place other : ℕ) (test : Bool) → is_configuration_at attributes handle ≡ true → is_configuration_at attributes other
    ≡ false → handle ≡ place → (place == other) ≡ test → test ≡ false
unlike attributes handle place other true is not_other same equal = let one : place ≡ other = grind (arith, nat_tests) in absurd (cc (is, not_other, same, one))
unlike attributes handle place other false is not_other same equal = refl

apart : (attributes : List Attr) (handle place other : ℕ) → is_configuration_at attributes handle ≡ true → is_configuration_at attributes other ≡ false
    → handle ≡ place → (place == other) ≡ false
apart attributes handle place other is not_other same = unlike attributes handle place other (place == other) is not_other same refl

-- one more entry that is not refused
values_kept : (is : Bool) (by : Stored) (row : Row) (handle : ℕ) (value : List ℕ)
    → length (if is then record by { row = row } else record by { values = with_value by.values handle value }).values ≡ length by.values
values_kept true by row handle value = refl
values_kept false by row handle value = length-set by.values (handle - 1) value

value_fits : (attributes : List Attr) (size : ℕ) (entry : Entry) → value_fault attributes size entry ≡ None
    → (entry.offset ≤ size) × (entry.offset + length entry.part ≤ room_for attributes entry.handle size)
value_fits attributes size entry is = (grind (arith, nat_tests), grind (arith, nat_tests))

-- the length of another value than a configuration
one_more : (fixed same : Bool) (own by end before : ℕ) → by ≡ cond fixed own before → cond fixed by (if same then end else by)
    ≡ cond fixed own (if same then end else before)
one_more true same own by end before is = is
one_more false true own by end before is = refl
one_more false false own by end before is = is

sizes_more : (attributes : List Attr) (stored by : Stored) (visited : List Place) (place : Place) (entry : Entry) (is : Bool) (other : ℕ)
    → is_configuration_at attributes entry.handle ≡ is → is_configuration_at attributes other ≡ false → 0 < entry.handle → 0 < other
    → entry.handle ≤ length by.values
    → entry.handle ≡ place.handle → entry.offset ≡ place.offset → length entry.part ≡ place.len
    → cond is (configuration_fault attributes entry) (value_fault attributes (length (value_at by.values entry.handle)) entry) ≡ None
    → length (value_at by.values other) ≡ size_after attributes stored.values other visited
    → length (value_at (if is then record by { row = with_bits by.row entry.handle (first_octet entry.part) }
    else record by {
      values = with_value by.values entry.handle
          (value_with_part (is_fixed_at attributes entry.handle) (value_at by.values entry.handle) entry.offset entry.part);
    }).values other)
    ≡ size_after attributes stored.values other (visited ++ place ∷ [])
sizes_more attributes stored by visited place entry true other is not_other is_used other_used within same_handle same_offset same_size fits size =
    let differs : (place.handle == other) ≡ false = apart attributes entry.handle place.handle other is not_other same_handle in
    let own = length (value_at stored.values other) in
    size ∙ ap (λ end. cond (is_fixed_at attributes other) own end)
    (sym (ap (λ same. if same then place.offset + place.len else size_with other own visited) differs) ∙ sym (size_with_more other own visited place))
sizes_more attributes stored by visited place entry false other is not_other is_used other_used within same_handle same_offset same_size fits size =
    let own = length (value_at stored.values other) in
    let fit = value_fits attributes (length (value_at by.values entry.handle)) entry fits in
    let ends : entry.offset + length entry.part ≡ place.offset + place.len = omega arith in
    after_part attributes by.values entry other (option_map_or (λ (attr : Attr). attr.largest) (attribute_at attributes entry.handle) 0) is_used within
    other_used fit.0 fit.1
    ∙ one_more (is_fixed_at attributes other) (entry.handle == other) own (length (value_at by.values other)) (entry.offset + length entry.part)
    (size_with other own visited) size
    ∙ ap (λ end. cond (is_fixed_at attributes other) own (if entry.handle == other then end else size_with other own visited)) ends
    ∙ ap (λ handle. cond (is_fixed_at attributes other) own (if handle == other then place.offset + place.len else size_with other own visited)) same_handle
    ∙ ap (λ end. cond (is_fixed_at attributes other) own end) (sym (size_with_more other own visited place))

pub one_more_judged : (access : Access) (attributes : List Attr) (standing : Standing) (stored : Stored) (all rest : List Entry) (visited : List Place)
    (place : Place) (by : Stored) (entry : Entry)
    → entry.handle ≡ place.handle → entry.offset ≡ place.offset → length entry.part ≡ place.len
    → IsReached access attributes standing stored all (entry ∷ rest) visited by → entry.handle ≤ length stored.values
    → entry_fault access attributes standing (size_after attributes stored.values entry.handle visited) entry ≡ None
    → IsReached access attributes standing stored all rest (visited ++ place ∷ []) (after_entry attributes by entry)
one_more_judged access attributes standing stored all rest visited place by entry same_handle same_offset same_size reached within is =
    let then_none = fault_by_then access attributes standing stored all rest visited by entry None reached is in
    let fit = fits_unless_refused access attributes standing by entry then_none in
    let is_used = used attributes entry.handle fit.exists in
    let there : entry.handle ≤ length by.values = omega (arith, reached.count) in
    record {
      same = reached.same ∙ applied_more access attributes standing by entry rest then_none;
      after = reached.after;
      fits = λ later. reached.fits (fit, later);
      count = values_kept (is_configuration_at attributes entry.handle) by _ entry.handle _ ∙ reached.count;
      sizes = λ other other_used not_other.
          sizes_more attributes stored by visited place entry (is_configuration_at attributes entry.handle) other refl not_other is_used other_used there
          same_handle same_offset same_size fit.taken
          (reached.sizes other other_used not_other);
    }

-- the entries are those at places, with their parts one behind the other
take_next : (places : List Place) (i : ℕ) → i < length places → take (i + 1) places ≡ take i places ++ get_or places i no_place ∷ []
take_next places i below = grind (arith, common_steps)

pub judged_at : (access : Access) (attributes : List Attr) (standing : Standing) (stored : Stored) (all : List Entry) (places : List Place) (i : ℕ)
    (octets : List ℕ) (by : Stored)
    → i < length places → sizes_of (drop i places) ≡ length octets
    → IsReached access attributes standing stored all (entries_in (drop i places) octets) (take i places) by
    → (get_or places i no_place).handle ≤ length stored.values
    → entry_fault access attributes standing (size_after attributes stored.values (get_or places i no_place).handle (take i places)) (entry_at places i octets)
    ≡ None
    → IsReached access attributes standing stored all (entries_in (drop (i + 1) places) (drop (get_or places i no_place).len octets)) (take (i + 1) places)
    (after_entry attributes by (entry_at places i octets))
judged_at access attributes standing stored all places i octets by below sizes reached within is =
    let place = get_or places i no_place in
    let entry = entry_at places i octets in
    let rest = entries_in (drop (i + 1) places) (drop place.len octets) in
    let fits = part_within places i octets below sizes in
    let here : IsReached access attributes standing stored all (entry ∷ rest) (take i places) by =
    subst (λ left. IsReached access attributes standing stored all left (take i places) by) (entries_left places i octets below) reached in
    let more =
    one_more_judged access attributes standing stored all rest (take i places) place by entry refl refl (length-take-le place.len octets fits) here within
    is in
    subst (λ visited. IsReached access attributes standing stored all rest visited (after_entry attributes by entry)) (sym (take_next places i below)) more

pub refused_at : (access : Access) (attributes : List Attr) (standing : Standing) (stored : Stored) (all : List Entry) (places : List Place) (i : ℕ)
    (octets : List ℕ) (by : Stored) (code : ℕ)
    → i < length places
    → IsReached access attributes standing stored all (entries_in (drop i places) octets) (take i places) by
    → entry_fault access attributes standing (size_after attributes stored.values (get_or places i no_place).handle (take i places)) (entry_at places i octets)
    ≡ Some code
    → after_entries access attributes standing stored all ≡ Err (record { handle = (get_or places i no_place).handle; code = code })
refused_at access attributes standing stored all places i octets by code below reached is =
    let entry = entry_at places i octets in
    let rest = entries_in (drop (i + 1) places) (drop (get_or places i no_place).len octets) in
    let here : IsReached access attributes standing stored all (entry ∷ rest) (take i places) by =
    subst (λ left. IsReached access attributes standing stored all left (take i places) by) (entries_left places i octets below) reached in
    refused access attributes standing stored all rest (take i places) by entry code here is

pub finished_at : (access : Access) (attributes : List Attr) (standing : Standing) (stored : Stored) (all : List Entry) (places : List Place) (i : ℕ)
    (octets : List ℕ) (visited : List Place) (by : Stored)
    → length places ≤ i
    → IsReached access attributes standing stored all (entries_in (drop i places) octets) visited by
    → (after_entries access attributes standing stored all ≡ Ok (after_all attributes stored all)) × EntriesFit attributes stored all
finished_at access attributes standing stored all places i octets visited by over reached =
    finished access attributes standing stored all visited by
    (subst (λ left. IsReached access attributes standing stored all (entries_in left octets) visited by) (drop_all i places over) reached)
