-- What becomes of one entry, once it is judged.
use Rattle.std.proofs.Common.{◌≡◌, ℕ, Bool, true, false, cond, List, [], ◌∷◌, length, Option, Some, None, refl, sym, ap, ◌∙◌}
use Rattle.std.specs.Option.{option_map}
use Rattle.std.specs.Prelude.{Ok, Err, IsSome}
use Rattle.att_numbers.specs.Types.{Values}
use Rattle.att_policy.specs.declared.policy.Access.{Access}
use Rattle.att_policy.specs.declared.policy.Rule.{Rule}
use Rattle.att_policy.specs.declared.standing.Standing.{Standing}
use Rattle.att_policy.specs.Policy.{first_broken_of}
use Rattle.att_attributes.specs.declared.attr.Attr.{Attr}
use Rattle.att_attributes.specs.Attributes.{attribute_at, guard_at, is_fixed_at}
use Rattle.att_table.specs.Table.{value_at}
use Rattle.att_writes.specs.Applied.{Stored, after_entries, after_entry, unless_entry_refused}
use Rattle.att_writes.specs.Entry.{Entry}
use Rattle.att_writes.specs.Fault.{unless_broken, entry_fault}
use Rattle.att_writes.specs.Fits.{EntryFits}
use Rattle.att_writes.specs.Sizes.{size_after}

-- before any entry a value has its own length
either_way : (test : Bool) (size : ℕ) → cond test size size ≡ size
either_way true size = refl
either_way false size = refl

pub size_at_first : (attributes : List Attr) (values : Values) (handle : ℕ) → size_after attributes values handle [] ≡ length (value_at values handle)
size_at_first attributes values handle = either_way (is_fixed_at attributes handle) (length (value_at values handle))

-- an entry that is not refused has an attribute, and a form that it takes
form_taken : (broken : Option (Rule × ℕ)) (fault : Option ℕ) → unless_broken broken fault ≡ None → fault ≡ None
form_taken (Some broken) fault is = cc is
form_taken None fault is = is

pub attribute_there : (access : Access) (found : Option Attr) (standing : Standing) (fault : Option ℕ)
    → unless_broken (first_broken_of access (option_map (λ (attr : Attr). attr.guard) found) standing) fault ≡ None → IsSome found
attribute_there access None standing fault is = cc is
attribute_there access (Some attr) standing fault is = search

pub fits_unless_refused : (access : Access) (attributes : List Attr) (standing : Standing) (stored : Stored) (entry : Entry)
    → entry_fault access attributes standing (length (value_at stored.values entry.handle)) entry ≡ None → EntryFits attributes stored entry
fits_unless_refused access attributes standing stored entry is = record {
  exists = attribute_there access (attribute_at attributes entry.handle) standing _ is;
  taken = form_taken (first_broken_of access (guard_at attributes entry.handle) standing) _ is;
}

pub fits_at_first : (access : Access) (attributes : List Attr) (standing : Standing) (stored : Stored) (entry : Entry)
    → entry_fault access attributes standing (size_after attributes stored.values entry.handle []) entry ≡ None → EntryFits attributes stored entry
fits_at_first access attributes standing stored entry is =
    fits_unless_refused access attributes standing stored entry
    (ap (λ size. entry_fault access attributes standing size entry) (sym (size_at_first attributes stored.values entry.handle)) ∙ is)

-- so one entry is refused or written
pub refused_at_first : (access : Access) (attributes : List Attr) (standing : Standing) (stored : Stored) (entry : Entry) (code : ℕ)
    → entry_fault access attributes standing (size_after attributes stored.values entry.handle []) entry ≡ Some code
    → after_entries access attributes standing stored (entry ∷ []) ≡ Err (record { handle = entry.handle; code = code })
unfolding after_entries
refused_at_first access attributes standing stored entry code is =
    ap (λ fault. unless_entry_refused entry fault (Ok (after_entry attributes stored entry)))
    (ap (λ size. entry_fault access attributes standing size entry) (sym (size_at_first attributes stored.values entry.handle)) ∙ is)

pub written_at_first : (access : Access) (attributes : List Attr) (standing : Standing) (stored : Stored) (entry : Entry)
    → entry_fault access attributes standing (size_after attributes stored.values entry.handle []) entry ≡ None
    → after_entries access attributes standing stored (entry ∷ []) ≡ Ok (after_entry attributes stored entry)
unfolding after_entries
written_at_first access attributes standing stored entry is =
    ap (λ fault. unless_entry_refused entry fault (Ok (after_entry attributes stored entry)))
    (ap (λ size. entry_fault access attributes standing size entry) (sym (size_at_first attributes stored.values entry.handle)) ∙ is)

-- and so is the first of more
pub applied_more : (access : Access) (attributes : List Attr) (standing : Standing) (stored : Stored) (entry : Entry) (rest : List Entry)
    → entry_fault access attributes standing (length (value_at stored.values entry.handle)) entry ≡ None
    → after_entries access attributes standing stored (entry ∷ rest) ≡ after_entries access attributes standing (after_entry attributes stored entry) rest
unfolding after_entries
applied_more access attributes standing stored entry rest is =
    ap (λ fault. unless_entry_refused entry fault (after_entries access attributes standing (after_entry attributes stored entry) rest)) is

pub refused_more : (access : Access) (attributes : List Attr) (standing : Standing) (stored : Stored) (entry : Entry) (rest : List Entry) (code : ℕ)
    → entry_fault access attributes standing (length (value_at stored.values entry.handle)) entry ≡ Some code
    → after_entries access attributes standing stored (entry ∷ rest) ≡ Err (record { handle = entry.handle; code = code })
unfolding after_entries
refused_more access attributes standing stored entry rest code is =
    ap (λ fault. unless_entry_refused entry fault (after_entries access attributes standing (after_entry attributes stored entry) rest)) is

pub applied_none : (access : Access) (attributes : List Attr) (standing : Standing) (stored : Stored) → after_entries access attributes standing stored []
    ≡ Ok stored
unfolding after_entries
applied_none access attributes standing stored = refl

pub ruleset at_once = (fits_at_first, refused_at_first, written_at_first)
