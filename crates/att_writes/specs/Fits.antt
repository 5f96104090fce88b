-- Entries that can be written, whatever the policy.
use Rattle.std.specs.Prelude.{◌≡◌, List, [], ◌∷◌, length, None, IsSome}
use Rattle.att_attributes.specs.declared.attr.Attr.{Attr}
use Rattle.att_attributes.specs.Attributes.{attribute_at}
use Rattle.att_table.specs.Table.{value_at}
use Rattle.att_writes.specs.Applied.{Stored, after_entry}
use Rattle.att_writes.specs.Entry.{Entry}
use Rattle.att_writes.specs.Fault.{form_fault}

-- The attribute exists and accepts the entry.
pub record EntryFits (attributes : List Attr) (stored : Stored) (entry : Entry) : Type 0 where
  pub exists : IsSome (attribute_at attributes entry.handle)
  pub taken : form_fault attributes (length (value_at stored.values entry.handle)) entry ≡ None

-- Each entry fits the state after those before it.
abbrev pub EntriesFit : List Attr → Stored → List Entry → Type 0
EntriesFit attributes stored [] = Unit
EntriesFit attributes stored (entry ∷ rest) =
    EntryFits attributes stored entry
    × EntriesFit attributes (after_entry attributes stored entry) rest

abbrev pub after_all : List Attr → Stored → List Entry → Stored
after_all attributes stored [] = stored
after_all attributes stored (entry ∷ rest) =
    after_all attributes (after_entry attributes stored entry) rest
