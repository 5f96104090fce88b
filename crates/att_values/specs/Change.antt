-- Changes of values in sequence.
use Rattle.std.specs.Prelude.{ℕ, ◌+◌, ◌≤◌, List, [], ◌∷◌, length, IsSome}
use Rattle.std.specs.FinMap.{get, insert}
use Rattle.att_numbers.specs.Types.{Handle}
use Rattle.att_values.specs.declared.change.Change.{Change}
use Rattle.att_values.specs.declared.change.Change.TheVariants.{Set, Patch}
use Rattle.att_values.specs.Cell.{value_with_part}
use Rattle.att_values.specs.ValueStore.{ByHandle, value_in}

-- The handle has a value whose room suffices for the change.
abbrev pub ChangeFits : (Handle → ℕ) → ByHandle → Change → Type 0
ChangeFits room contents (Set handle octets) =
    IsSome (get contents handle) × (length octets.now ≤ room handle)
ChangeFits room contents (Patch handle offset part keep) =
    IsSome (get contents handle) × (offset ≤ length (value_in contents handle))
    × (offset + length part.now ≤ room handle)

abbrev pub after_change : Change → ByHandle → ByHandle
after_change (Set handle octets) contents = insert contents handle octets.now
after_change (Patch handle offset part keep) contents =
    insert contents handle (value_with_part keep (value_in contents handle) offset part.now)

-- Each change fits the values after those before it.
abbrev pub ChangesFit : (Handle → ℕ) → ByHandle → List Change → Type 0
ChangesFit room contents [] = Unit
ChangesFit room contents (change ∷ changes) =
    ChangeFits room contents change × ChangesFit room (after_change change contents) changes

abbrev pub contents_after : List Change → ByHandle → ByHandle
contents_after [] contents = contents
contents_after (change ∷ changes) contents = contents_after changes (after_change change contents)
