-- All attributes of a table.
use Rattle.std.proofs.Common.{◌≡◌, ◌≤◌, ℕ, List, length}
use Rattle.std.proofs.lemmas.List.{take_all}
use Rattle.att_attributes.specs.declared.attr.Attr.{Attr}
use Rattle.att_attributes.specs.Attributes.{attributes_in}

pub all_attributes : (attributes : List Attr) (last : ℕ) → length attributes ≤ last → attributes_in attributes 1 last ≡ attributes
all_attributes attributes last within = take_all last attributes within
