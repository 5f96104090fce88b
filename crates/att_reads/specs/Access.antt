-- The values that a client may read.
use Rattle.std.specs.Prelude.{◌≡◌, if◌then◌else◌, List, [], ◌∷◌, Option, None}
use Rattle.std.specs.Option.{option_map}
use Rattle.att_numbers.specs.Types.{Handle, Code, Row}
use Rattle.att_policy.specs.declared.policy.Access.TheVariants.{Read}
use Rattle.att_policy.specs.declared.standing.Standing.{Standing}
use Rattle.att_policy.specs.Policy.{first_broken_of}
use Rattle.att_policy.specs.Refusal.{Refusal}
use Rattle.att_attributes.specs.declared.attr.Attr.{Attr}
use Rattle.att_attributes.specs.Attributes.{guard_at, is_configuration_at}
use Rattle.att_table.specs.ConfigRow.{bits_at}
use Rattle.att_table.specs.Table.{Contents, value_at}
use Rattle.octet_io.specs.Number.{Octets}

-- The error code of the first rule that reading breaks.
abbrev pub refusal_at : List Attr → Standing → Handle → Option Code
refusal_at attributes standing handle =
    option_map (λ broken. broken.1) (first_broken_of Read (guard_at attributes handle) standing)

-- (P-ATT-6)
abbrev pub read_refusal : List Attr → Standing → Handle → Option Refusal
read_refusal attributes standing handle =
    option_map (λ code. record { handle = handle; code = code })
    (refusal_at attributes standing handle)

-- The value that a client reads; its configurations are its own (Core 5.0, Vol 3 Part G, 3.3.3.3).
-- (P-TAB-5)
abbrev pub value_for : Contents → Row → Handle → Octets
value_for table row handle =
    if is_configuration_at table.attributes handle then bits_at row handle ∷ 0 ∷ []
    else value_at table.values handle

-- The tables differ only in values that a client with this standing may not read.
pub record IsAlike (standing : Standing) (table other : Contents) : Type 0 where
  pub attributes : other.attributes ≡ table.attributes
  pub readable : (handle : Handle) → refusal_at table.attributes standing handle ≡ None
      → value_at other.values handle ≡ value_at table.values handle
