-- A written value in its table.
use Rattle.std.specs.Prelude.{◌≡◌, ℕ, ◌≤◌, ◌<◌, Bool, true, Some, None}
use Rattle.att_numbers.specs.Types.{Handle}
use Rattle.att_policy.specs.declared.guard.Guard.{Guard}
use Rattle.att_policy.specs.declared.standing.Standing.{Standing}
use Rattle.att_policy.specs.Policy.{configuration_bits_of, first_unmet_rule_of}
use Rattle.att_attributes.specs.Attributes.{guard_at, is_value_at}
use Rattle.att_table.specs.Table.{Contents, value_at}
use Rattle.octet_io.specs.Number.{Octets}
use Rattle.att_numbers.specs.declared.limit.TheConstants.{MAX_ATTRIBUTES}

pub record InTable : Type 0 where
  pub table : Contents
  pub handle : Handle

-- The guard, allowed bits and octets are the value's; if unguarded, every connection may read it.
pub record IsLookedUp (table : Contents) (handle : Handle) (guard : Guard) (unguarded : Bool)
    (allowed : ℕ) (octets : Octets) : Type 0 where
  pub guarded : guard_at table.attributes handle ≡ Some guard
  pub is_value : is_value_at table.attributes handle ≡ true
  pub read_by_all : unguarded ≡ true → (standing : Standing)
      → first_unmet_rule_of guard.read standing ≡ None
  pub bits : allowed ≡ configuration_bits_of guard.properties
  pub value : octets ≡ value_at table.values handle
  pub used : 0 < handle
  pub most : handle ≤ MAX_ATTRIBUTES
