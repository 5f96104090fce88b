-- The facts of each table: the limits are this profile's own, the largest length is from Core 5.0,
-- Vol 3 Part F, 3.2.9.
use Rattle.std.specs.Prelude.{◌≡◌, ◌<◌, ◌≤◌, ◌-◌, true, All, length, sum_by}
use Rattle.att_numbers.specs.Types.{Handle}
use Rattle.att_attributes.specs.declared.attr.Attr.{Attr}
use Rattle.att_attributes.specs.Attributes.{configurations_of, is_configuration_at, is_fixed_at, is_value_at, largest_at, HaveHandlesFrom}
use Rattle.att_table.specs.ConfigRow.{HasRowRoom}
use Rattle.att_table.specs.Table.{Contents, value_at}
use Rattle.att_numbers.specs.declared.limit.TheConstants.{MAX_ATTRIBUTES, MAX_CONFIGURATIONS, MAX_TABLE_OCTETS, MAX_VALUE}

-- The handles count from 1, and each has a value. (P-TAB-2)
pub record IsTable (table : Contents) : Type 0 where
  pub handles : HaveHandlesFrom 1 table.attributes
  pub most : length table.attributes ≤ MAX_ATTRIBUTES
  pub one_value_each : length table.values ≡ length table.attributes
  -- No value exceeds its largest length; a fixed value has that length. (P-TAB-3)
  pub largest : All (λ (attr : Attr). attr.largest ≤ MAX_VALUE) table.attributes
  pub within : (handle : Handle) → 0 < handle → length (value_at table.values handle)
      ≤ largest_at table.attributes handle
  pub fixed : (handle : Handle) → is_fixed_at table.attributes handle ≡ true
      → length (value_at table.values handle) ≡ largest_at table.attributes handle
  -- A configuration follows its value, and each client has space for all.
  pub behind : (handle : Handle) → is_configuration_at table.attributes handle ≡ true
      → is_value_at table.attributes (handle - 1) ≡ true
  pub configurations : configurations_of table.attributes ≤ MAX_CONFIGURATIONS
  pub rows : (handle : Handle) → HasRowRoom table.attributes handle
  pub octets : sum_by (λ (attr : Attr). attr.largest) table.attributes ≤ MAX_TABLE_OCTETS
