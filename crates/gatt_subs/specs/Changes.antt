-- The pending Service Changed indications after a table is replaced (this profile's own).
use Rattle.std.specs.Prelude.{Option}
use Rattle.att_numbers.specs.Types.{Handle}
use Rattle.gatt_subs.specs.declared.bond.Bond.{Bond}
use Rattle.gatt_subs.specs.Fit.{wants_changes}

-- The indication is pending if the row requests it.
abbrev pub with_changes_owed : Option Handle → Bond → Bond
with_changes_owed changer bond = record bond { owed = wants_changes changer bond.row }
