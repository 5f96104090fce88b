-- The saved state of a device: the text of its last table, subscriptions, and values.
use Rattle.std.specs.Prelude.{List}
use Rattle.octet_io.specs.Number.{Octets}
use Rattle.gatt_subs.specs.Rows.{Subscriptions}
use Rattle.saved_values.specs.SavedValue.{Saved}

pub record SavedState : Type 0 where
  pub table_text : Octets
  pub rows : Subscriptions
  pub values : List Saved
