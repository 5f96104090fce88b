-- The parts of a state are read back from its text (this profile's own).
use Rattle.std.specs.Prelude.{◌≡◌, List, Ok}
use Rattle.octet_io.specs.Number.{Octets}
use Rattle.gatt_subs.specs.ReadBack.{IsOfAFile, written_by}
use Rattle.gatt_subs.specs.Rows.{Subscriptions, unfitted_rows}
use Rattle.saved_values.specs.SavedValue.{Saved}
use Rattle.device_state.specs.State.{state_read}

-- The subscriptions read from the text are not yet fitted to a table.
abbrev pub ReadsBack : Octets → Subscriptions → List Saved → Octets → Type 0
ReadsBack table_text rows values text =
    IsOfAFile (written_by rows)
    → state_read text ≡ Ok (record {
      table_text = table_text;
      rows = unfitted_rows (written_by rows);
      values = values;
    })
