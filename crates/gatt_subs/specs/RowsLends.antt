-- The subscriptions after a peer's row was lent.
use Rattle.std.specs.Prelude.{Option}
use Rattle.std.specs.Borrow.{LendsIf, MutBor, Fml}
use Rattle.att_numbers.specs.Types.{Row}
use Rattle.att_table.specs.contracts.config_row.ConfigRow.{the_row as config_row}
use Rattle.gatt_subs.specs.contracts.rows.Rows.{the_row}
use Rattle.le_hci.specs.declared.peer.Peer.{Peer}
use Rattle.gatt_subs.specs.Rows.{Subscriptions, with_bond, with_row}

-- The row is the last one written through the result; all else stays.
abbrev pub LendsRow : MutBor Subscriptions → Peer → Option (MutBor Row) → Fml
LendsRow rows peer result =
    LendsIf the_row config_row rows result (λ row. with_bond rows.now peer (with_row row)) rows.now
