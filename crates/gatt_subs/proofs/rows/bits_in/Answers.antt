use Rattle.std.proofs.Common.{Some, None, ap, sym, ◌∙◌}
use Rattle.std.specs.Option.{option_copied}
use Rattle.gatt_subs.proofs.Entries.{bits_read}
use Rattle.gatt_subs.proofs.rows.bits_in.Goals as goal

pub returns-in-Some : goal.returns-in-Some
returns-in-Some c =
    bits_read (Some c.in-Some.entry.now) c.args.entries.now c.args.peer.now c.args.handle
    (ap option_copied (sym c.in-Some.is) ∙ c.find_entry.ensures)

pub returns-in-None : goal.returns-in-None
returns-in-None c =
    bits_read None c.args.entries.now c.args.peer.now c.args.handle
    (ap option_copied (sym c.in-None.is) ∙ c.find_entry.ensures)
