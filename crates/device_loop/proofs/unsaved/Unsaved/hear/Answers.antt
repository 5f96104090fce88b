use Rattle.std.proofs.Common.{length, ap, arith}
use Rattle.gatt_host.specs.Notices.{notice_of}
use Rattle.device_loop.specs.Unsaved.{unsaved_after, without_connection}
use Rattle.device_loop.proofs.unsaved.Unsaved.hear.Goals as goal

pub returns-in-Disconnected-clause-full : goal.returns-in-Disconnected-clause-full
returns-in-Disconnected-clause-full c = λ many.
    let removed = ap (λ notice. length (unsaved_after c.args.self.now (notice_of notice))) c.in-Disconnected.is in
    let inside = ap (λ handles. length (without_connection handles c.in-Disconnected.handle)) c.self.view_is in
    absurd (omega (arith, many, c.remove.ensures.few, removed, inside))
