use Rattle.std.proofs.Common.{◌<◌, length, refl, ◌∙◌, ap, arith}
use Rattle.le_acl.specs.Pdus.{Queued}
use Rattle.le_acl.proofs.Rings.{count_is, ring-written, room_is}
use Rattle.le_acl.proofs.pdus.Pdus.room.Goals as goal

pub invariant_of-self-lent : goal.invariant_of-self-lent
invariant_of-self-lent c w =
    let has_room : c.self.inside.count < 16 = omega (arith, c.requires, count_is _ _ _ _ c.self.invariant, ap (λ (q : Queued). length q.pdus) c.self.view_is) in
    ring-written _ _ _ _ c.self.invariant w has_room

pub returns : goal.returns
returns c =
    let has_room : c.self.inside.count < 16 = omega (arith, c.requires, count_is _ _ _ _ c.self.invariant, ap (λ (q : Queued). length q.pdus) c.self.view_is) in (
      (
        refl,
        λ written. room_is _ _ _ _ c.self.invariant written has_room
            ∙ ap (λ (q : Queued). let held : Queued = record { pdus = q.pdus; room = written.items } in held) c.self.view_is,
      ),
      record { writes_back = tt },
    )
