use Rattle.std.proofs.Common.{◌<◌, drop, length, ◌∙◌, ap, arith}
use Rattle.le_acl.specs.Pdus.{Queued}
use Rattle.le_acl.proofs.Rings.{count_is, pop_is, ring-pop, room-pop}
use Rattle.le_acl.proofs.pdus.Pdus.pop.Goals as goal

pub invariant_of-self : goal.invariant_of-self
invariant_of-self c =
    let some : 0 < c.self.inside.count = omega (arith, c.requires, count_is _ _ _ _ c.self.invariant, ap (λ (q : Queued). length q.pdus) c.self.view_is) in
    ring-pop _ _ _ _ c.self.invariant some

pub returns-clause-pdus : goal.returns-clause-pdus
returns-clause-pdus c =
    let some : 0 < c.self.inside.count = omega (arith, c.requires, count_is _ _ _ _ c.self.invariant, ap (λ (q : Queued). length q.pdus) c.self.view_is) in
    pop_is _ _ _ _ c.self.invariant some ∙ ap (λ (q : Queued). drop 1 q.pdus) c.self.view_is

pub returns-clause-room : goal.returns-clause-room
returns-clause-room c =
    let some : 0 < c.self.inside.count = omega (arith, c.requires, count_is _ _ _ _ c.self.invariant, ap (λ (q : Queued). length q.pdus) c.self.view_is) in
    room-pop _ _ _ _ c.self.invariant some ∙ ap (λ (q : Queued). q.room) c.self.view_is
