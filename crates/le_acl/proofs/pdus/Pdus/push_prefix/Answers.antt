use Rattle.std.proofs.Common.{◌<◌, [], ◌∷◌, ◌++◌, length, take, ◌∙◌, ap, arith}
use Rattle.le_acl.specs.Pdus.{Queued}
use Rattle.le_acl.proofs.Rings.{count_is, push_is, ring-push}
use Rattle.le_acl.proofs.pdus.Pdus.push_prefix.Goals as goal

pub invariant_of-self : goal.invariant_of-self
invariant_of-self c =
    let has_room : c.self.inside.count < 16 =
    omega (arith, c.requires.room, count_is _ _ _ _ c.self.invariant, ap (λ (q : Queued). length q.pdus) c.self.view_is) in
    ring-push _ _ _ _ c.self.invariant (record { channel = c.args.channel; len = c.args.count }) has_room
    (omega (arith, c.requires.within, ap (λ (q : Queued). length q.room) c.self.view_is))

pub returns : goal.returns
returns c =
    let has_room : c.self.inside.count < 16 =
    omega (arith, c.requires.room, count_is _ _ _ _ c.self.invariant, ap (λ (q : Queued). length q.pdus) c.self.view_is) in
    push_is _ _ _ _ c.self.invariant (record { channel = c.args.channel; len = c.args.count }) has_room
    ∙ ap (λ (q : Queued). q.pdus ++ (c.args.channel, take c.args.count q.room) ∷ []) c.self.view_is
