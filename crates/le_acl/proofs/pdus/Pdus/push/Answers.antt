use Rattle.std.proofs.Common.{◌≡◌, ◌+◌, ◌%◌, ◌<◌, [], ◌∷◌, ◌++◌, length, get_or, sym, ◌∙◌, ap, ap₂, take_all, arith}
use Rattle.std.proofs.lemmas.List.{get_or_default}
use Rattle.arrayvec.specs.ArrayVec.{array_vec_len}
use Rattle.octet_io.specs.Number.{Octets}
use Rattle.le_acl.specs.Pdus.{Queued, empty}
use Rattle.le_acl.proofs.Rings.{count_is, push_is, ring-push}
use Rattle.le_acl.proofs.pdus.Pdus.push.Goals as goal

pub invariant_of-self : goal.invariant_of-self
invariant_of-self c =
    let has_room : c.self.inside.count < 16 = omega (arith, c.requires, count_is _ _ _ _ c.self.invariant, ap (λ (q : Queued). length q.pdus) c.self.view_is) in
    let slot = (c.self.inside.first + c.self.inside.count) % 16 in
    let all : c.len.result ≡ array_vec_len (get_or c.self.inside.payloads.items.items slot empty) =
    c.len.ensures.value ∙ ap array_vec_len (c.index.ensures
    ∙ sym (get_or_default c.self.inside.payloads.items.items slot empty c.index.result.now (omega (arith, c.self.invariant.payloads_length)))) in
    ring-push _ _ _ _ c.self.invariant (record { channel = c.args.channel; len = c.len.result }) has_room (omega (arith, all))

pub returns : goal.returns
returns c =
    let has_room : c.self.inside.count < 16 = omega (arith, c.requires, count_is _ _ _ _ c.self.invariant, ap (λ (q : Queued). length q.pdus) c.self.view_is) in
    let slot = (c.self.inside.first + c.self.inside.count) % 16 in
    let room : Octets = (get_or c.self.inside.payloads.items.items slot empty).items in
    let all : c.len.result ≡ length room =
    c.len.ensures.value ∙ ap array_vec_len (c.index.ensures
    ∙ sym (get_or_default c.self.inside.payloads.items.items slot empty c.index.result.now (omega (arith, c.self.invariant.payloads_length)))) in
    push_is _ _ _ _ c.self.invariant (record { channel = c.args.channel; len = c.len.result }) has_room
    ∙ ap₂ (λ (q : Queued) (octets : Octets). q.pdus ++ (c.args.channel, octets) ∷ []) c.self.view_is
    (take_all c.len.result room (omega (arith, all)) ∙ ap (λ (q : Queued). q.room) c.self.view_is)
