use Rattle.std.proofs.Common.{◌≡◌, ℕ, ◌+◌, ◌<◌, List, [], ◌∷◌, ◌++◌, length, take, drop, take_at, ◌∙◌, ap, ap₂, arith}
use Rattle.arrayvec.specs.ArrayVec.{ArrayVec, with_items}
use Rattle.octet_io.specs.Number.{Octets}
use Rattle.le_acl.specs.Packets.{Pdu}
use Rattle.le_acl.specs.declared.pdus.Header.{Header}
use Rattle.le_acl.specs.Pdus.{Queued}
use Rattle.le_acl.proofs.Rings.{count_is, push_is, ring-push, ring-written, room_is}
use Rattle.le_acl.proofs.pdus.Pdus.queue.Goals as goal

pub invariant_of-self : goal.invariant_of-self
invariant_of-self c =
    let has_room : c.self.inside.count < 16 =
    omega (arith, c.requires.room, count_is _ _ _ _ c.self.invariant, ap (λ (q : Queued). length q.pdus) c.self.view_is) in
    let header : Header = record { channel = c.args.channel; len = length c.args.front.now + length c.args.rest.now } in
    let long = c.lengthen.new.payload in
    let out = c.write_front.new.out in
    let same : length out ≡ length long.items = c.write_front.ensures.size ∙ ap length c.as_mut_slice.ensures.value in
    let written : ArrayVec ℕ = with_items long out in
    let all : written.items ≡ out = take_at out (drop (length out) long.items) (length long.items) same in
    ring-push _ _ _ _ (ring-written _ _ _ _ c.self.invariant written has_room) header has_room
    (omega (
      arith,
      c.requires.fits,
      c.lengthen.ensures,
      same,
      ap length all,
      ap (λ (q : Queued). length q.room) (room_is _ _ _ _ c.self.invariant written has_room),
    ))

pub returns : goal.returns
returns c =
    let has_room : c.self.inside.count < 16 =
    omega (arith, c.requires.room, count_is _ _ _ _ c.self.invariant, ap (λ (q : Queued). length q.pdus) c.self.view_is) in
    let count = length c.args.front.now + length c.args.rest.now in
    let header : Header = record { channel = c.args.channel; len = count } in
    let long = c.lengthen.new.payload in
    let out = c.write_front.new.out in
    let same : length out ≡ length long.items = c.write_front.ensures.size ∙ ap length c.as_mut_slice.ensures.value in
    let written : ArrayVec ℕ = with_items long out in
    let all : written.items ≡ out = take_at out (drop (length out) long.items) (length long.items) same in
    push_is _ _ _ _ (ring-written _ _ _ _ c.self.invariant written has_room) header has_room
    ∙ ap (λ (q : Queued). q.pdus ++ (c.args.channel, take count q.room) ∷ []) (room_is _ _ _ _ c.self.invariant written has_room)
    ∙ ap₂ (λ (pdus : List Pdu) (octets : Octets). pdus ++ (c.args.channel, octets) ∷ []) (ap (λ (q : Queued). q.pdus) c.self.view_is)
    (ap (take count) all ∙ c.write_front.ensures.front)
