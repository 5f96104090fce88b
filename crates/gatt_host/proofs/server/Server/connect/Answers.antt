use Rattle.std.proofs.Common.{ℕ, Option, length, sym, ap, ◌∙◌}
use Rattle.gatt_host.specs.contracts.server.Server.{the_view}
use Rattle.gatt_host.specs.ServerState.{ServerState}
use Rattle.gatt_host.proofs.places.Places.{come_then_heard}
use Rattle.gatt_laws.specs.machine.SharedState.{share_of, fragment_size_of}
use Rattle.le_acl.specs.Shares.{share}
use Rattle.le_hci.specs.declared.buffers.Buffers.{Buffers}
use Rattle.gatt_host.proofs.server.Server.connect.Goals as goal

pub returns : goal.returns
returns c =
    let old : ServerState = the_view c.self.inside in
    c.end_event.ensures ∙ come_then_heard old c.args.self.now c.self.view_is c.args.place c.args.handle c.args.peer c.share-share.result
    c.acl_len-acl_len.result c.known-key_known.result
    c.note_connected.new.self c.connect.new.self
    (c.share-share.ensures.share ∙ ap (λ (count : ℕ). share count c.in-Some.buffers.packets) c.len.ensures.count
    ∙ ap (λ (buffers : Option Buffers). share_of (length old.slots) buffers) (sym c.in-Some.is ∙ c.buffers.ensures.buffers))
    (c.acl_len-acl_len.ensures ∙ ap (λ (buffers : Option Buffers). fragment_size_of buffers) (sym c.in-Some.is ∙ c.buffers.ensures.buffers))
    c.known-key_known.ensures c.connect.ensures (c.note_connected.ensures c.args.handle c.args.peer)
