use Rattle.std.proofs.Common.{◌≡◌, ◌<◌, true, [], Option, refl, sym, subst, ◌∙◌}
use Rattle.std.proofs.lemmas.Bool.{OnTrue_at, OnFalse_at}
use Rattle.std.specs.Io.KnownBytes.{Appends}
use Rattle.gatt_host.proofs.model.Feeds.{breaks_off_at, counts_none_at, on_err_at, on_ok_at, takes_packet_more, takes_silently}
use Rattle.gatt_host.proofs.model.Fewer.{fewer_out}
use Rattle.gatt_host.proofs.model.Items.{leads_nowhere}
use Rattle.gatt_host.proofs.model.Owed.{drained_then, held_then, leads_going}
use Rattle.gatt_host.specs.Credits.{most_out}
use Rattle.gatt_host.specs.GoingOut.{is_drained}
use Rattle.gatt_host.specs.ServerState.{ServerState, open_slots}
use Rattle.gatt_host.specs.HostModel.{going}
use Rattle.octet_io.proofs.Writing.{counts_none, counts_same}
use Rattle.octet_io.specs.Number.{Octets}
use Rattle.octet_io.specs.Stream.{WritesFront}
use Rattle.gatt_host.proofs.feeding.write_packets.Goals as goal

pub loop-packet-init : goal.loop-packet-init
loop-packet-init g c = record {
  takes = λ frames stream.
      takes_silently [] (going c.args.server.now frames stream) (going c.args.server.now frames stream) (g.W.Sink.contents c.args.out.now)
      (leads_nowhere (going c.args.server.now frames stream) (going c.args.server.now frames stream) refl);
  server = c.requires.one;
  packets = c.requires.packets;
  failures = counts_same (g.W.Sink.failures c.args.out.now);
}

pub returns-then-is_err-clause-feeds : goal.returns-then-is_err-clause-feeds
returns-then-is_err-clause-feeds g c = λ frames stream.
    let old : ServerState = c.args.server.now in
    let at : ServerState = c.loop-packet.server in
    let mid : ServerState = c.next_pending.new.self in
    let octets : Octets = c.next_pending.new.out in
    let before : Option Octets = g.W.Sink.contents c.args.out.now in
    let between : Option Octets = g.W.Sink.contents c.loop-packet.out in
    let after : Option Octets = g.W.Sink.contents c.write_all.new.sink in
    let front : WritesFront octets between after =
    subst (λ (octets : Octets). WritesFront octets between after) c.as_slice.ensures.value
    (on_err_at c.write_all.result (WritesFront c.as_slice.result.now between after) (sym c.is_err.ensures.value ∙ c.if-is_err.true) c.write_all.ensures.front)
    in
    breaks_off_at (going old frames stream) (going at frames stream) (going mid frames stream) octets before between after
    (c.loop-packet.invariant.takes frames stream)
    (leads_going at mid octets (OnTrue_at c.loop-packet-test.true c.next_pending.ensures.octets) c.next_pending.ensures.after frames stream) refl front

pub loop-packet-smaller : goal.loop-packet-smaller
loop-packet-smaller g c =
    let at : ServerState = c.loop-packet.server in
    subst (λ (server : ServerState). most_out server < most_out at) (sym c.next_pending.ensures.after)
    (fewer_out at c.next_pending.new.out (OnTrue_at c.loop-packet-test.true c.next_pending.ensures.octets))

pub loop-packet-preserved : goal.loop-packet-preserved
loop-packet-preserved g c =
    let at : ServerState = c.loop-packet.server in
    let mid : ServerState = c.next_pending.new.self in
    let octets : Octets = c.next_pending.new.out in
    let between : Option Octets = g.W.Sink.contents c.loop-packet.out in
    let after : Option Octets = g.W.Sink.contents c.write_all.new.sink in
    record {
      takes = λ frames stream.
          takes_packet_more (going c.args.server.now frames stream) (going at frames stream) (going mid frames stream) octets (g.W.Sink.contents c.args.out.now)
          between after (c.loop-packet.invariant.takes frames stream)
          (leads_going at mid octets (OnTrue_at c.loop-packet-test.true c.next_pending.ensures.octets) c.next_pending.ensures.after frames stream)
          (subst (λ (octets : Octets). Appends between after octets) c.as_slice.ensures.value
          (on_ok_at c.write_all.result (Appends between after c.as_slice.result.now) (sym c.is_err.ensures.value ∙ c.if-is_err.false) c.write_all.ensures.ok));
      server =
          held_then at mid octets (OnTrue_at c.loop-packet-test.true c.next_pending.ensures.octets) c.next_pending.ensures.after c.loop-packet.invariant.server;
      packets = c.next_pending.ensures.packets;
      failures = counts_none _ _ _ c.loop-packet.invariant.failures
          (counts_none_at c.write_all.result _ _ (sym c.is_err.ensures.value ∙ c.if-is_err.false) c.write_all.ensures.failures);
    }

pub returns-clause-out : goal.returns-clause-out
returns-clause-out g c = λ ok.
    subst (λ (server : ServerState). is_drained server.controller (open_slots server) ≡ true)
    (sym (OnFalse_at c.loop-packet-test.false c.next_pending.ensures.unchanged))
    (drained_then c.loop-packet.server c.loop-packet.invariant.server (sym c.next_pending.ensures.some ∙ c.loop-packet-test.false))
