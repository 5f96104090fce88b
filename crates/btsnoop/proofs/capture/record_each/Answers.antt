use Rattle.std.proofs.Common.{subst, sym}
use Rattle.std.specs.Io.KnownBytes.{Appends}
use Rattle.octet_io.proofs.Writing.{counts_none}
use Rattle.octet_io.specs.Number.{Octets}
use Rattle.octet_io.specs.Stream.{WritesFront}
use Rattle.btsnoop.specs.Record.{record_of}
use Rattle.btsnoop.proofs.Capturing.{SoFar, so_far-recorded, captures_front, captures_up_to}
use Rattle.btsnoop.proofs.capture.record_each.Goals as goal

pub packets-preserved-in-Ok : goal.packets-preserved-in-Ok
packets-preserved-in-Ok g c =
    let appended : Appends (g.C.Sink.contents c.packets.sink) (g.C.Sink.contents c.write_record.new.sink)
    (record_of c.args.direction c.args.time c.packets.begun) =
    subst (λ (packet : Octets). Appends (g.C.Sink.contents c.packets.sink) (g.C.Sink.contents c.write_record.new.sink)
    (record_of c.args.direction c.args.time packet))
    c.as_slice.ensures.octets c.in-Ok.ensures.ok in
    record {
      so_far =
          subst (λ (begun : Octets). SoFar c.args.direction c.args.time c.args.begun.now c.args.octets.now begun c.packets.rest.now
          (g.C.Sink.contents c.args.sink.now) (g.C.Sink.contents c.write_record.new.sink))
          (sym c.clear.ensures)
          (so_far-recorded _ _ _ _ _ _ _ _ _ c.packets.invariant.so_far c.in-Whole.ensures appended);
      failures = counts_none _ _ _ c.packets.invariant.failures c.in-Ok.ensures.failures;
    }

pub returns-in-Err-clause-captured : goal.returns-in-Err-clause-captured
returns-in-Err-clause-captured g c =
    let front : WritesFront (record_of c.args.direction c.args.time c.packets.begun) (g.C.Sink.contents c.packets.sink)
    (g.C.Sink.contents c.write_record.new.sink) =
    subst (λ (packet : Octets). WritesFront (record_of c.args.direction c.args.time packet) (g.C.Sink.contents c.packets.sink)
    (g.C.Sink.contents c.write_record.new.sink))
    c.as_slice.ensures.octets c.in-Err.ensures.front in
    captures_front _ _ _ _ _ _ _ _ _ c.packets.invariant.so_far c.in-Whole.ensures front

pub returns-in-Lost-clause-captured : goal.returns-in-Lost-clause-captured
returns-in-Lost-clause-captured g c = captures_up_to _ _ _ _ _ _ _ _ c.packets.invariant.so_far c.in-Lost.ensures
