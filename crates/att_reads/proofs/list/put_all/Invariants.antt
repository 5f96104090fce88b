use Rattle.std.proofs.Common.{◌≡◌, ◌+◌, ◌*◌, length, take, drop}
use Rattle.std.specs.Prelude.{map}
use Rattle.att_pdu.specs.PduBuf.{contents, mtu_of, IsSameBuffer}
use Rattle.att_reads.specs.List.{candidate_of}
use Rattle.att_reads.specs.Listing.{with_listed}
use Rattle.att_reads.proofs.list.put_all.Given as goal

-- what stands before the place, and the attributes that are left, lead to the same list
abbrev pub invariant-loop-handle : goal.invariant-loop-handle
invariant-loop-handle l =
    let mtu = mtu_of l.fn.out in
    let candidate = candidate_of l.listing l.reader.table.now l.reader.row.now l.reader.standing.now mtu in
    record {
      same : IsSameBuffer l.fn.out l.out;
      room : l.place + l.size * length (drop l.handle-index l.handles) ≡ length (contents l.out);
      listed :
          with_listed mtu l.size (take l.place (contents l.out)) (map candidate (drop l.handle-index l.handles))
          ≡ with_listed mtu l.size (take (2 + l.size) (contents l.fn.out)) (map candidate l.handles);
    }
