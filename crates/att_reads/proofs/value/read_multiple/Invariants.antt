use Rattle.std.proofs.Common.{◌≡◌, drop}
use Rattle.std.specs.Prelude.{map}
use Rattle.std.specs.Int.{w16, from_le_bytes}
use Rattle.att_pdu.specs.PduBuf.{contents, mtu_of, IsSameBuffer}
use Rattle.att_pdu.specs.Response.{sent}
use Rattle.att_reads.specs.Answer.{multiple_answer}
use Rattle.att_reads.proofs.Multiple.{finished}
use Rattle.att_reads.proofs.value.read_multiple.Given as goal

-- what stands, and the handles that are left, lead to the answer
abbrev pub invariant-loop-octets : goal.invariant-loop-octets
invariant-loop-octets l = record {
  same : IsSameBuffer l.fn.out l.out;
  answer :
      finished l.reader.table.now l.reader.row.now l.reader.standing.now (mtu_of l.fn.out) (contents l.out)
      (map (from_le_bytes w16) (drop l.octets-index l.handles))
      ≡ sent (multiple_answer l.reader.table.now l.reader.row.now l.reader.standing.now (mtu_of l.fn.out) (map (from_le_bytes w16) l.handles));
}
