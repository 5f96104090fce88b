use Rattle.std.proofs.Common.{◌≡◌, drop}
use Rattle.std.specs.Prelude.{filter, ◌||◌}
use Rattle.std.specs.List.{list_any}
use Rattle.att_pdu.specs.PduBuf.{contents, mtu_of, IsSameBuffer}
use Rattle.att_reads.specs.Answer.{is_match, with_groups}
use Rattle.att_reads.proofs.find.append_matches.Given as goal

-- what stands, and the attributes that are left, lead to the same groups
abbrev pub invariant-loop-handle : goal.invariant-loop-handle
invariant-loop-handle l =
    let test = is_match l.reader.table.now l.reader.row.now l.reader.standing.now l.value in
    let left = drop l.handle-index l.handles in
    record {
      same : IsSameBuffer l.fn.out l.out;
      any : (l.found || list_any test left) ≡ list_any test l.handles;
      groups :
          with_groups l.reader.table.now (mtu_of l.fn.out) (contents l.out) (filter test left)
          ≡ with_groups l.reader.table.now (mtu_of l.fn.out) (contents l.fn.out) (filter test l.handles);
    }
