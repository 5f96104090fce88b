use Rattle.std.proofs.Common.{◌≡◌, ◌+◌, ◌-◌, [], ◌∷◌, ◌++◌, length, take, drop, get_or, map, ap, sym, ◌∙◌, rules}
use Rattle.std.specs.Int.{w16, from_le_bytes}
use Rattle.att_numbers.specs.declared.opcode.TheConstants.{READ_MULTIPLE_RESPONSE}
use Rattle.att_pdu.specs.PduBuf.{contents, mtu_of}
use Rattle.att_reads.specs.Access.{value_for}
use Rattle.att_reads.proofs.Lists.{drop_next}
use Rattle.att_reads.proofs.Multiple.{filled, finished, begun, more}
use Rattle.att_reads.proofs.value.read_multiple.Goals as goal

pub loop-octets-init : goal.loop-octets-init
loop-octets-init c =
    let reader = c.args.reader in
    let mtu = mtu_of c.args.out.now in
    let handles = map (from_le_bytes w16) c.args.handles.now in
    let begins : contents c.replace.new.self ≡ READ_MULTIPLE_RESPONSE ∷ [] = search rules in
    record {
      same = c.replace.ensures.same_buffer;
      answer =
          ap (λ octets. finished reader.table.now reader.row.now reader.standing.now mtu octets handles) begins
          ∙ begun reader.table.now reader.row.now reader.standing.now mtu handles;
    }

pub loop-octets-preserved : goal.loop-octets-preserved
loop-octets-preserved c =
    let reader = c.args.reader in
    let table = reader.table.now in
    let row = reader.row.now in
    let standing = reader.standing.now in
    let mtu = mtu_of c.args.out.now in
    let out = c.loop-octets.out in
    let handle = c.from_le_bytes-handle.result in
    let next = c.loop-octets.octets-index + 1 in
    let left = map (from_le_bytes w16) (drop next c.args.handles.now) in
    let at : drop c.loop-octets.octets-index c.args.handles.now ≡ get_or c.args.handles.now c.loop-octets.octets-index [] ∷ drop next c.args.handles.now =
    drop_next c.args.handles.now c.loop-octets.octets-index [] c.loop-octets-test.true in
    let value : c.in-Ok.value.now ≡ value_for table row handle = c.in-Ok.ensures.value in
    let appended : contents c.front.new.self ≡ filled mtu (contents out) (value_for table row handle) =
    c.front.ensures.appended
    ∙ ap (λ most. contents out ++ take (most - length (contents out)) c.in-Ok.value.now) c.loop-octets.invariant.same.mtu
    ∙ ap (filled mtu (contents out)) value in
    let handles : map (from_le_bytes w16) (drop c.loop-octets.octets-index c.args.handles.now) ≡ handle ∷ left =
    ap (map (from_le_bytes w16)) at ∙ ap (λ first. first ∷ left) (sym c.from_le_bytes-handle.ensures) in
    record {
      same = record {
        place = c.front.ensures.same_buffer.place ∙ c.loop-octets.invariant.same.place;
        end = c.front.ensures.same_buffer.end ∙ c.loop-octets.invariant.same.end;
        mtu = c.front.ensures.same_buffer.mtu ∙ c.loop-octets.invariant.same.mtu;
      };
      answer =
          ap (λ octets. finished table row standing mtu octets left) appended
          ∙ more table row standing mtu (contents out) handle left c.in-Ok.ensures.permitted
          ∙ ap (finished table row standing mtu (contents out)) (sym handles)
          ∙ c.loop-octets.invariant.answer;
    }
