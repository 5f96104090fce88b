use Rattle.std.proofs.Common.{◌≡◌, [], ◌+◌, ◌*◌, length, map, take, drop, get_or, ap, sym, subst, ◌∙◌, arith}
use Rattle.std.proofs.lemmas.List.{drop_all}
use Rattle.att_pdu.specs.PduBuf.{contents, mtu_of}
use Rattle.att_reads.specs.List.{candidate_of}
use Rattle.att_reads.specs.Listing.{with_listed, HasNext, HasNoNext}
use Rattle.att_reads.proofs.Listed.{listed_end, listed_next, listed_stop}
use Rattle.att_reads.proofs.Lists.{drop_next, room_end, room_next}
use Rattle.att_reads.proofs.list.put_all.Goals as goal

pub returns-then-not-put_next-clause-listed :
    goal.returns-then-not-put_next-clause-listed
returns-then-not-put_next-clause-listed c =
    let reader = c.args.reader in
    let mtu = mtu_of c.args.out.now in
    let candidate = candidate_of c.args.listing reader.table.now reader.row.now reader.standing.now in
    let place = c.loop-handle.place in
    let octets = take place (contents c.loop-handle.out) in
    let handle = get_or c.args.handles.now c.loop-handle.handle-index 0 in
    let at = drop_next c.args.handles.now c.loop-handle.handle-index 0 c.loop-handle-test.true in
    let none : HasNoNext mtu c.args.size (candidate mtu handle) octets (take place (contents c.put_next.new.out)) =
    subst (λ of. HasNoNext of c.args.size (candidate of handle) octets (take place (contents c.put_next.new.out))) c.loop-handle.invariant.same.mtu
    c.if-not-put_next.ensures.kept in
    c.truncate.ensures.ended
    ∙ listed_stop mtu c.args.size octets _ (candidate mtu handle) _ none c.requires.size
    ∙ ap (λ left. with_listed mtu c.args.size octets (map (candidate mtu) left)) (sym at)
    ∙ c.loop-handle.invariant.listed

pub put_next-requires-clause-room : goal.put_next-requires-clause-room
put_next-requires-clause-room c =
    let room =
    room_next c.args.handles.now c.loop-handle.handle-index c.loop-handle.place c.args.size (length (contents c.loop-handle.out)) c.loop-handle-test.true
    c.loop-handle.invariant.room in
    omega (arith, room)

pub loop-handle-preserved : goal.loop-handle-preserved
loop-handle-preserved c =
    let reader = c.args.reader in
    let mtu = mtu_of c.args.out.now in
    let candidate = candidate_of c.args.listing reader.table.now reader.row.now reader.standing.now in
    let place = c.loop-handle.place in
    let octets = take place (contents c.loop-handle.out) in
    let handle = get_or c.args.handles.now c.loop-handle.handle-index 0 in
    let at = drop_next c.args.handles.now c.loop-handle.handle-index 0 c.loop-handle-test.true in
    let next : HasNext mtu c.args.size (candidate mtu handle) octets (take (place + c.args.size) (contents c.put_next.new.out)) =
    subst (λ of. HasNext of c.args.size (candidate of handle) octets (take (place + c.args.size) (contents c.put_next.new.out)))
    c.loop-handle.invariant.same.mtu c.if-not-put_next.ensures.put in
    record {
      same = record {
        place = c.put_next.ensures.same_buffer.place ∙ c.loop-handle.invariant.same.place;
        end = c.put_next.ensures.same_buffer.end ∙ c.loop-handle.invariant.same.end;
        mtu = c.put_next.ensures.same_buffer.mtu ∙ c.loop-handle.invariant.same.mtu;
      };
      room = subst (λ held. place + c.args.size + c.args.size * length (drop (c.loop-handle.handle-index + 1) c.args.handles.now) ≡ held)
          (sym c.put_next.ensures.held)
          (room_next c.args.handles.now c.loop-handle.handle-index place c.args.size (length (contents c.loop-handle.out)) c.loop-handle-test.true
          c.loop-handle.invariant.room);
      listed =
          listed_next mtu c.args.size octets _ (candidate mtu handle) _ c.requires.size next
          ∙ ap (λ left. with_listed mtu c.args.size octets (map (candidate mtu) left)) (sym at)
          ∙ c.loop-handle.invariant.listed;
    }

pub returns-clause-listed : goal.returns-clause-listed
returns-clause-listed c =
    let reader = c.args.reader in
    let mtu = mtu_of c.args.out.now in
    let candidate = candidate_of c.args.listing reader.table.now reader.row.now reader.standing.now in
    let octets = contents c.loop-handle.out in
    let left = drop c.loop-handle.handle-index c.args.handles.now in
    let none : left ≡ [] = drop_all c.loop-handle.handle-index c.args.handles.now (omega (arith, c.loop-handle-test.false)) in
    let all : take c.loop-handle.place octets ≡ octets = room_end octets left c.loop-handle.place c.args.size none c.loop-handle.invariant.room in
    sym all
    ∙ sym (listed_end mtu c.args.size (take c.loop-handle.place octets))
    ∙ ap (λ handles. with_listed mtu c.args.size (take c.loop-handle.place octets) (map (candidate mtu) handles)) (sym none)
    ∙ c.loop-handle.invariant.listed
