use Rattle.std.proofs.Common.{◌≡◌, ◌+◌, ◌-◌, ◌*◌, ◌/◌, ◌∷◌, length, take, drop, get_or, map, ap, sym, ◌∙◌, arith, length-take}
use Rattle.std.specs.Prelude.{min}
use Rattle.att_pdu.specs.PduBuf.{contents, mtu_of}
use Rattle.att_pdu.specs.Response.{element_octets, ErrorResponse, sent}
use Rattle.att_reads.specs.Access.{value_for}
use Rattle.att_reads.specs.List.{listing_request, head_of, cut_of, element_of, candidate_of, list_answer}
use Rattle.att_reads.specs.Listing.{with_listed}
use Rattle.att_reads.proofs.Entries.{first_refused, front_fits, head_above, list_of_first}
use Rattle.att_reads.proofs.Listed.{listed_fitting}
use Rattle.att_reads.proofs.Lists.{first_and_rest}
use Rattle.att_reads.proofs.list.answer.Goals as goal

pub returns-in-Ok-clause-answer : goal.returns-in-Ok-clause-answer
returns-in-Ok-clause-answer c =
    let reader = c.args.reader in
    let table = reader.table.now in
    let row = reader.row.now in
    let standing = reader.standing.now in
    let listing = c.args.listing in
    let mtu = mtu_of c.args.out.now in
    let handles = c.args.handles.now in
    let first = get_or handles 0 0 in
    let rest = take (length handles - 1) (drop 1 handles) in
    let at : handles ≡ first ∷ rest = first_and_rest handles 0 c.in-len1-up.len_at_least in
    let cut : c.cut-cut.result ≡ cut_of listing mtu = c.cut-cut.ensures ∙ ap (cut_of listing) c.mtu.ensures.mtu in
    let front : c.front-front.result.now ≡ take (cut_of listing mtu) (value_for table row first) =
    c.front-front.ensures ∙ ap (λ n. take n c.in-Ok.value.now) cut ∙ ap (take (cut_of listing mtu)) c.in-Ok.ensures.value in
    let size : c.from.result + length c.front-front.result.now ≡ head_of listing + length c.front-front.result.now =
    ap (λ n. n + length c.front-front.result.now) (c.from.ensures ∙ c.head.ensures) in
    let begun = take (2 + (c.from.result + length c.front-front.result.now)) (contents c.begin.new.out) in
    let first_is : begun ≡ (listing_request listing + 1) ∷ (head_of listing + length c.front-front.result.now)
    ∷ element_octets (element_of listing table first c.front-front.result.now) =
    ap (λ n. take (2 + n) (contents c.begin.new.out)) size ∙ c.begin.ensures.begun in
    let held : length begun ≡ 2 + (c.from.result + length c.front-front.result.now) =
    let all = length-take (2 + (c.from.result + length c.front-front.result.now)) (contents c.begin.new.out) in
    omega (arith, all, c.begin.ensures.size, c.resize.ensures.size) in
    let count : c.fitting-more.result ≡ min (length rest) ((mtu - length begun) / (c.from.result + length c.front-front.result.now)) =
    c.fitting-more.ensures.count
    ∙ ap (λ n. min (length rest) ((n - (2 + (c.from.result + length c.front-front.result.now))) / (c.from.result + length c.front-front.result.now)))
    c.mtu-in-Ok.ensures.mtu
    ∙ ap (λ n. min (length rest) ((mtu - n) / (c.from.result + length c.front-front.result.now))) (sym held) in
    c.put_all.ensures.listed
    ∙ ap (λ n. with_listed n (c.from.result + length c.front-front.result.now) begun
    (map (candidate_of listing table row standing n) (take c.fitting-more.result rest)))
    (c.begin.ensures.same_buffer.mtu ∙ c.resize.ensures.same_buffer.mtu)
    ∙ listed_fitting (candidate_of listing table row standing mtu) mtu (c.from.result + length c.front-front.result.now) c.fitting-more.result begun rest count
    ∙ ap (λ n. with_listed mtu n begun (map (candidate_of listing table row standing mtu) rest)) size
    ∙ list_of_first listing table row standing mtu c.args.start first rest c.front-front.result.now begun
    c.in-Ok.ensures.permitted c.args.out.now.least front first_is
    ∙ ap (λ hs. sent (list_answer listing table row standing mtu c.args.start hs)) (sym at)

pub overflow_sub-mtu : goal.overflow_sub-mtu
overflow_sub-mtu c =
    let fits =
    front_fits c.args.listing c.mtu.result c.cut-cut.result c.from.result c.in-Ok.value.now c.front-front.result.now c.mtu.ensures.least c.cut-cut.ensures
    c.front-front.ensures
    (c.from.ensures ∙ c.head.ensures) in
    omega (arith, fits, c.mtu.ensures.mtu, c.mtu-in-Ok.ensures.mtu)

pub resize-requires : goal.resize-requires
resize-requires c =
    let fits =
    front_fits c.args.listing c.mtu.result c.cut-cut.result c.from.result c.in-Ok.value.now c.front-front.result.now c.mtu.ensures.least c.cut-cut.ensures
    c.front-front.ensures
    (c.from.ensures ∙ c.head.ensures) in
    omega (arith, fits, c.fitting-more.ensures.fits, c.mtu.ensures.mtu, c.mtu-in-Ok.ensures.mtu)

pub begin-requires-clause-room : goal.begin-requires-clause-room
begin-requires-clause-room c = omega (arith, c.resize.ensures.size, c.from.ensures, c.head.ensures)

pub put_all-requires-clause-room : goal.put_all-requires-clause-room
put_all-requires-clause-room c =
    let size = c.from.result + length c.front-front.result.now in
    let rest = take (length c.args.handles.now - 1) (drop 1 c.args.handles.now) in
    let more = c.fitting-more.result in
    let taken = length-take more rest in
    let all : length (take more rest) ≡ more = omega (arith, taken, c.fitting-more.ensures.count) in
    omega (arith, ap (λ n. size * n) all, c.resize.ensures.size, c.begin.ensures.size)

pub overflow_cast-size : goal.overflow_cast-size
overflow_cast-size c =
    let fits =
    front_fits c.args.listing c.mtu.result c.cut-cut.result c.from.result c.in-Ok.value.now c.front-front.result.now c.mtu.ensures.least c.cut-cut.ensures
    c.front-front.ensures
    (c.from.ensures ∙ c.head.ensures) in
    omega (arith, fits, c.mtu.ensures.most)

pub overflow_cast-size-in-Ok : goal.overflow_cast-size-in-Ok
overflow_cast-size-in-Ok c =
    let fits =
    front_fits c.args.listing c.mtu.result c.cut-cut.result c.from.result c.in-Ok.value.now c.front-front.result.now c.mtu.ensures.least c.cut-cut.ensures
    c.front-front.ensures
    (c.from.ensures ∙ c.head.ensures) in
    omega (arith, fits, c.mtu.ensures.most)

pub fitting-more-requires : goal.fitting-more-requires
fitting-more-requires c =
    let above = head_above c.args.listing in
    omega (arith, above, c.from.ensures, c.head.ensures)

pub put_all-requires-clause-size : goal.put_all-requires-clause-size
put_all-requires-clause-size c =
    let above = head_above c.args.listing in
    omega (arith, above, c.from.ensures, c.head.ensures)

pub returns-in-Err-clause-answer : goal.returns-in-Err-clause-answer
returns-in-Err-clause-answer c =
    let reader = c.args.reader in
    let mtu = mtu_of c.args.out.now in
    let handles = c.args.handles.now in
    let first = get_or handles 0 0 in
    let rest = take (length handles - 1) (drop 1 handles) in
    c.error-in-Err.ensures.error
    ∙ ap (λ request. sent (ErrorResponse request first c.in-Err.code)) c.request-in-Err.ensures
    ∙ first_refused c.args.listing reader.table.now reader.row.now reader.standing.now mtu c.args.start first rest c.in-Err.code c.in-Err.ensures.refused
    ∙ ap (λ hs. sent (list_answer c.args.listing reader.table.now reader.row.now reader.standing.now mtu c.args.start hs))
    (sym (first_and_rest handles 0 c.in-len1-up.len_at_least))

pub overflow_mul-size : goal.overflow_mul-size
overflow_mul-size c = omega (arith, c.fitting-more.ensures.fits, c.mtu-in-Ok.ensures.most)

pub overflow_add-size-in-Ok-3 : goal.overflow_add-size-in-Ok-3
overflow_add-size-in-Ok-3 c =
    let fits =
    front_fits c.args.listing c.mtu.result c.cut-cut.result c.from.result c.in-Ok.value.now c.front-front.result.now c.mtu.ensures.least c.cut-cut.ensures
    c.front-front.ensures
    (c.from.ensures ∙ c.head.ensures) in
    omega (arith, fits, c.fitting-more.ensures.fits, c.mtu.ensures.mtu, c.mtu-in-Ok.ensures.mtu, c.mtu-in-Ok.ensures.most)
