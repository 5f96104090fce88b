use Rattle.std.proofs.Common.{◌≡◌, ◌-◌, ◌+◌, ◌*◌, ◌/◌, ◌≤◌, [], ◌∷◌, length, take, ap, ◌∙◌, arith, length-take}
use Rattle.std.specs.Prelude.{min}
use Rattle.att_numbers.specs.declared.opcode.TheConstants.{FIND_INFORMATION_RESPONSE}
use Rattle.att_pdu.specs.PduBuf.{mtu_of}
use Rattle.att_pdu.proofs.Lent.{lent_front}
use Rattle.att_reads.specs.Answer.{information_of}
use Rattle.att_reads.proofs.Listed.{listed_in_room}
use Rattle.att_reads.proofs.find.list.Goals as goal

pub returns-clause-listed : goal.returns-clause-listed
returns-clause-listed c =
    let mtu = mtu_of c.args.out.now in
    let size = c.args.size in
    let attributes = c.args.attributes.now in
    let count = c.fitting-count.result in
    let begun = FIND_INFORMATION_RESPONSE ∷ c.args.format ∷ [] in
    let end = c.put_list-end.result in
    let lent = c.octets_mut.result.now in
    let count_is : count ≡ min (length attributes) ((mtu - length begun) / size) =
    c.fitting-count.ensures.count
    ∙ ap (λ n. min (length attributes) ((n - 2) / size)) c.mtu.ensures.mtu in
    let resized = c.resize.ensures.size in
    let within = c.octets_mut.ensures.within in
    let held = c.put_list-end.ensures.held in
    let ends = c.put_list-end.ensures.within in
    let taken = length-take count attributes in
    let all : length (take count attributes) ≡ count = omega (arith, taken, count_is) in
    let product = ap (λ n. size * n) all in
    let enough : 2 + size * count ≤ length lent = omega (arith, resized, within) in
    c.truncate.ensures.ended
    ∙ lent_front c.resize.new.self c.put_list-end.new.octets end (omega (arith, ends, product, resized)) (omega (arith, ends, product, resized, within, held))
    ∙ c.put_list-end.ensures.listed
    ∙ listed_in_room information_of (length lent) mtu size count begun attributes c.requires.size enough count_is
