use Rattle.std.proofs.Common.{◌≤◌, ◌++◌, take, drop, ap, ◌∙◌, arith}
use Rattle.octet_io.specs.Number.{Octets}
use Rattle.le_h4.proofs.Blocks.{front_of_block}
use Rattle.le_h4.proofs.packet_buf.copy_front.Goals as goal

pub returns-in-Some-first_chunk_mut-clause-front : goal.returns-in-Some-first_chunk_mut-clause-front
returns-in-Some-first_chunk_mut-clause-front c =
    let few : c.args.count ≤ 32 = omega (arith, c.if-count-le-BLOCK.true) in
    ap (λ (copied : Octets). take c.args.count (copied ++ drop 32 c.args.out.now)) c.in-Some.ensures.cases.same
    ∙ front_of_block c.args.count 32 c.args.octets.now (drop 32 c.args.out.now) few c.in-Some.ensures.cases.enough
