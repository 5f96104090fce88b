use Rattle.std.proofs.Common.{◌≡◌, [], map, ap, ◌+◌, ◌*◌, length, take, drop, sym, ◌∙◌, arith}
use Rattle.std.proofs.lemmas.List.{drop_all}
use Rattle.att_reads.specs.Answer.{information_of}
use Rattle.att_reads.specs.Listing.{with_listed}
use Rattle.att_reads.proofs.Listed.{listed_end}
use Rattle.att_reads.proofs.Information.{types_next, types_stop}
use Rattle.att_reads.proofs.Lists.{room_next}
use Rattle.att_reads.proofs.find.put_all.Goals as goal

pub returns-then-not-put_next-clause-listed :
    goal.returns-then-not-put_next-clause-listed
returns-then-not-put_next-clause-listed c =
    types_stop (length c.loop-attr.octets) (length c.args.octets.now) c.args.size (take c.loop-attr.place c.loop-attr.octets)
    (take c.loop-attr.place c.put_next.new.octets) c.args.attributes.now c.loop-attr.attr-index _
    c.loop-attr-test.true c.requires.size
    c.loop-attr.invariant.held c.if-not-put_next.ensures.kept
    ∙ c.loop-attr.invariant.listed

pub put_next-requires : goal.put_next-requires
put_next-requires c =
    let room =
    room_next c.args.attributes.now c.loop-attr.attr-index c.loop-attr.place c.args.size (2 + c.args.size * length c.args.attributes.now)
    c.loop-attr-test.true c.loop-attr.invariant.room in
    let enough = c.requires.room in
    let held = c.loop-attr.invariant.held in
    omega (arith, room, enough, held)

pub loop-attr-preserved : goal.loop-attr-preserved
loop-attr-preserved c = record {
  held = c.put_next.ensures.held ∙ c.loop-attr.invariant.held;
  room = room_next c.args.attributes.now c.loop-attr.attr-index c.loop-attr.place c.args.size (2 + c.args.size * length c.args.attributes.now)
      c.loop-attr-test.true c.loop-attr.invariant.room;
  listed =
      types_next (length c.loop-attr.octets) (length c.args.octets.now) c.args.size (take c.loop-attr.place c.loop-attr.octets)
      (take (c.loop-attr.place + c.args.size) c.put_next.new.octets) c.args.attributes.now c.loop-attr.attr-index _
      c.loop-attr-test.true c.requires.size
      c.loop-attr.invariant.held c.if-not-put_next.ensures.put
      ∙ c.loop-attr.invariant.listed;
}

pub returns-clause-listed : goal.returns-clause-listed
returns-clause-listed c =
    let octets = take c.loop-attr.place c.loop-attr.octets in
    let none : drop c.loop-attr.attr-index c.args.attributes.now ≡ [] =
    drop_all c.loop-attr.attr-index c.args.attributes.now (omega (arith, c.loop-attr-test.false)) in
    sym (listed_end (length c.args.octets.now) c.args.size octets)
    ∙ ap (λ attributes. with_listed (length c.args.octets.now) c.args.size octets (map information_of attributes)) (sym none)
    ∙ c.loop-attr.invariant.listed
