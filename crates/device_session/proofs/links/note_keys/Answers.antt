use Rattle.std.proofs.Common.{◌<◌, length, set, ap, ◌∙◌, arith}
use Rattle.std.proofs.lemmas.List.Edits.{map_over_more}
use Rattle.device_session.specs.declared.links.Link.{Link}
use Rattle.device_session.specs.Links.{key_noted}
use Rattle.device_session.proofs.links.note_keys.Goals as goal

pub loop-place-preserved : goal.loop-place-preserved
loop-place-preserved c =
    let link = c.index_mut.result.now in
    let links = c.args.links.now.items in
    let place = c.loop-place.place in
    let within : place < length links = omega (arith, c.loop-place-test.true, c.args.links.now.ok.0) in
    ap (λ (link : Link). set c.loop-place.links.items place link) c.note_key.ensures
    ∙ map_over_more (key_noted c.args.handle c.args.has_key) links c.loop-place.links.items place link within c.loop-place.invariant c.index_mut.ensures.value
