use Rattle.std.proofs.Common.{◌∙◌, ap, sym}
use Rattle.std.specs.Prelude.{sum_by}
use Rattle.att_values.specs.Cell.{Cell}
use Rattle.att_values.proofs.InPlace.{sum_rooms}
use Rattle.att_values.proofs.flat_store.FlatStore.octets.Goals as goal

pub returns : goal.returns
returns c =
    let rooms = sum_rooms c.self.inside.octets.items c.self.inside.places.items 0 _ c.self.invariant in
    c.len.ensures ∙ sym rooms ∙ ap (sum_by (λ (cell : Cell). cell.room)) c.self.view_is
