use Rattle.std.proofs.Common.{ap, subst, ◌∙◌}
use Rattle.std.specs.Prelude.{OnOk, OnErr}
use Rattle.std.specs.Io.KnownBytes.{Appends}
use Rattle.octet_io.specs.Number.{Octets}
use Rattle.gatt_subs.specs.RowsText.{text_by_parts, rows_text}
use Rattle.octet_io.specs.Stream.{WritesFront}
use Rattle.gatt_subs.proofs.Writing.{text_of_parts}
use Rattle.gatt_subs.proofs.rows.Rows.text.Goals as goal

pub returns-clause-ok : goal.returns-clause-ok
returns-clause-ok g c =
    let held = c.self.inside in
    let is =
    (λ i. text_by_parts (c.deref.ensures.value i) (c.deref-2.ensures.value i) held.unfitted)
    ∙ text_of_parts (record { peers = held.peers.items; bonds = held.bonds.items; unfitted = held.unfitted })
    ∙ ap rows_text c.self.view_is in
    subst (λ (octets : Octets). OnOk c.write_rows.result (Appends (g.W.Sink.contents c.args.sink.now) (g.W.Sink.contents c.write_rows.new.sink) octets)) is
    c.write_rows.ensures.ok

pub returns-clause-front : goal.returns-clause-front
returns-clause-front g c =
    let held = c.self.inside in
    let is =
    (λ i. text_by_parts (c.deref.ensures.value i) (c.deref-2.ensures.value i) held.unfitted)
    ∙ text_of_parts (record { peers = held.peers.items; bonds = held.bonds.items; unfitted = held.unfitted })
    ∙ ap rows_text c.self.view_is in
    subst (λ (octets : Octets). OnErr c.write_rows.result (WritesFront octets (g.W.Sink.contents c.args.sink.now) (g.W.Sink.contents c.write_rows.new.sink))) is
    c.write_rows.ensures.front
