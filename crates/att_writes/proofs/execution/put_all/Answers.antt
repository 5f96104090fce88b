use Rattle.std.proofs.Common.{◌≡◌, List, length, take, drop, get_or, sym, ap, subst, ◌∙◌, ◌+◌, arith}
use Rattle.att_attributes.specs.declared.attr.Attr.{Attr}
use Rattle.att_table.specs.ConfigRow.{IsRowOf}
use Rattle.att_writes.specs.Applied.{Stored, stored_in, after_entry}
use Rattle.att_writes.specs.Entry.{Entry, entry_of}
use Rattle.att_writes.specs.Fits.{EntriesFit, EntryFits, after_all}
use Rattle.att_writes.specs.Queue.{entries_in}
use Rattle.att_writes.proofs.Laid.{no_place, entry_at, entries_left, part_within, sizes_left}
use Rattle.octet_io.specs.Number.{Octets}
use Rattle.att_writes.proofs.execution.put_all.Goals as goal

pub split_at-requires : goal.split_at-requires
split_at-requires c =
    let fits = part_within c.args.places.now c.loop-place.place-index c.loop-place.rest.now c.loop-place-test.true c.loop-place.invariant.sizes in
    omega (arith, fits, c.from.ensures)

pub put-requires-clause-fits : goal.put-requires-clause-fits
put-requires-clause-fits c =
    let attributes = c.args.table.now.attributes in
    let places = c.args.places.now in
    let i = c.loop-place.place-index in
    let place = get_or places i no_place in
    let octets = c.loop-place.rest.now in
    let by = stored_in c.loop-place.table c.loop-place.row in
    let part = c.split_at.ensures.front ∙ ap (λ n. take n octets) c.from.ensures in
    let entry = c.entry.ensures ∙ ap (λ of. record { handle = place.handle; offset = place.offset; part = of }) part in
    let fits = subst (λ (left : List Entry). EntriesFit attributes by left) (entries_left places i octets c.loop-place-test.true) c.loop-place.invariant.fits in
    subst (λ (of : List Attr). EntryFits of by (entry_of c.entry.result)) (sym c.loop-place.invariant.attributes)
    (subst (λ (of : Entry). EntryFits attributes by of) (sym entry) fits.0)

pub loop-place-preserved : goal.loop-place-preserved
loop-place-preserved c =
    let attributes = c.args.table.now.attributes in
    let places = c.args.places.now in
    let i = c.loop-place.place-index in
    let place = get_or places i no_place in
    let octets = c.loop-place.rest.now in
    let rest = c.split_at.result.1.now in
    let so-far = c.loop-place.invariant in
    let below = c.loop-place-test.true in
    let put = c.put.ensures in
    let by = stored_in c.loop-place.table c.loop-place.row in
    let part = c.split_at.ensures.front ∙ ap (λ n. take n octets) c.from.ensures in
    let back = c.split_at.ensures.back ∙ ap (λ n. drop n octets) c.from.ensures in
    let entry = c.entry.ensures ∙ ap (λ of. record { handle = place.handle; offset = place.offset; part = of }) part in
    let left = entries_left places i octets below in
    let after : Stored = after_entry attributes by (entry_at places i octets) in
    let stored : stored_in c.put.new.table c.put.new.row ≡ after =
    (λ i. record { values = put.values i; row = put.row i }) ∙ (λ i. after_entry (so-far.attributes i) by (entry i)) in
    let fits = subst (λ (of : List Entry). EntriesFit attributes by of) left so-far.fits in
    record {
      sizes = sizes_left places i octets below so-far.sizes ∙ ap (λ (of : Octets). length of) (sym back);
      attributes = put.attributes ∙ so-far.attributes;
      row = subst (λ (of : List Attr). IsRowOf of c.put.new.row) (put.attributes ∙ so-far.attributes) put.table;
      fits = subst (λ (of : Stored). EntriesFit attributes of (entries_in (drop (i + 1) places) rest)) (sym stored)
          (subst (λ (of : Octets). EntriesFit attributes after (entries_in (drop (i + 1) places) of)) (sym back) fits.1);
      after =
          ap (λ (of : Stored). after_all attributes of (entries_in (drop (i + 1) places) rest)) stored
          ∙ ap (λ (of : Octets). after_all attributes after (entries_in (drop (i + 1) places) of)) back
          ∙ sym (ap (λ (of : List Entry). after_all attributes by of) left)
          ∙ so-far.after;
    }
