use Rattle.std.proofs.Common.{◌≡◌, length, take, drop, get_or, refl, sym, ap, subst, ◌∙◌, ◌+◌, ◌≤◌, arith}
use Rattle.att_policy.specs.declared.policy.Access.TheVariants.{Write}
use Rattle.att_writes.specs.Applied.{stored_in, after_entry}
use Rattle.att_writes.specs.Entry.{Entry}
use Rattle.att_writes.specs.Fault.{entry_fault}
use Rattle.att_writes.specs.Queue.{entries_in}
use Rattle.att_writes.specs.Sizes.{size_after}
use Rattle.att_writes.proofs.Laid.{no_place, entry_at, part_within, sizes_left}
use Rattle.att_writes.proofs.Reached.{IsReached, begin, judged_at, refused_at, finished_at}
use Rattle.att_writes.proofs.execution.first_refused.Goals as goal

pub loop-index-init : goal.loop-index-init
loop-index-init c = record {
  sizes = c.requires;
  reached = λ row. let stored = stored_in c.args.table.now row in
      (stored, begin Write c.args.table.now.attributes c.args.standing.now stored (entries_in c.args.places.now c.args.octets.now));
}

pub split_at-requires : goal.split_at-requires
split_at-requires c =
    let fits = part_within c.args.places.now c.loop-index.index c.loop-index.rest.now c.loop-index-test.true c.loop-index.invariant.sizes in
    omega (arith, fits, c.from.ensures)

pub returns-in-Some-clause-refused : goal.returns-in-Some-clause-refused
returns-in-Some-clause-refused c = λ row.
    let table = c.args.table.now in
    let places = c.args.places.now in
    let i = c.loop-index.index in
    let place = get_or places i no_place in
    let reached = c.loop-index.invariant.reached row in
    let part = c.split_at.ensures.front ∙ ap (λ n. take n c.loop-index.rest.now) c.from.ensures in
    let entry = c.entry.ensures ∙ ap (λ of. record { handle = place.handle; offset = place.offset; part = of }) part in
    let judged = λ (of : Entry). entry_fault Write table.attributes c.args.standing.now (size_after table.attributes table.values of.handle (take i places)) of
    in
    refused_at Write table.attributes c.args.standing.now (stored_in table row) (entries_in places c.args.octets.now) places i c.loop-index.rest.now reached.0
    c.in-Some.code
    c.loop-index-test.true reached.1 (ap judged (sym entry) ∙ sym c.fault_of.ensures.fault ∙ c.in-Some.is)

pub loop-index-preserved : goal.loop-index-preserved
loop-index-preserved c =
    let table = c.args.table.now in
    let places = c.args.places.now in
    let i = c.loop-index.index in
    let place = get_or places i no_place in
    let octets = c.loop-index.rest.now in
    let part = c.split_at.ensures.front ∙ ap (λ n. take n octets) c.from.ensures in
    let back = c.split_at.ensures.back ∙ ap (λ n. drop n octets) c.from.ensures in
    let entry = c.entry.ensures ∙ ap (λ of. record { handle = place.handle; offset = place.offset; part = of }) part in
    let judged = λ (of : Entry). entry_fault Write table.attributes c.args.standing.now (size_after table.attributes table.values of.handle (take i places)) of
    in
    let value = c.in_default.ensures.value refl in
    let same : c.entry.result.handle ≡ place.handle = ap (λ (of : Entry). of.handle) c.entry.ensures in
    let within : place.handle ≤ length table.values = omega (arith, value, same) in
    record {
      sizes = sizes_left places i octets c.loop-index-test.true c.loop-index.invariant.sizes ∙ ap length (sym back);
      reached = λ row.
          let stored = stored_in table row in
          let all = entries_in places c.args.octets.now in
          let reached = c.loop-index.invariant.reached row in
          let by = after_entry table.attributes reached.0 (entry_at places i octets) in
          let more =
          judged_at Write table.attributes c.args.standing.now stored all places i octets reached.0 c.loop-index-test.true c.loop-index.invariant.sizes
          reached.1 within
          (ap judged (sym entry) ∙ sym c.fault_of.ensures.fault ∙ c.in_default.is) in (
            by,
            subst (λ left. IsReached Write table.attributes c.args.standing.now stored all (entries_in (drop (i + 1) places) left) (take (i + 1) places) by)
                (sym back) more,
          );
    }

pub returns-clause-written : goal.returns-clause-written
returns-clause-written c = λ is row.
    let reached = c.loop-index.invariant.reached row in
    (finished_at Write c.args.table.now.attributes c.args.standing.now (stored_in c.args.table.now row) (entries_in c.args.places.now c.args.octets.now)
    c.args.places.now c.loop-index.index c.loop-index.rest.now _ reached.0
    (omega arith) reached.1).0

pub returns-clause-fits : goal.returns-clause-fits
returns-clause-fits c = λ is row.
    let reached = c.loop-index.invariant.reached row in
    (finished_at Write c.args.table.now.attributes c.args.standing.now (stored_in c.args.table.now row) (entries_in c.args.places.now c.args.octets.now)
    c.args.places.now c.loop-index.index c.loop-index.rest.now _ reached.0
    (omega arith) reached.1).1
