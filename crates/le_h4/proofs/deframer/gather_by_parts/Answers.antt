use Rattle.std.proofs.Common.{◌≡◌, ℕ, ◌<◌, ◌≤◌, List, [], length, sym, ◌∙◌, ap, subst, arith}
use Rattle.std.proofs.lemmas.Grind.{common_steps}
use Rattle.le_h4.specs.Progress.{progress_of}
use Rattle.le_h4.specs.declared.progress.Progress.TheVariants.{Lacks, Whole, Long, Desync}
use Rattle.le_h4.proofs.SoFar.{SoFar, so_far-start, so_far-long, gathers_packet, gathers_all, gathers_lost, skipped, idle_after, filled}
use Rattle.le_h4.proofs.deframer.gather_by_parts.Goals as goal

pub packets-init : goal.packets-init
packets-init c = so_far-start _ _ _ c.requires.fits c.requires.unfinished c.requires.passes

pub returns-in-Whole : goal.returns-in-Whole
returns-in-Whole c =
    let at : progress_of c.packets.gathered ≡ Whole = ap progress_of (sym c.as_slice.ensures.value) ∙ sym c.progress_at.ensures.exact ∙ c.in-Whole.is in
    let fits : length c.packets.gathered ≤ 1029 = omega (arith, ap length c.as_slice.ensures.value, c.as_slice.ensures.fits) in
    record { gathers = gathers_packet _ _ _ _ _ _ (skipped _ _ _ _ _ _ _ _ c.packets.invariant c.skip-rest.ensures.left c.skip-rest.ensures.rest) at fits }

pub returns-in-Desync : goal.returns-in-Desync
returns-in-Desync c =
    let at : progress_of c.packets.gathered ≡ Desync c.in-Desync.indicator =
    ap progress_of (sym c.as_slice.ensures.value) ∙ sym c.progress_at.ensures.exact ∙ c.in-Desync.is in
    record { gathers = gathers_lost _ _ _ _ _ _ (skipped _ _ _ _ _ _ _ _ c.packets.invariant c.skip-rest.ensures.left c.skip-rest.ensures.rest) _ at }

pub packets-preserved-in-Long : goal.packets-preserved-in-Long
packets-preserved-in-Long c =
    let at : progress_of c.packets.gathered ≡ Long c.in-Long.missing =
    ap progress_of (sym c.as_slice.ensures.value) ∙ sym c.progress_at.ensures.exact ∙ c.in-Long.is in
    let P : List ℕ → Type 0 = λ xs. SoFar c.args.skipping.now c.args.gathered.now c.args.octets.now c.in-Long.missing xs c.skip-rest.result.now in
    subst P (sym c.clear.ensures)
    (so_far-long _ _ _ _ _ _ _ (skipped _ _ _ _ _ _ _ _ c.packets.invariant c.skip-rest.ensures.left c.skip-rest.ensures.rest) at)

pub returns-in-Lacks : goal.returns-in-Lacks
returns-in-Lacks c =
    let at : progress_of c.packets.gathered ≡ Lacks c.in-Lacks.field-0 =
    ap progress_of (sym c.as_slice.ensures.value) ∙ sym c.progress_at.ensures.exact ∙ c.in-Lacks.is in
    let ended : c.skip-rest.result.now ≡ [] = grind (arith, common_steps) in
    record { gathers = gathers_all _ _ _ _ _ _ (skipped _ _ _ _ _ _ _ _ c.packets.invariant c.skip-rest.ensures.left c.skip-rest.ensures.rest) _ at ended }

pub packets-preserved : goal.packets-preserved
packets-preserved c =
    let at : progress_of c.packets.gathered ≡ Lacks c.in-Lacks.field-0 =
    ap progress_of (sym c.as_slice.ensures.value) ∙ sym c.progress_at.ensures.exact ∙ c.in-Lacks.is in
    let some : 0 < length c.skip-rest.result.now = grind (arith, common_steps) in
    filled _ _ _ _ _ _ _ _ _ (skipped _ _ _ _ _ _ _ _ c.packets.invariant c.skip-rest.ensures.left c.skip-rest.ensures.rest) at
    (idle_after _ _ _ _ c.skip-rest.ensures.left c.skip-rest.ensures.rest some) c.fill-rest.ensures.gathered c.fill-rest.ensures.rest
