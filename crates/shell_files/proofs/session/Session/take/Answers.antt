use Rattle.std.proofs.Common.{◌≡◌, ℕ, ◌+◌, ◌<◌, List, [], ◌∷◌, ◌++◌, length, take, drop, get_or, ap, sym, subst, ◌∙◌, arith, append_assoc}
use Rattle.std.proofs.lemmas.List.{take_more, take-append-drop}
use Rattle.shell_files.specs.Session.{StopsAt, BreaksOffPrinting}
use Rattle.shell_files.specs.declared.fault.ShellFault.TheVariants.{NotHex, Unwritten}
use Rattle.shell_files.proofs.Sessions.{same_fault, passes_more, stops_after, break_after}
use Rattle.shell_files.proofs.session.Session.take.Goals as goal

-- a list, cut before and after one of its elements
cut_at : (xs : List ℕ) (i : ℕ) → i < length xs → take i xs ++ (get_or xs i 0 ∷ [] ++ drop (i + 1) xs) ≡ xs
cut_at xs i below =
    sym (append_assoc (take i xs) (get_or xs i 0 ∷ []) (drop (i + 1) xs))
    ∙ ap (λ (front : List ℕ). front ++ drop (i + 1) xs) (sym (take_more xs i 0 below))
    ∙ take-append-drop (i + 1) xs

pub returns-in_err-take_octet-clause-stops : goal.returns-in_err-take_octet-clause-stops
returns-in_err-take_octet-clause-stops g c number h =
    let said = same_fault c.take_octet.result c.from_residual.result _ (NotHex number) c.in_err-take_octet.was c.from_residual.ensures.1 h in
    let i = c.loop-octet.octet-index in
    let P : List ℕ → Type 0 =
    λ octets. StopsAt c.args.self.now octets number (g.W.Write.contents c.args.writer.now) (g.W.Write.contents c.take_octet.new.writer) in
    subst P (cut_at c.args.octets.now i c.loop-octet-test.true)
    (stops_after _ _ _ _ (drop (i + 1) c.args.octets.now) number _ _ _ c.loop-octet.invariant.passed (c.take_octet.ensures.stops number said))

pub returns-in_err-take_octet-clause-breaks_off : goal.returns-in_err-take_octet-clause-breaks_off
returns-in_err-take_octet-clause-breaks_off g c h =
    let said = same_fault c.take_octet.result c.from_residual.result _ Unwritten c.in_err-take_octet.was c.from_residual.ensures.1 h in
    let i = c.loop-octet.octet-index in
    let P : List ℕ → Type 0 =
    λ octets. BreaksOffPrinting c.args.self.now octets (g.W.Write.contents c.args.writer.now) (g.W.Write.contents c.take_octet.new.writer) in
    subst P (cut_at c.args.octets.now i c.loop-octet-test.true)
    (break_after _ _ _ _ (drop (i + 1) c.args.octets.now) _ _ _ c.loop-octet.invariant.passed (c.take_octet.ensures.breaks_off said))

pub loop-octet-preserved : goal.loop-octet-preserved
loop-octet-preserved g c = record {
  passed =
      let below = c.loop-octet-test.true in
      rw (take_more c.args.octets.now c.loop-octet.octet-index 0 below)
      (passes_more _ _ _ _ _ _ _ _ c.loop-octet.invariant.passed c.in_ok-take_octet.ensures.passes);
  counts = omega (arith, c.in_ok-take_octet.ensures.counts);
}
