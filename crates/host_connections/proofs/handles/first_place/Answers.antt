use Rattle.std.proofs.Common.{◌≡◌, ◌==◌, ◌<◌, ℕ, List, length, take, Some, sym, ap, ◌∙◌, refl, arith, w32, length-take-le, inl, inr}
use Rattle.std.specs.List.{position, position_or_len}
use Rattle.std.proofs.lemmas.Bool.{cases_lt}
use Rattle.std.proofs.lemmas.List.{take_all}
use Rattle.std.proofs.lemmas.Simd.{bitmask_splat, leading_from_mask_l, trailing_mask_l}
use Rattle.att_table.proofs.Lanes.{position_here, position_past}
use Rattle.host_connections.proofs.FirstPlace.{none_masked}
use Rattle.host_connections.proofs.handles.first_place.Goals as goal

pub returns-then-mask-eq0 : goal.returns-then-mask-eq0
returns-then-mask-eq0 c =
    let test = λ (it : ℕ). it == c.args.number in
    let numbers = c.args.numbers.now in
    let lanes = take 8 numbers in
    let long : length lanes ≡ 8 = length-take-le 8 numbers (omega (arith, c.told-numbers)) in
    let mask = bitmask_splat w32 (λ it other. it == other) lanes 8 c.args.number long (omega arith) in
    let all : position_or_len test lanes ≡ 8 = leading_from_mask_l test lanes (sym mask ∙ c.if-mask-eq0.true) ∙ long in
    let same : lanes ≡ numbers = take_all 8 numbers (omega (arith, c.told-numbers)) in
    let past = position_past test numbers 8 (omega (arith, c.told-numbers)) (omega (arith, all, ap (position_or_len test) same)) in
    sym (sym (ap (position test) same) ∙ past)

pub returns-else-mask-eq0 : goal.returns-else-mask-eq0
returns-else-mask-eq0 c =
    let test = λ (it : ℕ). it == c.args.number in
    let numbers = c.args.numbers.now in
    let lanes = take 8 numbers in
    let long : length lanes ≡ 8 = length-take-le 8 numbers (omega (arith, c.told-numbers)) in
    let mask = bitmask_splat w32 (λ it other. it == other) lanes 8 c.args.number long (omega arith) in
    let place = ap (lib.Count.count_trailing_zeros 64) mask ∙ trailing_mask_l test 64 lanes (omega (arith, long)) (omega (arith, mask, c.if-mask-eq0.false)) in
    let same : lanes ≡ numbers = take_all 8 numbers (omega (arith, c.told-numbers)) in
    let within : position_or_len test numbers < length numbers = elim (cases_lt (position_or_len test numbers) (length numbers)) [
      | inl less ↦ less
      | inr none ↦ absurd
          (omega (arith, mask, c.if-mask-eq0.false, none_masked test lanes (omega (arith, none, long, c.told-numbers, ap (position_or_len test) same))))
    ] in
    ap Some place ∙ ap (λ (at : List ℕ). Some (position_or_len test at)) same ∙ sym (position_here test numbers (position_or_len test numbers) refl within)
