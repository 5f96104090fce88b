use Rattle.std.proofs.Common.{◌≡◌, ℕ, ◌+◌, ◌-◌, List, ◌++◌, length, ap, subst, arith}
use Rattle.le_h4.specs.Progress.{IsSizeOf}
use Rattle.le_h4.proofs.SoFar.{unfinished_less}
use Rattle.le_h4.proofs.deframer.go_on.Goals as goal

pub overflow_sub-missing : goal.overflow_sub-missing
overflow_sub-missing c =
    let P : List ℕ → Type 0 = λ so_far. IsSizeOf (so_far ++ c.args.octets.now) c.in_ok-size.size in
    let sized : IsSizeOf (c.args.gathered.now ++ c.args.octets.now) c.in_ok-size.size = subst P c.as_slice-so_far.ensures.value c.in_ok-size.ensures in
    let less = unfinished_less c.args.gathered.now c.args.octets.now c.in_ok-size.size c.requires sized in
    omega (arith, less, ap length c.as_slice-so_far.ensures.value)

pub returns-clause-goes_on : goal.returns-clause-goes_on
returns-clause-goes_on c =
    let P : List ℕ → Type 0 = λ so_far. IsSizeOf (so_far ++ c.args.octets.now) c.in_ok-size.size in
    let sized : IsSizeOf (c.args.gathered.now ++ c.args.octets.now) c.in_ok-size.size = subst P c.as_slice-so_far.ensures.value c.in_ok-size.ensures in
    let less = unfinished_less c.args.gathered.now c.args.octets.now c.in_ok-size.size c.requires sized in
    let parts : c.in_ok-size.size ≡ length c.args.gathered.now + (c.in_ok-size.size - length c.as_slice-so_far.result.now) =
    omega (arith, less, ap length c.as_slice-so_far.ensures.value) in
    record {
      size = subst (IsSizeOf (c.args.gathered.now ++ c.args.octets.now)) parts sized;
      gathers = c.fill.ensures.gathered;
    }
