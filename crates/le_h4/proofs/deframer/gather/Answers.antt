use Rattle.std.proofs.Common.{◌≡◌, ℕ, ◌+◌, List, [], ◌++◌, length, subst, arith}
use Rattle.std.proofs.lemmas.Grind.{common_steps}
use Rattle.le_h4.specs.Gathering.{GoesOn}
use Rattle.le_h4.specs.Progress.{IsSizeOf}
use Rattle.le_h4.proofs.SoFar.{gathers_fed}
use Rattle.le_h4.proofs.deframer.gather.Goals as goal

pub returns-in-Some : goal.returns-in-Some
returns-in-Some c =
    let octets : List ℕ = c.args.octets.now in
    let none : [] ≡ c.args.gathered.now = grind (arith, common_steps) in
    let idle : 0 ≡ c.args.skipping.now = omega (arith, c.if-skipping-eq0.true) in
    let more : c.in-Some.size ≡ 0 + c.in-Some.size = omega arith in
    let P : List ℕ → Type 0 = λ gathered. IsSizeOf (gathered ++ octets) (length gathered + c.in-Some.size) in
    let goes_on : GoesOn c.args.gathered.now octets c.in-Some.size c.fill_up.new.gathered = record {
      size = subst P none (subst (IsSizeOf octets) more c.in-Some.ensures);
      gathers = c.fill_up.ensures.gathered;
    } in
    record { gathers = gathers_fed _ _ _ _ _ _ idle c.requires.unfinished goes_on c.fill_up.ensures.fed }

pub returns-in-Some-go_on : goal.returns-in-Some-go_on
returns-in-Some-go_on c =
    let idle : 0 ≡ c.args.skipping.now = omega (arith, c.if-skipping-eq0.true) in
    record { gathers = gathers_fed _ _ _ _ _ _ idle c.requires.unfinished c.in-Some-go_on.ensures.goes_on c.fed_of.ensures }
