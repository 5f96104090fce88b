-- How a search by halves narrows, and what it pays.
use Rattle.std.proofs.Common.{◌≡◌, ℕ, zero, suc, ◌+◌, ◌-◌, ◌/◌, ◌%◌, ◌^◌, ◌<◌, ◌≤◌, true, false, ap, sym, ◌∙◌, arith}
use Rattle.std.proofs.lemmas.Bool.Decides.{nat_tests}
use Rattle.std.specs.Prelude.{nat_lt}
use Rattle.att_attributes.specs.TypeIndex.{reach}
use Rattle.att_numbers.specs.declared.limit.TheConstants.{MAX_ATTRIBUTES}

-- what the halves of two types tell
pub upper_less : (read own k read_upper k_upper : ℕ) → read ≡ own → read_upper ≡ read / 2 ^ 64 → k_upper ≡ k / 2 ^ 64 → read_upper < k_upper → own < k
upper_less read own k read_upper k_upper is upper of less = omega (arith, is, upper, of)

pub upper_more : (read own k read_upper k_upper : ℕ) → read ≡ own → read_upper ≡ read / 2 ^ 64 → k_upper ≡ k / 2 ^ 64 → k_upper < read_upper → k < own
upper_more read own k read_upper k_upper is upper of more = omega (arith, is, upper, of)

-- where the upper ones are equal
pub record HaveSameUpper (own k own_lower k_lower : ℕ) : Type 0 where
  pub same : own / 2 ^ 64 ≡ k / 2 ^ 64
  pub own_low : own_lower ≡ own % 2 ^ 64
  pub low : k_lower ≡ k % 2 ^ 64

pub same_upper : (read own k read_upper k_upper read_lower k_lower : ℕ) → read ≡ own → read_upper ≡ read / 2 ^ 64 → k_upper ≡ k / 2 ^ 64
    → k_upper ≤ read_upper → read_upper ≤ k_upper → read_lower ≡ read % 2 ^ 64 → k_lower ≡ k % 2 ^ 64 → HaveSameUpper own k read_lower k_lower
same_upper read own k read_upper k_upper read_lower k_lower is upper of least most lower to =
    let same : read / 2 ^ 64 ≡ k / 2 ^ 64 = omega (arith, upper, of, least, most) in
    record { same = ap (λ n. n / 2 ^ 64) (sym is) ∙ same; own_low = lower ∙ ap (λ n. n % 2 ^ 64) is; low = to }

pub lower_less : (own k own_lower k_lower : ℕ) → HaveSameUpper own k own_lower k_lower → own_lower < k_lower → own < k
lower_less own k own_lower k_lower halves less = omega (arith, halves.same, halves.own_low, halves.low)

pub lower_more : (own k own_lower k_lower : ℕ) → HaveSameUpper own k own_lower k_lower → k_lower < own_lower → k < own
lower_more own k own_lower k_lower halves more = omega (arith, halves.same, halves.own_low, halves.low)

pub lower_same : (own k own_lower k_lower : ℕ) → HaveSameUpper own k own_lower k_lower → k_lower ≤ own_lower → own_lower ≤ k_lower → own ≡ k
lower_same own k own_lower k_lower halves least most = omega (arith, halves.same, halves.own_low, halves.low)

-- a search by halves: what is looked for stands between the two places
pub record IsNarrowed (from to low high size : ℕ) : Type 0 where
  pub low_side : low ≤ from
  pub high_side : to ≤ high
  pub inside : high ≤ size

pub narrow_low : (from to low high size middle : ℕ) → IsNarrowed from to low high size → middle < from → IsNarrowed from to (middle + 1) high size
narrow_low from to low high size middle narrowed below =
    record { low_side = omega (arith, below); high_side = narrowed.high_side; inside = narrowed.inside }

pub narrow_high : (from to low high size middle : ℕ) → IsNarrowed from to low high size → middle ≡ (low + high) / 2 → low < high → to ≤ middle
    → IsNarrowed from to low middle size
narrow_high from to low high size middle narrowed is left above =
    record { low_side = narrowed.low_side; high_side = above; inside = omega (arith, narrowed.inside) }

pub half_within : (low high size : ℕ) → low < high → high ≤ size → (low + high) / 2 < size
half_within low high size left inside = omega arith

pub test_true : (x own bound : ℕ) → own ≡ x → own < bound → nat_lt x bound ≡ true
test_true x own bound is less = grind (arith, nat_tests)

pub test_false : (x own bound : ℕ) → own ≡ x → bound ≤ own → nat_lt x bound ≡ false
test_false x own bound is more = grind (arith, nat_tests)

-- for one place: the comparisons that are left are enough for so many handles
pub record IsPaid (width before most now : ℕ) : Type 0 where
  pub turns : ℕ
  pub enough : width ≤ reach turns
  pub counted : now + turns ≤ before + most

paid_half : (width next before most now spent turns : ℕ) → width ≤ reach turns → now + turns ≤ before + most → 0 < width → next ≤ width / 2 → spent ≤ now + 1
    → IsPaid next before most spent
paid_half width next before most now spent zero enough counted some half ticked = absurd (omega arith)
paid_half width next before most now spent (suc turns) enough counted some half ticked =
    record { turns = turns; enough = omega arith; counted = omega arith }

pub paid_low : (low high middle before most now spent : ℕ) → IsPaid (high - low) before most now → middle ≡ (low + high) / 2 → low < high → spent ≤ now + 1
    → IsPaid (high - (middle + 1)) before most spent
paid_low low high middle before most now spent paid is left =
    paid_half (high - low) (high - (middle + 1)) before most now spent paid.turns paid.enough paid.counted (omega arith) (omega arith)

pub paid_high : (low high middle before most now spent : ℕ) → IsPaid (high - low) before most now → middle ≡ (low + high) / 2 → low < high → spent ≤ now + 1
    → IsPaid (middle - low) before most spent
paid_high low high middle before most now spent paid is left =
    paid_half (high - low) (middle - low) before most now spent paid.turns paid.enough paid.counted (omega arith) (omega arith)

-- for a type: each comparison halves what is left, and once its run is found one end of it is compared and there is a search for each end
pub record IsPaidFor (width before now : ℕ) : Type 0 where
  pub turns : ℕ
  pub few : turns ≤ 11
  pub enough : width + width ≤ reach turns + 1
  pub counted : now + turns ≤ before + 11

pub paid_at_first : (size count : ℕ) → size ≤ MAX_ATTRIBUTES → IsPaidFor (size - 0) count count
paid_at_first size count most = record { turns = 11; few = omega arith; enough = omega (arith, most); counted = omega arith }

half_paid : (width next before now spent turns : ℕ) → turns ≤ 11 → width + width ≤ reach turns + 1 → now + turns ≤ before + 11 → 0 < width → next ≤ width / 2
    → spent ≤ now + 1 → IsPaidFor next before spent
half_paid width next before now spent zero few enough counted some half ticked = absurd (omega arith)
half_paid width next before now spent (suc turns) few enough counted some half ticked =
    record { turns = turns; few = omega arith; enough = omega arith; counted = omega arith }

pub paid_half_of : (width next before now spent : ℕ) → IsPaidFor width before now → 0 < width → next ≤ width / 2 → spent ≤ now + 1 → IsPaidFor next before spent
paid_half_of width next before now spent paid = half_paid width next before now spent paid.turns paid.few paid.enough paid.counted

ends_paid : (width size before now found end turns : ℕ) → turns ≤ 11 → width + width ≤ reach turns + 1 → now + turns ≤ before + 11 → 0 < width → size ≤ width
    → found ≤ now + 1 → ((left : ℕ) → 0 < left → size ≤ reach left + 1 → end ≤ found + 1 + left + left) → end ≤ before + 22
ends_paid width size before now found end zero few enough counted some within ticked to = absurd (omega arith)
ends_paid width size before now found end (suc zero) few enough counted some within ticked to =
    let most : end ≤ found + 1 + 1 + 1 = to 1 (omega arith) (omega arith) in
    omega (arith, most)
ends_paid width size before now found end (suc (suc turns)) few enough counted some within ticked to =
    let most : end ≤ found + 1 + suc turns + suc turns = to (suc turns) (omega arith) (omega arith) in
    omega (arith, most)

pub paid_in_run : (width size before now found end : ℕ) → IsPaidFor width before now → 0 < width → size ≤ width → found ≤ now + 1
    → ((left : ℕ) → 0 < left → size ≤ reach left + 1 → end ≤ found + 1 + left + left) → end ≤ before + 22
paid_in_run width size before now found end paid = ends_paid width size before now found end paid.turns paid.few paid.enough paid.counted

-- a run that was passed, on either side
pub past_run : (from to low high size before now spent middle end : ℕ) → IsNarrowed from to low high size × IsPaidFor (high - low) before now → low < high
    → middle ≡ (low + high) / 2 → end ≤ from → middle < end → spent ≤ now + 1 → IsNarrowed from to end high size × IsPaidFor (high - end) before spent
past_run from to low high size before now spent middle end so_far left is below behind ticked = (
  record { low_side = below; high_side = so_far.0.high_side; inside = so_far.0.inside },
  paid_half_of (high - low) (high - end) before now spent so_far.1 (omega arith) (omega arith) ticked,
)

pub before_run : (from to low high size before now spent middle begin : ℕ) → IsNarrowed from to low high size × IsPaidFor (high - low) before now → low < high
    → middle ≡ (low + high) / 2 → to ≤ begin → begin ≤ middle → spent ≤ now + 1 → IsNarrowed from to low begin size × IsPaidFor (begin - low) before spent
before_run from to low high size before now spent middle begin so_far left is above ahead ticked = (
  record { low_side = so_far.0.low_side; high_side = above; inside = omega (arith, so_far.0.inside) },
  paid_half_of (high - low) (begin - low) before now spent so_far.1 (omega arith) (omega arith) ticked,
)
