-- Values after one of them is stored.
use Rattle.std.proofs.Common.{◌≡◌, ◌-◌, ◌<◌, true, false, ◌==◌, length, refl, inl, inr, arith}
use Rattle.std.proofs.lemmas.Bool.{cases_lt}
use Rattle.std.proofs.lemmas.Bool.Decides.{nat_tests}
use Rattle.std.proofs.lemmas.Grind.{common_steps}
use Rattle.std.proofs.lemmas.List.{set_past, length-set}
use Rattle.octet_io.specs.Number.{Octets}
use Rattle.att_numbers.specs.Types.{Handle, Values}
use Rattle.att_table.specs.Table.{value_at, with_value}

-- as many as before
pub length_stored : (values : Values) (handle : Handle) (value : Octets) → length (with_value values handle value) ≡ length values
length_stored values handle value = length-set values (handle - 1) value

-- the one that was stored, and the others
pub value_stored : (values : Values) (handle : Handle) (value : Octets) → handle - 1 < length values → value_at (with_value values handle value) handle ≡ value
value_stored values handle value within = grind (arith, common_steps)

pub value_beside : (values : Values) (handle other : Handle) (value : Octets) → 0 < handle → 0 < other → (other == handle) ≡ false
    → value_at (with_value values handle value) other ≡ value_at values other
value_beside values handle other value used other_used differs =
    let places : (other - 1 == handle - 1) ≡ false = grind (arith, nat_tests) in
    grind (arith, nat_tests, common_steps)

-- values that are related at each handle stay so where related values are stored at one
pub stored_alike : (R : Handle → Octets → Octets → Type 0) (xs ys : Values) (handle : Handle) (x y : Octets) → length xs ≡ length ys → 0 < handle
    → ((other : Handle) → 0 < other → R other (value_at xs other) (value_at ys other)) → R handle x y
    → (other : Handle) → 0 < other → R other (value_at (with_value xs handle x) other) (value_at (with_value ys handle y) other)
stored_alike R xs ys handle x y count used alike new other other_used = elim (cases_lt (handle - 1) (length xs)) [
  | inr past ↦ rw (set_past xs (handle - 1) x past, set_past ys (handle - 1) y (omega arith)) (alike other other_used)
  | inl below ↦ elim (other == handle) as
      (λ same. (other == handle) ≡ same → R other (value_at (with_value xs handle x) other) (value_at (with_value ys handle y) other)) [
        | true ↦ λ same.
            let is : other ≡ handle = grind (arith, nat_tests) in
            rw is (rw (value_stored xs handle x below, value_stored ys handle y (omega arith)) new)
        | false ↦ λ differs. rw (value_beside xs handle other x used other_used differs, value_beside ys handle other y used other_used differs)
            (alike other other_used)
      ] refl
]
