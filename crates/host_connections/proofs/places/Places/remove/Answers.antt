use Rattle.std.proofs.Common.{◌≡◌, ℕ, ◌*◌, ◌%◌, ◌^◌, ap, sym, ◌∙◌, arith}
use Rattle.std.specs.Int.{bit_at, bit_not}
use Rattle.std.specs.Prelude.{bit_and}
use Rattle.std.proofs.lemmas.Bool.{cases_lt}
use Rattle.std.proofs.lemmas.Nat.{and_le_l}
use Rattle.std.proofs.lemmas.Nat.Bits.{bit_at_clear_same, bit_at_clear_other}
use Rattle.std.proofs.Math.Logic.{⊎_elim}
use Rattle.host_api.specs.declared.TheConstants.{MAX_SLOTS}
use Rattle.host_connections.proofs.SlotBits.{slot_bits}
use Rattle.host_connections.proofs.places.Places.remove.Goals as goal

pub returns-clause-removed : goal.returns-clause-removed
returns-clause-removed c = bit_at_clear_same slot_bits c.args.self.now.bits c.args.place c.requires

pub returns-clause-others : goal.returns-clause-others
returns-clause-others c = bit_at_clear_other slot_bits c.args.self.now.bits c.args.place c.requires

pub returns-clause-fewer : goal.returns-clause-fewer
returns-clause-fewer c = λ within.
    let old : ℕ = c.args.self.now.bits in
    let mask : ℕ = bit_not slot_bits (1 * 2 ^ c.args.place % 2 ^ MAX_SLOTS) in
    let cleared = bit_at_clear_same slot_bits old c.args.place c.requires in
    ⊎_elim (λ less. less)
    (λ least.
    let same : bit_and old mask ≡ old = omega (arith, least, and_le_l old mask) in
    absurd (omega (arith, sym cleared ∙ ap (λ bits. bit_at bits c.args.place) same ∙ within)))
    (cases_lt (bit_and old mask) old)
