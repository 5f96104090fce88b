use Rattle.std.proofs.Common.{rules, ◌<◌, ◌^◌, arith}
use Rattle.std.proofs.lemmas.Nat.Bits.{bit_at-trailing_zeros}
use Rattle.host_api.specs.declared.TheConstants.{MAX_SLOTS}
use Rattle.host_connections.proofs.SlotBits.{slot_bits}
use Rattle.host_connections.proofs.places.Places.first.Goals as goal

pub returns-clause-first : goal.returns-clause-first
returns-clause-first c =
    let fits : c.args.self.bits < 2 ^ MAX_SLOTS = search rules in
    let first = bit_at-trailing_zeros slot_bits c.args.self.bits (omega (arith, c.if-self-eq0.false)) fits in
    record { few = first.0; within = first.1; before = first.2 }
