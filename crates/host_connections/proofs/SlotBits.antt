-- As many bits as a set of places has: those of the type `SlotBits`. What more slots ask of the proofs over such sets is this file.
use Rattle.std.proofs.Common.{w8}
use Rattle.std.specs.Int.{Width}

abbrev pub slot_bits : Width
slot_bits = w8
