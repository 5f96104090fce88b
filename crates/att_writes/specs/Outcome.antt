-- The result of a write.
use Rattle.std.specs.Prelude.{Result, Ok, Err}
use Rattle.att_numbers.specs.Types.{Opcode}
use Rattle.att_numbers.specs.declared.refusal.Refusal.{Refusal}
use Rattle.att_policy.specs.Refusal as policy
use Rattle.att_writes.specs.Applied.{Stored}

abbrev pub write_outcome : Opcode → Result Stored policy.Refusal → Result Unit Refusal
write_outcome opcode (Ok stored) = Ok tt
write_outcome opcode (Err refusal) =
    Err (record { opcode = opcode; handle = refusal.handle; code = refusal.code })
