-- The result of a frame's fragments as an `Assembly` of le_acl (code only).
use Rattle.std.specs.Prelude.{Some, None}
use Rattle.octet_io.specs.Number.{Octets}
use Rattle.le_acl.specs.Reassembler.{Assembly, no_assembly}
use Rattle.sim_controller.specs.declared.assembly.Assembled.{Assembled}
use Rattle.sim_controller.specs.declared.assembly.Assembled.TheVariants.{Nothing, Unfinished, Frame}
use Rattle.sim_controller.specs.declared.assembly.State.{State}
use Rattle.sim_controller.specs.declared.assembly.State.TheVariants.{Short, Whole, Long}

abbrev pub unfinished_with : Octets → Assembly
unfinished_with octets = record { unfinished = Some octets; frame = None }

abbrev pub frame_with : Octets → Assembly
frame_with octets = record { unfinished = None; frame = Some octets }

abbrev pub assembly : Assembled → Assembly
assembly Nothing = no_assembly
assembly (Unfinished octets) = unfinished_with octets.items
assembly (Frame octets) = frame_with octets.items

abbrev pub assembly_by : State → Octets → Assembly
assembly_by Short octets = unfinished_with octets
assembly_by Whole octets = frame_with octets
assembly_by Long octets = no_assembly
