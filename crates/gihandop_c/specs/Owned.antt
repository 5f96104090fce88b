-- The memory that the pointer owns: the box of the host, or none if it is null (code only).
use Rattle.std.specs.declared.option.Option.{Option}
use Rattle.std.specs.declared.option.Option.TheVariants.{None, Some}
use Rattle.std.specs.contracts.impls.GlobalAllocator.TheImpl.{ghosts}
use Rattle.std_alloc.specs.Box.Ownership.{box_owns}
use base.Fml.{Fml, feq}
use denote.RattleType.{RattleType}
use denote.RawPtr.{Ptr, null_ptr}
use mir.Syntax.{Ty}

-- The right to return a block to the global allocator.
abbrev pub may_give_back : Ty → Ptr → Fml
may_give_back = ghosts.dealloc_token (record { memory = record { seal = tt } })

abbrev pub owns_the_host : (R : RattleType) → Ptr → Option R.Denot → Fml
owns_the_host R at None = feq Ptr at null_ptr
owns_the_host R at (Some host) = box_owns may_give_back R at host
