-- A capture that was written out by hand is spelled so.
use Rattle.std.proofs.Common.{refl}
use Rattle.btsnoop.specs.Record.{file_header, header_of, SpellsTheExample}

pub spells : SpellsTheExample
unfolding file_header header_of
spells = refl
