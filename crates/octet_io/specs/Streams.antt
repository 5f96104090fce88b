-- Fields of sources and sinks that contracts name (code only).
use Rattle.std.specs.Prelude.{ℕ, Option}
use Rattle.octet_io.specs.Number.{Octets}
use Rattle.octet_io.specs.declared.stream.Reader.{Reader}
use Rattle.octet_io.specs.declared.stream.Writer.{Writer}
use Rattle.octet_io.specs.declared.stream.SliceSource.{SliceSource}
use Rattle.octet_io.specs.declared.stream.ArraySink.{ArraySink}

-- The reader in a source, and its counters.
abbrev pub reader_of : {R : Type 0} → Reader R → R
reader_of source = source.reader

abbrev pub reads_of : {R : Type 0} → Reader R → Option ℕ
reads_of source = source.reads

abbrev pub ends_of : {R : Type 0} → Reader R → Option ℕ
ends_of source = source.ends

abbrev pub failed_reads_of : {R : Type 0} → Reader R → Option ℕ
failed_reads_of source = source.failed_reads

-- The writer in a sink, and its counter.
abbrev pub writer_of : {W : Type 0} → Writer W → W
writer_of sink = sink.writer

abbrev pub failed_writes_of : {W : Type 0} → Writer W → Option ℕ
failed_writes_of sink = sink.failed_writes

-- The octets that a source has left.
abbrev pub octets_left : SliceSource → Octets
octets_left source = source.left.now

-- The octets that a sink has accepted, and its counter of failed writes.
abbrev pub octets_taken : {capacity : ℕ} → ArraySink capacity → Octets
octets_taken sink = sink.octets.items

abbrev pub failed_array_writes : {capacity : ℕ} → ArraySink capacity → Option ℕ
failed_array_writes sink = sink.refused_writes
