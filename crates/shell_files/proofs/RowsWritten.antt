-- Rows that are written are flushed then.
use Rattle.std.proofs.Common.{[], Option, Some, None, sym, ◌∙◌}
use Rattle.std.proofs.lemmas.List.{append-nil}
use Rattle.std.specs.Io.KnownBytes.{Appends, Keeps}
use Rattle.octet_io.specs.Number.{Octets}
use Rattle.octet_io.specs.Stream.{WritesFront}

pub flushed : (held written holds : Option Octets) (text : Octets) → Appends held written text → Keeps written holds → Appends held holds text
flushed None written holds text appended kept = tt
flushed (Some before) None holds text appended kept = absurd appended
flushed (Some before) (Some between) None text appended kept = absurd kept
flushed (Some before) (Some between) (Some after) text appended kept = kept ∙ appended

-- where the flush fails all of the text is its front
pub flush_failed : (held written holds : Option Octets) (text : Octets) → Appends held written text → Keeps written holds → WritesFront text held holds
flush_failed held written holds text appended kept = record {
  written = text;
  appended = flushed held written holds text appended kept;
  left = [];
  parts = sym (append-nil text);
}
