-- The first line feed.
use Rattle.std.proofs.Common.{◌≡◌, ℕ, ◌<◌, Bool, true, false, length, Option, Some, None, refl, sym, arith}
use Rattle.std.specs.Prelude.{slice_index, unwrap_or}
use Rattle.std.specs.List.{position_or_len}
use Rattle.std.proofs.lemmas.List.Sums.{position_or_len_is}
use Rattle.memchr.specs.Find.{IsFirstByte, is_byte}
use Rattle.app_lines.specs.Inbox.{is_feed}
use Rattle.octet_io.specs.Number.{Octets}

not-so : (test : Bool) → ¬ (test ≡ true) → test ≡ false
not-so true unless = absurd (unless refl)
not-so false unless = refl

pub first_feed : (octets : Octets) (found : Option ℕ) → IsFirstByte (is_byte 10) octets found
    → unwrap_or found (length octets) ≡ position_or_len is_feed octets
first_feed octets None nowhere =
    sym (position_or_len_is is_feed octets (length octets) 0 (omega arith)
    (λ (k : ℕ) (below : k < length octets). not-so (is_feed (slice_index octets k)) (nowhere k (omega arith) below)) (λ below. absurd (omega (arith, below))))
first_feed octets (Some end) found =
    sym (position_or_len_is is_feed octets end 0 (omega (arith, found.0.high))
    (λ (k : ℕ) (below : k < end). not-so (is_feed (slice_index octets k)) (found.0.before k (omega arith) below)) (λ below. found.1))
