-- Bytes that are text, and those that are not.
use Rattle.std.proofs.Common.{◌≡◌, Bool, true, false, Result, Err, refl}
use Rattle.std.specs.Str.{IsUtf8, is_utf8}
use Rattle.std.proofs.lemmas.Str.{IsUtf8-from_is_utf8, is_utf8-from_IsUtf8}
use Rattle.octet_io.specs.Number.{Octets}
use Rattle.octet_io.specs.Text.{as_text}

no-text : (octets : Octets) (test : Bool) → is_utf8 octets ≡ test → ¬ (IsUtf8 octets) → test ≡ false
no-text octets true e not = absurd (not (IsUtf8-from_is_utf8 octets e))
no-text octets false e not = refl

pub of_text : {A E : Type 0} (read : Octets → Result A E) (fault : E) (octets : Octets) → IsUtf8 octets → as_text read fault octets ≡ read octets
unfolding as_text
of_text read fault octets is = rw (is_utf8-from_IsUtf8 octets is) refl

pub of_no_text : {A E : Type 0} (read : Octets → Result A E) (fault : E) (octets : Octets) → ¬ (IsUtf8 octets) → as_text read fault octets ≡ Err fault
unfolding as_text
of_no_text read fault octets not = rw (no-text octets (is_utf8 octets) refl not) refl
