-- Digits that write octets.
use Rattle.std.proofs.Common.{◌≡◌, ℕ, true, is_some, List, [], Option, Some, None, unwrap_or, refl}
use Rattle.hex.specs.Hex.{decode_pairs}
use Rattle.text_words.specs.Payload.{decoded, decoded_octets, IsWritten}

written_where : (found : Option (List ℕ)) → is_some found ≡ true → found ≡ Some (unwrap_or found [])
written_where None is = cc is
written_where (Some octets) is = refl

pub is_written : (digits : List ℕ) → is_some (decoded digits) ≡ true → IsWritten digits
unfolding decoded_octets
is_written digits is = written_where (decoded digits) is

pub none_written : IsWritten []
unfolding decoded decoded_octets decode_pairs
none_written = refl

pub no_octets : decoded_octets [] ≡ []
unfolding decoded decoded_octets decode_pairs
no_octets = refl

pub ruleset written = (is_written, none_written, no_octets)
