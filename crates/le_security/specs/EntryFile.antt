-- An entry of a key file, or its first fault (this profile's own).
use Rattle.std.specs.Prelude.{ℕ, ◌^◌, ℤ, pos, negsuc, Bool, ◌==◌, ◌&&◌, ◌||◌, not, nat_le, nat_lt, if◌then◌else◌, List, [], ◌∷◌, length, replicate, codes, Option, Some, None, Result, Ok, Err}
use Rattle.std.specs.Result.{result_ok}
use Rattle.std.specs.Str.{bytes_eq}
use Rattle.hex.specs.Hex.{decode_sized}
use Rattle.octet_io.specs.Number.{Octets}
use Rattle.toml.specs.Data.{Data, Members, as_table}
use Rattle.toml_schema.specs.Reading.{◌>>=◌, unless, require, text_at, integer_at, boolean_at, flag_at}
use Rattle.toml_schema.specs.Shape.{Keys, is_shaped}
use Rattle.toml_schema.specs.declared.shape.Shape.TheVariants.{Text, Boolean, Integer}
use Rattle.le_security.specs.declared.entry.Entry.{Entry}
use Rattle.le_security.specs.declared.entry_file.Written.{Written}
use Rattle.le_security.specs.declared.key_fault.KeyFault.{KeyFault}
use Rattle.le_security.specs.declared.key_fault.KeyFault.TheVariants.{Missing, BadAddress, BadHex, BadSize, Twice, TooMany, Shape, NotZero}
use Rattle.le_security.specs.Address.{address_of, address_type_of}
use Rattle.le_security.specs.Keys.{has_answer}
use Rattle.le_security.specs.declared.entry_file.TheConstants.{MAX_ENTRIES}

abbrev pub entry_keys : Keys
entry_keys =
    (codes "address", Text) ∷ (codes "kind", Text) ∷ (codes "rand", Text) ∷ (codes "ediv", Integer)
    ∷ (codes "ltk", Text)
    ∷ (codes "size", Integer) ∷ (codes "authenticated", Boolean) ∷ (codes "secure", Boolean) ∷ []

pub record WrittenEntry : Type 0 where
  pub address : Octets
  pub kind : Octets
  pub random_number : Octets
  pub diversifier : ℕ
  pub ltk : Octets
  pub size : ℤ
  pub authenticated : Bool
  pub secure : Bool

abbrev pub written_view : Written → WrittenEntry
written_view written = record {
  address = written.address.now;
  kind = written.kind.now;
  random_number = written.random_number.now;
  diversifier = written.diversifier;
  ltk = written.ltk.now;
  size = written.size;
  authenticated = written.authenticated;
  secure = written.secure;
}

abbrev pub diversifier_of : Option ℤ → Result (Option ℕ) KeyFault
diversifier_of None = Ok None
diversifier_of (Some (pos diversifier)) =
    if nat_lt diversifier (2 ^ 16) then Ok (Some diversifier) else Err Shape
diversifier_of (Some (negsuc _)) = Err Shape

abbrev pub written_at : Members → Result WrittenEntry KeyFault
written_at members = do
  ediv ← diversifier_of (integer_at (codes "ediv") members)
  address ← require (text_at (codes "address") members) Missing
  kind ← require (text_at (codes "kind") members) Missing
  random_number ← require (text_at (codes "rand") members) Missing
  diversifier ← require ediv Missing
  ltk ← require (text_at (codes "ltk") members) Missing
  size ← require (integer_at (codes "size") members) Missing
  authenticated ← require (boolean_at (codes "authenticated") members) Missing
  Ok (record {
    address = address;
    kind = kind;
    random_number = random_number;
    diversifier = diversifier;
    ltk = ltk;
    size = size;
    authenticated = authenticated;
    secure = flag_at (codes "secure") members;
  })

-- A key size is 7 to 16 octets (Core 5.0, Vol 3 Part H, 2.3.4).
abbrev pub key_size_in : ℤ → Option ℕ
key_size_in (pos size) = if nat_le 7 size && nat_le size 16 then Some size else None
key_size_in (negsuc _) = None

-- LE Secure Connections keys have random number and diversifier 0 (Core 5.0, Vol 3 Part H, 2.4.4).
abbrev pub is_zero : Octets → ℕ → Bool
is_zero random_number diversifier = bytes_eq random_number (replicate 8 0) && (diversifier == 0)

abbrev pub entry_written : WrittenEntry → Result Entry KeyFault
entry_written written = do
  address ← require (address_of written.address) BadAddress
  kind ← require (address_type_of written.kind) BadAddress
  random_number ← require (result_ok (decode_sized written.random_number 8)) BadHex
  ltk ← require (result_ok (decode_sized written.ltk 16)) BadHex
  size ← require (key_size_in written.size) BadSize
  _ ← unless (not written.secure || is_zero random_number written.diversifier) NotZero
  Ok (record {
    peer = record { kind = kind; address = address };
    random_number = random_number;
    diversifier = written.diversifier;
    key = record {
      ltk = ltk;
      facts = record {
        size = size;
        authenticated = written.authenticated;
        secure = written.secure;
      };
    };
  })

-- An entry follows fewer than `MAX_ENTRIES` others, none for the same request.
abbrev pub entry_after : List Entry → Data → Result Entry KeyFault
entry_after entries value = do
  _ ← unless (nat_lt (length entries) MAX_ENTRIES) TooMany
  members ← require (as_table value) Shape
  _ ← unless (is_shaped entry_keys members) Shape
  written ← written_at members
  entry ← entry_written written
  _ ← unless (not (has_answer entries entry)) Twice
  Ok entry
