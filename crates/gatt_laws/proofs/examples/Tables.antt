-- The tables, keys and peers of the examples: the door lock, the bell and the rest of examples/, as they are read.
use Rattle.std.specs.Prelude.{ℕ, Bool, true, false, List, [], ◌∷◌, map, replicate, reverse, Some, None}
use Rattle.att_numbers.specs.AttributeType.{of_16_bits}
use Rattle.att_numbers.specs.Types.{Handle}
use Rattle.att_policy.specs.declared.guard.Guard.{Guard}
use Rattle.att_policy.specs.declared.guard.Need.{Need}
use Rattle.att_attributes.specs.declared.attr.Attr.{Attr}
use Rattle.att_attributes.specs.declared.attr.Role.TheVariants.{Declaration, Value, Configuration}
use Rattle.att_table.specs.Table.{Contents}
use Rattle.le_hci.specs.declared.peer.Peer.{Peer}
use Rattle.le_security.specs.declared.entry.Entry as Key
use Rattle.octet_io.specs.Number.{Octets}

abbrev pub no_need : Need
no_need = record { encrypted = false; authenticated = false; key_size = None; secure = false; authorized = false }

abbrev pub encrypted : Need
encrypted = record no_need { encrypted = true }

abbrev pub authorized : Need
authorized = record no_need { authorized = true }

abbrev pub guard : ℕ → Need → Need → Guard
guard properties read write = record { properties = record { 0 = properties }; read = read; write = write }

-- an attribute with its value
pub record Entry : Type 0 where
  pub attr : Attr
  pub value : Octets

abbrev pub declaration : Handle → ℕ → Octets → ℕ → Entry
declaration handle kind value count = record {
  attr = record { handle = handle; kind = of_16_bits kind; largest = count; fixed = true; role = Declaration; guard = guard 0x02 no_need no_need };
  value = value;
}

abbrev pub value_of : Handle → ℕ → Octets → ℕ → Bool → Guard → Entry
value_of handle kind value largest fixed guard = record {
  attr = record { handle = handle; kind = of_16_bits kind; largest = largest; fixed = fixed; role = Value; guard = guard };
  value = value;
}

abbrev pub configuration : Handle → Need → Entry
configuration handle write = record {
  attr = record { handle = handle; kind = of_16_bits 0x2902; largest = 0; fixed = false; role = Configuration; guard = guard 0x0A no_need write };
  value = [];
}

abbrev pub table_of : List Entry → Contents
table_of entries = record { attributes = map (λ (entry : Entry). entry.attr) entries; values = map (λ (entry : Entry). entry.value) entries }

-- authenticated, by a key of 16 octets, and authorized
abbrev pub strong : Need
strong = record no_need { authenticated = true; key_size = Some 16; authorized = true }

abbrev pub authenticated : Need
authenticated = record no_need { authenticated = true }

-- the door lock
abbrev pub door : Contents
door = table_of (
    declaration 1 0x2800 (0x00 ∷ 0x18 ∷ []) 2
    ∷ declaration 2 0x2803 (0x02 ∷ 0x03 ∷ 0x00 ∷ 0x00 ∷ 0x2A ∷ []) 5
    ∷ value_of 3 0x2A00 (0x4C ∷ 0x6F ∷ 0x63 ∷ 0x6B ∷ []) 4 false (guard 0x02 no_need no_need)
    ∷ declaration 4 0x2800 (0x0F ∷ 0x18 ∷ []) 2
    ∷ declaration 5 0x2803 (0x12 ∷ 0x06 ∷ 0x00 ∷ 0x19 ∷ 0x2A ∷ []) 5
    ∷ value_of 6 0x2A19 (0x64 ∷ []) 1 true (guard 0x12 no_need no_need)
    ∷ configuration 7 no_need
    ∷ declaration 8 0x2800 (0xF0 ∷ 0xFF ∷ []) 2
    ∷ declaration 9 0x2803 (0x1A ∷ 0x0A ∷ 0x00 ∷ 0xF1 ∷ 0xFF ∷ []) 5
    ∷ value_of 10 0xFFF1 (0x00 ∷ []) 1 true (guard 0x1A encrypted authenticated)
    ∷ configuration 11 encrypted
    ∷ declaration 12 0x2803 (0x0A ∷ 0x0D ∷ 0x00 ∷ 0xF2 ∷ 0xFF ∷ []) 5
    ∷ value_of 13 0xFFF2 (0x31 ∷ 0x32 ∷ 0x33 ∷ 0x34 ∷ []) 8 false (guard 0x0A strong strong)
    ∷ declaration 14 0x2803 (0x02 ∷ 0x0F ∷ 0x00 ∷ 0xF3 ∷ 0xFF ∷ []) 5
    ∷ value_of 15 0xFFF3 (0x01 ∷ []) 1 false (guard 0x02 no_need no_need)
    ∷ declaration 16 0x2803 (0x02 ∷ 0x11 ∷ 0x00 ∷ 0xF3 ∷ 0xFF ∷ []) 5
    ∷ value_of 17 0xFFF3 (0x02 ∷ []) 1 false (guard 0x02 encrypted no_need)
    ∷ declaration 18 0x2803 (0x02 ∷ 0x13 ∷ 0x00 ∷ 0xF3 ∷ 0xFF ∷ []) 5
    ∷ value_of 19 0xFFF3 (0x03 ∷ []) 1 false (guard 0x02 no_need no_need)
    ∷ declaration 20 0x2803 (0x0E ∷ 0x15 ∷ 0x00 ∷ 0xF4 ∷ 0xFF ∷ []) 5
    ∷ value_of 21 0xFFF4 [] 512 false (guard 0x0E no_need no_need)
    ∷ [])

-- the first service of the bell, which is all that the examples use of it
abbrev pub bell : Contents
bell = table_of (
    declaration 1 0x2800 (0xF8 ∷ 0xFF ∷ []) 2
    ∷ declaration 2 0x2803 (0x32 ∷ 0x03 ∷ 0x00 ∷ 0xF9 ∷ 0xFF ∷ []) 5
    ∷ value_of 3 0xFFF9 (0x00 ∷ []) 1 false (guard 0x32 no_need no_need)
    ∷ configuration 4 no_need
    ∷ [])

-- a value that needs authorization, and notifies and indicates
abbrev pub post : Contents
post = table_of (
    declaration 1 0x2800 (0xFB ∷ 0xFF ∷ []) 2
    ∷ declaration 2 0x2803 (0x32 ∷ 0x03 ∷ 0x00 ∷ 0xFC ∷ 0xFF ∷ []) 5
    ∷ value_of 3 0xFFFC (0x00 ∷ []) 1 false (guard 0x32 authorized no_need)
    ∷ configuration 4 no_need
    ∷ [])

-- a table that may be replaced, with a value that notifies, and the same with a value of another type there
abbrev pub porch : Contents
porch = table_of (
    declaration 1 0x2800 (0x01 ∷ 0x18 ∷ []) 2
    ∷ declaration 2 0x2803 (0x20 ∷ 0x03 ∷ 0x00 ∷ 0x05 ∷ 0x2A ∷ []) 5
    ∷ value_of 3 0x2A05 (0x00 ∷ 0x00 ∷ 0x00 ∷ 0x00 ∷ []) 4 true (guard 0x20 no_need no_need)
    ∷ configuration 4 no_need
    ∷ declaration 5 0x2800 (0xF0 ∷ 0xFF ∷ []) 2
    ∷ declaration 6 0x2803 (0x12 ∷ 0x07 ∷ 0x00 ∷ 0xF1 ∷ 0xFF ∷ []) 5
    ∷ value_of 7 0xFFF1 (0x00 ∷ []) 1 true (guard 0x12 no_need no_need)
    ∷ configuration 8 no_need
    ∷ declaration 9 0x2803 (0x0A ∷ 0x0A ∷ 0x00 ∷ 0xF4 ∷ 0xFF ∷ []) 5
    ∷ value_of 10 0xFFF4 [] 16 false (guard 0x0A no_need no_need)
    ∷ [])

abbrev pub new_porch : Contents
new_porch = table_of (
    declaration 1 0x2800 (0x01 ∷ 0x18 ∷ []) 2
    ∷ declaration 2 0x2803 (0x20 ∷ 0x03 ∷ 0x00 ∷ 0x05 ∷ 0x2A ∷ []) 5
    ∷ value_of 3 0x2A05 (0x00 ∷ 0x00 ∷ 0x00 ∷ 0x00 ∷ []) 4 true (guard 0x20 no_need no_need)
    ∷ configuration 4 no_need
    ∷ declaration 5 0x2800 (0xF0 ∷ 0xFF ∷ []) 2
    ∷ declaration 6 0x2803 (0x12 ∷ 0x07 ∷ 0x00 ∷ 0xF2 ∷ 0xFF ∷ []) 5
    ∷ value_of 7 0xFFF2 (0x00 ∷ []) 1 true (guard 0x12 no_need no_need)
    ∷ configuration 8 no_need
    ∷ declaration 9 0x2803 (0x0A ∷ 0x0A ∷ 0x00 ∷ 0xF4 ∷ 0xFF ∷ []) 5
    ∷ value_of 10 0xFFF4 [] 16 false (guard 0x0A no_need no_need)
    ∷ [])

-- a tablet that has a key, and one that has a better one; a phone that has none. Addresses are as on the wire
abbrev pub tablet : Peer
tablet = record { kind = 1; address = 0x01 ∷ 0x00 ∷ 0x00 ∷ 0x00 ∷ 0x00 ∷ 0xC0 ∷ [] }

abbrev pub owner : Peer
owner = record { kind = 0; address = 0x55 ∷ 0x44 ∷ 0x33 ∷ 0x22 ∷ 0x11 ∷ 0x00 ∷ [] }

abbrev pub phone : Peer
phone = record { kind = 1; address = 0x0A ∷ 0x00 ∷ 0x00 ∷ 0x00 ∷ 0x00 ∷ 0xC0 ∷ [] }

abbrev pub tablet_key : Octets
tablet_key = 0x00 ∷ 0x11 ∷ 0x22 ∷ 0x33 ∷ 0x44 ∷ 0x55 ∷ 0x66 ∷ 0x77 ∷ 0x88 ∷ 0x99 ∷ 0xAA ∷ 0xBB ∷ 0xCC ∷ 0xDD ∷ 0xEE ∷ 0xFF ∷ []

abbrev pub key_entry : Peer → ℕ → ℕ → Octets → Bool → Key.Entry
key_entry peer digit diversifier ltk authenticated = record {
  peer = peer;
  random_number = replicate 8 digit;
  diversifier = diversifier;
  key = record { ltk = ltk; facts = record { size = 16; authenticated = authenticated; secure = false } };
}

abbrev pub keys : List Key.Entry
keys = key_entry tablet 0x01 0x0101 tablet_key false ∷ key_entry owner 0x02 0x0202 (reverse tablet_key) true ∷ []
