-- Numbers and lists of the Attribute Protocol (Core 5.0, Vol 3 Part F, 3.2).
use Rattle.std.specs.Prelude.{ℕ, List}

-- An attribute handle, below 2 ^ 16, and an attribute type, below 2 ^ 128.
abbrev pub Handle : Type 0
Handle = ℕ

abbrev pub AttributeType : Type 0
AttributeType = ℕ

-- The values of attributes, in the order of their handles.
abbrev pub Values : Type 0
Values = List (List ℕ)

-- The ATT_MTU of a connection, in octets.
abbrev pub Mtu : Type 0
Mtu = ℕ

-- An opcode and an error code, one octet each.
abbrev pub Opcode : Type 0
Opcode = ℕ

abbrev pub Code : Type 0
Code = ℕ

-- A client's configurations: the handle and the bits of each.
abbrev pub Row : Type 0
Row = List (Handle × ℕ)
