-- The division of a controller's buffers (this profile's own).
use Rattle.std.specs.Prelude.{ℕ, ◌/◌, min}
use Rattle.le_acl.specs.declared.sender.TheConstants.{MAX_ACL_LEN}

-- The usable slots: at most one for each packet.
abbrev pub usable : ℕ → ℕ → ℕ
usable slots packets = min slots packets

-- The number of packets of one connection that may be outstanding. (P-ALL-2)
abbrev pub share : ℕ → ℕ → ℕ
share slots packets = packets / usable slots packets

-- The maximum octets of data in a packet.
abbrev pub acl_len : ℕ → ℕ
acl_len length = min length MAX_ACL_LEN
