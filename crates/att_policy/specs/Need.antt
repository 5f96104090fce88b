-- The requirements of a `Need` with all that its fields imply (this profile's own). (P-POL-1)
use Rattle.std.specs.Prelude.{ℕ, Bool, ◌||◌, is_some, unwrap_or, if◌then◌else◌}
use Rattle.att_policy.specs.declared.guard.Need.{Need}

-- Authentication, a key size and LE Secure Connections each require encryption.
abbrev pub needs_encryption_of : Need → Bool
needs_encryption_of need =
    need.encrypted || need.authenticated || is_some need.key_size || need.secure

abbrev pub needs_authentication_of : Need → Bool
needs_authentication_of need = need.authenticated || need.secure

-- The least key size in octets; LE Secure Connections keys have 16 (Core 5.0, Vol 3 Part C,
-- 10.2.1).
abbrev pub key_size_of : Need → ℕ
key_size_of need = if need.secure then 16 else unwrap_or need.key_size 0
