-- Notices as C reads them: a choice of this library.
use Rattle.std.specs.Prelude.{◌≡◌, ℕ, ◌+◌, ◌-◌, ◌^◌, nat_lt, if◌then◌else◌, false, replicate, slice_get, Option, Some, None}
use Rattle.std.specs.Option.{option_map}
use Rattle.gatt_host.specs.Telling.{notices_told}
use Rattle.gatt_laws.specs.machine.Notice.{Notice, Connected, Disconnected, Secured, Unsecured, Written, Configured, Confirmed, TimedOut, Ending, Skipped}
use Rattle.host_api.specs.declared.notice_number.TheConstants as number
use Rattle.gihandop_c.specs.declared.notices.NoticeFields.{NoticeFields}
use Rattle.gihandop_c.specs.declared.opened.Opened.{Opened}

-- A notice with only a kind and a connection, in a structure of this size.
abbrev pub fields_of_connection : ℕ → ℕ → ℕ → NoticeFields
fields_of_connection size kind handle = record {
  size = size;
  kind = kind;
  bits = 0;
  reason = 0;
  key_size = 0;
  authenticated = false;
  secure = false;
  address_kind = 0;
  address = replicate 6 0;
  connection = handle;
  attribute = 0;
}

abbrev pub fields_of_attribute : ℕ → ℕ → ℕ → ℕ → ℕ → NoticeFields
fields_of_attribute size kind handle attribute bits =
    record (fields_of_connection size kind handle) { attribute = attribute; bits = bits }

abbrev pub notice_fields : ℕ → Notice → NoticeFields
notice_fields size (Connected handle peer) =
    record (fields_of_connection size number.CONNECTED handle)
    { address_kind = peer.kind; address = peer.address }
notice_fields size (Disconnected handle) = fields_of_connection size number.DISCONNECTED handle
notice_fields size (Secured handle facts) =
    record (fields_of_connection size number.SECURED handle)
    { key_size = facts.size; authenticated = facts.authenticated; secure = facts.secure }
notice_fields size (Unsecured handle) = fields_of_connection size number.UNSECURED handle
notice_fields size (Written handle attribute) =
    fields_of_attribute size number.WRITTEN handle attribute 0
notice_fields size (Configured handle attribute bits) =
    fields_of_attribute size number.CONFIGURED handle attribute bits
notice_fields size (Confirmed handle attribute) =
    fields_of_attribute size number.CONFIRMED handle attribute 0
notice_fields size (TimedOut handle) = fields_of_connection size number.TIMED_OUT handle
notice_fields size (Ending handle reason) =
    record (fields_of_connection size number.ENDING handle) { reason = reason }
notice_fields size (Skipped handle attribute) =
    fields_of_attribute size number.SKIPPED handle attribute 0

-- The first notice that the program has not fetched, as far as these can be counted.
abbrev pub next_notice : ℕ → Opened → Option NoticeFields
next_notice size opened =
    if nat_lt opened.told (2 ^ 64 - 1)
    then option_map (notice_fields size) (slice_get (notices_told opened.host) opened.told)
    else None

pub record HandsOut (size : ℕ) (fields : NoticeFields) (old new : Opened) : Type 0 where
  pub gives : next_notice size old ≡ Some fields
  pub counts : new.told ≡ old.told + 1
  pub host : new.host ≡ old.host
  pub initial : new.initial ≡ old.initial
