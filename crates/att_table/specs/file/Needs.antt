-- The requirements tables (this profile's own).
use Rattle.std.specs.Prelude.{false, Option, Some, None, Result, Ok, codes}
use Rattle.octet_io.specs.Number.{Octets}
use Rattle.toml.specs.Data.{Members}
use Rattle.toml_schema.specs.Reading.{◌>>=◌, unless, flag_at, integer_at, table_at}
use Rattle.toml_schema.specs.Shape.{is_shaped}
use Rattle.att_policy.specs.declared.guard.Need.{Need}
use Rattle.att_table.specs.declared.table_fault.TableFault.{TableFault}
use Rattle.att_table.specs.declared.table_fault.TableFault.TheVariants.{BadSecurity}
use Rattle.att_table.specs.file.Field.{key_size_asked}
use Rattle.att_table.specs.file.Keys.{need_keys}

abbrev pub no_need : Need
no_need =
    record {
      encrypted = false;
      authenticated = false;
      key_size = None;
      authorized = false;
      secure = false;
    }

abbrev pub need_in : Members → Result Need TableFault
need_in members = do
  _ ← unless (is_shaped need_keys members) BadSecurity
  size ← key_size_asked (integer_at (codes "key_size") members)
  Ok (record {
    encrypted = flag_at (codes "encrypted") members;
    authenticated = flag_at (codes "authenticated") members;
    key_size = size;
    authorized = flag_at (codes "authorized") members;
    secure = flag_at (codes "secure") members;
  })

abbrev pub need_read : Option Members → Result Need TableFault
need_read None = Ok no_need
need_read (Some members) = need_in members

abbrev pub need_at : Octets → Members → Result Need TableFault
need_at key members = need_read (table_at key members)
