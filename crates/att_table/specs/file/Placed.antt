-- Attributes with their values, and their addition to a table.
use Rattle.std.specs.Prelude.{ℕ, ◌+◌, true, [], ◌∷◌, ◌++◌, length, Result, Ok}
use Rattle.octet_io.specs.Number.{Octets}
use Rattle.att_numbers.specs.Types.{Handle, AttributeType}
use Rattle.att_policy.specs.declared.guard.TheConstants.Properties.{READ}
use Rattle.toml_schema.specs.Reading.{◌>>=◌, unless}
use Rattle.att_attributes.specs.declared.attr.Attr.{Attr}
use Rattle.att_attributes.specs.declared.attr.Role.TheVariants.{Declaration}
use Rattle.att_table.specs.declared.table_fault.TableFault.{TableFault}
use Rattle.att_table.specs.declared.table_fault.TableFault.TheVariants.{TooMany}
use Rattle.att_table.specs.file.Limits.{is_within_limits}
use Rattle.att_table.specs.file.Needs.{no_need}
use Rattle.att_table.specs.Table.{Contents}

abbrev pub next_handle : Contents → Handle
next_handle table = length table.attributes + 1

-- The table with the attribute at its end, if within the limits.
abbrev pub add : Contents → Attr → Octets → Result Contents TableFault
add table attr value = do
  _ ← unless (is_within_limits (table.attributes ++ attr ∷ [])) TooMany
  Ok (record { attributes = table.attributes ++ attr ∷ []; values = table.values ++ value ∷ [] })

-- A declaration, which every client may read. (P-TAB-4)
abbrev pub declaration : Handle → AttributeType → ℕ → Attr
declaration handle kind length = record {
  handle = handle;
  kind = kind;
  largest = length;
  fixed = true;
  role = Declaration;
  guard = record { properties = READ; read = no_need; write = no_need };
}

abbrev pub declare : Contents → AttributeType → Octets → Result Contents TableFault
declare table kind value = add table (declaration (next_handle table) kind (length value)) value
