-- The entries of a key file, or its first fault (this profile's own).
use Rattle.std.specs.Prelude.{List, [], ◌∷◌, ◌++◌, codes, Result, Ok}
use Rattle.octet_io.specs.Number.{Octets}
use Rattle.octet_io.specs.Text.{as_text}
use Rattle.toml.specs.Data.{Data, Members}
use Rattle.toml.specs.Parse.{parse_document}
use Rattle.toml_schema.specs.Reading.{◌>>=◌, unless, require, each, items_at}
use Rattle.toml_schema.specs.Shape.{Keys, is_shaped}
use Rattle.toml_schema.specs.declared.shape.Shape.TheVariants.{Tables}
use Rattle.le_security.specs.declared.entry.Entry.{Entry}
use Rattle.le_security.specs.declared.key_fault.KeyFault.{KeyFault}
use Rattle.le_security.specs.declared.key_fault.KeyFault.TheVariants.{NotToml, Shape}
use Rattle.le_security.specs.EntryFile.{entry_after}

abbrev pub key_file_keys : Keys
key_file_keys = (codes "key", Tables) ∷ []

abbrev pub key_step : List Entry → Data → Result (List Entry) KeyFault
key_step entries value = do
  entry ← entry_after entries value
  Ok (entries ++ entry ∷ [])

abbrev pub keys_of : Members → Result (List Entry) KeyFault
keys_of members = do
  _ ← unless (is_shaped key_file_keys members) Shape
  each key_step [] (items_at (codes "key") members)

abbrev pub keys_read : Octets → Result (List Entry) KeyFault
keys_read text = do
  members ← require (parse_document text) NotToml
  keys_of members

-- The entries of a key file with these bytes. (P-KEY-1)
unfoldable pub keys_in : Octets → Result (List Entry) KeyFault
keys_in bytes = as_text keys_read NotToml bytes
