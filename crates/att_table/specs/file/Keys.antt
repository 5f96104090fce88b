-- The allowed keys of a table file and their TOML types (this profile's own).
use Rattle.std.specs.Prelude.{[], ◌∷◌, codes}
use Rattle.toml_schema.specs.Shape.{Keys}
use Rattle.toml_schema.specs.declared.shape.Shape.TheVariants.{Text, Boolean, Integer, Table, Texts, Integers, Tables}

abbrev pub table_file_keys : Keys
table_file_keys = (codes "service", Tables) ∷ []

abbrev pub service_keys : Keys
service_keys =
    (codes "uuid", Text) ∷ (codes "secondary", Boolean) ∷ (codes "include", Integers)
    ∷ (codes "characteristic", Tables) ∷ []

abbrev pub descriptor_keys : Keys
descriptor_keys =
    (codes "uuid", Text) ∷ (codes "properties", Texts) ∷ (codes "value", Text)
    ∷ (codes "max", Integer)
    ∷ (codes "fixed", Boolean) ∷ (codes "read", Table) ∷ (codes "write", Table) ∷ []

abbrev pub characteristic_keys : Keys
characteristic_keys = (codes "config", Table) ∷ (codes "descriptor", Tables) ∷ descriptor_keys

abbrev pub need_keys : Keys
need_keys =
    (codes "encrypted", Boolean) ∷ (codes "authenticated", Boolean) ∷ (codes "authorized", Boolean)
    ∷ (codes "secure", Boolean) ∷ (codes "key_size", Integer) ∷ []
