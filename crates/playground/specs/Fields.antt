-- The rights of a table as lines of fields, which a page makes a table of (this profile's own).
use Rattle.std.specs.Prelude.{if◌then◌else◌, List, [], ◌∷◌, ◌++◌, codes}
use Rattle.std.specs.Fmt.{decimal}
use Rattle.std.specs.List.{flat_map}
use Rattle.hex.specs.Hex.{encode_lower}
use Rattle.octet_io.specs.Number.{Octets}
use Rattle.att_numbers.specs.AttributeType.{type_octets}
use Rattle.att_attributes.specs.declared.attr.Attr.{Attr}
use Rattle.att_attributes.specs.declared.attr.Role.{Role}
use Rattle.att_attributes.specs.declared.attr.Role.TheVariants.{Declaration, Value, Configuration, Descriptor}
use Rattle.att_attributes.specs.Group.{is_service_type}
use Rattle.att_table.specs.Table.{Contents}
use Rattle.le_hci.specs.declared.peer.Peer.{Peer}
use Rattle.le_security.specs.declared.entry.Entry.{Entry}
use Rattle.policy_rights.specs.Columns.{columns_among, peers_of_kind}
use Rattle.policy_words.specs.Table.{length_text, told_value}
use Rattle.policy_words.specs.TypeText.{type_text}
use Rattle.policy_words.specs.Cell.{cell_text}
use Rattle.policy_words.specs.Columns.{named_from}
use Rattle.policy_words.specs.Legend.{key_text, peer_words}
use Rattle.policy_words.specs.declared.columns.Column.{Column}

-- A peer with a key of the kind of a column.
unfoldable pub peer_data : Column → Peer → Octets
peer_data column peer =
    codes "peer\t" ++ column.name ∷ 9 ∷ peer_words peer ++ 10 ∷ []

-- A column, and each of its peers once.
unfoldable pub column_data : List Entry → Column → Octets
column_data keys column =
    codes "column\t" ++ column.name ∷ 9 ∷ key_text column.key ++ 10 ∷ []
    ++ flat_map (peer_data column) (peers_of_kind keys column.key)

-- The cell of an attribute in each column.
abbrev pub cell_data : Contents → Attr → Column → Octets
cell_data table attr column = 9 ∷ cell_text table.attributes attr.handle column.key

-- The handle, the type, the length and the value at first of an attribute.
unfoldable pub name_data : Attr → Octets
name_data attr =
    codes "row\t" ++ decimal attr.handle ++ 9 ∷ type_text (type_octets attr.kind) ++ 9
    ∷ length_text attr.role attr

unfoldable pub row_data : Contents → List Column → Attr → Octets
row_data table columns attr =
    name_data attr ++ 9 ∷ encode_lower (told_value table attr.handle)
    ++ flat_map (cell_data table attr) columns ++ 10 ∷ []

unfoldable pub service_data : Contents → Attr → Octets
service_data table attr =
    if is_service_type attr.kind
    then codes "service\t" ++ type_text (told_value table attr.handle) ++ 10 ∷ [] else []

abbrev pub line_data_by : Role → Contents → List Column → Attr → Octets
line_data_by Declaration table columns attr = service_data table attr
line_data_by Value table columns attr = row_data table columns attr
line_data_by Configuration table columns attr = []
line_data_by Descriptor table columns attr = row_data table columns attr

abbrev pub line_data : Contents → List Column → Attr → Octets
line_data table columns attr = line_data_by attr.role table columns attr

abbrev pub page_columns : List Entry → List Column
page_columns keys = named_from 65 (columns_among keys)

-- The columns, and then the attributes.
unfoldable pub rights_data : Contents → List Entry → Octets
rights_data table keys =
    flat_map (column_data keys) (page_columns keys)
    ++ flat_map (line_data table (page_columns keys)) table.attributes
