-- The rights that a new table and key file open and close, as `compare` prints them (this
-- profile's own).
use Rattle.std.specs.Prelude.{◌-◌, ◌==◌, if◌then◌else◌, List, [], ◌∷◌, ◌++◌, length, take, Option, None, Some, codes}
use Rattle.std.specs.List.{flat_map}
use Rattle.octet_io.specs.Number.{Octets}
use Rattle.att_numbers.specs.Types.{Handle}
use Rattle.att_policy.specs.declared.standing.KeyFacts.{KeyFacts}
use Rattle.att_table.specs.Changer.{changer_of}
use Rattle.att_table.specs.Table.{Contents}
use Rattle.le_security.specs.declared.entry.Entry.{Entry}
use Rattle.policy_rights.specs.Columns.{columns_among, with_columns}
use Rattle.policy_rights.specs.Kinds.{every_kind}
use Rattle.policy_words.specs.Columns.{named_from}
use Rattle.policy_words.specs.Legend.{legend_text}
use Rattle.policy_words.specs.declared.columns.Column.{Column}
use Rattle.policy_words.specs.compare.Changed.{changed_lines}
use Rattle.policy_words.specs.compare.Lines.{alone_line, dropped_line, gaining_key_line, lasting_line, moved_line, pair_lines}
use Rattle.policy_words.specs.compare.Pairing.{pairs_of}
use Rattle.policy_words.specs.declared.compare.pairing.Pair.{Pair}

-- The kinds of keys in two key files have columns; without a key there is none.
abbrev pub kinds_of_both : List Entry → List Entry → List (Option KeyFacts)
kinds_of_both [] [] = []
kinds_of_both keys others = with_columns (columns_among keys) others

abbrev pub columns_of_both : List Entry → List Entry → List Column
columns_of_both keys other_keys = named_from 65 (kinds_of_both other_keys keys)

-- The rights that a table and a key file give and the others do not, for some kinds of keys.
unfoldable pub gains_lines :
    List (Option KeyFacts) → List Column → Contents → List Entry → Contents → List Entry → Octets
gains_lines kinds columns table keys other other_keys =
    flat_map (pair_lines table.attributes other.attributes kinds columns)
    (pairs_of table other)
    ++ flat_map (gaining_key_line other_keys table.attributes) keys

-- A section without lines has these words in place of its heading.
abbrev pub section : Octets → Octets → Octets → Octets
section heading nothing [] = nothing
section heading nothing (octet ∷ octets) = heading ++ octet ∷ octets

unfoldable pub opened_text : Octets → Octets
opened_text lines =
    section (codes "Opened:" ++ 10 ∷ [])
    (codes "Nothing is opened, for clients with every kind of key and without one." ++ 10 ∷ [])
    lines

unfoldable pub closed_text : Octets → Octets
closed_text lines =
    section (codes "Closed:" ++ 10 ∷ [])
    (codes "Nothing is closed, for clients with every kind of key and without one." ++ 10 ∷ [])
    lines

-- Lines after a heading; without lines there is none.
abbrev pub lines_under : Octets → Octets → Octets
lines_under heading lines = section (heading ++ 10 ∷ []) [] lines

abbrev pub moved_lines : List Pair → List Pair → Octets
moved_lines pairs others = flat_map (moved_line pairs others) pairs

abbrev pub alone_lines : List Pair → List Pair → Octets
alone_lines pairs others = flat_map (alone_line pairs others) pairs

-- The changes that a client meets which remembers the old table.
unfoldable pub places_text : List Pair → List Pair → Octets
places_text pairs others =
    lines_under (codes "Moved to another handle:") (moved_lines pairs others)
    ++ lines_under (codes "New:") (alone_lines pairs others)
    ++ lines_under (codes "Gone:") (alone_lines others pairs)

abbrev pub lines_of_changes : Contents → Contents → List Pair → List Pair → Octets
lines_of_changes table other pairs others = flat_map (changed_lines table other pairs others) pairs

abbrev pub dropped_lines : Contents → Contents → Octets
dropped_lines table other =
    flat_map (dropped_line other.attributes table.attributes) other.attributes

abbrev pub still_sent_lines :
    List (Option KeyFacts) → List Column → Contents → Contents → Octets
still_sent_lines kinds columns table other =
    flat_map (lasting_line other.attributes table.attributes kinds columns) other.attributes

unfoldable pub moves_text :
    List (Option KeyFacts) → List Column → Contents → Contents → Octets
moves_text kinds columns table other =
    lines_under (codes "Changed:")
    (lines_of_changes table other (pairs_of table other) (pairs_of other table))
    ++ places_text (pairs_of table other) (pairs_of other table)
    ++ lines_under (codes "Subscriptions that are dropped:") (dropped_lines table other)
    ++ lines_under (codes "Subscriptions that last although they are closed:")
    (still_sent_lines kinds columns table other)

abbrev pub all_reached_text : Octets
all_reached_text = codes "Service Changed reaches the peers that subscribed to it." ++ 10 ∷ []

abbrev pub unreached_text : Octets
unreached_text =
    codes "Service Changed reaches no peer: it is not at the same handle in both tables." ++ 10 ∷ []

-- Service Changed reaches a peer only if both tables have it at the same handle (Core 5.0, Vol 3
-- Part G, 2.5.2).
abbrev pub reached_text : Option Handle → Option Handle → Octets
reached_text None None =
    codes "No peer is reached: neither table has a Service Changed characteristic." ++ 10 ∷ []
reached_text None (Some other) = unreached_text
reached_text (Some one) None = unreached_text
reached_text (Some one) (Some other) = if one == other then all_reached_text else unreached_text

-- The letters and the columns, if there are any. Without columns no empty line ends the text.
abbrev pub without_last : Octets → Octets
without_last octets = take (length octets - 1) octets

abbrev pub legend_of : List Entry → List Column → Octets
legend_of keys [] = without_last (legend_text keys [] [])
legend_of keys (column ∷ columns) = legend_text keys (column ∷ columns) (column ∷ columns)

abbrev pub legend_if_any : Octets → Octets → Octets
legend_if_any [] legend = []
legend_if_any (octet ∷ octets) legend = 10 ∷ legend

abbrev pub opened_lines : Contents → List Entry → Contents → List Entry → Octets
opened_lines table keys other other_keys =
    gains_lines every_kind (columns_of_both keys other_keys) table keys other other_keys

abbrev pub closed_lines : Contents → List Entry → Contents → List Entry → Octets
closed_lines table keys other other_keys =
    gains_lines every_kind (columns_of_both keys other_keys) other other_keys table keys

unfoldable pub comparison_text : Contents → List Entry → Contents → List Entry → Octets
comparison_text table keys other other_keys =
    opened_text (opened_lines table keys other other_keys)
    ++ closed_text (closed_lines table keys other other_keys)
    ++ moves_text every_kind (columns_of_both keys other_keys) table other
    ++ reached_text (changer_of table) (changer_of other)
    ++ legend_if_any
    (opened_lines table keys other other_keys ++ closed_lines table keys other other_keys)
    (legend_of keys (columns_of_both keys other_keys))
