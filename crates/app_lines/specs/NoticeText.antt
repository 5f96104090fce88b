-- The lines of notices (this profile's own).
use Rattle.std.specs.Prelude.{ℕ, ◌++◌, Bool, true, false, [], ◌∷◌, codes}
use Rattle.std.specs.Fmt.{decimal}
use Rattle.att_policy.specs.declared.standing.KeyFacts.{KeyFacts}
use Rattle.host_api.specs.declared.notice.Notice.{Notice}
use Rattle.host_api.specs.declared.notice.Notice.TheVariants.{Connected, Disconnected, Secured, Unsecured, Written, Configured, Confirmed, TimedOut, Ending, Skipped}
use Rattle.gatt_subs.specs.RowsText.{peer_text}
use Rattle.hex.specs.Hex.{encode_lower}
use Rattle.octet_io.specs.Number.{Octets}

-- 1 for true, 0 for false.
abbrev pub digit_of : Bool → ℕ
digit_of true = 49
digit_of false = 48

-- An empty value is a hyphen.
abbrev pub value_text : Octets → Octets
value_text [] = codes "-"
value_text (octet ∷ octets) = encode_lower (octet ∷ octets)

-- A word and the connection's name, then the attribute's handle.
abbrev pub of_connection : Octets → ℕ → Octets
of_connection word name = word ++ decimal name

abbrev pub of_attribute : Octets → ℕ → ℕ → Octets
of_attribute word name attribute = of_connection word name ++ 32 ∷ decimal attribute

abbrev pub facts_text : KeyFacts → Octets
facts_text facts =
    decimal facts.size ++ 32 ∷ digit_of facts.authenticated ∷ 32 ∷ digit_of facts.secure ∷ []

-- The text of a notice, with the connection's name.
abbrev pub notice_text : ℕ → Notice → Octets
notice_text name (Connected handle peer) =
    of_connection (codes "+ connected ") name ++ 32 ∷ peer_text peer
notice_text name (Disconnected handle) = of_connection (codes "+ disconnected ") name
notice_text name (Secured handle facts) =
    of_connection (codes "+ secured ") name ++ 32 ∷ facts_text facts
notice_text name (Unsecured handle) = of_connection (codes "+ unsecured ") name
notice_text name (Written handle attribute value) =
    of_attribute (codes "+ written ") name attribute ++ 32 ∷ value_text value.now
notice_text name (Configured handle attribute bits) =
    of_attribute (codes "+ configured ") name attribute ++ 32 ∷ decimal bits
notice_text name (Confirmed handle attribute) = of_attribute (codes "+ confirmed ") name attribute
notice_text name (TimedOut handle) = of_connection (codes "+ timed-out ") name
notice_text name (Ending handle reason) =
    of_connection (codes "+ ending ") name ++ 32 ∷ encode_lower (reason ∷ [])
notice_text name (Skipped handle attribute) = of_attribute (codes "+ skipped ") name attribute

unfoldable pub named_line : ℕ → Notice → Octets
named_line name notice = notice_text name notice ++ 10 ∷ []

abbrev pub connection_of : Notice → ℕ
connection_of (Connected handle peer) = handle
connection_of (Disconnected handle) = handle
connection_of (Secured handle facts) = handle
connection_of (Unsecured handle) = handle
connection_of (Written handle attribute value) = handle
connection_of (Configured handle attribute bits) = handle
connection_of (Confirmed handle attribute) = handle
connection_of (TimedOut handle) = handle
connection_of (Ending handle reason) = handle
connection_of (Skipped handle attribute) = handle

-- The line with the connection's handle as its name.
unfoldable pub notice_line : Notice → Octets
notice_line notice = named_line (connection_of notice) notice
