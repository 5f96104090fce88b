-- The lines of a script (this profile's own).
use Rattle.std.specs.Prelude.{ℕ, ◌-◌, ◌^◌, if◌then◌else◌, List, [], ◌∷◌, codes, Option, Some, None}
use Rattle.std.specs.Option.{option_map}
use Rattle.std.specs.Result.{result_ok}
use Rattle.std.specs.Str.{bytes_eq}
use Rattle.hex.specs.Hex.{decode_sized}
use Rattle.octet_io.specs.Missing.{◌>>=◌}
use Rattle.octet_io.specs.Number.{Octets}
use Rattle.text_words.specs.Split.{words_of}
use Rattle.le_l2cap.specs.declared.channel.TheConstants.{ATT, LE_SIGNALLING, SECURITY_MANAGER}
use Rattle.le_security.specs.Address.{peer_of}
use Rattle.scripts.specs.declared.act.ScriptedAct.{ScriptedAct}
use Rattle.scripts.specs.declared.act.ScriptedAct.TheVariants.{Connect, Drop, Encrypt, Clear, Send, Hold, Done}
use Rattle.scripts.specs.declared.line.Line.{Line}
use Rattle.scripts.specs.declared.line.Line.TheVariants.{Phone, Authorize, Update, Tick, Replace}
use Rattle.scripts.specs.Name.{name_of}
use Rattle.text_words.specs.Numeral.{numeral_of}
use Rattle.text_words.specs.Payload.{payload_of}

-- A random number has 16 digits, two an octet.
unfoldable pub random_number_of : Octets → Option Octets
random_number_of word = result_ok (decode_sized word 8)

-- The ATT channel, unless the sign names another one.
unfoldable pub channel_of : Octets → Option ℕ
channel_of sign =
    if bytes_eq sign (codes "<") then Some ATT
    else if bytes_eq sign (codes "<5") then Some LE_SIGNALLING
    else if bytes_eq sign (codes "<6") then Some SECURITY_MANAGER
    else None

abbrev pub of_phone : Octets → ScriptedAct → Option Line
of_phone word act = option_map (λ name. Phone name act) (name_of word)

abbrev pub authorized_until : Octets → ℕ → Option Line
authorized_until word moment = option_map (λ name. Authorize name moment) (name_of word)

-- The last time.
abbrev pub last_moment : ℕ
last_moment = 2 ^ 64 - 1

unfoldable pub line_of_one : Octets → Option Line
line_of_one first = if bytes_eq first (codes "replace") then Some Replace else None

unfoldable pub line_of_two : Octets → Octets → Option Line
line_of_two first second =
    if bytes_eq first (codes "drop") then of_phone second Drop
    else if bytes_eq first (codes "clear") then of_phone second Clear
    else if bytes_eq first (codes "hold") then of_phone second Hold
    else if bytes_eq first (codes "allow") then authorized_until second last_moment
    else if bytes_eq first (codes "deny") then authorized_until second 0
    else if bytes_eq first (codes "tick") then option_map Tick (numeral_of (2 ^ 64) second)
    else None

-- `done NAME N`.
abbrev pub done_line : Octets → Octets → Option Line
done_line name packets = numeral_of (2 ^ 16) packets >>= (λ count. of_phone name (Done count))

-- `allow NAME MS`.
abbrev pub allow_line : Octets → Octets → Option Line
allow_line name moment = numeral_of (2 ^ 64) moment >>= (λ until. authorized_until name until)

-- `update HANDLE HEX`.
abbrev pub update_line : Octets → Octets → Option Line
update_line handle value = do
  place ← numeral_of (2 ^ 16) handle
  octets ← payload_of value
  Some (Update place octets)

-- `NAME < HEX`.
abbrev pub send_line : Octets → Octets → Octets → Option Line
send_line name sign payload = do
  channel ← channel_of sign
  octets ← payload_of payload
  of_phone name (Send channel octets)

unfoldable pub line_of_three : Octets → Octets → Octets → Option Line
line_of_three first second third =
    if bytes_eq first (codes "done") then done_line second third
    else if bytes_eq first (codes "allow") then allow_line second third
    else if bytes_eq first (codes "update") then update_line second third
    else send_line first second third

-- `connect NAME KIND ADDRESS`.
abbrev pub connect_line : Octets → Octets → Octets → Option Line
connect_line name kind address = peer_of kind address >>= (λ peer. of_phone name (Connect peer))

-- `encrypt NAME RAND EDIV`.
abbrev pub encrypt_line : Octets → Octets → Octets → Option Line
encrypt_line name random diversifier = do
  number ← random_number_of random
  chosen ← numeral_of (2 ^ 16) diversifier
  of_phone name (Encrypt number chosen)

unfoldable pub line_of_four : Octets → Octets → Octets → Octets → Option Line
line_of_four first second third fourth =
    if bytes_eq first (codes "connect") then connect_line second third fourth
    else if bytes_eq first (codes "encrypt") then encrypt_line second third fourth
    else None

abbrev pub line_of_words : List Octets → Option Line
line_of_words (first ∷ []) = line_of_one first
line_of_words (first ∷ second ∷ []) = line_of_two first second
line_of_words (first ∷ second ∷ third ∷ []) = line_of_three first second third
line_of_words (first ∷ second ∷ third ∷ fourth ∷ []) = line_of_four first second third fourth
line_of_words _ = None

unfoldable pub line_of : Octets → Option Line
line_of line = line_of_words (words_of line)
