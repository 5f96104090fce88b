-- The findings of a table in words (this profile's own).
use Rattle.std.specs.Prelude.{ℕ, List, [], ◌∷◌, ◌++◌, codes}
use Rattle.std.specs.Fmt.{decimal}
use Rattle.std.specs.List.{flat_map}
use Rattle.octet_io.specs.Number.{Octets}
use Rattle.att_numbers.specs.Types.{Handle}
use Rattle.att_policy.specs.declared.standing.KeyFacts.{KeyFacts}
use Rattle.policy_rights.specs.declared.finding.Finding.{Finding}
use Rattle.policy_rights.specs.declared.finding.Finding.TheVariants.{OpenWrite, ShortKey, EasyWrite, IdleReadRule, IdleWriteRule, ForgedAddress, NoSubscriber, LastingSubscription, EasySubscription, NoProperty, Unused, EmptyService, NoServiceChanged, IdleKey, NoKeyMatters, ShortestKey, PrivateAddress}
use Rattle.le_hci.specs.declared.peer.Peer.{Peer}
use Rattle.text_words.specs.Cells.{right}
use Rattle.policy_words.specs.Legend.{peer_words, strength_text}

abbrev pub at_handle : Handle → Octets → Octets
at_handle handle words = right 5 (decimal handle) ++ codes "  " ++ words

abbrev pub short_writer_words : ℕ → Octets
short_writer_words size =
    decimal size ++ codes " may write it: `key_size = 16` in `write` would exclude it"

unfoldable pub short_key_words : Handle → ℕ → Octets
short_key_words handle size = at_handle handle (codes "a key of ") ++ short_writer_words size

abbrev pub idle_key_words : KeyFacts → Octets
idle_key_words key =
    codes "       a " ++ strength_text key ++ codes " permits no more than no key"

abbrev pub shortest_key_words : KeyFacts → Octets
shortest_key_words key =
    codes "       a " ++ strength_text key ++ codes " is shorter than all others"

abbrev pub private_address_words : Peer → Octets
private_address_words peer =
    codes "       " ++ peer_words peer ++ codes " is a private address, which its client changes"

-- Each finding has the key of the file that would change it.
abbrev pub finding_words : Finding → Octets
finding_words (OpenWrite handle) =
    at_handle handle (codes "everybody may write it: `write` has no rule")
finding_words (ShortKey handle size) = short_key_words handle size
finding_words (EasyWrite handle) =
    at_handle handle (codes "to write it needs less than to read it: compare `write` and `read`")
finding_words (IdleReadRule handle) =
    at_handle handle (codes "`read` has no effect: there is no property read, notify or indicate")
finding_words (IdleWriteRule handle) =
    at_handle handle (codes "`write` has no effect: there is no property write or command")
finding_words (ForgedAddress handle) =
    at_handle handle
    (codes "`authorized` without `encrypted`: a stranger can use the address of another")
finding_words (NoSubscriber handle) =
    at_handle handle (codes "nobody with a key of the file may subscribe to it and be sent it")
finding_words (LastingSubscription handle) =
    at_handle handle
    (codes "who subscribed once is sent it as long as `read` permits: `config` needs more")
finding_words (EasySubscription handle) =
    at_handle handle
    (codes "to subscribe needs less than to be sent it: compare `config` and `read`")
finding_words (NoProperty handle) =
    at_handle handle (codes "nobody may use it: `properties` is empty")
finding_words (Unused handle) =
    at_handle handle (codes "nobody with a key of the key file may use it")
finding_words (EmptyService handle) = at_handle handle (codes "a service without characteristics")
finding_words NoServiceChanged =
    codes "       no Service Changed (1801, 2a05): after another table clients use old handles"
finding_words (IdleKey key) = idle_key_words key
finding_words NoKeyMatters = codes "       no key makes a difference to this table"
finding_words (ShortestKey key) = shortest_key_words key
finding_words (PrivateAddress peer) = private_address_words peer

abbrev pub finding_text : Finding → Octets
finding_text finding = finding_words finding ++ 10 ∷ []

abbrev pub look_text : List Finding → Octets
look_text [] = codes "Nothing to look at twice." ++ 10 ∷ []
look_text (finding ∷ findings) =
    codes "Look twice:" ++ 10 ∷ flat_map finding_text (finding ∷ findings)
