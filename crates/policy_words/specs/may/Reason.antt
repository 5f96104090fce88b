-- An answer in words: the rule by its key of the table file, and the error code by its name in the
-- Core Specification (Core 5.2, Vol 3 Part F, 3.4.1.1, Table 3.3).
use Rattle.std.specs.Prelude.{ℕ, if◌then◌else◌, List, [], ◌∷◌, ◌++◌, codes, unwrap_or}
use Rattle.std.specs.Fmt.{decimal}
use Rattle.std.specs.Option.{option_map_or}
use Rattle.hex.specs.Hex.{encode_lower}
use Rattle.octet_io.specs.Number.{Octets}
use Rattle.att_numbers.specs.Types.{Code, Handle}
use Rattle.att_numbers.specs.ErrorCode.{error_name}
use Rattle.att_policy.specs.Need.{key_size_of}
use Rattle.att_policy.specs.Policy.{need_of}
use Rattle.att_policy.specs.declared.policy.Access.{Access}
use Rattle.att_policy.specs.declared.policy.Access.TheVariants.{Read, Write, Command}
use Rattle.att_policy.specs.declared.policy.Rule.{Rule}
use Rattle.att_policy.specs.declared.policy.Rule.TheVariants.{HandleExists, Property, Encryption, Authentication, KeySize, SecureConnections, Authorization}
use Rattle.att_attributes.specs.declared.attr.Attr.{Attr}
use Rattle.att_attributes.specs.Attributes.{attribute_at, is_configuration_at}
use Rattle.policy_rights.specs.declared.rights.Right.{Right}
use Rattle.policy_words.specs.declared.may.verdict.Verdict.{Verdict}
use Rattle.policy_words.specs.declared.may.verdict.Verdict.TheVariants.{Yes, Refused, NoConfiguration, NoSubscription, Silent}

abbrev pub property_word : Right → Octets
property_word Right.Read = codes "read"
property_word Right.Write = codes "write"
property_word Right.Command = codes "command"
property_word Right.Notify = codes "notify"
property_word Right.Indicate = codes "indicate"
property_word Right.Subscribe = codes "notify` or `indicate"

-- The access that a right is; a subscription is a write of the configuration.
abbrev pub access_of : Right → Access
access_of Right.Read = Read
access_of Right.Command = Command
access_of _ = Write

-- The key of the table file with the requirements of an access.
abbrev pub place_word : List Attr → Handle → Access → Octets
place_word attributes handle Read = codes "read"
place_word attributes handle _ =
    if is_configuration_at attributes handle then codes "config" else codes "write"

-- The least size of a key for an access.
abbrev pub size_at : List Attr → Handle → Access → ℕ
size_at attributes handle access =
    option_map_or (λ (attr : Attr). key_size_of (need_of access attr.guard))
    (attribute_at attributes handle) 0

abbrev pub ending_in_quote : Octets → Octets → Octets
ending_in_quote front word = front ++ word ++ 96 ∷ []

abbrev pub property_text : Right → Octets
property_text right = ending_in_quote (codes "it has no property `") (property_word right)

unfoldable pub size_text : ℕ → Octets
size_text size = codes "key_size = " ++ decimal size

unfoldable pub needed_text : Octets → Octets → Octets
needed_text place need = 96 ∷ place ++ codes "` needs `" ++ need ++ 96 ∷ []

abbrev pub rule_text : List Attr → Handle → Access → Right → Rule → Octets
rule_text attributes handle access right HandleExists = []
rule_text attributes handle access right Property = property_text right
rule_text attributes handle access right Encryption =
    needed_text (place_word attributes handle access) (codes "encrypted")
rule_text attributes handle access right Authentication =
    needed_text (place_word attributes handle access) (codes "authenticated")
rule_text attributes handle access right KeySize =
    needed_text (place_word attributes handle access) (size_text (size_at attributes handle access))
rule_text attributes handle access right SecureConnections =
    needed_text (place_word attributes handle access) (codes "secure")
rule_text attributes handle access right Authorization =
    needed_text (place_word attributes handle access) (codes "authorized")

unfoldable pub error_text : Code → Octets
error_text code =
    unwrap_or (error_name code) [] ++ codes " (" ++ encode_lower (code ∷ []) ++ 41 ∷ []

-- A missing attribute is named by the error code alone.
abbrev pub separator : Rule → Octets
separator HandleExists = []
separator _ = codes ", "

abbrev pub verdict_front : Verdict → Octets
verdict_front Yes = codes "yes"
verdict_front (Refused rule code) = codes "no: "
verdict_front NoConfiguration = codes "no: it may not subscribe: "
verdict_front (NoSubscription configuration rule code) = codes "no: it may not subscribe: "
verdict_front (Silent rule) = codes "no: nothing is sent: "

-- The rule of an access, of the configuration behind a value, or of reading.
abbrev pub verdict_rule : List Attr → Handle → Right → Verdict → Octets
verdict_rule attributes handle right Yes = []
verdict_rule attributes handle right (Refused rule code) =
    rule_text attributes handle (access_of right) right rule
verdict_rule attributes handle right NoConfiguration = property_text right
verdict_rule attributes handle right (NoSubscription configuration rule code) =
    rule_text attributes configuration Write right rule
verdict_rule attributes handle right (Silent rule) =
    rule_text attributes handle Read right rule

abbrev pub verdict_code : Verdict → Octets
verdict_code (Refused rule code) = separator rule ++ error_text code
verdict_code (NoSubscription configuration rule code) = separator rule ++ error_text code
verdict_code _ = []

unfoldable pub verdict_text : List Attr → Handle → Right → Verdict → Octets
verdict_text attributes handle right verdict =
    verdict_front verdict ++ verdict_rule attributes handle right verdict ++ verdict_code verdict
