-- The expectations of a TOML document (this profile's own).
use Rattle.std.specs.Prelude.{ℕ, ◌+◌, ℤ, pos, negsuc, Bool, true, ◌&&◌, nat_le, nat_lt, if◌then◌else◌, List, [], ◌∷◌, ◌++◌, length, codes, Option, Some, None, Result, Ok}
use Rattle.std.specs.List.{find, list_any}
use Rattle.std.specs.Option.{option_and_then, option_map, option_or}
use Rattle.std.specs.Result.{result_ok}
use Rattle.std.specs.Str.{bytes_eq}
use Rattle.toml.specs.Data.{Data, Items, no_items, Members, no_members, member, as_array, as_integer, as_str, as_table, get_member}
use Rattle.toml.specs.Parse.{parse_document}
use Rattle.toml_schema.specs.Reading.{◌>>=◌, each, require, unless}
use Rattle.octet_io.specs.Number.{Octets}
use Rattle.octet_io.specs.Text.{as_text}
use Rattle.att_numbers.specs.Types.{AttributeType}
use Rattle.att_policy.specs.declared.guard.Need.{Need}
use Rattle.att_table.specs.file.Needs.{need_in, no_need}
use Rattle.att_table.specs.file.TypeText.{type_named}
use Rattle.policy_expectations.specs.declared.document.Level.{Level}
use Rattle.policy_expectations.specs.declared.document.Named.{Named}
use Rattle.policy_expectations.specs.declared.document.Uses.{Uses}
use Rattle.policy_expectations.specs.declared.expectation.Expectation.{Expectation}
use Rattle.policy_expectations.specs.declared.fault.Stop.{Stop}
use Rattle.policy_expectations.specs.declared.file.Refusal.{Refusal}
use Rattle.policy_expectations.specs.declared.file.Refusal.TheVariants.{File}

-- The words for a need: each key of a need alone, and everybody or nobody.
abbrev pub needs_by_word : List (Octets × Option Need)
needs_by_word =
    (codes "nobody", None) ∷ (codes "everybody", Some no_need)
    ∷ (codes "encrypted", Some (record no_need { encrypted = true }))
    ∷ (codes "authenticated", Some (record no_need { authenticated = true }))
    ∷ (codes "secure", Some (record no_need { secure = true }))
    ∷ (codes "authorized", Some (record no_need { authorized = true })) ∷ []

abbrev pub need_named : Octets → Option (Option Need)
need_named word =
    option_map (λ (row : Octets × Option Need). row.1)
    (find (λ (row : Octets × Option Need). bytes_eq word row.0) needs_by_word)

-- A word, or the requirements table of a table file.
abbrev pub need_among : Option Octets → Option Members → Option (Option Need)
need_among (Some word) members = need_named word
need_among None (Some members) = option_map (λ need. Some need) (result_ok (need_in members))
need_among None None = None

-- A use without its key is for nobody.
abbrev pub need_written : Option Data → Option (Option Need)
need_written None = Some None
need_written (Some value) = need_among (as_str value) (as_table value)

abbrev pub need_of_member : Octets → Members → Option (Option Need)
need_of_member key members = need_written (get_member key members)

-- Without a key of its own, a subscription is for those who are meant to be sent the value.
abbrev pub subscribe_written : Option Need → Option Data → Option (Option Need)
subscribe_written sent None = Some sent
subscribe_written sent (Some value) = need_written (Some value)

-- A type, by the texts of a table file.
abbrev pub type_written : Option Data → Option (Option AttributeType)
type_written None = Some None
type_written (Some value) =
    option_map (λ kind. Some kind) (option_and_then type_named (as_str value))

abbrev pub type_of_member : Octets → Members → Option (Option AttributeType)
type_of_member key members = type_written (get_member key members)

-- A number from 1 to 1,024.
abbrev pub number_among : Option ℤ → Option (Option ℕ)
number_among None = None
number_among (Some (pos number)) =
    if nat_le 1 number && nat_le number 1024 then Some (Some number) else None
number_among (Some (negsuc _)) = None

abbrev pub number_written : Option Data → Option (Option ℕ)
number_written None = Some None
number_written (Some value) = number_among (as_integer value)

-- A table has only the keys of its level.
abbrev pub is_file_key : Octets → Bool
is_file_key key = bytes_eq key (codes "expect")

abbrev pub expectation_keys : List Octets
expectation_keys =
    codes "characteristic" ∷ codes "service" ∷ codes "number" ∷ codes "descriptor" ∷ codes "read"
    ∷ codes "write" ∷ codes "command" ∷ codes "notify" ∷ codes "indicate"
    ∷ codes "subscribe" ∷ []

abbrev pub is_expectation_key : Octets → Bool
is_expectation_key key = list_any (λ known. bytes_eq key known) expectation_keys

abbrev pub is_known_key : Level → Octets → Bool
is_known_key Level.File key = is_file_key key
is_known_key Level.Expectation key = is_expectation_key key

abbrev pub are_known : Level → Members → Bool
are_known level no_members = true
are_known level (member key value rest) = is_known_key level key && are_known level rest

-- The attributes that an expectation names; each fault is `File`.
unfoldable pub named_in : Members → Result Named Refusal
named_in members = do
  kind ← require (type_of_member (codes "characteristic") members) File
  characteristic ← require kind File
  service ← require (type_of_member (codes "service") members) File
  number ← require (number_written (get_member (codes "number") members)) File
  descriptor ← require (type_of_member (codes "descriptor") members) File
  Ok (record {
    characteristic = characteristic;
    service = service;
    number = number;
    descriptor = descriptor;
  })

unfoldable pub uses_in : Members → Result Uses Refusal
uses_in members = do
  read ← require (need_of_member (codes "read") members) File
  write ← require (need_of_member (codes "write") members) File
  command ← require (need_of_member (codes "command") members) File
  notify ← require (need_of_member (codes "notify") members) File
  indicate ← require (need_of_member (codes "indicate") members) File
  subscribe ← require
      (subscribe_written (option_or notify indicate) (get_member (codes "subscribe") members))
      File
  Ok (record {
    read = read;
    write = write;
    command = command;
    notify = notify;
    indicate = indicate;
    subscribe = subscribe;
  })

-- An expectation at a place of the file.
abbrev pub expectation_with : ℕ → Named → Uses → Expectation
expectation_with place named uses =
    record {
      place = place;
      characteristic = named.characteristic;
      service = named.service;
      number = named.number;
      descriptor = named.descriptor;
      read = uses.read;
      write = uses.write;
      command = uses.command;
      notify = uses.notify;
      indicate = uses.indicate;
      subscribe = uses.subscribe;
    }

abbrev pub expectation_of : ℕ → Members → Result Expectation Refusal
expectation_of place members = do
  _ ← unless (are_known Level.Expectation members) File
  named ← named_in members
  uses ← uses_in members
  Ok (expectation_with place named uses)

abbrev pub expectation_in : ℕ → Data → Result Expectation Refusal
expectation_in place value = do
  members ← require (as_table value) File
  expectation_of place members

-- At most 1,024 expectations, with places from 1.
abbrev pub expectation_step : List Expectation → Data → Result (List Expectation) Refusal
expectation_step expectations value = do
  _ ← unless (nat_lt (length expectations) 1024) File
  expected ← expectation_in (length expectations + 1) value
  Ok (expectations ++ expected ∷ [])

-- Without the key there are none.
abbrev pub items_written : Option Data → Option Items
items_written None = Some no_items
items_written (Some value) = as_array value

abbrev pub expectations_of : Members → Result (List Expectation) Refusal
expectations_of members = do
  _ ← unless (are_known Level.File members) File
  items ← require (items_written (get_member (codes "expect") members)) File
  each expectation_step [] items

abbrev pub expectations_read : Octets → Result (List Expectation) Refusal
expectations_read text = do
  members ← require (parse_document text) File
  expectations_of members

-- The expectations of a file with these bytes.
unfoldable pub expectations_in : Octets → Result (List Expectation) Refusal
expectations_in bytes = as_text expectations_read File bytes

-- A reader stopped at a fault of the file, not for want of memory.
abbrev pub IsFault : Stop → Type 0
IsFault (Stop.Refused fault) = Unit {0}
IsFault Stop.Memory = ⊥
