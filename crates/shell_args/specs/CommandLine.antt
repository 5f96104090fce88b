-- The command line of the program, in terms of clap's specification.
use Rattle.std.specs.Prelude.{◌≡◌, ℕ, List, [], ◌∷◌, codes, map, take, unwrap_or, Bool, true, false, Option, Some, None, IfSome, option_map}
use Rattle.clap.specs.Words.{App, Row, Rule, Shape, Text, all_of, first_of, new_app, new_rule, one_of, with_rule, with_subcommand}
use Rattle.clap.specs.declared.builder.action.ArgAction.TheVariants.{Append, Set, SetTrue}
use Rattle.shell_args.specs.declared.argument.Argument.{Argument}
use Rattle.shell_args.specs.declared.argument.Takes.{Takes}
use Rattle.shell_args.specs.declared.argument.Takes.TheVariants.{Path, PathIfAny, Value, Values, Nothing}
use Rattle.shell_args.specs.declared.subcommand.Subcommand.{Subcommand}
use Rattle.shell_args.specs.declared.words.Choice.{Choice}
use Rattle.shell_args.specs.declared.words.Choice.TheVariants.{Att, Check, Show, May, Compare, Expect, Run, Words, Serve, Host, Tell}

-- A required path.
abbrev pub file_rule : Text → Rule
file_rule name = record (new_rule name) { required = true; action = Some Set }

-- An optional path.
abbrev pub optional_rule : Text → Rule
optional_rule name = record (new_rule name) { action = Some Set }

-- An option with a value.
abbrev pub option_rule : Text → Rule
option_rule name = record (new_rule name) { long = Some name; action = Some Set; value_names = 1 }

-- An option that may be repeated.
abbrev pub list_rule : Text → Rule
list_rule name = record (new_rule name) { long = Some name; action = Some Append; value_names = 1 }

-- A flag.
abbrev pub flag_rule : Text → Rule
flag_rule name = record (new_rule name) { long = Some name; action = Some SetTrue }

-- The parser's rule for a kind of argument.
abbrev pub rule_taking : Takes → Text → Rule
rule_taking Path name = file_rule name
rule_taking PathIfAny name = optional_rule name
rule_taking (Value word) name = option_rule name
rule_taking (Values word) name = list_rule name
rule_taking Nothing name = flag_rule name

abbrev pub rule_for : Argument → Rule
rule_for argument = rule_taking argument.takes argument.name.now

abbrev pub with_rules : App → List Rule → App
with_rules app [] = app
with_rules app (rule ∷ rules) = with_rules (with_rule app rule) rules

abbrev pub shape_with : Text → List Rule → Shape
shape_with name rules = (with_rules (new_app name) rules).top

abbrev pub shape_for : Subcommand → Shape
shape_for subcommand = shape_with subcommand.name.now (map rule_for subcommand.arguments.now)

abbrev pub with_subcommands : App → List Shape → App
with_subcommands app [] = app
with_subcommands app (sub ∷ subs) = with_subcommands (with_subcommand app sub) subs

abbrev pub att_shape : Shape
att_shape = shape_with (codes "att") (flag_rule (codes "words") ∷ [])

abbrev pub check_shape : Shape
check_shape = shape_with (codes "check") (file_rule (codes "TABLE") ∷ file_rule (codes "KEYS") ∷ [])

abbrev pub show_shape : Shape
show_shape =
    shape_with (codes "show")
    (file_rule (codes "TABLE") ∷ optional_rule (codes "KEYS") ∷ option_rule (codes "rows")
    ∷ flag_rule (codes "attributes") ∷ option_rule (codes "width") ∷ [])

abbrev pub may_shape : Shape
may_shape = shape_with (codes "may") (
    file_rule (codes "TABLE")
    ∷ file_rule (codes "KEYS")
    ∷ file_rule (codes "PEER")
    ∷ file_rule (codes "RIGHT")
    ∷ file_rule (codes "HANDLE")
    ∷ flag_rule (codes "authorized")
    ∷ flag_rule (codes "unencrypted")
    ∷ [])

abbrev pub compare_shape : Shape
compare_shape =
    shape_with (codes "compare")
    (file_rule (codes "OLD") ∷ file_rule (codes "NEW") ∷ optional_rule (codes "KEYS")
    ∷ option_rule (codes "new-keys") ∷ [])

abbrev pub expect_shape : Shape
expect_shape =
    shape_with (codes "expect")
    (file_rule (codes "TABLE") ∷ file_rule (codes "FILE") ∷ optional_rule (codes "EXPECTATIONS")
    ∷ [])

abbrev pub run_shape : Shape
run_shape = shape_with (codes "run") (
    file_rule (codes "TABLE")
    ∷ file_rule (codes "KEYS")
    ∷ file_rule (codes "SCRIPT")
    ∷ option_rule (codes "rows")
    ∷ option_rule (codes "next")
    ∷ option_rule (codes "rx-mtu")
    ∷ flag_rule (codes "notices")
    ∷ flag_rule (codes "echo")
    ∷ flag_rule (codes "words")
    ∷ [])

abbrev pub words_shape : Shape
words_shape = shape_with (codes "words") (option_rule (codes "table") ∷ [])

abbrev pub serve_shape : Shape
serve_shape = shape_with (codes "serve") (
    file_rule (codes "TABLE") ∷ file_rule (codes "KEYS") ∷ file_rule (codes "ADDRESS")
    ∷ option_rule (codes "rows") ∷ [])

abbrev pub host_shape : Shape
host_shape = shape_with (codes "host") (
    file_rule (codes "TABLE")
    ∷ file_rule (codes "KEYS")
    ∷ option_rule (codes "state")
    ∷ flag_rule (codes "save-updates")
    ∷ option_rule (codes "rows")
    ∷ flag_rule (codes "drop-unknown")
    ∷ option_rule (codes "listen")
    ∷ option_rule (codes "connect")
    ∷ option_rule (codes "serial")
    ∷ option_rule (codes "application")
    ∷ option_rule (codes "application-port")
    ∷ flag_rule (codes "wait-for-application")
    ∷ option_rule (codes "name")
    ∷ list_rule (codes "advertise")
    ∷ option_rule (codes "address")
    ∷ option_rule (codes "capture")
    ∷ option_rule (codes "capture-size")
    ∷ flag_rule (codes "log-values")
    ∷ flag_rule (codes "log-refusals")
    ∷ option_rule (codes "slots")
    ∷ option_rule (codes "idle")
    ∷ option_rule (codes "stranger")
    ∷ option_rule (codes "patience")
    ∷ flag_rule (codes "once")
    ∷ [])

-- The command `tell`, with a socket and one to four words.
abbrev pub tell_shape : Shape
tell_shape = shape_with (codes "tell") (
    file_rule (codes "SOCKET")
    ∷ file_rule (codes "COMMAND")
    ∷ optional_rule (codes "FIRST")
    ∷ optional_rule (codes "SECOND")
    ∷ optional_rule (codes "THIRD")
    ∷ [])

-- The program, which has a version and requires a command.
abbrev pub program_shape : Shape
program_shape = record (new_app (codes "gatt_shell")).top {
  has_version = true;
  subcommand_required = true;
}

abbrev pub program_line : App
program_line = record { top = program_shape; subs = [] }

unfoldable pub command_line : App
command_line =
    with_subcommand
    (with_subcommand
    (with_subcommand
    (with_subcommand
    (with_subcommand
    (with_subcommand
    (with_subcommand
    (with_subcommand (with_subcommand (with_subcommand (with_subcommand program_line
    att_shape) check_shape) show_shape) may_shape) compare_shape) expect_shape) run_shape)
    words_shape) serve_shape) host_shape) tell_shape

-- The name that chooses a command.
abbrev pub command_name : Choice → List ℕ
command_name (Att words) = codes "att"
command_name (Check table keys) = codes "check"
command_name (Show table keys rows attributes width) = codes "show"
command_name (May table keys peer right handle authorized unencrypted) = codes "may"
command_name (Compare old new keys new_keys) = codes "compare"
command_name (Expect table keys expectations) = codes "expect"
command_name (Run table next keys rows script rx_mtu notices echo words) = codes "run"
command_name (Words table) = codes "words"
command_name (Serve table keys rows address) = codes "serve"
command_name (Host words) = codes "host"
command_name (Tell socket command first second third) = codes "tell"

-- A required argument is given with this path; an optional one may be missing.
abbrev pub IsGiven : List ℕ → List Row → List ℕ → Type 0
IsGiven name arguments path = first_of name arguments ≡ Some path

abbrev pub IsGivenIfAny : List ℕ → List Row → Option (List ℕ) → Type 0
IsGivenIfAny name arguments path = first_of name arguments ≡ path

-- All values of an option, in their order.
abbrev pub given : List ℕ → List Row → List (List ℕ)
given name arguments = unwrap_or (all_of name arguments) []

-- The flag is set if and only if it is given.
abbrev pub IsSetIfGiven : List ℕ → List Row → Bool → Type 0
IsSetIfGiven name arguments flag =
    (one_of name arguments ≡ Some (codes "true") → flag ≡ true)
    × (one_of name arguments ≡ Some (codes "false") → flag ≡ false)

-- The choice has the values that the arguments of its command give.
-- The last path is that of the expectations; a key file may be before it.
abbrev pub AreMeant : List Row → Option (List ℕ) → List ℕ → Type 0
AreMeant arguments None expectations =
    IsGiven (codes "FILE") arguments expectations
    × IsGivenIfAny (codes "EXPECTATIONS") arguments None
AreMeant arguments (Some keys) expectations =
    IsGiven (codes "FILE") arguments keys × IsGiven (codes "EXPECTATIONS") arguments expectations

abbrev pub HasFilesOf : List Row → Choice → Type 0
HasFilesOf arguments (Att words) = IsSetIfGiven (codes "words") arguments words
HasFilesOf arguments (Check table keys) =
    IsGiven (codes "TABLE") arguments table.now × IsGiven (codes "KEYS") arguments keys.now
HasFilesOf arguments (Show table keys rows attributes width) =
    IsGiven (codes "TABLE") arguments table.now
    × IsGivenIfAny (codes "KEYS") arguments (option_map (λ path. path.now) keys)
    × IsGivenIfAny (codes "rows") arguments (option_map (λ path. path.now) rows)
    × IsSetIfGiven (codes "attributes") arguments attributes
    × IsGivenIfAny (codes "width") arguments (option_map (λ word. word.now) width)
HasFilesOf arguments (May table keys peer right handle authorized unencrypted) =
    IsGiven (codes "TABLE") arguments table.now × IsGiven (codes "KEYS") arguments keys.now
    × IsGiven (codes "PEER") arguments peer.now × IsGiven (codes "RIGHT") arguments right.now
    × IsGiven (codes "HANDLE") arguments handle.now
    × IsSetIfGiven (codes "authorized") arguments authorized
    × IsSetIfGiven (codes "unencrypted") arguments unencrypted
HasFilesOf arguments (Compare old new keys new_keys) =
    IsGiven (codes "OLD") arguments old.now × IsGiven (codes "NEW") arguments new.now
    × IsGivenIfAny (codes "KEYS") arguments (option_map (λ path. path.now) keys)
    × IsGivenIfAny (codes "new-keys") arguments (option_map (λ path. path.now) new_keys)
HasFilesOf arguments (Expect table keys expectations) =
    IsGiven (codes "TABLE") arguments table.now
    × AreMeant arguments (option_map (λ path. path.now) keys) expectations.now
HasFilesOf arguments (Run table next keys rows script rx_mtu notices echo words) =
    IsGiven (codes "TABLE") arguments table.now × IsGiven (codes "KEYS") arguments keys.now
    × IsGiven (codes "SCRIPT") arguments script.now
    × IsGivenIfAny (codes "rows") arguments (option_map (λ path. path.now) rows)
    × IsGivenIfAny (codes "next") arguments (option_map (λ path. path.now) next)
    × IsGivenIfAny (codes "rx-mtu") arguments (option_map (λ word. word.now) rx_mtu)
    × IsSetIfGiven (codes "notices") arguments notices
    × IsSetIfGiven (codes "echo") arguments echo
    × IsSetIfGiven (codes "words") arguments words
HasFilesOf arguments (Words table) =
    IsGivenIfAny (codes "table") arguments (option_map (λ path. path.now) table)
HasFilesOf arguments (Serve table keys rows address) =
    IsGiven (codes "TABLE") arguments table.now × IsGiven (codes "KEYS") arguments keys.now
    × IsGiven (codes "ADDRESS") arguments address.now
    × IsGivenIfAny (codes "rows") arguments (option_map (λ path. path.now) rows)
HasFilesOf arguments (Tell socket command first second third) =
    IsGiven (codes "SOCKET") arguments socket.now × IsGiven (codes "COMMAND") arguments command.now
    × IsGivenIfAny (codes "FIRST") arguments (option_map (λ word. word.now) first)
    × IsGivenIfAny (codes "SECOND") arguments (option_map (λ word. word.now) second)
    × IsGivenIfAny (codes "THIRD") arguments (option_map (λ word. word.now) third)
HasFilesOf arguments (Host words) =
    IsGiven (codes "TABLE") arguments words.table.now
    × IsGiven (codes "KEYS") arguments words.keys.now
    × IsGivenIfAny (codes "state") arguments (option_map (λ path. path.now) words.state)
    × IsSetIfGiven (codes "save-updates") arguments words.save_updates
    × IsGivenIfAny (codes "rows") arguments (option_map (λ path. path.now) words.rows)
    × IsSetIfGiven (codes "drop-unknown") arguments words.drop_unknown
    × IsGivenIfAny (codes "listen") arguments (option_map (λ word. word.now) words.listen)
    × IsGivenIfAny (codes "connect") arguments (option_map (λ word. word.now) words.connect)
    × IsGivenIfAny (codes "serial") arguments (option_map (λ word. word.now) words.serial)
    × IsGivenIfAny (codes "application") arguments (option_map (λ word. word.now) words.application)
    × IsGivenIfAny (codes "application-port") arguments
    (option_map (λ word. word.now) words.application_port)
    × IsSetIfGiven (codes "wait-for-application") arguments words.wait_for_application
    × IsGivenIfAny (codes "name") arguments (option_map (λ word. word.now) words.name)
    × (map (λ word. word.now) words.advertise.items ≡ take 14 (given (codes "advertise") arguments))
    × IsGivenIfAny (codes "address") arguments (option_map (λ word. word.now) words.address)
    × IsGivenIfAny (codes "capture") arguments (option_map (λ path. path.now) words.capture)
    × IsGivenIfAny (codes "capture-size") arguments
    (option_map (λ word. word.now) words.capture_size)
    × IsSetIfGiven (codes "log-values") arguments words.log_values
    × IsSetIfGiven (codes "log-refusals") arguments words.log_refusals
    × IsGivenIfAny (codes "slots") arguments (option_map (λ word. word.now) words.slots)
    × IsGivenIfAny (codes "idle") arguments (option_map (λ word. word.now) words.idle)
    × IsGivenIfAny (codes "stranger") arguments (option_map (λ word. word.now) words.stranger)
    × IsGivenIfAny (codes "patience") arguments (option_map (λ word. word.now) words.patience)
    × IsSetIfGiven (codes "once") arguments words.once

abbrev pub HasFiles : Option (Text × List Row) → Choice → Type 0
HasFiles named choice =
    IfSome (option_map (λ name_and_arguments. name_and_arguments.1) named)
    (λ arguments. HasFilesOf arguments choice)

-- The command `att` without its option.
abbrev pub IsAttAlone : Option (Text × List Row) → Type 0
IsAttAlone None = ⊥
IsAttAlone (Some (name, arguments)) =
    (name ≡ codes "att") × (one_of (codes "words") arguments ≡ Some (codes "false"))
