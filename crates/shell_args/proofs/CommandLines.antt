-- What the words of a command line mean to the parser, computed.
use Rattle.std.proofs.Common.{◌≡◌, ◌⊎◌, inl, inr, [], ◌∷◌, drop, codes, option_map, length, List, ℕ, ◌<◌, ◌+◌, get_or, Some, None, true, false, ◌||◌, refl, sym, subst, ap, ◌∙◌, Bool}
use Rattle.std.proofs.Math.Bool.{or-false}
use Rattle.std.proofs.lemmas.List.{at_drop_more}
use Rattle.std.specs.Box.{box_value}
use Rattle.std.specs.Prelude.{IfOk, Result, Ok, Err}
use Rattle.clap.specs.Built.{AddsArg, AddsSubcommand}
use Rattle.clap.specs.Words.{App, HasKind, IsAmong, Kinds, Shape, Text, all_of, app_of, shape_of, with_subcommand, fault_of, first_of, first_value, matched_of, one_of, one_text, is_simple, is_simple_and_free, kind_of, raw_values, rows_of, subcommand_name_of, subcommand_of, subcommand_rows, subcommand_rows_of, takes}
use Rattle.clap.specs.declared.builder.Arg.{Arg}
use Rattle.clap.specs.declared.builder.Command.{Command}
use Rattle.clap.specs.declared.builder.Command.TheViews.{out-Command}
use Rattle.clap.specs.declared.parser.matches.Found.{Found}
use Rattle.clap.specs.declared.ArgMatches.{ArgMatches}
use Rattle.clap.specs.declared.parser.matches.ArgMatches.TheViews.{out-ArgMatches, out-SubCommand}
use Rattle.clap.specs.declared.error.ErrorKind.{ErrorKind}
use Rattle.clap.specs.declared.error.ErrorKind.TheVariants.{InvalidValue, UnknownArgument, InvalidSubcommand, NoEquals, ValueValidation, TooManyValues, TooFewValues, WrongNumberOfValues, ArgumentConflict, MissingRequiredArgument, MissingSubcommand, DisplayHelp, DisplayHelpOnMissingArgumentOrSubcommand, DisplayVersion, Io, Format, OutOfMemory}
use Rattle.clap.specs.declared.Error.{Error}
use Rattle.clap.proofs.OnLiterals.{clap_on_literals}
use Rattle.clap.proofs.WalkLemmas.{first_value-rows, one_text-rows, raw_values-rows}
use Rattle.shell_args.specs.CommandLine.{IsAttAlone, command_line}
use Rattle.shell_args.specs.Refusal.{ShowsUnlessMemory, refusal_for}
use Rattle.shell_args.specs.declared.words.Refusal.TheVariants.{Shown, Misunderstood, Memory}

-- the word `att` alone passes
pub att_taken : (program : List ℕ) → takes command_line (program ∷ codes "att" ∷ []) ≡ true
unfolding clap_on_literals command_line
att_taken program = refl

-- it names the command `att` without its option
pub att_alone : (program : List ℕ) → IsAttAlone (subcommand_of command_line (program ∷ codes "att" ∷ []))
unfolding clap_on_literals command_line
att_alone program = (refl, refl)

-- with no word the command is missing
pub none_faults : fault_of command_line ([] ∷ []) ≡ MissingSubcommand ∷ []
unfolding clap_on_literals command_line
none_faults = refl

-- the word `--help` alone asks for help
pub help_faults : fault_of command_line ([] ∷ codes "--help" ∷ []) ≡ DisplayHelp ∷ []
unfolding clap_on_literals command_line
help_faults = refl

-- the word `--version` alone asks for the version
pub version_faults : fault_of command_line ([] ∷ codes "--version" ∷ []) ≡ DisplayVersion ∷ []
unfolding clap_on_literals command_line
version_faults = refl

-- it is simple, and no argument is global
pub line_simple : is_simple command_line ≡ true
unfolding clap_on_literals command_line
line_simple = refl

pub line_simple_and_free : is_simple_and_free command_line ≡ true
unfolding clap_on_literals command_line
line_simple_and_free = refl

-- only the words behind the program's name matter
pub takes_behind : (words rest : List (List ℕ)) → drop 1 words ≡ rest
    → takes command_line words ≡ takes command_line ([] ∷ rest)
unfolding command_line
takes_behind [] rest e = rw (← e) refl
takes_behind (program ∷ words) rest e = rw e refl

pub named_behind : (words rest : List (List ℕ)) → drop 1 words ≡ rest
    → subcommand_of command_line words ≡ subcommand_of command_line ([] ∷ rest)
unfolding command_line
named_behind [] rest e = rw (← e) refl
named_behind (program ∷ words) rest e = rw e refl

pub faults_behind : (words rest : List (List ℕ)) → drop 1 words ≡ rest
    → fault_of command_line words ≡ fault_of command_line ([] ∷ rest)
unfolding command_line
faults_behind [] rest e = rw (← e) refl
faults_behind (program ∷ words) rest e = rw e refl

-- an error of a missing command is not understood
pub missing_refused : (error : Error) → HasKind (MissingSubcommand ∷ []) error
    → (refusal_for error (kind_of error) ≡ Misunderstood) ⊎ (refusal_for error (kind_of error) ≡ Memory)
missing_refused error h = elim h [
  | inl memory ↦ inr (ap (refusal_for error) memory)
  | inr among ↦ elim among [
    | inl missing ↦ inl (ap (refusal_for error) missing)
    | inr none ↦ absurd none
  ]
]

-- an error that asks for help shows it
pub help_shown : (error : Error) → HasKind (DisplayHelp ∷ []) error
    → ShowsUnlessMemory DisplayHelp (refusal_for error (kind_of error))
help_shown error h = elim h [
  | inl memory ↦ inl (ap (refusal_for error) memory)
  | inr among ↦ elim among [
    | inl help ↦ inr (error, (ap (refusal_for error) help, help))
    | inr none ↦ absurd none
  ]
]

-- an error that asks for the version shows it
pub version_shown : (error : Error) → HasKind (DisplayVersion ∷ []) error
    → ShowsUnlessMemory DisplayVersion (refusal_for error (kind_of error))
version_shown error h = elim h [
  | inl memory ↦ inl (ap (refusal_for error) memory)
  | inr among ↦ elim among [
    | inl version ↦ inr (error, (ap (refusal_for error) version, version))
    | inr none ↦ absurd none
  ]
]

-- the name of the subcommand is that of its rows
pub name-rows : (m : ArgMatches) → subcommand_name_of m ≡ option_map (λ named. named.0) (subcommand_rows_of m)
name-rows m = elim (out-ArgMatches m).subcommand as (λ met. option_map (λ b. (out-SubCommand (box_value b)).name.now) met
    ≡ option_map (λ named. named.0) (subcommand_rows met)) [
      | Some b ↦ refl
      | None ↦ refl
    ]

-- what is so anyway is so of a result
pub always : {T E : Type 0} (result : Result T E) (P : Type 0) → P → IfOk result (λ _. P)
always (Ok value) P is = is
always (Err fault) P is = tt

-- what a getter gives is what the rows have
pub first_in_rows : (found : Found) (name : Text) → first_value found name ≡ first_of name (rows_of found)
first_in_rows found name = first_value-rows found name

pub flag_in_rows : (found : Found) (name : Text) → one_text found name ≡ one_of name (rows_of found)
flag_in_rows found name = one_text-rows found name

pub all_in_rows : (found : Found) (name : Text) → option_map raw_values (matched_of found name) ≡ all_of name (rows_of found)
all_in_rows found name = raw_values-rows found name

-- the kinds that an error may have, where the words behind the program's name are these
pub kinds_at : (app : App) (words rest : List (List ℕ)) (error : Error) → app ≡ command_line → drop 1 words ≡ rest
    → (is_simple_and_free app ≡ true → HasKind (fault_of app words) error)
    → HasKind (fault_of command_line ([] ∷ rest)) error
kinds_at app words rest error app_is e h =
    let P : Kinds → Type 0 = λ kinds. HasKind kinds error in
    subst P (ap (λ a. fault_of a words) app_is ∙ faults_behind words rest e) (h (ap is_simple_and_free app_is ∙ line_simple_and_free))

-- words with a fault have no matches
pub faulty : (app : App) (words rest : List (List ℕ)) (kind : ErrorKind) → app ≡ command_line → drop 1 words ≡ rest
    → (is_simple_and_free app ≡ true → fault_of app words ≡ []) → fault_of command_line ([] ∷ rest) ≡ kind ∷ [] → ⊥
faulty app words rest kind app_is e h faults =
    let none : fault_of app words ≡ [] = h (ap is_simple_and_free app_is ∙ line_simple_and_free) in
    let some : fault_of app words ≡ kind ∷ [] = ap (λ a. fault_of a words) app_is ∙ faults_behind words rest e ∙ faults in
    cc (none, some)

-- an argument that is not global makes no command global
pub stays_local : {old new : Command} {arg : Arg} → AddsArg old arg new → arg.global ≡ false
    → (out-Command new).has_globals ≡ (out-Command old).has_globals
stays_local {old} adds local =
    adds.globals ∙ ap (λ (is_global : Bool). (out-Command old).has_globals || is_global) local ∙ or-false (out-Command old).has_globals

-- a command with no global argument stands behind those of the program so far
pub added_to : {old sub new : Command} {app : App} {shape : Shape} → AddsSubcommand old sub new → (out-Command sub).has_globals ≡ false
    → app_of old ≡ app → shape_of sub ≡ shape → app_of new ≡ with_subcommand app shape
added_to {sub = sub} {app = app} adds local app_is shape_is =
    adds.shape local ∙ ap (λ (front : App). with_subcommand front (shape_of sub)) app_is ∙ ap (λ (last : Shape). with_subcommand app last) shape_is

-- what is left to do with the elements of a list, one step on
pub one_step_on : {S X : Type 0} (all_done : S → List X → S) (done : S → X → S)
    → ((state : S) (x : X) (left : List X) → all_done state (x ∷ left) ≡ all_done (done state x) left)
    → (old : S) (xs : List X) (i : ℕ) (d : X) {new : S} → i < length xs → new ≡ done old (get_or xs i d)
    → all_done new (drop (i + 1) xs) ≡ all_done old (drop i xs)
one_step_on all_done done steps old xs i d more is_done =
    ap (λ state. all_done state (drop (i + 1) xs)) is_done
    ∙ sym (steps old (get_or xs i d) (drop (i + 1) xs))
    ∙ sym (at_drop_more (all_done old) xs i d more)

-- only an error that asks for help or the version is shown
pub only_shown : (error text : Error) (kind : ErrorKind) → refusal_for error kind ≡ Shown text
    → (error ≡ text) × ((kind ≡ DisplayHelp) ⊎ (kind ≡ DisplayVersion))
only_shown error text DisplayHelp e = (cc e, inl refl)
only_shown error text DisplayVersion e = (cc e, inr refl)
only_shown error text OutOfMemory e = absurd (cc e)
only_shown error text InvalidValue e = absurd (cc e)
only_shown error text UnknownArgument e = absurd (cc e)
only_shown error text InvalidSubcommand e = absurd (cc e)
only_shown error text NoEquals e = absurd (cc e)
only_shown error text ValueValidation e = absurd (cc e)
only_shown error text TooManyValues e = absurd (cc e)
only_shown error text TooFewValues e = absurd (cc e)
only_shown error text WrongNumberOfValues e = absurd (cc e)
only_shown error text ArgumentConflict e = absurd (cc e)
only_shown error text MissingRequiredArgument e = absurd (cc e)
only_shown error text MissingSubcommand e = absurd (cc e)
only_shown error text DisplayHelpOnMissingArgumentOrSubcommand e = absurd (cc e)
only_shown error text Io e = absurd (cc e)
only_shown error text Format e = absurd (cc e)

-- an error that is shown has one of the kinds of the words: no memory was refused
pub shown_among : (error text : Error) (kinds : Kinds) → HasKind kinds error → refusal_for error (kind_of error) ≡ Shown text
    → IsAmong (kind_of text) kinds × ((kind_of text ≡ DisplayHelp) ⊎ (kind_of text ≡ DisplayVersion))
shown_among error text kinds h e =
    let shown = only_shown error text (kind_of error) e in
    let P : Error → Type 0 = λ shown_error. IsAmong (kind_of shown_error) kinds × ((kind_of shown_error ≡ DisplayHelp) ⊎ (kind_of shown_error ≡ DisplayVersion))
    in
    elim h [
      | inl memory ↦ absurd (memory-not_shown error text memory e)
      | inr among ↦ subst P shown.0 (among, shown.1)
    ]
  where
    memory-not_shown : (error text : Error) → kind_of error ≡ OutOfMemory → refusal_for error (kind_of error) ≡ Shown text → ⊥
    memory-not_shown error text memory e = let none : Memory ≡ Shown text = sym (ap (refusal_for error) memory) ∙ e in absurd (cc none)
