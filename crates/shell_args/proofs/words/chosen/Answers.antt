use Rattle.std.proofs.Common.{◌≡◌, [], ◌∷◌, map, codes, option_map, string_bytes, List, ℕ, true, refl, sym, subst, ap, ◌∙◌}
use Rattle.clap.specs.Words.{HasKind, Kinds, app_of, fault_of, is_simple, is_simple_and_free, subcommand_of, subcommand_rows_of, takes}
use Rattle.shell_args.specs.CommandLine.{IsAttAlone, command_line}
use Rattle.shell_args.specs.Refusal.{refusal_for}
use Rattle.shell_args.specs.declared.words.Refusal.TheVariants.{Shown}
use Rattle.shell_args.proofs.CommandLines.{att_alone, att_taken, line_simple, line_simple_and_free, none_faults, help_faults, version_faults, takes_behind, named_behind, missing_refused, help_shown, version_shown, shown_among, name-rows, kinds_at, faulty}
use Rattle.std.proofs.lemmas.Result.{IfOk-weaker}
use Rattle.std.specs.Prelude.{IfOk}
use Rattle.shell_args.specs.CommandLine.{HasFiles}
use Rattle.shell_args.proofs.CommandLines.{always}
use Rattle.shell_args.proofs.words.chosen.Goals as goal

pub returns-in-Ok-try_get_matches_from-clause-named :
    goal.returns-in-Ok-try_get_matches_from-clause-named
returns-in-Ok-try_get_matches_from-clause-named c =
    let app_is : app_of c.in-Ok.command ≡ command_line = c.in-Ok.ensures in
    let words : List (List ℕ) = map string_bytes c.args.words.now in
    let m = c.in-Ok-try_get_matches_from.matches in
    let rows : subcommand_rows_of m ≡ subcommand_of command_line words =
    (c.in-Ok-try_get_matches_from.ensures.matches (ap is_simple app_is ∙ line_simple)).1 ∙ ap (λ app. subcommand_of app words) app_is in
    IfOk-weaker c.choice_in.result _ _ (λ choice named. sym (name-rows m ∙ ap (option_map (λ named. named.0)) rows) ∙ named)
    c.choice_in.ensures.named

pub returns-in-Ok-try_get_matches_from-clause-files :
    goal.returns-in-Ok-try_get_matches_from-clause-files
returns-in-Ok-try_get_matches_from-clause-files c =
    let app_is : app_of c.in-Ok.command ≡ command_line = c.in-Ok.ensures in
    let words : List (List ℕ) = map string_bytes c.args.words.now in
    let m = c.in-Ok-try_get_matches_from.matches in
    let rows : subcommand_rows_of m ≡ subcommand_of command_line words =
    (c.in-Ok-try_get_matches_from.ensures.matches (ap is_simple app_is ∙ line_simple)).1 ∙ ap (λ app. subcommand_of app words) app_is in
    subst (λ rows. IfOk c.choice_in.result (HasFiles rows)) rows c.choice_in.ensures.files

pub returns-in-Ok-try_get_matches_from-clause-faultless :
    goal.returns-in-Ok-try_get_matches_from-clause-faultless
returns-in-Ok-try_get_matches_from-clause-faultless c =
    let app_is : app_of c.in-Ok.command ≡ command_line = c.in-Ok.ensures in
    let words : List (List ℕ) = map string_bytes c.args.words.now in
    always c.choice_in.result (fault_of command_line words ≡ [])
    (sym (ap (λ app. fault_of app words) app_is) ∙ c.in-Ok-try_get_matches_from.ensures.kinds (ap is_simple_and_free app_is ∙ line_simple_and_free))

pub returns-in-Ok-try_get_matches_from-clause-att :
    goal.returns-in-Ok-try_get_matches_from-clause-att
returns-in-Ok-try_get_matches_from-clause-att c = λ e.
    let app_is : app_of c.in-Ok.command ≡ command_line = c.in-Ok.ensures in
    let words : List (List ℕ) = map string_bytes c.args.words.now in
    let m = c.in-Ok-try_get_matches_from.matches in
    let rows : subcommand_rows_of m ≡ subcommand_of (app_of c.in-Ok.command) words =
    (c.in-Ok-try_get_matches_from.ensures.matches (ap is_simple app_is ∙ line_simple)).1 in
    let rows_are : subcommand_rows_of m ≡ subcommand_of command_line ([] ∷ codes "att" ∷ []) =
    rows ∙ ap (λ app. subcommand_of app words) app_is ∙ named_behind words _ e in
    rw (c.choice_in.ensures.att (subst IsAttAlone (sym rows_are) (att_alone []))) refl

pub returns-in-Ok-try_get_matches_from-clause-help :
    goal.returns-in-Ok-try_get_matches_from-clause-help
returns-in-Ok-try_get_matches_from-clause-help c = λ e.
    absurd (faulty (app_of c.in-Ok.command) (map string_bytes c.args.words.now) _ _ (c.in-Ok.ensures) e
    c.in-Ok-try_get_matches_from.ensures.kinds help_faults)

pub returns-in-Ok-try_get_matches_from-clause-version :
    goal.returns-in-Ok-try_get_matches_from-clause-version
returns-in-Ok-try_get_matches_from-clause-version c = λ e.
    absurd (faulty (app_of c.in-Ok.command) (map string_bytes c.args.words.now) _ _ (c.in-Ok.ensures) e
    c.in-Ok-try_get_matches_from.ensures.kinds version_faults)

pub returns-in-Ok-try_get_matches_from-clause-no_word :
    goal.returns-in-Ok-try_get_matches_from-clause-no_word
returns-in-Ok-try_get_matches_from-clause-no_word c = λ e.
    absurd (faulty (app_of c.in-Ok.command) (map string_bytes c.args.words.now) _ _ c.in-Ok.ensures e
    c.in-Ok-try_get_matches_from.ensures.kinds none_faults)

pub returns-in-Err-clause-att : goal.returns-in-Err-clause-att
returns-in-Err-clause-att c = λ e.
    let app_is : app_of c.in-Ok.command ≡ command_line = c.in-Ok.ensures in
    let words : List (List ℕ) = map string_bytes c.args.words.now in
    let taken : takes (app_of c.in-Ok.command) words ≡ true =
    ap (λ app. takes app words) app_is ∙ takes_behind words _ e ∙ att_taken [] in
    c.refusal_of.ensures ∙ ap (refusal_for c.in-Err.error) (c.in-Err.ensures.passes taken)

pub returns-in-Err-clause-help : goal.returns-in-Err-clause-help
returns-in-Err-clause-help c = λ e.
    let error = c.in-Err.error in
    let P : Kinds → Type 0 = λ kinds. HasKind kinds error in
    let kinds = kinds_at (app_of c.in-Ok.command) (map string_bytes c.args.words.now) _ error (c.in-Ok.ensures) e c.in-Err.ensures.kinds in
    rw c.refusal_of.ensures (help_shown error (subst P help_faults kinds))

pub returns-in-Err-clause-version : goal.returns-in-Err-clause-version
returns-in-Err-clause-version c = λ e.
    let error = c.in-Err.error in
    let P : Kinds → Type 0 = λ kinds. HasKind kinds error in
    let kinds = kinds_at (app_of c.in-Ok.command) (map string_bytes c.args.words.now) _ error (c.in-Ok.ensures) e c.in-Err.ensures.kinds in
    rw c.refusal_of.ensures (version_shown error (subst P version_faults kinds))

pub returns-in-Err-clause-no_word : goal.returns-in-Err-clause-no_word
returns-in-Err-clause-no_word c = λ e.
    let error = c.in-Err.error in
    let P : Kinds → Type 0 = λ kinds. HasKind kinds error in
    let kinds = kinds_at (app_of c.in-Ok.command) (map string_bytes c.args.words.now) _ error (c.in-Ok.ensures) e c.in-Err.ensures.kinds in
    rw c.refusal_of.ensures (missing_refused error (subst P none_faults kinds))

pub returns-in-Err-clause-shown : goal.returns-in-Err-clause-shown
returns-in-Err-clause-shown c = λ text e.
    let error = c.in-Err.error in
    let P : Kinds → Type 0 = λ kinds. HasKind kinds error in
    let app_is : app_of c.in-Ok.command ≡ command_line = c.in-Ok.ensures in
    let kinds : HasKind (fault_of command_line (map string_bytes c.args.words.now)) error =
    subst P (ap (λ app. fault_of app (map string_bytes c.args.words.now)) app_is)
    (c.in-Err.ensures.kinds (ap is_simple_and_free app_is ∙ line_simple_and_free)) in
    let refused : c.refusal_of.result ≡ Shown text = cc e in
    shown_among error text _ kinds (sym c.refusal_of.ensures ∙ refused)
