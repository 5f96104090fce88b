-- The report on lines, one after the other, is that on all of them.
use Rattle.std.proofs.Common.{◌≡◌, ℕ, ◌+◌, Bool, true, false, if◌then◌else◌, List, [], ◌∷◌, ◌++◌, length, Option, Some, None, refl, ap, ◌∙◌, arith}
use Rattle.std.specs.Prelude.{is_none}
use Rattle.std.specs.List.{list_any}
use Rattle.shell_files.specs.Att.{Server, pdu_of, pdu_in, is_bad, good_lines, bad_line_from, printed_answer, answer_from, server_after, printed_by}
use Rattle.shell_files.specs.Session.{pdu_report, report}

-- a line behind which the lines go on, if it is good
with_line : (server : Server) (number : ℕ) (line : List ℕ) (lines : List (List ℕ)) (pdu : Option (List ℕ)) → pdu_of line ≡ pdu → is_bad line ≡ is_none pdu
    → pdu_in line ≡ pdu
    → ((next : Server) (from : ℕ) → (report next from lines).printed ≡ printed_by next lines)
    → (pdu_report server number pdu (λ next. report next (number + 1) lines)).printed ≡ printed_by server (line ∷ lines)
with_line server number line lines None is bad none later = rw bad refl
with_line server number line lines (Some pdu) is bad some later =
    rw (bad, some) (ap (λ more. printed_answer (answer_from server pdu) ++ more) (later (server_after server pdu) (number + 1)))

printed_line : (server : Server) (number : ℕ) (line : List ℕ) (lines : List (List ℕ))
    → ((next : Server) (from : ℕ) → (report next from lines).printed ≡ printed_by next lines)
    → (report server number (line ∷ lines)).printed ≡ printed_by server (line ∷ lines)
printed_line server number [] lines later = later server (number + 1)
printed_line server number (digit ∷ digits) lines later =
    with_line server number (digit ∷ digits) lines (pdu_of (digit ∷ digits)) refl refl refl later

pub printed-report : (server : Server) (number : ℕ) (lines : List (List ℕ)) → (report server number lines).printed ≡ printed_by server lines
printed-report server number [] = refl
printed-report server number (line ∷ lines) = printed_line server number line lines (λ next from. printed-report next from lines)

-- one good line more
one_more : (any : Bool) (number : ℕ) (line : List ℕ) (good : List (List ℕ))
    → (if any then Some (number + 1 + length good) else None) ≡ (if any then Some (number + length (line ∷ good)) else None)
one_more true number line good = let same : number + 1 + length good ≡ number + length (line ∷ good) = omega arith in ap Some same
one_more false number line good = refl

good_line : (number : ℕ) (line : List ℕ) (lines : List (List ℕ)) → is_bad line ≡ false → bad_line_from (number + 1) lines ≡ bad_line_from number (line ∷ lines)
good_line number line lines good = rw good (one_more (list_any is_bad lines) number line (good_lines lines))

with_number : (server : Server) (number : ℕ) (line : List ℕ) (lines : List (List ℕ)) (pdu : Option (List ℕ)) → is_bad line ≡ is_none pdu
    → ((next : Server) (from : ℕ) → (report next from lines).not_hex ≡ bad_line_from from lines)
    → (pdu_report server number pdu (λ next. report next (number + 1) lines)).not_hex ≡ bad_line_from number (line ∷ lines)
with_number server number line lines None bad later = let same : number ≡ number + 0 = omega arith in rw bad (ap Some same)
with_number server number line lines (Some pdu) good later = later (server_after server pdu) (number + 1) ∙ good_line number line lines good

numbered_line : (server : Server) (number : ℕ) (line : List ℕ) (lines : List (List ℕ))
    → ((next : Server) (from : ℕ) → (report next from lines).not_hex ≡ bad_line_from from lines)
    → (report server number (line ∷ lines)).not_hex ≡ bad_line_from number (line ∷ lines)
numbered_line server number [] lines later = later server (number + 1) ∙ good_line number [] lines refl
numbered_line server number (digit ∷ digits) lines later =
    with_number server number (digit ∷ digits) lines (pdu_of (digit ∷ digits)) refl later

pub bad_line-report : (server : Server) (number : ℕ) (lines : List (List ℕ)) → (report server number lines).not_hex ≡ bad_line_from number lines
bad_line-report server number [] = refl
bad_line-report server number (line ∷ lines) = numbered_line server number line lines (λ next from. bad_line-report next from lines)
