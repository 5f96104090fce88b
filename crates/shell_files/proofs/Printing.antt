-- What is printed for an answer, by its octets.
use Rattle.std.proofs.Common.{◌≡◌, ℕ, Bool, true, false, if◌then◌else◌, ◌∷◌, [], ◌++◌, take, drop, Option, Some, None, refl, sym, ap, subst, ◌∙◌, append_assoc}
use Rattle.std.specs.Io.KnownBytes.{Appends, Keeps}
use Rattle.std.specs.Option.{option_map}
use Rattle.std.proofs.lemmas.List.{take-append-drop}
use Rattle.hex.specs.Hex.{encode_lower}
use Rattle.att_pdu.specs.Response.{Response, sent}
use Rattle.octet_io.specs.Stream.{WritesFront}
use Rattle.shell_files.specs.Att.{printed_answer}
use Rattle.shell_files.proofs.Appending.{appends-append, appends-kept}
use Rattle.octet_io.specs.Number.{Octets}

pub answered_line : (answer : Option Response) (octets : Octets) → option_map sent answer ≡ Some octets → printed_answer answer ≡ encode_lower octets ++ 10 ∷ []
answered_line (Some answer) octets is = cc is
answered_line None octets is = cc is

pub unanswered_line : (answer : Option Response) → option_map sent answer ≡ None → printed_answer answer ≡ 45 ∷ 10 ∷ []
unanswered_line (Some answer) is = cc is
unanswered_line None is = refl

pub breaks_answer : (answer : Option Response) (due : Bool) (octets text : Octets) (held holds : Option Octets)
    → option_map sent answer ≡ (if due then Some octets else None) → due ≡ true → text ≡ octets
    → WritesFront (encode_lower text ++ 10 ∷ []) held holds → WritesFront (printed_answer answer) held holds
breaks_answer answer true octets text held holds is due_is same front =
    let line : encode_lower text ++ 10 ∷ [] ≡ printed_answer answer = ap (λ here. encode_lower here ++ 10 ∷ []) same ∙ sym (answered_line answer octets is) in
    subst (λ octets. WritesFront octets held holds) line front
breaks_answer answer false octets text held holds is due_is same front = cc due_is

pub breaks_dash : (answer : Option Response) (due : Bool) (octets text : Octets) (held holds : Option Octets)
    → option_map sent answer ≡ (if due then Some octets else None) → due ≡ false → text ≡ 45 ∷ 10 ∷ []
    → WritesFront text held holds → WritesFront (printed_answer answer) held holds
breaks_dash answer true octets text held holds is due_is same front = cc due_is
breaks_dash answer false octets text held holds is due_is same front =
    let line : text ≡ printed_answer answer = same ∙ sym (unanswered_line answer is) in
    subst (λ octets. WritesFront octets held holds) line front

-- of a text all but the rest is printed
pub record HasPrinted (text rest : Octets) (held holds : Option Octets) : Type 0 where
  pub printed : Octets
  pub appended : Appends held holds printed
  pub parts : text ≡ printed ++ rest

pub printed_more : (text rest : Octets) (count : ℕ) (held mid holds : Option Octets)
    → HasPrinted text rest held mid → Appends mid holds (take count rest) → HasPrinted text (drop count rest) held holds
printed_more text rest count held mid holds so_far appended = record {
  printed = so_far.printed ++ take count rest;
  appended = appends-append held mid holds so_far.printed (take count rest) so_far.appended appended;
  parts =
      so_far.parts ∙ ap (λ octets. so_far.printed ++ octets) (sym (take-append-drop count rest))
      ∙ sym (append_assoc so_far.printed (take count rest) (drop count rest));
}

pub printed_kept : (text rest : Octets) (held mid holds : Option Octets) → HasPrinted text rest held mid → Keeps mid holds → HasPrinted text rest held holds
printed_kept text rest held mid holds so_far kept = record {
  printed = so_far.printed;
  appended = appends-kept held mid holds so_far.printed so_far.appended kept;
  parts = so_far.parts;
}
