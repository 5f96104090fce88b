-- The lines about changes that are not saved yet (this profile's own).
use Rattle.std.specs.Prelude.{◌≡◌, ◌==◌, ◌&&◌, ◌++◌, ◌≤◌, Bool, true, false, if◌then◌else◌, List, [], ◌∷◌, filter, fold, length, not}
use Rattle.std.specs.List.{list_any}
use Rattle.std.specs.Str.{bytes_eq}
use Rattle.octet_io.specs.Number.{Octets}
use Rattle.le_hci.specs.declared.peer.Peer.{Peer}
use Rattle.device_session.specs.declared.pending.Subject.{Subject}
use Rattle.device_session.specs.declared.pending.Subject.TheVariants.{Value, Configuration}

-- The line about a change, and the subject of the change.
pub record Line : Type 0 where
  pub subject : Subject
  pub text : Octets

abbrev pub is_peer : Peer → Peer → Bool
is_peer one other = (one.kind == other.kind) && bytes_eq one.address other.address

abbrev pub is_same : Subject → Subject → Bool
is_same (Value handle) (Value other) = handle == other
is_same (Configuration peer attribute) (Configuration other handle) =
    is_peer peer other && (attribute == handle)
is_same subject other = false

abbrev pub without_subject : Subject → List Line → List Line
without_subject subject lines =
    filter (λ (line : Line). not (is_same line.subject subject)) lines

-- The line of a later change replaces the one of an earlier change, and is the last.
abbrev pub with_line : Subject → Octets → List Line → List Line
with_line subject text lines =
    without_subject subject lines ++ record { subject = subject; text = text } ∷ []

-- The line of a change is to be sent, that of an earlier change is not, or all are sent.
pub data Change : Type 0 where
  Waits : (subject : Subject) (text : Octets) → Change
  Lapses : (subject : Subject) → Change
  Saved : Change

abbrev pub after_change : List Line → Change → List Line
after_change lines (Waits subject text) = with_line subject text lines
after_change lines (Lapses subject) = without_subject subject lines
after_change lines Saved = []

abbrev pub lines_after : List Change → List Line
lines_after changes = fold after_change [] changes

-- A line waits no more after another change of its subject, or after a save.
abbrev pub ends_line : Subject → Change → Bool
ends_line subject (Waits other text) = is_same subject other
ends_line subject (Lapses other) = is_same subject other
ends_line subject Saved = true

abbrev pub is_last : Subject → List Change → Bool
is_last subject later = not (list_any (ends_line subject) later)

-- The lines of the changes that nothing has ended, in the order of the changes.
unfoldable pub lasting_lines : List Change → List Line
lasting_lines [] = []
lasting_lines (Waits subject text ∷ later) =
    if is_last subject later
    then record { subject = subject; text = text } ∷ lasting_lines later
    else lasting_lines later
lasting_lines (Lapses subject ∷ later) = lasting_lines later
lasting_lines (Saved ∷ later) = lasting_lines later

abbrev pub KeepsLastLines : Type 0
KeepsLastLines = (changes : List Change) → lines_after changes ≡ lasting_lines changes

abbrev pub lines_about : Subject → List Line → List Line
lines_about subject lines = filter (λ (line : Line). is_same line.subject subject) lines

-- Each subject has at most one line.
abbrev pub KeepsOneEach : Type 0
KeepsOneEach =
    (changes : List Change) (subject : Subject)
    → length (lines_about subject (lines_after changes)) ≤ 1
