-- The progress of `att` in its input (code only).
use Rattle.std.specs.Prelude.{◌≡◌, ℕ, ◌+◌, List, [], ◌∷◌, ◌++◌, Option, Some, None}
use Rattle.std.specs.Io.KnownBytes.{Appends}
use Rattle.shell_files.specs.declared.fault.ShellFault.{ShellFault}
use Rattle.shell_files.specs.declared.fault.ShellFault.TheVariants.{Table, NotHex, Unreadable, Unwritten, Memory}
use Rattle.shell_files.specs.declared.session.Session.{Session}
use Rattle.shell_files.specs.TableFile.{TableIsRefusedAs}
use Rattle.octet_io.specs.Stream.{WritesFront}
use Rattle.shell_files.specs.Att.{Server, door_read, door_server, lines_of_input, pdu_of, printed_answer, answer_from, server_after}
use Rattle.octet_io.specs.Number.{Octets}

-- The printed text, and the number of the bad line that ends it.
pub record Report : Type 0 where
  pub printed : Octets
  pub not_hex : Option ℕ

abbrev pub empty_report : Report
empty_report = record { printed = []; not_hex = None }

abbrev pub ends_at : ℕ → Report
ends_at number = record { printed = []; not_hex = Some number }

abbrev pub report_after : Octets → Report → Report
report_after octets rest = record { printed = octets ++ rest.printed; not_hex = rest.not_hex }

-- The report on a PDU and the lines after it.
abbrev pub pdu_report : Server → ℕ → Option Octets → (Server → Report) → Report
pdu_report server number None rest = ends_at number
pdu_report server number (Some pdu) rest =
    report_after (printed_answer (answer_from server pdu)) (rest (server_after server pdu))

-- The report on a line and those after it; a blank line prints nothing.
abbrev pub line_report : Server → ℕ → Octets → (Server → Report) → Report
line_report server number [] rest = rest server
line_report server number (digit ∷ digits) rest =
    pdu_report server number (pdu_of (digit ∷ digits)) rest

abbrev pub report : Server → ℕ → List Octets → Report
report server number [] = empty_report
report server number (line ∷ lines) =
    line_report server number line (λ next. report next (number + 1) lines)

abbrev pub IsStartFault : ShellFault → Type 0
IsStartFault (Table number) = TableIsRefusedAs number door_read
IsStartFault Memory = Unit {0}
IsStartFault _ = ⊥

-- A line that has begun precedes what follows.
abbrev pub onto : Octets → List Octets → List Octets
onto [] lines = lines
onto (octet ∷ octets) [] = (octet ∷ octets) ∷ []
onto (octet ∷ octets) (line ∷ lines) = (octet ∷ octets ++ line) ∷ lines

abbrev pub server_of : Session → Server
server_of session = session.server

-- The report on these octets as the rest of the input.
unfoldable pub report_from : Session → Octets → Report
report_from session rest =
    report (server_of session) session.number (onto session.line.items (lines_of_input rest))

-- The octets are processed, and their text is written.
pub record Passes (old new : Session) (octets : Octets) (held holds : Option (Octets)) : Type 0
  where
    pub printed : Octets
    pub appended : Appends held holds printed
    pub left : (rest : Octets) → report_from old (octets ++ rest)
        ≡ report_after printed (report_from new rest)

-- A line in these octets is bad, and the text before it is written.
pub record StopsAt (old : Session) (octets : Octets) (number : ℕ) (held holds : Option (Octets)) :
    Type 0 where
  pub printed : Octets
  pub appended : Appends held holds printed
  pub stopped : (rest : Octets) → report_from old (octets ++ rest)
      ≡ report_after printed (ends_at number)

abbrev pub IsFront : Octets → Octets → Type 0
IsFront front octets = (left : Octets) × (octets ≡ front ++ left)

-- The writer failed in these octets, with a prefix of their text written.
pub record BreaksOffPrinting (old : Session) (octets : Octets) (held holds : Option Octets) : Type 0
  where
    pub printed : Octets
    pub appended : Appends held holds printed
    pub front : (rest : Octets) → IsFront printed (report_from old (octets ++ rest)).printed

-- The writer failed at the end of the input.
pub record EndsBroken (old : Session) (held holds : Option Octets) : Type 0 where
  pub printed : Octets
  pub appended : Appends held holds printed
  pub front : IsFront printed (report_from old []).printed

-- The writer failed with a prefix of the response written.
pub record BreaksLine (old : Session) (held holds : Option Octets) : Type 0 where
  pub pdu : Octets
  pub spelled : pdu_of old.line.items ≡ Some pdu
  pub front : WritesFront (printed_answer (answer_from (server_of old) pdu)) held holds

-- The session ends with this report, and the last line's text is written.
pub record Ends (old : Session) (end : Report) (held holds : Option (Octets)) : Type 0 where
  pub printed : Octets
  pub appended : Appends held holds printed
  pub ended : report_from old [] ≡ report_after printed end

-- The line is answered, and only the server changed.
pub record AnswersLine (old new : Session) (held holds : Option (Octets)) : Type 0 where
  pub pdu : Octets
  pub spelled : pdu_of old.line.items ≡ Some pdu
  pub appended : Appends held holds (printed_answer (answer_from (server_of old) pdu))
  pub server : server_of new ≡ server_after (server_of old) pdu
  pub number : new.number ≡ old.number

abbrev pub IsLineFault : ShellFault → Type 0
IsLineFault Unwritten = Unit {0}
IsLineFault (NotHex _) = Unit {0}
IsLineFault _ = ⊥

pub record IsStart (session : Session) : Type 0 where
  pub server : server_of session ≡ door_server
  pub line : session.line.items ≡ []
  pub number : session.number ≡ 1

abbrev pub IsAnsweringFault : ShellFault → Type 0
IsAnsweringFault Unreadable = Unit {0}
IsAnsweringFault fault = IsLineFault fault
