-- How a session goes on with its input.
use Rattle.std.proofs.Common.{◌≡◌, ◌≢◌, ℕ, ◌+◌, ◌<◌, List, [], ◌∷◌, ◌++◌, length, Option, Some, None, refl, sym, ◌∙◌, ap, subst, take, arith, append_assoc}
use Rattle.std.specs.Prelude.{IfSome, Result, Ok, Err, IsErrAnd}
use Rattle.shell_files.specs.declared.fault.ShellFault.{ShellFault}
use Rattle.std.specs.Io.KnownBytes.{Appends, Consumes, Keeps, IsAtEnd}
use Rattle.std.proofs.lemmas.Grind.{common_steps}
use Rattle.std.proofs.lemmas.List.{append-nil}
use Rattle.shell_files.specs.declared.session.Session.{Session}
use Rattle.std.specs.List.{onto_first}
use Rattle.octet_io.specs.Stream.{WritesFront}
use Rattle.shell_files.specs.Att.{Server, lines_of_input, pdu_of, printed_answer, answer_from, server_after, door_server, printed_for, bad_line_of}
use Rattle.shell_files.proofs.Appending.{appends-append, appends-nothing, appends-kept}
use Rattle.shell_files.proofs.Inputs.{consumes-append, consumes-kept, consumes-nothing}
use Rattle.shell_files.proofs.Reports.{printed-report, bad_line-report}
use Rattle.shell_files.specs.Session.{Report, report, line_report, report_after, ends_at, empty_report, onto, server_of, report_from, Passes, StopsAt, Ends, AnswersLine, IsFront, BreaksOffPrinting, EndsBroken, BreaksLine, IsStart}

-- a `?` passes on the fault that it was given
pub same_fault : {T U : Type 0} (inner : Result T ShellFault) (outer : Result U ShellFault) (fault wanted : ShellFault)
    → inner ≡ Err fault → IsErrAnd outer (λ passed_on. passed_on ≡ fault) → outer ≡ Err wanted → inner ≡ Err wanted
same_fault inner (Ok x) fault wanted was is h = absurd is
same_fault inner (Err passed_on) fault wanted was is h = cc

after-after : (xs ys : List ℕ) (rest : Report) → report_after xs (report_after ys rest) ≡ report_after (xs ++ ys) rest
after-after xs ys rest = simp append_assoc

-- no octets are passed by standing still
pub passes_none : (session : Session) (held : Option (List ℕ)) → Passes session session [] held held
passes_none session held = record { printed = []; appended = appends-nothing held; left = λ rest. refl }

pub passes_more : (first second third : Session) (xs ys : List ℕ) (held mid holds : Option (List ℕ))
    → Passes first second xs held mid → Passes second third ys mid holds → Passes first third (xs ++ ys) held holds
passes_more first second third xs ys held mid holds a b = record {
  printed = a.printed ++ b.printed;
  appended = appends-append held mid holds a.printed b.printed a.appended b.appended;
  left = λ rest.
      ap (report_from first) (append_assoc xs ys rest) ∙ a.left (ys ++ rest) ∙ ap (report_after a.printed) (b.left rest)
      ∙ after-after a.printed b.printed (report_from third rest);
}

-- what was printed is the front of what is printed for more, where it cannot be flushed
pub break_kept : (first second : Session) (xs : List ℕ) (held mid holds : Option (List ℕ))
    → Passes first second xs held mid → Keeps mid holds → BreaksOffPrinting first xs held holds
break_kept first second xs held mid holds a kept = record {
  printed = a.printed;
  appended = appends-kept held mid holds a.printed a.appended kept;
  front = λ rest. ((report_from second rest).printed, ap (λ (r : Report). r.printed) (a.left rest));
}

pub stops_after : (first second : Session) (xs ys zs : List ℕ) (number : ℕ) (held mid holds : Option (List ℕ))
    → Passes first second xs held mid → StopsAt second ys number mid holds → StopsAt first (xs ++ (ys ++ zs)) number held holds
stops_after first second xs ys zs number held mid holds a b = record {
  printed = a.printed ++ b.printed;
  appended = appends-append held mid holds a.printed b.printed a.appended b.appended;
  stopped = λ rest.
      ap (report_from first) (append_assoc xs (ys ++ zs) rest ∙ ap (λ more. xs ++ more) (append_assoc ys zs rest))
      ∙ a.left (ys ++ (zs ++ rest)) ∙ ap (report_after a.printed) (b.stopped (zs ++ rest))
      ∙ after-after a.printed b.printed (ends_at number);
}

-- an octet that ends no line goes to the end of the line that has begun
onto-onto_first : (line : List ℕ) (octet : ℕ) (lines : List (List ℕ)) → onto line (onto_first octet lines) ≡ onto (line ++ octet ∷ []) lines
onto-onto_first [] octet [] = refl
onto-onto_first [] octet (l ∷ lines) = refl
onto-onto_first (x ∷ xs) octet [] = refl
onto-onto_first (x ∷ xs) octet (l ∷ lines) = ap (λ (more : List ℕ). (x ∷ more) ∷ lines) (sym (append_assoc xs (octet ∷ []) l))

lines_of-other : (octet : ℕ) (octets : List ℕ) → octet ≢ 10 → lines_of_input (octet ∷ octets) ≡ onto_first octet (lines_of_input octets)
lines_of-other octet octets other = grind (arith, common_steps)

report_from-octet : (old : Session) (octet : ℕ) (rest : List ℕ) → octet ≢ 10
    → report_from old (octet ∷ rest) ≡ report (server_of old) old.number (onto (old.line.items ++ octet ∷ []) (lines_of_input rest))
unfolding report_from
report_from-octet old octet rest other =
    ap (λ lines. report (server_of old) old.number (onto old.line.items lines)) (lines_of-other octet rest other)
    ∙ ap (report (server_of old) old.number) (onto-onto_first old.line.items octet (lines_of_input rest))

pub pass_octet : (old new : Session) (octet : ℕ) (held : Option (List ℕ))
    → octet ≢ 10 → new.line.items ≡ old.line.items ++ octet ∷ [] → server_of new ≡ server_of old → new.number ≡ old.number
    → Passes old new (octet ∷ []) held held
unfolding report_from
pass_octet old new octet held other line server number = record {
  printed = [];
  appended = appends-nothing held;
  left = λ rest. report_from-octet old octet rest other ∙ rw (line, server, number) refl;
}

-- a line of more than 1,040 octets is not hexadecimal, whatever follows it
report-long : (server : Server) (number : ℕ) (line : List ℕ) (lines : List (List ℕ)) → 1040 < length line → report server number (onto line lines)
    ≡ ends_at number
report-long server number [] lines long = absurd (omega arith)
report-long server number (x ∷ xs) [] long = grind (arith, common_steps)
report-long server number (x ∷ xs) (l ∷ lines) long = grind (arith, common_steps)

pub stop_long : (old : Session) (octet number : ℕ) (held : Option (List ℕ))
    → octet ≢ 10 → length old.line.items ≡ 1040 → number ≡ old.number → StopsAt old (octet ∷ []) number held held
stop_long old octet number held other full is = record {
  printed = [];
  appended = appends-nothing held;
  stopped = λ rest.
      report_from-octet old octet rest other
      ∙ report-long (server_of old) old.number (old.line.items ++ octet ∷ []) (lines_of_input rest) (grind (arith, common_steps))
      ∙ ap ends_at (sym is);
}

-- a line feed ends the line that has begun
onto-ended : (line : List ℕ) (lines : List (List ℕ)) → onto line ([] ∷ lines) ≡ line ∷ lines
onto-ended [] lines = refl
onto-ended (x ∷ xs) lines = ap (λ (more : List ℕ). (x ∷ more) ∷ lines) (append-nil xs)

report_from-feed : (old : Session) (octet : ℕ) (rest : List ℕ) → octet ≡ 10
    → report_from old (octet ∷ rest) ≡ line_report (server_of old) old.number old.line.items (λ next. report next (old.number + 1) (lines_of_input rest))
unfolding report_from
report_from-feed old octet rest feed = rw feed (ap (report (server_of old) old.number) (onto-ended old.line.items (lines_of_input rest)))

line_report-answered : (server : Server) (number : ℕ) (line pdu : List ℕ) (rest : Server → Report) → line ≢ [] → pdu_of line ≡ Some pdu
    → line_report server number line rest ≡ report_after (printed_answer (answer_from server pdu)) (rest (server_after server pdu))
line_report-answered server number [] pdu rest begun spelled = absurd (begun refl)
line_report-answered server number (x ∷ xs) pdu rest begun spelled = rw spelled

line_report-not_hex : (server : Server) (number : ℕ) (line : List ℕ) (rest : Server → Report) → line ≢ [] → pdu_of line ≡ None
    → line_report server number line rest ≡ ends_at number
line_report-not_hex server number [] rest begun refused = absurd (begun refl)
line_report-not_hex server number (x ∷ xs) rest begun refused = rw refused

pub pass_blank : (old new : Session) (octet : ℕ) (held : Option (List ℕ))
    → octet ≡ 10 → old.line.items ≡ [] → new.line.items ≡ [] → server_of new ≡ server_of old → new.number ≡ old.number + 1
    → Passes old new (octet ∷ []) held held
unfolding report_from
pass_blank old new octet held feed blank line server number = record {
  printed = [];
  appended = appends-nothing held;
  left = λ rest. report_from-feed old octet rest feed ∙ rw (blank, line, server, number) refl;
}

pub pass_line : (old mid new : Session) (octet : ℕ) (held holds : Option (List ℕ))
    → octet ≡ 10 → old.line.items ≢ [] → AnswersLine old mid held holds
    → new.line.items ≡ [] → server_of new ≡ server_of mid → new.number ≡ mid.number + 1
    → Passes old new (octet ∷ []) held holds
unfolding report_from
pass_line old mid new octet held holds feed begun answered line server number = record {
  printed = printed_answer (answer_from (server_of old) answered.pdu);
  appended = answered.appended;
  left = λ rest.
      report_from-feed old octet rest feed
      ∙ line_report-answered (server_of old) old.number old.line.items answered.pdu (λ next. report next (old.number + 1) (lines_of_input rest)) begun
      answered.spelled
      ∙ ap (report_after (printed_answer (answer_from (server_of old) answered.pdu))) (rw (line, server, answered.server, number, answered.number) refl);
}

pub stop_line : (old : Session) (octet number : ℕ) (held holds : Option (List ℕ))
    → octet ≡ 10 → old.line.items ≢ [] → pdu_of old.line.items ≡ None → number ≡ old.number → Appends held holds []
    → StopsAt old (octet ∷ []) number held holds
stop_line old octet number held holds feed begun refused is appended = record {
  printed = [];
  appended = appended;
  stopped = λ rest.
      report_from-feed old octet rest feed
      ∙ line_report-not_hex (server_of old) old.number old.line.items (λ next. report next (old.number + 1) (lines_of_input rest)) begun refused
      ∙ ap ends_at (sym is);
}

-- the last line, where its line feed is missing
onto-last : (line : List ℕ) → onto line ([] ∷ []) ≡ line ∷ []
onto-last line = onto-ended line []

pub end_blank : (old : Session) (held : Option (List ℕ)) → old.line.items ≡ [] → Ends old empty_report held held
unfolding report_from
end_blank old held blank = record { printed = []; appended = appends-nothing held; ended = rw blank refl }

pub end_line : (old mid : Session) (held holds : Option (List ℕ)) → old.line.items ≢ [] → AnswersLine old mid held holds → Ends old empty_report held holds
unfolding report_from
end_line old mid held holds begun answered = record {
  printed = printed_answer (answer_from (server_of old) answered.pdu);
  appended = answered.appended;
  ended =
      ap (report (server_of old) old.number) (onto-last old.line.items)
      ∙ line_report-answered (server_of old) old.number old.line.items answered.pdu (λ next. empty_report) begun answered.spelled;
}

pub end_refused : (old : Session) (number : ℕ) (held holds : Option (List ℕ))
    → old.line.items ≢ [] → pdu_of old.line.items ≡ None → number ≡ old.number → Appends held holds []
    → Ends old (ends_at number) held holds
unfolding report_from
end_refused old number held holds begun refused is appended = record {
  printed = [];
  appended = appended;
  ended =
      ap (report (server_of old) old.number) (onto-last old.line.items)
      ∙ line_report-not_hex (server_of old) old.number old.line.items (λ next. empty_report) begun refused
      ∙ ap ends_at (sym is);
}

-- an answer that is printed in part
break_report : (server : Server) (number : ℕ) (line pdu : List ℕ) (rest : Server → Report) (held holds : Option (List ℕ)) → line ≢ [] → pdu_of line ≡ Some pdu
    → (broken : WritesFront (printed_answer (answer_from server pdu)) held holds) → IsFront broken.written (line_report server number line rest).printed
break_report server number line pdu rest held holds begun spelled broken = (
  broken.left ++ (rest (server_after server pdu)).printed,
  ap (λ (r : Report). r.printed) (line_report-answered server number line pdu rest begun spelled)
      ∙ ap (λ octets. octets ++ (rest (server_after server pdu)).printed) broken.parts
      ∙ append_assoc broken.written broken.left (rest (server_after server pdu)).printed,
)

pub break_line : (old : Session) (octet : ℕ) (held holds : Option (List ℕ)) → octet ≡ 10 → old.line.items ≢ [] → BreaksLine old held holds
    → BreaksOffPrinting old (octet ∷ []) held holds
break_line old octet held holds feed begun broken = record {
  printed = broken.front.written;
  appended = broken.front.appended;
  front = λ rest.
      let this =
      break_report (server_of old) old.number old.line.items broken.pdu (λ next. report next (old.number + 1) (lines_of_input rest)) held holds begun
      broken.spelled broken.front in
      (this.0, ap (λ (r : Report). r.printed) (report_from-feed old octet rest feed) ∙ this.1);
}

pub break_last : (old : Session) (held holds : Option (List ℕ)) → old.line.items ≢ [] → BreaksLine old held holds → EndsBroken old held holds
unfolding report_from
break_last old held holds begun broken = record {
  printed = broken.front.written;
  appended = broken.front.appended;
  front =
      let this = break_report (server_of old) old.number old.line.items broken.pdu (λ next. empty_report) held holds begun broken.spelled broken.front in
      (this.0, ap (λ lines. (report (server_of old) old.number lines).printed) (onto-last old.line.items) ∙ this.1);
}

pub break_after : (first second : Session) (xs ys zs : List ℕ) (held mid holds : Option (List ℕ))
    → Passes first second xs held mid → BreaksOffPrinting second ys mid holds → BreaksOffPrinting first (xs ++ (ys ++ zs)) held holds
break_after first second xs ys zs held mid holds a b = record {
  printed = a.printed ++ b.printed;
  appended = appends-append held mid holds a.printed b.printed a.appended b.appended;
  front = λ rest.
      let this = b.front (zs ++ rest) in (
        this.0,
        ap (λ octets. (report_from first octets).printed) (append_assoc xs (ys ++ zs) rest ∙ ap (λ more. xs ++ more) (append_assoc ys zs rest))
            ∙ ap (λ (r : Report). r.printed) (a.left (ys ++ (zs ++ rest)))
            ∙ ap (λ octets. a.printed ++ octets) this.1
            ∙ sym (append_assoc a.printed b.printed this.0),
      );
}

-- from its start the session has come past all that was read
pub record HasRead (start now : Session) (before left held holds : Option (List ℕ)) : Type 0 where
  pub seen : List ℕ
  pub consumed : Consumes before left seen
  pub passed : Passes start now seen held holds

pub has_read_none : (start : Session) (before held : Option (List ℕ)) → HasRead start start before before held held
has_read_none start before held = record { seen = []; consumed = consumes-nothing before; passed = passes_none start held }

pub has_read_more : (start now next : Session) (before mid left held holding holds : Option (List ℕ)) (octets : List ℕ)
    → HasRead start now before mid held holding → Consumes mid left octets → Passes now next octets holding holds
    → HasRead start next before left held holds
has_read_more start now next before mid left held holding holds octets so_far consumed passed = record {
  seen = so_far.seen ++ octets;
  consumed = consumes-append before mid left so_far.seen octets so_far.consumed consumed;
  passed = passes_more start now next so_far.seen octets held holding holds so_far.passed passed;
}

pub has_read_kept : (start now : Session) (before mid left held holds : Option (List ℕ))
    → HasRead start now before mid held holds → Keeps mid left → HasRead start now before left held holds
has_read_kept start now before mid left held holds so_far kept = record {
  seen = so_far.seen;
  consumed = consumes-kept before mid left so_far.seen so_far.consumed kept;
  passed = so_far.passed;
}

-- a read that gives nothing leaves the session where it was
pub has_read_nothing : (start now : Session) (before mid left held holds : Option (List ℕ)) (octets : List ℕ) (count : ℕ)
    → HasRead start now before mid held holds → count ≡ 0 → Consumes mid left (take count octets) → HasRead start now before left held holds
has_read_nothing start now before mid left held holds octets count so_far empty_report consumed =
    has_read_more start now now before mid left held holds holds [] so_far (rw empty_report at consumed) (passes_none now holds)

-- the report from the start is that on the lines of the input
abbrev report_of : List ℕ → Report
report_of input = report door_server 1 (lines_of_input input)

report_from-start : (start : Session) (input : List ℕ) → IsStart start → report_from start input ≡ report_of input
unfolding report_from
report_from-start start input is = rw (is.server, is.line, is.number) refl

-- and tells what is printed, and which line is bad
printed-of : (input : List ℕ) → (report_of input).printed ≡ printed_for input
unfolding printed_for
printed-of input = printed-report door_server 1 (lines_of_input input)

bad_line-of : (input : List ℕ) → (report_of input).not_hex ≡ bad_line_of input
bad_line-of input = bad_line-report door_server 1 (lines_of_input input)

-- what was printed in two goes is what the report has
told : (input : List ℕ) (end : Report) (xs ys : List ℕ) (held holding holds : Option (List ℕ))
    → report_of input ≡ report_after xs (report_after ys end) → end.printed ≡ [] → Appends held holding xs → Appends holding holds ys
    → (bad_line_of input ≡ end.not_hex) × Appends held holds (printed_for input)
told input end xs ys held holding holds is blank first second =
    let printed : xs ++ ys ≡ printed_for input =
    sym (ap (λ (r : Report). r.printed) is ∙ ap (λ (more : List ℕ). xs ++ (ys ++ more)) blank ∙ ap (λ (more : List ℕ). xs ++ more) (append-nil ys))
    ∙ printed-of input in (
      sym (bad_line-of input) ∙ ap (λ (r : Report). r.not_hex) is,
      subst (Appends held holds) printed (appends-append held holding holds xs ys first second),
    )

-- what the report on the input is, where all of it was read
pub answers_input : (start now : Session) (end : Report) (before left held holding holds : Option (List ℕ))
    → IsStart start → HasRead start now before left held holding → IsAtEnd left → Ends now end holding holds → end.printed ≡ []
    → IfSome before (λ input. (bad_line_of input ≡ end.not_hex) × Appends held holds (printed_for input))
answers_input start now end None left held holding holds is so_far at_end ends blank = tt
answers_input start now end (Some input) None held holding holds is so_far at_end ends blank = absurd so_far.consumed
answers_input start now end (Some input) (Some rest) held holding holds is so_far at_end ends blank =
    told input end so_far.passed.printed ends.printed held holding holds
    (
    sym (report_from-start start input is)
    ∙ ap (report_from start) (so_far.consumed ∙ ap (λ (more : List ℕ). so_far.seen ++ more) at_end)
    ∙ so_far.passed.left []
    ∙ ap (report_after so_far.passed.printed) ends.ended
    )
    blank so_far.passed.appended ends.appended

-- the same, where a line was refused before
pub refuses_input : (start now : Session) (number : ℕ) (octets : List ℕ) (before mid left held holding holds : Option (List ℕ))
    → IsStart start → HasRead start now before mid held holding → Consumes mid left octets → StopsAt now octets number holding holds
    → IfSome before (λ input. (bad_line_of input ≡ Some number) × Appends held holds (printed_for input))
refuses_input start now number octets None mid left held holding holds is so_far consumed stops = tt
refuses_input start now number octets (Some input) None left held holding holds is so_far consumed stops = absurd so_far.consumed
refuses_input start now number octets (Some input) (Some rest) None held holding holds is so_far consumed stops = absurd consumed
refuses_input start now number octets (Some input) (Some rest) (Some more) held holding holds is so_far consumed stops =
    told input (ends_at number) so_far.passed.printed stops.printed held holding holds
    (
    sym (report_from-start start input is)
    ∙ ap (report_from start) (so_far.consumed ∙ ap (λ (left : List ℕ). so_far.seen ++ left) consumed)
    ∙ so_far.passed.left (octets ++ more)
    ∙ ap (report_after so_far.passed.printed) (stops.stopped more)
    )
    refl so_far.passed.appended stops.appended

-- what was printed up to here, where the rest of the input is not read
pub prints_front : (start now : Session) (before left held holds : Option (List ℕ))
    → IsStart start → HasRead start now before left held holds → IfSome before (λ input. WritesFront (printed_for input) held holds)
prints_front start now None left held holds is so_far = tt
prints_front start now (Some input) None held holds is so_far = absurd so_far.consumed
prints_front start now (Some input) (Some rest) held holds is so_far =
    let said : report_of input ≡ report_after so_far.passed.printed (report_from now rest) =
    sym (report_from-start start input is) ∙ ap (report_from start) so_far.consumed ∙ so_far.passed.left rest in
    record {
      written = so_far.passed.printed;
      appended = so_far.passed.appended;
      left = (report_from now rest).printed;
      parts = sym (printed-of input) ∙ ap (λ (r : Report). r.printed) said;
    }

-- the same, where the writer failed
front_of : (input : List ℕ) (xs ys : List ℕ) (held holding holds : Option (List ℕ)) → IsFront (xs ++ ys) (report_of input).printed
    → Appends held holding xs → Appends holding holds ys → WritesFront (printed_for input) held holds
front_of input xs ys held holding holds is first second = record {
  written = xs ++ ys;
  appended = appends-append held holding holds xs ys first second;
  left = is.0;
  parts = sym (printed-of input) ∙ is.1;
}

pub breaks_input : (start now : Session) (octets : List ℕ) (before mid left held holding holds : Option (List ℕ))
    → IsStart start → HasRead start now before mid held holding → Consumes mid left octets → BreaksOffPrinting now octets holding holds
    → IfSome before (λ input. WritesFront (printed_for input) held holds)
breaks_input start now octets None mid left held holding holds is so_far consumed broken = tt
breaks_input start now octets (Some input) None left held holding holds is so_far consumed broken = absurd so_far.consumed
breaks_input start now octets (Some input) (Some rest) None held holding holds is so_far consumed broken = absurd consumed
breaks_input start now octets (Some input) (Some rest) (Some more) held holding holds is so_far consumed broken =
    let this = broken.front more in
    front_of input so_far.passed.printed broken.printed held holding holds (
      this.0,
      ap (λ (r : Report). r.printed) (
          sym (report_from-start start input is)
          ∙ ap (report_from start) (so_far.consumed ∙ ap (λ (left : List ℕ). so_far.seen ++ left) consumed)
          ∙ so_far.passed.left (octets ++ more)
          )
          ∙ ap (λ printed. so_far.passed.printed ++ printed) this.1
          ∙ sym (append_assoc so_far.passed.printed broken.printed this.0),
    )
    so_far.passed.appended broken.appended

pub breaks_end : (start now : Session) (before left held holding holds : Option (List ℕ))
    → IsStart start → HasRead start now before left held holding → IsAtEnd left → EndsBroken now holding holds
    → IfSome before (λ input. WritesFront (printed_for input) held holds)
breaks_end start now None left held holding holds is so_far at_end broken = tt
breaks_end start now (Some input) None held holding holds is so_far at_end broken = absurd so_far.consumed
breaks_end start now (Some input) (Some rest) held holding holds is so_far at_end broken =
    front_of input so_far.passed.printed broken.printed held holding holds (
      broken.front.0,
      ap (λ (r : Report). r.printed) (
          sym (report_from-start start input is)
          ∙ ap (report_from start) (so_far.consumed ∙ ap (λ (more : List ℕ). so_far.seen ++ more) at_end)
          ∙ so_far.passed.left []
          )
          ∙ ap (λ printed. so_far.passed.printed ++ printed) broken.front.1
          ∙ sym (append_assoc so_far.passed.printed broken.printed broken.front.0),
    )
    so_far.passed.appended broken.appended
