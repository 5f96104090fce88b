-- The lines that wait are those of the changes that nothing has ended.
use Rattle.std.proofs.Common.{◌≡◌, ◌≤◌, ℕ, Bool, true, false, cond, List, [], ◌∷◌, ◌++◌, filter, length, not, refl, sym, ap, subst, ◌∙◌, append_assoc, append-nil, arith}
use Rattle.std.specs.Prelude.{◌&&◌, ◌||◌, ◌==◌, fold}
use Rattle.std.specs.List.{list_any}
use Rattle.std.specs.Str.{bytes_eq}
use Rattle.std.proofs.lemmas.Bool.{eqb-true}
use Rattle.std.proofs.lemmas.List.Elements.{filter-append}
use Rattle.std.proofs.lemmas.Slice.Eq.{bytes_eq-Decides}
use Rattle.octet_io.specs.Number.{Octets}
use Rattle.device_session.specs.declared.pending.Subject.{Subject}
use Rattle.device_session.specs.declared.pending.Subject.TheVariants.{Value, Configuration}
use Rattle.device_session.specs.Pending.{Change, KeepsLastLines, KeepsOneEach, Line, after_change, ends_line, is_last, is_peer, is_same, lasting_lines, lines_about, with_line, without_subject}
use Rattle.device_session.specs.Pending.Change.{Waits, Lapses, Saved}

-- filters
all-stay : (lines : List Line) → filter (λ (line : Line). true) lines ≡ lines
all-stay [] = refl
all-stay (line ∷ lines) = ap (λ (lines : List Line). line ∷ lines) (all-stay lines)

none-stays : (lines : List Line) → filter (λ (line : Line). false) lines ≡ []
none-stays [] = refl
none-stays (line ∷ lines) = none-stays lines

module _ (first second both : Line → Bool) (same : (line : Line) → both line ≡ (first line && second line)) where
  one-more : (line : Line) (lines : List Line) (test : Bool) → both line ≡ (test && second line)
      → filter second (filter first lines) ≡ filter both lines
      → filter second (cond test (line ∷ filter first lines) (filter first lines)) ≡ cond (both line) (line ∷ filter both lines) (filter both lines)
  one-more line lines true is rest =
      ap (λ (kept : List Line). cond (second line) (line ∷ kept) kept) rest
      ∙ ap (λ test. cond test (line ∷ filter both lines) (filter both lines)) (sym is)
  one-more line lines false is rest = rest ∙ ap (λ test. cond test (line ∷ filter both lines) (filter both lines)) (sym is)

  filter-twice : (lines : List Line) → filter second (filter first lines) ≡ filter both lines
  filter-twice [] = refl
  filter-twice (line ∷ lines) = one-more line lines (first line) (same line) (filter-twice lines)

not-either : (one two : Bool) → not (one || two) ≡ (not one && not two)
not-either true two = refl
not-either false two = refl

abbrev stays : List Change → Line → Bool
stays later line = is_last line.subject later

-- of the lines that another change of their subject leaves, those of the later changes
without-then : (change : Change) (subject : Subject) (later : List Change) (lines : List Line)
    → ((line : Line) → ends_line line.subject change ≡ is_same line.subject subject)
    → filter (stays later) (without_subject subject lines) ≡ filter (stays (change ∷ later)) lines
without-then change subject later lines ends =
    filter-twice (λ (line : Line). not (is_same line.subject subject)) (stays later) (stays (change ∷ later))
    (λ line.
    not-either (ends_line line.subject change) (list_any (ends_line line.subject) later)
    ∙ ap (λ test. not test && stays later line) (ends line)) lines

one-stays : (test : Bool) (line : Line) (lines : List Line) → cond test (line ∷ []) [] ++ lines ≡ cond test (line ∷ lines) lines
one-stays true line lines = refl
one-stays false line lines = refl

keeps : (lines : List Line) (changes : List Change) → fold after_change lines changes ≡ filter (stays changes) lines ++ lasting_lines changes
unfolding lasting_lines
keeps lines [] = sym (append-nil (filter (stays []) lines) ∙ all-stay lines)
keeps lines (Waits subject text ∷ later) =
    let line : Line = record { subject = subject; text = text } in
    keeps (with_line subject text lines) later
    ∙ ap (λ (kept : List Line). kept ++ lasting_lines later)
    (filter-append (stays later) (without_subject subject lines) (line ∷ [])
    ∙ ap (λ (kept : List Line). kept ++ filter (stays later) (line ∷ [])) (without-then (Waits subject text) subject later lines (λ line. refl)))
    ∙ append_assoc (filter (stays (Waits subject text ∷ later)) lines) (filter (stays later) (line ∷ [])) (lasting_lines later)
    ∙ ap (λ (last : List Line). filter (stays (Waits subject text ∷ later)) lines ++ last) (one-stays (is_last subject later) line (lasting_lines later))
keeps lines (Lapses subject ∷ later) =
    keeps (without_subject subject lines) later
    ∙ ap (λ (kept : List Line). kept ++ lasting_lines later) (without-then (Lapses subject) subject later lines (λ line. refl))
keeps lines (Saved ∷ later) =
    keeps [] later ∙ ap (λ (kept : List Line). kept ++ lasting_lines later) (sym (none-stays lines))

pub keeps_last_lines : KeepsLastLines
keeps_last_lines changes = keeps [] changes

-- subjects
same-and : (one two : Bool) → one && two ≡ true → (one ≡ true) × (two ≡ true)
same-and true true is = (refl, refl)
same-and true false is = cc is
same-and false two is = cc is

pub is-it : (one other : Subject) → is_same one other ≡ true → one ≡ other
is-it (Value handle) (Value other) is = ap Value (eqb-true handle other is)
is-it (Value handle) (Configuration peer attribute) is = cc is
is-it (Configuration peer attribute) (Value handle) is = cc is
is-it (Configuration peer attribute) (Configuration other handle) is =
    let tests = same-and (is_peer peer other) (attribute == handle) is in
    let peers = same-and (peer.kind == other.kind) (bytes_eq peer.address other.address) tests.0 in
    let kinds = eqb-true peer.kind other.kind peers.0 in
    let addresses = (bytes_eq-Decides peer.address other.address).0 peers.1 in
    let handles = eqb-true attribute handle tests.1 in
    λ i. Configuration (record { kind = kinds i; address = addresses i }) (handles i)

pub differ : (one other : Subject) → is_same one other ≡ false → is_same other one ≡ false
differ one other is = by (is_same other one) refl
  where
    by : (test : Bool) → is_same other one ≡ test → test ≡ false
    by false same = refl
    by true same =
        absurd (cc (sym same ∙ ap (λ it. is_same it one) (is-it other one same) ∙ ap (λ it. is_same one it) (sym (is-it other one same)) ∙ is))

abbrev about : Subject → List Change → ℕ
about subject changes = length (lines_about subject (lasting_lines changes))

-- at most one line, and none if a later change ends it
pub record Few (subject : Subject) (later : List Change) : Type 0 where
  pub one : about subject later ≤ 1
  pub none : is_last subject later ≡ true → about subject later ≡ 0

first-ends : (one two : Bool) → not (one || two) ≡ true → (one ≡ false) × (not two ≡ true)
first-ends true two is = cc is
first-ends false two is = (refl, is)

module _ (subject other : Subject) (text : Octets) (later : List Change) where
  abbrev line : Line
  line = record { subject = other; text = text }

  abbrev found : List Line → ℕ
  found lines = length (lines_about subject lines)

  abbrev more : Bool → ℕ
  more lasts = found (cond lasts (line ∷ lasting_lines later) (lasting_lines later))

  few-more : (lasts : Bool) → is_last other later ≡ lasts → (same : Bool) → is_same other subject ≡ same → Few subject later
      → (more (is_last other later) ≤ 1) × (is_last subject (Waits other text ∷ later) ≡ true → more (is_last other later) ≡ 0)
  few-more false lasts same is few =
      let equal : more (is_last other later) ≡ about subject later = ap more lasts in
      (omega (arith, equal, few.one), λ last. equal ∙ few.none (first-ends (is_same subject other) (list_any (ends_line subject) later) last).1)
  few-more true lasts false is few =
      let equal : more (is_last other later) ≡ about subject later =
      ap more lasts ∙ ap (λ test. length (cond test (line ∷ lines_about subject (lasting_lines later)) (lines_about subject (lasting_lines later)))) is in
      (omega (arith, equal, few.one), λ last. equal ∙ few.none (first-ends (is_same subject other) (list_any (ends_line subject) later) last).1)
  few-more true lasts true is few =
      let equal : more (is_last other later) ≡ length (line ∷ lines_about subject (lasting_lines later)) =
      ap more lasts ∙ ap (λ test. length (cond test (line ∷ lines_about subject (lasting_lines later)) (lines_about subject (lasting_lines later)))) is in
      let none : about subject later ≡ 0 = few.none (ap (λ it. is_last it later) (sym (is-it other subject is)) ∙ lasts) in (
        omega (arith, equal, none),
        λ last. absurd (cc (sym is ∙ differ subject other (first-ends (is_same subject other) (list_any (ends_line subject) later) last).0)),
      )

few : (subject : Subject) (changes : List Change) → Few subject changes
unfolding lasting_lines
few subject [] = record { one = omega arith; none = λ is. refl }
few subject (Waits other text ∷ later) =
    let more = few-more subject other text later (is_last other later) refl (is_same other subject) refl (few subject later) in
    record { one = more.0; none = more.1 }
few subject (Lapses other ∷ later) =
    let more = few subject later in
    record { one = more.one; none = λ is. more.none (first-ends (is_same subject other) (list_any (ends_line subject) later) is).1 }
few subject (Saved ∷ later) = record { one = (few subject later).one; none = λ is. cc is }

pub keeps_one_each : KeepsOneEach
keeps_one_each changes subject =
    subst (λ (lines : List Line). length (lines_about subject lines) ≤ 1) (sym (keeps_last_lines changes)) (few subject changes).one
