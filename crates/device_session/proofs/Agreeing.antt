-- The lines leave an application with the values of the host.
use Rattle.std.proofs.Common.{◌≡◌, ℕ, Bool, true, false, cond, List, [], ◌∷◌, ◌++◌, filter, length, not, refl, sym, ap, subst, ◌∙◌, ◌⊎◌, inl, inr}
use Rattle.std.specs.Prelude.{◌&&◌, ◌||◌, ◌==◌, fold, if◌then◌else◌, map}
use Rattle.std.specs.List.{list_any}
use Rattle.std.proofs.lemmas.Bool.{eqb-true}
use Rattle.std.proofs.lemmas.List.Sums.{fold-append}
use Rattle.octet_io.specs.Number.{Octets}
use Rattle.device_session.specs.declared.pending.Subject.{Subject}
use Rattle.device_session.specs.declared.pending.Subject.TheVariants.{Value, Configuration}
use Rattle.device_session.specs.Pending.{Line, is_same, with_line, without_subject}
use Rattle.device_session.specs.Reading.{Agrees, Events, LeavesHostsValues, Read, Sight, ReadTurn, Update, ValuesByHandle, after_known_change, values_after_events, values_after_read, sight_after_turn, after_known_update, answers_in, first_sight, changes_in, is_about, lines_read, lines_at_once, sight_after, still_waiting, updates_in, waiting_after, with_known_change, with_waiting_line, with_known_value, without_update}
use Rattle.device_session.specs.Reading.Events.{ByClients, ByItself, ByVisitor}
use Rattle.device_session.specs.Reading.Read.{Changed, Done, Updated, Missed}
use Rattle.device_session.proofs.Lasting.{is-it, differ}

-- the value at one handle
module _ (says : Octets → Octets) (handle : ℕ) where
  abbrev changed : Octets → Line → Octets
  changed value line = if is_about handle line then says line.text else value

  abbrev updated : Octets → Update → Octets
  updated value update = if update.handle == handle then update.value else value

  change-at : (values : ValuesByHandle) (line : Line) → after_known_change says values line handle ≡ changed (values handle) line
  change-at values line = by line.subject
    where
      by : (subject : Subject) → with_known_change subject (says line.text) values handle ≡ (if is_same subject (Value handle) then says line.text else values handle)
      by (Value other) = refl
      by (Configuration peer attribute) = refl

  changes-at : (values : ValuesByHandle) (lines : List Line) → fold (after_known_change says) values lines handle ≡ fold changed (values handle) lines
  changes-at values [] = refl
  changes-at values (line ∷ lines) =
      changes-at (after_known_change says values line) lines ∙ ap (λ (value : Octets). fold changed value lines) (change-at values line)

  updates-at : (values : ValuesByHandle) (updates : List Update) → fold after_known_update values updates handle ≡ fold updated (values handle) updates
  updates-at values [] = refl
  updates-at values (update ∷ updates) = updates-at (after_known_update values update) updates

  -- lines about it, and others
  changed-by : (value : Octets) (line : Line) (about : Bool) → is_about handle line ≡ about → changed value line ≡ (if about then says line.text else value)
  changed-by value line about is = ap (λ (about : Bool). if about then says line.text else value) is

  abbrev Same : Bool → Type 0
  Same about = about ≡ true

  -- a line that a filter treats otherwise is not about it
  not-about : (test : Line → Bool) (kept : Bool) → ((line : Line) → is_about handle line ≡ true → test line ≡ kept)
      → (line : Line) → test line ≡ not kept → is_about handle line ≡ false
  not-about test kept keeps line is = by kept (keeps line) is (is_about handle line) refl
    where
      by : (kept : Bool) → (is_about handle line ≡ true → test line ≡ kept) → test line ≡ not kept
          → (about : Bool) → is_about handle line ≡ about → is_about handle line ≡ false
      by kept keeps is false same = same
      by true keeps is true same = absurd (cc (sym is ∙ keeps same))
      by false keeps is true same = absurd (cc (sym is ∙ keeps same))

  abbrev filtered : (Line → Bool) → Line → List Line → Bool → List Line
  filtered test line lines stays = cond stays (line ∷ filter test lines) (filter test lines)

  -- a filter that keeps each line about it
  module _ (test : Line → Bool) (keeps : (line : Line) → is_about handle line ≡ true → test line ≡ true) where
    one-kept : (value : Octets) (line : Line) (lines : List Line) (stays : Bool) → test line ≡ stays
        → ((value : Octets) → fold changed value (filter test lines) ≡ fold changed value lines)
        → fold changed value (filtered test line lines stays) ≡ fold changed (changed value line) lines
    one-kept value line lines true is rest = rest (changed value line)
    one-kept value line lines false is rest =
        rest value ∙ ap (λ (value : Octets). fold changed value lines) (sym (changed-by value line false (not-about test true keeps line is)))

    all-kept : (lines : List Line) (value : Octets) → fold changed value (filter test lines) ≡ fold changed value lines
    all-kept [] value = refl
    all-kept (line ∷ lines) value = one-kept value line lines (test line) refl (all-kept lines)

  -- a filter that keeps no line about it
  module _ (test : Line → Bool) (drops : (line : Line) → is_about handle line ≡ true → test line ≡ false) where
    one-dropped : (value : Octets) (line : Line) (lines : List Line) (stays : Bool) → test line ≡ stays
        → ((value : Octets) → fold changed value (filter test lines) ≡ value)
        → fold changed value (filtered test line lines stays) ≡ value
    one-dropped value line lines true is rest = rest (changed value line) ∙ changed-by value line false (not-about test false drops line is)
    one-dropped value line lines false is rest = rest value

    none-kept : (lines : List Line) (value : Octets) → fold changed value (filter test lines) ≡ value
    none-kept [] value = refl
    none-kept (line ∷ lines) value = one-dropped value line lines (test line) refl (none-kept lines)

  -- without the lines of a subject
  others-stay : (subject : Subject) → is_same subject (Value handle) ≡ false → (value : Octets) (lines : List Line)
      → fold changed value (without_subject subject lines) ≡ fold changed value lines
  others-stay subject other value lines =
      all-kept (λ (line : Line). not (is_same line.subject subject))
      (λ line about. ap not (apart line about)) lines value
    where
      apart : (line : Line) → is_about handle line ≡ true → is_same line.subject subject ≡ false
      apart line about =
          differ subject line.subject
          (ap (λ (it : Subject). is_same subject it) (is-it line.subject (Value handle) about) ∙ other)

  none-stays : (value : Octets) (lines : List Line) → fold changed value (without_subject (Value handle) lines) ≡ value
  none-stays value lines =
      none-kept (λ (line : Line). not (is_same line.subject (Value handle))) (λ line about. ap not about) lines value

  with-line-at : (value : Octets) (waiting : List Line) (line : Line) → fold changed value (with_waiting_line waiting line) ≡ changed (fold changed value waiting) line
  with-line-at value waiting line =
      fold-append changed value (without_subject line.subject waiting) (line ∷ [])
      ∙ by (is_about handle line) refl
    where
      by : (about : Bool) → is_about handle line ≡ about
          → changed (fold changed value (without_subject line.subject waiting)) line ≡ changed (fold changed value waiting) line
      by true is =
          changed-by (fold changed value (without_subject line.subject waiting)) line true is ∙ sym (changed-by (fold changed value waiting) line true is)
      by false is =
          ap (λ (value : Octets). changed value line) (others-stay line.subject is value waiting)

  with-lines-at : (value : Octets) (waiting lines : List Line) → fold changed value (fold with_waiting_line waiting lines) ≡ fold changed (fold changed value waiting) lines
  with-lines-at value waiting [] = refl
  with-lines-at value waiting (line ∷ lines) =
      with-lines-at value (with_waiting_line waiting line) lines
      ∙ ap (λ (value : Octets). fold changed value lines) (with-line-at value waiting line)

  -- an update, and the lines that it leaves
  updated-by : (value : Octets) (update : Update) (about : Bool) → (update.handle == handle) ≡ about → updated value update ≡ (if about then update.value else value)
  updated-by value update about is = ap (λ (about : Bool). if about then update.value else value) is

  update-then-lines : (value : Octets) (waiting : List Line) (update : Update)
      → fold changed (updated value update) (without_update waiting update) ≡ updated (fold changed value waiting) update
  update-then-lines value waiting update = by (update.handle == handle) refl
    where
      by : (about : Bool) → (update.handle == handle) ≡ about
          → fold changed (updated value update) (without_update waiting update) ≡ updated (fold changed value waiting) update
      by true is =
          ap (λ (other : ℕ). fold changed (updated value update) (without_subject (Value other) waiting)) (eqb-true update.handle handle is)
          ∙ none-stays (updated value update) waiting
          ∙ updated-by value update true is
          ∙ sym (updated-by (fold changed value waiting) update true is)
      by false is =
          others-stay (Value update.handle) is (updated value update) waiting
          ∙ ap (λ (value : Octets). fold changed value waiting) (updated-by value update false is)
          ∙ sym (updated-by (fold changed value waiting) update false is)

  updates-then-lines : (value : Octets) (waiting : List Line) (updates : List Update)
      → fold changed (fold updated value updates) (fold without_update waiting updates) ≡ fold updated (fold changed value waiting) updates
  updates-then-lines value waiting [] = refl
  updates-then-lines value waiting (update ∷ updates) =
      updates-then-lines (updated value update) (without_update waiting update) updates
      ∙ ap (λ (value : Octets). fold updated value updates) (update-then-lines value waiting update)

  abbrev Later : List Line → List Update → Type 0
  Later waiting updates =
      (value : Octets)
      → fold updated (fold changed value (fold without_update waiting updates)) updates ≡ fold updated (fold changed value waiting) updates

  one-then-updates : (waiting : List Line) (update : Update) (updates : List Update) → (about : Bool) → (update.handle == handle) ≡ about
      → Later (without_update waiting update) updates → Later waiting (update ∷ updates)
  one-then-updates waiting update updates true is rest value =
      ap (λ (value : Octets). fold updated value updates)
      (updated-by (fold changed value (fold without_update (without_update waiting update) updates)) update true is
      ∙ sym (updated-by (fold changed value waiting) update true is))
  one-then-updates waiting update updates false is rest value =
      ap (λ (value : Octets). fold updated value updates)
      (updated-by (fold changed value (fold without_update (without_update waiting update) updates)) update false is)
      ∙ rest value
      ∙ ap (λ (value : Octets). fold updated value updates)
      (others-stay (Value update.handle) is value waiting ∙ sym (updated-by (fold changed value waiting) update false is))

  lines-then-updates : (waiting : List Line) (updates : List Update) → Later waiting updates
  lines-then-updates waiting [] value = refl
  lines-then-updates waiting (update ∷ updates) value =
      one-then-updates waiting update updates (update.handle == handle) refl (lines-then-updates (without_update waiting update) updates) value

  -- what is read in a turn
  abbrev known : Octets → Read → Octets
  known value (Changed line) = changed value line
  known value (Done update) = updated value update
  known value (Updated update) = updated value update
  known value (Missed other now) = if other == handle then now else value

  read-at : (values : ValuesByHandle) (line : Read) → values_after_read says values line handle ≡ known (values handle) line
  read-at values (Changed line) = change-at values line
  read-at values (Done update) = refl
  read-at values (Updated update) = refl
  read-at values (Missed other now) = refl

  reads-at : (values : ValuesByHandle) (lines : List Read) → fold (values_after_read says) values lines handle ≡ fold known (values handle) lines
  reads-at values [] = refl
  reads-at values (line ∷ lines) =
      reads-at (values_after_read says values line) lines ∙ ap (λ (value : Octets). fold known value lines) (read-at values line)

  reads-changed : (value : Octets) (lines : List Line) → fold known value (map Changed lines) ≡ fold changed value lines
  reads-changed value [] = refl
  reads-changed value (line ∷ lines) = reads-changed (changed value line) lines

  reads-done : (value : Octets) (updates : List Update) → fold known value (map Done updates) ≡ fold updated value updates
  reads-done value [] = refl
  reads-done value (update ∷ updates) = reads-done (updated value update) updates

  reads-updated : (value : Octets) (updates : List Update) → fold known value (map Updated updates) ≡ fold updated value updates
  reads-updated value [] = refl
  reads-updated value (update ∷ updates) = reads-updated (updated value update) updates

  abbrev reminders : ValuesByHandle → List ℕ → List Read
  reminders host handles = map (λ other. Missed other (host other)) handles

  abbrev Ends : ValuesByHandle → Octets → List ℕ → Octets → Type 0
  Ends host value handles next =
      (fold known next (reminders host handles) ≡ value) ⊎ (fold known next (reminders host handles) ≡ host handle)

  of-host : (host : ValuesByHandle) (value : Octets) (handles : List ℕ) → Ends host (host handle) handles (host handle) → Ends host value handles (host handle)
  of-host host value handles (inl same) = inr same
  of-host host value handles (inr same) = inr same

  one-missed : (host : ValuesByHandle) (value : Octets) (other : ℕ) (handles : List ℕ) (about : Bool) → (other == handle) ≡ about
      → ((value : Octets) → Ends host value handles value) → Ends host value handles (if other == handle then host other else value)
  one-missed host value other handles true is rest =
      subst (Ends host value handles)
      (sym (ap (λ (about : Bool). if about then host other else value) is ∙ ap host (eqb-true other handle is)))
      (of-host host value handles (rest (host handle)))
  one-missed host value other handles false is rest =
      subst (Ends host value handles) (sym (ap (λ (about : Bool). if about then host other else value) is)) (rest value)

  reads-missed : (host : ValuesByHandle) (handles : List ℕ) (value : Octets) → Ends host value handles value
  reads-missed host [] value = inl refl
  reads-missed host (other ∷ handles) value = one-missed host value other handles (other == handle) refl (reads-missed host handles)

  -- lines say one value, or none
  one-value : (lines : List Line)
      → ((value : Octets) → fold changed value lines ≡ value) ⊎ ((one two : Octets) → fold changed one lines ≡ fold changed two lines)
  one-value [] = inl (λ value. refl)
  one-value (line ∷ lines) = by (is_about handle line) refl (one-value lines)
    where
      by : (about : Bool) → is_about handle line ≡ about
          → ((value : Octets) → fold changed value lines ≡ value) ⊎ ((one two : Octets) → fold changed one lines ≡ fold changed two lines)
          → ((value : Octets) → fold changed (changed value line) lines ≡ value)
          ⊎ ((one two : Octets) → fold changed (changed one line) lines ≡ fold changed (changed two line) lines)
      by about is (inr one) = inr (λ first second. one (changed first line) (changed second line))
      by true is (inl none) =
          inr (λ first second. ap (λ (value : Octets). fold changed value lines) (changed-by first line true is ∙ sym (changed-by second line true is)))
      by false is (inl none) = inl (λ value. none (changed value line) ∙ changed-by value line false is)

  again : (value : Octets) (lines : List Line) → fold changed (fold changed value lines) lines ≡ fold changed value lines
  again value lines = by (one-value lines)
    where
      by : ((value : Octets) → fold changed value lines ≡ value) ⊎ ((one two : Octets) → fold changed one lines ≡ fold changed two lines)
          → fold changed (fold changed value lines) lines ≡ fold changed value lines
      by (inl none) = none (fold changed value lines)
      by (inr one) = one (fold changed value lines) value

  reminded : (host : ValuesByHandle) (value : Octets) (handles : List ℕ) (waiting : List Line) → fold changed value waiting ≡ host handle
      → fold changed (fold known value (reminders host handles)) waiting ≡ host handle
  reminded host value handles waiting same = by (reads-missed host handles value)
    where
      by : Ends host value handles value → fold changed (fold known value (reminders host handles)) waiting ≡ host handle
      by (inl is) = ap (λ (value : Octets). fold changed value waiting) is ∙ same
      by (inr is) =
          ap (λ (value : Octets). fold changed value waiting) (is ∙ sym same) ∙ again value waiting ∙ same

  one-not : (value : Octets) (line : Line) (waiting : List Line) (about : Bool) → is_about handle line ≡ about
      → list_any (is_about handle) (line ∷ waiting) ≡ false → ((value : Octets) → list_any (is_about handle) waiting ≡ false → fold changed value waiting ≡ value)
      → fold changed (changed value line) waiting ≡ value
  one-not value line waiting true is none rest =
      absurd (cc (sym none ∙ ap (λ (about : Bool). about || list_any (is_about handle) waiting) is))
  one-not value line waiting false is none rest =
      rest (changed value line) (sym (ap (λ (about : Bool). about || list_any (is_about handle) waiting) is) ∙ none) ∙ changed-by value line false is

  no-line : (waiting : List Line) (value : Octets) → list_any (is_about handle) waiting ≡ false → fold changed value waiting ≡ value
  no-line [] value none = refl
  no-line (line ∷ waiting) value none = one-not value line waiting (is_about handle line) refl none (no-line waiting)

  none-left : (waiting : List Line) (updates : List Update) → ((value : Octets) → fold changed value waiting ≡ value)
      → (value : Octets) → fold changed value (fold without_update waiting updates) ≡ value
  none-left waiting [] none value = none value
  none-left waiting (update ∷ updates) none value = none-left (without_update waiting update) updates (by (update.handle == handle) refl) value
    where
      by : (about : Bool) → (update.handle == handle) ≡ about → (value : Octets) → fold changed value (without_update waiting update) ≡ value
      by true is value =
          ap (λ (other : ℕ). fold changed value (without_subject (Value other) waiting)) (eqb-true update.handle handle is) ∙ none-stays value waiting
      by false is value = others-stay (Value update.handle) is value waiting ∙ none value

  -- what holds of each turn
  module _ (waits : Subject → Bool) where
    abbrev waits-now : Line → Bool
    waits-now line = waits line.subject

    record Holds (host value : Octets) (waiting : List Line) : Type 0 where
      saved : fold changed value waiting ≡ host
      none : waits (Value handle) ≡ false → (other : Octets) → fold changed other waiting ≡ other

    as-its-value : (line : Line) → is_about handle line ≡ true → waits-now line ≡ waits (Value handle)
    as-its-value line about = ap waits (is-it line.subject (Value handle) about)

    parts : (value : Octets) (first second last : List Read)
        → fold known value (first ++ (second ++ last)) ≡ fold known (fold known (fold known value first) second) last
    parts value first second last =
        fold-append known value first (second ++ last) ∙ fold-append known (fold known value first) second last

    module _ (host : ValuesByHandle) (value : Octets) (waiting : List Line) (holds : Holds (host handle) value waiting) (missed : List ℕ) where
      abbrev Left : ValuesByHandle → List Read → List Line → Type 0
      Left after lines left = Holds (after handle) (fold known value lines) left

      -- an update of its own, or of its visitor
      module _ (reading : Update → Read) (is-read : (value : Octets) (updates : List Update) → fold known value (map reading updates) ≡ fold updated value updates) (updates : List Update) where
        abbrev after : ValuesByHandle
        after = fold after_known_update host updates

        abbrev left : List Line
        left = fold without_update waiting updates

        saved-updates : Left after (map Changed left ++ (map reading updates ++ reminders after missed)) []
        saved-updates = record {
          saved =
              parts value (map Changed left) (map reading updates) (reminders after missed)
              ∙ reminded after (fold known (fold known value (map Changed left)) (map reading updates)) missed []
              (is-read (fold known value (map Changed left)) updates
              ∙ ap (λ (value : Octets). fold updated value updates) (reads-changed value left)
              ∙ lines-then-updates waiting updates value
              ∙ ap (λ (value : Octets). fold updated value updates) holds.saved
              ∙ sym (updates-at host updates));
          none = λ is other. refl;
        }

        unsaved-updates : Left after (map reading updates ++ reminders after missed) left
        unsaved-updates = record {
          saved =
              ap (λ (value : Octets). fold changed value left) (fold-append known value (map reading updates) (reminders after missed))
              ∙ reminded after (fold known value (map reading updates)) missed left
              (ap (λ (value : Octets). fold changed value left) (is-read value updates)
              ∙ updates-then-lines value waiting updates
              ∙ ap (λ (value : Octets). fold updated value updates) holds.saved
              ∙ sym (updates-at host updates));
          none = λ is. none-left waiting updates (holds.none is);
        }

      -- changes by clients
      module _ (lines : List Line) where
        abbrev now : ValuesByHandle
        now = fold (after_known_change says) host lines

        abbrev sent : List Line
        sent = filter (λ (line : Line). not (waits-now line)) lines

        abbrev late : List Line
        late = filter waits-now lines

        saved-changes : Left now (map Changed waiting ++ (map Changed lines ++ reminders now missed)) []
        saved-changes = record {
          saved =
              parts value (map Changed waiting) (map Changed lines) (reminders now missed)
              ∙ reminded now (fold known (fold known value (map Changed waiting)) (map Changed lines)) missed []
              (reads-changed (fold known value (map Changed waiting)) lines
              ∙ ap (λ (value : Octets). fold changed value lines) (reads-changed value waiting ∙ holds.saved)
              ∙ sym (changes-at host lines));
          none = λ is other. refl;
        }

        said-later : (wait : Bool) → waits (Value handle) ≡ wait → fold changed (fold changed (fold changed value sent) waiting) late ≡ fold changed (host handle) lines
        said-later true is =
            ap (λ (value : Octets). fold changed (fold changed value waiting) late)
            (none-kept (λ (line : Line). not (waits-now line)) (λ line about. ap not (as-its-value line about ∙ is)) lines value)
            ∙ ap (λ (value : Octets). fold changed value late) holds.saved
            ∙ all-kept waits-now (λ line about. as-its-value line about ∙ is) lines (host handle)
        said-later false is =
            ap (λ (value : Octets). fold changed value late) (holds.none is (fold changed value sent))
            ∙ none-kept waits-now (λ line about. as-its-value line about ∙ is) lines (fold changed value sent)
            ∙ all-kept (λ (line : Line). not (waits-now line)) (λ line about. ap not (as-its-value line about ∙ is)) lines value
            ∙ ap (λ (value : Octets). fold changed value lines) (sym (holds.none is value) ∙ holds.saved)

        unsaved-changes : Left now (map Changed sent ++ reminders now missed) (fold with_waiting_line waiting late)
        unsaved-changes = record {
          saved =
              ap (λ (value : Octets). fold changed value (fold with_waiting_line waiting late)) (fold-append known value (map Changed sent) (reminders now missed))
              ∙ reminded now (fold known value (map Changed sent)) missed (fold with_waiting_line waiting late)
              (ap (λ (value : Octets). fold changed value (fold with_waiting_line waiting late)) (reads-changed value sent)
              ∙ with-lines-at (fold changed value sent) waiting late
              ∙ said-later (waits (Value handle)) refl
              ∙ sym (changes-at host lines));
          none = λ is other.
              with-lines-at other waiting late
              ∙ ap (λ (value : Octets). fold changed value late) (holds.none is other)
              ∙ none-kept waits-now (λ line about. as-its-value line about ∙ is) lines other;
        }

      turn-keeps : (events : Events) (saved : Bool)
          → Left (values_after_events says host events)
          (lines_read waits (record { events = events; is_saved = saved; missed = missed }) waiting (values_after_events says host events))
          (waiting_after waits saved (changes_in events) (still_waiting events waiting))
      turn-keeps (ByClients lines) true = saved-changes lines
      turn-keeps (ByClients lines) false = unsaved-changes lines
      turn-keeps (ByItself updates) true = saved-updates Done reads-done updates
      turn-keeps (ByItself updates) false = unsaved-updates Done reads-done updates
      turn-keeps (ByVisitor updates) true = saved-updates Updated reads-updated updates
      turn-keeps (ByVisitor updates) false = unsaved-updates Updated reads-updated updates

    abbrev Sound : Sight → Type 0
    Sound sight = Holds (sight.host handle) (sight.known handle) sight.waiting

    sound-after : (sight : Sight) (turn : ReadTurn) → Sound sight → Sound (sight_after_turn says waits sight turn)
    sound-after sight turn sound =
        let next = turn-keeps sight.host (sight.known handle) sight.waiting sound turn.missed turn.events turn.is_saved in
        let after : Sight = sight_after_turn says waits sight turn in
        let same = reads-at sight.known (lines_read waits turn sight.waiting (values_after_events says sight.host turn.events)) in
        record {
          saved = ap (λ (value : Octets). fold changed value after.waiting) same ∙ next.saved;
          none = next.none;
        }

    all-sound : (sight : Sight) (turns : List ReadTurn) → Sound sight → Sound (fold (sight_after_turn says waits) sight turns)
    all-sound sight [] sound = sound
    all-sound sight (turn ∷ turns) sound = all-sound (sight_after_turn says waits sight turn) turns (sound-after sight turn sound)

    agrees : (values : ValuesByHandle) (turns : List ReadTurn) → Agrees says (sight_after says waits values turns) handle
    agrees values turns =
        let sight : Sight = sight_after says waits values turns in
        let sound : Sound sight = all-sound (first_sight values) turns (record { saved = refl; none = λ is other. refl }) in
        record {
          now = λ none. sym (no-line sight.waiting (sight.known handle) none) ∙ sound.saved;
          saved = changes-at sight.known sight.waiting ∙ sound.saved;
        }

pub leaves_hosts_values : LeavesHostsValues
leaves_hosts_values says waits values turns handle = agrees says handle waits values turns
