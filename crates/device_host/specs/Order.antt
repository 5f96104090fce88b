-- The lines that an application is sent in a turn, in this order (this profile's own).
use Rattle.std.specs.Prelude.{◌≡◌, ◌⊎◌, ℕ, ◌==◌, Bool, true, false, List, [], ◌∷◌, codes, length, map, IfSome, Option, Some, None}
use Rattle.std.specs.List.{flat_map}
use Rattle.std.specs.Option.{option_map}
use Rattle.octet_io.specs.Number.{Octets}
use Rattle.att_table.specs.Find.{value_where}
use Rattle.device_loop.specs.declared.outside.Saving.{Saving}
use Rattle.device_loop.specs.declared.outside.Saving.TheVariants as saving
use Rattle.gatt_host.specs.Connections.{connections_in}
use Rattle.gatt_host.specs.HostModel.{HostModel}
use Rattle.app_lines.specs.declared.names.Named.{Named}
use Rattle.app_lines.specs.Told.{told_line, value_line, words_line}
use Rattle.app_lines.specs.declared.told.Told.TheVariants.{Saved, Serving}
use Rattle.device_session.specs.Application.{IsFlushed}
use Rattle.device_session.specs.Asking.{Asking, closing_now, replied, stays_open}
use Rattle.device_session.specs.Missed.{Missed}
use Rattle.device_session.specs.Notices.{Heard, is_nothing}
use Rattle.device_session.specs.Pending.{Line}
use Rattle.device_session.specs.Seats.{Seats, after_welcome, has_read_all, is_new, is_there}
use Rattle.device_session.specs.Telling.{AreLinesTold, AreNoted, IsLast, IsReplied, IsSaidOrEnded, IsSavedTold, IsTold, IsUnsavedTold}
use Rattle.device_session.specs.declared.pending.Subject.TheVariants.{Value}
use Rattle.device_host.specs.declared.device.Takes.{Takes}
use Rattle.device_host.specs.declared.device.Takes.TheVariants as takes
use Rattle.device_host.specs.declared.keeping.Keeping.{Keeping}
use Rattle.device_host.specs.declared.keeping.News.{News}
use Rattle.device_host.specs.declared.keeping.News.TheVariants as news
use Rattle.device_host.specs.Answers.{lines_if_secured, state_lines}

abbrev pub is_saved : Saving → Bool
is_saved saving.Saved = true
is_saved other = false

-- No event is taken, since the changes of the events before are to be saved.
abbrev pub takes_nothing : Takes → Bool
takes_nothing takes.Nothing = true
takes_nothing other = false

-- Another line of the same sender is taken before the save.
abbrev pub takes_line : Takes → Bool
takes_line takes.Line = true
takes_line other = false

-- All that a session sends from.
pub record Outputs : Type 0 where
  pub seats : Seats
  pub missed : Missed
  pub pending : List Line
  pub asking : Asking
  pub updated : Octets

-- The words of a failed save, if there are any.
abbrev pub IsFailureTold : Option Octets → Seats → Seats → Type 0
IsFailureTold (Some words) before after =
    IsTold (Some (words_line (codes "+ unsaved: ") words)) before after
IsFailureTold None before after = after ≡ before

abbrev pub failure_of : Option Keeping → Option Octets
failure_of (Some keeping) = option_map (λ words. words.bytes.items) keeping.failure
failure_of None = None

-- An application is notified that saving fails, or succeeds again.
abbrev pub IsSavingTold : News → Option Octets → Seats → Seats → Type 0
IsSavingTold news.Nothing failure before after = after ≡ before
IsSavingTold news.Fails failure before after = IsFailureTold failure before after
IsSavingTold news.SavesAgain failure before after =
    IsTold (Some (told_line Saved)) before after

abbrev pub news_of : Option Keeping → News
news_of (Some keeping) = keeping.news
news_of None = news.Nothing

-- The controller is initialised, and then saving fails or succeeds again.
pub record IsNewsTold (initialised : Bool) (keeping : Option Keeping)
    (before after : Seats) : Type 0 where
  pub informed : Seats
  pub first : initialised ≡ true → IsTold (Some (told_line Serving)) before informed
  pub none : initialised ≡ false → informed ≡ before
  pub saving : IsSavingTold (news_of keeping) (failure_of keeping) informed after

-- The lines that waited for a save are sent after it, each once, in order.
pub record IsRelease (saved : Bool) (lines : List Line) (before : Seats) (missed : Missed)
    (after : Seats) (last : Missed) (left : List Line) : Type 0 where
  pub sent : saved ≡ true → AreLinesTold lines before missed after last
  pub none_left : saved ≡ true → left ≡ []
  pub waits : saved ≡ false → after ≡ before
  pub unchanged : saved ≡ false → last ≡ missed
  pub kept : saved ≡ false → left ≡ lines

-- The text of the subscriptions, unless memory was refused for it. Nothing is sent if no link has
-- become secure.
pub record AreSubscriptionsTold (secured : List ℕ) (named : List Named) (host : HostModel)
    (before after : Seats) : Type 0 where
  pub text : Option Octets
  pub subscriptions :
      IfSome text
      (λ text. text ≡ flat_map (lines_if_secured secured named host) (connections_in host))
  pub some : (length secured == 0) ≡ false → IsTold text before after
  pub none : (length secured == 0) ≡ true → after ≡ before

-- The lines of the notices are sent, or wait for a save.
pub record AreNoticesTold (saved : Bool) (heard : Heard) (named : List Named) (host : HostModel)
    (before : Seats) (missed : Missed) (waiting : List Line)
    (after : Seats) (last : Missed) (left : List Line) : Type 0 where
  pub notified : Seats
  pub if_saved :
      saved ≡ true
      → IsSavedTold heard.is_refused heard.text heard.changes heard.written before missed
      notified last
  pub still_waiting : saved ≡ true → left ≡ waiting
  pub if_unsaved :
      saved ≡ false
      → IsUnsavedTold heard.is_refused heard.text heard.changes before waiting notified left
  pub written : saved ≡ false → AreNoted (map Value heard.written) notified missed last
  pub subscriptions : AreSubscriptionsTold heard.secured named host notified after

pub record AreHeard (saved : Bool) (heard : Heard) (named : List Named) (host : HostModel)
    (before : Seats) (missed : Missed) (waiting : List Line)
    (after : Seats) (last : Missed) (left : List Line) : Type 0 where
  pub notices :
      is_nothing heard ≡ false
      → AreNoticesTold saved heard named host before missed waiting after last left
  pub nobody : is_nothing heard ≡ true → after ≡ before
  pub nothing : is_nothing heard ≡ true → last ≡ missed
  pub none : is_nothing heard ≡ true → left ≡ waiting

-- The state is sent, unless memory was refused for it, and then that saving fails, if it does.
pub record IsStateTold (started : ℕ) (serving : Bool) (named : List Named) (host : HostModel)
    (failure : Option Octets) (before after : Seats) : Type 0 where
  pub text : Option Octets
  pub said : Seats
  pub state : IfSome text (λ text. text ≡ state_lines started serving named host)
  pub first : IsSaidOrEnded text (after_welcome before) said
  pub failing : IsFailureTold failure said after

-- Only a new application is sent the state.
pub record IsWelcomed (started : ℕ) (serving : Bool) (named : List Named) (host : HostModel)
    (failure : Option Octets) (before after : Seats) : Type 0 where
  pub new :
      is_new before ≡ true
      → IsStateTold started serving named host failure before after
  pub others : is_new before ≡ false → after ≡ before

-- The line of a value that the application missed.
abbrev pub IsMissedLine : HostModel → Octets → Type 0
IsMissedLine host line =
    (handle : ℕ) × (value : Octets)
    × (value_where host.server.table handle ≡ Some value)
    × (line ≡ value_line (codes "+ missed") handle value)

-- Some values that it missed are sent, each in a line.
unfoldable pub AreMissedTold : HostModel → List Octets → Seats → Seats → Type 0
AreMissedTold host [] before after = after ≡ before
AreMissedTold host (line ∷ lines) before after =
    (next : Seats) × IsMissedLine host line × IsTold (Some line) before next
    × AreMissedTold host lines next after

-- An application is sent the news, then the lines that waited for the save, then the answers, the
-- notices, the state if it is new, and the values that it missed. Then its socket accepts what it
-- may.
pub record IsTurnTold (saved initialised serving : Bool) (started : ℕ) (keeping : Option Keeping)
    (heard : Heard) (named : List Named) (host : HostModel) (before after : Outputs) : Type 0
  where
    pub informed : Seats
    pub released : Seats
    pub answered : Seats
    pub notified : Seats
    pub welcomed : Seats
    pub reminded : Seats
    pub noted : Missed
    pub known : Missed
    pub left : Missed
    pub waiting : List Line
    pub missed : List Octets
    pub news : IsNewsTold initialised keeping before.seats informed
    pub releases :
        IsRelease saved before.pending informed before.missed released noted waiting
    pub answers :
        IsReplied before.asking.answers (stays_open (closing_now before.asking)) before.updated
        released answered
    pub notices :
        AreHeard saved heard named host answered noted waiting notified known after.pending
    pub state : IsWelcomed started serving named host (failure_of keeping) notified welcomed
    pub reminders : AreMissedTold host missed welcomed reminded
    pub writes : IsFlushed reminded after.seats
    pub stays : is_there after.seats ≡ true → after.missed ≡ left
    pub ends :
        is_there after.seats ≡ false
        → IsLast (has_read_all after.seats) left after.missed
    pub asking : after.asking ≡ replied before.asking
    pub updated : after.updated ≡ []
