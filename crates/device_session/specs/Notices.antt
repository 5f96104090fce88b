-- The notices of a turn, as lines (this profile's own).
use Rattle.std.specs.Prelude.{ℕ, ◌+◌, ◌==◌, ◌&&◌, ◌++◌, Bool, true, false, if◌then◌else◌, List, [], ◌∷◌, length, not, Option, Some, None}
use Rattle.std.specs.Option.{option_map}
use Rattle.octet_io.specs.Number.{Octets}
use Rattle.host_api.specs.declared.notice.Notice.{Notice}
use Rattle.host_api.specs.declared.notice.Notice.TheVariants.{Connected, Disconnected, Secured, Unsecured, Written, Configured}
use Rattle.app_lines.specs.Names.{Names, may_name, name_of, with_name, without_handle}
use Rattle.app_lines.specs.NoticeText.{connection_of, named_line}
use Rattle.device_session.specs.declared.heard.Change.{Change}
use Rattle.device_session.specs.declared.heard.SavedChanges.{SavedChanges}
use Rattle.device_session.specs.declared.heard.SavedChanges.TheVariants as saved
use Rattle.device_session.specs.declared.links.Link.{Link}
use Rattle.device_session.specs.declared.pending.Subject.{Subject}
use Rattle.device_session.specs.declared.pending.Subject.TheVariants.{Value, Configuration}
use Rattle.device_session.specs.Links.{keyed_peer, with_key, with_link, without_link}

-- The lines of the notices, and the places of those that report a change that is saved. The values
-- written are those that are not saved. Without the lines for the log.
pub record Heard : Type 0 where
  pub saved : SavedChanges
  pub text : Octets
  pub changes : List Change
  pub written : List ℕ
  pub secured : List ℕ
  pub names : Names
  pub links : List Link
  pub is_refused : Bool

-- A new connection gets the next name. It gets none if all were used, or if there are too many.
abbrev pub named : ℕ → Names → Names
named handle names =
    if may_name handle names
    then record {
      named = with_name names.next handle names.named;
      next = names.next + 1;
    }
    else record names { named = without_handle handle names.named }

-- The names with which the line of a notice is written.
abbrev pub names_at : Notice → Names → Names
names_at (Connected handle peer) names = named handle names
names_at notice names = names

-- A connection that has ended keeps its name for its last line.
abbrev pub names_past : Notice → Names → Names
names_past (Disconnected handle) names =
    record names { named = without_handle handle names.named }
names_past notice names = names

abbrev pub names_after : Notice → Names → Names
names_after notice names = names_past notice (names_at notice names)

abbrev pub links_after : Notice → List Link → List Link
links_after (Connected handle peer) links = with_link handle peer links
links_after (Disconnected handle) links = without_link handle links
links_after (Secured handle facts) links = with_key handle true links
links_after (Unsecured handle) links = with_key handle false links
links_after notice links = links

abbrev pub secured_after : Notice → List ℕ → List ℕ
secured_after (Secured handle facts) secured = secured ++ handle ∷ []
secured_after notice secured = secured

abbrev pub saves_values : SavedChanges → Bool
saves_values saved.All = true
saves_values saved = false

abbrev pub saves_subscriptions : SavedChanges → Bool
saves_subscriptions saved.Nothing = false
saves_subscriptions saved = true

-- The subject of a change that is saved. A subscription is saved if its peer has a key.
abbrev pub subject_in : SavedChanges → List Link → Notice → Option Subject
subject_in saves links (Written handle attribute value) =
    if saves_values saves then Some (Value attribute) else None
subject_in saves links (Configured handle attribute bits) =
    if saves_subscriptions saves
    then option_map (λ peer. Configuration peer attribute) (keyed_peer links handle)
    else None
subject_in saves links notice = None

abbrev pub subject_of : Notice → Heard → Option Subject
subject_of notice heard = subject_in heard.saved heard.links notice

abbrev pub name_in : Notice → Heard → Option ℕ
name_in notice heard = name_of (connection_of notice) heard.names.named

abbrev pub change_in : Option Subject → ℕ → ℕ → List Change
change_in (Some subject) begin size =
    record { subject = subject; begin = begin; end = begin + size } ∷ []
change_in None begin size = []

abbrev pub written_in : Option Subject → Notice → List ℕ
written_in None (Written handle attribute value) = attribute ∷ []
written_in subject notice = []

-- The line of a notice comes after those before.
abbrev pub with_line_of : Notice → ℕ → Heard → Heard
with_line_of notice name heard = record heard {
  text = heard.text ++ named_line name notice;
  changes =
      heard.changes
      ++ change_in (subject_of notice heard) (length heard.text)
      (length (named_line name notice));
  written = heard.written ++ written_in (subject_of notice heard) notice;
}

-- A connection without a name has no line.
abbrev pub with_line_if : Option ℕ → Notice → Heard → Heard
with_line_if (Some name) notice heard = with_line_of notice name heard
with_line_if None notice heard = heard

abbrev pub with_link_of : Notice → Heard → Heard
with_link_of notice heard = record heard {
  names = names_at notice heard.names;
  links = links_after notice heard.links;
  secured = secured_after notice heard.secured;
}

abbrev pub with_line : Notice → Heard → Heard
with_line notice heard = with_line_if (name_in notice heard) notice heard

abbrev pub without_name : Notice → Heard → Heard
without_name notice heard = record heard { names = names_past notice heard.names }

-- The state after a notice for which memory was not refused.
abbrev pub after_notice : Notice → Heard → Heard
after_notice notice heard = without_name notice (with_line notice (with_link_of notice heard))

-- There is nothing to tell.
abbrev pub is_nothing : Heard → Bool
is_nothing heard = (length heard.text == 0) && not heard.is_refused

-- Nothing is known of the turn. The names and the links stay.
abbrev pub cleared : Heard → Heard
cleared heard = record heard {
  text = [];
  changes = [];
  written = [];
  secured = [];
  is_refused = false;
}

abbrev pub begun : Heard → Heard
begun heard = record (cleared heard) {
  names = record heard.names { named = [] };
  links = [];
}

abbrev pub at_first : SavedChanges → Heard
at_first saves = record {
  saved = saves;
  text = [];
  changes = [];
  written = [];
  secured = [];
  names = record { named = []; next = 1 };
  links = [];
  is_refused = false;
}
