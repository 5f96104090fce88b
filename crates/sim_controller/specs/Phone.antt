-- A client, as the controller sees it (this profile's own).
use Rattle.std.specs.Prelude.{ℕ, ◌+◌, nat_lt, Bool, true, false, List, [], ◌++◌, drop, length, Option, Some, None}
use Rattle.std.specs.Option.{option_map, option_to_list}
use Rattle.octet_io.specs.Number.{Octets}
use Rattle.le_acl.specs.Fragment.{Fragment, Beginning, Continuation}
use Rattle.le_acl.specs.Reassembler.{Assembly, assembled_of, with_more}
use Rattle.sim_controller.specs.declared.phone.TheConstants.{MAX_FRAMES}

-- A connection, with packets held or not, and an unfinished frame.
pub record Link : Type 0 where
  pub held : Bool
  pub unfinished : Option Octets

-- The connection, the queued frames, and the reason of a Disconnect until it is reported.
pub record Phone : Type 0 where
  pub link : Option Link
  pub heard : List Octets
  pub ended : Option ℕ

abbrev pub absent_phone : Phone
absent_phone = record { link = None; heard = []; ended = None }

abbrev pub new_link : Link
new_link = record { held = false; unfinished = None }

abbrev pub held_link : Link → Link
held_link link = record link { held = true }

abbrev pub is_held : Option Link → Bool
is_held None = false
is_held (Some link) = link.held

abbrev pub unfinished_in : Option Link → Option Octets
unfinished_in None = None
unfinished_in (Some link) = link.unfinished

-- A fragment continues the unfinished frame.
abbrev pub assembled_in : Option Link → Fragment → Assembly
assembled_in link (Beginning octets) = assembled_of octets
assembled_in link (Continuation octets) = with_more (unfinished_in link) octets

-- A complete frame is queued, if the client is connected.
abbrev pub link_with : Link → Assembly → Link
link_with link assembly = record link { unfinished = assembly.unfinished }

abbrev pub heard_by : Option Link → List Octets → Assembly → List Octets
heard_by None heard assembly = heard
heard_by (Some link) heard assembly = heard ++ option_to_list assembly.frame

abbrev pub with_assembly : Phone → Assembly → Phone
with_assembly old assembly = record old {
  link = option_map (λ link. link_with link assembly) old.link;
  heard = heard_by old.link old.heard assembly;
}

abbrev pub hears_too_much : Phone → Assembly → Bool
hears_too_much phone assembly =
    nat_lt MAX_FRAMES (length phone.heard + length (option_to_list assembly.frame))

abbrev pub phone_after_hearing : Phone → Phone
phone_after_hearing old = record old { heard = drop 1 old.heard }

abbrev pub after_telling : Phone → Phone
after_telling old = record old { ended = None }
