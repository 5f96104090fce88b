-- The fields of a client as one value (code only).
use Rattle.std.specs.Prelude.{◌≡◌, ℕ, ◌≤◌, List, length, map, Option}
use Rattle.std.specs.Option.{option_map}
use Rattle.arrayvec.specs.ArrayVec.{ArrayVec}
use Rattle.circular_buffer.specs.Buffer.{Buffer}
use Rattle.octet_io.specs.Number.{Octets}
use Rattle.sim_controller.specs.Phone as model
use Rattle.sim_controller.specs.declared.phone.Link.{Link}
use Rattle.sim_controller.specs.declared.phone.TheConstants.{MAX_FRAMES}

abbrev pub array_octets : ArrayVec ℕ → Octets
array_octets array = array.items

abbrev pub link_of : Link → model.Link
link_of link = record { held = link.held; unfinished = option_map array_octets link.unfinished }

abbrev pub phone_of : Option Link → List (ArrayVec ℕ) → Option ℕ → model.Phone
phone_of link heard ended =
    record { link = option_map link_of link; heard = map array_octets heard; ended = ended }

-- The queue has a capacity of `MAX_FRAMES`.
pub record IsPhone (heard : Buffer (ArrayVec ℕ)) : Type 0 where
  pub room : heard.capacity ≡ MAX_FRAMES
  pub within : length heard.items ≤ MAX_FRAMES
