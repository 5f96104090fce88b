-- The frames of clients as packets to the host (Core 5.0, Vol 3 Part A, 3.1 and 7.2.1).
use Rattle.std.specs.Prelude.{ℕ, List, map}
use Rattle.octet_io.specs.Number.{Octets}
use Rattle.le_acl.specs.Fragment.{Fragment, Beginning, Continuation}
use Rattle.le_acl.specs.Packets.{pieces, fragments_of_pieces}
use Rattle.sim_controller.specs.declared.told.Told.{Told}
use Rattle.sim_controller.specs.declared.told.Told.TheVariants as told

abbrev pub told_fragment : ℕ → Fragment → Told
told_fragment phone (Beginning octets) = told.Beginning phone (record { items = octets })
told_fragment phone (Continuation octets) = told.Continuation phone (record { items = octets })

-- A frame of a client, in fragments of at most `cut` octets.
unfoldable pub told_frame : ℕ → ℕ → Octets → List Told
told_frame phone cut frame = map (told_fragment phone) (fragments_of_pieces (pieces cut frame))

unfoldable pub told_others : ℕ → ℕ → Octets → List Told
told_others phone cut octets = map (told_fragment phone) (map Continuation (pieces cut octets))
