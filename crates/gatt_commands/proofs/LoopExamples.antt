-- What a controller took, and what its phones hear of it, by computing.
use Rattle.std.proofs.Common.{◌≡◌, List, [], ◌∷◌, refl}
use Rattle.octet_io.specs.Number.{Octets}
use Rattle.sim_controller.specs.Calls.{SimulatedCall, Takes}
use Rattle.sim_controller.specs.FromHost.{asked_by_command}
use Rattle.sim_controller.specs.Hearing.{frames_for}
use Rattle.gatt_commands.specs.Loop.{packets_taken}
use Rattle.gatt_commands.specs.Runs.{simulated}

-- advertising is enabled, octets that are no packet are refused, and an answer is handed in for a phone that is not here
abbrev advertise : Octets
advertise = 1 ∷ 0x0a ∷ 0x20 ∷ 1 ∷ 1 ∷ []

abbrev answer : Octets
answer = 2 ∷ 0x40 ∷ 0 ∷ 7 ∷ 0 ∷ 3 ∷ 0 ∷ 4 ∷ 0 ∷ 0x0b ∷ 1 ∷ 2 ∷ []

abbrev some_calls : List SimulatedCall
some_calls = Takes answer ∷ Takes (9 ∷ []) ∷ Takes advertise ∷ []

all_taken : packets_taken simulated some_calls ≡ advertise ∷ answer ∷ []
unfolding asked_by_command
all_taken = refl

not_heard : frames_for simulated 0 some_calls ≡ []
unfolding asked_by_command
not_heard = refl
