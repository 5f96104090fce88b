-- An answer to a command that means a credit is taken in as one.
use Rattle.std.proofs.Common.{◌≡◌, ℕ, Option, Result, Ok, sym, subst}
use Rattle.std.specs.Prelude.{IsOkAnd}
use Rattle.gatt_host.specs.ServerState.{ServerState, server_after_command_complete}
use Rattle.gatt_host.specs.Meaning.{IsAfter}
use Rattle.gatt_laws.specs.machine.Event.{Happening, Credit}
use Rattle.gatt_laws.specs.machine.Packets.{Fault}
use Rattle.host_connections.specs.Slots.{Place}
use Rattle.le_hci.specs.declared.init.Init.{Init}

pub credited : (result : Result (Happening Place) Fault) (allowed opcode : ℕ) (status : Option ℕ)
    (following : Option Init) (old new : ServerState)
    → result ≡ Ok (Credit allowed opcode status following)
    → new ≡ server_after_command_complete allowed opcode status following old
    → IsOkAnd result (λ happening. IsAfter happening old new)
credited result allowed opcode status following old new means after =
    subst (λ (result : Result (Happening Place) Fault). IsOkAnd result
    (λ happening. IsAfter happening old new)) (sym means) after
