-- Packets and calls mean the same for any names of connections.
use Rattle.std.specs.Prelude.{◌≡◌, ℕ, true, map, Some, Result, Ok, Err}
use Rattle.std.specs.Option.{option_map}
use Rattle.att_table.specs.Table.{Contents}
use Rattle.gatt_laws.specs.machine.Calls.{Call, call_meaning, replacement_meaning}
use Rattle.gatt_laws.specs.machine.Context.{Context}
use Rattle.gatt_laws.specs.machine.Controller.{is_ready}
use Rattle.gatt_laws.specs.machine.Event.{Happening, Of, Completed, Credit, Update, Tick, Replaced}
use Rattle.gatt_laws.specs.machine.Event.{Nothing}
use Rattle.gatt_laws.specs.machine.Packets.{Recombination, packet_meaning}
use Rattle.le_acl.specs.Fragment.{Fragment}
use Rattle.le_h4.specs.Packet.{Packet}

abbrev pub renamed_entry : {C D : Type 0} → (C → D) → C × ℕ → D × ℕ
renamed_entry names entry = (names entry.0, entry.1)

abbrev pub renamed : {C D : Type 0} → (C → D) → Happening C → Happening D
renamed names (Of connection own) = Of (names connection) own
renamed names (Completed entries) = Completed (map (renamed_entry names) entries)
renamed names (Credit allowed opcode status following) = Credit allowed opcode status following
renamed names (Update handle value) = Update handle value
renamed names (Tick time) = Tick time
renamed names (Replaced table) = Replaced table
renamed names Nothing = Nothing

abbrev pub renamed_if : {C D E : Type 0} → (C → D) → Result (Happening C) E → Result (Happening D) E
renamed_if names (Ok happening) = Ok (renamed names happening)
renamed_if names (Err fault) = Err fault

-- Two contexts are alike if they differ only in names; `holding` and `next_free` count once the
-- controller is initialised.
pub record AreAlike (C D : Type 0) (names : C → D) (one : Context C) (other : Context D)
    : Type 0 where
  pub controller : other.controller ≡ one.controller
  pub attributes : other.attributes ≡ one.attributes
  pub changer : other.changer ≡ one.changer
  pub time : other.time ≡ one.time
  pub serving : (handle : ℕ) → other.serving handle ≡ option_map names (one.serving handle)
  pub holding : is_ready one.controller ≡ true → (handle : ℕ)
      → other.holding handle ≡ option_map names (one.holding handle)
  pub next_free : is_ready one.controller ≡ true → other.next_free ≡ option_map names one.next_free

-- Calls and tables mean the same in contexts that are alike.
abbrev pub CallsMeanTheSame : Type 1
CallsMeanTheSame = (C D : Type 0) (names : C → D) (one : Context C) (other : Context D)
    → AreAlike C D names one other
    → (call : Call) → call_meaning other call ≡ renamed_if names (call_meaning one call)

abbrev pub ReplacementsMeanTheSame : Type 1
ReplacementsMeanTheSame = (C D : Type 0) (names : C → D) (one : Context C) (other : Context D)
    → AreAlike C D names one other → (table : Contents)
    → replacement_meaning other table ≡ renamed_if names (replacement_meaning one table)

-- Packets mean the same too, if each fragment completes the same frame.
abbrev pub RecombineAlike : (C D : Type 0) → (C → D) → Context C → (C → Recombination)
    → (D → Recombination) → Type 0
RecombineAlike C D names one recombinations others =
    (handle : ℕ) (connection : C) → one.serving handle ≡ Some connection
    → (fragment : Fragment)
    → others (names connection) fragment ≡ recombinations connection fragment

abbrev pub PacketsMeanTheSame : Type 1
PacketsMeanTheSame = (C D : Type 0) (names : C → D) (one : Context C) (other : Context D)
    → AreAlike C D names one other
    → (recombinations : C → Recombination) (others : D → Recombination)
    → RecombineAlike C D names one recombinations others
    → (packet : Packet) → packet_meaning other others packet
    ≡ renamed_if names (packet_meaning one recombinations packet)
