-- The clients of a run receive what the host sent to them (this profile's own).
use Rattle.std.specs.Prelude.{◌≡◌, ℕ, ◌<◌, nat_lt, ◌++◌, if◌then◌else◌, Bool, true, List, [], ◌∷◌, take, length, Option, Some, None}
use Rattle.std.specs.List.{flat_map}
use Rattle.att_table.specs.Table.{Contents}
use Rattle.gatt_host.specs.declared.host_fault.HostFault.{HostFault}
use Rattle.gatt_host.specs.Opening.{start_of}
use Rattle.gatt_host.specs.HostModel.{RefinesRun, HostModel, all_out}
use Rattle.gatt_laws.specs.machine.Calls.{AuthorizeCall, TickCall, UpdateCall}
use Rattle.gatt_laws.specs.machine.Input.{ACall, APacket, ATable, Item, run}
use Rattle.gatt_laws.specs.machine.Start.{Start}
use Rattle.gatt_subs.specs.Rows.{Subscriptions}
use Rattle.le_h4.specs.Division.{division}
use Rattle.le_h4.specs.Packet.{Packet}
use Rattle.le_security.specs.declared.entry.Entry.{Entry}
use Rattle.octet_io.specs.Number.{Octets}
use Rattle.scripts.specs.declared.act.Act.{Act}
use Rattle.scripts.specs.declared.act.Act.TheVariants as line
use Rattle.scripts.specs.Script as scripts
use Rattle.sim_controller.specs.Acts as by_phone
use Rattle.sim_controller.specs.Answers.{host_fault}
use Rattle.sim_controller.specs.Calls.{SimulatedCall, Acts, Takes, after_calls, given_in_calls, if_accepted}
use Rattle.sim_controller.specs.declared.config.SimConfig.{SimConfig}
use Rattle.sim_controller.specs.declared.handle.TheConstants.{PHONES}
use Rattle.sim_controller.specs.declared.told.Told.{Told}
use Rattle.sim_controller.specs.FromHost.{host_packet_of}
use Rattle.sim_controller.specs.Hearing.{frames_for}
use Rattle.sim_controller.specs.Phones.{handle_of_phone}
use Rattle.sim_controller.specs.Simulated.{Simulated, simulated_at_start, phone_at}
use Rattle.sim_controller.specs.Told.{sent_octets, sent_of}
use Rattle.gatt_commands.specs.declared.refused.Refused.{Refused}
use Rattle.gatt_commands.specs.declared.stage.Stage.{Stage}
use Rattle.shell_files.specs.declared.fault.ShellFault.{ShellFault}
use Rattle.gatt_commands.specs.Doing.{DoesLine, sim_act}
use Rattle.gatt_commands.specs.Echo.{Shown, shown_after, shown_behind}
use Rattle.gatt_commands.specs.Exchange.{Exchanges, Pair}
use Rattle.gatt_commands.specs.Opening.{IsOpened, command_configuration}
use Rattle.gatt_commands.specs.Runs.{EndsAtNext, EndsInLines, IsStageOpened, Runs, RunsAll, RunsLine, simulated}

-- The packets that a controller accepted, in order.
abbrev pub taken_by : Simulated → SimulatedCall → List Octets
taken_by old (Takes octets) = if_accepted (host_fault old (host_packet_of octets)) (octets ∷ []) []
taken_by old _ = []

abbrev pub packets_taken : SimConfig → List SimulatedCall → List Octets
packets_taken config [] = []
packets_taken config (call ∷ earlier) =
    packets_taken config earlier ++ taken_by (after_calls config earlier) call

-- The acts of its clients, refused ones included.
abbrev pub acts_by : SimulatedCall → List by_phone.SimulatedAct
acts_by (Acts act) = act ∷ []
acts_by _ = []

abbrev pub acts_in : List SimulatedCall → List by_phone.SimulatedAct
acts_in [] = []
acts_in (call ∷ earlier) = acts_in earlier ++ acts_by call

-- The packets that a host received, and its other input.
abbrev pub packets_of_item : Item → List Packet
packets_of_item (APacket packet) = packet ∷ []
packets_of_item _ = []

abbrev pub other_in : Item → List Item
other_in (APacket packet) = []
other_in item = item ∷ []

abbrev pub packets_of_items : List Item → List Packet
packets_of_items input = flat_map packets_of_item input

abbrev pub others_in : List Item → List Item
others_in input = flat_map other_in input

-- The host reads one packet of the octets.
abbrev pub read_of : Told → List Packet
read_of told = take 1 (division (sent_octets (sent_of told))).packets

-- The acts, requests to the host, and printed frames per client of the lines so far.
pub record SoFar : Type 0 where
  pub acts : List by_phone.SimulatedAct
  pub asked : List Item
  pub heard : ℕ → List Octets

-- Host and controller are joined from a start on. The controller accepted what the host sent; the
-- host received what the controller sent and the application requested. Each client received the
-- frames accepted for its connections, waiting ones included.
pub record IsJoined (start : Start) (host : HostModel) (sim : Simulated) (so_far : SoFar) : Type 0
  where
    pub input : List Item
    pub calls : List SimulatedCall
    pub refines : RefinesRun (run start input) (packets_taken simulated calls) host
    pub controller : sim ≡ after_calls simulated calls
    pub given : packets_of_items input ≡ flat_map read_of (given_in_calls simulated calls)
    pub asked : others_in input ≡ so_far.asked
    pub acts : acts_in calls ≡ so_far.acts
    pub hears : (phone : ℕ) → phone < PHONES → so_far.heard phone ++ (phone_at sim phone).heard
        ≡ frames_for simulated phone calls

abbrev pub nothing_heard : ℕ → List Octets
nothing_heard phone = []

abbrev pub nothing_yet : SoFar
nothing_yet = record { acts = []; asked = []; heard = nothing_heard }

abbrev pub acts_of_line : Act → List by_phone.SimulatedAct
acts_of_line (line.Phone phone act) = sim_act phone act ∷ []
acts_of_line _ = []

-- A stopped host accepts no request.
abbrev pub asked_unless : Option HostFault → Item → List Item
asked_unless None item = item ∷ []
asked_unless (Some fault) item = []

abbrev pub replacement_of : Option Contents → Option HostFault → List Item
replacement_of None fault = []
replacement_of (Some table) fault = asked_unless fault (ATable table)

abbrev pub asked_by_line : Stage → Act → List Item
asked_by_line old (line.Phone phone act) = []
asked_by_line old (line.Authorize phone until) =
    asked_unless old.host.fault (ACall (AuthorizeCall (handle_of_phone phone) until))
asked_by_line old (line.Update handle value) =
    asked_unless old.host.fault (ACall (UpdateCall handle value))
asked_by_line old (line.Tick time) = asked_unless old.host.fault (ACall (TickCall time))
asked_by_line old line.Replace = replacement_of old.next old.host.fault

abbrev pub after_line_done : Stage → Act → SoFar → SoFar
after_line_done old act so_far =
    record so_far {
      acts = so_far.acts ++ acts_of_line act;
      asked = so_far.asked
          ++ asked_by_line old act;
    }

-- The printed frames of a client, if it has a name.
abbrev pub printed_of : ℕ → Simulated → ℕ → List Octets
printed_of count quiet phone = if nat_lt phone count then (phone_at quiet phone).heard else []

abbrev pub after_printing : ℕ → Simulated → SoFar → SoFar
after_printing count quiet so_far =
    record so_far { heard = λ phone. so_far.heard phone ++ printed_of count quiet phone }

abbrev pub after_line : {shows : Bool} {names : List Octets} {act : Act} {old new : Stage}
    {held holds : Option Octets}
    → RunsLine shows names act old new held holds → SoFar → SoFar
after_line {names = names} {act = act} {old = old} runs so_far =
    after_printing (length names) runs.quiet (after_line_done old act so_far)

abbrev pub after_lines : (shown : Shown) (names : List Octets) (lines : List Act) (old new : Stage)
    (held holds : Option Octets)
    → Runs shown names lines old new held holds → SoFar → SoFar
after_lines shown names [] old new held holds runs so_far = so_far
after_lines shown names (act ∷ lines) old new held holds (middle, between, first, rest) so_far =
    after_lines (shown_behind shown) names lines middle new between holds rest
    (after_line first.runs so_far)

-- Before the line that ends the run, host and controller are joined.
pub record IsJoinedUpTo (start : Start) (fault : ShellFault) (shown : Shown) (names : List Octets)
    (lines : List Act) (old new : Stage) (held holds : Option Octets)
    : Type 0 where
  pub earlier : List Act
  pub last : Act
  pub left : List Act
  pub in_order : lines ≡ earlier ++ last ∷ left
  pub middle : Stage
  pub between : Option Octets
  pub runs : Runs shown names earlier old middle held between
  pub ends : EndsAtNext fault (shown_after earlier shown) names last middle new between holds
  pub joined : IsJoined start middle.host middle.sim
      (after_lines shown names earlier old middle held between runs nothing_yet)

-- Host and controller are joined when opened, and each act, exchange and printing preserves that.
-- They are thus joined after each line, at the end of a run, and before a line that ends it early.
-- If everything is sent, the controller accepted all packets of the host's run.
pub record ClosesTheLoop : Type 0 where
  pub opened : (table : Contents) (keys : List Entry) (rows : Subscriptions) (rx_mtu : ℕ)
      (host : HostModel)
      → IsOpened table keys rows rx_mtu host
      → IsJoined (start_of table keys rows (command_configuration rx_mtu)) host
      (simulated_at_start simulated) nothing_yet
  pub does_line : (start : Start) (so_far : SoFar) (act : Act) (told : Option Refused)
      (old new : Stage) → DoesLine act told old new
      → IsJoined start old.host old.sim so_far
      → IsJoined start new.host new.sim (after_line_done old act so_far)
  pub exchanges : (start : Start) (so_far : SoFar) (count : ℕ) (before after : Pair)
      → Exchanges count before after
      → IsJoined start before.host before.sim so_far → IsJoined start after.host after.sim so_far
  pub all_sent : (start : Start) (so_far : SoFar) (host : HostModel) (sim : Simulated)
      (joined : IsJoined start host sim so_far)
      → host.fault ≡ None → all_out host ≡ true → (run start joined.input).sent
      ≡ packets_taken simulated joined.calls
  pub each_line : (start : Start) (so_far : SoFar) (shows : Bool) (names : List Octets) (act : Act)
      (old new : Stage) (held holds : Option Octets)
      (runs : RunsLine shows names act old new held holds) → IsJoined start old.host old.sim so_far
      → IsJoined start new.host new.sim (after_line runs so_far)
  pub all_lines : (start : Start) (so_far : SoFar) (shown : Shown) (names : List Octets)
      (lines : List Act) (old new : Stage) (held holds : Option Octets)
      (runs : Runs shown names lines old new held holds) → IsJoined start old.host old.sim so_far
      → IsJoined start new.host new.sim
      (after_lines shown names lines old new held holds runs so_far)
  pub whole_run : (table : Contents) (next : Option Contents) (keys : List Entry)
      (rows : Subscriptions) (rx_mtu : ℕ) (shown : Shown) (script : scripts.Acts)
      (old new : Stage) (held holds : Option Octets) → IsStageOpened table next keys rows rx_mtu old
      → (runs : RunsAll shown script old new held holds)
      → IsJoined (start_of table keys rows (command_configuration rx_mtu)) new.host new.sim
      (after_lines shown script.names script.acts runs.begun new held holds runs.lines nothing_yet)
  pub early_end : (table : Contents) (next : Option Contents) (keys : List Entry)
      (rows : Subscriptions) (rx_mtu : ℕ) (fault : ShellFault) (shown : Shown)
      (script : scripts.Acts) (old new : Stage) (held holds : Option Octets)
      → IsStageOpened table next keys rows rx_mtu old
      → (ends : EndsInLines fault shown script old new held holds)
      → IsJoinedUpTo (start_of table keys rows (command_configuration rx_mtu)) fault shown
      script.names script.acts ends.begun new held holds
