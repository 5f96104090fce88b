-- Octets of the stream lead a host on in its run, or stop it there.
use Rattle.std.proofs.Common.{◌≡◌, ℕ, false, List, [], ◌∷◌, ◌++◌, drop, Option, Some, None, refl, sym, ap, subst, ◌∙◌, append-nil}
use Rattle.std.specs.Option.{option_to_list}
use Rattle.gatt_host.proofs.owing.Nexts.{clash}
use Rattle.gatt_host.proofs.model.Items.{no_fault}
use Rattle.gatt_host.specs.declared.host_fault.HostFault.{HostFault}
use Rattle.gatt_host.specs.declared.host_fault.HostFault.TheVariants as stop
use Rattle.gatt_host.specs.Feeding.{octet_items}
use Rattle.gatt_host.specs.ServerState.{ServerState}
use Rattle.gatt_host.specs.Meaning.{IncomingFrames}
use Rattle.gatt_host.specs.RunRefinement.{ServerRefinesRun}
use Rattle.gatt_host.specs.HostModel.{is_own_fault, HoldsStream, Refines, RefinesPacket, SameFault, RefinesRun, RefinesRunWithFault, HostModel}
use Rattle.gatt_laws.proofs.runs.Inputs.{items_append}
use Rattle.gatt_laws.proofs.runs.Streams.{takes_the_division}
use Rattle.gatt_laws.proofs.runs.Unfinished.{divides_on, leaves_less_than_a_packet}
use Rattle.gatt_laws.specs.machine.Input.{Run, Item, after_items, after_packet, run_at_start, run, stopped, unless_stopped}
use Rattle.gatt_laws.specs.laws.Laws.{after_division, after_packets, with_nothing_unfinished}
use Rattle.gatt_laws.specs.machine.Packets.{Fault, Desync}
use Rattle.le_h4.specs.Deframer.{Deframing, lost_at, marks, still}
use Rattle.le_h4.specs.Division.{Division, before, division, lost, unfinished}
use Rattle.le_h4.specs.Packet.{Packet, NoneYet, first_of}
use Rattle.octet_io.specs.Number.{Octets}

-- whatever follows these octets, the packet that is marked then comes first
abbrev pub Divides : Deframing → Octets → Deframing → Type 0
Divides old octets new = (rest : Octets) → still old (octets ++ rest) ≡ before (marks new) (still new rest)

-- items lead on where they do in every run without a fault
abbrev TakesAllInCourse : List Item → HostModel → HostModel → Type 0
TakesAllInCourse items old new = (run : Run) (sent : List Octets) → run.intake.fault ≡ None → first_of run.intake.unfinished ≡ NoneYet
    → RefinesRun run sent old → RefinesRun (after_items run items) sent new

takes-all : (items : List Item) (old new : HostModel) → old.fault ≡ None → TakesAllInCourse items old new → Refines items [] old new
unfolding run
takes-all items old new none takes start input sent is =
    subst (λ (packets : List Octets). RefinesRun (run start (input ++ items)) packets new) (sym (append-nil sent))
    (subst (λ (after : Run). RefinesRun after sent new) (sym (items_append (run_at_start start) input items))
    (takes (run start input) sent (no_fault (run start input) sent old none is) (leaves_less_than_a_packet start input) is))

-- what is unfinished does not matter to where a host stands
stands-alike : (one other : Run) (sent : List Octets) (server : ServerState) (frames : IncomingFrames) → with_nothing_unfinished one ≡ with_nothing_unfinished other
    → ServerRefinesRun other sent server frames → ServerRefinesRun one sent server frames
stands-alike one other sent server frames alike is =
    let other_whole : ServerRefinesRun (with_nothing_unfinished other) sent server frames =
    record { owed = is.owed; all = is.all; sound = is.sound; refines = is.refines; together = is.together } in
    let one_whole : ServerRefinesRun (with_nothing_unfinished one) sent server frames =
    subst (λ (run : Run). ServerRefinesRun run sent server frames) (sym alike) other_whole in
    record { owed = one_whole.owed; all = one_whole.all; sound = one_whole.sound; refines = one_whole.refines; together = one_whole.together }

faults-alike : (one other : Run) → with_nothing_unfinished one ≡ with_nothing_unfinished other → one.intake.fault ≡ other.intake.fault
faults-alike one other alike = ap (λ (run : Run). run.intake.fault) alike

-- behind one packet, or none, two divisions are one
same-behind : (marked : Option Packet) (one other : Division) → before (option_to_list marked) one ≡ before (option_to_list marked) other → one ≡ other
same-behind None one other same = same
same-behind (Some packet) one other same = ap (λ (d : Division). let rest : Division = record { packets = drop 1 d.packets; end = d.end } in rest) same

-- a run that octets lead on
module _ (old : Run) (octets : Octets) (none : old.intake.fault ≡ None) (connection : first_of old.intake.unfinished ≡ NoneYet) where
  abbrev New : Run
  New = after_items old (octet_items octets)

  new-whole : (d : Division) → division (old.intake.unfinished ++ octets) ≡ d → with_nothing_unfinished New ≡ with_nothing_unfinished (after_division old d)
  new-whole d divides = takes_the_division old octets none connection ∙ ap (λ (d : Division). with_nothing_unfinished (after_division old d)) divides

  -- what the deframer marks is what they divide into
  module _ (stream then_stream : Deframing) (holds : HoldsStream old stream) (divides : Divides stream octets then_stream)
      (last : still then_stream [] ≡ unfinished) where
    divided : division (old.intake.unfinished ++ octets) ≡ before (marks then_stream) unfinished
    divided =
        sym (holds none octets) ∙ ap (still stream) (sym (append-nil octets)) ∙ divides [] ∙ ap (before (marks then_stream)) last

    holds-then : HoldsStream New then_stream
    holds-then refines rest =
        same-behind then_stream.marked (still then_stream rest) (division (New.intake.unfinished ++ rest))
        (sym (divides rest) ∙ holds none (octets ++ rest) ∙ divides_on octets old none connection refines rest
        ∙ ap (λ (packets : List Packet). before packets (division (New.intake.unfinished ++ rest)))
        (ap (λ (d : Division). d.packets) divided ∙ append-nil (marks then_stream)))

    -- a packet is the division
    division-of : (marked : Option Packet) → then_stream.marked ≡ marked → division (old.intake.unfinished ++ octets)
        ≡ before (option_to_list marked) unfinished
    division-of marked is = divided ∙ ap (λ (found : Option Packet). before (option_to_list found) unfinished) is

-- octets that end no packet
pub octets_pass : (old : HostModel) (stream : Deframing) (octets : Octets) → old.fault ≡ None → Divides old.stream octets stream → stream.marked ≡ None
    → still stream [] ≡ unfinished → Refines (octet_items octets) [] old (record old { stream = stream })
octets_pass old stream octets none divides unmarked last =
    takes-all (octet_items octets) old (record old { stream = stream }) none (λ run sent no_why connection is.
    let alike : with_nothing_unfinished (after_items run (octet_items octets)) ≡ with_nothing_unfinished run =
    new-whole run octets no_why connection unfinished (division-of run octets no_why connection old.stream stream is.stream divides last None unmarked) in
    record {
      refines = stands-alike (after_items run (octet_items octets)) run sent old.server old.frames alike is.refines;
      same = subst (λ (why : Option Fault). SameFault why old.fault) (sym (faults-alike (after_items run (octet_items octets)) run alike)) is.same;
      stream = holds-then run octets no_why connection old.stream stream is.stream divides last;
    })

-- where a fault stands in a run, no stream goes on
holds-none : (run : Run) (why : Fault) (stream : Deframing) → run.intake.fault ≡ Some why → HoldsStream run stream
holds-none run why stream is none = cc (is, none)

-- octets that begin no packet
pub octets_lost : (old : HostModel) (octets : Octets) (indicator : ℕ) → old.fault ≡ None → still old.stream octets ≡ lost indicator
    → Refines (octet_items octets) [] old (record old { stream = lost_at indicator; fault = Some (stop.Desync indicator) })
octets_lost old octets indicator none divides =
    takes-all (octet_items octets) old (record old { stream = lost_at indicator; fault = Some (stop.Desync indicator) }) none (λ run sent no_why connection is.
    let new : Run = after_items run (octet_items octets) in
    let lost_there : Run = stopped run (Desync indicator) in
    let alike : with_nothing_unfinished new ≡ with_nothing_unfinished lost_there =
    new-whole run octets no_why connection (lost indicator) (sym (is.stream no_why octets) ∙ divides) in
    let fault : new.intake.fault ≡ Some (Desync indicator) = faults-alike new lost_there alike in
    record {
      refines = stands-alike new lost_there sent old.server old.frames alike
          (record { owed = is.refines.owed; all = is.refines.all; sound = is.refines.sound; refines = is.refines.refines; together = is.refines.together });
      same = subst (λ (why : Option Fault). SameFault why (Some (stop.Desync indicator))) (sym fault) refl;
      stream = holds-none new (Desync indicator) (lost_at indicator) fault;
    })

-- octets that end a packet, which leads the host on
either-way : (fault : Option Fault) (run : Run) → unless_stopped fault run run ≡ run
either-way (Some why) run = refl
either-way None run = refl

pub octets_bring : (old new : HostModel) (octets : Octets) (packet : Packet) → old.fault ≡ None → Divides old.stream octets new.stream
    → new.stream.marked ≡ Some packet → still new.stream [] ≡ unfinished → RefinesPacket packet old.server old.frames new.server new.frames new.fault
    → Refines (octet_items octets) [] old new
octets_bring old new octets packet none divides marked last leads =
    takes-all (octet_items octets) old new none (λ run sent no_why connection is.
    let after : Run = after_items run (octet_items octets) in
    let taken : Run = after_packet run packet in
    let with_packet : RefinesRunWithFault taken sent new.server new.frames new.fault = leads run sent no_why is.refines in
    let alike : with_nothing_unfinished after ≡ with_nothing_unfinished taken =
    new-whole run octets no_why connection (before (packet ∷ []) unfinished)
    (division-of run octets no_why connection old.stream new.stream is.stream divides last (Some packet) marked)
    ∙ ap with_nothing_unfinished (either-way taken.intake.fault taken) in
    record {
      refines = stands-alike after taken sent new.server new.frames alike with_packet.refines;
      same = subst (λ (why : Option Fault). SameFault why new.fault) (sym (faults-alike after taken alike)) with_packet.same;
      stream = holds-then run octets no_why connection old.stream new.stream is.stream divides last;
    })

-- the fault of the run, where the host has none of its own
pub record Stopped (found : Option Fault) : Type 0 where
  pub why : Fault
  pub is : found ≡ Some why

pub stopped_for : (found : Option Fault) (fault : HostFault) → is_own_fault fault ≡ false → SameFault found (Some fault) → Stopped found
stopped_for (Some why) fault other same = record { why = why; is = refl }
stopped_for None fault other same = absurd (clash (sym other ∙ same))

-- octets that end a packet, which stops the host, and those behind them
pub octets_stop : (old new : HostModel) (octets rest : Octets) (packet : Packet) (fault : HostFault) → old.fault ≡ None → Divides old.stream octets new.stream
    → new.stream.marked ≡ Some packet → RefinesPacket packet old.server old.frames new.server new.frames new.fault → new.fault ≡ Some fault
    → is_own_fault fault ≡ false
    → Refines (octet_items (octets ++ rest)) [] old new
octets_stop old new octets rest packet fault none divides marked leads stops other =
    takes-all (octet_items (octets ++ rest)) old new none (λ run sent no_why connection is.
    let after : Run = after_items run (octet_items (octets ++ rest)) in
    let taken : Run = after_packet run packet in
    let with_packet : RefinesRunWithFault taken sent new.server new.frames new.fault = leads run sent no_why is.refines in
    let found : Stopped taken.intake.fault =
    stopped_for taken.intake.fault fault other (subst (λ (refines : Option HostFault). SameFault taken.intake.fault refines) stops with_packet.same) in
    let behind : Division = still new.stream rest in
    let alike : with_nothing_unfinished after ≡ with_nothing_unfinished taken =
    new-whole run (octets ++ rest) no_why connection (before (packet ∷ []) behind)
    (sym (is.stream no_why (octets ++ rest)) ∙ divides rest ∙ ap (λ (found : Option Packet). before (option_to_list found) behind) marked)
    ∙ ap (λ (why : Option Fault). with_nothing_unfinished (unless_stopped why taken (after_packets taken behind.packets behind.end))) found.is in
    let stands_there : after.intake.fault ≡ Some found.why = faults-alike after taken alike ∙ found.is in
    record {
      refines = stands-alike after taken sent new.server new.frames alike with_packet.refines;
      same = subst (λ (why : Option Fault). SameFault why new.fault) (sym (faults-alike after taken alike)) with_packet.same;
      stream = holds-none after found.why new.stream stands_there;
    })

-- the same of a packet that is heard where it lies: what is marked does not matter to where a host stands
pub octets_bring_whole : (old new : HostModel) (octets : Octets) (packet : Packet) → old.fault ≡ None
    → ((rest : Octets) → still old.stream (octets ++ rest) ≡ before (packet ∷ []) (still new.stream rest))
    → still new.stream [] ≡ unfinished → RefinesPacket packet old.server old.frames new.server new.frames new.fault → Refines (octet_items octets) [] old new
octets_bring_whole old new octets packet none divides last leads start input sent is =
    let marked : Deframing = record new.stream { marked = Some packet } in
    let there = octets_bring old (record new { stream = marked }) octets packet none divides refl last leads start input sent is in
    record { refines = there.refines; same = there.same; stream = there.stream }

pub octets_stop_whole : (old new : HostModel) (octets rest : Octets) (packet : Packet) (fault : HostFault) → old.fault ≡ None
    → ((rest : Octets) → still old.stream (octets ++ rest) ≡ before (packet ∷ []) (still new.stream rest))
    → RefinesPacket packet old.server old.frames new.server new.frames new.fault → new.fault ≡ Some fault → is_own_fault fault ≡ false
    → Refines (octet_items (octets ++ rest)) [] old new
octets_stop_whole old new octets rest packet fault none divides leads stops other start input sent is =
    let marked : Deframing = record new.stream { marked = Some packet } in
    let there = octets_stop old (record new { stream = marked }) octets rest packet fault none divides refl leads stops other start input sent is in
    record { refines = there.refines; same = there.same; stream = there.stream }
