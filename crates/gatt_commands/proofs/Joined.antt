-- Host and controller stay joined in one step: a packet, what a line does, and what is printed then.
use Rattle.std.proofs.Common.{◌≡◌, ℕ, zero, suc, ◌<◌, List, [], ◌∷◌, ◌++◌, take, drop, slice_get, Option, Some, None, refl, sym, ap, subst, inl, inr, ◌∙◌, append-nil}
use Rattle.std.specs.Prelude.{is_some, IsSome}
use Rattle.std.specs.List.{flat_map}
use Rattle.std.specs.Option.{option_map}
use Rattle.std.proofs.lemmas.List.{append_cancel_right}
use Rattle.std.proofs.lemmas.List.Concat.{flat_map-append}
use Rattle.att_table.specs.Table.{Contents}
use Rattle.gatt_host.specs.declared.host_fault.HostFault.{HostFault}
use Rattle.gatt_host.specs.Telling.{silent, silent_unless}
use Rattle.gatt_host.specs.HostModel.{Refines, RefinesRun, Takes, HostModel}
use Rattle.gatt_laws.specs.machine.Calls as why
use Rattle.gatt_laws.specs.machine.Input.{ACall, APacket, ATable, Item, run}
use Rattle.gatt_laws.specs.machine.Start.{Start}
use Rattle.le_h4.specs.Division.{End, Lost, Unfinished, division}
use Rattle.le_h4.specs.Packet.{Packet}
use Rattle.octet_io.specs.Number.{Octets}
use Rattle.scripts.specs.declared.act.Act.{Act}
use Rattle.scripts.specs.declared.act.Act.TheVariants as line
use Rattle.sim_controller.proofs.HeardFrames.{hears_its_frames}
use Rattle.sim_controller.specs.Acts as by_phone
use Rattle.sim_controller.specs.Answers.{after_host, host_fault}
use Rattle.sim_controller.specs.Calls.{SimulatedCall, Acts, Gives, Takes as TakesFrom, after_calls, after_call, given_in_calls, if_accepted}
use Rattle.sim_controller.specs.declared.fault.SimFault.{SimFault}
use Rattle.sim_controller.specs.declared.handle.TheConstants.{PHONES}
use Rattle.sim_controller.specs.declared.told.Told.{Told}
use Rattle.sim_controller.specs.FromHost.{host_packet_of}
use Rattle.sim_controller.specs.Hearing.{frames_heard_in}
use Rattle.sim_controller.specs.Phones.{handle_of_phone}
use Rattle.sim_controller.specs.Simulated.{Simulated, phone_at}
use Rattle.sim_controller.specs.Told.{sent_octets, sent_of}
use Rattle.gatt_commands.proofs.Hearing.{Adds, adds_none, adds_one, tells_all}
use Rattle.gatt_commands.specs.declared.refused.Refused.{Refused}
use Rattle.gatt_commands.specs.declared.stage.Stage.{Stage}
use Rattle.gatt_commands.specs.Doing.{ByCall, DoesLine, ReplacesBy, refused_call, sim_act}
use Rattle.gatt_commands.specs.Exchange.{ControllerGives, ControllerTakes, Exchanges, HandsOver, HostTakes, Pair, TakesFirst}
use Rattle.gatt_commands.specs.Lines.{with_told_phones}
use Rattle.gatt_commands.specs.Loop.{IsJoined, SoFar, acts_in, after_line_done, after_printing, asked_unless, nothing_heard, other_in, others_in, packets_of_item, packets_of_items, packets_taken, printed_of, read_of, replacement_of, taken_by}
use Rattle.gatt_commands.specs.Runs.{simulated}

-- joined, by what was heard
pub record Joins (start : Start) (host : HostModel) (sim : Simulated) (so_far : SoFar) : Type 0 where
  pub input : List Item
  pub calls : List SimulatedCall
  pub refines : RefinesRun (run start input) (packets_taken simulated calls) host
  pub controller : sim ≡ after_calls simulated calls
  pub given : packets_of_items input ≡ flat_map read_of (given_in_calls simulated calls)
  pub asked : others_in input ≡ so_far.asked
  pub acts : acts_in calls ≡ so_far.acts
  pub heard_so : (phone : ℕ) → phone < PHONES → so_far.heard phone ≡ frames_heard_in simulated phone calls

pub joins : (start : Start) (host : HostModel) (sim : Simulated) (so_far : SoFar) → IsJoined start host sim so_far → Joins start host sim so_far
joins start host sim so_far is = record {
  input = is.input;
  calls = is.calls;
  refines = is.refines;
  controller = is.controller;
  given = is.given;
  asked = is.asked;
  acts = is.acts;
  heard_so = λ phone below.
      append_cancel_right (so_far.heard phone) (frames_heard_in simulated phone is.calls) (phone_at sim phone).heard
      (is.hears phone below ∙ sym (hears_its_frames simulated phone is.calls below)
      ∙ ap (λ (sim : Simulated). frames_heard_in simulated phone is.calls ++ (phone_at sim phone).heard) (sym is.controller));
}

pub is-joined : (start : Start) (host : HostModel) (sim : Simulated) (so_far : SoFar) → Joins start host sim so_far → IsJoined start host sim so_far
is-joined start host sim so_far is = record {
  input = is.input;
  calls = is.calls;
  refines = is.refines;
  controller = is.controller;
  given = is.given;
  asked = is.asked;
  acts = is.acts;
  hears = λ phone below.
      ap (λ (frames : List Octets). frames ++ (phone_at sim phone).heard) (is.heard_so phone below)
      ∙ ap (λ (sim : Simulated). frames_heard_in simulated phone is.calls ++ (phone_at sim phone).heard) is.controller
      ∙ hears_its_frames simulated phone is.calls below;
}

-- the host takes in items, these packets and these others, and these packets go out
record Goes (start : Start) (input : List Item) (sent : List Octets) (packets : List Packet) (asked : List Item) (taken : List Octets) (new : HostModel) : Type
    0 where
  items : List Item
  refines : RefinesRun (run start (input ++ items)) (sent ++ taken) new
  read : packets_of_items items ≡ packets
  others : others_in items ≡ asked

goes-nowhere : (start : Start) (input : List Item) (sent : List Octets) (old new : HostModel) → new ≡ old → RefinesRun (run start input) sent old
    → Goes start input sent [] [] [] new
goes-nowhere start input sent old new same refines = record {
  items = [];
  refines =
      subst (λ (whole : HostModel). RefinesRun (run start (input ++ [])) (sent ++ []) whole) (sym same)
      (subst (λ (input' : List Item). RefinesRun (run start input') (sent ++ []) old) (sym (append-nil input))
      (subst (λ (gone' : List Octets). RefinesRun (run start input) gone' old) (sym (append-nil sent)) refines));
  read = refl;
  others = refl;
}

goes-on : (start : Start) (input : List Item) (sent : List Octets) (item : Item) (old new : HostModel) → Takes item old new
    → RefinesRun (run start input) sent old → Goes start input sent (packets_of_items (item ∷ [])) (others_in (item ∷ [])) [] new
goes-on start input sent item old new takes refines = record { items = item ∷ []; refines = takes start input sent refines; read = refl; others = refl }

goes-out : (start : Start) (input : List Item) (sent : List Octets) (packet : Octets) (old new : HostModel) → Refines [] (packet ∷ []) old new
    → RefinesRun (run start input) sent old → Goes start input sent [] [] (packet ∷ []) new
goes-out start input sent packet old new leads refines = record { items = []; refines = leads start input sent refines; read = refl; others = refl }

abbrev with_more : SoFar → List by_phone.SimulatedAct → List Item → (ℕ → List Octets) → SoFar
with_more so_far acts asked heard =
    record { acts = so_far.acts ++ acts; asked = so_far.asked ++ asked; heard = λ phone. so_far.heard phone ++ heard phone }

-- without more
same-still : (so_far : SoFar) → with_more so_far [] [] nothing_heard ≡ so_far
same-still so_far = λ i. record {
  acts = append-nil so_far.acts i;
  asked = append-nil so_far.asked i;
  heard = λ phone. append-nil (so_far.heard phone) i;
}

same-heard : (so_far : SoFar) (acts : List by_phone.SimulatedAct) (asked : List Item)
    → with_more so_far acts asked nothing_heard ≡ record so_far { acts = so_far.acts ++ acts; asked = so_far.asked ++ asked }
same-heard so_far acts asked = λ i. record { acts = so_far.acts ++ acts; asked = so_far.asked ++ asked; heard = λ phone. append-nil (so_far.heard phone) i }

same-acts : (so_far : SoFar) (heard : ℕ → List Octets) → with_more so_far [] [] heard ≡ record so_far { heard = λ phone. so_far.heard phone ++ heard phone }
same-acts so_far heard = λ i. record {
  acts = append-nil so_far.acts i;
  asked = append-nil so_far.asked i;
  heard = λ phone. so_far.heard phone ++ heard phone;
}

module _ (start : Start) (host new : HostModel) (sim sim' : Simulated) (so_far : SoFar) (was : Joins start host sim so_far) where
  abbrev gone-so-far : List Octets
  gone-so-far = packets_taken simulated was.calls

  more : (later : List SimulatedCall) (taken : List Octets) (told : List Told) (acts : List by_phone.SimulatedAct) (asked : List Item) (heard : ℕ → List Octets)
      → Adds was.calls later taken told acts heard → Goes start was.input gone-so-far (flat_map read_of told) asked taken new
      → sim' ≡ after_calls simulated later → Joins start new sim' (with_more so_far acts asked heard)
  more later taken told acts asked heard adds goes then_so = record {
    input = was.input ++ goes.items;
    calls = later;
    refines = subst (λ (sent : List Octets). RefinesRun (run start (was.input ++ goes.items)) sent new) (sym adds.taken_then) goes.refines;
    controller = then_so;
    given =
        flat_map-append packets_of_item was.input goes.items
        ∙ ap (λ (packets : List Packet). packets ++ packets_of_items goes.items) was.given
        ∙ ap (λ (packets : List Packet). flat_map read_of (given_in_calls simulated was.calls) ++ packets) goes.read
        ∙ sym (flat_map-append read_of (given_in_calls simulated was.calls) told)
        ∙ sym (ap (λ (told : List Told). flat_map read_of told) adds.given_then);
    asked =
        flat_map-append other_in was.input goes.items
        ∙ ap (λ (items : List Item). items ++ others_in goes.items) was.asked
        ∙ ap (λ (items : List Item). so_far.asked ++ items) goes.others;
    acts = adds.acts_then ∙ ap (λ (done : List by_phone.SimulatedAct). done ++ acts) was.acts;
    heard_so = λ phone below. ap (λ (frames : List Octets). frames ++ heard phone) (was.heard_so phone below) ∙ sym (adds.heard_so phone);
  }

  as-so-far : (then_far : SoFar) (same : SoFar) → then_far ≡ same → Joins start new sim' then_far → Joins start new sim' same
  as-so-far then_far same is joined = subst (λ (so_far : SoFar). Joins start new sim' so_far) is joined

  -- the controller takes a packet of the host
  takes-packet : (packet : Octets) → Refines [] (packet ∷ []) host new → ControllerTakes packet sim sim' → Joins start new sim' so_far
  takes-packet packet leads takes =
      let old : Simulated = after_calls simulated was.calls in
      let accepted : host_fault old (host_packet_of packet) ≡ None =
      ap (λ (sim : Simulated). host_fault sim (host_packet_of packet)) (sym was.controller) ∙ takes.accepted in
      let taken : taken_by old (TakesFrom packet) ≡ packet ∷ [] = ap (λ (fault : Option SimFault). if_accepted fault (packet ∷ []) []) accepted in
      let then_so : sim' ≡ after_call old (TakesFrom packet) =
      takes.after ∙ ap (λ (sim : Simulated). after_host sim (host_packet_of packet)) was.controller
      ∙ sym (ap (λ (fault : Option SimFault). if_accepted fault (after_host old (host_packet_of packet)) old) accepted) in
      as-so-far (with_more so_far [] [] nothing_heard) so_far (same-still so_far)
      (more (TakesFrom packet ∷ was.calls) (taken_by old (TakesFrom packet)) [] [] [] nothing_heard (adds_one was.calls (TakesFrom packet))
      (subst (λ (packets : List Octets). Goes start was.input gone-so-far [] [] packets new) (sym taken)
      (goes-out start was.input gone-so-far packet host new leads was.refines))
      then_so)

  -- the host takes one of the controller
  first-read : (waiting : List Told) (packet : Octets) → option_map (λ told. sent_octets (sent_of told)) (slice_get waiting 0) ≡ Some packet
      → take 1 (division packet).packets ≡ flat_map read_of (take 1 waiting)
  first-read [] packet is = absurd cc
  first-read (told ∷ rest) packet is =
      let same : sent_octets (sent_of told) ≡ packet = cc in
      sym (append-nil (read_of told) ∙ ap (λ (octets : Octets). take 1 (division octets).packets) same)

  first-goes : (packets : List Packet) (end : End) → TakesFirst packets end host new → Goes start was.input gone-so-far (take 1 packets) [] [] new
  first-goes (packet ∷ packets) end goes = goes-on start was.input gone-so-far (APacket packet) host new goes.takes was.refines
  first-goes [] Unfinished goes = goes-nowhere start was.input gone-so-far host new goes was.refines
  first-goes [] (Lost indicator) goes = absurd goes

  gives-packet : (packet : Octets) → ControllerGives packet sim sim' → HostTakes packet host new → Joins start new sim' so_far
  gives-packet packet gives takes =
      let old : Simulated = after_calls simulated was.calls in
      let first : option_map (λ told. sent_octets (sent_of told)) (slice_get old.waiting 0) ≡ Some packet =
      subst (λ (sim : Simulated). option_map (λ told. sent_octets (sent_of told)) (slice_get sim.waiting 0) ≡ Some packet) was.controller gives.first in
      let then_so : sim' ≡ after_call old Gives =
      gives.after ∙ ap (λ (sim : Simulated). record sim { waiting = drop 1 sim.waiting }) was.controller in
      as-so-far (with_more so_far [] [] nothing_heard) so_far (same-still so_far)
      (more (Gives ∷ was.calls) [] (take 1 old.waiting) [] [] nothing_heard (adds_one was.calls Gives)
      (subst (λ (packets : List Packet). Goes start was.input gone-so-far packets [] [] new) (first-read old.waiting packet first)
      (first-goes (division packet).packets (division packet).end takes))
      then_so)

  -- a phone acts
  phone-acts : (act : by_phone.SimulatedAct) → new ≡ host → sim' ≡ after_call sim (Acts act)
      → Joins start new sim' (record so_far { acts = so_far.acts ++ act ∷ []; asked = so_far.asked ++ [] })
  phone-acts act same then_so =
      as-so-far (with_more so_far (act ∷ []) [] nothing_heard) (record so_far { acts = so_far.acts ++ act ∷ []; asked = so_far.asked ++ [] })
      (same-heard so_far (act ∷ []) [])
      (more (Acts act ∷ was.calls) [] [] (act ∷ []) [] nothing_heard (adds_one was.calls (Acts act))
      (goes-nowhere start was.input gone-so-far host new same was.refines)
      (then_so ∙ ap (λ (sim : Simulated). after_call sim (Acts act)) was.controller))

  -- the application calls: the host takes it in, or had stopped
  host-goes : (asked : List Item) → Goes start was.input gone-so-far [] asked [] new → sim' ≡ sim
      → Joins start new sim' (record so_far { acts = so_far.acts ++ []; asked = so_far.asked ++ asked })
  host-goes asked goes same =
      as-so-far (with_more so_far [] asked nothing_heard) (record so_far { acts = so_far.acts ++ []; asked = so_far.asked ++ asked })
      (same-heard so_far [] asked)
      (more was.calls [] [] [] asked nothing_heard (adds_none was.calls) goes (same ∙ was.controller))

  app-calls : (item : Item) (told : Option Refused) (refused : Refused) (kept : Option HostFault) → host.fault ≡ kept
      → packets_of_items (item ∷ []) ≡ [] → others_in (item ∷ []) ≡ item ∷ []
      → (host.fault ≡ None → Takes item host new) → (IsSome host.fault → told ≡ Some refused) → (IsSome told → new ≡ silent host)
      → Goes start was.input gone-so-far [] (asked_unless kept item) [] new
  app-calls item told refused None is none one takes stopped unchanged =
      subst (λ (packets : List Packet). Goes start was.input gone-so-far packets (item ∷ []) [] new) none
      (subst (λ (items : List Item). Goes start was.input gone-so-far (packets_of_items (item ∷ [])) items [] new) one
      (goes-on start was.input gone-so-far item host new (takes is) was.refines))
  app-calls item told refused (Some fault) is none one takes stopped unchanged =
      let refines : IsSome host.fault = ap is_some is in
      let same : new ≡ silent host = unchanged (ap is_some (stopped refines)) in
      goes-nowhere start was.input gone-so-far host new (same ∙ ap (λ (fault : Option HostFault). silent_unless fault host) is) was.refines

  replaces : (next : Option Contents) (told : Option Refused) (next' : Option Contents) → ReplacesBy next told host new next'
      → Goes start was.input gone-so-far [] (replacement_of next host.fault) [] new
  replaces None told next' is = goes-nowhere start was.input gone-so-far host new is.same was.refines
  replaces (Some table) told next' is =
      app-calls (ATable table) told (refused_call why.Stopped) host.fault refl refl refl is.takes is.stopped is.unchanged

module _ (start : Start) (so_far : SoFar) where
  abbrev pub JoinsAt : HostModel → Simulated → Type 0
  JoinsAt host sim = Joins start host sim so_far

  -- packets are handed over
  hands : (before after_calls : Pair) → HandsOver before after_calls → JoinsAt before.host before.sim → JoinsAt after_calls.host after_calls.sim
  hands before after_calls (inl out) was =
      takes-packet start before.host after_calls.host before.sim after_calls.sim so_far was out.packet out.gives.goes out.takes
  hands before after_calls (inr taken) was =
      gives-packet start before.host after_calls.host before.sim after_calls.sim so_far was taken.packet taken.gives taken.takes

  pub exchanges : (count : ℕ) (before after_calls : Pair) → Exchanges count before after_calls → JoinsAt before.host before.sim
      → JoinsAt after_calls.host after_calls.sim
  exchanges zero before after_calls is was = subst (λ (pair : Pair). JoinsAt pair.host pair.sim) (sym is) was
  exchanges (suc count) before after_calls (middle, first, rest) was = exchanges count middle after_calls rest (hands before middle first was)

  -- a line does what it says
  by-call : (call : why.Call) (told : Option Refused) (old acted : Stage) → ByCall call told old acted → JoinsAt old.host old.sim
      → Joins start acted.host acted.sim (record so_far { acts = so_far.acts ++ []; asked = so_far.asked ++ asked_unless old.host.fault (ACall call) })
  by-call call told old acted does was =
      host-goes start old.host acted.host old.sim acted.sim so_far was (asked_unless old.host.fault (ACall call))
      (app-calls start old.host acted.host old.sim acted.sim so_far was (ACall call) told (refused_call why.Stopped) old.host.fault refl refl refl
      does.calls.takes does.calls.stopped does.calls.unchanged)
      does.sim

  pub does-act : (act : Act) (told : Option Refused) (old acted : Stage) → DoesLine act told old acted → JoinsAt old.host old.sim
      → Joins start acted.host acted.sim (after_line_done old act so_far)
  does-act (line.Phone phone act) told old acted does was =
      phone-acts start old.host acted.host old.sim acted.sim so_far was (sim_act phone act) does.host does.acts.after
  does-act (line.Authorize phone until) told old acted does was = by-call (why.AuthorizeCall (handle_of_phone phone) until) told old acted does was
  does-act (line.Update handle value) told old acted does was = by-call (why.UpdateCall handle value) told old acted does was
  does-act (line.Tick time) told old acted does was = by-call (why.TickCall time) told old acted does was
  does-act line.Replace told old acted does was =
      host-goes start old.host acted.host old.sim acted.sim so_far was (replacement_of old.next old.host.fault)
      (replaces start old.host acted.host old.sim acted.sim so_far was old.next told acted.next does.replaces) does.sim

  -- the phones are told what they have heard
  pub tells : (count : ℕ) (host : HostModel) (quiet sim : Simulated) → sim ≡ with_told_phones quiet count → JoinsAt host quiet
      → Joins start host sim (after_printing count quiet so_far)
  tells count host quiet sim is was =
      let told = tells_all count was.calls in
      let printed : ℕ → List Octets = printed_of count (after_calls simulated was.calls) in
      let now : Joins start host sim (with_more so_far [] [] printed) =
      more start host host quiet sim so_far was told.later [] [] [] [] printed told.adds
      (goes-nowhere start was.input (packets_taken simulated was.calls) host host refl was.refines)
      (is ∙ ap (λ (sim : Simulated). with_told_phones sim count) was.controller ∙ sym told.then_so) in
      subst (λ (quiet : Simulated). Joins start host sim (after_printing count quiet so_far)) (sym was.controller)
      (subst (λ (then_far : SoFar). Joins start host sim then_far) (same-acts so_far printed) now)
