-- Calls one after another take in their items one after another, and write their packets so.
use Rattle.std.proofs.Common.{◌≡◌, ℕ, Bool, true, false, List, [], ◌∷◌, ◌++◌, take, drop, Option, Some, None, Result, Ok, Err, refl, sym, ap, subst, ◌∙◌, append_assoc, append-nil, take-append-drop}
use Rattle.std.proofs.KnownBytes.{Appends-nil, Appends-trans}
use Rattle.std.proofs.lemmas.List.{map-append}
use Rattle.std.proofs.lemmas.List.Concat.{flat_map-append}
use Rattle.std.specs.Prelude.{is_err, IsSome, OnErr, OnOk}
use Rattle.std.specs.Io.KnownBytes.{Appends}
use Rattle.gatt_host.proofs.owing.Nexts.{clash}
use Rattle.gatt_host.proofs.model.Due.{due_where_out}
use Rattle.gatt_host.proofs.model.Items.{leads_nowhere, leads_on, leads_stopped}
use Rattle.gatt_host.specs.declared.host_fault.HostFault.{HostFault}
use Rattle.gatt_host.specs.declared.host_fault.HostFault.TheVariants as stop
use Rattle.gatt_host.specs.Feeding.{BreaksOff, Feeds, Settles, TakesAll, is_of_feeding, is_write_fault, joined, octet_items}
use Rattle.gatt_host.specs.HostModel.{Refines, SameFault, RefinesRun, HostModel, all_out, is_own_fault, fault_outcome}
use Rattle.gatt_laws.proofs.runs.Inputs.{items_append}
use Rattle.gatt_laws.proofs.runs.Streams.{stays_stopped}
use Rattle.gatt_laws.specs.machine.Input.{AnOctet, Run, Item, after_items, run_at_start, run}
use Rattle.gatt_laws.specs.machine.Packets.{Fault}
use Rattle.octet_io.specs.Number.{Octets}
use Rattle.octet_io.specs.Stream.{CountsFailure, CountsIf, CountsNone, WritesFront}
use Rattle.octet_io.proofs.Writing.{counts_none, counts_one}

pub joined_append : (packets others : List Octets) → joined (packets ++ others) ≡ joined packets ++ joined others
joined_append packets others = flat_map-append (λ (packet : Octets). packet) packets others

-- nothing is taken in, and nothing is written
pub takes_none : (host : HostModel) (server : Option Octets) → TakesAll [] host host server server
takes_none host server = record { packets = []; refines = leads_nowhere host host refl; written = Appends-nil server }

pub takes_then : (items more : List Item) (old mid new : HostModel) (before between after : Option Octets) → TakesAll items old mid before between
    → TakesAll more mid new between after → TakesAll (items ++ more) old new before after
takes_then items more old mid new before between after first second = record {
  packets = first.packets ++ second.packets;
  refines = leads_on items more first.packets second.packets old mid new first.refines second.refines;
  written = subst (Appends before after) (sym (joined_append first.packets second.packets))
      (Appends-trans before between after (joined first.packets) (joined second.packets) first.written second.written);
}

-- items that bring nothing yet
pub takes_silently : (items : List Item) (old new : HostModel) (server : Option Octets) → Refines items [] old new → TakesAll items old new server server
takes_silently items old new server leads = record { packets = []; refines = leads; written = Appends-nil server }

pub takes_then_breaks : (items more : List Item) (old mid new : HostModel) (before between after : Option Octets) → TakesAll items old mid before between
    → BreaksOff more mid new between after → BreaksOff (items ++ more) old new before after
takes_then_breaks items more old mid new before between after first second = record {
  taken = items ++ second.taken;
  left = second.left;
  parts = ap (λ (all : List Item). items ++ all) second.parts ∙ sym (append_assoc items second.taken second.left);
  packets = first.packets ++ second.packets;
  refines = leads_on items second.taken first.packets second.packets old mid new first.refines second.refines;
  written = subst (λ (octets : Octets). WritesFront octets before after) (sym (joined_append first.packets second.packets)) (record {
    written = joined first.packets ++ second.written.written;
    appended = Appends-trans before between after (joined first.packets) second.written.written first.written second.written.appended;
    left = second.written.left;
    parts = ap (λ (octets : Octets). joined first.packets ++ octets) second.written.parts
        ∙ sym (append_assoc (joined first.packets) second.written.written second.written.left);
  });
}

-- what follows is left
pub breaks_before : (items more : List Item) (old new : HostModel) (before after : Option Octets) → BreaksOff items old new before after
    → BreaksOff (items ++ more) old new before after
breaks_before items more old new before after breaks = record {
  taken = breaks.taken;
  left = breaks.left ++ more;
  parts = ap (λ (all : List Item). all ++ more) breaks.parts ∙ append_assoc breaks.taken breaks.left more;
  packets = breaks.packets;
  refines = breaks.refines;
  written = breaks.written;
}

-- by the fault that stands then
pub feeds_then : (items more : List Item) (old mid new : HostModel) (before between after : Option Octets) (fault : Option HostFault)
    → TakesAll items old mid before between
    → Feeds more mid new between after fault → Feeds (items ++ more) old new before after fault
feeds_then items more old mid new before between after None first second = takes_then items more old mid new before between after first second
feeds_then items more old mid new before between after (Some (stop.Desync indicator)) first second =
    takes_then items more old mid new before between after first second
feeds_then items more old mid new before between after (Some (stop.BadEvent code)) first second =
    takes_then items more old mid new before between after first second
feeds_then items more old mid new before between after (Some (stop.Init why)) first second = takes_then items more old mid new before between after first second
feeds_then items more old mid new before between after (Some (stop.Hardware code)) first second =
    takes_then items more old mid new before between after first second
feeds_then items more old mid new before between after (Some stop.Read) first second = takes_then items more old mid new before between after first second
feeds_then items more old mid new before between after (Some stop.Turns) first second = takes_then items more old mid new before between after first second
feeds_then items more old mid new before between after (Some stop.Write) first second =
    takes_then_breaks items more old mid new before between after first second

-- a host that has stopped as its run has takes in what follows and nothing changes
module _ (items more : List Item) (packets : List Octets) (old new : HostModel) (fault : HostFault) (stopped : new.fault ≡ Some fault)
    (other : is_own_fault fault ≡ false) where
  stays-by : (input : List Item) (sent : List Octets) (at_run : Run) (why : Option Fault) → at_run.intake.fault ≡ why → SameFault why (Some fault)
      → RefinesRun at_run sent new → RefinesRun (after_items at_run more) sent new
  stays-by input sent at_run None none same is = absurd (clash (sym other ∙ same))
  stays-by input sent at_run (Some why) refines same is =
      subst (λ (after : Run). RefinesRun after sent new) (sym (stays_stopped at_run why more refines)) is

  pub leads_past : Refines items packets old new → Refines (items ++ more) packets old new
  unfolding run
  leads_past leads start input sent is =
      let at_run : Run = run start (input ++ items) in
      let there : RefinesRun at_run (sent ++ packets) new = leads start input sent is in
      subst (λ (all : List Item). RefinesRun (run start all) (sent ++ packets) new) (append_assoc input items more)
      (subst (λ (after : Run). RefinesRun after (sent ++ packets) new) (sym (items_append (run_at_start start) (input ++ items) more))
      (stays-by input (sent ++ packets) at_run at_run.intake.fault refl
      (subst (λ (refines : Option HostFault). SameFault at_run.intake.fault refines) stopped there.same) there))

pub takes_past : (items more : List Item) (old new : HostModel) (before after : Option Octets) (fault : HostFault) → new.fault ≡ Some fault
    → is_own_fault fault ≡ false
    → TakesAll items old new before after → TakesAll (items ++ more) old new before after
takes_past items more old new before after fault stopped other takes = record {
  packets = takes.packets;
  refines = leads_past items more takes.packets old new fault stopped other takes.refines;
  written = takes.written;
}

-- of octets all but the rest is taken in
pub record HasTaken (octets rest : Octets) (old new : HostModel) (before after : Option Octets) : Type 0 where
  pub taken : Octets
  pub parts : octets ≡ taken ++ rest
  pub takes : TakesAll (octet_items taken) old new before after

-- so one that has stopped at what it was fed
pub feeds_past : (items more : List Item) (old new : HostModel) (before after : Option Octets) (fault : HostFault) → new.fault ≡ Some fault
    → is_of_feeding fault ≡ true
    → Feeds items old new before after (Some fault) → Feeds (items ++ more) old new before after (Some fault)
feeds_past items more old new before after (stop.Desync indicator) stopped comes feeds =
    takes_past items more old new before after (stop.Desync indicator) stopped refl feeds
feeds_past items more old new before after (stop.BadEvent code) stopped comes feeds =
    takes_past items more old new before after (stop.BadEvent code) stopped refl feeds
feeds_past items more old new before after (stop.Init why) stopped comes feeds = takes_past items more old new before after (stop.Init why) stopped refl feeds
feeds_past items more old new before after (stop.Hardware code) stopped comes feeds =
    takes_past items more old new before after (stop.Hardware code) stopped refl feeds
feeds_past items more old new before after stop.Read stopped comes feeds = absurd (clash comes)
feeds_past items more old new before after stop.Turns stopped comes feeds = absurd (clash comes)
feeds_past items more old new before after stop.Write stopped comes feeds = breaks_before items more old new before after feeds

-- what a call answers
abbrev failing : HostFault → Result Unit HostFault
failing why = Err why

abbrev done : Result Unit HostFault
done = Ok tt

pub fault_answered : (found : Option HostFault) (why : HostFault) → failing why ≡ fault_outcome found → found ≡ Some why
fault_answered None why is = cc is
fault_answered (Some fault) why is = cc is

pub none_answered : (found : Option HostFault) → done ≡ fault_outcome found → found ≡ None
none_answered None is = refl
none_answered (Some fault) is = cc is

-- a host on which no fault stands had none before
pub none_before : (old new : HostModel) → (IsSome old.fault → new ≡ old) → new.fault ≡ None → old.fault ≡ None
none_before old new stopped none = by old.fault refl
  where
    by : (fault : Option HostFault) → old.fault ≡ fault → old.fault ≡ None
    by None is = is
    by (Some why) is =
        let same : new ≡ old = stopped (subst (λ (fault : Option HostFault). IsSome fault) (sym is) refl) in
        sym (ap (λ (host : HostModel). host.fault) same) ∙ none

-- where the writer fails, what follows is left
pub broken_before : (items more : List Item) (old new : HostModel) (before after : Option Octets) (found : Option HostFault) → found ≡ Some stop.Write
    → Feeds items old new before after found → Feeds (items ++ more) old new before after found
broken_before items more old new before after found is feeds =
    subst (λ (found : Option HostFault). Feeds (items ++ more) old new before after found) (sym is)
    (breaks_before items more old new before after (subst (λ (found : Option HostFault). Feeds items old new before after found) is feeds))

-- where the host stops for another reason, all that is taken in is written
pub stopped_feeds : (items : List Item) (old new : HostModel) (before after : Option Octets) (found : Option HostFault) (fault : HostFault) → found ≡ Some fault
    → is_own_fault fault ≡ false
    → TakesAll items old new before after → Feeds items old new before after found
stopped_feeds items old new before after found fault is other takes =
    subst (λ (found : Option HostFault). Feeds items old new before after found) (sym is) (by-fault fault other)
  where
    by-fault : (fault : HostFault) → is_own_fault fault ≡ false → Feeds items old new before after (Some fault)
    by-fault (stop.Desync indicator) other = takes
    by-fault (stop.BadEvent code) other = takes
    by-fault (stop.Init why) other = takes
    by-fault (stop.Hardware code) other = takes
    by-fault stop.Read other = absurd (clash (sym other))
    by-fault stop.Write other = absurd (clash (sym other))
    by-fault stop.Turns other = absurd (clash (sym other))

pub going_takes : (items : List Item) (old new : HostModel) (before after : Option Octets) (found : Option HostFault) → found ≡ None
    → Feeds items old new before after found → TakesAll items old new before after
going_takes items old new before after found none feeds = subst (λ (found : Option HostFault). Feeds items old new before after found) none feeds

-- a packet is handed out, and written whole or its front
pub takes_packet_more : (old at new : HostModel) (packet : Octets) (before between after : Option Octets) → TakesAll [] old at before between
    → Refines [] (packet ∷ []) at new
    → Appends between after packet → TakesAll [] old new before after
takes_packet_more old at new packet before between after takes leads written =
    takes_then [] [] old at new before between after takes
    (record { packets = packet ∷ []; refines = leads; written = subst (Appends between after) (sym (append-nil packet)) written })

pub breaks_off_at : (old at mid : HostModel) (packet : Octets) (before between after : Option Octets) → TakesAll [] old at before between
    → Refines [] (packet ∷ []) at mid
    → mid.fault ≡ None → WritesFront packet between after → BreaksOff [] old (record mid { fault = Some stop.Write }) before after
breaks_off_at old at mid packet before between after takes leads none front =
    takes_then_breaks [] [] old at (record mid { fault = Some stop.Write }) before between after takes
    (record {
      taken = [];
      left = [];
      parts = refl;
      packets = packet ∷ [];
      refines = leads_on [] [] (packet ∷ []) [] at mid (record mid { fault = Some stop.Write }) leads (leads_stopped mid stop.Write none refl);
      written = subst (λ (octets : Octets). WritesFront octets between after) (sym (append-nil packet)) front;
    })

-- octets in two parts
pub items_append_octets : (octets rest : Octets) → octet_items (octets ++ rest) ≡ octet_items octets ++ octet_items rest
items_append_octets octets rest = map-append (λ (octet : ℕ). AnOctet octet) octets rest

pub all_items : (octets taken rest : Octets) → octets ≡ taken ++ rest → octet_items octets ≡ octet_items taken ++ octet_items rest
all_items octets taken rest parts = ap octet_items parts ∙ items_append_octets taken rest

abbrev pub taken_none : (octets : Octets) (old new : HostModel) (before after : Option Octets) → TakesAll [] old new before after
    → HasTaken octets octets old new before after
taken_none octets old new before after takes = record { taken = []; parts = refl; takes = takes }

abbrev pub taken_silently : (octets rest : Octets) (used : ℕ) (old at new : HostModel) (before after : Option Octets) → HasTaken octets rest old at before after
    → Refines (octet_items (take used rest)) [] at new → HasTaken octets (drop used rest) old new before after
taken_silently octets rest used old at new before after has leads = record {
  taken = has.taken ++ take used rest;
  parts = has.parts ∙ ap (λ (left : Octets). has.taken ++ left) (sym (take-append-drop used rest))
      ∙ sym (append_assoc has.taken (take used rest) (drop used rest));
  takes = subst (λ (items : List Item). TakesAll items old new before after) (sym (items_append_octets has.taken (take used rest)))
      (takes_then (octet_items has.taken) (octet_items (take used rest)) old at new before after after has.takes
      (takes_silently (octet_items (take used rest)) at new after leads));
}

abbrev pub taken_then : (octets rest : Octets) (old mid new : HostModel) (before between after : Option Octets) → HasTaken octets rest old mid before between
    → TakesAll [] mid new between after → HasTaken octets rest old new before after
taken_then octets rest old mid new before between after has takes = record {
  taken = has.taken;
  parts = has.parts;
  takes = subst (λ (items : List Item). TakesAll items old new before after) (append-nil (octet_items has.taken))
      (takes_then (octet_items has.taken) [] old mid new before between after has.takes takes);
}

-- the host stops at a packet
pub taken_stops : (octets rest : Octets) (old at new : HostModel) (before after : Option Octets) (found : Option HostFault) (fault : HostFault)
    → HasTaken octets rest old at before after
    → Refines (octet_items rest) [] at new → found ≡ Some fault → is_own_fault fault ≡ false → Feeds (octet_items octets) old new before after found
taken_stops octets rest old at new before after found fault has leads is other =
    stopped_feeds (octet_items octets) old new before after found fault is other
    (subst (λ (items : List Item). TakesAll items old new before after) (sym (all_items octets has.taken rest has.parts))
    (takes_then (octet_items has.taken) (octet_items rest) old at new before after after has.takes (takes_silently (octet_items rest) at new after leads)))

-- or the writer fails
pub taken_breaks : (octets rest : Octets) (old mid new : HostModel) (before between after : Option Octets) (found : Option HostFault)
    → HasTaken octets rest old mid before between
    → found ≡ Some stop.Write → Feeds [] mid new between after found → Feeds (octet_items octets) old new before after found
taken_breaks octets rest old mid new before between after found has is feeds =
    subst (λ (items : List Item). Feeds items old new before after found) (sym (all_items octets has.taken rest has.parts))
    (broken_before (octet_items has.taken) (octet_items rest) old new before after found is
    (subst (λ (items : List Item). Feeds items old new before after found) (append-nil (octet_items has.taken))
    (feeds_then (octet_items has.taken) [] old mid new before between after found has.takes feeds)))

-- the failures that are counted
pub counts_where_going : (found : Option HostFault) (before after : Option ℕ) → found ≡ None → CountsIf (is_write_fault found) before after
    → CountsNone before after
counts_where_going found before after none fails = subst (λ (found : Option HostFault). CountsIf (is_write_fault found) before after) none fails

-- none was counted before what is counted at the end
pub counts_at_end : (fails : Bool) (before mid now : Option ℕ) → CountsNone before mid → CountsIf fails mid now → CountsIf fails before now
counts_at_end true before mid now first second = counts_one before mid now first second
counts_at_end false before mid now first second = counts_none before mid now first second

pub settles_then : (host : HostModel) (before mid now : Option ℕ) → CountsNone before mid → Settles host mid now → Settles host before now
settles_then host before mid now first settles = record {
  out = settles.out;
  due = settles.due;
  failures = counts_at_end (is_write_fault host.fault) before mid now first settles.failures;
}

pub settles_going : (host : HostModel) (before now : Option ℕ) → host.fault ≡ None → all_out host ≡ true → CountsNone before now
    → Settles host before now
settles_going host before now none out counts = record {
  out = out;
  due = due_where_out host none out;
  failures = subst (λ (found : Option HostFault). CountsIf (is_write_fault found) before now) (sym none) counts;
}

-- where the writer did not fail, no failure of it is counted
pub counts_where_written : (found : Option HostFault) (before now : Option ℕ) → is_write_fault found ≡ false → CountsNone before now
    → CountsIf (is_write_fault found) before now
counts_where_written found before now other counts = subst (λ (fails : Bool). CountsIf fails before now) (sym other) counts

pub written_at : (found : Option HostFault) (fault : HostFault) → found ≡ Some fault → is_write_fault (Some fault) ≡ false → is_write_fault found ≡ false
written_at found fault is other = ap is_write_fault is ∙ other

pub written_by_run : (fault : HostFault) → is_own_fault fault ≡ false → is_write_fault (Some fault) ≡ false
written_by_run (stop.Desync indicator) other = refl
written_by_run (stop.BadEvent code) other = refl
written_by_run (stop.Init why) other = refl
written_by_run (stop.Hardware code) other = refl
written_by_run stop.Read other = refl
written_by_run stop.Write other = absurd (clash (sym other))
written_by_run stop.Turns other = refl

-- by whether a call failed
pub on_err_at : {T E : Type 0} (result : Result T E) (P : Type 0) → is_err result ≡ true → OnErr result P → P
on_err_at (Ok x) P fails so = absurd (clash fails)
on_err_at (Err e) P fails so = so

pub on_ok_at : {T E : Type 0} (result : Result T E) (P : Type 0) → is_err result ≡ false → OnOk result P → P
on_ok_at (Ok x) P works so = so
on_ok_at (Err e) P works so = absurd (clash (sym works))

pub counts_none_at : {T E : Type 0} (result : Result T E) (before after : Option ℕ) → is_err result ≡ false → CountsFailure before after result
    → CountsNone before after
counts_none_at (Ok x) before after works counts = counts
counts_none_at (Err e) before after works counts = absurd (clash (sym works))
