-- What is heard of items one after another.
use Rattle.std.proofs.Common.{◌≡◌, ℕ, true, false, List, [], ◌∷◌, ◌++◌, drop, map, take, Option, Some, None, refl, sym, ap, subst, ◌∙◌, append_assoc, append-nil}
use Rattle.std.specs.Prelude.{if◌then◌else◌, is_some}
use Rattle.gatt_host.proofs.owing.Nexts.{clash}
use Rattle.gatt_host.proofs.model.Feeds.{HasTaken, all_items, items_append_octets, taken_none, taken_silently, taken_then}
use Rattle.gatt_host.proofs.model.Items.{leads_on}
use Rattle.gatt_host.proofs.model.Received.{ReceivesOfAll, octets_received, stopped_received}
use Rattle.gatt_host.specs.declared.host_fault.HostFault.{HostFault}
use Rattle.gatt_host.specs.declared.host_fault.HostFault.TheVariants as stop
use Rattle.gatt_host.specs.Feeding.{BreaksOff, Feeds, TakesAll, TakesUpToAPacket, is_of_feeding, octet_items}
use Rattle.gatt_host.specs.Listening.{Hears, HearsOf, HearsTheFront, Listens}
use Rattle.gatt_host.specs.Notices.{last_notices}
use Rattle.gatt_host.specs.Telling.{TellsOfAll, notices_told, received_told}
use Rattle.gatt_host.specs.HostModel.{Refines, SameFault, HostModel, is_own_fault}
use Rattle.gatt_laws.proofs.runs.Inputs.{items_append}
use Rattle.gatt_laws.proofs.notices.StreamNotices.{stopped_silent}
use Rattle.gatt_laws.specs.machine.Input.{Run, Item, after_item, after_items, run_at_start, run}
use Rattle.gatt_laws.specs.machine.Notice.{Notice, Received, received_in, received_of, received_of_event, received_with}
use Rattle.gatt_laws.specs.machine.Packets.{Fault}
use Rattle.octet_io.specs.Number.{Octets}

-- nothing is heard, and then more
pub hears_none : (known : Option (List Received)) → Hears [] known known
hears_none None = tt
hears_none (Some notices) = sym (append-nil notices)

pub hears_then : (one other : List Received) (before between after : Option (List Received)) → Hears one before between → Hears other between after
    → Hears (one ++ other) before after
hears_then one other None between after first second = tt
hears_then one other (Some before) None after first second = absurd first
hears_then one other (Some before) (Some between) None first second = absurd second
hears_then one other (Some before) (Some between) (Some after) first second =
    second ∙ ap (λ (notices : List Received). notices ++ other) first ∙ append_assoc before one other

-- of some notices all but the rest are heard
pub record HasToldSome (notices rest : List Received) (before after : Option (List Received)) : Type 0 where
  pub told : List Received
  pub parts : notices ≡ told ++ rest
  pub hears : Hears told before after

pub told_one : (notices rest : List Received) (notice : Received) (left : List Received) (before heard after : Option (List Received))
    → HasToldSome notices rest before heard → rest ≡ notice ∷ left → Hears (notice ∷ []) heard after → HasToldSome notices left before after
told_one notices rest notice left before heard after so_far is hears = record {
  told = so_far.told ++ notice ∷ [];
  parts = so_far.parts ∙ ap (λ (rest : List Received). so_far.told ++ rest) is ∙ sym (append_assoc so_far.told (notice ∷ []) left);
  hears = hears_then so_far.told (notice ∷ []) before heard after so_far.hears hears;
}

-- what is told of items, and of more
notices-append : (items more : List Item) (run : Run)
    → received_in run (items ++ more) ≡ received_in run items ++ received_in (after_items run items) more
notices-append [] more run = refl
notices-append (item ∷ items) more run =
    ap (λ (notices : List Received). received_of run item ++ notices) (notices-append items more (after_item run item))
    ∙ sym (append_assoc (received_of run item) (received_in (after_item run item) items)
    (received_in (after_items (after_item run item) items) more))

-- a host that was led on
module _ (items more : List Item) (packets : List Octets) (old mid : HostModel) (leads : Refines items packets old mid) where
  pub hears_more : (before between after : Option (List Received)) → HearsOf items old before between → HearsOf more mid between after
      → HearsOf (items ++ more) old before after
  unfolding run
  hears_more before between after first second start input sent is =
      let notices : List Received = received_in (run start (input ++ items)) more in
      subst (λ (notices : List Received). Hears notices before after)
      (ap (λ (then_on : Run). received_in (run start input) items ++ received_in then_on more) (items_append (run_at_start start) input items)
      ∙ sym (notices-append items more (run start input)))
      (hears_then (received_in (run start input) items) notices before between after (first start input sent is)
      (second start (input ++ items) (sent ++ packets) (leads start input sent is)))

-- nothing is told
pub hears_nothing : (host : HostModel) (known : Option (List Received)) → HearsOf [] host known known
hears_nothing host known start input sent is = hears_none known

-- what a host brought a listener
pub hears_received : (items : List Item) (old new : HostModel) (before after : Option (List Received)) → ReceivesOfAll items old new
    → Hears (received_told new) before after → HearsOf items old before after
hears_received items old new before after receives hears start input sent is =
    subst (λ (received : List Received). Hears received before after) (receives start input sent is) hears

-- one that has stopped tells nothing of what follows
stopped-hears : (items : List Item) (host : HostModel) (fault : HostFault) (known : Option (List Received)) → host.fault ≡ Some fault
    → is_own_fault fault ≡ false
    → HearsOf items host known known
stopped-hears items host fault known stopped other start input sent is =
    by (run start input).intake.fault refl
    (subst (λ (refines : Option HostFault). SameFault (run start input).intake.fault refines) stopped is.same)
  where
    by : (why : Option Fault) → (run start input).intake.fault ≡ why → SameFault (run start input).intake.fault (Some fault)
        → Hears (received_in (run start input) items) known known
    by None none same = absurd (clash (sym other ∙ subst (λ (why : Option Fault). SameFault why (Some fault)) none same))
    by (Some why) there same =
        subst (λ (notices : List Received). Hears notices known known) (sym (stopped_silent received_of_event (run start input) why items there))
        (hears_none known)

-- by the fault that stands then
pub listens_by : (items : List Item) (old new : HostModel) (before after : Option (List Received)) (found : Option HostFault) (fault : HostFault)
    → found ≡ Some fault
    → is_own_fault fault ≡ false → HearsOf items old before after → Listens items old new found before after
listens_by items old new before after found fault is other hears =
    subst (λ (found : Option HostFault). Listens items old new found before after) (sym is) (by-fault fault other)
  where
    by-fault : (fault : HostFault) → is_own_fault fault ≡ false → Listens items old new (Some fault) before after
    by-fault (stop.Desync indicator) other = hears
    by-fault (stop.BadEvent code) other = hears
    by-fault (stop.Init why) other = hears
    by-fault (stop.Hardware code) other = hears
    by-fault stop.Read other = absurd (clash (sym other))
    by-fault stop.Write other = absurd (clash (sym other))
    by-fault stop.Turns other = absurd (clash (sym other))

-- no fault stands
pub going_hears : (items : List Item) (old new : HostModel) (before after : Option (List Received)) (found : Option HostFault) → found ≡ None
    → Listens items old new found before after → HearsOf items old before after
going_hears items old new before after found none listens =
    subst (λ (found : Option HostFault). Listens items old new found before after) none listens

pub listens_going : (items : List Item) (old new : HostModel) (before after : Option (List Received)) (found : Option HostFault) → found ≡ None
    → HearsOf items old before after → Listens items old new found before after
listens_going items old new before after found none hears =
    subst (λ (found : Option HostFault). Listens items old new found before after) (sym none) hears

-- the writer fails behind items that were taken in and heard of
pub none_taken : (taken left : List Item) → [] ≡ taken ++ left → taken ≡ []
none_taken [] left is = refl
none_taken (item ∷ taken) left is = cc is

pub breaks_heard : (items more : List Item) (packets : List Octets) (old mid new : HostModel) (between after : Option Octets)
    (before heard : Option (List Received))
    (found : Option HostFault) → found ≡ Some stop.Write → Refines items packets old mid → HearsOf items old before heard
    → Feeds [] mid new between after found → Listens (items ++ more) old new found before heard
breaks_heard items more packets old mid new between after before heard found is leads hears feeds =
    subst (λ (found : Option HostFault). Listens (items ++ more) old new found before heard) (sym is)
    (broken (subst (λ (found : Option HostFault). Feeds [] mid new between after found) is feeds))
  where
    broken : BreaksOff [] mid new between after → HearsTheFront (items ++ more) old new before heard
    broken breaks = record {
      taken = items;
      left = more;
      parts = refl;
      packets = packets ++ breaks.packets;
      refines = subst (λ (all : List Item). Refines all (packets ++ breaks.packets) old new) (append-nil items)
          (leads_on items [] packets breaks.packets old mid new leads
          (subst (λ (taken : List Item). Refines taken breaks.packets mid new) (none_taken breaks.taken breaks.left breaks.parts) breaks.refines));
      heard = hears;
    }

-- items that were heard of, and then more
pub listens_then : (items more : List Item) (packets : List Octets) (old mid new : HostModel) (before between after : Option (List Received))
    (fault : Option HostFault)
    → Refines items packets old mid → HearsOf items old before between → Listens more mid new fault between after
    → Listens (items ++ more) old new fault before after
listens_then items more packets old mid new before between after None leads first second =
    hears_more items more packets old mid leads before between after first second
listens_then items more packets old mid new before between after (Some (stop.Desync indicator)) leads first second =
    hears_more items more packets old mid leads before between after first second
listens_then items more packets old mid new before between after (Some (stop.BadEvent code)) leads first second =
    hears_more items more packets old mid leads before between after first second
listens_then items more packets old mid new before between after (Some (stop.Init why)) leads first second =
    hears_more items more packets old mid leads before between after first second
listens_then items more packets old mid new before between after (Some (stop.Hardware code)) leads first second =
    hears_more items more packets old mid leads before between after first second
listens_then items more packets old mid new before between after (Some stop.Read) leads first second =
    hears_more items more packets old mid leads before between after first second
listens_then items more packets old mid new before between after (Some stop.Turns) leads first second =
    hears_more items more packets old mid leads before between after first second
listens_then items more packets old mid new before between after (Some stop.Write) leads first second = record {
  taken = items ++ second.taken;
  left = second.left;
  parts = ap (λ (all : List Item). items ++ all) second.parts ∙ sym (append_assoc items second.taken second.left);
  packets = packets ++ second.packets;
  refines = leads_on items second.taken packets second.packets old mid new leads second.refines;
  heard = hears_more items second.taken packets old mid leads before between after first second.heard;
}

-- one that stops at them tells nothing of what follows
pub listens_past : (items more : List Item) (old new : HostModel) (server holds : Option Octets) (before after : Option (List Received)) (fault : HostFault)
    → new.fault ≡ Some fault → is_of_feeding fault ≡ true → Feeds items old new server holds (Some fault) → Listens items old new (Some fault) before after
    → Listens (items ++ more) old new (Some fault) before after
listens_past items more old new server holds before after (stop.Desync indicator) stopped comes feeds listens =
    hears_more items more feeds.packets old new feeds.refines before after after listens (stopped-hears more new (stop.Desync indicator) after stopped refl)
listens_past items more old new server holds before after (stop.BadEvent code) stopped comes feeds listens =
    hears_more items more feeds.packets old new feeds.refines before after after listens (stopped-hears more new (stop.BadEvent code) after stopped refl)
listens_past items more old new server holds before after (stop.Init why) stopped comes feeds listens =
    hears_more items more feeds.packets old new feeds.refines before after after listens (stopped-hears more new (stop.Init why) after stopped refl)
listens_past items more old new server holds before after (stop.Hardware code) stopped comes feeds listens =
    hears_more items more feeds.packets old new feeds.refines before after after listens (stopped-hears more new (stop.Hardware code) after stopped refl)
listens_past items more old new server holds before after stop.Read stopped comes feeds listens = absurd (clash comes)
listens_past items more old new server holds before after stop.Turns stopped comes feeds listens = absurd (clash comes)
listens_past items more old new server holds before after stop.Write stopped comes feeds listens = record {
  taken = listens.taken;
  left = listens.left ++ more;
  parts = ap (λ (all : List Item). all ++ more) listens.parts ∙ append_assoc listens.taken listens.left more;
  packets = listens.packets;
  refines = listens.refines;
  heard = listens.heard;
}

pub past_heard : (items more : List Item) (old new : HostModel) (server holds : Option Octets) (before after : Option (List Received)) (fault : HostFault)
    → new.fault ≡ Some fault → is_of_feeding fault ≡ true → Feeds items old new server holds new.fault → Listens items old new new.fault before after
    → Listens (items ++ more) old new new.fault before after
past_heard items more old new server holds before after fault stopped comes feeds listens =
    subst (λ (found : Option HostFault). Listens (items ++ more) old new found before after) (sym stopped)
    (listens_past items more old new server holds before after fault stopped comes
    (subst (λ (found : Option HostFault). Feeds items old new server holds found) stopped feeds)
    (subst (λ (found : Option HostFault). Listens items old new found before after) stopped listens))

-- of octets all but the rest is taken in and heard of
pub record HasHeard (octets rest : Octets) (old new : HostModel) (server holds : Option Octets) (before after : Option (List Received)) : Type 0 where
  pub has : HasTaken octets rest old new server holds
  pub heard : HearsOf (octet_items has.taken) old before after

pub heard_none : (octets : Octets) (old new : HostModel) (server holds : Option Octets) (known : Option (List Received)) → TakesAll [] old new server holds
    → HasHeard octets octets old new server holds known known
heard_none octets old new server holds known takes = record {
  has = taken_none octets old new server holds takes;
  heard = hears_nothing old known;
}

module _ (octets rest : Octets) (used : ℕ) (old at mid new : HostModel) (server between holds : Option Octets) (before heard after : Option (List Received))
    (so_far : HasHeard octets rest old at server between before heard) (none : at.fault ≡ None)
    (leads : Refines (octet_items (take used rest)) [] at mid) (tells : TellsOfAll (octet_items (take used rest)) at mid)
    (up_to : TakesUpToAPacket rest used at) (hears : Hears (received_told mid) heard after) where
  heard-on : HearsOf (octet_items (so_far.has.taken ++ take used rest)) old before after
  heard-on =
      subst (λ (items : List Item). HearsOf items old before after) (sym (items_append_octets so_far.has.taken (take used rest)))
      (hears_more (octet_items so_far.has.taken) (octet_items (take used rest)) so_far.has.takes.packets old at so_far.has.takes.refines before heard after
      so_far.heard
      (hears_received (octet_items (take used rest)) at mid heard after (octets_received rest used at mid none leads tells up_to) hears))

  abbrev taken-on : HasTaken octets (drop used rest) old mid server between
  taken-on = taken_silently octets rest used old at mid server between so_far.has leads

  pub heard_then : TakesAll [] mid new between holds → HasHeard octets (drop used rest) old new server holds before after
  heard_then takes = record { has = taken_then octets (drop used rest) old mid new server between holds taken-on takes; heard = heard-on }

  -- the writer fails
  pub heard_breaks : (found : Option HostFault) → found ≡ Some stop.Write → Feeds [] mid new between holds found
      → Listens (octet_items octets) old new found before after
  heard_breaks found is feeds =
      subst (λ (items : List Item). Listens items old new found before after) (sym (all_items octets taken-on.taken (drop used rest) taken-on.parts))
      (breaks_heard (octet_items taken-on.taken) (octet_items (drop used rest)) taken-on.takes.packets old mid new between holds before after found is
      taken-on.takes.refines heard-on feeds)

-- the host stops at a packet
pub heard_stops : (octets rest : Octets) (old at new : HostModel) (server holds : Option Octets) (before after : Option (List Received))
    (found : Option HostFault) (fault : HostFault)
    → HasHeard octets rest old at server holds before after → at.fault ≡ None → TellsOfAll (octet_items rest) at new → new.fault ≡ Some fault
    → found ≡ Some fault → is_own_fault fault ≡ false → Listens (octet_items octets) old new found before after
heard_stops octets rest old at new server holds before after found fault so_far none tells stopped is other =
    listens_by (octet_items octets) old new before after found fault is other
    (subst (λ (items : List Item). HearsOf items old before after) (sym (all_items octets so_far.has.taken rest so_far.has.parts))
    (hears_more (octet_items so_far.has.taken) (octet_items rest) so_far.has.takes.packets old at so_far.has.takes.refines before after after so_far.heard
    (hears_received (octet_items rest) at new after after (stopped_received (octet_items rest) at new none tells silent)
    (subst (λ (notices : List Notice). Hears (map (received_with new.server.table) notices) after after) (sym silent) (hears_none after)))))
  where
    silent : notices_told new ≡ []
    silent = ap (λ (fault : Option HostFault). if is_some fault then [] else last_notices new.server) stopped

-- all is taken in
pub heard_all : (octets rest : Octets) (old new : HostModel) (server holds : Option Octets) (before after : Option (List Received)) (found : Option HostFault)
    → HasHeard octets rest old new server holds before after → rest ≡ [] → found ≡ None → Listens (octet_items octets) old new found before after
heard_all octets rest old new server holds before after found so_far nothing none =
    listens_going (octet_items octets) old new before after found none
    (subst (λ (all : Octets). HearsOf (octet_items all) old before after)
    (sym (so_far.has.parts ∙ ap (λ (left : Octets). so_far.has.taken ++ left) nothing ∙ append-nil so_far.has.taken)) so_far.heard)
