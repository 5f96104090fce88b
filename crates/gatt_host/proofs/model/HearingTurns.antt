-- What is heard of inputs, and of what a reader gives turn by turn.
use Rattle.std.proofs.Common.{◌≡◌, ℕ, ◌+◌, ◌<◌, ◌≤◌, true, false, List, [], ◌++◌, drop, get_or, length, Option, Some, None, sym, ap, subst, ◌∙◌, append-nil}
use Rattle.std.proofs.KnownBytes.{Consumes-kept, Consumes-trans}
use Rattle.std.specs.Io.KnownBytes.{Consumes, Keeps}
use Rattle.gatt_host.proofs.owing.Nexts.{clash}
use Rattle.gatt_host.proofs.model.Driving.{HasDriven, driven_more, next_parts}
use Rattle.gatt_host.proofs.model.Feeds.{feeds_then, items_append_octets}
use Rattle.gatt_host.proofs.model.Hearing.{hears_more, hears_nothing, listens_going, listens_then, none_taken, past_heard}
use Rattle.gatt_host.proofs.model.Serving.{HasServed, served_more, served_none}
use Rattle.gatt_host.specs.declared.driving.Input.{Input}
use Rattle.gatt_host.specs.declared.host_fault.HostFault.{HostFault}
use Rattle.gatt_host.specs.declared.host_fault.HostFault.TheVariants as stop
use Rattle.gatt_host.specs.Feeding.{CountsRefused, Feeds, TakesAll, is_of_feeding, input_items, is_write_fault, items_of, octet_items}
use Rattle.gatt_host.specs.Listening.{HearsOf, Listens, ListensServing}
use Rattle.gatt_host.specs.HostModel.{HostModel}
use Rattle.gatt_laws.specs.machine.Input.{Item}
use Rattle.gatt_laws.specs.machine.Notice.{Received}
use Rattle.octet_io.specs.Number.{Octets}

-- what is owed is written, and nothing is taken in
pub nothing_heard : (old new : HostModel) (server holds : Option Octets) (known : Option (List Received)) (found : Option HostFault)
    → Feeds [] old new server holds found
    → Listens [] old new found known known
nothing_heard old new server holds known None feeds = hears_nothing old known
nothing_heard old new server holds known (Some (stop.Desync indicator)) feeds = hears_nothing old known
nothing_heard old new server holds known (Some (stop.BadEvent code)) feeds = hears_nothing old known
nothing_heard old new server holds known (Some (stop.Init why)) feeds = hears_nothing old known
nothing_heard old new server holds known (Some (stop.Hardware code)) feeds = hears_nothing old known
nothing_heard old new server holds known (Some stop.Read) feeds = hears_nothing old known
nothing_heard old new server holds known (Some stop.Turns) feeds = hears_nothing old known
nothing_heard old new server holds known (Some stop.Write) feeds = record {
  taken = feeds.taken;
  left = feeds.left;
  parts = feeds.parts;
  packets = feeds.packets;
  refines = feeds.refines;
  heard = subst (λ (taken : List Item). HearsOf taken old known known) (sym (none_taken feeds.taken feeds.left feeds.parts)) (hears_nothing old known);
}

-- of the inputs all but the rest are taken in and heard of
pub record HasDrivenTo (count : ℕ) (inputs rest : List Input) (old new : HostModel) (server holds : Option Octets) (before after : Option (List Received)) :
    Type 0 where
  pub driven : HasDriven count inputs rest old new server holds
  pub heard : HearsOf driven.items old before after

module _ (inputs : List Input) (index : ℕ) (last : Input) (within : index < length inputs) (count : ℕ) (old mid new : HostModel)
    (server between holds : Option Octets)
    (before heard after : Option (List Received)) (so_far : HasDrivenTo count inputs (drop index inputs) old mid server between before heard) where
  pub driven_to_more : (next : ℕ) → TakesAll (input_items (get_or inputs index last)) mid new between holds
      → CountsRefused next (input_items (get_or inputs index last)) mid
      → HearsOf (input_items (get_or inputs index last)) mid heard after
      → HasDrivenTo (count + next) inputs (drop (index + 1) inputs) old new server holds before after
  driven_to_more next takes counts hears = record {
    driven = driven_more inputs index last within count old mid new server between holds so_far.driven next takes counts;
    heard = hears_more so_far.driven.items (input_items (get_or inputs index last)) so_far.driven.takes.packets old mid so_far.driven.takes.refines before heard
        after so_far.heard hears;
  }

  -- the host stops at it
  pub driven_to_stops : (fault : HostFault) → new.fault ≡ Some fault → is_of_feeding fault ≡ true
      → Feeds (input_items (get_or inputs index last)) mid new between holds new.fault
      → Listens (input_items (get_or inputs index last)) mid new new.fault heard after
      → Listens (items_of inputs) old new new.fault before after
  driven_to_stops fault stopped comes feeds listens =
      let input : Input = get_or inputs index last in
      let items : List Item = so_far.driven.items in
      subst (λ (items : List Item). Listens items old new new.fault before after) (sym (next_parts inputs index last items within so_far.driven.parts))
      (past_heard (items ++ input_items input) (items_of (drop (index + 1) inputs)) old new server holds before after fault stopped comes
      (feeds_then items (input_items input) old mid new server between holds new.fault so_far.driven.takes feeds)
      (listens_then items (input_items input) so_far.driven.takes.packets old mid new before heard after new.fault so_far.driven.takes.refines so_far.heard
      listens))

-- all are taken in
pub driven_to_all : (count : ℕ) (inputs rest : List Input) (old new : HostModel) (server holds : Option Octets) (before after : Option (List Received))
    (found : Option HostFault)
    → rest ≡ [] → found ≡ None → HasDrivenTo count inputs rest old new server holds before after → Listens (items_of inputs) old new found before after
driven_to_all count inputs rest old new server holds before after found nothing none so_far =
    listens_going (items_of inputs) old new before after found none
    (subst (λ (items : List Item). HearsOf items old before after)
    (sym (so_far.driven.parts ∙ ap (λ (left : List Input). so_far.driven.items ++ items_of left) nothing ∙ append-nil so_far.driven.items)) so_far.heard)

-- so many turns gave octets that are taken in and heard of
pub record HasServedTo (turns : ℕ) (old new : HostModel) (remaining left server holds : Option Octets) (before after : Option (List Received)) : Type 0 where
  pub served : HasServed turns old new remaining left server holds
  pub heard : HearsOf (octet_items served.read) old before after

pub served_to_none : (old new : HostModel) (remaining server holds : Option Octets) (known : Option (List Received)) → TakesAll [] old new server holds
    → HasServedTo 0 old new remaining remaining server holds known known
served_to_none old new remaining server holds known takes = record {
  served = served_none old new remaining server holds takes;
  heard = hears_nothing old known;
}

module _ (turns : ℕ) (octets : Octets) (old mid new : HostModel) (remaining between left server middle holds : Option Octets)
    (before heard after : Option (List Received))
    (so_far : HasServedTo turns old mid remaining between server middle before heard) (consumed : Consumes between left octets) where
  pub served_to_more : 1 ≤ length octets → length octets ≤ 512 → TakesAll (octet_items octets) mid new middle holds
      → HearsOf (octet_items octets) mid heard after
      → HasServedTo (turns + 1) old new remaining left server holds before after
  served_to_more some most takes hears = record {
    served = served_more turns octets old mid new remaining between left server middle holds so_far.served consumed some most takes;
    heard = subst (λ (items : List Item). HearsOf items old before after) (sym (items_append_octets so_far.served.read octets))
        (hears_more (octet_items so_far.served.read) (octet_items octets) so_far.served.takes.packets old mid so_far.served.takes.refines before heard after
        so_far.heard hears);
  }

  -- the host stops at them
  pub breaks_serving : Listens (octet_items octets) mid new new.fault heard after → ListensServing old new remaining left before after
  breaks_serving listens = record {
    read = so_far.served.read ++ octets;
    consumed = Consumes-trans remaining between left so_far.served.read octets so_far.served.consumed consumed;
    listens = subst (λ (items : List Item). Listens items old new new.fault before after) (sym (items_append_octets so_far.served.read octets))
        (listens_then (octet_items so_far.served.read) (octet_items octets) so_far.served.takes.packets old mid new before heard after new.fault
        so_far.served.takes.refines so_far.heard listens);
  }

-- where the writer has not failed
not-broken : (items : List Item) (old new : HostModel) (before after : Option (List Received)) (found : Option HostFault) → is_write_fault found ≡ false
    → HearsOf items old before after → Listens items old new found before after
not-broken items old new before after None other hears = hears
not-broken items old new before after (Some (stop.Desync indicator)) other hears = hears
not-broken items old new before after (Some (stop.BadEvent code)) other hears = hears
not-broken items old new before after (Some (stop.Init why)) other hears = hears
not-broken items old new before after (Some (stop.Hardware code)) other hears = hears
not-broken items old new before after (Some stop.Read) other hears = hears
not-broken items old new before after (Some stop.Turns) other hears = hears
not-broken items old new before after (Some stop.Write) other hears = absurd (clash (sym other))

module _ (turns : ℕ) (old mid new : HostModel) (remaining between left server holds : Option Octets) (before after : Option (List Received))
    (found : Option HostFault)
    (refines : new.fault ≡ found) (other : is_write_fault found ≡ false) (so_far : HasServedTo turns old mid remaining between server holds before after) where
  stopped-serving : Consumes remaining left so_far.served.read → ListensServing old new remaining left before after
  stopped-serving consumed = record {
    read = so_far.served.read;
    consumed = consumed;
    listens = subst (λ (found : Option HostFault). Listens (octet_items so_far.served.read) old new found before after) (sym refines)
        (not-broken (octet_items so_far.served.read) old new before after found other so_far.heard);
  }

  -- the reader fails, or the turns are over
  pub stops_serving : Keeps between left → ListensServing old new remaining left before after
  stops_serving keeps = stopped-serving (Consumes-kept remaining between left so_far.served.read so_far.served.consumed keeps)

  -- the input ends
  pub ends_serving : Consumes between left [] → ListensServing old new remaining left before after
  ends_serving nothing =
      stopped-serving (subst (Consumes remaining left) (append-nil so_far.served.read)
      (Consumes-trans remaining between left so_far.served.read [] so_far.served.consumed nothing))
