-- The laws that hold of all that a host takes in, and what goes out from its opening on.
use Rattle.std.proofs.Common.{◌≡◌, List, [], ◌++◌, Option, Some, None, refl, sym, subst, append-nil}
use Rattle.std.proofs.KnownBytes.{Appends-nil}
use Rattle.std.specs.Prelude.{IsSome}
use Rattle.std.specs.Io.KnownBytes.{Appends}
use Rattle.gatt_host.proofs.meaning.Drained.{all_sent}
use Rattle.gatt_host.proofs.model.Items.{drained_where, leads_nowhere}
use Rattle.gatt_host.specs.declared.host_fault.HostFault.{HostFault}
use Rattle.gatt_host.specs.declared.host_fault.HostFault.TheVariants as stop
use Rattle.gatt_host.specs.Feeding.{BreaksOff, Feeds, TakesAll, joined}
use Rattle.gatt_host.specs.Promises.{AreProcessed, ContinuesApart, ContinuesByThePolicy, ContinuesRuns, ContinuesWriting, GivesWhatIsDue, KeepsConnectionsApartIn, KeepsThePolicyIn, WritesApart, WritesByThePolicy, items_unless_stopped}
use Rattle.gatt_host.specs.HostModel.{Refines, RefinesRun, HostModel}
use Rattle.gatt_laws.specs.machine.Input.{Item, run}
use Rattle.gatt_laws.specs.machine.Start.{Start}
use Rattle.gatt_laws.proofs.notices.Telling as laws
use Rattle.gatt_laws.specs.laws.Telling.{TellsTheApplication}
use Rattle.gatt_theorems.proofs.InRuns.{keeps_connections_apart_in, keeps_the_policy_in}
use Rattle.gatt_theorems.proofs.Promise as promise
use Rattle.gatt_theorems.specs.Promise.{Promise}
use Rattle.octet_io.specs.Number.{Octets}

pub tells_the_application : TellsTheApplication
tells_the_application = laws.tells_the_application

pub keeps_its_promise : Promise
keeps_its_promise = promise.keeps_its_promise

-- a writer that does not fail leaves no item
all-of : (items : List Item) (fault : Option HostFault) → AreProcessed fault items items
all-of items None = refl
all-of items (Some (stop.Desync indicator)) = refl
all-of items (Some (stop.BadEvent code)) = refl
all-of items (Some (stop.Init why)) = refl
all-of items (Some (stop.Hardware code)) = refl
all-of items (Some stop.Read) = refl
all-of items (Some stop.Turns) = refl
all-of items (Some stop.Write) = ([], sym (append-nil items))

-- a law of every run holds in the one that a call continues
module _ (Law : Start → List Item → Type 0) (keeps : (start : Start) (input : List Item) → Law start input) where
  keeps-on : (items : List Item) (packets : List Octets) (old new : HostModel) → Refines items packets old new → ContinuesRuns Law items packets old new
  keeps-on items packets old new refines start input sent is =
      let reached : RefinesRun (run start (input ++ items)) (sent ++ packets) new = refines start input sent is in
      record { law = keeps start (input ++ items); reached = reached; rest = reached.refines.owed; front = reached.refines.all }

  module _ (items : List Item) (old new : HostModel) (before after : Option Octets) where
    taking : TakesAll items old new before after → ContinuesWriting Law items old new before after
    taking takes = record {
      processed = items;
      all = all-of items new.fault;
      packets = takes.packets;
      runs = keeps-on items takes.packets old new takes.refines;
      written = record {
        written = joined takes.packets;
        appended = takes.written;
        left = [];
        parts = sym (append-nil (joined takes.packets));
      };
    }

    breaking : new.fault ≡ Some stop.Write → BreaksOff items old new before after → ContinuesWriting Law items old new before after
    breaking fails breaks = record {
      processed = breaks.taken;
      all = subst (λ (fault : Option HostFault). AreProcessed fault items breaks.taken) (sym fails) (breaks.left, breaks.parts);
      packets = breaks.packets;
      runs = keeps-on breaks.taken breaks.packets old new breaks.refines;
      written = breaks.written;
    }

    feeding : (fault : Option HostFault) → new.fault ≡ fault → Feeds items old new before after fault → ContinuesWriting Law items old new before after
    feeding None is feeds = taking feeds
    feeding (Some (stop.Desync indicator)) is feeds = taking feeds
    feeding (Some (stop.BadEvent code)) is feeds = taking feeds
    feeding (Some (stop.Init why)) is feeds = taking feeds
    feeding (Some (stop.Hardware code)) is feeds = taking feeds
    feeding (Some stop.Read) is feeds = taking feeds
    feeding (Some stop.Turns) is feeds = taking feeds
    feeding (Some stop.Write) is feeds = breaking is feeds

  -- a host that had stopped does not change
  module _ (items : List Item) (old new : HostModel) (stopped : IsSome old.fault → new ≡ old) where
    stays : (fault : HostFault) → old.fault ≡ Some fault → ContinuesRuns Law [] [] old new
    stays fault is = keeps-on [] [] old new (leads_nowhere old new (stopped (subst (λ (found : Option HostFault). IsSome found) (sym is) refl)))

    continuing : (old.fault ≡ None → Refines items [] old new) → (fault : Option HostFault) → old.fault ≡ fault
        → ContinuesRuns Law (items_unless_stopped fault items) [] old new
    continuing takes None none = keeps-on items [] old new (takes none)
    continuing takes (Some fault) is = stays fault is

    writing : (before after : Option Octets) → (IsSome old.fault → after ≡ before) → (old.fault ≡ None → Feeds items old new before after new.fault)
        → (fault : Option HostFault) → old.fault ≡ fault → ContinuesWriting Law (items_unless_stopped fault items) old new before after
    writing before after silent feeds None none = feeding items old new before after new.fault refl (feeds none)
    writing before after silent feeds (Some fault) is = record {
      processed = [];
      all = all-of [] new.fault;
      packets = [];
      runs = stays fault is;
      written = record {
        written = [];
        appended = subst (λ (written : Option Octets). Appends before written []) (sym (silent (subst (λ (found : Option HostFault). IsSome found) (sym is) refl)))
            (Appends-nil before);
        left = [];
        parts = refl;
      };
    }

-- by what a call feeds
module _ (items : List Item) (old new : HostModel) (before after : Option Octets) where
  pub fed_by_the_policy : Feeds items old new before after new.fault → ContinuesWriting KeepsThePolicyIn items old new before after
  fed_by_the_policy feeds = feeding KeepsThePolicyIn keeps_the_policy_in items old new before after new.fault refl feeds

  pub fed_apart : Feeds items old new before after new.fault → ContinuesWriting KeepsConnectionsApartIn items old new before after
  fed_apart feeds = feeding KeepsConnectionsApartIn keeps_connections_apart_in items old new before after new.fault refl feeds

-- so each call does, unless the host had stopped
module _ (items : List Item) (old new : HostModel) (stopped : IsSome old.fault → new ≡ old) where
  pub continues_by_the_policy : (old.fault ≡ None → Refines items [] old new) → ContinuesByThePolicy items old new
  continues_by_the_policy takes = continuing KeepsThePolicyIn keeps_the_policy_in items old new stopped takes old.fault refl

  pub continues_apart : (old.fault ≡ None → Refines items [] old new) → ContinuesApart items old new
  continues_apart takes = continuing KeepsConnectionsApartIn keeps_connections_apart_in items old new stopped takes old.fault refl

  module _ (before after : Option Octets) (silent : IsSome old.fault → after ≡ before) (feeds : old.fault ≡ None → Feeds items old new before after new.fault)
    where
      pub writes_by_the_policy : WritesByThePolicy items old new before after
      writes_by_the_policy = writing KeepsThePolicyIn keeps_the_policy_in items old new stopped before after silent feeds old.fault refl

      pub writes_apart : WritesApart items old new before after
      writes_apart = writing KeepsConnectionsApartIn keeps_connections_apart_in items old new stopped before after silent feeds old.fault refl

pub gives_what_is_due : (start : Start) (opened : HostModel) → RefinesRun (run start []) [] opened → GivesWhatIsDue start opened
gives_what_is_due start opened refines items packets later leads =
    let there : RefinesRun (run start items) packets later = leads start [] [] refines in
    record {
      rest = there.refines.owed;
      front = there.refines.all;
      all = λ none out. all_sent (run start items) packets later.server later.frames there.refines (drained_where later none out);
      fault = there.same;
    }
