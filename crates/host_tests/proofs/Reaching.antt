-- A turn leads a host on in its run, and nothing was sent before the first.
use Rattle.std.proofs.Common.{◌≡◌, List, [], ◌∷◌, ◌++◌, Option, Some, None, refl, sym, subst}
use Rattle.std.specs.Prelude.{IsSome}
use Rattle.device_loop.specs.declared.turn.Turn.{Turn}
use Rattle.device_loop.specs.Happenings.{HistoryEntry, Sent, Told}
use Rattle.device_loop.specs.Serving.{Known}
use Rattle.device_loop.specs.Turn.{SavedFirst, TakesATurn}
use Rattle.gatt_host.specs.declared.host_fault.HostFault.{HostFault}
use Rattle.gatt_host.specs.HostModel.{HostModel}
use Rattle.gatt_laws.specs.machine.Notice.{Received}
use Rattle.host_tests.specs.Reached.{IsInARun}
use Rattle.octet_io.specs.Number.{Octets}

none_there : (first rest : List HistoryEntry) (entry : HistoryEntry) → [] ≡ first ++ entry ∷ rest → ⊥
none_there [] rest entry is = cc is
none_there (other ∷ first) rest entry is = cc is

pub nothing_sent : SavedFirst []
nothing_sent = record {
  told = λ first rest is. absurd (none_there first rest Told is);
  sent = λ first rest octets is. absurd (none_there first rest (Sent octets) is);
}

pub turned : (turn : Turn) (old new : HostModel) (come comes : Known) (before after : Option Octets) (heard hears : Option (List Received))
    → TakesATurn turn old new come comes before after heard hears → (IsSome old.fault → new ≡ old) → IsInARun old → IsInARun new
turned turn old new come comes before after heard hears takes stopped is = by old.fault refl
  where
    by : (fault : Option HostFault) → old.fault ≡ fault → IsInARun new
    by None none =
        let serves = takes.serves none in
        record {
          start = is.start;
          input = is.input ++ serves.policy.processed;
          sent = is.sent ++ serves.policy.packets;
          refines = (serves.policy.runs is.start is.input is.sent is.refines).reached;
        }
    by (Some fault) some =
        subst IsInARun (sym (stopped (subst (λ (found : Option HostFault). IsSome found) (sym some) refl))) is
