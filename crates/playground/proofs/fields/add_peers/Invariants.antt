use Rattle.std.proofs.Common.{◌≡◌, ◌++◌, drop}
use Rattle.std.specs.List.{flat_map}
use Rattle.playground.specs.Fields.{peer_data}
use Rattle.playground.proofs.fields.add_peers.Given as goal

-- what stands and what is left are all
abbrev pub invariant-loop-peer : goal.invariant-loop-peer
invariant-loop-peer l =
    l.text.items ++ flat_map (peer_data l.column) (drop l.peer-index l.peers) ≡ l.fn.text.items ++ flat_map (peer_data l.column) l.peers
