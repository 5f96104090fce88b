use Rattle.std.proofs.Common.{◌≡◌, ◌++◌, drop}
use Rattle.std.specs.List.{flat_map}
use Rattle.policy_words.specs.Legend.{peer_line}
use Rattle.policy_words.proofs.legend.add_peers.Given as goal

-- what stands and what is left are all
abbrev pub invariant-loop-peer : goal.invariant-loop-peer
invariant-loop-peer l =
    l.text.items ++ flat_map (peer_line l.keys l.columns l.kinds l.name) (drop l.peer-index l.peers)
    ≡ l.fn.text.items ++ flat_map (peer_line l.keys l.columns l.kinds l.name) l.peers
