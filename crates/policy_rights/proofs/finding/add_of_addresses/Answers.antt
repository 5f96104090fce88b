use Rattle.std.proofs.Common.{◌++◌, ◌<◌, List, [], length, arith, ap, ◌∙◌}
use Rattle.std.specs.Prelude.{slice_get, Option}
use Rattle.std.specs.Option.{option_map_or}
use Rattle.le_hci.specs.declared.peer.Peer.{Peer}
use Rattle.policy_rights.specs.declared.finding.Finding.{Finding}
use Rattle.policy_rights.specs.Findings.{address_findings, private_finding}
use Rattle.policy_rights.proofs.Added.{next_added}
use Rattle.policy_rights.proofs.Keyed.{of_peer}
use Rattle.policy_rights.proofs.finding.add_of_addresses.Goals as goal

pub loop-at-preserved : goal.loop-at-preserved
loop-at-preserved c =
    let keys = c.args.keys.now in
    let at = c.loop-at.at in
    let within : at < length keys = omega (arith, c.count-at-end.ensures.count, c.loop-at-test.true) in
    let findings : List Finding = c.loop-at.findings.items in
    next_added address_findings keys c.args.findings.now.items findings c.add_of_address.new.findings.items at
    within c.loop-at.invariant
    (c.in_ok-add_of_address.ensures.ok
    ∙ ap (λ (peer : Option Peer). findings ++ option_map_or private_finding peer []) c.peer.ensures
    ∙ ap (λ (added : List Finding). findings ++ added) (of_peer private_finding (slice_get keys at)))
