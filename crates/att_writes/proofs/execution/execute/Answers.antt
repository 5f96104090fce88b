use Rattle.std.proofs.Common.{map, sym, ap, ◌∙◌, refl}
use Rattle.att_policy.specs.declared.policy.Access.TheVariants.{Write}
use Rattle.att_writes.specs.Applied.{applied_to}
use Rattle.att_writes.specs.Queue.{once_each, touched_by}
use Rattle.att_writes.proofs.Laid.{handles_laid}
use Rattle.att_writes.proofs.execution.execute.Goals as goal
use Rattle.att_writes.proofs.execution.execute.Goals.{in-Some, in-None}

pub returns-clause-touched : goal.returns-clause-touched
returns-clause-touched c =
    let row = c.args.row.now in
    let places = c.parts.result.0.now in
    let octets = c.parts.result.1.now in
    let same = ap (λ entries. applied_to Write c.args.table.now row c.args.standing.now entries) (sym c.parts.ensures.entries) in
    elim c.match-first_refused.branch [
      | in-Some w ↦
          ap (λ touched. touched.items) w.touched-is ∙ c.clear.ensures
          ∙ ap (touched_by c.args.queue.now) (sym (same ∙ w.in-Some.ensures.refused row))
      | in-None w ↦
          ap (λ touched. touched.items) w.touched-is ∙ w.touch_all.ensures
          ∙ ap once_each (sym (handles_laid places octets) ∙ ap (λ entries. map (λ entry. entry.handle) entries) c.parts.ensures.entries)
          ∙ ap (touched_by c.args.queue.now) (sym (same ∙ w.in-None.ensures.written refl row))
    ]
