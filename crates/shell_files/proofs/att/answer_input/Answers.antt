use Rattle.std.proofs.Common.{◌<◌, length, refl, arith}
use Rattle.std.proofs.lemmas.Result.{on_ok_weaker}
use Rattle.shell_files.specs.declared.fault.ShellFault.TheVariants.{NotHex, Unwritten}
use Rattle.shell_files.proofs.Sessions.{same_fault, has_read_none, has_read_more, has_read_nothing, has_read_kept, answers_input, refuses_input, prints_front, breaks_input, breaks_end}
use Rattle.shell_files.proofs.att.answer_input.Goals as goal
use Rattle.shell_files.proofs.att.answer_input.Goals.{in-Ok+in_ok-take_and_write_out-in-Ok, in-Err}

pub returns-in-Ok-eq0-clause-ok : goal.returns-in-Ok-eq0-clause-ok
returns-in-Ok-eq0-clause-ok g c =
    let read = rw c.in-Ok-eq0.is at c.read.ensures.bytes in
    let so_far = has_read_nothing _ _ _ _ _ _ _ _ _ c.loop-read.invariant.so_far c.in-Ok-eq0.field-0-test read.0 in
    let room : 0 < length c.read.new.buf = omega arith in
    on_ok_weaker c.finish.result
    (λ ends. answers_input _ _ _ _ _ _ _ _ c.requires so_far (read.1 c.in-Ok-eq0.field-0-test room) ends refl)
    c.finish.ensures.ends

pub returns-in-Ok-eq0-clause-not_hex : goal.returns-in-Ok-eq0-clause-not_hex
returns-in-Ok-eq0-clause-not_hex g c number h =
    let read = rw c.in-Ok-eq0.is at c.read.ensures.bytes in
    let so_far = has_read_nothing _ _ _ _ _ _ _ _ _ c.loop-read.invariant.so_far c.in-Ok-eq0.field-0-test read.0 in
    let room : 0 < length c.read.new.buf = omega arith in
    answers_input _ _ _ _ _ _ _ _ c.requires so_far (read.1 c.in-Ok-eq0.field-0-test room) (c.finish.ensures.stops number h) refl

pub returns-in_err-take_and_write_out-in-Ok-clause-not_hex : goal.returns-in_err-take_and_write_out-in-Ok-clause-not_hex
returns-in_err-take_and_write_out-in-Ok-clause-not_hex g c number h =
    let said = same_fault c.take_and_write_out.result c.from_residual.result _ (NotHex number) c.in_err-take_and_write_out-in-Ok.was c.from_residual.ensures.1 h
    in
    let read = rw c.in-Ok.is at c.read.ensures.bytes in
    refuses_input _ _ _ _ _ _ _ _ _ _ c.requires c.loop-read.invariant.so_far read.0 (c.take_and_write_out.ensures.stops number said)

pub loop-read-init : goal.loop-read-init
loop-read-init g c = record {
  so_far = has_read_none _ _ _;
  counts = omega (arith, c.requires.number);
}

pub loop-read-preserved : goal.loop-read-preserved
loop-read-preserved g c = record {
  so_far = elim c.match-read.branch [
    | in-Ok+in_ok-take_and_write_out-in-Ok w ↦
        let read = rw w.in-Ok.is at c.read.ensures.bytes in
        rw (w.session-is, w.writer-is) (has_read_more _ _ _ _ _ _ _ _ _ _ c.loop-read.invariant.so_far read.0 w.in_ok-take_and_write_out-in-Ok.ensures.passes)
    | in-Err w ↦
        let kept = rw w.in-Err.is at c.read.ensures.bytes in
        rw (w.session-is, w.writer-is) (has_read_kept _ _ _ _ _ _ _ c.loop-read.invariant.so_far kept)
  ];
  counts = elim c.match-read.branch [
    | in-Ok+in_ok-take_and_write_out-in-Ok w ↦
        let read = rw w.in-Ok.is at c.read.ensures.bound in
        let counts = w.in_ok-take_and_write_out-in-Ok.ensures.counts in
        rw w.session-is (omega arith)
    | in-Err w ↦ rw w.session-is (omega arith)
  ];
}

pub returns-in-Err-2-clause-unreadable : goal.returns-in-Err-2-clause-unreadable
returns-in-Err-2-clause-unreadable g c _ =
    let kept = rw c.in-Err-2.is at c.read.ensures.bytes in
    prints_front _ _ _ _ _ _ c.requires (has_read_kept _ _ _ _ _ _ _ c.loop-read.invariant.so_far kept)

pub returns-clause-unreadable : goal.returns-clause-unreadable
returns-clause-unreadable g c _ = prints_front _ _ _ _ _ _ c.requires c.loop-read.invariant.so_far

pub returns-in-Ok-eq0-clause-unwritten : goal.returns-in-Ok-eq0-clause-unwritten
returns-in-Ok-eq0-clause-unwritten g c h =
    let read = rw c.in-Ok-eq0.is at c.read.ensures.bytes in
    let so_far = has_read_nothing _ _ _ _ _ _ _ _ _ c.loop-read.invariant.so_far c.in-Ok-eq0.field-0-test read.0 in
    let room : 0 < length c.read.new.buf = omega arith in
    breaks_end _ _ _ _ _ _ _ c.requires so_far (read.1 c.in-Ok-eq0.field-0-test room) (c.finish.ensures.breaks_off h)

pub returns-in_err-take_and_write_out-in-Ok-clause-unwritten : goal.returns-in_err-take_and_write_out-in-Ok-clause-unwritten
returns-in_err-take_and_write_out-in-Ok-clause-unwritten g c h =
    let said = same_fault c.take_and_write_out.result c.from_residual.result _ Unwritten c.in_err-take_and_write_out-in-Ok.was c.from_residual.ensures.1 h in
    let read = rw c.in-Ok.is at c.read.ensures.bytes in
    breaks_input _ _ _ _ _ _ _ _ _ c.requires c.loop-read.invariant.so_far read.0 (c.take_and_write_out.ensures.breaks_off said)
