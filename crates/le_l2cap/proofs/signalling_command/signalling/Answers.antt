use Rattle.std.proofs.Common.{sym, ◌∙◌, arith, length, ◌-◌, slice_index_or, take, drop}
use Rattle.std.proofs.lemmas.Grind.{common_steps}
use Rattle.le_l2cap.proofs.signalling_command.signalling.Goals as goal

-- the command is the payload itself
pub returns-clause-rejected : goal.returns-clause-rejected
returns-clause-rejected c = record {
  code = slice_index_or c.args.payload.now 0 0;
  parameters = take (length c.args.payload.now - 4) (drop 4 c.args.payload.now);
  whole = grind (arith, common_steps);
  not_ignored = sym c.is_ignored.ensures ∙ c.if-is_ignored.false;
  not_zero = c.if-id-eq0.false;
}
