use Rattle.att_writes.proofs.Lengths.{applied_both}
use Rattle.att_writes.proofs.Put.{stored_touched}
use Rattle.att_writes.proofs.PutBits.{row_touched}
use Rattle.att_writes.proofs.Untouched.{keeps_others}
use Rattle.att_writes.proofs.queue.Queue.new.Goals as goal

pub returns-in_err-with_capacity-clause-lengths : goal.returns-in_err-with_capacity-clause-lengths
returns-in_err-with_capacity-clause-lengths c = applied_both

pub returns-in_err-with_capacity-clause-others : goal.returns-in_err-with_capacity-clause-others
returns-in_err-with_capacity-clause-others c = keeps_others

pub returns-in_err-with_capacity-clause-stored : goal.returns-in_err-with_capacity-clause-stored
returns-in_err-with_capacity-clause-stored c = stored_touched

pub returns-in_err-with_capacity-clause-configured : goal.returns-in_err-with_capacity-clause-configured
returns-in_err-with_capacity-clause-configured c = row_touched

pub returns-in_err-vec-clause-lengths : goal.returns-in_err-vec-clause-lengths
returns-in_err-vec-clause-lengths c = applied_both

pub returns-in_err-vec-clause-others : goal.returns-in_err-vec-clause-others
returns-in_err-vec-clause-others c = keeps_others

pub returns-in_err-vec-clause-stored : goal.returns-in_err-vec-clause-stored
returns-in_err-vec-clause-stored c = stored_touched

pub returns-in_err-vec-clause-configured : goal.returns-in_err-vec-clause-configured
returns-in_err-vec-clause-configured c = row_touched

pub returns-clause-lengths : goal.returns-clause-lengths
returns-clause-lengths c = applied_both

pub returns-clause-others : goal.returns-clause-others
returns-clause-others c = keeps_others

pub returns-clause-stored : goal.returns-clause-stored
returns-clause-stored c = stored_touched

pub returns-clause-configured : goal.returns-clause-configured
returns-clause-configured c = row_touched
