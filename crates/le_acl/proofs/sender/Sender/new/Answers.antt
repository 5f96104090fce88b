use Rattle.le_acl.proofs.Histories.{follows_history}
use Rattle.le_acl.proofs.sender.Sender.new.Goals as goal

pub returns-in_err-new-clause-history : goal.returns-in_err-new-clause-history
returns-in_err-new-clause-history c = follows_history c.args.share c.args.acl_len

pub returns-clause-history : goal.returns-clause-history
returns-clause-history c = follows_history c.args.share c.args.acl_len
