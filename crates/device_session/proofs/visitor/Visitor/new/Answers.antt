use Rattle.device_session.proofs.Visits.{claims_rightly, leaves_in_time, wakes_in_time}
use Rattle.device_session.proofs.visitor.Visitor.new.Goals as goal

pub returns-clause-place : goal.returns-clause-place
returns-clause-place c = claims_rightly

pub returns-clause-in_time : goal.returns-clause-in_time
returns-clause-in_time c = leaves_in_time

pub returns-clause-wakes : goal.returns-clause-wakes
returns-clause-wakes c = wakes_in_time
