use Rattle.att_words.proofs.Wording.{passed, passed_front}
use Rattle.att_words.proofs.worded.Worded.put.Goals as goal

pub returns-in_default-clause-worded : goal.returns-in_default-clause-worded
returns-in_default-clause-worded g c =
    passed c.pass.result c.args.octets.now _ _ _ c.pass.ensures.bound c.pass.ensures.octets

pub returns-in_default-clause-front : goal.returns-in_default-clause-front
returns-in_default-clause-front g c =
    passed_front c.pass.result c.args.octets.now _ _ _ c.pass.ensures.octets
