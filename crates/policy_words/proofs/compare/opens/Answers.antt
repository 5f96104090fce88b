use Rattle.std.proofs.Common.{◌≡◌, Bool, false, List, All, sym, ◌∙◌}
use Rattle.std.specs.Prelude.{IfOk, Result, Ok, Err}
use Rattle.att_table.specs.Table.{Contents}
use Rattle.le_security.specs.declared.entry.Entry.{Entry}
use Rattle.policy_words.specs.compare.Gains.{opens}
use Rattle.policy_words.specs.compare.Laws.{PermitsNoMore}
use Rattle.policy_words.specs.compare.Pairing.{pairs_of}
use Rattle.policy_words.proofs.NoMore.{permits_no_more}
use Rattle.policy_words.proofs.compare.opens.Goals as goal

by_result : {E : Type 0} (table other : Contents) (keys other_keys : List Entry) (result : Result Bool E)
    → IfOk result (λ is_open. is_open ≡ opens table keys other other_keys)
    → IfOk result (λ is_open. is_open ≡ false → All (PermitsNoMore table.attributes other.attributes) (pairs_of table other))
by_result table other keys other_keys (Ok is_open) exact = λ is. permits_no_more table other keys other_keys (sym exact ∙ is)
by_result table other keys other_keys (Err error) exact = exact

pub returns-clause-no_more : goal.returns-clause-no_more
returns-clause-no_more c =
    by_result c.args.table.now c.args.other.now c.args.keys.now c.args.other_keys.now c.any_opened.result c.any_opened.ensures
