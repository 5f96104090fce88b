use Rattle.std.proofs.Common.{[], ◌∷◌, ◌∙◌, subst}
use Rattle.att_table.specs.Table.{Contents}
use Rattle.gatt_laws.specs.machine.Input.{ATable}
use Rattle.att_table.specs.file.TableFile.{table_in}
use Rattle.gihandop_c.specs.Boundary.{AnswersTable, OpenedRefines, TellsItem}
use Rattle.gihandop_c.proofs.Carried.{same_ok}
use Rattle.gihandop_c.proofs.Refusals.{table_not_refused, table_refused_for}
use Rattle.gihandop_c.proofs.asking.replace_by.Goals as goal

pub returns-in-Ok-clause-takes : goal.returns-in-Ok-clause-takes
returns-in-Ok-clause-takes c = λ contents read below asked.
    subst (λ (table : Contents). OpenedRefines (ATable table ∷ []) [] c.args.opened.now c.replace.new.opened)
    (same_ok (table_in c.args.file.now) c.in-Ok.tables.0 contents c.in-Ok.ensures.first read) (c.replace.ensures.takes asked)

pub returns-in-Ok-clause-tells : goal.returns-in-Ok-clause-tells
returns-in-Ok-clause-tells c = λ contents read below asked.
    subst (λ (table : Contents). TellsItem (ATable table) c.args.opened.now c.replace.new.opened)
    (same_ok (table_in c.args.file.now) c.in-Ok.tables.0 contents c.in-Ok.ensures.first read) (c.replace.ensures.tells asked)

pub returns-in-Ok-clause-answers : goal.returns-in-Ok-clause-answers
returns-in-Ok-clause-answers c = λ contents read enough asked.
    subst (λ (table : Contents). AnswersTable table c.replace.result c.args.opened.now)
    (same_ok (table_in c.args.file.now) c.in-Ok.tables.0 contents c.in-Ok.ensures.first read) (c.replace.ensures.answers asked)

pub returns-in-Ok-clause-initial : goal.returns-in-Ok-clause-initial
returns-in-Ok-clause-initial c = λ contents read done.
    c.replace.ensures.initial done ∙ same_ok (table_in c.args.file.now) c.in-Ok.tables.1 contents c.in-Ok.ensures.second read

-- a file that is accepted was not refused
pub returns-in-Err-clause-answers : goal.returns-in-Err-clause-answers
returns-in-Err-clause-answers c = λ contents read enough asked.
    absurd (table_not_refused (table_in c.args.file.now) contents c.in-Err.status c.in-Err.ensures.status read enough)

pub returns-in-Err-clause-stopped : goal.returns-in-Err-clause-stopped
returns-in-Err-clause-stopped c = λ contents read enough stopped.
    absurd (table_not_refused (table_in c.args.file.now) contents c.in-Err.status c.in-Err.ensures.status read enough)

pub returns-in-Err-clause-file : goal.returns-in-Err-clause-file
returns-in-Err-clause-file c = λ fault refused enough asked.
    table_refused_for (table_in c.args.file.now) fault c.in-Err.status c.in-Err.ensures.status refused enough
