use Rattle.std.proofs.Common.{◌≡◌, drop}
use Rattle.std.specs.List.{find}
use Rattle.att_table.specs.Changer.{is_changer}
use Rattle.att_table.specs.Table.{Contents, values_of}
use Rattle.att_table.proofs.changer.changer_of.Given as goal

-- no attribute so far is one
abbrev pub invariant-loop-attr : goal.invariant-loop-attr
invariant-loop-attr l =
    let table : Contents = record { attributes = l.attributes; values = values_of l.values } in
    find (is_changer table) l.attributes ≡ find (is_changer table) (drop l.attr-index l.attributes)
