use Rattle.std.proofs.Common.{◌≡◌, drop, take}
use Rattle.std.specs.Prelude.{filter}
use Rattle.att_table.specs.Find.{handle_numbered, is_in_service, is_wanted, value_found}
use Rattle.att_table.specs.Table.{Contents, values_of}
use Rattle.att_table.proofs.find.find_value.Given as goal

-- The attributes that are left have the value with the number that is left.
abbrev pub invariant-loop-attr : goal.invariant-loop-attr
invariant-loop-attr l =
    let table : Contents = record { attributes = l.attributes; values = values_of l.values } in
    record {
      inside : l.is_inside ≡ is_in_service table l.service (take l.attr-index l.attributes);
      found :
          handle_numbered l.left (filter (is_wanted table l.service l.characteristic) (drop l.attr-index l.attributes))
          ≡ value_found table l.service l.characteristic l.number;
    }
