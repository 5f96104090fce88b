-- The numbers of the faults of a table file (this profile's own).
use Rattle.std.specs.Prelude.{ℕ}
use Rattle.att_table.specs.declared.table_fault.TableFault.{TableFault}
use Rattle.att_table.specs.declared.table_fault.TableFault.TheVariants.{NotToml, Missing, BadUuid, BadHex, TooLong, BadSecurity, BadProperty, TooMany, BadInclude, OutOfMemory, Shape}

abbrev pub table_fault_number : TableFault → ℕ
table_fault_number NotToml = 1
table_fault_number (Missing _) = 2
table_fault_number BadUuid = 3
table_fault_number BadHex = 4
table_fault_number TooLong = 5
table_fault_number BadSecurity = 6
table_fault_number BadProperty = 7
table_fault_number TooMany = 8
table_fault_number BadInclude = 9
table_fault_number OutOfMemory = 10
table_fault_number Shape = 11
