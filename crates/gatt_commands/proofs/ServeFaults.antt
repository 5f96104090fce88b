-- What may end the serving before the host is open, or once it is, may end it.
use Rattle.std.proofs.Common.{◌≡◌, sym, subst}
use Rattle.std.specs.Prelude.{Result, Ok, Err, IfErr, IsErrAnd}
use Rattle.shell_files.specs.declared.fault.ShellFault.{ShellFault}
use Rattle.shell_files.specs.declared.fault.ShellFault.TheVariants.{Table, Keys, Rows, Next, Script, Host, Controller, TooLong, NotHex, Unreadable, Unwritten, Listen, Memory}
use Rattle.gatt_commands.specs.Serving.{IsOpeningFault, IsServeFault, IsServedFault}

served : (fault : ShellFault) → IsServedFault fault → IsServeFault fault
served (Host number) is = is
served Unwritten is = is
served Listen is = is
served (Table number) is = absurd is
served (Keys number) is = absurd is
served (Rows number) is = absurd is
served (Next number) is = absurd is
served (Script line) is = absurd is
served (Controller number) is = absurd is
served TooLong is = absurd is
served (NotHex line) is = absurd is
served Unreadable is = absurd is
served Memory is = absurd is

pub served_at_all : (result : Result Unit ShellFault) → IfErr result IsServedFault → IfErr result IsServeFault
served_at_all (Ok done) is = is
served_at_all (Err fault) is = served fault is

opening : (fault : ShellFault) → IsOpeningFault fault → IsServeFault fault
opening (Table number) is = is
opening (Keys number) is = is
opening (Rows number) is = is
opening Unreadable is = is
opening Memory is = is
opening (Host number) is = absurd is
opening (Next number) is = absurd is
opening (Script line) is = absurd is
opening (Controller number) is = absurd is
opening TooLong is = absurd is
opening (NotHex line) is = absurd is
opening Unwritten is = absurd is
opening Listen is = absurd is

-- what refuses the host that is opened, as it is passed on
pub opening_at_all : (outer : Result Unit ShellFault) (fault : ShellFault)
    → IsErrAnd outer (λ passed_on. passed_on ≡ fault) → IsOpeningFault fault → IfErr outer IsServeFault
opening_at_all (Ok done) fault was refusal = absurd was
opening_at_all (Err passed_on) fault was refusal = subst IsServeFault (sym was) (opening fault refusal)
