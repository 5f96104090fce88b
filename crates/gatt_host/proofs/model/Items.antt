-- A host that takes in one item stands where its run goes on.
use Rattle.std.proofs.Common.{◌≡◌, ◌≤◌, List, [], ◌∷◌, ◌++◌, length, Option, Some, None, refl, sym, ap, subst, ◌∙◌, append_assoc, append-nil, arith}
use Rattle.std.specs.Prelude.{true, is_some, ◌||◌}
use Rattle.gatt_host.proofs.asking.OfItsTable.{holds_what_is_of_its_table}
use Rattle.gatt_host.proofs.meaning.Drained.{drained_in}
use Rattle.gatt_host.proofs.meaning.Together.{slots_within}
use Rattle.gatt_host.specs.declared.host_fault.HostFault.{HostFault}
use Rattle.gatt_host.specs.GoingOut.{is_drained}
use Rattle.gatt_host.specs.ServerState.{open_slots}
use Rattle.gatt_host.specs.Meaning.{IsOfItsTable}
use Rattle.gatt_host.specs.HostModel.{all_out, is_own_fault, IsReached, Refines, SameFault, RefinesRun, Takes, HostModel}
use Rattle.gatt_laws.proofs.runs.Inputs.{continues}
use Rattle.gatt_laws.proofs.invariants.RowsOfTheTable.{always_has_rows_of_its_table}
use Rattle.gatt_laws.proofs.invariants.WaitingOfTheTable.{always_has_waiting_of_its_table}
use Rattle.gatt_laws.specs.machine.Input.{Run, Item, after_item, run, taken, unless_stopped}
use Rattle.gatt_laws.specs.machine.Packets.{Fault}
use Rattle.octet_io.specs.Number.{Octets}

-- where no fault stands at the host, none stands in the run
none-where : (why : Option Fault) (fault : Option HostFault) → fault ≡ None → SameFault why fault → why ≡ None
none-where None fault none same = refl
none-where (Some why) None none same = absurd same
none-where (Some why) (Some fault) none same = cc none

pub no_fault : (run : Run) (sent : List Octets) (host : HostModel) → host.fault ≡ None → RefinesRun run sent host → run.intake.fault ≡ None
no_fault run sent host none is = none-where run.intake.fault host.fault none is.same

-- an item leads on where it does in every run without a fault
abbrev pub TakesInCourse : Item → HostModel → HostModel → Type 0
TakesInCourse item old new = (run : Run) (sent : List Octets) → run.intake.fault ≡ None → RefinesRun run sent old → RefinesRun (taken run item) sent new

pub takes_item : (item : Item) (old new : HostModel) → old.fault ≡ None → TakesInCourse item old new → Takes item old new
unfolding after_item
takes_item item old new none takes start input sent is =
    let before : Run = run start input in
    let no_why = no_fault before sent old none is in
    subst (λ (packets : List Octets). RefinesRun (run start (input ++ item ∷ [])) packets new) (sym (append-nil sent))
    (subst (λ (after : Run). RefinesRun after sent new) (sym (continues start input item))
    (subst (λ (why : Option Fault). RefinesRun (unless_stopped why before (taken before item)) sent new) (sym no_why)
    (takes before sent no_why is)))

-- a host that goes on from where it was reached is reached too
pub reached_by : (items : List Item) (packets : List Octets) (old new : HostModel) → IsReached old → Refines items packets old new → IsReached new
reached_by items packets old new was leads = record {
  start = was.start;
  rows = was.rows;
  input = was.input ++ items;
  sent = was.sent ++ packets;
  refines = leads was.start was.input was.sent was.refines;
}

-- one call after another
pub leads_on : (items more : List Item) (packets others : List Octets) (old mid new : HostModel) → Refines items packets old mid → Refines more others mid new
    → Refines (items ++ more) (packets ++ others) old new
leads_on items more packets others old mid new first second start input sent is =
    let then_on : RefinesRun (run start ((input ++ items) ++ more)) ((sent ++ packets) ++ others) new =
    second start (input ++ items) (sent ++ packets) (first start input sent is) in
    subst (λ (all : List Octets). RefinesRun (run start (input ++ (items ++ more))) all new) (append_assoc sent packets others)
    (subst (λ (all : List Item). RefinesRun (run start all) ((sent ++ packets) ++ others) new) (append_assoc input items more) then_on)

-- nothing is taken in, and nothing goes out
pub leads_nowhere : (old new : HostModel) → new ≡ old → Refines [] [] old new
leads_nowhere old new same start input sent is =
    subst (λ (packets : List Octets). RefinesRun (run start (input ++ [])) packets new) (sym (append-nil sent))
    (subst (λ (items : List Item). RefinesRun (run start items) sent new) (sym (append-nil input))
    (subst (λ (host : HostModel). RefinesRun (run start input) sent host) (sym same) is))

-- what a host holds is of its table
pub is_of_its_table : (host : HostModel) → IsReached host → is_drained host.server.controller (open_slots host.server) ≡ true → IsOfItsTable host.server
is_of_its_table host reached drained =
    let at_run : Run = run reached.start reached.input in
    holds_what_is_of_its_table at_run host.server host.frames (drained_in at_run reached.sent host.server host.frames reached.refines.refines drained)
    (always_has_rows_of_its_table reached.start reached.input reached.rows) (always_has_waiting_of_its_table reached.start reached.input reached.rows)

-- each slot has a frame
pub frames_suffice : (host : HostModel) → IsReached host → length host.server.slots ≤ length host.frames.assembled
frames_suffice host reached =
    let at_run : Run = run reached.start reached.input in
    omega (
      arith,
      slots_within at_run.intake.state reached.refines.refines.owed host.server reached.refines.refines.refines,
      reached.refines.refines.together.enough,
    )

-- nothing is to go out, where all is out and no fault stands
pub drained_where : (host : HostModel) → host.fault ≡ None → all_out host ≡ true → is_drained host.server.controller (open_slots host.server) ≡ true
drained_where host none out =
    sym (ap (λ (fault : Option HostFault). is_some fault || is_drained host.server.controller (open_slots host.server)) none) ∙ out

pub none_unless : (fault : Option HostFault) → ((why : HostFault) → fault ≡ Some why → ⊥) → fault ≡ None
none_unless None never = refl
none_unless (Some why) never = absurd (never why refl)

-- a host that stops for a reason of its own stands where it stood
pub leads_stopped : (old : HostModel) (fault : HostFault) → old.fault ≡ None → is_own_fault fault ≡ true → Refines [] [] old (record old { fault = Some fault })
leads_stopped old fault none own start input sent is =
    let at_run : Run = run start input in
    let no_why = no_fault at_run sent old none is in
    let stopped : RefinesRun at_run sent (record old { fault = Some fault }) = record {
      refines = is.refines;
      same = subst (λ (why : Option Fault). SameFault why (Some fault)) (sym no_why) own;
      stream = is.stream;
    } in
    leads_nowhere (record old { fault = Some fault }) (record old { fault = Some fault }) refl start input sent stopped

-- by the parts of a host on which no fault stands, and the fault that stands then
pub leads_from : (old new : HostModel) (items : List Item) (fault : Option HostFault) → old.fault ≡ None → new.fault ≡ fault
    → Refines items [] (record old { fault = None }) (record new { fault = fault }) → Refines items [] old new
leads_from old new items fault none same leads =
    subst (λ (host : HostModel). Refines items [] host new) (λ i. record old { fault = sym none i })
    (subst (λ (host : HostModel). Refines items [] (record old { fault = None }) host) (λ i. record new { fault = sym same i }) leads)
