-- One controller at a time, its faults, and the next one.
use Rattle.std.proofs.Common.{◌≡◌, ℕ, Bool, true, false, Option, Some, None, is_some, refl, sym, ap, subst, ◌∙◌}
use Rattle.std.specs.Prelude.{if◌then◌else◌, nat_lt}
use Rattle.std.specs.Option.{option_and_then, option_map}
use Rattle.octet_io.specs.Number.{Octets}
use Rattle.device_io.specs.declared.missed.Missed.{Missed}
use Rattle.device_io.specs.declared.served.Fault.{Fault}
use Rattle.device_io.specs.declared.served.Fault.TheVariants.{TooMuch}
use Rattle.device_io.specs.declared.served.Input.{Input}
use Rattle.device_io.specs.declared.served.Input.TheVariants.{Quiet, Readable, Ending, Over}
use Rattle.device_io.specs.declared.side.Side.{Side}
use Rattle.device_io.specs.declared.side.Side.TheVariants as variant
use Rattle.device_io.specs.Connector.{Attempt}
use Rattle.device_io.specs.Controller.{after_finish, after_notice, after_try, answered, is_answered_in, on_served, served_by, with_side}
use Rattle.device_io.specs.ControllerLaws.{Event, GivesUpForAFault, KeepsTheNext, ServesOne, fault_by, latest_fault, served_after, tries}
use Rattle.device_io.specs.ControllerLaws.Event.{Readies, Reads, Judges, Writes, Flushes, Announces, Initialises, LosesIt, Notes, Finishes, Tries}
use Rattle.device_io.specs.ControllerValue.{Controller}
use Rattle.device_io.specs.Served.{Served, after_acceptance, after_queuing, fault_in, has_room_for, input_after, is_late, lapse_of, ready_in, served_due, with_fault}
use Rattle.device_io.specs.Served.Sending.{Accepts, Fails, Refuses}

-- one controller
mapped : (change : Served → Served) (one : Side) → served_by (on_served change one) ≡ option_map change (served_by one)
mapped change (variant.Served served) = refl
mapped change (variant.Nobody missed) = refl
mapped change (variant.Next connecting missed) = refl

answers : (one : Side) → served_by (answered one) ≡ served_by one
answers (variant.Served served) = refl
answers (variant.Nobody missed) = refl
answers (variant.Next connecting missed) = refl

changed : (change : Served → Served) (one : Side) (served : Served) → served_by one ≡ Some served
    → served_by (on_served change one) ≡ Some (change served)
changed change one served is = mapped change one ∙ ap (option_map change) is

changed-answered : (change : Served → Served) (one : Side) (served : Served) → served_by one ≡ Some served
    → served_by (answered (on_served change one)) ≡ Some (change served)
changed-answered change one served is = answers (on_served change one) ∙ changed change one served is

abbrev side_of : Option Served → Side
side_of (Some served) = variant.Served served
side_of None = variant.Nobody None

served-side : (one : Side) (served : Served) → served_by one ≡ Some served → one ≡ variant.Served served
served-side (variant.Served found) served is = ap side_of is
served-side (variant.Nobody missed) served is = cc is
served-side (variant.Next connecting missed) served is = cc is

notes-on : (controller : Controller) (served : Served) (connects held : Bool) (now : ℕ)
    → served_by (after_notice connects held now (with_side (variant.Served served) controller)).side ≡ Some served
notes-on controller served connects true now = refl
notes-on controller served connects false now = refl

tries-on : (controller : Controller) (served : Served) (now : ℕ) (attempt : Attempt)
    → served_by (after_try attempt now (with_side (variant.Served served) controller)).side ≡ Some served
tries-on controller served now attempt = refl

serves-on : (change : Controller → Controller) (controller : Controller) (served : Served) → served_by controller.side ≡ Some served
    → served_by (change (with_side (variant.Served served) controller)).side ≡ Some served
    → served_by (change controller).side ≡ Some served
serves-on change controller served is = subst (λ (one : Side). served_by (change (with_side one controller)).side ≡ Some served) (sym (served-side controller.side served is))

pub serves_one : ServesOne
serves_one controller served (Readies ends) stays is = changed-answered (λ (before : Served). served_after controller.patience before (Readies ends)) controller.side served is
serves_one controller served (Reads room read) stays is = changed (λ (before : Served). served_after controller.patience before (Reads room read)) controller.side served is
serves_one controller served (Judges now) stays is = changed (λ (before : Served). served_after controller.patience before (Judges now)) controller.side served is
serves_one controller served (Writes octets now sending) stays is = changed (λ (before : Served). served_after controller.patience before (Writes octets now sending)) controller.side served is
serves_one controller served (Flushes now sending) stays is = changed-answered (λ (before : Served). served_after controller.patience before (Flushes now sending)) controller.side served is
serves_one controller served Announces stays is = changed (λ (before : Served). served_after controller.patience before Announces) controller.side served is
serves_one controller served Initialises stays is = changed (λ (before : Served). served_after controller.patience before Initialises) controller.side served is
serves_one controller served LosesIt stays is = cc stays
serves_one controller served (Notes connects held now) stays is = serves-on (after_notice connects held now) controller served is (notes-on controller served connects held now)
serves_one controller served (Finishes now failure) stays is = serves-on (after_finish now failure) controller served is refl
serves_one controller served (Tries now attempt) stays is = serves-on (after_try attempt now) controller served is (tries-on controller served now attempt)

-- faults
ready-fault : (ends : Bool) (input : Input) → fault_in (ready_in ends input) ≡ fault_in input
ready-fault ends (Over fault) = refl
ready-fault ends Ending = refl
ready-fault true Quiet = refl
ready-fault false Quiet = refl
ready-fault true Readable = refl
ready-fault false Readable = refl

short-fault : (short : Bool) → fault_in (if short then Quiet else Readable) ≡ None
short-fault true = refl
short-fault false = refl

read-fault : (room : ℕ) (read : Option ℕ) (input : Input) → fault_in (input_after room read input) ≡ fault_in input
read-fault room read (Over fault) = refl
read-fault room None Quiet = refl
read-fault room None Readable = refl
read-fault room None Ending = refl
read-fault room (Some count) Quiet = refl
read-fault room (Some count) Readable = short-fault (nat_lt count room)
read-fault room (Some count) Ending = refl

judged-fault : (late : Bool) (fault : Fault) (served : Served)
    → fault_in (if late then with_fault fault served else served).input ≡ latest_fault (if late then Some fault else None) (fault_in served.input)
judged-fault true fault served = refl
judged-fault false fault served = refl

written-fault : (fits : Bool) (octets : Octets) (now count : ℕ) (served : Served)
    → fault_in (if fits then after_acceptance count now (after_queuing octets now served) else with_fault TooMuch served).input
    ≡ latest_fault (if fits then None else Some TooMuch) (fault_in served.input)
written-fault true octets now count served = refl
written-fault false octets now count served = refl

fault-after : (patience : ℕ) (served : Served) (event : Event)
    → fault_in (served_after patience served event).input ≡ latest_fault (fault_by patience served event) (fault_in served.input)
fault-after patience served (Readies ends) = ready-fault ends served.input
fault-after patience served (Reads room read) = read-fault room read served.input
fault-after patience served (Judges now) = judged-fault (is_late (served_due patience served) now) (lapse_of served.progress) served
fault-after patience served (Writes octets now (Accepts count)) = written-fault (has_room_for octets served) octets now count served
fault-after patience served (Writes octets now (Fails count)) = written-fault (has_room_for octets served) octets now count served
fault-after patience served (Writes octets now Refuses) = refl
fault-after patience served (Flushes now (Accepts count)) = refl
fault-after patience served (Flushes now (Fails count)) = refl
fault-after patience served (Flushes now Refuses) = refl
fault-after patience served Announces = refl
fault-after patience served Initialises = refl
fault-after patience served LosesIt = refl
fault-after patience served (Notes connects held now) = refl
fault-after patience served (Finishes now failure) = refl
fault-after patience served (Tries now attempt) = refl

abbrev fault-in-any : Option Served → Option Fault
fault-in-any = option_and_then (λ (served : Served). fault_in served.input)

pub gives_up_for_a_fault : GivesUpForAFault
gives_up_for_a_fault controller served event stays is =
    ap fault-in-any (serves_one controller served event stays is)
    ∙ fault-after controller.patience served event
    ∙ ap (latest_fault (fault_by controller.patience served event)) (sym (ap fault-in-any is))

-- the next one
either : (test : Bool) (one two : Controller) → is_some one.next ≡ true → is_some two.next ≡ true
    → is_some (if test then one else two).next ≡ true
either true one two first second = first
either false one two first second = second

not-tried : (test : Bool) (one two : Controller) → test ≡ false → is_some two.next ≡ true → is_some (if test then one else two).next ≡ true
not-tried true one two is second = cc is
not-tried false one two is second = second

noticed : (connects : Bool) (found : Option ℕ) (next : Option ℕ) → is_some found ≡ true → is_some next ≡ true → is_some (if connects then found else next) ≡ true
noticed true found next first second = first
noticed false found next first second = second

finished : (now : ℕ) (failure : Option Missed) (controller : Controller) → is_some controller.next ≡ true
    → is_some (after_finish now failure controller).next ≡ true
finished now failure controller some = either (is_answered_in controller.side) _ controller refl some

pub keeps_the_next : KeepsTheNext
keeps_the_next controller (Readies ends) untried some = some
keeps_the_next controller (Reads room read) untried some = some
keeps_the_next controller (Judges now) untried some = some
keeps_the_next controller (Writes octets now sending) untried some = some
keeps_the_next controller (Flushes now sending) untried some = some
keeps_the_next controller Announces untried some = some
keeps_the_next controller Initialises untried some = some
keeps_the_next controller LosesIt untried some = some
keeps_the_next controller (Notes connects held now) untried some = noticed connects _ controller.next refl some
keeps_the_next controller (Finishes now failure) untried some = finished now failure controller some
keeps_the_next controller (Tries now attempt) untried some = not-tried (tries controller (Tries now attempt)) _ controller untried some
