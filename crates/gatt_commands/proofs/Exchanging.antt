-- One packet after another is handed over.
use Rattle.std.proofs.Common.{◌≡◌, ℕ, zero, suc, ◌+◌, ◌<◌, Bool, true, false, [], ◌∷◌, ◌++◌, take, drop, Option, Some, None, Result, Ok, Err, refl, sym, ap, subst, ◌∙◌, take-append-drop, arith}
use Rattle.std.specs.Prelude.{IsSome, not, ◌↔◌, OnOk}
use Rattle.std.specs.Option.{option_to_list}
use Rattle.std.proofs.lemmas.Grind.{common_steps}
use Rattle.gatt_host.specs.Answers.{lost_fault}
use Rattle.gatt_host.specs.declared.host_fault.HostFault.{HostFault}
use Rattle.gatt_host.specs.declared.host_fault.HostFault.TheVariants.{Desync}
use Rattle.gatt_host.specs.HostModel.{Refines, Takes, HostModel, all_out, fault_outcome}
use Rattle.gatt_laws.specs.machine.Input.{APacket}
use Rattle.le_h4.specs.declared.deframer.Fed.{Fed}
use Rattle.le_h4.specs.declared.deframer.H4Fault.{H4Fault}
use Rattle.le_h4.specs.declared.deframer.H4Fault.TheVariants as stream
use Rattle.le_h4.specs.Deframer.{Deframing, deframing_at_start, marks, still}
use Rattle.le_h4.specs.Division.{Division, before, division, lost}
use Rattle.le_h4.specs.Packet.{Packet}
use Rattle.octet_io.specs.Number.{Octets}
use Rattle.shell_files.specs.declared.fault.ShellFault.{ShellFault}
use Rattle.shell_files.specs.declared.fault.ShellFault.TheVariants as shell
use Rattle.gatt_commands.specs.Exchange.{ControllerAnswers, ExchangesTooMany, ExchangesUntil, Exchanges, HandsNext, HandsOver, HostGives, HostHears, HostStops, IsQuiet, NotesFirst, NotesTaken, Pair, StopsAtFirst, TakesFirst}
use Rattle.gatt_commands.specs.declared.notes.Notes.{Notes}
use Rattle.gatt_commands.specs.Notices.{NotesWhatIsTold}

-- what a fresh deframer has before it
fresh-still : (octets : Octets) → still deframing_at_start octets ≡ division octets
fresh-still [] = refl
fresh-still (octet ∷ octets) = grind (arith, common_steps)

-- octets of which it marks a packet begin with that
marked-first : (octets : Octets) (used : ℕ) (new : Deframing) (packet : Packet) → new.marked ≡ Some packet
    → ((rest : Octets) → still deframing_at_start (take used octets ++ rest) ≡ before (marks new) (still new rest))
    → division octets ≡ before (packet ∷ []) (still new (drop used octets))
marked-first octets used new packet is divided =
    ap division (sym (take-append-drop used octets)) ∙ sym (fresh-still (take used octets ++ drop used octets)) ∙ divided (drop used octets)
    ∙ ap (λ (marked : Option Packet). before (option_to_list marked) (still new (drop used octets))) is

none-answered : (kept : Option HostFault) → Ok tt ≡ fault_outcome kept → kept ≡ None
none-answered None is = refl
none-answered (Some fault) is = cc is

some-answered : (kept : Option HostFault) (fault : HostFault) → Err fault ≡ fault_outcome kept → kept ≡ Some fault
some-answered None fault is = cc is
some-answered (Some kept) fault is = cc is

none-before : (old new : HostModel) (kept : Option HostFault) → old.fault ≡ kept → (IsSome kept → new ≡ old) → new.fault ≡ None → old.fault ≡ None
none-before old new None is stopped going = is
none-before old new (Some fault) is stopped going = ap (λ (whole : HostModel). whole.fault) (sym (stopped refl)) ∙ going

hears-packet : (octets : Octets) (packet : Packet) (rest : Division) (result : Result (Unit {0}) HostFault) (old new : HostModel)
    → division octets ≡ before (packet ∷ []) rest → result ≡ fault_outcome new.fault
    → (old.fault ≡ None → Takes (APacket packet) old new) → (IsSome old.fault → new ≡ old) → HostHears octets result old new
hears-packet octets packet rest (Ok done) old new divides outcome takes stopped =
    let going = none-answered new.fault outcome in
    subst (λ (divided : Division). TakesFirst divided.packets divided.end old new) (sym divides)
    (record { takes = takes (none-before old new old.fault refl stopped going); going = going })
hears-packet octets packet rest (Err fault) old new divides outcome takes stopped =
    subst (λ (divided : Division). StopsAtFirst fault divided.packets divided.end old new) (sym divides)
    (record { takes = takes; stopped = stopped; fault_then = some-answered new.fault fault outcome })

pub hears_marked : (octets : Octets) (used : ℕ) (start new : Deframing) (packet : Packet) (result : Result (Unit {0}) HostFault) (old after : HostModel)
    → start ≡ deframing_at_start → new.marked ≡ Some packet
    → ((rest : Octets) → still start (take used octets ++ rest) ≡ before (marks new) (still new rest))
    → result ≡ fault_outcome after.fault
    → (old.fault ≡ None → Takes (APacket packet) old after) → (IsSome old.fault → after ≡ old) → HostHears octets result old after
hears_marked octets used start new packet result old after fresh is divided =
    let divides = subst (λ (first : Deframing). (rest : Octets) → still first (take used octets ++ rest) ≡ before (marks new) (still new rest)) fresh divided in
    hears-packet octets packet (still new (drop used octets)) result old after (marked-first octets used new packet is divides)

-- what is told of the packet is noted
pub noted_marked : (octets : Octets) (used : ℕ) (start new : Deframing) (packet : Packet) (result : Result (Unit {0}) HostFault) (host : HostModel)
    (old now : Notes)
    → start ≡ deframing_at_start → new.marked ≡ Some packet
    → ((rest : Octets) → still start (take used octets ++ rest) ≡ before (marks new) (still new rest))
    → OnOk result (NotesWhatIsTold host old now) → OnOk result (NotesTaken octets host old now)
noted_marked octets used start new packet (Err fault) host old now fresh is divided hears = tt
noted_marked octets used start new packet (Ok done) host old now fresh is divided hears =
    let divides = subst (λ (first : Deframing). (rest : Octets) → still first (take used octets ++ rest) ≡ before (marks new) (still new rest)) fresh divided in
    subst (λ (divided : Division). NotesFirst divided.packets host old now) (sym (marked-first octets used new packet is divides)) hears

abbrev failing : H4Fault → Result Fed H4Fault
failing fault = Err fault

pub hears_lost : (octets : Octets) (start : Deframing) (fault : H4Fault) (old : HostModel) → start ≡ deframing_at_start
    → ((indicator : ℕ) → (failing fault ≡ Err (stream.Desync indicator)) ↔ (still start octets ≡ lost indicator)) → HostStops (lost_fault fault) octets old old
hears_lost octets start (stream.Desync indicator) old fresh divided =
    let lies : still deframing_at_start octets ≡ lost indicator =
    subst (λ (first : Deframing). still first octets ≡ lost indicator) fresh ((divided indicator).0 refl) in
    let divides : division octets ≡ lost indicator = sym (fresh-still octets) ∙ lies in
    subst (λ (divided : Division). StopsAtFirst (Desync indicator) divided.packets divided.end old old) (sym divides)
    (record { desync = refl; unchanged = refl })

due-where : (out : Bool) → true ≡ not out → out ≡ false
due-where true is = is
due-where false is = refl

pub gives_next : (old new : HostModel) (given packet : Octets) → packet ≡ given → true ≡ not (all_out old) → Refines [] (given ∷ []) old new → new.fault ≡ None
    → HostGives packet old new
gives_next old new given packet same goes leads none = record {
  due = due-where (all_out old) goes;
  goes = subst (λ (octets : Octets). Refines [] (octets ∷ []) old new) (sym same) leads;
  going = none;
}

refused-by : (packet : Octets) (before after : Pair) (fault : ShellFault) → HostGives packet before.host after.host
    → ControllerAnswers packet (Err fault) before.sim after.sim → HandsNext (Err fault) before after
refused-by packet before after (shell.Controller number) gives answers = record { packet = packet; gives = gives; refuses = answers }
refused-by packet before after fault gives answers = absurd answers

pub hands_refused : (packet : Octets) (before after : Pair) (fault : ShellFault) (result : Result Bool ShellFault) → result ≡ Err fault
    → HostGives packet before.host after.host → ControllerAnswers packet (Err fault) before.sim after.sim → HandsNext result before after
hands_refused packet before after fault result is gives answers =
    subst (λ (answer : Result Bool ShellFault). HandsNext answer before after) (sym is) (refused-by packet before after fault gives answers)

exchanges_more : (count : ℕ) (before middle after : Pair) → Exchanges count before middle → HandsOver middle after → Exchanges (suc count) before after
exchanges_more zero before middle after is hands = (after, subst (λ (pair : Pair). HandsOver pair after) is hands, refl)
exchanges_more (suc count) before middle after (next, first, rest) hands = (next, first, exchanges_more count next middle after rest hands)

pub exchanges_next : (count : ℕ) (before middle after : Pair) (handed : Bool) → Exchanges count before middle → HandsNext (Ok handed) middle after
    → handed ≡ true → Exchanges (count + 1) before after
exchanges_next count before middle after true so_far hands is =
    let one : suc count ≡ count + 1 = omega arith in
    subst (λ (more : ℕ). Exchanges more before after) one (exchanges_more count before middle after so_far hands)
exchanges_next count before middle after false so_far hands is = cc is

pub exchanges_all : (count : ℕ) (before last : Pair) → Exchanges count before last → count ≡ 100000 → (IsQuiet last.host last.sim → ⊥)
    → ExchangesTooMany before last.host
exchanges_all count before last so_far all more = record {
  last = last;
  exchanges = subst (λ (count : ℕ). Exchanges count before last) all so_far;
  more = more;
  host_then = refl;
}

ended-by : (count : ℕ) (before last after : Pair) (fault : ShellFault) → count < 100000 → Exchanges count before last
    → HandsNext (Err fault) last after → ExchangesUntil (Err fault) before after
ended-by count before last after (shell.Host number) fewer so_far ends =
    record { count = count; fewer = fewer; last = last; exchanges = so_far; ends = ends }
ended-by count before last after (shell.Controller number) fewer so_far ends =
    record { count = count; fewer = fewer; last = last; exchanges = so_far; ends = ends }
ended-by count before last after fault fewer so_far ends = absurd ends

pub exchanges_ended : (count : ℕ) (before last after : Pair) (fault : ShellFault) (result : Result (Unit {0}) ShellFault) → result ≡ Err fault
    → count < 100000 → Exchanges count before last → HandsNext (Err fault) last after → ExchangesUntil result before after
exchanges_ended count before last after fault result is fewer so_far ends =
    subst (λ (answer : Result (Unit {0}) ShellFault). ExchangesUntil answer before after) (sym is) (ended-by count before last after fault fewer so_far ends)
