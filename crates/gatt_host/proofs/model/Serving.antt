-- What a reader gives is taken in turn by turn, up to the end of its stream.
use Rattle.std.proofs.Common.{◌≡◌, ℕ, ◌+◌, ◌-◌, ◌≤◌, ◌<◌, Bool, true, false, Result, Ok, Err, List, [], ◌∷◌, ◌++◌, length, Option, Some, None, refl, sym, ap, subst, ◌∙◌, inl, inr, arith, append-nil}
use Rattle.std.proofs.KnownBytes.{Consumes-kept, Consumes-nil, Consumes-trans}
use Rattle.std.proofs.lemmas.Bool.{cases_Bool, eqb-true, leb-false}
use Rattle.std.proofs.lemmas.List.{length-append}
use Rattle.std.specs.Prelude.{◌==◌, nat_le, IfOk, IsOk, OnErr}
use Rattle.std.specs.Io.KnownBytes.{Consumes, IsAtEnd, Keeps}
use Rattle.gatt_host.proofs.Promises.{fed_apart, fed_by_the_policy}
use Rattle.gatt_host.proofs.model.Feeds.{all_items, feeds_then, takes_silently, takes_then}
use Rattle.gatt_host.proofs.model.Items.{leads_stopped, takes_item}
use Rattle.gatt_host.proofs.model.Silence.{stands_at_in_silence}
use Rattle.gatt_host.specs.declared.host_fault.HostFault.{HostFault}
use Rattle.gatt_host.proofs.owing.Nexts.{clash}
use Rattle.gatt_host.specs.declared.host_fault.HostFault.TheVariants as stop
use Rattle.gatt_host.specs.declared.serving.End.{End}
use Rattle.gatt_host.specs.Feeding.{Feeds, TakesAll, is_of_feeding, is_read_fault, is_write_fault, octet_items}
use Rattle.gatt_host.specs.ServerState.{without_notices}
use Rattle.gatt_host.specs.HostModel.{RefinesRun, Takes, HostModel, is_own_fault}
use Rattle.gatt_host.specs.Serving.{IsReadIn, Reads, Serves, items_read}
use Rattle.gatt_laws.specs.machine.Input.{Run, Item, TheEnd, run}
use Rattle.le_h4.specs.Deframer.{deframing_at_start, still}
use Rattle.le_h4.specs.Division.{division}
use Rattle.octet_io.specs.Number.{Octets}
use Rattle.octet_io.specs.Stream.{CountsFailure, CountsIf, CountsMany, CountsNone, CountsOne}

-- where nothing is held, a stream divides from its start
from-the-start : (rest : Octets) → still deframing_at_start rest ≡ division rest
from-the-start rest = elim (cases_Bool (nat_le 0 (length rest))) [
  | inl before ↦ rw before refl
  | inr after ↦ absurd (omega (arith, leb-false 0 (length rest) after))
]

-- the stream ends: what is unfinished is dropped, and nothing is told
pub takes_end : (old new : HostModel) → old.fault ≡ None → new.fault ≡ None → new.frames ≡ old.frames → new.stream ≡ deframing_at_start
    → new.server ≡ without_notices old.server → Takes TheEnd old new
takes_end old new none still frames anew silent start input sent is =
    let ended : HostModel = record old { stream = deframing_at_start } in
    let takes : Takes TheEnd old ended =
    takes_item TheEnd old ended none (λ run sent no_why is. record {
      refines = record { owed = is.refines.owed; all = is.refines.all; sound = is.refines.sound; refines = is.refines.refines; together = is.refines.together };
      same = is.same;
      stream = λ refines rest. from-the-start rest;
    }) in
    let after : Run = run start (input ++ TheEnd ∷ []) in
    subst (λ (host : HostModel). RefinesRun after (sent ++ []) host)
    (λ i. record { server = sym silent i; frames = sym frames i; stream = sym anew i; fault = (none ∙ sym still) i })
    (stands_at_in_silence after (sent ++ []) ended (takes start input sent is))

-- so many turns gave these octets, and they are taken in
pub record HasServed (turns : ℕ) (old new : HostModel) (remaining left before after : Option Octets) : Type 0 where
  pub read : Octets
  pub consumed : Consumes remaining left read
  pub takes : TakesAll (octet_items read) old new before after
  pub read_in : IsReadIn turns read

abbrev pub served_none : (old new : HostModel) (remaining before after : Option Octets) → TakesAll [] old new before after
    → HasServed 0 old new remaining remaining before after
served_none old new remaining before after takes = record {
  read = [];
  consumed = Consumes-nil remaining;
  takes = takes;
  read_in = record { some = omega arith; most = omega arith };
}

abbrev pub served_more : (turns : ℕ) (octets : Octets) (old mid new : HostModel) (remaining between left before server after : Option Octets)
    → HasServed turns old mid remaining between before server
    → Consumes between left octets → 1 ≤ length octets → length octets ≤ 512 → TakesAll (octet_items octets) mid new server after
    → HasServed (turns + 1) old new remaining left before after
served_more turns octets old mid new remaining between left before server after served consumed some most takes = record {
  read = served.read ++ octets;
  consumed = Consumes-trans remaining between left served.read octets served.consumed consumed;
  takes = subst (λ (items : List Item). TakesAll items old new before after) (sym (all_items (served.read ++ octets) served.read octets refl))
      (takes_then (octet_items served.read) (octet_items octets) old mid new before server after served.takes takes);
  read_in = record {
    some = omega (arith, served.read_in.some, some, length-append served.read octets);
    most = omega (arith, served.read_in.most, most, length-append served.read octets);
  };
}

-- a turn in which the host stops
pub served_feeds : (turns : ℕ) (octets : Octets) (old mid new : HostModel) (remaining between before server after : Option Octets) (found : Option HostFault)
    → (served : HasServed turns old mid remaining between before server) → Feeds (octet_items octets) mid new server after found
    → Feeds (octet_items (served.read ++ octets)) old new before after found
served_feeds turns octets old mid new remaining between before server after found served feeds =
    subst (λ (items : List Item). Feeds items old new before after found) (sym (all_items (served.read ++ octets) served.read octets refl))
    (feeds_then (octet_items served.read) (octet_items octets) old mid new before server after found served.takes feeds)

abbrev failed : HostFault → Result End HostFault
failed fault = Err fault

abbrev ended_in : ℕ → Result End HostFault
ended_in turns = Ok (record { turns = turns })

err-is : {fault other : HostFault} → failed fault ≡ failed other → fault ≡ other
err-is {fault = fault} is = ap (λ (result : Result End HostFault). fault-of result) is
  where
    fault-of : Result End HostFault → HostFault
    fault-of (Ok end) = fault
    fault-of (Err why) = why

no-turns : (fault : HostFault) → fault ≡ stop.Turns → is_of_feeding fault ≡ true → ⊥
no-turns fault is comes = clash (sym (ap is_of_feeding is) ∙ comes)

-- a fault of the reader or of the turns
own_feeds : (items : List Item) (old new : HostModel) (before after : Option Octets) (fault : HostFault) → is_write_fault (Some fault) ≡ false
    → TakesAll items old new before after → Feeds items old new before after (Some fault)
own_feeds items old new before after (stop.Desync indicator) other takes = takes
own_feeds items old new before after (stop.BadEvent code) other takes = takes
own_feeds items old new before after (stop.Init why) other takes = takes
own_feeds items old new before after (stop.Hardware code) other takes = takes
own_feeds items old new before after stop.Read other takes = takes
own_feeds items old new before after stop.Write other takes = absurd (clash (sym other))
own_feeds items old new before after stop.Turns other takes = takes

-- what is read, by what it feeds
serves_by : (result : Result End HostFault) (turns : ℕ) (read : Octets) (old new : HostModel) (remaining left before after : Option Octets)
    → Consumes remaining left read → Feeds (items_read result read) old new before after new.fault → (IsOk result → IsAtEnd left)
    → IfOk result (λ (end : End). (0 < end.turns) × IsReadIn (end.turns - 1) read) → (result ≡ Err stop.Turns → IsReadIn turns read)
    → Serves result turns old new remaining left before after
serves_by result turns read old new remaining left before after consumed feeds at_end ended over = record {
  read = read;
  consumed = consumed;
  feeds = feeds;
  policy = fed_by_the_policy (items_read result read) old new before after feeds;
  apart = fed_apart (items_read result read) old new before after feeds;
  at_end = at_end;
  ended = ended;
  over = over;
}

-- by what a call answers: the reader fails, or the turns are over
pub serves_stopped : (result : Result End HostFault) (fault : HostFault) (turns given : ℕ) (old mid new : HostModel)
    (remaining between left before after : Option Octets)
    → result ≡ Err fault → mid.fault ≡ None → new ≡ record mid { fault = Some fault } → is_own_fault fault ≡ true → is_write_fault (Some fault) ≡ false
    → Keeps between left
    → HasServed given old mid remaining between before after → (fault ≡ stop.Turns → given ≡ turns) → Serves result turns old new remaining left before after
serves_stopped result fault turns given old mid new remaining between left before after answers none is own other keeps served over =
    subst (λ (result : Result End HostFault). Serves result turns old new remaining left before after) (sym answers)
    (subst (λ (host : HostModel). Serves (failed fault) turns old host remaining left before after) (sym is)
    (serves_by (failed fault) turns served.read old (record mid { fault = Some fault }) remaining left before after
    (Consumes-kept remaining between left served.read served.consumed keeps)
    (own_feeds (octet_items served.read) old (record mid { fault = Some fault }) before after fault other
    (subst (λ (items : List Item). TakesAll items old (record mid { fault = Some fault }) before after) (append-nil (octet_items served.read))
    (takes_then (octet_items served.read) [] old mid (record mid { fault = Some fault }) before after after served.takes
    (takes_silently [] mid (record mid { fault = Some fault }) after (leads_stopped mid fault none own)))))
    (λ ended. cc ended) tt
    (λ is_over. subst (λ (count : ℕ). IsReadIn count served.read) (over (err-is is_over)) served.read_in)))

-- the input ends
pub serves_ended : (turns given : ℕ) (old mid new : HostModel) (remaining between left before after : Option Octets) → new.fault ≡ None
    → Consumes between left [] → IsAtEnd left
    → Takes TheEnd mid new → HasServed given old mid remaining between before after → Serves (ended_in (given + 1)) turns old new remaining left before after
serves_ended turns given old mid new remaining between left before after none nothing at_end takes served =
    serves_by (ended_in (given + 1)) turns served.read old new remaining left before after
    (subst (Consumes remaining left) (append-nil served.read) (Consumes-trans remaining between left served.read [] served.consumed nothing))
    (subst (λ (found : Option HostFault). Feeds (octet_items served.read ++ TheEnd ∷ []) old new before after found) (sym none)
    (takes_then (octet_items served.read) (TheEnd ∷ []) old mid new before after after served.takes (takes_silently (TheEnd ∷ []) mid new after takes)))
    (λ ended. at_end) (omega arith, subst (λ (count : ℕ). IsReadIn count served.read) (omega arith) served.read_in) (λ is_over. cc is_over)

-- or the host stops at what is read
pub serves_broken : (result : Result End HostFault) (fault : HostFault) (turns given : ℕ) (octets : Octets) (old mid new : HostModel)
    (remaining between left before server after : Option Octets)
    → result ≡ Err fault → is_of_feeding fault ≡ true → Consumes between left octets → (served : HasServed given old mid remaining between before server)
    → Feeds (octet_items octets) mid new server after new.fault → Serves result turns old new remaining left before after
serves_broken result fault turns given octets old mid new remaining between left before server after answers comes consumed served feeds =
    subst (λ (result : Result End HostFault). Serves result turns old new remaining left before after) (sym answers)
    (serves_by (failed fault) turns (served.read ++ octets) old new remaining left before after
    (Consumes-trans remaining between left served.read octets served.consumed consumed)
    (served_feeds given octets old mid new remaining between before server after new.fault served feeds)
    (λ ended. cc ended) tt (λ is_over. absurd (no-turns fault (err-is is_over) comes)))

-- the reads that were made where the host stops
pub reads_stopped : (result : Result End HostFault) (fault : HostFault) (made turns : ℕ) (reads reads' ends ends' failed failed' : Option ℕ)
    → result ≡ Err fault → CountsMany made reads reads' → made ≤ turns → (fault ≡ stop.Turns → made ≡ turns) → CountsNone ends ends'
    → CountsIf (is_read_fault (Some fault)) failed failed' → Reads result turns reads reads' ends ends' failed failed'
reads_stopped result fault made turns reads reads' ends ends' failed failed' answers counted most over none fails =
    subst (λ (result : Result End HostFault). Reads result turns reads reads' ends ends' failed failed') (sym answers)
    (record { made = made; counted = counted; most = most; told = tt; over = λ is_over. over (err-is is_over); ends = none; failures = fails })

-- a fault of a feeding is none of the reader
pub counts_unread : (fault : HostFault) (before now : Option ℕ) → is_of_feeding fault ≡ true → CountsNone before now
    → CountsIf (is_read_fault (Some fault)) before now
counts_unread (stop.Desync indicator) before now comes counts = counts
counts_unread (stop.BadEvent code) before now comes counts = counts
counts_unread (stop.Init why) before now comes counts = counts
counts_unread (stop.Hardware code) before now comes counts = counts
counts_unread stop.Read before now comes counts = absurd (clash comes)
counts_unread stop.Write before now comes counts = counts
counts_unread stop.Turns before now comes counts = counts

-- a read that failed is counted
pub counts_failed : {A E : Type 0} (result : Result A E) (before now : Option ℕ) → ((x : A) → result ≡ Ok x → ⊥) → CountsFailure before now result
    → CountsOne before now
counts_failed (Ok x) before now fails counts = absurd (fails x refl)
counts_failed (Err why) before now fails counts = counts

pub no_turns : {P : Type 0} (fault : HostFault) → is_of_feeding fault ≡ true → fault ≡ stop.Turns → P
no_turns fault comes is = absurd (no-turns fault is comes)

-- what a read that failed leaves
pub kept_where_failed : {A E P : Type 0} (result : Result A E) → ((x : A) → result ≡ Ok x → ⊥) → OnErr result P → P
kept_where_failed (Ok x) fails slot_state = absurd (fails x refl)
kept_where_failed (Err why) fails slot_state = slot_state

-- whether anything is read
pub empty_where : (read : Octets) → (length read == 0) ≡ true → read ≡ []
empty_where [] is = refl
empty_where (octet ∷ read) is = absurd (omega (arith, eqb-true (length (octet ∷ read)) 0 is))

pub some_where : (read : Octets) → (length read == 0) ≡ false → 1 ≤ length read
some_where [] is = absurd (clash (sym is))
some_where (octet ∷ read) is = omega arith

-- whether a read has found the end
pub counts_where_none : (read : Octets) (before after : Option ℕ) → (length read == 0) ≡ true → CountsIf (length read == 0) before after
    → CountsOne before after
counts_where_none read before after none counts = subst (λ (is : Bool). CountsIf is before after) none counts

pub counts_where_some : (read : Octets) (before after : Option ℕ) → (length read == 0) ≡ false → CountsIf (length read == 0) before after
    → CountsNone before after
counts_where_some read before after some counts = subst (λ (is : Bool). CountsIf is before after) some counts
