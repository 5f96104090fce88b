-- Octets and calls are taken in one after another, and the calls that are refused are counted.
use Rattle.std.proofs.Common.{◌≡◌, ℕ, ◌+◌, ◌<◌, Bool, true, false, List, [], ◌∷◌, ◌++◌, drop, get_or, length, Option, Some, None, Result, Ok, Err, refl, sym, ap, subst, ◌∙◌, arith, append_assoc, append-nil}
use Rattle.std.proofs.lemmas.List.{drop_more}
use Rattle.std.specs.Prelude.{if◌then◌else◌, is_err, is_some}
use Rattle.gatt_host.proofs.model.Feeds.{feeds_past, feeds_then, takes_silently, takes_then}
use Rattle.gatt_host.specs.Asked.{refusal_in_result}
use Rattle.host_api.specs.declared.app.AppFault.{AppFault}
use Rattle.gatt_host.specs.declared.driving.Input.{Input}
use Rattle.gatt_host.specs.declared.host_fault.HostFault.{HostFault}
use Rattle.gatt_host.specs.Feeding.{CountsRefused, Feeds, TakesAll, is_of_feeding, input_items, items_of, octet_items, refused_at, refused_in}
use Rattle.gatt_host.specs.HostModel.{Refines, RefinesRun, Takes, HostModel}
use Rattle.gatt_laws.proofs.runs.Inputs.{items_append}
use Rattle.gatt_laws.specs.machine.Calls.{Call, Refused}
use Rattle.gatt_laws.specs.machine.Input.{ACall, AnOctet, Run, Item, after_item, after_items, run_at_start, call_refusal, run}
use Rattle.gatt_laws.specs.machine.Start.{Start}
use Rattle.octet_io.specs.Number.{Octets}

-- none of the octets is a call
none-of-octets : (at_run : Run) (octets : Octets) → 0 ≡ refused_in at_run (octet_items octets)
none-of-octets at_run [] = refl
none-of-octets at_run (octet ∷ octets) = omega (arith, none-of-octets (after_item at_run (AnOctet octet)) octets)

pub none_refused : (octets : Octets) (host : HostModel) → CountsRefused 0 (octet_items octets) host
none_refused octets host start input sent is = none-of-octets (run start input) octets

-- one call
refused-where : (result : Result Unit AppFault) → is_err result ≡ is_some (refusal_in_result result)
refused-where (Ok done) = refl
refused-where (Err why) = refl

abbrev one_if : Bool → ℕ
one_if refused = if refused then 1 else 0

-- why a call is refused in each run
abbrev pub IsRefusedSo : Call → HostModel → Option Refused → Type 0
IsRefusedSo call host why = (start : Start) (input : List Item) (sent : List Octets) → RefinesRun (run start input) sent host → host.fault ≡ None
    → why ≡ call_refusal (run start input).intake call

pub one_refused : (call : Call) (host : HostModel) (result : Result Unit AppFault) (refused : Bool) → host.fault ≡ None → refused ≡ is_err result
    → IsRefusedSo call host (refusal_in_result result) → CountsRefused (if refused then 1 else 0) (ACall call ∷ []) host
one_refused call host result refused none same refuses start input sent is =
    let why : refusal_in_result result ≡ call_refusal (run start input).intake call = refuses start input sent is none in
    let counted : one_if refused ≡ refused_at (run start input) (ACall call) =
    ap one_if (same ∙ refused-where result ∙ ap (λ (why : Option Refused). is_some why) why) in
    omega (arith, counted)

pub call_feeds : (item : Item) (old mid new : HostModel) (before after : Option Octets) (found : Option HostFault) → Takes item old mid
    → Feeds [] mid new before after found
    → Feeds (item ∷ []) old new before after found
call_feeds item old mid new before after found takes feeds =
    feeds_then (item ∷ []) [] old mid new before before after found (takes_silently (item ∷ []) old mid before takes) feeds

-- calls of one part, and then of the other
refused-append : (at_run : Run) (items more : List Item) → refused_in at_run items + refused_in (after_items at_run items) more
    ≡ refused_in at_run (items ++ more)
refused-append at_run [] more = omega arith
refused-append at_run (item ∷ items) more = omega (arith, refused-append (after_item at_run item) items more)

pub counts_then : (count next : ℕ) (items more : List Item) (packets : List Octets) (old mid : HostModel) → CountsRefused count items old
    → Refines items packets old mid
    → CountsRefused next more mid → CountsRefused (count + next) (items ++ more) old
unfolding run
counts_then count next items more packets old mid first leads second start input sent is =
    let before : Run = run start input in
    let one : count ≡ refused_in before items = first start input sent is in
    let other : next ≡ refused_in (after_items before items) more =
    second start (input ++ items) (sent ++ packets) (leads start input sent is)
    ∙ ap (λ (after : Run). refused_in after more) (items_append (run_at_start start) input items) in
    omega (arith, one, other, refused-append before items more)

-- what follows a fault changes nothing
pub past_fault : (items more : List Item) (old new : HostModel) (before after : Option Octets) (fault : HostFault) → new.fault ≡ Some fault
    → is_of_feeding fault ≡ true
    → Feeds items old new before after new.fault → Feeds (items ++ more) old new before after new.fault
past_fault items more old new before after fault stopped comes feeds =
    subst (λ (found : Option HostFault). Feeds (items ++ more) old new before after found) (sym stopped)
    (feeds_past items more old new before after fault stopped comes
    (subst (λ (found : Option HostFault). Feeds items old new before after found) stopped feeds))

-- of the inputs all but the rest are taken in, and so many calls are refused
pub record HasDriven (count : ℕ) (inputs rest : List Input) (old new : HostModel) (before after : Option Octets) : Type 0 where
  pub items : List Item
  pub parts : items_of inputs ≡ items ++ items_of rest
  pub takes : TakesAll items old new before after
  pub counts : CountsRefused count items old

abbrev pub driven_none : (inputs : List Input) (old new : HostModel) (before after : Option Octets) → TakesAll [] old new before after
    → HasDriven 0 inputs inputs old new before after
driven_none inputs old new before after takes = record {
  items = [];
  parts = refl;
  takes = takes;
  counts = λ start input sent is. refl;
}

-- the next of them
pub next_parts : (inputs : List Input) (index : ℕ) (last : Input) (items : List Item) → index < length inputs
    → items_of inputs ≡ items ++ items_of (drop index inputs)
    → items_of inputs ≡ (items ++ input_items (get_or inputs index last)) ++ items_of (drop (index + 1) inputs)
next_parts inputs index last items within parts =
    parts ∙ ap (λ (left : List Input). items ++ items_of left) (drop_more inputs index last within)
    ∙ sym (append_assoc items (input_items (get_or inputs index last)) (items_of (drop (index + 1) inputs)))

module _ (inputs : List Input) (index : ℕ) (last : Input) (within : index < length inputs) (count : ℕ) (old mid new : HostModel)
    (before between after : Option Octets)
    (has : HasDriven count inputs (drop index inputs) old mid before between) where
  abbrev pub driven_more : (next : ℕ) → TakesAll (input_items (get_or inputs index last)) mid new between after
      → CountsRefused next (input_items (get_or inputs index last)) mid
      → HasDriven (count + next) inputs (drop (index + 1) inputs) old new before after
  driven_more next takes counts = record {
    items = has.items ++ input_items (get_or inputs index last);
    parts = (next_parts inputs index last has.items within has.parts);
    takes = takes_then has.items (input_items (get_or inputs index last)) old mid new before between after has.takes takes;
    counts = counts_then count next has.items (input_items (get_or inputs index last)) has.takes.packets old mid has.counts has.takes.refines counts;
  }

  -- the host stops at it
  pub driven_stops : (fault : HostFault) → new.fault ≡ Some fault → is_of_feeding fault ≡ true
      → Feeds (input_items (get_or inputs index last)) mid new between after new.fault → Feeds (items_of inputs) old new before after new.fault
  driven_stops fault stopped comes feeds =
      let input : Input = get_or inputs index last in
      let rest : List Input = drop (index + 1) inputs in
      subst (λ (items : List Item). Feeds items old new before after new.fault) (sym (next_parts inputs index last has.items within has.parts))
      (past_fault (has.items ++ input_items input) (items_of rest) old new before after fault stopped comes
      (feeds_then has.items (input_items input) old mid new before between after new.fault has.takes feeds))

-- all are taken in
driven-parts : (inputs rest : List Input) (items : List Item) → rest ≡ [] → items_of inputs ≡ items ++ items_of rest → items_of inputs ≡ items
driven-parts inputs rest items none parts = parts ∙ ap (λ (left : List Input). items ++ items_of left) none ∙ append-nil items

module _ (count : ℕ) (inputs rest : List Input) (old new : HostModel) (before after : Option Octets) (none : rest ≡ [])
    (has : HasDriven count inputs rest old new before after) where
  pub driven_counts : CountsRefused count (items_of inputs) old
  driven_counts = subst (λ (items : List Item). CountsRefused count items old) (sym (driven-parts inputs rest has.items none has.parts)) has.counts

-- one more, where it is a call that is refused
pub one_more : (count : ℕ) (refused : Bool) → refused ≡ true → count + 1 ≡ count + (if refused then 1 else 0)
one_more count refused is = ap (λ (refused : Bool). count + one_if refused) (sym is)

pub no_more : (count : ℕ) (refused : Bool) → refused ≡ false → count ≡ count + (if refused then 1 else 0)
no_more count refused is = omega (arith, ap (λ (refused : Bool). count + one_if refused) is)
