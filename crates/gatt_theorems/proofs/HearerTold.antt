-- What a hearer is told, and what waits for it then.
use Rattle.std.proofs.Common.{◌≡◌, ℕ, Bool, true, false, List, [], ◌∷◌, ◌++◌, map, Option, Some, None, refl, sym, ap, ◌∙◌}
use Rattle.std.specs.Prelude.{IfSome, is_some, nat_lt, ◌==◌, ◌&&◌, ◌||◌, not, if◌then◌else◌}
use Rattle.std.specs.Option.{option_map, option_to_list}
use Rattle.std.proofs.lemmas.Bool.{eq-eqb, not-true, and_parts}
use Rattle.std.proofs.lemmas.List.Folds.{list_any-append}
use Rattle.att_numbers.specs.Types.{Handle, Row, Values}
use Rattle.att_pdu.specs.Grammar.{is_due}
use Rattle.att_pdu.specs.Response.{Response}
use Rattle.att_policy.specs.declared.standing.Standing.{Standing}
use Rattle.att_attributes.specs.declared.attr.Attr.{Attr}
use Rattle.gatt_laws.specs.laws.Headline.{Each}
use Rattle.gatt_laws.specs.machine.Heard.{Heard, heard_when_notifying, hearer_after, heard_in_turn}
use Rattle.gatt_subs.proofs.Heard.{releases_only_what_is_heard}
use Rattle.gatt_subs.specs.Hearing.{may_hear_at, is_indicated, wants_indications}
use Rattle.gatt_subs.specs.Indications.{Indications, first_handle, from_due, hears, is_notified, is_waiting, may_indicate, indicated_handle, rest_of, unconfirmed_since, with_handle}
use Rattle.gatt_subs.specs.declared.pending.Unconfirmed.{Unconfirmed}
use Rattle.gatt_subs.specs.Told.{Hearer, notification_of, indication_of, pending_after_notify}
use Rattle.gatt_theorems.specs.Gained.{picked}
use Rattle.octet_io.proofs.Choices.{or_with_true}

pub if-some : {A : Type 0} (P Q : A → Type 0) (found : Option A) → ((one : A) → P one → Q one) → IfSome found P → IfSome found Q
if-some P Q None weaker is = tt
if-some P Q (Some one) weaker is = weaker one is

-- one that is indicated is one that waits
indicated-next : (is_due : Handle → Bool) (next : Handle) (rest : List Handle) (due : Bool)
    → IfSome (first_handle (from_due is_due rest)) (λ handle. is_waiting rest handle ≡ true)
    → IfSome (first_handle (if due then next ∷ rest else from_due is_due rest)) (λ handle. is_waiting (next ∷ rest) handle ≡ true)
indicated-next is_due next rest true later = ap (λ (same : Bool). same || is_waiting rest next) (eq-eqb next next refl)
indicated-next is_due next rest false later =
    if-some (λ handle. is_waiting rest handle ≡ true) (λ handle. is_waiting (next ∷ rest) handle ≡ true) (first_handle (from_due is_due rest))
    (λ handle waits. ap (λ (others : Bool). (next == handle) || others) waits ∙ or_with_true (next == handle)) later

indicated-waits : (is_due : Handle → Bool) (waiting : List Handle)
    → IfSome (first_handle (from_due is_due waiting)) (λ handle. is_waiting waiting handle ≡ true)
indicated-waits is_due [] = tt
indicated-waits is_due (next ∷ rest) = indicated-next is_due next rest (is_due next) (indicated-waits is_due rest)

released-waits : (attributes : List Attr) (hearer : Hearer) (may : Bool)
    → IfSome (if may then first_handle (from_due (is_indicated attributes hearer.row hearer.standing) hearer.pending.waiting) else None)
    (λ handle. is_waiting hearer.pending.waiting handle ≡ true)
released-waits attributes hearer true = indicated-waits (is_indicated attributes hearer.row hearer.standing) hearer.pending.waiting
released-waits attributes hearer false = tt

abbrev pub MayHear : List Attr → Row → Standing → Handle → Type 0
MayHear attributes row standing handle = may_hear_at attributes row standing handle ≡ true

pub record Hears (attributes : List Attr) (values : Values) (hearer : Hearer) (raised : List Handle) (told : List Response) : Type 0 where
  pub picks : List Bool
  pub indicated : Option Handle
  pub is : told ≡ map (λ handle. notification_of values handle hearer.mtu) (picked picks raised)
      ++ option_to_list (option_map (λ handle. indication_of values handle hearer.mtu) indicated)
  pub due : IfSome indicated (λ handle. (is_waiting raised handle || is_waiting hearer.pending.waiting handle) ≡ true)
  pub may : Each (MayHear attributes hearer.row hearer.standing) (picked picks raised ++ option_to_list indicated)
  pub notified : Each (λ handle. wants_indications hearer.row handle ≡ false) (picked picks raised)
  pub asked : Each (λ handle. wants_indications hearer.row handle ≡ true) (option_to_list indicated)
  pub in_time : hearer.pending.timed_out ≡ true → told ≡ []
  pub single : IfSome indicated (λ handle. hearer.pending.unconfirmed ≡ None)

released-may : (attributes : List Attr) (hearer : Hearer) (found : Option Handle)
    → indicated_handle hearer.pending attributes hearer.row hearer.standing hearer.backlog ≡ found
    → Each (MayHear attributes hearer.row hearer.standing) (option_to_list found)
released-may attributes hearer None is = tt
released-may attributes hearer (Some handle) is =
    ((releases_only_what_is_heard hearer.pending attributes hearer.row hearer.standing hearer.backlog handle is).may, tt)

released-asked : (attributes : List Attr) (hearer : Hearer) (found : Option Handle)
    → indicated_handle hearer.pending attributes hearer.row hearer.standing hearer.backlog ≡ found
    → Each (λ handle. wants_indications hearer.row handle ≡ true) (option_to_list found)
released-asked attributes hearer None is = tt
released-asked attributes hearer (Some handle) is =
    ((releases_only_what_is_heard hearer.pending attributes hearer.row hearer.standing hearer.backlog handle is).wanted, tt)

-- only where none is unconfirmed, and nobody is late
none-unconfirmed : (unconfirmed : Option Unconfirmed) (in_time shared : Bool) → (not (is_some unconfirmed) && in_time && shared) ≡ true → unconfirmed ≡ None
none-unconfirmed None in_time shared is = refl
none-unconfirmed (Some one) in_time shared is = cc is

any-handle : (found : Option Handle) (P : Type 0) → P → IfSome found (λ handle. P)
any-handle None P is = tt
any-handle (Some handle) P is = is

released-single : (attributes : List Attr) (hearer : Hearer) (may : Bool) → may_indicate hearer.pending hearer.backlog ≡ may
    → IfSome (if may then first_handle (from_due (is_indicated attributes hearer.row hearer.standing) hearer.pending.waiting) else None)
    (λ handle. hearer.pending.unconfirmed ≡ None)
released-single attributes hearer true is =
    any-handle (first_handle (from_due (is_indicated attributes hearer.row hearer.standing) hearer.pending.waiting)) (hearer.pending.unconfirmed ≡ None)
    (none-unconfirmed hearer.pending.unconfirmed (not hearer.pending.timed_out) (nat_lt hearer.backlog 8) is)
released-single attributes hearer false is = tt

late-silent : (unconfirmed late shared : Bool) → late ≡ true → (unconfirmed && not late && shared) ≡ false
late-silent true late shared is = rw is refl
late-silent false late shared is = refl

released-late : (attributes : List Attr) (values : Values) (hearer : Hearer) (may : Bool) → may_indicate hearer.pending hearer.backlog ≡ may
    → hearer.pending.timed_out ≡ true
    → option_to_list (option_map (λ handle. indication_of values handle hearer.mtu)
    (if may then first_handle (from_due (is_indicated attributes hearer.row hearer.standing) hearer.pending.waiting) else None)) ≡ []
released-late attributes values hearer true is late =
    cc (is, late-silent (not (is_some hearer.pending.unconfirmed)) hearer.pending.timed_out (nat_lt hearer.backlog 8) late)
released-late attributes values hearer false is late = refl

hears-at-end : (attributes : List Attr) (values : Values) (hearer : Hearer) (live : Bool)
    → Hears attributes values hearer [] (option_to_list (if live then option_map (λ handle. indication_of values handle hearer.mtu)
    (indicated_handle hearer.pending attributes hearer.row hearer.standing hearer.backlog) else None))
hears-at-end attributes values hearer true = record {
  picks = [];
  indicated = indicated_handle hearer.pending attributes hearer.row hearer.standing hearer.backlog;
  is = refl;
  due = released-waits attributes hearer (may_indicate hearer.pending hearer.backlog);
  may = released-may attributes hearer (indicated_handle hearer.pending attributes hearer.row hearer.standing hearer.backlog) refl;
  notified = tt;
  asked = released-asked attributes hearer (indicated_handle hearer.pending attributes hearer.row hearer.standing hearer.backlog) refl;
  in_time = released-late attributes values hearer (may_indicate hearer.pending hearer.backlog) refl;
  single = released-single attributes hearer (may_indicate hearer.pending hearer.backlog) refl;
}
hears-at-end attributes values hearer false =
    record { picks = []; indicated = None; is = refl; due = tt; may = tt; notified = tt; asked = tt; in_time = λ late. refl; single = tt }

-- what waits once a value is notified waited before, or is that value
raised-waits-if : (waiting : List Handle) (handle other : Handle) (waits : Bool)
    → is_waiting (if waits then waiting else waiting ++ handle ∷ []) other ≡ true → ((handle == other) || is_waiting waiting other) ≡ true
raised-waits-if waiting handle other true is = ap (λ (waits : Bool). (handle == other) || waits) is ∙ or_with_true (handle == other)
raised-waits-if waiting handle other false is =
    last (is_waiting waiting other) (handle == other) (sym (list_any-append (λ (one : Handle). one == other) waiting (handle ∷ [])) ∙ is)
  where
    last : (before here : Bool) → (before || (here || false)) ≡ true → (here || before) ≡ true
    last before true is = refl
    last true false is = refl
    last false false is = cc is

raised-waits : (attributes : List Attr) (hearer : Hearer) (handle other : Handle) (live indicates : Bool)
    → is_waiting (if live then (if indicates then record hearer.pending { waiting = with_handle hearer.pending.waiting handle } else hearer.pending)
    else hearer.pending).waiting other ≡ true
    → ((handle == other) || is_waiting hearer.pending.waiting other) ≡ true
raised-waits attributes hearer handle other true true is =
    raised-waits-if hearer.pending.waiting handle other (is_waiting hearer.pending.waiting handle) is
raised-waits attributes hearer handle other true false is = ap (λ (waits : Bool). (handle == other) || waits) is ∙ or_with_true (handle == other)
raised-waits attributes hearer handle other false indicates is = ap (λ (waits : Bool). (handle == other) || waits) is ∙ or_with_true (handle == other)

due-before : (attributes : List Attr) (hearer : Hearer) (handle : Handle) (handles : List Handle) (other : Handle)
    → (is_waiting handles other || is_waiting (pending_after_notify attributes hearer handle).waiting other) ≡ true
    → (is_waiting (handle ∷ handles) other || is_waiting hearer.pending.waiting other) ≡ true
due-before attributes hearer handle handles other is =
    joined (handle == other) (is_waiting handles other) (is_waiting hearer.pending.waiting other)
    (is_waiting (pending_after_notify attributes hearer handle).waiting other)
    (raised-waits attributes hearer handle other hearer.live
    (hears hearer.pending attributes hearer.row hearer.standing handle && wants_indications hearer.row handle)) is
  where
    joined : (here later before after : Bool) → (after ≡ true → (here || before) ≡ true) → (later || after) ≡ true → ((here || later) || before) ≡ true
    joined true later before after waits is = refl
    joined false true before after waits is = refl
    joined false false before true waits is = waits refl
    joined false false before false waits is = cc is

-- a value that is notified leaves what is unconfirmed, and whether one is late
raised-keeps : {A : Type 0} (fact : Indications → A) (attributes : List Attr) (hearer : Hearer) (handle : Handle)
    → ((pending : Indications) (waiting : List Handle) → fact (record pending { waiting = waiting }) ≡ fact pending)
    → fact (pending_after_notify attributes hearer handle) ≡ fact hearer.pending
raised-keeps fact attributes hearer handle keeps =
    elim hearer.live as (λ (live : Bool).
    fact (if live then (if hears hearer.pending attributes hearer.row hearer.standing handle && wants_indications hearer.row handle
    then record hearer.pending { waiting = with_handle hearer.pending.waiting handle } else hearer.pending) else hearer.pending) ≡ fact hearer.pending) [
      | true ↦
          elim (hears hearer.pending attributes hearer.row hearer.standing handle && wants_indications hearer.row handle) as (λ (indicates : Bool).
          fact (if indicates then record hearer.pending { waiting = with_handle hearer.pending.waiting handle } else hearer.pending) ≡ fact hearer.pending) [
            | true ↦ keeps hearer.pending (with_handle hearer.pending.waiting handle)
            | false ↦ refl
          ]
      | false ↦ refl
    ]

-- what a notification that is due says of its connection
record IsDue (attributes : List Attr) (hearer : Hearer) (handle : Handle) : Type 0 where
  may : MayHear attributes hearer.row hearer.standing handle
  unasked : wants_indications hearer.row handle ≡ false
  in_time : hearer.pending.timed_out ≡ false

is-due : (attributes : List Attr) (hearer : Hearer) (handle : Handle)
    → (hearer.live && is_notified hearer.pending attributes hearer.row hearer.standing handle hearer.backlog) ≡ true
    → IsDue attributes hearer handle
is-due attributes hearer handle is =
    let notified = (and_parts hearer.live (is_notified hearer.pending attributes hearer.row hearer.standing handle hearer.backlog) is).1 in
    let before_room = (and_parts _ (nat_lt hearer.backlog 8) notified).0 in
    let ways = and_parts (hears hearer.pending attributes hearer.row hearer.standing handle) (not (wants_indications hearer.row handle)) before_room in
    let heard = and_parts (not hearer.pending.timed_out) (may_hear_at attributes hearer.row hearer.standing handle) ways.0 in
    record {
      may = heard.1;
      unasked = not-true (wants_indications hearer.row handle) ways.1;
      in_time = not-true hearer.pending.timed_out heard.0;
    }

hears-next : (attributes : List Attr) (values : Values) (hearer : Hearer) (handle : Handle) (handles : List Handle) (later : List Response) (tells : Bool)
    → (hearer.live && is_notified hearer.pending attributes hearer.row hearer.standing handle hearer.backlog) ≡ tells
    → Hears attributes values (hearer_after hearer (heard_when_notifying attributes values hearer handle)) handles later
    → Hears attributes values hearer (handle ∷ handles) (option_to_list (if tells then Some (notification_of values handle hearer.mtu) else None) ++ later)
hears-next attributes values hearer handle handles later true is rest =
    let due = is-due attributes hearer handle is in
    record {
      picks = true ∷ rest.picks;
      indicated = rest.indicated;
      is = ap (λ (responses : List Response). notification_of values handle hearer.mtu ∷ responses) rest.is;
      due = if-some _ (λ other. (is_waiting (handle ∷ handles) other || is_waiting hearer.pending.waiting other) ≡ true) rest.indicated
          (due-before attributes hearer handle handles) rest.due;
      may = (due.may, rest.may);
      notified = (due.unasked, rest.notified);
      asked = rest.asked;
      in_time = λ late. cc (late, due.in_time);
      single = if-some _ (λ other. hearer.pending.unconfirmed ≡ None) rest.indicated
          (λ other none. sym (raised-keeps (λ (pending : Indications). pending.unconfirmed) attributes hearer handle (λ pending waiting. refl)) ∙ none)
          rest.single;
    }
hears-next attributes values hearer handle handles later false is rest = record {
  picks = false ∷ rest.picks;
  indicated = rest.indicated;
  is = rest.is;
  due = if-some _ (λ other. (is_waiting (handle ∷ handles) other || is_waiting hearer.pending.waiting other) ≡ true) rest.indicated
      (due-before attributes hearer handle handles) rest.due;
  may = rest.may;
  notified = rest.notified;
  asked = rest.asked;
  in_time = λ late. rest.in_time (raised-keeps (λ (pending : Indications). pending.timed_out) attributes hearer handle (λ pending waiting. refl) ∙ late);
  single = if-some _ (λ other. hearer.pending.unconfirmed ≡ None) rest.indicated
      (λ other none. sym (raised-keeps (λ (pending : Indications). pending.unconfirmed) attributes hearer handle (λ pending waiting. refl)) ∙ none) rest.single;
}

pub hears-in-turn : (attributes : List Attr) (values : Values) (hearer : Hearer) (now : ℕ) (handles : List Handle)
    → Hears attributes values hearer handles (heard_in_turn attributes values hearer now handles).responses
hears-in-turn attributes values hearer now [] = hears-at-end attributes values hearer hearer.live
hears-in-turn attributes values hearer now (handle ∷ handles) =
    let first : Heard = heard_when_notifying attributes values hearer handle in
    hears-next attributes values hearer handle handles (heard_in_turn attributes values (hearer_after hearer first) now handles).responses
    (hearer.live && is_notified hearer.pending attributes hearer.row hearer.standing handle hearer.backlog) refl
    (hears-in-turn attributes values (hearer_after hearer first) now handles)

-- What waits then, and whether one is late.

rest-waits : (is_due : Handle → Bool) (handle : Handle) (waiting : List Handle) → is_waiting (rest_of (from_due is_due waiting)) handle ≡ true
    → is_waiting waiting handle ≡ true
rest-waits is_due handle [] is = cc is
rest-waits is_due handle (next ∷ rest) is = rest-waits-if (is_due next) (rest-waits is_due handle rest) is
  where
    rest-waits-if : (due : Bool) → (is_waiting (rest_of (from_due is_due rest)) handle ≡ true → is_waiting rest handle ≡ true)
        → is_waiting (rest_of (if due then next ∷ rest else from_due is_due rest)) handle ≡ true → ((next == handle) || is_waiting rest handle) ≡ true
    rest-waits-if true later waits = ap (λ (others : Bool). (next == handle) || others) waits ∙ or_with_true (next == handle)
    rest-waits-if false later waits = ap (λ (others : Bool). (next == handle) || others) (later waits) ∙ or_with_true (next == handle)

pub record Leaves (hearer : Hearer) (raised : List Handle) (pending : Indications) : Type 0 where
  pub waits : (handle : Handle) → is_waiting pending.waiting handle ≡ true → (is_waiting raised handle || is_waiting hearer.pending.waiting handle) ≡ true
  pub late : pending.timed_out ≡ hearer.pending.timed_out

leaves-at-end : (attributes : List Attr) (hearer : Hearer) (now : ℕ) (live may : Bool)
    → Leaves hearer [] (if live then (if may then (let due = from_due (is_indicated attributes hearer.row hearer.standing) hearer.pending.waiting in
    record hearer.pending { waiting = rest_of due; unconfirmed = option_map (unconfirmed_since now) (first_handle due) }) else hearer.pending)
    else hearer.pending)
leaves-at-end attributes hearer now true true = record {
  waits = λ handle. rest-waits (is_indicated attributes hearer.row hearer.standing) handle hearer.pending.waiting;
  late = refl;
}
leaves-at-end attributes hearer now true false = record { waits = λ handle is. is; late = refl }
leaves-at-end attributes hearer now false may = record { waits = λ handle is. is; late = refl }

pub leaves-in-turn : (attributes : List Attr) (values : Values) (hearer : Hearer) (now : ℕ) (handles : List Handle)
    → Leaves hearer handles (heard_in_turn attributes values hearer now handles).pending
leaves-in-turn attributes values hearer now [] = leaves-at-end attributes hearer now hearer.live (may_indicate hearer.pending hearer.backlog)
leaves-in-turn attributes values hearer now (handle ∷ handles) =
    let rest = leaves-in-turn attributes values (hearer_after hearer (heard_when_notifying attributes values hearer handle)) now handles in
    record {
      waits = λ other is. due-before attributes hearer handle handles other (rest.waits other is);
      late = rest.late ∙ raised-keeps (λ (pending : Indications). pending.timed_out) attributes hearer handle (λ pending waiting. refl);
    }
