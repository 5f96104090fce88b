-- What happens is taken in, one turn after another.
use Rattle.std.proofs.Common.{◌≡◌, ℕ, ◌+◌, ◌<◌, true, List, [], ◌∷◌, ◌++◌, length, Option, Some, None, Result, Ok, Err, refl, sym, ap, subst, ◌∙◌, arith, append_assoc, append-nil}
use Rattle.std.proofs.KnownBytes.{Consumes-nil, Consumes-trans}
use Rattle.std.proofs.lemmas.List.{length-append}
use Rattle.std.proofs.lemmas.List.Concat.{flat_map-append}
use Rattle.std.specs.Io.KnownBytes.{Consumes}
use Rattle.std.specs.List.{flat_map}
use Rattle.gatt_host.proofs.Promises.{fed_apart, fed_by_the_policy}
use Rattle.gatt_host.proofs.model.Feeds.{feeds_then, takes_none, takes_then}
use Rattle.gatt_host.proofs.model.Hearing.{hears_more, hears_nothing, listens_going, listens_then}
use Rattle.gatt_host.proofs.model.HearingTurns.{nothing_heard}
use Rattle.gatt_host.specs.declared.host_fault.HostFault.{HostFault}
use Rattle.gatt_host.specs.Feeding.{Feeds, TakesAll}
use Rattle.gatt_host.specs.Listening.{HearsOf, Listens}
use Rattle.gatt_host.specs.HostModel.{RefinesRun, HostModel, all_out}
use Rattle.gatt_laws.proofs.runs.Inputs.{items_append}
use Rattle.gatt_laws.specs.machine.Calls.{Call}
use Rattle.gatt_laws.specs.laws.Deadline.{deadline}
use Rattle.gatt_laws.specs.machine.Input.{Run, Item, after_items, run_at_start, run}
use Rattle.gatt_laws.specs.machine.Notice.{Received}
use Rattle.gatt_laws.specs.machine.Start.{Start}
use Rattle.octet_io.specs.Number.{Octets}
use Rattle.octet_io.specs.Stream.{CountsNone}
use Rattle.device_loop.specs.declared.serving.End.{End}
use Rattle.device_loop.specs.declared.serving.End.TheVariants as end
use Rattle.device_loop.specs.Happenings.{DeviceInput, Came, Asked, HistoryEntry, Waited, Happened, Ended, Failed, Hands, Records, input_octets, octets_that_came, calls_of, calls_in, input_items_of, items_in}
use Rattle.device_loop.specs.Serving.{IsOver, Known, RecordsAll, RecordsTheAnswer, ServesDevice, entries_recorded, entries_recorded_of, known, last_entries}

-- one more
joined-more : {A B : Type 0} (f : A → List B) (xs : List A) (x : A) → flat_map f xs ++ f x ≡ flat_map f (xs ++ x ∷ [])
joined-more f xs x = sym (flat_map-append f xs (x ∷ []) ∙ ap (λ ys. flat_map f xs ++ ys) (append-nil (f x)))

entries-more : (at : Run) (happened : List DeviceInput) (more : DeviceInput)
    → entries_recorded at (happened ++ more ∷ []) ≡ entries_recorded at happened ++ entries_recorded_of (after_items at (items_in happened)) more
entries-more at [] more = append-nil (entries_recorded_of at more)
entries-more at (happening ∷ happened) more =
    let next : Run = after_items at (input_items_of happening) in
    ap (λ (entries : List HistoryEntry). entries_recorded_of at happening ++ entries) (entries-more next happened more)
    ∙ ap (λ (later : Run). entries_recorded_of at happening ++ (entries_recorded next happened ++ entries_recorded_of later more))
    (sym (items_append at (input_items_of happening) (items_in happened)))
    ∙ sym (append_assoc (entries_recorded_of at happening) (entries_recorded next happened)
    (entries_recorded_of (after_items at (items_in (happening ∷ happened))) more))

-- nothing is handed out and recorded, and then more
hands-none : (calls : Option (List Call)) → Hands calls calls []
hands-none None = tt
hands-none (Some calls) = refl

hands-then : (before between after : Option (List Call)) (calls more : List Call) → Hands before between calls → Hands between after more
    → Hands before after (calls ++ more)
hands-then None between after calls more first second = tt
hands-then (Some before) None after calls more first second = absurd first
hands-then (Some before) (Some between) None calls more first second = absurd second
hands-then (Some before) (Some between) (Some after) calls more first second =
    first ∙ ap (λ (left : List Call). calls ++ left) second ∙ sym (append_assoc calls more after)

pub records_none : (history : Option (List HistoryEntry)) → Records [] history history
records_none None = tt
records_none (Some entries) = sym (append-nil entries)

pub records_then : (one other : List HistoryEntry) (before between after : Option (List HistoryEntry)) → Records one before between
    → Records other between after
    → Records (one ++ other) before after
records_then one other None between after first second = tt
records_then one other (Some before) None after first second = absurd first
records_then one other (Some before) (Some between) None first second = absurd second
records_then one other (Some before) (Some between) (Some after) first second =
    second ∙ ap (λ (entries : List HistoryEntry). entries ++ other) first ∙ append_assoc before one other

-- what is recorded of a turn, of turns, and of the last, wherever the host stood
abbrev pub RecordsTurn : DeviceInput → HostModel → Option (List HistoryEntry) → Option (List HistoryEntry) → Type 0
RecordsTurn happening old before after = (start : Start) (input : List Item) (sent : List Octets) → RefinesRun (run start input) sent old
    → Records (entries_recorded_of (run start input) happening) before after

abbrev pub RecordsTurns : List DeviceInput → HostModel → Option (List HistoryEntry) → Option (List HistoryEntry) → Type 0
RecordsTurns happened old before after = (start : Start) (input : List Item) (sent : List Octets) → RefinesRun (run start input) sent old
    → Records (entries_recorded (run start input) happened) before after

abbrev pub RecordsLast : Result End HostFault → HostModel → Option (List HistoryEntry) → Option (List HistoryEntry) → Type 0
RecordsLast result old before after = (start : Start) (input : List Item) (sent : List Octets) → RefinesRun (run start input) sent old
    → Records (last_entries (run start input) result) before after

-- a deadline is that of the run
abbrev pub IsDeadline : Option ℕ → HostModel → Type 0
IsDeadline until whole = (start : Start) (input : List Item) (sent : List Octets) → RefinesRun (run start input) sent whole
    → until ≡ deadline (run start input).intake.state

module _ (until : Option ℕ) (whole : HostModel) (before between after : Option (List HistoryEntry)) (is_deadline : IsDeadline until whole) where
  pub came_recorded : (octets : Octets) → Records (Waited until ∷ Happened (Came octets) ∷ []) before after → RecordsTurn (Came octets) whole before after
  came_recorded octets records start input sent is =
      subst (λ (until : Option ℕ). Records (Waited until ∷ Happened (Came octets) ∷ []) before after) (is_deadline start input sent is) records

  pub asked_recorded : (call : Call) → Records (Waited until ∷ Happened (Asked call) ∷ []) before between → RecordsTheAnswer call whole between after
      → RecordsTurn (Asked call) whole before after
  asked_recorded call records answers start input sent is =
      records_then (Waited (deadline (run start input).intake.state) ∷ Happened (Asked call) ∷ []) _ before between after
      (subst (λ (until : Option ℕ). Records (Waited until ∷ Happened (Asked call) ∷ []) before between) (is_deadline start input sent is) records)
      (answers start input sent is)

  pub ended_recorded : Records (Waited until ∷ Ended ∷ []) before after → RecordsLast (Ok end.Ended) whole before after
  ended_recorded records start input sent is =
      subst (λ (until : Option ℕ). Records (Waited until ∷ Ended ∷ []) before after) (is_deadline start input sent is) records

  pub failed_recorded : Records (Waited until ∷ Failed ∷ []) before after → RecordsLast (Ok end.Failed) whole before after
  failed_recorded records start input sent is =
      subst (λ (until : Option ℕ). Records (Waited until ∷ Failed ∷ []) before after) (is_deadline start input sent is) records

-- so many turns brought this, and it is recorded
pub record HasCome (count : ℕ) (happened : List DeviceInput) (old : HostModel) (come comes : Known) : Type 0 where
  pub many : length happened ≡ count
  pub octets : Consumes come.octets comes.octets (octets_that_came happened)
  pub calls : Hands come.calls comes.calls (calls_in happened)
  pub records : RecordsTurns happened old come.history comes.history

-- and it is taken in and heard of, and what it brought is written
pub record HasServed (count : ℕ) (old new : HostModel) (come comes : Known) (before after : Option Octets) (heard hears : Option (List Received)) : Type 0 where
  pub happened : List DeviceInput
  pub has_come : HasCome count happened old come comes
  pub takes : TakesAll (items_in happened) old new before after
  pub hearing : HearsOf (items_in happened) old heard hears

-- what happens next
pub record Comes (happening : DeviceInput) (whole : HostModel) (come comes : Known) : Type 0 where
  pub octets : Consumes come.octets comes.octets (input_octets happening)
  pub calls : Hands come.calls comes.calls (calls_of happening)
  pub records : RecordsTurn happening whole come.history comes.history

come-none : (old : HostModel) (come : Known) → HasCome 0 [] old come come
come-none old come = record {
  many = refl;
  octets = Consumes-nil come.octets;
  calls = hands-none come.calls;
  records = λ start input sent is. records_none come.history;
}

pub served_none : (old new : HostModel) (come : Known) (before after : Option Octets) (heard : Option (List Received)) → TakesAll [] old new before after
    → HasServed 0 old new come come before after heard heard
served_none old new come before after heard takes = record {
  happened = [];
  has_come = come-none old come;
  takes = takes;
  hearing = hears_nothing old heard;
}

module _ (count : ℕ) (old mid : HostModel) (come between : Known) (before written : Option Octets) (heard known : Option (List Received))
    (so_far : HasServed count old mid come between before written heard known) where
  records-more : (more : DeviceInput) (after : Option (List HistoryEntry)) → RecordsTurn more mid between.history after
      → RecordsTurns (so_far.happened ++ more ∷ []) old come.history after
  unfolding run
  records-more more after records start input sent is =
      let at : Run = run start input in
      let later : Run = run start (input ++ items_in so_far.happened) in
      subst (λ (entries : List HistoryEntry). Records entries come.history after)
      (ap (λ (later : Run). entries_recorded at so_far.happened ++ entries_recorded_of later more)
      (items_append (run_at_start start) input (items_in so_far.happened))
      ∙ sym (entries-more at so_far.happened more))
      (records_then (entries_recorded at so_far.happened) (entries_recorded_of later more) come.history between.history after
      (so_far.has_come.records start input sent is)
      (records start (input ++ items_in so_far.happened) (sent ++ so_far.takes.packets) (so_far.takes.refines start input sent is)))

  come-more : (more : DeviceInput) (comes : Known) → Comes more mid between comes → HasCome (count + 1) (so_far.happened ++ more ∷ []) old come comes
  come-more more comes next = record {
    many = length-append so_far.happened (more ∷ []) ∙ ap (λ (count : ℕ). count + 1) so_far.has_come.many;
    octets = subst (Consumes come.octets comes.octets) (joined-more input_octets so_far.happened more)
        (Consumes-trans come.octets between.octets comes.octets (octets_that_came so_far.happened) (input_octets more) so_far.has_come.octets next.octets);
    calls = subst (Hands come.calls comes.calls) (joined-more calls_of so_far.happened more)
        (hands-then come.calls between.calls comes.calls (calls_in so_far.happened) (calls_of more) so_far.has_come.calls next.calls);
    records = records-more more comes.history next.records;
  }

  pub served_more : (more : DeviceInput) (new : HostModel) (comes : Known) (after : Option Octets) (hears : Option (List Received))
      → Comes more mid between comes
      → TakesAll (input_items_of more) mid new written after → HearsOf (input_items_of more) mid known hears
      → HasServed (count + 1) old new come comes before after heard hears
  served_more more new comes after hears next takes hearing = record {
    happened = so_far.happened ++ more ∷ [];
    has_come = come-more more comes next;
    takes = subst (λ (items : List Item). TakesAll items old new before after) (joined-more input_items_of so_far.happened more)
        (takes_then (items_in so_far.happened) (input_items_of more) old mid new before written after so_far.takes takes);
    hearing = subst (λ (items : List Item). HearsOf items old heard hears) (joined-more input_items_of so_far.happened more)
        (hears_more (items_in so_far.happened) (input_items_of more) so_far.takes.packets old mid so_far.takes.refines heard known hears so_far.hearing
        hearing);
  }

  -- the host stops at it
  stops-at : (turns : ℕ) (fault : HostFault) (more : DeviceInput) (new : HostModel) (comes : Known) (after : Option Octets) (hears : Option (List Received))
      → count < turns
      → mid.fault ≡ None → Comes more mid between comes → Feeds (input_items_of more) mid new written after new.fault
      → Listens (input_items_of more) mid new new.fault known hears
      → ServesDevice (Err fault) turns old new come comes before after heard hears
  stops-at turns fault more new comes after hears few none next feeds listens =
      let all : HasCome (count + 1) (so_far.happened ++ more ∷ []) old come comes = come-more more comes next in
      let fed : Feeds (items_in (so_far.happened ++ more ∷ [])) old new before after new.fault =
      subst (λ (items : List Item). Feeds items old new before after new.fault) (joined-more input_items_of so_far.happened more)
      (feeds_then (items_in so_far.happened) (input_items_of more) old mid new before written after new.fault so_far.takes feeds) in
      record {
        happened = so_far.happened ++ more ∷ [];
        octets = all.octets;
        calls = all.calls;
        feeds = fed;
        policy = fed_by_the_policy (items_in (so_far.happened ++ more ∷ [])) old new before after fed;
        apart = fed_apart (items_in (so_far.happened ++ more ∷ [])) old new before after fed;
        listens = subst (λ (items : List Item). Listens items old new new.fault heard hears) (joined-more input_items_of so_far.happened more)
            (listens_then (items_in so_far.happened) (input_items_of more) so_far.takes.packets old mid new heard known hears new.fault so_far.takes.refines
            so_far.hearing listens);
        records = λ start input sent is.
            subst (λ (entries : List HistoryEntry). Records entries come.history comes.history)
            (sym (append-nil (entries_recorded (run start input) (so_far.happened ++ more ∷ [])))) (all.records start input sent is);
        over = omega (arith, all.many, few);
        stops = record {
          first = so_far.happened;
          last = more ∷ [];
          parts = refl;
          one = omega arith;
          between = mid;
          written = written;
          takes = so_far.takes;
          going = none;
          stops = subst (λ (items : List Item). Feeds items mid new written after new.fault) (sym (append-nil (input_items_of more))) feeds;
        };
      }

  pub serves_stopped : (result : Result End HostFault) (turns : ℕ) (fault : HostFault) (more : DeviceInput) (new : HostModel) (comes : Known)
      (after : Option Octets) (hears : Option (List Received))
      → result ≡ Err fault → count < turns → mid.fault ≡ None → Comes more mid between comes → Feeds (input_items_of more) mid new written after new.fault
      → Listens (input_items_of more) mid new new.fault known hears → ServesDevice result turns old new come comes before after heard hears
  serves_stopped result turns fault more new comes after hears is few none next feeds listens =
      subst (λ (result : Result End HostFault). ServesDevice result turns old new come comes before after heard hears) (sym is)
      (stops-at turns fault more new comes after hears few none next feeds listens)

  -- nothing more happens
  records-last : (last : End) (after : Option (List HistoryEntry)) → RecordsLast (Ok last) mid between.history after
      → RecordsAll so_far.happened (Ok last) old come.history after
  unfolding run
  records-last last after records start input sent is =
      let at : Run = run start input in
      let later : Run = run start (input ++ items_in so_far.happened) in
      subst (λ (later : Run). Records (entries_recorded at so_far.happened ++ last_entries later (Ok last)) come.history after)
      (items_append (run_at_start start) input (items_in so_far.happened))
      (records_then (entries_recorded at so_far.happened) (last_entries later (Ok last)) come.history between.history after
      (so_far.has_come.records start input sent is)
      (records start (input ++ items_in so_far.happened) (sent ++ so_far.takes.packets) (so_far.takes.refines start input sent is)))

  pub serves_ended : (turns : ℕ) (last : End) (comes : Known) → mid.fault ≡ None → IsOver (Ok last) turns count → Consumes between.octets comes.octets []
      → Hands between.calls comes.calls []
      → RecordsLast (Ok last) mid between.history comes.history → ServesDevice (Ok last) turns old mid come comes before written heard known
  serves_ended turns last comes none over octets calls records =
      let fed : Feeds (items_in so_far.happened) old mid before written mid.fault =
      subst (λ (found : Option HostFault). Feeds (items_in so_far.happened) old mid before written found) (sym none) so_far.takes in
      record {
        happened = so_far.happened;
        octets = subst (Consumes come.octets comes.octets) (append-nil (octets_that_came so_far.happened))
            (Consumes-trans come.octets between.octets comes.octets (octets_that_came so_far.happened) [] so_far.has_come.octets octets);
        calls = subst (Hands come.calls comes.calls) (append-nil (calls_in so_far.happened))
            (hands-then come.calls between.calls comes.calls (calls_in so_far.happened) [] so_far.has_come.calls calls);
        feeds = fed;
        policy = fed_by_the_policy (items_in so_far.happened) old mid before written fed;
        apart = fed_apart (items_in so_far.happened) old mid before written fed;
        listens = listens_going (items_in so_far.happened) old mid heard known mid.fault none so_far.hearing;
        records = records-last last comes.history records;
        over = subst (IsOver (Ok last) turns) (sym so_far.has_come.many) over;
        stops = tt;
      }

  pub serves_all : (turns : ℕ) → mid.fault ≡ None → count ≡ turns → ServesDevice (Ok end.Turns) turns old mid come between before written heard known
  serves_all turns none over =
      serves_ended turns end.Turns between none over (Consumes-nil between.octets) (hands-none between.calls)
      (λ start input sent is. records_none between.history)

-- the host stops before anything happens
nothing-happens : (turns : ℕ) (fault : HostFault) (old new : HostModel) (come : Known) (before after : Option Octets) (heard : Option (List Received))
    → old.fault ≡ None
    → Feeds [] old new before after new.fault → ServesDevice (Err fault) turns old new come come before after heard heard
nothing-happens turns fault old new come before after heard none feeds = record {
  happened = [];
  octets = Consumes-nil come.octets;
  calls = hands-none come.calls;
  feeds = feeds;
  policy = fed_by_the_policy [] old new before after feeds;
  apart = fed_apart [] old new before after feeds;
  listens = nothing_heard old new before after heard new.fault feeds;
  records = λ start input sent is. records_none come.history;
  over = omega arith;
  stops = record {
    first = [];
    last = [];
    parts = refl;
    one = omega arith;
    between = old;
    written = before;
    takes = takes_none old before;
    going = none;
    stops = feeds;
  };
}

pub serves_nothing : (result : Result End HostFault) (turns : ℕ) (fault : HostFault) (old new : HostModel) (come : Known) (before after : Option Octets)
    (heard : Option (List Received))
    → result ≡ Err fault → old.fault ≡ None → Feeds [] old new before after new.fault → ServesDevice result turns old new come come before after heard heard
serves_nothing result turns fault old new come before after heard is none feeds =
    subst (λ (result : Result End HostFault). ServesDevice result turns old new come come before after heard heard) (sym is)
    (nothing-happens turns fault old new come before after heard none feeds)

-- octets come, or a call
pub octets_come : (octets : Octets) (until : Option ℕ) (whole : HostModel) (come comes : Known) → IsDeadline until whole
    → Consumes come.octets comes.octets octets
    → Hands come.calls comes.calls [] → Records (Waited until ∷ Happened (Came octets) ∷ []) come.history comes.history → Comes (Came octets) whole come comes
octets_come octets until whole come comes is_deadline consumes hands records = record {
  octets = consumes;
  calls = hands;
  records = came_recorded until whole come.history comes.history comes.history is_deadline octets records;
}

pub call_comes : (call : Call) (until : Option ℕ) (whole : HostModel) (come asks comes : Known) → IsDeadline until whole → Consumes come.octets asks.octets []
    → Hands come.calls asks.calls (call ∷ []) → Records (Waited until ∷ Happened (Asked call) ∷ []) come.history asks.history
    → comes.octets ≡ asks.octets → comes.calls ≡ asks.calls → RecordsTheAnswer call whole asks.history comes.history → Comes (Asked call) whole come comes
call_comes call until whole come asks comes is_deadline consumes hands records same_octets same_calls answers = record {
  octets = subst (λ (octets : Option Octets). Consumes come.octets octets []) (sym same_octets) consumes;
  calls = subst (λ (calls : Option (List Call)). Hands come.calls calls (call ∷ [])) (sym same_calls) hands;
  records = asked_recorded until whole come.history asks.history comes.history is_deadline call records answers;
}

-- what a turn leads to, under other names
pub record Goes (count : ℕ) (old new : HostModel) (come comes : Known) (before after : Option Octets) (heard hears : Option (List Received))
    (counted counts : Option ℕ) : Type 0 where
  pub served : HasServed count old new come comes before after heard hears
  pub none : new.fault ≡ None
  pub drained : all_out new ≡ true
  pub failures : CountsNone counted counts

pub known_as : (octets other_octets : Option Octets) (calls other_calls : Option (List Call)) (history other_history : Option (List HistoryEntry))
    → octets ≡ other_octets
    → calls ≡ other_calls → history ≡ other_history → known octets calls history ≡ known other_octets other_calls other_history
known_as octets other_octets calls other_calls history other_history same_octets same_calls same_history =
    λ i. known (same_octets i) (same_calls i) (same_history i)

pub goes_as : (count : ℕ) (old new at : HostModel) (come comes knows : Known) (before after holds : Option Octets)
    (heard hears hearing : Option (List Received))
    (counted counts counting : Option ℕ) → at ≡ new → knows ≡ comes → holds ≡ after → hearing ≡ hears → counting ≡ counts
    → Goes count old new come comes before after heard hears counted counts → Goes count old at come knows before holds heard hearing counted counting
goes_as count old new at come comes knows before after holds heard hears hearing counted counts counting first second third fourth fifth goes =
    subst (λ (it : HostModel). Goes count old it come knows before holds heard hearing counted counting) (sym first)
    (subst (λ (it : Known). Goes count old new come it before holds heard hearing counted counting) (sym second)
    (subst (λ (it : Option Octets). Goes count old new come comes before it heard hearing counted counting) (sym third)
    (subst (λ (it : Option (List Received)). Goes count old new come comes before after heard it counted counting) (sym fourth)
    (subst (λ (it : Option ℕ). Goes count old new come comes before after heard hears counted it) (sym fifth) goes))))
