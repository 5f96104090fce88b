-- The promise is kept.
use Rattle.gatt_conn.proofs.Dues.{answered_where_due}
use Rattle.gatt_laws.proofs.runs.Inputs.{continues, has_gone_by_events, keeps_what_is_gone}
use Rattle.gatt_laws.proofs.invariants.Given.{brings_what_it_gives, is_given_the_front}
use Rattle.gatt_laws.proofs.policy.Headline.{refusals_change_nothing, sends_what_may_be_read, writes_what_may_be_written}
use Rattle.gatt_laws.proofs.policy.MayBeHeard.{tells_what_may_be_heard}
use Rattle.gatt_laws.proofs.runs.NextConnections.{gives_nothing_to_the_absent}
use Rattle.gatt_laws.proofs.isolation.NothingCrosses.{crosses_nowhere, leaves_connections_the_same, nothing_crosses}
use Rattle.gatt_laws.proofs.isolation.OwnQueues.{leaves_others_prepared}
use Rattle.gatt_laws.proofs.policy.OwnWrites.{executes_its_own}
use Rattle.gatt_laws.proofs.policy.Preparing.{prepares_by_itself, prepares_the_same}
use Rattle.gatt_laws.proofs.invariants.RowsOfTheTable.{always_has_rows_of_its_table}
use Rattle.gatt_laws.proofs.isolation.SameView.{does_the_same_to_who_sees_the_same, leaves_who_sees_nothing}
use Rattle.gatt_laws.proofs.runs.Streams.{takes_the_division}
use Rattle.gatt_laws.proofs.isolation.TwoWorlds.{gives_the_same, keeps_alike}
use Rattle.gatt_laws.proofs.runs.Unfinished.{leaves_less_than_a_packet}
use Rattle.gatt_laws.proofs.invariants.ValuesOfTheTable.{always_has_a_table}
use Rattle.gatt_laws.proofs.invariants.WaitingOfTheTable.{always_has_waiting_of_its_table}
use Rattle.gatt_laws.proofs.invariants.Queued.{always_has_bounded_queues}
use Rattle.gatt_laws.proofs.policy.Refusals.{refuses_by_the_first_broken_rule, refuses_the_first_entry, refuses_the_first_handle, refuses_the_first_listed}
use Rattle.gatt_laws.proofs.runs.Runs.{is_where_events_lead}
use Rattle.gatt_laws.proofs.isolation.SameRun.{same_view_same_packets}
use Rattle.gatt_laws.proofs.runs.Silence.{gives_all_that_it_may, only_serves_the_live, only_the_live_act}
use Rattle.gatt_laws.proofs.notices.Telling.{tells_the_application}
use Rattle.gatt_theorems.proofs.Alone.{gives_the_same_to_one, keeps_alike_to_one, nothing_crosses_to_one_in_runs}
use Rattle.gatt_theorems.proofs.Changed.{changes_bonds_by_right, changes_own_rows_by_right, changes_values_by_right}
use Rattle.gatt_theorems.proofs.FirstCase.{ignored_changes_nothing, refused_changes_nothing, refuses_by_the_first_case}
use Rattle.gatt_theorems.proofs.Front.{is_always_given_the_front}
use Rattle.gatt_theorems.proofs.Gained.{gains_only_what_is_due}
use Rattle.gatt_theorems.proofs.Standing.{authorizes_by_the_application, encrypts_by_the_controller, keeps_the_guards, keeps_the_keys, tells_the_time_alone}
use Rattle.gatt_theorems.proofs.Stopping.{takes_all_data}
use Rattle.gatt_theorems.proofs.Waiting.{waits_only_behind_a_backlog}
use Rattle.gatt_theorems.specs.Promise.{KeepsConnectionsApart, KeepsThePolicy, Promise, RunsInOrder}

pub keeps_the_policy : KeepsThePolicy
keeps_the_policy = record {
  gains = gains_only_what_is_due;
  answers = answered_where_due;
  guards = keeps_the_guards;
  keys = keeps_the_keys;
  authorizations = authorizes_by_the_application;
  links = encrypts_by_the_controller;
  time = tells_the_time_alone;
  silent = only_serves_the_live;
  inert = only_the_live_act;
  takes_all = takes_all_data;
  sends = sends_what_may_be_read;
  values = changes_values_by_right;
  own_rows = changes_own_rows_by_right;
  bonds = changes_bonds_by_right;
  refuses = refuses_by_the_first_case;
  refused_unchanged = refused_changes_nothing;
  ignored_unchanged = ignored_changes_nothing;
  gives = is_always_given_the_front;
  gives_by_now = is_given_the_front;
  gives_all = gives_all_that_it_may;
  waits = waits_only_behind_a_backlog;
  bounded = always_has_bounded_queues;
  tells = tells_what_may_be_heard;
  writes = writes_what_may_be_written;
  refuses_named = refuses_by_the_first_broken_rule;
  refuses_listed = refuses_the_first_listed;
  refuses_handles = refuses_the_first_handle;
  refuses_entries = refuses_the_first_entry;
  answers_unchanged = refusals_change_nothing;
}

pub keeps_connections_apart : KeepsConnectionsApart
keeps_connections_apart = record {
  executes = executes_its_own;
  prepares = prepares_the_same;
  prepares_by_itself = prepares_by_itself;
  leaves_prepared = leaves_others_prepared;
  crosses = nothing_crosses;
  crosses_of_any = crosses_nowhere;
  leaves = leaves_connections_the_same;
  keeps_alike = keeps_alike;
  gives_the_same = gives_the_same;
  crosses_to_one = nothing_crosses_to_one_in_runs;
  keeps_alike_to_one = keeps_alike_to_one;
  gives_the_same_to_one = gives_the_same_to_one;
  views = same_view_same_packets;
  sees_nothing = leaves_who_sees_nothing;
  sees_the_same = does_the_same_to_who_sees_the_same;
  absent = gives_nothing_to_the_absent;
}

pub runs_in_order : RunsInOrder
runs_in_order = record {
  continues = continues;
  keeps = keeps_what_is_gone;
  divides = takes_the_division;
  unfinished = leaves_less_than_a_packet;
  events = is_where_events_lead;
  sent = has_gone_by_events;
  brings = brings_what_it_gives;
  table = always_has_a_table;
  rows = always_has_rows_of_its_table;
  waiting = always_has_waiting_of_its_table;
}

pub keeps_its_promise : Promise
keeps_its_promise = record {
  order = runs_in_order;
  policy = keeps_the_policy;
  apart = keeps_connections_apart;
  application = tells_the_application;
}
