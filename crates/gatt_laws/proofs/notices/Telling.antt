-- What is told keeps its promise.
use Rattle.gatt_laws.proofs.notices.AllowedNotices.{tells_no_refusals, tells_no_refused_commands}
use Rattle.gatt_laws.proofs.notices.AllowedNotices.{tells_nothing_ignored, tells_only_of_the_live}
use Rattle.gatt_laws.proofs.notices.AllowedWrites.{tells_what_was_allowed}
use Rattle.gatt_laws.proofs.notices.Deadline.{notices_each_who_is_late, notices_only_who_is_late, tells_from_the_deadline_on}
use Rattle.gatt_laws.proofs.notices.KeyNotices.{tells_each_key}
use Rattle.gatt_laws.proofs.notices.Knowing.{knows_the_values}
use Rattle.gatt_laws.proofs.notices.KnowingConfigurations.{knows_the_configurations}
use Rattle.gatt_laws.proofs.notices.KnowingWho.{always_has_one_handle_each, knows_who_is_there}
use Rattle.gatt_laws.proofs.notices.KnowingWho.{tells_who_is_there}
use Rattle.gatt_laws.proofs.notices.KnownKeys.{knows_the_keys}
use Rattle.gatt_laws.proofs.notices.Notices.{tells_each_value}
use Rattle.gatt_laws.proofs.notices.QuietTicks.{ends_authorizations, is_quiet_before_the_deadline}
use Rattle.gatt_laws.proofs.notices.RowNotices.{tells_each_bond, tells_each_own_row}
use Rattle.gatt_laws.proofs.notices.ServiceChanged.{notices_service_changed_confirmed}
use Rattle.gatt_laws.proofs.notices.SkipNotices.{notices_each_skipped, notices_only_what_is_skipped}
use Rattle.gatt_laws.proofs.notices.StreamNotices.{receives_of_the_division, tells_of_the_division}
use Rattle.gatt_laws.proofs.notices.ToldIsSo.{tells_what_is_so}
use Rattle.gatt_laws.specs.laws.Telling.{TellsTheApplication}

pub tells_the_application : TellsTheApplication
tells_the_application = record {
  knows_values = knows_the_values;
  knows_keys = knows_the_keys;
  knows_configurations = knows_the_configurations;
  so = tells_what_is_so;
  values = tells_each_value;
  own_rows = tells_each_own_row;
  bonds = tells_each_bond;
  keys = tells_each_key;
  service_changed = notices_service_changed_confirmed;
  knows_who = knows_who_is_there;
  who = tells_who_is_there;
  handles = always_has_one_handle_each;
  allowed = tells_what_was_allowed;
  no_refusals = tells_no_refusals;
  no_refused_commands = tells_no_refused_commands;
  nothing_ignored = tells_nothing_ignored;
  only_live = tells_only_of_the_live;
  deadline = tells_from_the_deadline_on;
  quiet = is_quiet_before_the_deadline;
  authorizations = ends_authorizations;
  only_late = notices_only_who_is_late;
  each_late = notices_each_who_is_late;
  each_skipped = notices_each_skipped;
  only_skipped = notices_only_what_is_skipped;
  division = tells_of_the_division;
  values_of_division = receives_of_the_division;
}
