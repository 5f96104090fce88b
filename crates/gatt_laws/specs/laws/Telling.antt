-- The promise about the notices that an application receives.
use Rattle.gatt_laws.specs.laws.AllowedNotices.{TellsNoRefusals, TellsNoRefusedCommands, TellsNothingIgnored}
use Rattle.gatt_laws.specs.laws.AllowedNotices.{TellsOnlyOfTheLive, TellsWhatWasAllowed}
use Rattle.gatt_laws.specs.laws.Deadline.{EndsAuthorizations, IsQuietBeforeTheDeadline}
use Rattle.gatt_laws.specs.laws.Deadline.{NoticesEachWhoIsLate, NoticesOnlyWhoIsLate, TellsFromTheDeadlineOn}
use Rattle.gatt_laws.specs.laws.KnownConfigurations.{KnowsTheConfigurations}
use Rattle.gatt_laws.specs.laws.KnownKeys.{KnowsTheKeys}
use Rattle.gatt_laws.specs.laws.Notices.{KnowsTheValues, TellsEachValue}
use Rattle.gatt_laws.specs.laws.Present.{AlwaysHasOneHandleEach, KnowsWhoIsThere, TellsWhoIsThere}
use Rattle.gatt_laws.specs.laws.RowNotices.{TellsEachBond, TellsEachKey, TellsEachOwnRow}
use Rattle.gatt_laws.specs.laws.ServiceChanged.{NoticesServiceChangedConfirmed}
use Rattle.gatt_laws.specs.laws.Skipped.{NoticesEachSkipped, NoticesOnlyWhatIsSkipped}
use Rattle.gatt_laws.specs.laws.StreamNotices.{ReceivesOfTheDivision, TellsOfTheDivision}
use Rattle.gatt_laws.specs.laws.ToldIsSo.{TellsWhatIsSo}

-- In every run a listener knows each value, key and configuration, and who is connected. At each
-- event a notice is true, and no value, configuration, key or pending Service Changed changes
-- without a notice or a call of the application. Writes with a notice were permitted, and nothing
-- refused or ignored causes one. A Tick notifies of each late indication and of nothing else. A
-- Tick before the deadline causes no notice, and only the packets that the event `Nothing` would;
-- one at the end of an authorization ends it. Each skipped value causes a notice, and nothing else
-- causes one of that kind. The cuts of octets do not matter.
pub record TellsTheApplication : Type 0 where
  -- A listener that reads each value when it is notified of it knows each value, the facts of each
  -- link's key, and each configuration; after a replacement it reads the configurations again.
  pub knows_values : KnowsTheValues
  pub knows_keys : KnowsTheKeys
  pub knows_configurations : KnowsTheConfigurations
  -- A notice is true after its event.
  pub so : TellsWhatIsSo
  -- Event by event, values, configurations, keys and pending Service Changed change only with a
  -- notice, by an update, or with the table, and an own row also as its connection begins or ends.
  pub values : TellsEachValue
  pub own_rows : TellsEachOwnRow
  pub bonds : TellsEachBond
  pub keys : TellsEachKey
  pub service_changed : NoticesServiceChangedConfirmed
  -- A listener knows who is connected, because the notices say so.
  pub knows_who : KnowsWhoIsThere
  pub who : TellsWhoIsThere
  -- No two connections with a slot have the same handle.
  pub handles : AlwaysHasOneHandleEach
  -- Each write with a notice was permitted.
  pub allowed : TellsWhatWasAllowed
  -- There is no notice of a refused request, if the queue has space for the refusal; of a refused
  -- Write Command; of an ignored PDU; or of an ending or absent connection, except that it connects
  -- or disconnects.
  pub no_refusals : TellsNoRefusals
  pub no_refused_commands : TellsNoRefusedCommands
  pub nothing_ignored : TellsNothingIgnored
  pub only_live : TellsOnlyOfTheLive
  -- A tick notifies of late indications only from the deadline of indications on. Before the
  -- deadline it causes no notice and the same packets as the event `Nothing`, and each connection
  -- may do the same.
  pub deadline : TellsFromTheDeadlineOn
  pub quiet : IsQuietBeforeTheDeadline
  -- A tick at the end of an authorization or later ends it.
  pub authorizations : EndsAuthorizations
  -- A tick notifies of each late indication, and of nothing else.
  pub only_late : NoticesOnlyWhoIsLate
  pub each_late : NoticesEachWhoIsLate
  -- Each value that an event notifies to a connection that serves, may be notified and has not
  -- timed out is sent, waits to be indicated or causes a notice `Skipped`. A handle that waits from
  -- before does not count if the client requests no indications any more.
  pub each_skipped : NoticesEachSkipped
  -- Such a notice is of a client that requested no indications, and of a value before which 8 PDUs
  -- or more are queued.
  pub only_skipped : NoticesOnlyWhatIsSkipped
  -- How octets are cut changes no notice and no value in one.
  pub division : TellsOfTheDivision
  pub values_of_division : ReceivesOfTheDivision
