-- The promise of the host for every run, however connections interleave. A start (a table, keys,
-- rows and a configuration) and an input (octets, packets, calls and tables) lead to a run: a state
-- and all packets that are sent (specs/machine of gatt_laws). The contracts of the host tie its
-- calls to runs. Each field is proved.
use Rattle.gatt_laws.specs.laws.Given.{BringsWhatItGives, IsGivenTheFront}
use Rattle.gatt_laws.specs.laws.Headline.{RefusalsChangeNothing, SendsWhatMayBeRead, WritesWhatMayBeWritten}
use Rattle.gatt_laws.specs.laws.Laws.{ContinuesItsRun, KeepsWhatIsSent, LeavesLessThanAPacket, TakesTheDivision}
use Rattle.gatt_laws.specs.laws.MayBeHeard.{TellsWhatMayBeHeard}
use Rattle.gatt_laws.specs.laws.NothingCrosses.{LeavesConnectionsTheSame, NothingCrosses}
use Rattle.gatt_laws.specs.laws.OwnQueues.{LeavesOthersPrepared}
use Rattle.gatt_laws.specs.laws.OwnWrites.{ExecutesItsOwn}
use Rattle.gatt_laws.specs.laws.Preparing.{PreparesByItself, PreparesTheSame}
use Rattle.gatt_laws.specs.laws.Queued.{AlwaysHasBoundedQueues}
use Rattle.gatt_laws.specs.laws.Refusals.{RefusesByTheFirstBrokenRule, RefusesTheFirstEntry, RefusesTheFirstHandle, RefusesTheFirstListed}
use Rattle.gatt_laws.specs.laws.RowsOfTheTable.{AlwaysHasRowsOfItsTable}
use Rattle.gatt_laws.specs.laws.Runs.{HasSentByEvents, IsAfterItsEvents}
use Rattle.gatt_laws.specs.laws.SameView.{DoesTheSameToWhoSeesTheSame, LeavesWhoSeesNothing, SameViewSamePackets}
use Rattle.gatt_laws.specs.laws.Silence.{GivesAllThatItMay, OnlyServesTheLive, OnlyTheLiveAct}
use Rattle.gatt_laws.specs.laws.Telling.{TellsTheApplication}
use Rattle.gatt_laws.specs.laws.TwoWorlds.{GivesNothingToTheAbsent, GivesTheSame, KeepsAlike}
use Rattle.gatt_laws.specs.laws.ValuesOfTheTable.{AlwaysHasATable}
use Rattle.gatt_laws.specs.laws.WaitingOfTheTable.{AlwaysHasWaitingOfItsTable}
use Rattle.gatt_theorems.specs.Alone.{GivesTheSameToOne, KeepsAlikeToOne, NothingCrossesToOneInRuns}
use Rattle.gatt_theorems.specs.Changed.{ChangesBondsByRight, ChangesOwnRowsByRight, ChangesValuesByRight}
use Rattle.gatt_theorems.specs.Crossing.{NothingCrossesOfAny}
use Rattle.gatt_theorems.specs.FirstCase.{AnswersWhereDue, IgnoredChangesNothing, RefusedChangesNothing, RefusesByTheFirstCase}
use Rattle.gatt_theorems.specs.Front.{IsAlwaysGivenTheFront}
use Rattle.gatt_theorems.specs.Gained.{GainsOnlyWhatIsDue}
use Rattle.gatt_theorems.specs.Standing.{AuthorizesByTheApplication, EncryptsByTheController, KeepsTheGuards, KeepsTheKeys, TellsTheTimeAlone}
use Rattle.gatt_theorems.specs.Stopping.{TakesAllData}
use Rattle.gatt_theorems.specs.Waiting.{WaitsOnlyBehindABacklog}

-- Each connection is sent a prefix of the answers of the policy, and changes only what it may
-- change.
pub record KeepsThePolicy : Type 0 where
  -- At an event the queue of a connection gains the answer to its own PDU, by what held before the
  -- event, unless 16 PDUs wait; then at most notifications of values that the event notifies, and
  -- one indication of a value that was notified or waited, if none is unconfirmed. Each value is as
  -- after the event, as far as it fits the ATT_MTU; the connection may then be sent it, in the way
  -- that its row asks, and has not timed out. `heard_in_turn` (specs/machine/Heard.antt of
  -- gatt_laws) defines which values are notified at all.
  pub gains : GainsOnlyWhatIsDue
  -- There is an answer exactly if one is expected, and the connection may then read each handle
  -- whose value it contains.
  pub answers : AnswersWhereDue
  pub sends : SendsWhatMayBeRead
  -- An expected answer is an Error Response exactly if a case of the list of refusals applies, and
  -- then by the first.
  pub refuses : RefusesByTheFirstCase
  -- Refused requests and commands, and ignored PDUs, change no value, configuration, ATT_MTU or
  -- prepared write, and notify nobody, except that an execution leaves nothing prepared.
  pub refused_unchanged : RefusedChangesNothing
  pub ignored_unchanged : IgnoredChangesNothing
  -- A value changes at an event that is possible (specs/laws/Possible.antt of gatt_laws) only if
  -- the acting connection asked to write it and may, by its standing before the event, or the
  -- application wrote it, or the table was replaced.
  pub values : ChangesValuesByRight
  -- A configuration changes in the same way: in the own row while the link has no key, else in the
  -- peer's bond. It also changes if the connection connects or disconnects, and then is empty, or
  -- if the table is replaced.
  pub own_rows : ChangesOwnRowsByRight
  pub bonds : ChangesBondsByRight
  -- Rights change only as follows: attributes with their guards when the table is replaced; keys of
  -- peers never; authorization and time by the application; the key of a link by reports of the
  -- controller; authorization and key also if the connection connects or disconnects. specs/machine
  -- and Link.antt of le_security define the new values.
  pub guards : KeepsTheGuards
  pub keys : KeepsTheKeys
  pub authorizations : AuthorizesByTheApplication
  pub links : EncryptsByTheController
  pub time : TellsTheTimeAlone
  -- A connection, even a disconnected one, was given a prefix of what was queued for it; if it is
  -- there, exactly the number of packets that its state counts as given. One that serves is given
  -- all that its share allows, and at most 16 PDUs wait. Nothing is queued for or given to one that
  -- is ending or absent.
  pub gives : IsAlwaysGivenTheFront
  pub gives_by_now : IsGivenTheFront
  pub gives_all : GivesAllThatItMay
  pub bounded : AlwaysHasBoundedQueues
  pub silent : OnlyServesTheLive
  -- Only connecting and disconnecting change anything of such a connection.
  pub inert : OnlyTheLiveAct
  -- An indication waits after an event, on a connection that serves and never timed out, only if
  -- another is unconfirmed, or if 8 PDUs or more were queued before packets were given; fewer may
  -- be left then.
  pub waits : WaitsOnlyBehindABacklog
  -- No data of a client stops the host.
  pub takes_all : TakesAllData
  -- The same in smaller pieces, for any table and row: values are sent unasked, and written, only
  -- if they then may be.
  pub tells : TellsWhatMayBeHeard
  pub writes : WritesWhatMayBeWritten
  -- A refusal names the handle of the request, the first attribute of a list by type, the first
  -- refused one of several handles, or the first refused entry of prepared writes.
  pub refuses_named : RefusesByTheFirstBrokenRule
  pub refuses_listed : RefusesTheFirstListed
  pub refuses_handles : RefusesTheFirstHandle
  pub refuses_entries : RefusesTheFirstEntry
  -- An Error Response changes nothing, except that an execution leaves nothing prepared.
  pub answers_unchanged : RefusalsChangeNothing

-- Nothing crosses from one connection to another.
pub record KeepsConnectionsApart : Type 0 where
  -- An accepted execution writes only what the connection itself has prepared.
  pub executes : ExecutesItsOwn
  -- Until it is ended, a connection has prepared the same in all runs from one start with the same
  -- own events, times and tables. Event by event the same holds of all that decides it: its peer,
  -- its authorization, the steps of its link and its ATT_MTU. An event of one connection leaves the
  -- prepared writes and ATT_MTUs of all others.
  pub prepares : PreparesTheSame
  pub prepares_by_itself : PreparesByItself
  pub leaves_prepared : LeavesOthersPrepared
  -- Starts and inputs with the same octets, packets and calls give a peer's connections the same
  -- packets if their tables agree. Tables agree if they differ only in octets, not lengths, of
  -- values that declare no service and that no connection of the peer may read or be sent unasked
  -- while the table is current. No connection of another peer may be ended because its queue is
  -- full. `crosses_of_any` only needs tables whose handles count from 1.
  pub crosses : NothingCrosses
  pub crosses_of_any : NothingCrossesOfAny
  -- The connections of that peer are the same at the end, with all that is queued for them.
  pub leaves : LeavesConnectionsTheSame
  -- Event by event: alike states stay alike, and the peer's connections are given the same packets.
  pub keeps_alike : KeepsAlike
  pub gives_the_same : GivesTheSame
  -- One connection, even against others of its own peer: two runs with the same events and bonds,
  -- from starts that differ in values that it may not know throughout, give it the same packets. No
  -- table is replaced, Service Changed is not pending for its peer, and no other connection is
  -- ended because its queue is full. Event by event the states may also differ in what others were
  -- sent, have read and wait for.
  pub crosses_to_one : NothingCrossesToOneInRuns
  pub keeps_alike_to_one : KeepsAlikeToOne
  pub gives_the_same_to_one : GivesTheSameToOne
  -- Connections with equal views, in runs from one start, are given equal packets, if no event
  -- leaves an indication waiting for them while none is unconfirmed. A view has a connection's
  -- events and completed packets, the buffers that the controller reports, the time and the table,
  -- and what others write of values and of its peer's bond, Service Changed included.
  pub views : SameViewSamePackets
  -- Event by event: one that a connection does not see leaves it as it is, and one that two see
  -- alike does the same to both.
  pub sees_nothing : LeavesWhoSeesNothing
  pub sees_the_same : DoesTheSameToWhoSeesTheSame
  -- Nothing is given to a connection that is absent.
  pub absent : GivesNothingToTheAbsent

-- The result of an input does not depend on how it is cut.
pub record RunsInOrder : Type 0 where
  -- An item is processed after all before it, and what was sent stays sent.
  pub continues : ContinuesItsRun
  pub keeps : KeepsWhatIsSent
  -- Octets mean what the packets mean into which they divide, and less than a packet is unfinished.
  pub divides : TakesTheDivision
  pub unfinished : LeavesLessThanAPacket
  -- The run is in the state that its events leave, one after another.
  pub events : IsAfterItsEvents
  -- The packets sent are those of the events: commands, then the packets for each connection that
  -- has a slot.
  pub sent : HasSentByEvents
  pub brings : BringsWhatItGives
  -- Each state has a table, if each that is handed in is one. If the rows of the start are of its
  -- table, all rows stay so, and only values with a configuration wait.
  pub table : AlwaysHasATable
  pub rows : AlwaysHasRowsOfItsTable
  pub waiting : AlwaysHasWaitingOfItsTable

pub record Promise : Type 0 where
  pub order : RunsInOrder
  pub policy : KeepsThePolicy
  pub apart : KeepsConnectionsApart
  -- A listener to the notices (specs/machine/Notice.antt of gatt_laws) that reads each value when
  -- it is notified of it knows all values and who is connected. Keys change only with a notice, and
  -- so do configurations, unless the table is replaced or the connection connects or disconnects.
  -- Notices are true, writes in them were permitted, and nothing refused or ignored causes one.
  pub application : TellsTheApplication
