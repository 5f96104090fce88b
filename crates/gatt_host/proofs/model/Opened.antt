-- A host that has just been opened stands at the start of its run.
use Rattle.std.proofs.Common.{◌≡◌, ℕ, ◌≤◌, Bool, true, false, if◌then◌else◌, List, [], ◌∷◌, length, replicate, filter, Option, Some, None, refl, sym, ap, subst, ◌∙◌, arith}
use Rattle.std.specs.Prelude.{unwrap_or, ◌&&◌, Result, Err}
use Rattle.std.specs.Option.{option_map, option_map_or}
use Rattle.std.proofs.lemmas.List.{length-map, length-replicate}
use Rattle.std.proofs.lemmas.List.Elements.{All-nil}
use Rattle.att_numbers.specs.Types.{Handle, Row}
use Rattle.att_attributes.specs.declared.attr.Attr.{Attr}
use Rattle.att_attributes.specs.Attributes.{is_configuration_at}
use Rattle.att_table.proofs.Configurations.{row_of}
use Rattle.att_table.specs.ConfigRow.{with_bits, is_supported, IsRowOf}
use Rattle.att_table.specs.Table.{Contents}
use Rattle.gatt_host.proofs.meaning.Beginning.{stands_in_at_the_start}
use Rattle.gatt_host.proofs.refinement.AtTheStart.{fitted_known}
use Rattle.gatt_host.specs.declared.config.Config.{Config}
use Rattle.gatt_host.specs.declared.host_fault.HostFault.{HostFault}
use Rattle.gatt_host.specs.Meaning.{Assemblies}
use Rattle.gatt_host.specs.ServerState.{ServerState}
use Rattle.gatt_host.specs.Opening.{held_at_first, is_configured, start_of}
use Rattle.gatt_host.specs.StateRefinement.{IsOpenedAs}
use Rattle.gatt_host.specs.HostModel.{HasRowsOfTheStart, IsReached, SameFault, RefinesRun, HostModel}
use Rattle.gatt_laws.specs.machine.Input.{run}
use Rattle.host_connections.specs.Arrivals.{no_arrivals}
use Rattle.gatt_subs.proofs.Supported.{supported_configuration}
use Rattle.gatt_subs.specs.declared.bond.Bond.{Bond}
use Rattle.gatt_subs.specs.Fit.{fitted_bond, fitted_rows, peers_of, with_entries, HasFittedBonds, IsListed}
use Rattle.gatt_subs.specs.Rows.{Subscriptions, bond_of, row_read}
use Rattle.le_acl.specs.Reassembler.{no_assembly}
use Rattle.le_h4.proofs.Dividing.{past_none}
use Rattle.le_h4.specs.Deframer.{Deframing, deframing_at_start, still}
use Rattle.le_h4.specs.Division.{division}
use Rattle.le_security.specs.declared.entry.Entry.{Entry}
use Rattle.le_security.specs.Keys.{is_known}
use Rattle.octet_io.specs.Number.{Octets}
use Rattle.host_api.specs.declared.TheConstants.{MAX_SLOTS}

-- a row that is fitted to a table is one of it
entries-fitted : (attributes : List Attr) (row entries : Row) → IsRowOf attributes row
    → IsRowOf attributes (with_entries row (filter (is_supported attributes) entries))
entries-fitted attributes row [] is = is
entries-fitted attributes row (entry ∷ entries) is =
    let rest = filter (is_supported attributes) entries in
    elim (is_supported attributes entry) as (λ (has : Bool). is_supported attributes entry ≡ has
    → IsRowOf attributes (with_entries row (if has then entry ∷ rest else rest))) [
      | true ↦ λ supported.
          let there = supported_configuration attributes entry.0 entry.1 supported in
          entries-fitted attributes (with_bits row entry.0 entry.1) entries (row_of attributes row entry.0 entry.1 there is)
      | false ↦ λ unsupported. entries-fitted attributes row entries is
    ] refl

empty-row : (attributes : List Attr) → IsRowOf attributes []
empty-row attributes = All-nil (λ (entry : Handle × ℕ). is_configuration_at attributes entry.0 ≡ true)

row-if-known : (attributes : List Attr) (known : Bool) (row : Row) → IsRowOf attributes row → IsRowOf attributes (if known then row else [])
row-if-known attributes true row is = is
row-if-known attributes false row is = empty-row attributes

rows-fitted : (table : Contents) (keys : List Entry) (rows : Subscriptions) (config : Config) → HasRowsOfTheStart (start_of table keys rows config)
rows-fitted table keys rows config peer =
    row-if-known table.attributes (is_known keys peer) (fitted_bond table rows peer).row
    (entries-fitted table.attributes [] (row_read rows peer) (empty-row table.attributes))

-- what the fitted bonds say peer by peer
bond-if-known : (known : Bool) (bond : Bond) (found : Option Bond) → found ≡ (if known then Some bond else None)
    → (if known then bond.row else []) ≡ unwrap_or (option_map (λ (bond : Bond). bond.row) found) []
bond-if-known true bond found is = sym (ap (λ (found : Option Bond). unwrap_or (option_map (λ (bond : Bond). bond.row) found) []) is)
bond-if-known false bond found is = sym (ap (λ (found : Option Bond). unwrap_or (option_map (λ (bond : Bond). bond.row) found) []) is)

owed-if-known : (known : Bool) (bond : Bond) (found : Option Bond) → found ≡ (if known then Some bond else None)
    → (known && bond.owed) ≡ option_map_or (λ (bond : Bond). bond.owed) found false
owed-if-known true bond found is = sym (ap (λ (found : Option Bond). option_map_or (λ (bond : Bond). bond.owed) found false) is)
owed-if-known false bond found is = sym (ap (λ (found : Option Bond). option_map_or (λ (bond : Bond). bond.owed) found false) is)

module _ (table : Contents) (keys : List Entry) (old new : Subscriptions) (config : Config) (fitted : HasFittedBonds keys table old new)
    (is_fitted : new ≡ fitted_rows keys table old) where
  listed : IsListed keys new
  listed =
      subst (λ (rows : Subscriptions). IsListed keys rows) (sym is_fitted)
      (record { peers = refl; count = length-map (peers_of keys) (fitted_bond table old); unfitted = refl })

  opened-as : IsOpenedAs (start_of table keys old config) (held_at_first table keys new (replicate config.slots None) config)
  opened-as = record {
    table = refl;
    changer = refl;
    keys = refl;
    rx_mtu = refl;
    time = refl;
    controller = refl;
    slots = refl;
    rows = fitted_known keys table old new fitted;
    bonds = λ i peer. bond-if-known (is_known keys peer) (fitted_bond table old peer) (bond_of new peer) (fitted peer) i;
    owed = λ i peer. owed-if-known (is_known keys peer) (fitted_bond table old peer) (bond_of new peer) (fitted peer) i;
    listed = listed;
  }

  few : is_configured config ≡ true → config.slots ≤ MAX_SLOTS
  few configured = grind (arith, configured)

  pub stands_when_opened : (host : HostModel) → is_configured config ≡ true → host.server ≡ held_at_first table keys new (replicate config.slots None) config
      → host.frames.assembled ≡ replicate config.slots no_assembly → host.frames.arrivals ≡ no_arrivals
      → host.stream ≡ deframing_at_start → host.fault ≡ None → RefinesRun (run (start_of table keys old config) []) [] host
  unfolding run
  stands_when_opened host configured server frames arrivals stream fault = record {
    refines =
        let as-many : length host.frames.assembled ≡ config.slots = ap (λ (all : Assemblies). length all) frames ∙ length-replicate config.slots no_assembly in
        let shared : config.slots ≤ length host.frames.assembled = omega (arith, as-many) in
        stands_in_at_the_start (start_of table keys old config) host.server host.frames
        (subst (λ (server : ServerState). IsOpenedAs (start_of table keys old config) server) (sym server) opened-as) shared arrivals (few configured);
    same = subst (λ (fault : Option HostFault). SameFault None fault) (sym fault) tt;
    stream =
        subst (λ (slot_state : Deframing). (run (start_of table keys old config) []).intake.fault ≡ None → (rest : Octets)
        → still slot_state rest ≡ division rest) (sym stream) (λ none rest. past_none rest);
  }

pub reached_when_opened : (table : Contents) (keys : List Entry) (rows : Subscriptions) (config : Config) (host : HostModel)
    → RefinesRun (run (start_of table keys rows config) []) [] host → IsReached host
reached_when_opened table keys rows config host refines = record {
  start = start_of table keys rows config;
  rows = rows-fitted table keys rows config;
  input = [];
  sent = [];
  refines = refines;
}

-- a fault is the same one, whatever is answered without it
same-fault : {T E : Type 0} (fault other : E) → ◌≡◌ {A = Result T E} (Err fault) (Err other) → fault ≡ other
same-fault fault other is = cc is

pub still_refused : {T U E : Type 0} (fault other : E) → ◌≡◌ {A = Result T E} (Err fault) (Err other) → ◌≡◌ {A = Result U E} (Err fault) (Err other)
still_refused {E = E} fault other is = ap (λ (why : E). Err why) (same-fault fault other is)
