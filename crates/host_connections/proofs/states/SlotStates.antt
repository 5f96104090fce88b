-- What a slot keeps tells of its connection what the state machine knows of it.
use Rattle.std.proofs.Common.{◌≡◌, ℕ, Bool, true, Option, Some, None, refl, sym, ap, ◌∙◌}
use Rattle.std.specs.Prelude.{is_some, if◌then◌else◌, length, unwrap_or}
use Rattle.std.specs.Option.{option_map}
use Rattle.att_numbers.specs.Types.{Row}
use Rattle.att_policy.specs.declared.standing.KeyFacts.{KeyFacts}
use Rattle.gatt_laws.specs.machine.ConnectionState.{ConnectionState, Mark, Absent, Live, Ending, is_live, is_there, key_of, connection_mtu, prepared_of, row_in_force, standing_of, bearer_of, backlog_of}
use Rattle.gatt_laws.specs.machine.SharedState.{SharedState, share_of, fragment_size_of}
use Rattle.gatt_conn.specs.Transcript.{first_exchange}
use Rattle.host_connections.specs.Hearing.{slot_row_in_force}
use Rattle.host_connections.specs.SlotState.{SlotState, slot_state_of, slot_state_if_there, outgoing_of, slot_standing, slot_bearer, slot_backlog}
use Rattle.le_acl.specs.Outgoing.{Outgoing, outgoing_after, without_pdus}
use Rattle.le_security.proofs.Links.{key_of_steps}

-- who serves is there
pub live_there : (mark : Mark) → is_live mark ≡ true → is_there mark ≡ true
live_there Absent is = cc is
live_there Live is = refl
live_there Ending is = refl

-- the row in force is that of the bond, where it has one
forced : (key : Option KeyFacts) (found : Option Row) (bond own : Row) → (is_some key ≡ true → found ≡ Some bond)
    → (if is_some key then unwrap_or found own else own) ≡ (if is_some key then bond else own)
forced (Some key) found bond own has = ap (λ (row : Option Row). unwrap_or row own) (has refl)
forced None found bond own has = refl

module _ (shared : SharedState) (connection : ConnectionState) (handed : ℕ) where
  -- its link
  pub link_key : (slot_state_of shared connection handed).link.key ≡ key_of connection
  link_key = key_of_steps connection.steps

  -- what the policy sees of it, and the server
  pub standing_kept : slot_standing shared.time (slot_state_of shared connection handed) ≡ standing_of shared connection
  standing_kept =
      ap (λ (key : Option KeyFacts). record {
        key = key;
        key_known = (slot_state_of shared connection handed).key_known;
        until = connection.until;
        now = shared.time;
      }) link_key

  pub connection_kept : slot_bearer shared.time (slot_state_of shared connection handed) ≡ bearer_of shared connection
  connection_kept = λ i. record {
    standing = standing_kept i;
    mtu = connection_mtu shared connection;
    rx_mtu = shared.rx_mtu;
    exchanged = is_some (first_exchange connection.said);
    queue = prepared_of connection;
  }

  pub row_kept : (found : Option Row) (bond : Row) → (is_some (key_of connection) ≡ true → found ≡ Some bond)
      → slot_row_in_force found (slot_state_of shared connection handed) ≡ row_in_force bond connection
  row_kept found bond has =
      ap (λ (key : Option KeyFacts). if is_some key then unwrap_or found connection.row else connection.row) link_key
      ∙ forced (key_of connection) found bond connection.row has

  -- what goes out on it while it serves
  pub outgoing_live : is_live connection.mark ≡ true
      → outgoing_of shared connection handed ≡ outgoing_after (share_of shared.slots shared.buffers) (fragment_size_of shared.buffers) connection.pdus handed
      connection.done
  outgoing_live is =
      let outgoing : Outgoing = outgoing_after (share_of shared.slots shared.buffers) (fragment_size_of shared.buffers) connection.pdus handed connection.done
      in
      ap (λ (live : Bool). if live then outgoing else without_pdus outgoing) is

  -- a slot keeps what is there
  pub kept_there : is_there connection.mark ≡ true → slot_state_if_there shared connection handed ≡ Some (slot_state_of shared connection handed)
  kept_there is = ap (λ (there : Bool). if there then Some (slot_state_of shared connection handed) else None) is

-- how many PDUs wait
pub backlog_kept : (shared : SharedState) (connection : ConnectionState) → is_live connection.mark ≡ true
    → slot_backlog (slot_state_of shared connection connection.given) ≡ backlog_of shared connection
backlog_kept shared connection is = ap (λ (outgoing : Outgoing). length outgoing.queue) (outgoing_live shared connection connection.given is)

-- what becomes of who serves, by what its slot keeps
pub becomes : (shared : SharedState) (old new : ConnectionState) (handed : ℕ) (change : SlotState → SlotState) → is_there old.mark ≡ true
    → is_there new.mark ≡ true
    → slot_state_of shared new handed ≡ change (slot_state_of shared old handed)
    → slot_state_if_there shared new handed ≡ option_map change (slot_state_if_there shared old handed)
becomes shared old new handed change was is same =
    kept_there shared new handed is ∙ ap (λ (slot_state : SlotState). Some slot_state) same ∙ ap (λ (slot : Option SlotState). option_map change slot)
    (sym (kept_there shared old handed was))
