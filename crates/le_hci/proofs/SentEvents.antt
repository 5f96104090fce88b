-- What is read from an event packet is what was sent, and what was sent is read.
use Rattle.std.proofs.Common.{◌≡◌, ℕ, zero, suc, ◌/◌, ◌%◌, ◌<◌, Bool, true, false, List, [], ◌∷◌, ◌++◌, length, drop, refl, ap, sym, subst, ◌∙◌, append-nil, arith, Fits, w8}
use Rattle.std.specs.Prelude.{◌≢◌, ◌==◌, if◌then◌else◌, map, slice_index_or, Option, Some, None, Result, Ok, Err, IfOk}
use Rattle.std.specs.List.{flat_map}
use Rattle.std.specs.Option.{option_map}
use Rattle.std.specs.Result.{result_map_both}
use Rattle.std.proofs.Math.Facts.{Fits-lt-pow}
use Rattle.std.proofs.lemmas.Bool.{eqb-true, eq-eqb}
use Rattle.le_hci.specs.declared.peer.Peer.{Peer}
use Rattle.le_hci.specs.declared.event.CompletedPackets.{CompletedPackets}
use Rattle.le_hci.specs.declared.event.Event.{Event}
use Rattle.le_hci.specs.declared.event.BadEvent.{BadEvent}
use Rattle.le_hci.specs.Event.{Reported, report_of, DisconnectionComplete, EncryptionChange, CommandComplete, CommandStatus, HardwareError, NumberOfCompletedPackets, EncryptionKeyRefreshComplete, ConnectionComplete, LongTermKeyRequest, Other, completed_packets_of, completed_entries, disconnection_complete, encryption_change, command_complete, command_status, hardware_error, number_of_completed_packets, encryption_key_refresh_complete, connection_complete, long_term_key_request, le_meta_form, reported_form, read_or_bad, event_of}
use Rattle.le_hci.specs.EventPacket.{event_packet, event_code, entry_fields, fields_of, HasFields, entry_told, report_read, IsSentAs, IsRead}
use Rattle.octet_io.specs.Number.{from_two}
use Rattle.le_hci.proofs.Fields.{connection_by, connection_is, request_by, request_is}

abbrev AreOctets : List ℕ → Type 0
AreOctets octets = (i : ℕ) → slice_index_or octets i 0 < 256

low : (l h : ℕ) → l < 256 → from_two l h % 256 ≡ l
low l h k = omega arith

high : (l h : ℕ) → l < 256 → from_two l h / 256 ≡ h
high l h k = omega arith

-- the parameters are the fields of an event with this code, and extra octets
record IsForm (code : ℕ) (parameters : List ℕ) (event : Reported) : Type 0 where
  pub sent : Reported
  pub extra : List ℕ
  pub code_is : code ≡ event_code sent
  pub fields : parameters ≡ fields_of sent ++ extra
  pub same : report_read sent ≡ event

-- what a form reads is such an event, but for the other events
abbrev Reads : List ℕ → ℕ → Option Reported → Type 0
Reads parameters code reading = (event : Reported) → reading ≡ Some event → event ≢ Other → IsForm code parameters event

reads_other : (parameters : List ℕ) (code : ℕ) → Reads parameters code (Some Other)
reads_other parameters code event e other = absurd (other cc)

choose : (P : ℕ → Option Reported → Type 0) (code n : ℕ) (x y : Option Reported) → P n x → P code y → P code (if code == n then x else y)
choose P code n x y px py = pick (code == n) refl
  where
    pick : (b : Bool) → (code == n) ≡ b → P code (if b then x else y)
    pick true e = subst (λ c. P c x) (sym (eqb-true code n e)) px
    pick false e = py

reads_disconnection : (ps : List ℕ) → AreOctets ps → Reads ps 0x05 (disconnection_complete ps)
reads_disconnection (s ∷ l ∷ h ∷ r ∷ rest) fits event e other = record {
  sent = DisconnectionComplete s (from_two l h) r;
  extra = rest;
  code_is = refl;
  fields = cc (low l h (fits 1), high l h (fits 1));
  same = cc;
}
reads_disconnection _ fits event e other = absurd (cc)

reads_encryption : (ps : List ℕ) → AreOctets ps → Reads ps 0x08 (encryption_change ps)
reads_encryption (s ∷ l ∷ h ∷ r ∷ rest) fits event e other = record {
  sent = EncryptionChange s (from_two l h) r;
  extra = rest;
  code_is = refl;
  fields = cc (low l h (fits 1), high l h (fits 1));
  same = cc;
}
reads_encryption _ fits event e other = absurd (cc)

reads_complete : (ps : List ℕ) → AreOctets ps → Reads ps 0x0E (command_complete ps)
reads_complete (a ∷ l ∷ h ∷ rest) fits event e other = record {
  sent = CommandComplete a (from_two l h) rest;
  extra = [];
  code_is = refl;
  fields = cc (low l h (fits 1), high l h (fits 1), append-nil rest);
  same = cc;
}
reads_complete _ fits event e other = absurd (cc)

reads_status : (ps : List ℕ) → AreOctets ps → Reads ps 0x0F (command_status ps)
reads_status (s ∷ a ∷ l ∷ h ∷ rest) fits event e other = record {
  sent = CommandStatus s a (from_two l h);
  extra = rest;
  code_is = refl;
  fields = cc (low l h (fits 2), high l h (fits 2));
  same = cc;
}
reads_status _ fits event e other = absurd (cc)

reads_error : (ps : List ℕ) → Reads ps 0x10 (hardware_error ps)
reads_error (c ∷ rest) event e other = record {
  sent = HardwareError c;
  extra = rest;
  code_is = refl;
  fields = refl;
  same = cc;
}
reads_error [] event e other = absurd (cc)

-- the octets are these entries, and extra octets
record AreEntries (count : ℕ) (octets : List ℕ) (entries : List CompletedPackets) : Type 0 where
  pub sent : List CompletedPackets
  pub extra : List ℕ
  pub counted : length sent ≡ count
  pub fields : octets ≡ flat_map entry_fields sent ++ extra
  pub same : map entry_told sent ≡ entries

reads_entries : (count : ℕ) (octets : List ℕ) → AreOctets octets → (entries : List CompletedPackets) → completed_entries count octets ≡ Some entries
    → AreEntries count octets entries
reads_entries zero octets fits entries e = record { sent = []; extra = octets; counted = refl; fields = refl; same = cc }
reads_entries (suc n) (a ∷ b ∷ c ∷ d ∷ rest) fits entries e =
    step (completed_entries n rest) e (reads_entries n rest (λ i. fits (suc (suc (suc (suc i))))))
  where
    step : (found : Option (List CompletedPackets))
        → option_map (λ (es : List CompletedPackets). completed_packets_of (a ∷ b ∷ c ∷ d ∷ []) ∷ es) found ≡ Some entries
        → ((es : List CompletedPackets) → found ≡ Some es → AreEntries n rest es)
        → AreEntries (suc n) (a ∷ b ∷ c ∷ d ∷ rest) entries
    step None e below = absurd (cc)
    step (Some es) e below =
        let entry : CompletedPackets = record { handle = from_two a b; packets = from_two c d } in
        let under = below es refl in
        record {
          sent = entry ∷ under.sent;
          extra = under.extra;
          counted = ap suc under.counted;
          fields = cc (low a b (fits 0), high a b (fits 0), low c d (fits 2), high c d (fits 2), under.fields);
          same = cc (under.same);
        }
reads_entries (suc n) [] fits entries e = absurd (cc)
reads_entries (suc n) (a ∷ []) fits entries e = absurd (cc)
reads_entries (suc n) (a ∷ b ∷ []) fits entries e = absurd (cc)
reads_entries (suc n) (a ∷ b ∷ c ∷ []) fits entries e = absurd (cc)

reads_completed : (ps : List ℕ) → AreOctets ps → Reads ps 0x13 (number_of_completed_packets ps)
reads_completed [] fits event e other = absurd (cc)
reads_completed (count ∷ rest) fits event e other =
    step (completed_entries count rest) e (reads_entries count rest (λ i. fits (suc i)))
  where
    step : (found : Option (List CompletedPackets)) → option_map NumberOfCompletedPackets found ≡ Some event
        → ((es : List CompletedPackets) → found ≡ Some es → AreEntries count rest es)
        → IsForm 0x13 (count ∷ rest) event
    step None e below = absurd (cc)
    step (Some es) e below =
        let under = below es refl in
        record {
          sent = NumberOfCompletedPackets under.sent;
          extra = under.extra;
          code_is = refl;
          fields = cc (under.counted, under.fields);
          same = ap NumberOfCompletedPackets under.same ∙ cc;
        }

reads_refresh : (ps : List ℕ) → AreOctets ps → Reads ps 0x30 (encryption_key_refresh_complete ps)
reads_refresh (s ∷ l ∷ h ∷ rest) fits event e other = record {
  sent = EncryptionKeyRefreshComplete s (from_two l h);
  extra = rest;
  code_is = refl;
  fields = cc (low l h (fits 1), high l h (fits 1));
  same = cc;
}
reads_refresh _ fits event e other = absurd (cc)

reads_connection_by : (ps : List ℕ) → AreOctets ps → Reads (0x01 ∷ ps) 0x3E (connection_by ps)
reads_connection_by (s ∷ lo ∷ hi ∷ role ∷ kind ∷ a ∷ b ∷ c ∷ d ∷ e ∷ f ∷ i ∷ j ∷ k ∷ l ∷ m ∷ n ∷ accuracy ∷ rest) fits event is other =
    let peer : Peer = record { kind = kind; address = a ∷ b ∷ c ∷ d ∷ e ∷ f ∷ [] } in
    record {
      sent = ConnectionComplete s (from_two lo hi) role peer (from_two i j) (from_two k l) (from_two m n) accuracy;
      extra = rest;
      code_is = refl;
      fields =
          cc (
            low lo hi (fits 1),
            high lo hi (fits 1),
            low i j (fits 11),
            high i j (fits 11),
            low k l (fits 13),
            high k l (fits 13),
            low m n (fits 15),
            high m n (fits 15),
          );
      same = cc;
    }
reads_connection_by _ fits event e other = absurd (cc)

reads_connection : (ps : List ℕ) → AreOctets ps → Reads (0x01 ∷ ps) 0x3E (connection_complete ps)
reads_connection ps fits = subst (Reads (0x01 ∷ ps) 0x3E) (sym (connection_is ps)) (reads_connection_by ps fits)

reads_request_by : (ps : List ℕ) → AreOctets ps → Reads (0x05 ∷ ps) 0x3E (request_by ps)
reads_request_by (lo ∷ hi ∷ a ∷ b ∷ c ∷ d ∷ e ∷ f ∷ g ∷ h ∷ i ∷ j ∷ rest) fits event is other = record {
  sent = LongTermKeyRequest (from_two lo hi) (a ∷ b ∷ c ∷ d ∷ e ∷ f ∷ g ∷ h ∷ []) (from_two i j);
  extra = rest;
  code_is = refl;
  fields = cc (low lo hi (fits 0), high lo hi (fits 0), low i j (fits 10), high i j (fits 10));
  same = cc;
}
reads_request_by _ fits event e other = absurd (cc)

reads_request : (ps : List ℕ) → AreOctets ps → Reads (0x05 ∷ ps) 0x3E (long_term_key_request ps)
reads_request ps fits = subst (Reads (0x05 ∷ ps) 0x3E) (sym (request_is ps)) (reads_request_by ps fits)

reads_meta : (ps : List ℕ) → AreOctets ps → Reads ps 0x3E (le_meta_form ps)
reads_meta [] fits = λ event e other. absurd (cc)
reads_meta (subevent ∷ rest) fits =
    let P : ℕ → Option Reported → Type 0 = λ code reading. Reads (code ∷ rest) 0x3E reading in
    let after : AreOctets rest = λ i. fits (suc i) in
    choose P subevent 0x01 _ _ (reads_connection rest after)
    (choose P subevent 0x05 _ _ (reads_request rest after) (reads_other (subevent ∷ rest) 0x3E))

reads_form : (code : ℕ) (ps : List ℕ) → AreOctets ps → Reads ps code (reported_form code ps)
reads_form code ps fits =
    let P : ℕ → Option Reported → Type 0 = Reads ps in
    choose P code 0x05 _ _ (reads_disconnection ps fits)
    (choose P code 0x08 _ _ (reads_encryption ps fits)
    (choose P code 0x0E _ _ (reads_complete ps fits)
    (choose P code 0x0F _ _ (reads_status ps fits)
    (choose P code 0x10 _ _ (reads_error ps)
    (choose P code 0x13 _ _ (reads_completed ps fits)
    (choose P code 0x30 _ _ (reads_refresh ps fits)
    (choose P code 0x3E _ _ (reads_meta ps fits) (reads_other ps code))))))))

read_some : (code : ℕ) (reading : Option Reported) (event : Reported) → read_or_bad code reading ≡ Ok event → reading ≡ Some event
read_some code None event e = absurd (cc)
read_some code (Some x) event e = cc

-- what is read is spelled so
pub is_sent : (octets : List ℕ) → AreOctets octets → (event : Reported) → event_of octets ≡ Ok event → IsRead event octets
is_sent [] fits event e other = absurd (cc)
is_sent (code ∷ []) fits event e other = absurd (cc)
is_sent (code ∷ stated ∷ ps) fits event e other = pick (length ps == stated) refl e
  where
    pick : (b : Bool) → (length ps == stated) ≡ b → read_or_bad code (if b then reported_form code ps else None) ≡ Ok event
        → IsSentAs event (code ∷ stated ∷ ps)
    pick false t e = absurd (cc)
    pick true t e =
        let form = reads_form code ps (λ i. fits (suc (suc i))) event (read_some code (reported_form code ps) event e) other in
        record {
          sent = form.sent;
          extra = form.extra;
          spelled = cc (form.code_is, form.fields, eqb-true (length ps) stated t);
          same = form.same;
        }

restored : (n : ℕ) → from_two (n % 256) (n / 256) ≡ n
restored n = omega arith

entry_read : (entry : CompletedPackets) → completed_packets_of (entry_fields entry) ≡ entry_told entry
entry_read entry = cc (restored entry.handle, restored entry.packets)

entries_read : (entries : List CompletedPackets) (extra : List ℕ) → completed_entries (length entries) (flat_map entry_fields entries ++ extra)
    ≡ Some (map entry_told entries)
entries_read [] extra = refl
entries_read (entry ∷ entries) extra =
    ap (option_map (λ (es : List CompletedPackets). completed_packets_of (entry_fields entry) ∷ es)) (entries_read entries extra)
    ∙ ap (λ (e : CompletedPackets). Some (e ∷ map entry_told entries)) (entry_read entry)

-- the form of the code reads the fields
form_read : (sent : Reported) (extra : List ℕ) → HasFields sent extra → reported_form (event_code sent) (fields_of sent ++ extra) ≡ Some (report_read sent)
form_read (DisconnectionComplete status handle reason) extra f = cc (restored handle)
form_read (EncryptionChange status handle enabled) extra f = cc (restored handle)
form_read (CommandComplete allowed opcode parameters) extra f = cc (restored opcode, ap (λ xs. parameters ++ xs) f, append-nil parameters)
form_read (CommandStatus status allowed opcode) extra f = cc (restored opcode)
form_read (HardwareError code) extra f = refl
form_read (NumberOfCompletedPackets entries) extra f = ap (option_map NumberOfCompletedPackets) (entries_read entries extra)
form_read (EncryptionKeyRefreshComplete status handle) extra f = cc (restored handle)
form_read (ConnectionComplete status handle role peer interval latency timeout accuracy) extra f =
    six peer.address f
  where
    six : (address : List ℕ) → length address ≡ 6
        → reported_form 0x3E
        (fields_of (ConnectionComplete status handle role (record { kind = peer.kind; address = address }) interval latency timeout accuracy) ++ extra)
        ≡ Some (ConnectionComplete status (handle % 4096) role (record { kind = peer.kind; address = address }) interval latency timeout accuracy)
    six (a ∷ b ∷ c ∷ d ∷ e ∷ f ∷ []) l =
        let whole : Peer = record { kind = peer.kind; address = a ∷ b ∷ c ∷ d ∷ e ∷ f ∷ [] } in
        connection_is (drop 1 (fields_of (ConnectionComplete status handle role whole interval latency timeout accuracy) ++ extra))
        ∙ cc (restored handle, restored interval, restored latency, restored timeout)
    six (a ∷ b ∷ c ∷ d ∷ e ∷ f ∷ g ∷ rest) l = absurd (omega arith)
    six _ l = absurd (omega arith)
form_read (LongTermKeyRequest handle random_number diversifier) extra f = eight random_number f
  where
    eight : (random : List ℕ) → length random ≡ 8
        → reported_form 0x3E (fields_of (LongTermKeyRequest handle random diversifier) ++ extra) ≡ Some (LongTermKeyRequest (handle % 4096) random diversifier)
    eight (a ∷ b ∷ c ∷ d ∷ e ∷ f ∷ g ∷ h ∷ []) l =
        request_is (drop 1 (fields_of (LongTermKeyRequest handle (a ∷ b ∷ c ∷ d ∷ e ∷ f ∷ g ∷ h ∷ []) diversifier) ++ extra))
        ∙ cc (restored handle, restored diversifier)
    eight _ l = absurd (omega arith)
form_read Other extra f = absurd f

-- what is sent is read
pub is_read : (octets : List ℕ) (sent : Reported) (extra : List ℕ) → HasFields sent extra → event_packet (event_code sent) (fields_of sent ++ extra) ≡ octets
    → event_of octets ≡ Ok (report_read sent)
is_read octets sent extra f e =
    let parameters : List ℕ = fields_of sent ++ extra in
    ap event_of (sym e)
    ∙ ap (λ b. read_or_bad (event_code sent) (if b then reported_form (event_code sent) parameters else None))
    (eq-eqb (length parameters) (length parameters) refl)
    ∙ ap (read_or_bad (event_code sent)) (form_read sent extra f)

-- the same of a result of the code
pub result_is_sent : (octets : List ℕ) → ((i : ℕ) → Fits w8 (slice_index_or octets i 0)) → (result : Result Event BadEvent)
    → result_map_both report_of (λ bad. bad) result ≡ event_of octets → IfOk result (λ event. IsRead (report_of event) octets)
result_is_sent octets fits (Ok event) e = is_sent octets (λ i. Fits-lt-pow (fits i)) (report_of event) (sym e)
result_is_sent octets fits (Err bad) e = tt
