-- A key that answers a new request leaves at most one key for each.
use Rattle.std.proofs.Common.{◌≡◌, ℕ, ◌<◌, ◌≤◌, Bool, true, false, ◌==◌, ◌&&◌, List, [], ◌∷◌, ◌++◌, length, length-append, refl, sym, ◌∙◌, arith}
use Rattle.std.specs.List.{count_by, list_any}
use Rattle.std.specs.Str.{bytes_eq}
use Rattle.std.proofs.lemmas.Bool.Decides.{Decides-eqb}
use Rattle.std.proofs.lemmas.Grind.{common_steps}
use Rattle.std.proofs.lemmas.List.Sums.{sum_by-append}
use Rattle.std.proofs.lemmas.Slice.Eq.{bytes_eq-Decides}
use Rattle.std.proofs.lemmas.Bool.{and_parts}
use Rattle.le_hci.specs.declared.peer.Peer.{Peer}
use Rattle.le_security.specs.declared.entry.Entry.{Entry}
use Rattle.le_security.specs.Entry.{same_peer, is_for}
use Rattle.le_security.proofs.Peers.{equal_peers}
use Rattle.le_security.specs.Keys.{AreProvisioned, has_answer}

-- an entry that is for a request has its peer, random number and diversifier, so the same entries are for it as for the request of that entry
asked_alike : (peer : Peer) (random_number : List ℕ) (diversifier : ℕ) (entries : List Entry) (entry : Entry)
    → is_for peer random_number diversifier entry ≡ true
    → list_any (is_for peer random_number diversifier) entries ≡ has_answer entries entry
asked_alike peer random_number diversifier entries entry for =
    let parts = and_parts (same_peer entry.peer peer) (bytes_eq entry.random_number random_number && (entry.diversifier == diversifier)) for in
    let rest = and_parts (bytes_eq entry.random_number random_number) (entry.diversifier == diversifier) parts.1 in
    let same_peers = sym (equal_peers entry.peer peer parts.0) in
    let same_numbers = sym ((bytes_eq-Decides entry.random_number random_number).0 rest.0) in
    let same_diversifiers = sym ((Decides-eqb entry.diversifier diversifier).0 rest.1) in
    λ i. list_any (is_for (same_peers i) (same_numbers i) (same_diversifiers i)) entries

-- no entry passes a test that none passes
count_by_none : (test : Entry → Bool) (entries : List Entry) → list_any test entries ≡ false → count_by test entries ≡ 0
count_by_none test [] none = refl
count_by_none test (entry ∷ entries) none = grind (arith, common_steps, count_by_none test entries)

count_by_pushed : (test : Entry → Bool) (entries : List Entry) (entry : Entry) (passes : Bool) → test entry ≡ passes
    → (test entry ≡ true → list_any test entries ≡ false) → count_by test entries ≤ 1 → count_by test (entries ++ entry ∷ []) ≤ 1
count_by_pushed test entries entry true passes none once =
    grind (arith, common_steps, sum_by-append, count_by_none test entries (none passes), passes)
count_by_pushed test entries entry false passes none once = grind (arith, common_steps, sum_by-append, passes, once)

pub provisioned_pushed : (entries : List Entry) (entry : Entry)
    → length entries < 64 → has_answer entries entry ≡ false → AreProvisioned entries → AreProvisioned (entries ++ entry ∷ [])
provisioned_pushed entries entry room new provisioned = record {
  within = grind (arith, common_steps, length-append);
  once = λ peer random_number diversifier.
      count_by_pushed (is_for peer random_number diversifier) entries entry _ refl
      (λ for. asked_alike peer random_number diversifier entries entry for ∙ new)
      (provisioned.once peer random_number diversifier);
}
