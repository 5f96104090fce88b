-- Notices are noted one after the other.
use Rattle.std.proofs.Common.{◌≡◌, false, List, [], ◌∷◌, ◌++◌, map, refl, sym, ap, ◌∙◌, append_assoc}
use Rattle.std.specs.List.{flat_map}
use Rattle.std.proofs.lemmas.List.{append-nil}
use Rattle.att_table.specs.Table.{Contents}
use Rattle.host_api.specs.declared.notice.Notice.{Notice}
use Rattle.gatt_host.specs.Notices.{HasTheValue, notice_of}
use Rattle.gatt_laws.specs.machine.Notice as law
use Rattle.octet_io.specs.Number.{Octets}
use Rattle.gatt_commands.specs.declared.notes.Notes.{Notes}
use Rattle.app_lines.specs.NoticeText.{notice_line}
use Rattle.gatt_commands.specs.Notices.{HaveTheirValues, NotesOne}

values-append : (table : Contents) (first : List Notice) (notice : Notice) → HaveTheirValues table first → HasTheValue table notice
    → HaveTheirValues table (first ++ notice ∷ [])
values-append table [] notice all has = (has, tt)
values-append table (one ∷ first) notice all has = (all.0, values-append table first notice all.1 has)

map-append : (first : List Notice) (notice : Notice) → map notice_of (first ++ notice ∷ []) ≡ map notice_of first ++ notice_of notice ∷ []
map-append [] notice = refl
map-append (one ∷ first) notice = ap (λ (rest : List law.Notice). notice_of one ∷ rest) (map-append first notice)

lines-append : (first : List Notice) (notice : Notice) → flat_map notice_line (first ++ notice ∷ []) ≡ flat_map notice_line first ++ notice_line notice
lines-append [] notice = append-nil (notice_line notice)
lines-append (one ∷ first) notice =
    ap (λ (rest : Octets). notice_line one ++ rest) (lines-append first notice)
    ∙ sym (append_assoc (notice_line one) (flat_map notice_line first) (notice_line notice))

-- of some notices all but the rest are noted
pub record NotesSome (notices rest : List law.Notice) (table : Contents) (old new : Notes) : Type 0 where
  pub kept : old.is_refused ≡ false
  pub told : List Notice
  pub parts : notices ≡ map notice_of told ++ rest
  pub values : HaveTheirValues table told
  pub lines : new.text.items ≡ old.text.items ++ flat_map notice_line told

pub record HasNoted (notices rest : List law.Notice) (table : Contents) (old now : Notes) : Type 0 where
  pub shows : now.shows ≡ old.shows
  pub some : now.is_refused ≡ false → NotesSome notices rest table old now

noted-then : (notices rest left : List law.Notice) (notice : Notice) (table : Contents) (old now new : Notes) → NotesSome notices rest table old now
    → rest ≡ notice_of notice ∷ left → HasTheValue table notice → new.text.items ≡ now.text.items ++ notice_line notice → NotesSome notices left table old new
noted-then notices rest left notice table old now new so_far is has line = record {
  kept = so_far.kept;
  told = so_far.told ++ notice ∷ [];
  parts =
      so_far.parts ∙ ap (λ (rest : List law.Notice). map notice_of so_far.told ++ rest) is
      ∙ sym (append_assoc (map notice_of so_far.told) (notice_of notice ∷ []) left)
      ∙ ap (λ (front : List law.Notice). front ++ left) (sym (map-append so_far.told notice));
  values = values-append table so_far.told notice so_far.values has;
  lines =
      line ∙ ap (λ (front : Octets). front ++ notice_line notice) so_far.lines
      ∙ append_assoc old.text.items (flat_map notice_line so_far.told) (notice_line notice)
      ∙ ap (λ (rest : Octets). old.text.items ++ rest) (sym (lines-append so_far.told notice));
}

pub noted_one : (notices rest left : List law.Notice) (notice : Notice) (table : Contents) (old now new : Notes) → HasNoted notices rest table old now
    → rest ≡ notice_of notice ∷ left → HasTheValue table notice → NotesOne notice now new → HasNoted notices left table old new
noted_one notices rest left notice table old now new so_far is has one = record {
  shows = one.shows ∙ so_far.shows;
  some = λ kept. noted-then notices rest left notice table old now new (so_far.some (one.kept kept)) is has (one.line kept);
}
