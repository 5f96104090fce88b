-- The recorded notices (this profile's own).
use Rattle.std.specs.Prelude.{◌≡◌, ◌++◌, Bool, true, false, List, [], ◌∷◌, map}
use Rattle.std.specs.List.{flat_map}
use Rattle.att_table.specs.Table.{Contents}
use Rattle.host_api.specs.declared.notice.Notice.{Notice}
use Rattle.gatt_host.specs.Notices.{HasTheValue, notice_of}
use Rattle.gatt_host.specs.Telling.{notices_told}
use Rattle.gatt_host.specs.HostModel.{HostModel}
use Rattle.gatt_laws.specs.machine.Notice as law
use Rattle.app_lines.specs.NoticeText.{notice_line}
use Rattle.gatt_commands.specs.declared.notes.Notes.{Notes}

pub record NotesNothingYet (shows : Bool) (notes : Notes) : Type 0 where
  pub shown : notes.shows ≡ shows
  pub none : notes.text.items ≡ []
  pub kept : notes.is_refused ≡ false

-- Another notice is recorded, unless memory is refused.
pub record NotesOne (notice : Notice) (old new : Notes) : Type 0 where
  pub shows : new.shows ≡ old.shows
  pub kept : new.is_refused ≡ false → old.is_refused ≡ false
  pub line : new.is_refused ≡ false → new.text.items ≡ old.text.items ++ notice_line notice

abbrev pub HaveTheirValues : Contents → List Notice → Type 0
HaveTheirValues table [] = Unit {0}
HaveTheirValues table (notice ∷ notices) = HasTheValue table notice × HaveTheirValues table notices

-- These notices are appended with the table's values.
pub record NotesLines (notices : List law.Notice) (table : Contents) (old new : Notes) : Type 0
  where
    pub kept : old.is_refused ≡ false
    pub told : List Notice
    pub all : map notice_of told ≡ notices
    pub values : HaveTheirValues table told
    pub lines : new.text.items ≡ old.text.items ++ flat_map notice_line told

-- The host's last notices are recorded if shown, unless memory is refused.
pub record NotesWhatIsTold (host : HostModel) (old new : Notes) : Type 0 where
  pub shows : new.shows ≡ old.shows
  pub deaf : old.shows ≡ false → new ≡ old
  pub lines : old.shows ≡ true → new.is_refused ≡ false
      → NotesLines (notices_told host) host.server.table old new
