-- The replacement of a file on a disk whose power may fail at any moment, by the calls of POSIX
-- (unlink, open with O_EXCL, write, fsync, rename, and fsync of the folder).
use Rattle.std.specs.Prelude.{◌≡◌, ◌⊎◌, Bool, true, false, List, [], ◌∷◌, ◌++◌, All, Contains, fold, if◌then◌else◌}
use Rattle.octet_io.specs.Number.{Octets}

-- A call about a file, or about the new file that is to take its place.
pub data Step : Type 0 where
  Unlink : Step
  Create : Step
  Write : (text : Octets) → Step
  Sync : Step
  Rename : Step
  SyncFolder : Step

-- A call, and whether the system says that it was done.
pub record Call : Type 0 where
  pub step : Step
  pub done : Bool

abbrev pub call : Step → Bool → Call
call step done = record { step = step; done = done }

-- The contents of a file: none, a text, or anything.
pub data Found : Type 0 where
  Nothing : Found
  Text : (octets : Octets) → Found
  Anything : Found

-- The contents of a file as processes find them, and as a crash leaves them.
pub record File : Type 0 where
  pub found : Found
  pub durable : Found

abbrev no_file : File
no_file = record { found = Nothing; durable = Nothing }

-- The file, each of the contents that may be found at its path after a crash, and the new file.
pub record Disk : Type 0 where
  pub file : File
  pub kept : List Found
  pub beside : File

abbrev with_text : Found → Octets → Found
with_text Nothing text = Nothing
with_text (Text octets) text = Text (octets ++ text)
with_text Anything text = Anything

-- A text that is not synced may be anything after a crash, which may also undo a rename unless the
-- folder is synced.
abbrev pub after_step : Disk → Step → Disk
after_step disk Unlink = record disk { beside = no_file }
after_step disk Create = record disk { beside = record { found = Text []; durable = Anything } }
after_step disk (Write text) = record disk {
  beside = record { found = with_text disk.beside.found text; durable = Anything };
}
after_step disk Sync = record disk {
  beside = record { found = disk.beside.found; durable = disk.beside.found };
}
after_step disk Rename = record {
  file = disk.beside;
  kept = disk.kept ++ disk.beside.durable ∷ [];
  beside = no_file;
}
after_step disk SyncFolder = record disk { kept = disk.file.durable ∷ [] }

-- A write that fails may have written a part. Any other call that fails has changed nothing that
-- the disk had.
abbrev pub after_failure : Disk → Step → Disk
after_failure disk (Write text) =
    record disk { beside = record { found = Anything; durable = Anything } }
after_failure disk Unlink = disk
after_failure disk Create = disk
after_failure disk Sync = disk
after_failure disk Rename = disk
after_failure disk SyncFolder = disk

abbrev pub after_call : Disk → Call → Disk
after_call disk call =
    if call.done then after_step disk call.step else after_failure disk call.step

abbrev pub after_calls : Disk → List Call → Disk
after_calls disk calls = fold after_call disk calls

-- The calls that replace a file by a text.
abbrev pub replacement : Octets → List Step
replacement text = Unlink ∷ Create ∷ Write text ∷ Sync ∷ Rename ∷ SyncFolder ∷ []

-- All steps were done, or one has failed, and no later one was made.
unfoldable pub Performs : List Step → Bool → List Call → Type 0
Performs [] done calls = (done ≡ true) × (calls ≡ [])
Performs (step ∷ steps) done [] = ⊥
Performs (step ∷ steps) done (first ∷ calls) =
    ((first ≡ call step false) × (done ≡ false) × (calls ≡ []))
    ⊎ ((first ≡ call step true) × Performs steps done calls)

-- These contents may be found after a crash: those of before, or this text.
abbrev pub IsOldOrNew : Disk → Octets → Found → Type 0
IsOldOrNew disk text found = Contains disk.kept found ⊎ (found ≡ Text text)

-- The power may fail between two calls: `front` are the calls before. In the midst of a call it
-- leaves what it would leave before or after that.
abbrev pub KeepsOldOrNew : Type 0
KeepsOldOrNew =
    (disk : Disk) (text : Octets) (done : Bool) (front back : List Call)
    → Performs (replacement text) done (front ++ back)
    → All (IsOldOrNew disk text) (after_calls disk front).kept

-- If all calls are done, only this text is found, also after a crash.
abbrev pub KeepsNewOnceDone : Type 0
KeepsNewOnceDone =
    (disk : Disk) (text : Octets) (calls : List Call) → Performs (replacement text) true calls
    → ((after_calls disk calls).file.found ≡ Text text)
    × ((after_calls disk calls).kept ≡ Text text ∷ [])
