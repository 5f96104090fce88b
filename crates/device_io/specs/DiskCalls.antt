-- The calls that replace a file, as they are made.
use Rattle.std.specs.Prelude.{◌≡◌, Bool, List, ◌++◌}
use Rattle.device_io.specs.declared.disk.Noted.{Noted}
use Rattle.device_io.specs.declared.disk.Step.{Step}
use Rattle.device_io.specs.declared.disk.Step.TheVariants as made
use Rattle.device_io.specs.Disk as disk
use Rattle.device_io.specs.Disk.{Call, Performs, call}

abbrev pub step_of : Step → disk.Step
step_of made.Unlink = disk.Unlink
step_of made.Create = disk.Create
step_of (made.Write text) = disk.Write text.now
step_of made.Sync = disk.Sync
step_of made.Rename = disk.Rename
step_of made.SyncFolder = disk.SyncFolder

abbrev pub call_noted : Noted → Call
call_noted noted = call (step_of noted.step) noted.is_done

-- These steps were made after the earlier calls, up to the first that has failed.
abbrev pub HasPerformed : List disk.Step → Bool → List Call → List Call → Type 0
HasPerformed steps done before after =
    (calls : List Call) × (after ≡ before ++ calls) × Performs steps done calls
