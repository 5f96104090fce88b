-- The files, the controller and the application of a device, by the options of `host` (this
-- profile's own).
use Rattle.std.specs.Prelude.{◌≡◌, ◌<◌, ◌≤◌, ⊤, Bool, true, false, [], ◌∷◌, length, Option, Some, None}
use Rattle.std.specs.Borrow.{Bor}
use Rattle.std.specs.Option.{option_map}
use Rattle.std.specs.Net.Grammar.{IsSocketText}
use Rattle.octet_io.specs.Number.{Octets}
use Rattle.device_options.specs.declared.files.Saved.{Saved}
use Rattle.device_options.specs.declared.files.Saved.TheVariants.{Nothing, State, Subscriptions}
use Rattle.device_options.specs.declared.files.FileOptions.{FileOptions}
use Rattle.device_options.specs.declared.places.ApplicationAddress.{ApplicationAddress}
use Rattle.device_options.specs.declared.places.ApplicationAddress.TheVariants as application
use Rattle.device_options.specs.declared.places.ControllerAddress.{ControllerAddress}
use Rattle.device_options.specs.declared.places.ControllerAddress.TheVariants.{Connect, Listen, Serial}
use Rattle.device_options.specs.declared.places.TheConstants.{LONGEST_PATH}
use Rattle.device_options.specs.declared.texts.OptionTexts.{OptionTexts}
use Rattle.device_options.specs.Numbers.{size_of}

-- A path that has an octet at least.
abbrev pub with_path : Octets → Saved → Option Saved
with_path [] saved = None
with_path (octet ∷ octets) saved = Some saved

-- A state in a folder, or subscriptions in a file, or nothing. All values are saved only with a
-- state.
abbrev pub saved_by : Option (Bor Octets) → Option (Bor Octets) → Bool → Option Saved
saved_by (Some folder) (Some file) all = None
saved_by (Some folder) None all = with_path folder.now (State folder all)
saved_by None (Some file) true = None
saved_by None (Some file) false = with_path file.now (Subscriptions file)
saved_by None None true = None
saved_by None None false = Some Nothing

pub record AreFilesOf (words : OptionTexts) (files : FileOptions) : Type 0 where
  pub table : files.table ≡ words.table
  pub keys : files.keys ≡ words.keys
  pub saved : Some files.saved ≡ saved_by words.state words.rows words.save_updates
  pub drop_unknown : files.drop_unknown ≡ words.drop_unknown
  pub capture : files.capture ≡ words.capture
  pub capture_size : Some files.capture_size
      ≡ size_of (option_map (λ word. word.now) words.capture_size)

-- One place of a controller is given, and no more.
abbrev pub IsControllerAt : Option (Bor Octets) → Option (Bor Octets) → Option (Bor Octets)
    → ControllerAddress → Type 0
IsControllerAt (Some word) None None (Listen address) = IsSocketText word.now address
IsControllerAt None (Some word) None (Connect address) = IsSocketText word.now address
IsControllerAt None None (Some path) (Serial device) = device ≡ path
IsControllerAt _ _ _ _ = ⊥

-- A path that has an octet at least, and fits the system's sockets.
abbrev pub IsSocketPath : Octets → Type 0
IsSocketPath path = (0 < length path) × (length path ≤ LONGEST_PATH)

-- At most one place of applications is given.
abbrev pub IsApplicationAt : Option (Bor Octets) → Option (Bor Octets) → ApplicationAddress
    → Type 0
IsApplicationAt None None application.None = ⊤
IsApplicationAt (Some path) None (application.Path at) = (at ≡ path) × IsSocketPath path.now
IsApplicationAt None (Some word) (application.Port address) = IsSocketText word.now address
IsApplicationAt _ _ _ = ⊥
