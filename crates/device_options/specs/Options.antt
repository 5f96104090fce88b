-- The options of `host`, as their words mean them (this profile's own).
use Rattle.std.specs.Prelude.{◌≡◌, true, map, [], unwrap_or, Option, Some, None}
use Rattle.std.specs.Option.{option_map}
use Rattle.std.specs.Borrow.{Bor}
use Rattle.octet_io.specs.Number.{Octets}
use Rattle.device_options.specs.Address.{own_address_of}
use Rattle.device_options.specs.Advertising.{Advertises}
use Rattle.device_options.specs.Numbers.{limit_of, slots_of}
use Rattle.device_options.specs.Places.{AreFilesOf, IsApplicationAt, IsControllerAt}
use Rattle.device_options.specs.declared.options.HostOptions.{HostOptions}
use Rattle.device_options.specs.declared.options.HostSettings.{HostSettings}
use Rattle.device_options.specs.declared.options.TheConstants.{PATIENCE}
use Rattle.device_options.specs.declared.texts.OptionTexts.{OptionTexts}

abbrev pub word_of : Option (Bor Octets) → Option Octets
word_of word = option_map (λ word. word.now) word

pub record AreSettingsOf (words : OptionTexts) (settings : HostSettings) : Type 0 where
  pub slots : Some settings.slots ≡ slots_of (word_of words.slots)
  pub address : Some settings.address ≡ own_address_of (word_of words.address)
  pub advertising : Advertises (map (λ word. word.now) words.advertise.items)
      (unwrap_or (word_of words.name) []) settings.advertising.items

pub record AreOptionsOf (words : OptionTexts) (options : HostOptions) : Type 0 where
  pub files : AreFilesOf words options.files
  pub controller : IsControllerAt words.listen words.connect words.serial options.controller
  pub application : IsApplicationAt words.application words.application_port options.application
  pub waits : options.wait_for_application ≡ words.wait_for_application
  -- It waits only for an application that has a place.
  pub waits_for_one : words.wait_for_application ≡ true
      → IsApplicationAt None None options.application → ⊥
  pub idle : Some options.idle ≡ limit_of (word_of words.idle)
  pub stranger : Some options.stranger ≡ limit_of (word_of words.stranger)
  pub patience : option_map (λ limit. unwrap_or limit PATIENCE) (limit_of (word_of words.patience))
      ≡ Some options.patience
  pub host : AreSettingsOf words options.host
  pub log_values : options.log_values ≡ words.log_values
  pub log_refusals : options.log_refusals ≡ words.log_refusals
  pub once : options.once ≡ words.once
