-- The names of 16-bit types (Assigned Numbers of the Bluetooth SIG, 3.4, 3.7 and 3.8).
use Rattle.std.specs.Prelude.{ℕ, ◌==◌, List, [], ◌∷◌, ◌++◌, map, codes, Option}
use Rattle.std.specs.List.{find}
use Rattle.std.specs.Option.{option_map}
use Rattle.octet_io.specs.Number.{Octets}
use Rattle.policy_words.specs.declared.type_names.Assigned.{Assigned}

-- Numbers with their names, as a specification and in the code.
abbrev pub NumberNames : Type 0
NumberNames = List (ℕ × Octets)

abbrev pub names_view : List Assigned → NumberNames
names_view names = map (λ (named : Assigned). (named.number, named.name.now)) names

abbrev pub name_among : NumberNames → ℕ → Option Octets
name_among names number =
    option_map (λ (named : ℕ × Octets). named.1)
    (find (λ (named : ℕ × Octets). named.0 == number) names)

unfoldable pub service_names : NumberNames
service_names =
    (0x1800, codes "Generic Access")
    ∷ (0x1801, codes "Generic Attribute")
    ∷ (0x1802, codes "Immediate Alert")
    ∷ (0x1803, codes "Link Loss")
    ∷ (0x1804, codes "Tx Power")
    ∷ (0x1805, codes "Current Time")
    ∷ (0x1808, codes "Glucose")
    ∷ (0x1809, codes "Health Thermometer")
    ∷ (0x180A, codes "Device Information")
    ∷ (0x180D, codes "Heart Rate")
    ∷ (0x180F, codes "Battery")
    ∷ (0x1810, codes "Blood Pressure")
    ∷ (0x1811, codes "Alert Notification")
    ∷ (0x1812, codes "Human Interface Device")
    ∷ (0x1813, codes "Scan Parameters")
    ∷ (0x1814, codes "Running Speed and Cadence")
    ∷ (0x1815, codes "Automation IO")
    ∷ (0x1816, codes "Cycling Speed and Cadence")
    ∷ (0x1818, codes "Cycling Power")
    ∷ (0x1819, codes "Location and Navigation")
    ∷ (0x181A, codes "Environmental Sensing")
    ∷ (0x181B, codes "Body Composition")
    ∷ (0x181C, codes "User Data")
    ∷ (0x181D, codes "Weight Scale")
    ∷ (0x181E, codes "Bond Management")
    ∷ (0x181F, codes "Continuous Glucose Monitoring")
    ∷ (0x1822, codes "Pulse Oximeter")
    ∷ (0x1826, codes "Fitness Machine")
    ∷ []

unfoldable pub characteristic_names : NumberNames
characteristic_names =
    (0x2A00, codes "Device Name")
    ∷ (0x2A01, codes "Appearance")
    ∷ (0x2A04, codes "Peripheral Preferred Connection Parameters")
    ∷ (0x2A05, codes "Service Changed")
    ∷ (0x2A06, codes "Alert Level")
    ∷ (0x2A07, codes "Tx Power Level")
    ∷ (0x2A08, codes "Date Time")
    ∷ (0x2A19, codes "Battery Level")
    ∷ (0x2A1C, codes "Temperature Measurement")
    ∷ (0x2A1D, codes "Temperature Type")
    ∷ (0x2A21, codes "Measurement Interval")
    ∷ (0x2A23, codes "System ID")
    ∷ (0x2A24, codes "Model Number String")
    ∷ (0x2A25, codes "Serial Number String")
    ∷ (0x2A26, codes "Firmware Revision String")
    ∷ (0x2A27, codes "Hardware Revision String")
    ∷ (0x2A28, codes "Software Revision String")
    ∷ (0x2A29, codes "Manufacturer Name String")
    ∷ (0x2A2B, codes "Current Time")
    ∷ (0x2A35, codes "Blood Pressure Measurement")
    ∷ (0x2A37, codes "Heart Rate Measurement")
    ∷ (0x2A38, codes "Body Sensor Location")
    ∷ (0x2A39, codes "Heart Rate Control Point")
    ∷ (0x2A4A, codes "HID Information")
    ∷ (0x2A4B, codes "Report Map")
    ∷ (0x2A4C, codes "HID Control Point")
    ∷ (0x2A4D, codes "Report")
    ∷ (0x2A4E, codes "Protocol Mode")
    ∷ (0x2A50, codes "PnP ID")
    ∷ (0x2A6D, codes "Pressure")
    ∷ (0x2A6E, codes "Temperature")
    ∷ (0x2A6F, codes "Humidity")
    ∷ (0x2AA6, codes "Central Address Resolution")
    ∷ (0x2B29, codes "Client Supported Features")
    ∷ (0x2B2A, codes "Database Hash")
    ∷ (0x2B3A, codes "Server Supported Features")
    ∷ []

unfoldable pub descriptor_names : NumberNames
descriptor_names =
    (0x2900, codes "Characteristic Extended Properties")
    ∷ (0x2901, codes "Characteristic User Description")
    ∷ (0x2902, codes "Client Characteristic Configuration")
    ∷ (0x2903, codes "Server Characteristic Configuration")
    ∷ (0x2904, codes "Characteristic Presentation Format")
    ∷ (0x2905, codes "Characteristic Aggregate Format")
    ∷ (0x2906, codes "Valid Range")
    ∷ (0x2907, codes "External Report Reference")
    ∷ (0x2908, codes "Report Reference")
    ∷ []

-- The name of a common 16-bit type.
unfoldable pub type_name : ℕ → Option Octets
type_name number = name_among (service_names ++ descriptor_names ++ characteristic_names) number
