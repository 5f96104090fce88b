-- The walk over a document never says that its text is not TOML.
use Rattle.std.proofs.Common.{◌≡◌, ◌≢◌, ℕ, ◌+◌, Bool, true, false, not, ◌&&◌, ◌||◌, ◌==◌, if◌then◌else◌, List, [], ◌∷◌, ◌++◌, length, Option, Some, None, is_some, Result, Ok, Err, refl}
use Rattle.std.specs.Prelude.{ℤ, pos, negsuc, nat_le, codes}
use Rattle.hex.specs.Hex.{decode_of}
use Rattle.hex.specs.declared.error.FromHexError.{FromHexError}
use Rattle.toml.specs.Data.{Data, Items, no_items, item, Members, as_str, as_integer, as_table}
use Rattle.toml.specs.Parse.{parse_document}
use Rattle.toml_schema.specs.Reading.{◌>>=◌, unless, require, each, text_at, integer_at, flag_at, array_at, items_at, table_at}
use Rattle.toml_schema.specs.Shape.{is_shaped}
use Rattle.att_numbers.specs.AttributeType.{type_octets}
use Rattle.att_numbers.specs.declared.attribute_type.TheConstants.{INCLUDE, CHARACTERISTIC}
use Rattle.att_policy.specs.declared.guard.Need.{Need}
use Rattle.att_policy.specs.declared.guard.Properties.{Properties}
use Rattle.att_attributes.specs.declared.attr.Attr.{Attr}
use Rattle.att_attributes.specs.declared.attr.Role.{Role}
use Rattle.att_attributes.specs.declared.attr.Role.TheVariants.{Value as ValueRole, Descriptor}
use Rattle.att_table.specs.declared.table_fault.TableKey.TheVariants.{Service as ServiceName, Uuid, Properties as PropertiesName, Value}
use Rattle.att_table.specs.declared.table_fault.TableFault.{TableFault}
use Rattle.att_table.specs.declared.table_fault.TableFault.TheVariants.{NotToml, Missing, BadUuid, BadSecurity, BadProperty, BadInclude, TooLong, TooMany, Shape}
use Rattle.att_table.specs.file.Field.{value_decoded, largest_of, property_named, has_all, key_size_asked}
use Rattle.att_table.specs.file.Fields.{attribute_type_in, value_type_at, no_properties, property_step, properties_at, value_read_at, placed_of}
use Rattle.att_table.specs.file.Keys.{table_file_keys, service_keys, characteristic_keys, descriptor_keys, need_keys}
use Rattle.att_table.specs.file.Limits.{is_within_limits}
use Rattle.att_table.specs.file.Needs.{need_read, need_at}
use Rattle.att_table.specs.file.Placed.{next_handle, add, declaration, declare}
use Rattle.att_table.specs.file.Service.{earlier_service, include_value}
use Rattle.att_table.specs.Table.{Contents}
use Rattle.att_table.specs.file.TypeText.{type_named, is_type_of_value}
use Rattle.att_table.specs.file.TableFile.{any_property, read_and_write, descriptor_step, is_announced, config_at, configuration, configure, characteristic_value, characterize, characteristic_step, include_step, service_type_at, service_step, no_attributes, table_of, table_read}
use Rattle.att_numbers.specs.declared.limit.TheConstants.{MAX_VALUE}

abbrev IsWalked : {A : Type 0} → Result A TableFault → Type 0
IsWalked (Ok _) = Unit
IsWalked (Err fault) = fault ≢ NotToml

walked-then : {A B : Type 0} (first : Result A TableFault) (next : A → Result B TableFault) → IsWalked first → ((x : A) → IsWalked (next x))
    → IsWalked (first >>= next)
walked-then (Ok x) next here later = later x
walked-then (Err fault) next here later = here

walked-unless : (test : Bool) (fault : TableFault) → fault ≢ NotToml → IsWalked (unless test fault)
walked-unless true fault other = tt
walked-unless false fault other = other

walked-required : {A : Type 0} (found : Option A) (fault : TableFault) → fault ≢ NotToml → IsWalked (require found fault)
walked-required None fault other = other
walked-required (Some x) fault other = tt

walked-each : {S : Type 0} (step : S → Data → Result S TableFault) (state : S) (items : Items) → ((s : S) (value : Data) → IsWalked (step s value))
    → IsWalked (each step state items)
walked-each step state no_items walked = tt
walked-each step state (item value rest) walked =
    walked-then (step state value) (λ next. each step next rest) (walked state value) (λ next. walked-each step next rest walked)

walked-if : {A : Type 0} (test : Bool) (x : A) (fault : TableFault) → fault ≢ NotToml → IsWalked (if test then Ok x else Err fault)
walked-if true x fault other = tt
walked-if false x fault other = other

walked-either : {A : Type 0} (test : Bool) (first second : Result A TableFault) → IsWalked first → IsWalked second → IsWalked (if test then first else second)
walked-either true first second one other = one
walked-either false first second one other = other

-- the fields
walked-key_size_of : (size : Option ℤ) → IsWalked (key_size_asked size)
walked-key_size_of None = tt
walked-key_size_of (Some (pos size)) = walked-if (nat_le 7 size && nat_le size 16) (Some size) BadSecurity (λ e. cc e)
walked-key_size_of (Some (negsuc size)) = λ e. cc e

walked-need_read : (found : Option Members) → IsWalked (need_read found)
walked-need_read None = tt
walked-need_read (Some needs) =
    walked-then (unless (is_shaped need_keys needs) BadSecurity) _ (walked-unless _ _ (λ e. cc e))
    (λ _. walked-then (key_size_asked (integer_at (codes "key_size") needs)) _ (walked-key_size_of (integer_at (codes "key_size") needs)) (λ size. tt))

walked-type_at : (table : Members) → IsWalked (attribute_type_in table)
walked-type_at table =
    walked-then (require (text_at (codes "uuid") table) (Missing Uuid)) _ (walked-required _ _ (λ e. cc e))
    (λ text. walked-required (type_named text) _ (λ e. cc e))

walked-value_type_at : (table : Members) → IsWalked (value_type_at table)
walked-value_type_at table =
    walked-then (attribute_type_in table) _ (walked-type_at table)
    (λ kind. walked-then (unless (is_type_of_value kind) BadUuid) _ (walked-unless _ _ (λ e. cc e)) (λ _. tt))

walked-property_step : (allowed properties : Properties) (value : Data) → IsWalked (property_step allowed properties value)
walked-property_step allowed properties value =
    walked-then (require (as_str value) Shape) _ (walked-required _ _ (λ e. cc e))
    (λ word. walked-then (require (property_named word) BadProperty) _ (walked-required _ _ (λ e. cc e))
    (λ property. walked-then (unless (has_all allowed property) BadProperty) _ (walked-unless _ _ (λ e. cc e)) (λ _. tt)))

walked-properties_at : (allowed : Properties) (table : Members) → IsWalked (properties_at allowed table)
walked-properties_at allowed table =
    walked-then (require (array_at (codes "properties") table) (Missing PropertiesName)) _ (walked-required _ _ (λ e. cc e))
    (λ words. walked-each (property_step allowed) no_properties words (walked-property_step allowed))

walked-value_decoded : (decoded : Result (List ℕ) FromHexError) → IsWalked (value_decoded decoded)
walked-value_decoded (Err _) = λ e. cc e
walked-value_decoded (Ok octets) = walked-if (nat_le (length octets) MAX_VALUE) octets TooLong (λ e. cc e)

walked-value_read_at : (table : Members) → IsWalked (value_read_at table)
walked-value_read_at table =
    walked-then (require (text_at (codes "value") table) (Missing Value)) _ (walked-required _ _ (λ e. cc e))
    (λ text. walked-value_decoded (decode_of text))

walked-largest_of : (largest : Option ℤ) (fixed : Bool) (size : ℕ) → IsWalked (largest_of largest fixed size)
walked-largest_of None fixed size = tt
walked-largest_of (Some (pos largest)) fixed size =
    walked-if (nat_le size largest && nat_le largest MAX_VALUE && (not fixed || (largest == size))) largest TooLong (λ e. cc e)
walked-largest_of (Some (negsuc _)) fixed size = λ e. cc e

walked-placed_of : (role : Role) (handle : ℕ) (allowed : Properties) (table : Members) → IsWalked (placed_of role handle allowed table)
walked-placed_of role handle allowed table =
    walked-then (value_type_at table) _ (walked-value_type_at table)
    (λ kind. walked-then (properties_at allowed table) _ (walked-properties_at allowed table)
    (λ properties. walked-then (value_read_at table) _ (walked-value_read_at table)
    (λ value. walked-then (largest_of (integer_at (codes "max") table) (flag_at (codes "fixed") table) (length value)) _
    (walked-largest_of (integer_at (codes "max") table) (flag_at (codes "fixed") table) (length value))
    (λ largest. walked-then (need_at (codes "read") table) _ (walked-need_read (table_at (codes "read") table))
    (λ read. walked-then (need_at (codes "write") table) _ (walked-need_read (table_at (codes "write") table)) (λ write. tt))))))

-- the steps
walked-add : (draft : Contents) (attr : Attr) (value : List ℕ) → IsWalked (add draft attr value)
walked-add draft attr value =
    walked-then (unless (is_within_limits (draft.attributes ++ attr ∷ [])) TooMany) _ (walked-unless _ _ (λ e. cc e)) (λ _. tt)

walked-declare : (draft : Contents) (kind : ℕ) (value : List ℕ) → IsWalked (declare draft kind value)
walked-declare draft kind value = walked-add draft (declaration (next_handle draft) kind (length value)) value

walked-configure : (draft : Contents) (properties : Properties) (need : Need) → IsWalked (configure draft properties need)
walked-configure draft properties need =
    walked-either (is_announced properties) (add draft (configuration (next_handle draft) need) []) (Ok draft)
    (walked-add draft (configuration (next_handle draft) need) []) tt

walked-descriptor_step : (draft : Contents) (value : Data) → IsWalked (descriptor_step draft value)
walked-descriptor_step draft value =
    walked-then (require (as_table value) Shape) _ (walked-required _ _ (λ e. cc e))
    (λ table. walked-then (unless (is_shaped descriptor_keys table) Shape) _ (walked-unless _ _ (λ e. cc e))
    (λ _. walked-then (placed_of Descriptor (next_handle draft) read_and_write table) _ (walked-placed_of Descriptor (next_handle draft) read_and_write table)
    (λ placed. walked-add draft placed.0 placed.1)))

walked-config_at : (properties : Properties) (table : Members) → IsWalked (config_at properties table)
walked-config_at properties table =
    walked-then (need_at (codes "config") table) _ (walked-need_read (table_at (codes "config") table))
    (λ need. walked-then (unless (is_announced properties || not (is_some (table_at (codes "config") table))) BadProperty) _ (walked-unless _ _ (λ e. cc e))
    (λ _. tt))

walked-characterize : (draft : Contents) (attr : Attr) (value : List ℕ) (need : Need) → IsWalked (characterize draft attr value need)
walked-characterize draft attr value need =
    walked-then (declare draft CHARACTERISTIC (characteristic_value attr)) _ (walked-declare draft CHARACTERISTIC (characteristic_value attr))
    (λ declared. walked-then (add declared attr value) _ (walked-add declared attr value)
    (λ valued. walked-configure valued attr.guard.properties need))

walked-characteristic_step : (draft : Contents) (value : Data) → IsWalked (characteristic_step draft value)
walked-characteristic_step draft value =
    walked-then (require (as_table value) Shape) _ (walked-required _ _ (λ e. cc e))
    (λ table. walked-then (unless (is_shaped characteristic_keys table) Shape) _ (walked-unless _ _ (λ e. cc e))
    (λ _. walked-then (placed_of ValueRole (next_handle draft + 1) any_property table) _ (walked-placed_of ValueRole (next_handle draft + 1) any_property table)
    (λ placed. walked-then (config_at placed.0.guard.properties table) _ (walked-config_at placed.0.guard.properties table)
    (λ need. walked-then (characterize draft placed.0 placed.1 need) _ (walked-characterize draft placed.0 placed.1 need)
    (λ next. walked-each descriptor_step next (items_at (codes "descriptor") table) walked-descriptor_step)))))

walked-include_step : (draft : Contents) (value : Data) → IsWalked (include_step draft value)
walked-include_step draft value =
    walked-then (require (as_integer value) Shape) _ (walked-required _ _ (λ e. cc e))
    (λ position. walked-then (require (earlier_service draft.attributes position) BadInclude) _ (walked-required _ _ (λ e. cc e))
    (λ service. walked-declare draft INCLUDE (include_value draft.values service)))

walked-service_step : (draft : Contents) (value : Data) → IsWalked (service_step draft value)
walked-service_step draft value =
    walked-then (require (as_table value) Shape) _ (walked-required _ _ (λ e. cc e))
    (λ table. walked-then (unless (is_shaped service_keys table) Shape) _ (walked-unless _ _ (λ e. cc e))
    (λ _. walked-then (attribute_type_in table) _ (walked-type_at table)
    (λ kind. walked-then (declare draft (service_type_at table) (type_octets kind)) _ (walked-declare draft (service_type_at table) (type_octets kind))
    (λ declared. walked-then (each include_step declared (items_at (codes "include") table)) _
    (walked-each include_step declared (items_at (codes "include") table) walked-include_step)
    (λ included. walked-each characteristic_step included (items_at (codes "characteristic") table) walked-characteristic_step)))))

walked-table_of : (document : Members) → IsWalked (table_of document)
walked-table_of document =
    walked-then (unless (is_shaped table_file_keys document) Shape) _ (walked-unless _ _ (λ e. cc e))
    (λ _. walked-then (require (array_at (codes "service") document) (Missing ServiceName)) _ (walked-required _ _ (λ e. cc e))
    (λ services. walked-each service_step no_attributes services walked-service_step))

-- so that fault tells of a text that does not parse
other_fault : {A : Type 0} (result : Result A TableFault) → IsWalked result → result ≢ Err NotToml
other_fault (Ok x) walked = λ e. cc e
other_fault (Err fault) walked = λ e. walked (cc e)

none_parsed : (document : Option Members) → (require document NotToml >>= table_of) ≡ Err NotToml → document ≡ None
none_parsed None e = refl
none_parsed (Some document) e = absurd (other_fault (table_of document) (walked-table_of document) e)

pub not_toml : (text : List ℕ) → table_read text ≡ Err NotToml → parse_document text ≡ None
not_toml text e = none_parsed (parse_document text) e
