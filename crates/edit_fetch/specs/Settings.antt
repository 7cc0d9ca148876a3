-- The network settings of cargo (Cargo reference, "Configuration", net and http).
use Rattle.std.specs.Prelude.{◌≡◌, ℕ, ℤ, pos, negsuc, ◌^◌, List, [], ◌∷◌, Option, Some, None, Bool, true, false, ◌<◌, nat_lt, codes, option_and_then, option_map, string_bytes, unwrap_or, if◌then◌else◌}
use Rattle.std.specs.List.{AllZip}
use Rattle.std.specs.Option.{SomeIff, option_or}
use Rattle.std.specs.Str.{IsUtf8, bytes_eq}
use Rattle.std.specs.Str.Parse.{IsNumeral, digits_value, without_leading_plus}
use Rattle.toml.specs.Data.{Data, Members, as_bool, as_integer, as_str, as_table, get_member}
use Rattle.toml.specs.Parse.{parse_document}
use Rattle.edit_base.specs.Paths.{IsFolderOf, joined}
use Rattle.edit_fetch.specs.declared.settings.NetSettings.{NetSettings}
use Rattle.edit_fetch.specs.declared.settings.NetValues.{NetValues}
use Rattle.edit_fetch.specs.declared.settings.environment.Environment.{Environment}
use Rattle.edit_sources.specs.declared.config.Config.{Config}
use Rattle.edit_sources.specs.Configured.{given}
use Rattle.edit_store.specs.Store.{Files}

-- the network settings of one source: the environment, or a configuration file
pub record Values : Type 0 where
  pub offline : Option Bool
  pub retry : Option ℕ
  pub timeout : Option ℕ
  pub proxy : Option (List ℕ)
  pub cainfo : Option (List ℕ)

abbrev pub values_of : NetValues → Values
values_of v = record {
  offline = v.offline;
  retry = v.retry;
  timeout = v.timeout;
  proxy = option_map string_bytes v.proxy;
  cainfo = option_map string_bytes v.cainfo;
}

abbrev pub no_values : Values
no_values = record { offline = None; retry = None; timeout = None; proxy = None; cainfo = None }

-- merges two settings: where the first does not set a value, that of the later one counts
abbrev pub merge_values : Values → Values → Values
merge_values first later = record {
  offline = option_or first.offline later.offline;
  retry = option_or first.retry later.retry;
  timeout = option_or first.timeout later.timeout;
  proxy = option_or first.proxy later.proxy;
  cainfo = option_or first.cainfo later.cainfo;
}

-- merges several settings: of each value the first that is set
abbrev pub first_values : List Values → Values
first_values [] = no_values
first_values (first ∷ later) = merge_values first (first_values later)

-- the effective settings
pub record Settings : Type 0 where
  pub offline : Bool
  pub retry : ℕ
  pub timeout : ℕ
  pub proxy : Option (List ℕ)
  pub cainfo : Option (List ℕ)

-- the model of the effective settings
abbrev pub settings_view : NetSettings → Settings
settings_view s = record {
  offline = s.offline;
  retry = s.retry;
  timeout = s.timeout;
  proxy = option_map string_bytes s.proxy;
  cainfo = option_map string_bytes s.cainfo;
}

-- the effective settings, with cargo's defaults (Cargo reference, "Configuration", net.offline, net.retry,
-- http.timeout)
abbrev pub settings_of : Values → Settings
settings_of v = record {
  offline = unwrap_or v.offline false;
  retry = unwrap_or v.retry 3;
  timeout = unwrap_or v.timeout 30;
  proxy = v.proxy;
  cainfo = v.cainfo;
}

-- the value of a key in a table of a document
abbrev pub value_in : List ℕ → List ℕ → Members → Option Data
value_in table key document =
    option_and_then (get_member key) (option_and_then as_table (get_member table document))

-- an integer that fits in 32 bits, unsigned
abbrev pub count_of : ℤ → Option ℕ
count_of (pos n) = if nat_lt n 4294967296 then Some n else None
count_of (negsuc n) = None

-- the settings of a document, with relative paths joined to `base`
abbrev pub values_in : List ℕ → Members → Values
values_in base document = record {
  offline = option_and_then as_bool (value_in (codes "net") (codes "offline") document);
  retry = option_and_then count_of
      (option_and_then as_integer (value_in (codes "net") (codes "retry") document));
  timeout = option_and_then count_of
      (option_and_then as_integer (value_in (codes "http") (codes "timeout") document));
  proxy = option_and_then as_str (value_in (codes "http") (codes "proxy") document);
  cainfo = option_map (joined base)
      (option_and_then as_str (value_in (codes "http") (codes "cainfo") document));
}

-- the bytes are no TOML document
pub data IsNoDocument (bytes : List ℕ) : Type 0 where
  not_utf8 : (IsUtf8 bytes → ⊥) → IsNoDocument bytes
  not_toml : parse_document bytes ≡ None → IsNoDocument bytes

-- the settings of the bytes of a file; none where they are no TOML document
pub data HasValues (base bytes : List ℕ) (values : Values) : Type 0 where
  document : (members : Members) → IsUtf8 bytes → parse_document bytes ≡ Some members
      → values ≡ values_in base members → HasValues base bytes values
  nothing : IsNoDocument bytes → values ≡ no_values → HasValues base bytes values

-- the settings of the file at a path; relative paths are joined to the parent of the file's folder
pub record HasValuesAt (path bytes : List ℕ) (values : Values) : Type 0 where
  pub folder : List ℕ
  pub base : List ℕ
  pub own : IsFolderOf path folder
  pub above : IsFolderOf folder base
  pub says : HasValues base bytes values

abbrev pub IsReadAt : List ℕ → Option (List ℕ) → Values → Type 0
IsReadAt path None values = values ≡ no_values
IsReadAt path (Some bytes) values = HasValuesAt path bytes values

-- the settings of the files of these configurations, in their order
abbrev pub AreReadAt : Files → List Config → List Values → Type 0
AreReadAt files configs values =
    AllZip (λ c v. IsReadAt (string_bytes c.path) (files (string_bytes c.path)) v) configs values

-- the boolean of a text, if it is one
abbrev pub flag_of : List ℕ → Option Bool
flag_of text =
    if bytes_eq text (codes "true") then Some true
    else if bytes_eq text (codes "false") then Some false
    else None

-- the number of an environment variable: a decimal number of at most 32 bits
abbrev pub ReadsCount : Option (List ℕ) → Option ℕ → Type 0
ReadsCount None count = count ≡ None
ReadsCount (Some text) count =
    SomeIff count (IsNumeral 10 (without_leading_plus text)
    × (digits_value 10 (without_leading_plus text) < 2 ^ 32)) (digits_value 10 (without_leading_plus text))

-- the settings of the environment
pub record IsEnvironment (environment : Environment) (values : Values) : Type 0 where
  pub offline : values.offline ≡ option_and_then flag_of (given environment.offline)
  pub retry : ReadsCount (given environment.retry) values.retry
  pub timeout : ReadsCount (given environment.timeout) values.timeout
  pub proxy : values.proxy ≡ given environment.proxy
  pub cainfo : values.cainfo ≡ given environment.cainfo

-- the effective settings: those of the environment, then those of the files of these configurations, in
-- order
pub record AreSettings (files : Files) (environment : Environment) (configs : List Config)
    (settings : Settings) : Type 0 where
  pub own : Values
  pub later : List Values
  pub said : IsEnvironment environment own
  pub read : AreReadAt files configs later
  pub first : settings ≡ settings_of (first_values (own ∷ later))
