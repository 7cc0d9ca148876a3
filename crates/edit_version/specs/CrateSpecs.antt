-- Words that name a crate, as `serde` and `serde@1.0` (Cargo reference, "Package ID Specifications").
use Rattle.std.specs.Prelude.{◌≡◌, ◌<◌, ℕ, List, [], ◌∷◌, ◌++◌, Bool, not, ◌==◌, ◌||◌, if◌then◌else◌, Option, Some, None, IsErr, IsOk, IfSome, codes, encode_utf8, length, option_map, string_bytes}
use Rattle.std.specs.List.{after_first, before_first, filter, position_or_len}
use Rattle.std.specs.Str.{chars}
use Rattle.semver.specs.Parse.{req_of}
use Rattle.unicode.specs.Binary.{is_alphabetic}
use Rattle.unicode.specs.GeneralCategory.{general_category}
use Rattle.unicode.specs.GeneralCategoryGroup.{in_group}
use Rattle.ucd_category.specs.declared.GeneralCategoryGroup.TheVariants.{Number}
use Rattle.edit_base.specs.declared.errors.Error.{Error}
use Rattle.edit_base.specs.declared.errors.Error.TheVariants as error
use Rattle.edit_version.specs.declared.crate_spec.CrateSpec.{CrateSpec}

-- the name in a package spec, up to its first `@` (own)
abbrev pub spec_name : List ℕ → List ℕ
spec_name arg = before_first (λ b. b == 64) arg

-- the requirement in a package spec, after its first `@`, none where there is no `@` (own)
abbrev pub spec_requirement : List ℕ → Option (List ℕ)
spec_requirement arg = if position_or_len (λ b. b == 64) arg == length arg
    then None else Some (after_first (λ b. b == 64) arg)

-- a character that a crate's name may have: `-`, `_`, a letter or a number of Unicode (own)
abbrev pub is_name_char : ℕ → Bool
is_name_char c = c == 45 || c == 95 || is_alphabetic c || in_group Number (general_category c)

-- the characters of a name that no name may have, in their order (own)
abbrev pub invalid_chars : List ℕ → List ℕ
invalid_chars name = filter (λ c. not (is_name_char c)) (chars name)

-- further characters, each after a comma and a space
abbrev pub after_comma : List ℕ → List ℕ
after_comma [] = []
after_comma (c ∷ cs) = codes ", " ++ (encode_utf8 c ++ after_comma cs)

-- characters as a text, joined by a comma and a space (own)
abbrev pub joined_chars : List ℕ → List ℕ
joined_chars [] = []
joined_chars (c ∷ cs) = encode_utf8 c ++ after_comma cs

-- the requirement in a package spec is there and is read, or there is none (own)
abbrev pub IsReadOrAbsent : Option (List ℕ) → Type 0
IsReadOrAbsent req = IfSome req (λ text. IsOk (req_of text))

-- what a package spec names: a name of fit characters, and a requirement that is read (own)
pub record IsNamedBy (arg : List ℕ) (spec : CrateSpec) : Type 0 where
  pub crate_name : string_bytes spec.name ≡ spec_name arg
  pub fit : invalid_chars (spec_name arg) ≡ []
  pub requirement : option_map string_bytes spec.version_req ≡ spec_requirement arg
  pub readable : IsReadOrAbsent (spec_requirement arg)

-- the error for a name, with its unfit characters (own)
abbrev pub IsInvalidName : List ℕ → Error → Type 0
IsInvalidName text (error.InvalidName name characters) =
    (0 < length (invalid_chars text)) × (string_bytes name ≡ text)
    × (string_bytes characters ≡ joined_chars (invalid_chars text))
IsInvalidName text error.Memory = Unit {0}
IsInvalidName text _ = ⊥

-- the error for the requirement of a package spec (own)
abbrev pub IsInvalidSpecRequirement : Option (List ℕ) → Error → Type 0
IsInvalidSpecRequirement req (error.InvalidRequirement text) =
    (req ≡ Some (string_bytes text)) × IsErr (req_of (string_bytes text))
IsInvalidSpecRequirement req error.Memory = Unit {0}
IsInvalidSpecRequirement req _ = ⊥

-- the error for a package spec: for the characters of its name, else for its requirement, where memory lasts
-- (own)
abbrev pub IsInvalidSpec : List ℕ → Error → Type 0
IsInvalidSpec arg (error.InvalidName name characters) =
    (0 < length (invalid_chars (spec_name arg))) × (string_bytes name ≡ spec_name arg)
    × (string_bytes characters ≡ joined_chars (invalid_chars (spec_name arg)))
IsInvalidSpec arg (error.InvalidRequirement text) =
    (invalid_chars (spec_name arg) ≡ []) × (spec_requirement arg ≡ Some (string_bytes text))
    × IsErr (req_of (string_bytes text))
IsInvalidSpec arg error.Memory = Unit {0}
IsInvalidSpec arg _ = ⊥
