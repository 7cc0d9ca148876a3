-- The syntax of a configuration file of curl, and how curl reads it (curl's manual, `--config`).
use Rattle.std.specs.Prelude.{ℕ, List, [], ◌∷◌, ◌++◌, Option, Some, None, option_map, Bool, true, false, ◌==◌, ◌&&◌, ◌||◌, nat_le, not, codes, if◌then◌else◌}
use Rattle.std.specs.List.{filter, filter_map, flat_map, join_by, list_all, slice_split}

-- an option by its long name, and its value where it takes one
pub record CurlOption : Type 0 where
  pub name : List ℕ
  pub value : Option (List ℕ)

abbrev pub bare : List ℕ → CurlOption
bare name = record { name = name; value = None }

abbrev pub valued : List ℕ → List ℕ → CurlOption
valued name value = record { name = name; value = Some value }

-- a byte of a quoted value: `"` and `\` after a backslash, tab, line feed, carriage return and vertical tab
-- as `\t`, `\n`, `\r` and `\v`; a NUL, which ends every string in curl, is dropped
abbrev pub escape_of : ℕ → List ℕ
escape_of b =
    if b == 0 then []
    else if b == 34 then 92 ∷ 34 ∷ []
    else if b == 92 then 92 ∷ 92 ∷ []
    else if b == 9 then codes "\\t"
    else if b == 10 then codes "\\n"
    else if b == 13 then codes "\\r"
    else if b == 11 then codes "\\v"
    else b ∷ []

-- a quoted value
abbrev pub quoted : List ℕ → List ℕ
quoted value = 34 ∷ (flat_map escape_of value ++ 34 ∷ [])

-- the text after the name of an option
abbrev pub value_text : Option (List ℕ) → List ℕ
value_text None = []
value_text (Some value) = codes " = " ++ quoted value

-- the line of an option without its end: `NAME`, or `NAME = "VALUE"`
abbrev pub option_text : CurlOption → List ℕ
option_text o = o.name ++ value_text o.value

-- the line of an option
unfoldable pub option_line : CurlOption → List ℕ
option_line o = option_text o ++ 10 ∷ []

-- the option that separates two transfers
abbrev pub next : CurlOption
next = bare (codes "next")

-- the options before a transfer that follows `before` others
abbrev pub transfer_separator : ℕ → List CurlOption
transfer_separator before = if before == 0 then [] else next ∷ []

-- the options of several transfers, separated by `next`
abbrev pub in_a_row : List (List CurlOption) → List CurlOption
in_a_row transfers = join_by (λ options. options) (next ∷ []) transfers

-- the configuration file for these transfers: the lines of their options
abbrev pub config_text : List (List CurlOption) → List ℕ
config_text transfers = flat_map option_line (in_a_row transfers)

-- the byte that an escape stands for, given the byte after the backslash
abbrev pub unescaped_byte : ℕ → ℕ
unescaped_byte b =
    if b == 116 then 9
    else if b == 110 then 10
    else if b == 114 then 13
    else if b == 118 then 11
    else b

-- the value after an opening quote: the bytes up to the next quote that is not escaped; `escaped` is set
-- after a backslash
abbrev pub unquoted : Bool → List ℕ → List ℕ
unquoted escaped [] = []
unquoted true (b ∷ bs) = unescaped_byte b ∷ unquoted false bs
unquoted false (b ∷ bs) =
    if b == 34 then [] else if b == 92 then unquoted true bs else b ∷ unquoted false bs

-- a byte of white space
abbrev pub is_space : ℕ → Bool
is_space b = (b == 32) || (nat_le 9 b && nat_le b 13)

-- a byte that ends an option's name: white space, `=` or `:`
abbrev pub is_separator : ℕ → Bool
is_separator b = is_space b || ((b == 61) || (b == 58))

-- the bytes before the first that passes a test, and those from it on
abbrev pub up_to : (ℕ → Bool) → List ℕ → List ℕ
up_to p [] = []
up_to p (b ∷ bs) = if p b then [] else b ∷ up_to p bs

abbrev pub from_on : (ℕ → Bool) → List ℕ → List ℕ
from_on p [] = []
from_on p (b ∷ bs) = if p b then b ∷ bs else from_on p bs

-- the value of an option, given the text after its name and separators
abbrev pub value_in : List ℕ → Option (List ℕ)
value_in [] = None
value_in (b ∷ bs) = Some (if b == 34 then unquoted false bs else up_to is_space (b ∷ bs))

-- the option of a line without leading white space; none for a comment
abbrev pub option_from : List ℕ → Option CurlOption
option_from [] = None
option_from (b ∷ bs) =
    if b == 35 then None
    else Some (record {
      name = up_to is_separator (b ∷ bs);
      value = value_in (from_on (λ c. not (is_separator c)) (from_on is_separator (b ∷ bs)));
    })

-- the options that curl reads from a text: one for each line that is neither a comment nor blank
abbrev pub options_in : List ℕ → List CurlOption
options_in text =
    filter_map (λ line. option_from (from_on (λ c. not (is_space c)) line)) (slice_split (λ b. b == 10) text)

-- an option as curl stores it: without NULs in its value
abbrev pub without_nuls : CurlOption → CurlOption
without_nuls o = record { name = o.name; value = option_map (filter (λ b. not (b == 0))) o.value }

-- the name of an option: lower-case letters and dashes
abbrev pub is_option_name : List ℕ → Bool
is_option_name [] = false
is_option_name (b ∷ bs) = list_all (λ c. (nat_le 97 c && nat_le c 122) || (c == 45)) (b ∷ bs)
