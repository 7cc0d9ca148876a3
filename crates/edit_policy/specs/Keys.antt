-- The keys of a policy, and what the value of each has to be (own).
use Rattle.std.specs.Prelude.{ℕ, List, Bool, true, false, ◌||◌, codes, if◌then◌else◌}
use Rattle.std.specs.Str.{bytes_eq}
use Rattle.edit_policy.specs.declared.keys.Expected.{Expected}
use Rattle.edit_policy.specs.declared.keys.Expected.TheVariants.{Absent, Table, Texts, Text, Truth, Status, Level, Days, RustVersion, Requirement}
use Rattle.edit_policy.specs.declared.keys.KeySet.{KeySet}
use Rattle.edit_policy.specs.declared.keys.KeySet.TheVariants.{OfPolicy, OfCrate}

-- what the value of a key of a policy has to be (own)
abbrev pub policy_key : List ℕ → Expected
policy_key name =
    if bytes_eq name (codes "exclude") then Texts
    else (if bytes_eq name (codes "compatible") then Status
    else (if bytes_eq name (codes "incompatible") then Status
    else (if bytes_eq name (codes "pinned") then Status
    else (if bytes_eq name (codes "never-lower") then Truth
    else (if bytes_eq name (codes "level") then Level
    else (if bytes_eq name (codes "min-age") then Days
    else (if bytes_eq name (codes "rust-version") then RustVersion
    else (if bytes_eq name (codes "crates") then Table else Absent))))))))

-- what the value of a key in the table of a crate has to be (own)
abbrev pub crate_key : List ℕ → Expected
crate_key name =
    if bytes_eq name (codes "hold") then Requirement
    else (if bytes_eq name (codes "level") then Level
    else (if bytes_eq name (codes "reason") then Text else Absent))

-- what the value of a key has to be, by the keys that its table may have (own)
abbrev pub expected_at : KeySet → List ℕ → Expected
expected_at OfPolicy name = policy_key name
expected_at OfCrate name = crate_key name

-- whether nothing is expected (own)
abbrev pub is_absent : Expected → Bool
is_absent Absent = true
is_absent _ = false
