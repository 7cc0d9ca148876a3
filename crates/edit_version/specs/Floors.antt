-- Floors: the lower bounds of requirements (own, over Cargo reference, "Specifying Dependencies", and
-- SemVer 2.0.0, item 11).
use Rattle.std.specs.Prelude.{◌≡◌, ◌&&◌, ℕ, List, [], Bool, true, false, not, Option, Some, None, Result, Ok, Err, find, option_and_then, option_map, unwrap_or}
use Rattle.std.specs.List.{Contains, list_any}
use Rattle.std.specs.Ordering.{is_lt}
use Rattle.semver.specs.Parse.{Held, Parts, req_of}
use Rattle.semver.specs.declared.error.Error.{Error}
use Rattle.semver.specs.declared.Op.{Op}
use Rattle.semver.specs.declared.Op.TheVariants as op
use Rattle.edit_version.specs.Laws.{precedence}
use Rattle.edit_version.specs.Requirement.{requirement_read}

-- `<` and `<=`, which bound a requirement from above only
abbrev pub is_end : Op → Bool
is_end op.Less = true
is_end op.LessEq = true
is_end o = false

-- the version that a comparator names: missing numbers are 0, the pre-release is its own
abbrev pub comparator_version : Held → Parts
comparator_version c = (c.1, unwrap_or c.2 0, unwrap_or c.3 0, c.4, [])

-- a comparator other than `<` and `<=` names a later version than this one
abbrev pub begins_after : Parts → Held → Bool
begins_after v c = not (is_end c.0) && is_lt (precedence v (comparator_version c))

-- one of the comparators, other than `<` and `<=`, names a later version than this one
abbrev pub one_begins_after : List Held → Parts → Bool
one_begins_after cs v = list_any (begins_after v) cs

-- the floor of comparators: the greatest version that one of them other than `<` and `<=` names
pub record IsFloor (cs : List Held) (f : Parts) : Type 0 where
  pub comparator : Held
  pub among : Contains cs comparator
  pub begins : is_end comparator.0 ≡ false
  pub names : f ≡ comparator_version comparator
  pub greatest : one_begins_after cs f ≡ false

-- a comparator names the floor: it is neither `<` nor `<=`, and none of the others names a later version
abbrev pub names_floor : List Held → Held → Bool
names_floor cs c = not (is_end c.0) && not (one_begins_after cs (comparator_version c))

-- the floor of comparators, none where each is `<` or `<=`
abbrev pub floor_in : List Held → Option Parts
floor_in cs = option_map comparator_version (find (names_floor cs) cs)

-- the floor of a requirement, none where it has none or the text cannot be parsed
abbrev pub floor_of : List ℕ → Option Parts
floor_of text = option_and_then floor_in (requirement_read text)

-- the text is a requirement with this floor
abbrev pub HasFloor : List ℕ → Parts → Type 0
HasFloor text f = (cs : List Held) × (req_of text ≡ Ok cs) × IsFloor cs f

-- a parsed requirement has a floor above the version; false where parsing failed (own)
abbrev pub read_begins_after : Result (List Held) Error → Parts → Bool
read_begins_after (Ok cs) v = one_begins_after cs v
read_begins_after (Err e) v = false

-- there is a version, and it is lower than the floor of the requirement
abbrev pub is_below : List ℕ → Option Parts → Bool
is_below req None = false
is_below req (Some v) = read_begins_after (req_of req) v
