-- Values of JSON whose numbers are all `1` or `2`, the only ones that registries write (own).
use Rattle.std.specs.Prelude.{◌≡◌, ◌⊎◌, ℕ, List, Some, codes, length, ⊤}
use Rattle.json.specs.Token.{Token}
use Rattle.json.specs.Json as json
use Rattle.json.specs.Json.{items, members, value}

-- each number of a value, of elements or of members is `1` or `2`
abbrev mutual
  pub HasSmallNumbers : json.Json → Type 0
  HasSmallNumbers json.null = ⊤
  HasSmallNumbers (json.boolean b) = ⊤
  HasSmallNumbers (json.number s) = (s ≡ codes "1") ⊎ (s ≡ codes "2")
  HasSmallNumbers (json.string s) = ⊤
  HasSmallNumbers (json.array js) = HaveSmallNumbers js
  HasSmallNumbers (json.object ms) = HoldSmallNumbers ms

  pub HaveSmallNumbers : json.Items → Type 0
  HaveSmallNumbers json.no_items = ⊤
  HaveSmallNumbers (json.item j js) = HasSmallNumbers j × HaveSmallNumbers js

  pub HoldSmallNumbers : json.Members → Type 0
  HoldSmallNumbers json.no_members = ⊤
  HoldSmallNumbers (json.member k j ms) = HasSmallNumbers j × HoldSmallNumbers ms

-- tokens begin with no value, nested at most this deep, whose numbers are all `1` or `2`
abbrev pub ReadsNoValue : ℕ → List Token → Type 0
ReadsNoValue depth before =
    (j : json.Json) (after : List Token) → value depth before ≡ Some (j, after) → HasSmallNumbers j → ⊥

-- nor with such elements and the closing bracket of an array
abbrev pub ReadsNoItems : ℕ → List Token → Type 0
ReadsNoItems depth before =
    (js : json.Items) (after : List Token) → items (value depth) (length before) before ≡ Some (js, after)
    → HaveSmallNumbers js → ⊥

-- nor with such members and the closing brace of an object
abbrev pub ReadsNoMembers : ℕ → List Token → Type 0
ReadsNoMembers depth before =
    (ms : json.Members) (after : List Token) → members (value depth) (length before) before ≡ Some (ms, after)
    → HoldSmallNumbers ms → ⊥
