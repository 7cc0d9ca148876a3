-- Loops over elements and members that may refuse one: what a value with small numbers leaves to read.
use Rattle.std.proofs.Common.{◌≡◌, ◌⊎◌, ◌∙◌, ◌-◌, ◌<◌, ℕ, zero, suc, List, [], ◌∷◌, length, Option, Some, None, option_and_then, ap, refl, subst, sym, arith}
use Rattle.std.specs.Prelude.{⊤}
use Rattle.json.specs.Token.{Token}
use Rattle.json.specs.Json as json
use Rattle.json.specs.Json.{Parse, parse_map, after_end_array, read_key, items_step, members_step, items, members, value}
use Rattle.json.proofs.Grammar.{members_no_key, value-begin_array, value-begin_object, value_is}
use Rattle.edit_json.specs.SmallNumbers.{HasSmallNumbers, HaveSmallNumbers, HoldSmallNumbers, ReadsNoItems, ReadsNoMembers, ReadsNoValue}

abbrev pick : {A : Type 0} → A → Option A → A
pick a None = a
pick a (Some b) = b

abbrev IsThere : {A : Type 0} → Option A → Type 0
IsThere None = ⊥
IsThere (Some a) = ⊤

-- nothing is no value
pub nothing_there : {A P : Type 0} (a : A) → None ≡ Some a → P
nothing_there a e = absurd (subst IsThere (sym e) tt)

-- what was read, before a function
pub mapped : {A B : Type 0} (f : A → B) (o : Option (A × List Token)) (b : B) (r : List Token)
    → parse_map f o ≡ Some (b, r) → (a : A) × (o ≡ Some (a, r)) × (b ≡ f a)
mapped f None b r e = nothing_there (b, r) e
mapped f (Some p) b r e =
    let same = ap (pick (f p.0, p.1)) e in
    (p.0, ap (λ s. Some (p.0, s)) (ap (λ q. q.1) same), sym (ap (λ q. q.0) same))

-- the first of elements that were read, and the others
pub record FirstItem (p : Parse json.Json) (ts after : List Token) (js : json.Items) : Type 0 where
  pub j : json.Json
  pub r : List Token
  pub others : json.Items
  pub n : ℕ
  pub read : p ts ≡ Some (j, r)
  pub more : items p n r ≡ Some (others, after)
  pub is : js ≡ json.item j others

first_of : (p : Parse json.Json) (ts after : List Token) (js : json.Items) (n : ℕ)
    (o : Option (json.Json × List Token)) → p ts ≡ o
    → option_and_then (λ q. parse_map (json.item q.0) (items p n q.1)) o ≡ Some (js, after)
    → FirstItem p ts after js
first_of p ts after js n None at e = nothing_there (js, after) e
first_of p ts after js n (Some q) at e =
    let others = mapped (json.item q.0) (items p n q.1) js after e in
    record { j = q.0; r = q.1; others = others.0; n = n; read = at; more = others.1; is = others.2 }

pub first_item : (p : Parse json.Json) (ts after : List Token) (js : json.Items) (n : ℕ)
    → after_end_array ts ≡ None → items p n ts ≡ Some (js, after) → FirstItem p ts after js
unfolding items
first_item p ts after js zero going e = nothing_there (js, after) e
first_item p ts after js (suc n) going e =
    first_of p ts after js n (p ts) refl (sym (ap (items_step p (items p n) ts) going) ∙ e)

-- the first of members that were read, and the others
pub record FirstMember (p : Parse json.Json) (k : List ℕ) (ts after : List Token) (ms : json.Members) : Type 0 where
  pub j : json.Json
  pub r : List Token
  pub others : json.Members
  pub n : ℕ
  pub read : p ts ≡ Some (j, r)
  pub more : members p n r ≡ Some (others, after)
  pub is : ms ≡ json.member k j others

first_member_of : (p : Parse json.Json) (k : List ℕ) (ts after : List Token) (ms : json.Members) (n : ℕ)
    (o : Option (json.Json × List Token)) → p ts ≡ o
    → option_and_then (λ q. parse_map (json.member k q.0) (members p n q.1)) o ≡ Some (ms, after)
    → FirstMember p k ts after ms
first_member_of p k ts after ms n None at e = nothing_there (ms, after) e
first_member_of p k ts after ms n (Some q) at e =
    let others = mapped (json.member k q.0) (members p n q.1) ms after e in
    record { j = q.0; r = q.1; others = others.0; n = n; read = at; more = others.1; is = others.2 }

pub first_member : (p : Parse json.Json) (k : List ℕ) (ts s after : List Token) (ms : json.Members) (n : ℕ)
    → read_key ts ≡ Some (Some k, s) → members p n ts ≡ Some (ms, after) → FirstMember p k s after ms
unfolding members
first_member p k ts s after ms zero key e = nothing_there (ms, after) e
first_member p k ts s after ms (suc n) key e =
    first_member_of p k s after ms n (p s) refl
    (sym (ap (option_and_then (λ q. members_step p (members p n) q.0 q.1)) key) ∙ e)

-- ---- loops

-- where all elements from the first tokens on have small numbers, those from the second on are left
abbrev pub LeavesItems : ℕ → List Token → List Token → Type 0
LeavesItems depth first reader =
    (js : json.Items) (after : List Token) → items (value depth) (length first) first ≡ Some (js, after)
    → HaveSmallNumbers js
    → (n : ℕ) × (left : json.Items) × (items (value depth) n reader ≡ Some (left, after)) × HaveSmallNumbers left

-- and of members
abbrev pub LeavesMembers : ℕ → List Token → List Token → Type 0
LeavesMembers depth first reader =
    (ms : json.Members) (after : List Token) → members (value depth) (length first) first ≡ Some (ms, after)
    → HoldSmallNumbers ms
    → (n : ℕ) × (left : json.Members) × (members (value depth) n reader ≡ Some (left, after))
    × HoldSmallNumbers left

abbrev rest_of : Option (json.Json × List Token) → List Token
rest_of None = []
rest_of (Some p) = p.1

module _ (depth : ℕ) (first : List Token) where
  pub all_items : LeavesItems depth first first
  all_items js after e small = (length first, js, e, small)

  pub all_members : LeavesMembers depth first first
  all_members ms after e small = (length first, ms, e, small)

  -- behind an element
  pub other_items : (reader rest : List Token) (j : json.Json) → LeavesItems depth first reader
      → after_end_array reader ≡ None → value depth reader ≡ Some (j, rest) → LeavesItems depth first rest
  other_items reader rest j leaves going read js after e small =
      let left = leaves js after e small in
      let it = first_item (value depth) reader after left.1 left.0 going left.2 in
      let same : it.r ≡ rest = ap rest_of (sym it.read ∙ read) in (
        it.n,
        it.others,
        subst (λ r. items (value depth) it.n r ≡ Some (it.others, after)) same it.more,
        (subst HaveSmallNumbers it.is left.3).1,
      )

  -- an element is refused
  pub item_refused : (reader : List Token) → LeavesItems depth first reader → after_end_array reader ≡ None
      → ((j : json.Json) (rest : List Token) → value depth reader ≡ Some (j, rest) → HasSmallNumbers j → ⊥)
      → (js : json.Items) (after : List Token) → items (value depth) (length first) first ≡ Some (js, after)
      → HaveSmallNumbers js → ⊥
  item_refused reader leaves going refused js after e small =
      let left = leaves js after e small in
      let it = first_item (value depth) reader after left.1 left.0 going left.2 in
      refused it.j it.r it.read (subst HaveSmallNumbers it.is left.3).0

  -- behind a member
  pub other_members : (reader behind rest : List Token) (k : List ℕ) (j : json.Json)
      → LeavesMembers depth first reader → read_key reader ≡ Some (Some k, behind)
      → value depth behind ≡ Some (j, rest) → LeavesMembers depth first rest
  other_members reader behind rest k j leaves key read ms after e small =
      let left = leaves ms after e small in
      let it = first_member (value depth) k reader behind after left.1 left.0 key left.2 in
      let same : it.r ≡ rest = ap rest_of (sym it.read ∙ read) in (
        it.n,
        it.others,
        subst (λ r. members (value depth) it.n r ≡ Some (it.others, after)) same it.more,
        (subst HoldSmallNumbers it.is left.3).1,
      )

  -- the value of a member is refused
  pub member_refused : (reader behind : List Token) (k : List ℕ) → LeavesMembers depth first reader
      → read_key reader ≡ Some (Some k, behind)
      → ((j : json.Json) (rest : List Token) → value depth behind ≡ Some (j, rest) → HasSmallNumbers j → ⊥)
      → (ms : json.Members) (after : List Token)
      → members (value depth) (length first) first ≡ Some (ms, after)
      → HoldSmallNumbers ms → ⊥
  member_refused reader behind k leaves key refused ms after e small =
      let left = leaves ms after e small in
      let it = first_member (value depth) k reader behind after left.1 left.0 key left.2 in
      refused it.j it.r it.read (subst HoldSmallNumbers it.is left.3).0

  -- there is no key
  pub no_key : (reader : List Token) → LeavesMembers depth first reader → read_key reader ≡ None
      → (ms : json.Members) (after : List Token)
      → members (value depth) (length first) first ≡ Some (ms, after)
      → HoldSmallNumbers ms → ⊥
  no_key reader leaves none ms after e small =
      let left = leaves ms after e small in
      nothing_there (left.1, after) (sym (members_no_key (value depth) left.0 reader none) ∙ left.2)

-- ---- a value

module _ (depth : ℕ) (ts : List Token) where
  -- tokens begin with no value at all
  pub no_value : value depth ts ≡ None → ReadsNoValue depth ts
  no_value none j after e small = nothing_there (j, after) (sym none ∙ e)

  pub other_number : (s : List ℕ) (r : List Token) → ts ≡ Token.number s ∷ r
      → ((s ≡ 49 ∷ []) ⊎ (s ≡ 50 ∷ []) → ⊥) → ReadsNoValue depth ts
  other_number s r is other j after e small =
      let read = sym (ap (value depth) is ∙ value_is depth (Token.number s ∷ r)) ∙ e in
      let same = ap (pick (json.number s, r)) read in
      other (subst HasSmallNumbers (sym (ap (λ q. q.0) same)) small)

  pub array_refused : (r : List Token) → 0 < depth → ts ≡ Token.begin_array ∷ r → ReadsNoItems (depth - 1) r
      → ReadsNoValue depth ts
  array_refused r some is refused j after e small =
      let read = sym (ap (value depth) is ∙ value-begin_array depth r some) ∙ e in
      let it = mapped json.array (items (value (depth - 1)) (length r) r) j after read in
      refused it.0 after it.1 (subst HasSmallNumbers it.2 small)

  pub object_refused : (r : List Token) → 0 < depth → ts ≡ Token.begin_object ∷ r
      → ReadsNoMembers (depth - 1) r → ReadsNoValue depth ts
  object_refused r some is refused j after e small =
      let read = sym (ap (value depth) is ∙ value-begin_object depth r some) ∙ e in
      let it = mapped json.object (members (value (depth - 1)) (length r) r) j after read in
      refused it.0 after it.1 (subst HasSmallNumbers it.2 small)

deep_array : (depth : ℕ) (r : List Token) → depth ≡ 0 → value depth (Token.begin_array ∷ r) ≡ None
unfolding value
deep_array zero r e = refl
deep_array (suc d) r e = let never : ⊥ = omega (arith, e) in absurd never

deep_object : (depth : ℕ) (r : List Token) → depth ≡ 0 → value depth (Token.begin_object ∷ r) ≡ None
unfolding value
deep_object zero r e = refl
deep_object (suc d) r e = let never : ⊥ = omega (arith, e) in absurd never

pub too_deep_array : (depth : ℕ) (ts r : List Token) → depth ≡ 0 → ts ≡ Token.begin_array ∷ r
    → ReadsNoValue depth ts
too_deep_array depth ts r deep is = no_value depth ts (ap (value depth) is ∙ deep_array depth r deep)

pub too_deep_object : (depth : ℕ) (ts r : List Token) → depth ≡ 0 → ts ≡ Token.begin_object ∷ r
    → ReadsNoValue depth ts
too_deep_object depth ts r deep is = no_value depth ts (ap (value depth) is ∙ deep_object depth r deep)
