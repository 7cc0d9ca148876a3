-- Values, elements and members at the front of a text.
use Rattle.std.proofs.Common.{◌≡◌, ℕ, ◌+◌, ◌-◌, ◌<◌, ◌≤◌, ◌⊎◌, Bool, List, [], ◌∷◌, ◌++◌, length, take, drop, Option, Some, None, refl, sym, ap, ap₂, subst, ◌∙◌, append_assoc, length-append, take_at, arith}
use Rattle.std.proofs.Math.Seq.{drop-append_seam}
use Rattle.std.specs.Prelude.{⊤}
use Rattle.json.specs.Json.{after_end_array, items, parse_map, read_key, value}
use Rattle.json.specs.Lex.{tokens}
use Rattle.json.specs.Token.{Token}
use Rattle.json.proofs.Grammar.{left, left_some, skip_value-shorter}
use Rattle.serde_json.specs.Data.{Data, Items, Members, array, boolean, item, no_items, null, object, string}
use Rattle.serde_json.specs.Read.{converted, of_items, of_json}
use Rattle.edit_json.specs.Reads.{ReadsItems, ReadsMembers, ReadsValue}
use Rattle.edit_json.specs.SkippedValue.{IsSkippedValue, tokens_behind}
use Rattle.edit_json.specs.Taken.{BeginsWith, BeginsWithKey, BeginsWithString, BeginsWithValue, Takes}
use Rattle.edit_json.proofs.GrammarLemmas.{converted_some, item_read, items_over, mapped_twice, none_before, read-array, read-object}
use Rattle.edit_json.proofs.MemberLoop.{HasRead, begin, member-more, over}
use Rattle.edit_json.proofs.TakenLemmas.{takes_both, takes_here, takes_more, takes_nothing}
use Rattle.edit_json.proofs.ValueLemmas.{reads_boolean, reads_null, reads_number, reads_string, value_goes_on}

-- a value takes a token
pub value_shorter : (depth : ℕ) (ts r : List Token) (d : Data) → ReadsValue depth ts d r → length r < length ts
value_shorter depth ts r d reads =
    let found = converted_some of_json (value depth ts) d r reads in
    skip_value-shorter depth ts r (ap left found.1)

-- ---- the elements of an array

-- some elements stand between the two texts
abbrev pub HasReadItems : ℕ → List ℕ → List ℕ → Type 0
HasReadItems depth first text =
    (n : ℕ) × (length (tokens text) ≤ n) × (f : Items → Items)
    × (converted of_items (items (value depth) (length (tokens first)) (tokens first)) ≡ parse_map f (converted of_items (items (value depth) n (tokens text))))

no_items_yet : (depth : ℕ) (t : List ℕ) → HasReadItems depth t t
no_items_yet depth t = (length (tokens t), omega arith, (λ a. a), none_before _)

item_more : (depth : ℕ) (x y z : List ℕ) → HasReadItems depth x y → BeginsWithValue depth y z → HasReadItems depth x z
item_more depth x y z so_far reads =
    let n = so_far.0 in
    let f = so_far.2 in
    let d = reads.0 in
    let less = value_shorter depth (tokens y) (tokens z) d reads.1 in
    let turn = item_read (value depth) n (tokens y) (tokens z) d (omega (arith, so_far.1, less)) (value_goes_on depth (tokens y) (tokens z) d reads.1) reads.1 in (
      n - 1,
      omega (arith, so_far.1, less),
      (λ a. f (item d a)),
      so_far.3 ∙ ap (parse_map f) turn ∙ mapped_twice f (item d) _,
    )

-- the elements up to the closing bracket
abbrev HasReadArray : ℕ → List ℕ → List ℕ → Type 0
HasReadArray depth text rest = (ds : Items) × ReadsItems depth (tokens text) ds (tokens rest)

all_items : (depth : ℕ) (x y z : List ℕ) → HasReadItems depth x y → BeginsWith Token.end_array y z → HasReadArray depth x z
all_items depth x y z so_far ended =
    let f = so_far.2 in
    let is : after_end_array (tokens y) ≡ Some (tokens z) = ap after_end_array ended in
    (f no_items, so_far.3 ∙ ap (parse_map f) (items_over (value depth) so_far.0 (tokens y) (tokens z) so_far.1 is))

module _ (depth : ℕ) (first : List ℕ) where
  pub items_begin : Takes (HasReadItems depth) first first
  items_begin = takes_nothing (HasReadItems depth) first (λ o same. no_items_yet depth o)

  pub items_go_on : (text rest : List ℕ) → Takes (HasReadItems depth) first text → Takes (BeginsWithValue depth) text rest → Takes (HasReadItems depth) first rest
  items_go_on text rest so_far reads = takes_both (HasReadItems depth) (BeginsWithValue depth) (HasReadItems depth) first text rest so_far reads (item_more depth)

-- a whole array
pub array_taken : (depth : ℕ) (t first text rest : List ℕ) → 0 < depth → Takes (BeginsWith Token.begin_array) t first
    → Takes (HasReadItems (depth - 1)) first text → Takes (BeginsWith Token.end_array) text rest → Takes (BeginsWithValue depth) t rest
array_taken depth t first text rest some opened so_far ended =
    takes_both (BeginsWith Token.begin_array) (HasReadArray (depth - 1)) (BeginsWithValue depth) t first rest opened
    (takes_both (HasReadItems (depth - 1)) (BeginsWith Token.end_array) (HasReadArray (depth - 1)) first text rest so_far ended (all_items (depth - 1)))
    (λ x y z begins inside. (array inside.0, read-array depth (tokens x) (tokens y) (tokens z) inside.0 some begins inside.1))

-- ---- the members of an object

-- some members stand between the two texts
abbrev pub HasReadMembers : ℕ → List ℕ → List ℕ → Type 0
HasReadMembers depth first text = HasRead depth (λ ms. ⊤) (tokens first) (tokens text)

-- a key and its value
abbrev IsMember : ℕ → List ℕ → List ℕ → Type 0
IsMember depth text rest = (after : List ℕ) × BeginsWithKey text after × BeginsWithValue depth after rest

one_more_member : (depth : ℕ) (x y z : List ℕ) → HasReadMembers depth x y → IsMember depth y z → HasReadMembers depth x z
one_more_member depth x y z so_far member =
    let k = member.1.0 in
    let d = member.2.0 in
    let named : read_key (tokens y) ≡ Some (Some k, tokens member.0) = ap read_key member.1.1 in
    member-more depth (λ ms. ⊤) (tokens x) (tokens y) (tokens member.0) (tokens z) k d (λ ms. ⊤) so_far named member.2.1
    (value_shorter depth (tokens member.0) (tokens z) d member.2.1) (λ ms shows. tt)

-- the members up to the closing brace
abbrev HasReadObject : ℕ → List ℕ → List ℕ → Type 0
HasReadObject depth text rest = (ms : Members) × ReadsMembers depth (tokens text) ms (tokens rest)

all_members : (depth : ℕ) (x y z : List ℕ) → HasReadMembers depth x y → BeginsWith Token.end_object y z → HasReadObject depth x z
all_members depth x y z so_far ended =
    let none : Option (List ℕ) = None in
    let is : read_key (tokens y) ≡ Some (none, tokens z) = ap read_key ended in
    let all = over depth (λ ms. ⊤) (tokens x) (tokens y) (tokens z) so_far is in
    (all.0, all.1)

module _ (depth : ℕ) (first : List ℕ) where
  pub members_begin : Takes (HasReadMembers depth) first first
  members_begin = takes_nothing (HasReadMembers depth) first (λ o same. begin depth (λ ms. ⊤) (tokens o) tt)

  pub members_go_on : (text behind rest : List ℕ) → Takes (HasReadMembers depth) first text → Takes BeginsWithKey text behind
      → Takes (BeginsWithValue depth) behind rest → Takes (HasReadMembers depth) first rest
  members_go_on text behind rest so_far named reads =
      takes_both (HasReadMembers depth) (IsMember depth) (HasReadMembers depth) first text rest so_far
      (takes_both BeginsWithKey (BeginsWithValue depth) (IsMember depth) text behind rest named reads (λ x y z k v. (y, k, v)))
      (one_more_member depth)

-- a whole object
pub object_taken : (depth : ℕ) (t first text rest : List ℕ) → 0 < depth → Takes (BeginsWith Token.begin_object) t first
    → Takes (HasReadMembers (depth - 1)) first text → Takes (BeginsWith Token.end_object) text rest → Takes (BeginsWithValue depth) t rest
object_taken depth t first text rest some opened so_far ended =
    takes_both (BeginsWith Token.begin_object) (HasReadObject (depth - 1)) (BeginsWithValue depth) t first rest opened
    (takes_both (HasReadMembers (depth - 1)) (BeginsWith Token.end_object) (HasReadObject (depth - 1)) first text rest so_far ended (all_members (depth - 1)))
    (λ x y z begins inside. (object inside.0, read-object depth (tokens x) (tokens y) (tokens z) inside.0 some begins inside.1))

-- ---- what is taken has a token

pub value_taken-shorter : (depth : ℕ) (t r : List ℕ) → Takes (BeginsWithValue depth) t r → length (tokens r) < length (tokens t)
value_taken-shorter depth t r taken =
    let reads = takes_here (BeginsWithValue depth) t r taken in
    value_shorter depth (tokens t) (tokens r) reads.0 reads.1

pub key_taken-shorter : (t r : List ℕ) → Takes BeginsWithKey t r → length (tokens r) < length (tokens t)
key_taken-shorter t r taken =
    let long = ap length (takes_here BeginsWithKey t r taken).1 in
    omega arith

-- ---- a value of one token

module _ (depth : ℕ) (t r : List ℕ) where
  pub boolean_taken : (b : Bool) → Takes (BeginsWith (Token.boolean b)) t r → Takes (BeginsWithValue depth) t r
  boolean_taken b taken = takes_more (BeginsWith (Token.boolean b)) t r (BeginsWithValue depth) taken (λ x o same is. (boolean b, reads_boolean depth (tokens x) (tokens o) b is))

  pub null_taken : Takes (BeginsWith Token.null) t r → Takes (BeginsWithValue depth) t r
  null_taken taken = takes_more (BeginsWith Token.null) t r (BeginsWithValue depth) taken (λ x o same is. (null, reads_null depth (tokens x) (tokens o) is))

  pub number_taken : (s : List ℕ) → (s ≡ 49 ∷ []) ⊎ (s ≡ 50 ∷ []) → Takes (BeginsWith (Token.number s)) t r → Takes (BeginsWithValue depth) t r
  number_taken s small taken = takes_more (BeginsWith (Token.number s)) t r (BeginsWithValue depth) taken (λ x o same is. reads_number depth (tokens x) (tokens o) s is small)

  pub text_taken : Takes BeginsWithString t r → Takes (BeginsWithValue depth) t r
  text_taken taken = takes_more BeginsWithString t r (BeginsWithValue depth) taken (λ x o same is. (string is.0, reads_string depth (tokens x) (tokens o) is.0 is.1))

-- ---- a value that is known again

-- what was skipped, with the byte after it
pub remembered : (depth n : ℕ) (t r : List ℕ) → Takes (BeginsWithValue depth) t r → 1 ≤ length r → n ≡ length t - length r + 1 → IsSkippedValue depth (take n t)
remembered depth n t [] taken some e = let never : ⊥ = omega arith in absurd never
remembered depth n t (x ∷ xs) taken some e =
    let front = taken.front in
    let bytes = front ++ (x ∷ []) in
    let long : length bytes ≡ length front + 1 = length-append front (x ∷ []) in
    let whole : t ≡ bytes ++ xs = taken.whole ∙ sym (append_assoc front (x ∷ []) xs) in
    let all : length t ≡ length bytes + length xs = ap length whole ∙ length-append bytes xs in
    let same : take n t ≡ bytes = ap (take n) whole ∙ take_at bytes xs n (omega arith) in
    subst (IsSkippedValue depth) (sym same) (
      omega arith,
      λ other.
          let here : bytes ++ other ≡ front ++ (x ∷ other) = append_assoc front (x ∷ []) other in
          let gone : length bytes - 1 ≡ length front = omega arith in
          let behind : x ∷ other ≡ drop (length bytes - 1) (bytes ++ other) =
          sym (ap₂ (λ k y. drop k y) gone here ∙ drop-append_seam front (x ∷ other)) in
          ap (tokens_behind depth) here ∙ ap left (taken.local (x ∷ other) refl).1 ∙ ap (λ y. Some (tokens y)) behind,
    )

-- a text that begins with what was skipped
pub known_again : (depth : ℕ) (bytes t : List ℕ) → IsSkippedValue depth bytes → t ≡ bytes ++ drop (length bytes) t
    → BeginsWithValue depth t (drop (length bytes - 1) t)
known_again depth bytes t known whole =
    let Behind : List ℕ → Type 0 = λ y. tokens_behind depth y ≡ Some (tokens (drop (length bytes - 1) y)) in
    left_some (converted of_json (value depth (tokens t))) (tokens (drop (length bytes - 1) t)) (subst Behind (sym whole) (known.1 (drop (length bytes) t)))
