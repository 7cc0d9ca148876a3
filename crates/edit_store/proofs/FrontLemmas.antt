-- A path is a proper prefix of a key of a map exactly if some key lies below the path.
use Rattle.std.proofs.Common.{◌≡◌, ℕ, ◌<◌, List, ◌∷◌, ◌++◌, length, Bool, true, Option, Some, None, IsSome, IsTrue, MatchBool, false, refl, [], subst, sym, ap, ◌∙◌, get_or, arith}
use Rattle.std.specs.Prelude.{String, string_bytes, option_map, slice_get}
use Rattle.std.specs.BTreeMap.{BTreeMap, get_by_text, is_at, keys, ContainsKey}
use Rattle.std.specs.String.{string_cmp}
use Rattle.std.specs.Str.{bytes_eq}
use Rattle.std.specs.Cmp.Lexicographic.{slice_cmp}
use Rattle.std.specs.Ordering.{nat_cmp}
use Rattle.std.specs.List.{AllWithin, HoldsAt, All}
use Rattle.std.proofs.lemmas.Map.Entries.{place_from_lookup}
use Rattle.std.proofs.lemmas.Map.Text.{is_eq-slice_cmp}
use Rattle.std.proofs.lemmas.Option.{slice_get-map, slice_get_within, get_or_from_slice_get}
use Rattle.std.proofs.lemmas.Slice.Eq.{bytes_eq-Decides}
use Rattle.edit_store.specs.Memory.{IsBelow}

-- a key of a map that lies below a path makes the path a proper prefix of a key
pub front_from_key : {X Y : Type 0} (m : BTreeMap (String Y) X) (path : List ℕ) (key : String Y)
    → IsBelow (string_bytes key) path → ContainsKey string_cmp m key → (rest : List ℕ)
    × IsSome (get_by_text m (path ++ 47 ∷ rest))
front_from_key m path key below has = (below.0, subst (λ bs. IsSome (get_by_text m bs)) below.1 has)

-- a text that a map holds is the text of one of its keys
key_from_text : {X Y : Type 0} (m : BTreeMap (String Y) X) (bs : List ℕ) (v : X) → get_by_text m bs ≡ Some v
    → (i : ℕ) × (k : String Y) × (slice_get (keys m) i ≡ Some k) × (bs ≡ string_bytes k)
key_from_text m bs v h =
    let found = place_from_lookup (is_at (λ k. slice_cmp nat_cmp bs (string_bytes k))) m.entries v h in
    let at = slice_get-map (λ e. e.0) m.entries found.0 ∙ ap (λ o. option_map (λ e. e.0) o) found.2 in
    let same : bytes_eq bs (string_bytes found.1) ≡ true = sym (is_eq-slice_cmp bs (string_bytes found.1)) ∙
    found.3 in
    (found.0, found.1, at, (bytes_eq-Decides bs (string_bytes found.1)).0 same)

-- some value, of an option that has one
value_of : {X : Type 0} (o : Option X) → IsSome o → (v : X) × (o ≡ Some v)
value_of None h = cc
value_of (Some v) h = (v, refl)

-- if no key lies below a path, it is not a proper prefix of one
pub no_front : {X Y : Type 0} (m : BTreeMap (String Y) X) (path : List ℕ)
    → AllWithin (λ k. IsBelow (string_bytes k) path → ⊥) (keys m) 0 (length (keys m)) → (rest : List ℕ)
    → IsSome (get_by_text m (path ++ 47 ∷ rest)) → ⊥
no_front m path none rest has =
    let v = value_of (get_by_text m (path ++ 47 ∷ rest)) has in
    let key = key_from_text m (path ++ 47 ∷ rest) v.0 v.1 in
    let within = slice_get_within (keys m) key.0 key.1 key.2 in
    let is = get_or_from_slice_get (keys m) key.0 key.1 key.1 key.2 in
    none key.0 key.1 (omega arith) within (rest, ap string_bytes is ∙ sym key.3)

-- an element, of a list that has one
element : {X : Type 0} (xs : List X) (k : ℕ) → k < length xs → X
element [] k h = absurd (omega arith)
element (x ∷ xs) k h = x

-- a value stands exactly where its view does
mapped : {A B : Type 0} (f : A → B) (o : Option A) → IsSome o → IsSome (option_map f o)
mapped f None h = cc
mapped f (Some v) h = refl

unmapped : {A B : Type 0} (f : A → B) (o : Option A) → IsSome (option_map f o) → IsSome o
unmapped f None h = cc
unmapped f (Some v) h = refl

-- the result of a search among the keys decides whether a path is a proper prefix of one
pub front_from_search : {X Y B : Type 0} (f : X → B) (m : BTreeMap (String Y) X) (path : List ℕ) (r : Bool)
    → All (ContainsKey string_cmp m) (keys m)
    → MatchBool r ((k : ℕ) × (k < length (keys m)) × HoldsAt (λ n. IsBelow (string_bytes n) path) (keys m) k)
    (AllWithin (λ n. IsBelow (string_bytes n) path → ⊥) (keys m) 0 (length (keys m)))
    → (IsTrue r → (rest : List ℕ) × IsSome (option_map f (get_by_text m (path ++ 47 ∷ rest))))
    × (((rest : List ℕ) × IsSome (option_map f (get_by_text m (path ++ 47 ∷ rest)))) → IsTrue r)
front_from_search f m path true has found =
    let d = element (keys m) found.0 found.1 in
    let front = front_from_key m path (get_or (keys m) found.0 d) (found.2 d) (has found.0 d found.1) in
    (λ _. (front.0, mapped f (get_by_text m (path ++ 47 ∷ front.0)) front.1), λ _. refl)
front_from_search f m path false has found = (
  λ h. cc,
  λ some. absurd
      (no_front m path found some.0 (unmapped f (get_by_text m (path ++ 47 ∷ some.0)) some.1)),
)
