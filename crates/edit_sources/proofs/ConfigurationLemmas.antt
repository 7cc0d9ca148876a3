-- The entries of a table, one at a time.
use Rattle.std.proofs.Common.{◌≡◌, ℕ, List, [], ◌∷◌, ◌++◌, map, Bool, true, false, cond, filter, Option, Some, None, option_map, String, Global, string_bytes, ap, sym, ◌∙◌, refl}
use Rattle.std.proofs.lemmas.List.{map_push, append_assoc}
use Rattle.toml.specs.Data.{Data}
use Rattle.toml.specs.View.{view, members_view}
use Rattle.toml.specs.declared.value.Value.{Value}
use Rattle.edit_sources.specs.Configuration.{both, entries_of}

-- the entries that were read so far, and one more
pushed : {A : Type 0} (done : List (List ℕ × A)) (key : List ℕ) (x : A) (rest : Option (List (List ℕ × A)))
    → option_map (λ r. done ++ r) (both (λ y ys. (key, y) ∷ ys) (Some x) rest)
    ≡ option_map (λ r. (done ++ (key, x) ∷ []) ++ r) rest
pushed done key x None = refl
pushed done key x (Some rest) = ap (λ r. Some r) (sym (append_assoc done ((key, x) ∷ []) rest))

pub entry_more : {A X : Type 0} (read : Data → Option A) (shows : X → List ℕ × A)
    (whole : Option (List (List ℕ × A))) (old new : List X) (e : X) (left rest : List (String Global × Value))
    (k : String Global) (v : Value)
    → whole ≡ option_map (λ r. map shows old ++ r) (entries_of read (members_view left))
    → left ≡ (k, v) ∷ rest
    → read (view v) ≡ Some (shows e).1
    → (shows e).0 ≡ string_bytes k
    → new ≡ old ++ e ∷ []
    → whole ≡ option_map (λ r. map shows new ++ r) (entries_of read (members_view rest))
entry_more read shows whole old new e left rest k v so_far next said named items =
    let here : option_map (λ r. map shows old ++ r) (entries_of read (members_view ((k, v) ∷ rest)))
    ≡ option_map (λ r. (map shows old ++ shows e ∷ []) ++ r) (entries_of read (members_view rest))
    = rw (said, ← named)
    (pushed (map shows old) (shows e).0 (shows e).1 (entries_of read (members_view rest))) in
    so_far ∙ ap (λ xs. option_map (λ r. map shows old ++ r) (entries_of read (members_view xs))) next ∙ here
    ∙ ap (λ xs. option_map (λ r. xs ++ r) (entries_of read (members_view rest)))
    (sym (ap (map shows) items ∙ map_push shows old e))

-- the entries that were read and chosen so far, and one more
chosen : {A : Type 0} (p : List ℕ × A → Bool) (done : List (List ℕ × A)) (key : List ℕ) (x : A)
    (rest : Option (List (List ℕ × A)))
    → option_map (λ r. done ++ filter p r) (both (λ y ys. (key, y) ∷ ys) (Some x) rest)
    ≡ option_map (λ r. (done ++ filter p ((key, x) ∷ [])) ++ filter p r) rest
chosen p done key x None = refl
chosen p done key x (Some rest) = ap (λ r. Some r) (first (p (key, x)))
  where
    first : (b : Bool) → done ++ cond b ((key, x) ∷ filter p rest) (filter p rest)
        ≡ (done ++ cond b ((key, x) ∷ []) []) ++ filter p rest
    first true = sym (append_assoc done ((key, x) ∷ []) (filter p rest))
    first false = sym (append_assoc done [] (filter p rest))

pub entry_chosen : {A : Type 0} (read : Data → Option A) (p : List ℕ × A → Bool)
    (whole : Option (List (List ℕ × A))) (old new : List (List ℕ × A)) (x : A)
    (left rest : List (String Global × Value)) (k : String Global) (v : Value)
    → whole ≡ option_map (λ r. old ++ filter p r) (entries_of read (members_view left))
    → left ≡ (k, v) ∷ rest
    → read (view v) ≡ Some x
    → new ≡ old ++ filter p ((string_bytes k, x) ∷ [])
    → whole ≡ option_map (λ r. new ++ filter p r) (entries_of read (members_view rest))
entry_chosen read p whole old new x left rest k v so_far next said items =
    let here : option_map (λ r. old ++ filter p r) (entries_of read (members_view ((k, v) ∷ rest)))
    ≡ option_map (λ r. (old ++ filter p ((string_bytes k, x) ∷ [])) ++ filter p r)
    (entries_of read (members_view rest))
    = rw said (chosen p old (string_bytes k) x (entries_of read (members_view rest))) in
    so_far ∙ ap (λ xs. option_map (λ r. old ++ filter p r) (entries_of read (members_view xs))) next ∙ here
    ∙ ap (λ xs. option_map (λ r. xs ++ filter p r) (entries_of read (members_view rest))) (sym items)
