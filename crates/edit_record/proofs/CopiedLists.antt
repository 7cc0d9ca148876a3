-- Copies of lists have the same models as their sources.
use Rattle.std.proofs.Common.{◌≡◌, ℕ, List, [], ◌∷◌, map, refl, String, string_bytes, Vec, vec_len, Global}
use Rattle.std.specs.List.{AllZip}
use Rattle.edit_record.specs.RecordViews.{texts_view}

-- lists whose elements have the same models, in order, have the same model
pub zipped_map : {A B : Type 0} (f : A → B) (R : A → A → Type 0) → ((x y : A) → R x y → f y ≡ f x) →
    (xs ys : List A) → AllZip R xs ys → map f ys ≡ map f xs
zipped_map f R same [] [] h = refl
zipped_map f R same [] (y ∷ ys) h = absurd h
zipped_map f R same (x ∷ xs) [] h = absurd h
zipped_map f R same (x ∷ xs) (y ∷ ys) h = λ i. same x y h.0 i ∷ zipped_map f R same xs ys h.1 i

-- two strings have the same bytes
abbrev pub SameBytes : String Global → String Global → Type 0
SameBytes s t = string_bytes t ≡ string_bytes s

-- a copy of a list of strings has the same model
pub copied_texts : (v w : Vec (String Global) Global) → AllZip SameBytes v.items w.items →
    texts_view w ≡ texts_view v
copied_texts v w h = zipped_map string_bytes SameBytes (λ x y e. e) v.items w.items h

-- the model of an entry of a map of lists of strings
abbrev shown : String Global × Vec (String Global) Global → List ℕ × List (List ℕ)
shown e = (string_bytes e.0, texts_view e.1)

-- an entry is a copy of another
abbrev pub IsEntryCopy :
    String Global × Vec (String Global) Global → String Global × Vec (String Global) Global → Type 0
IsEntryCopy p q = SameBytes p.0 q.0 × (AllZip SameBytes p.1.items q.1.items × (vec_len q.1 ≡ vec_len p.1))

-- a copy of entries has the same model
pub copied_entries : (es fs : List (String Global × Vec (String Global) Global)) →
    AllZip IsEntryCopy es fs → map shown fs ≡ map shown es
copied_entries es fs h =
    zipped_map shown IsEntryCopy (λ p q k. λ i. (k.0 i, copied_texts p.1 q.1 k.1.0 i)) es fs h
