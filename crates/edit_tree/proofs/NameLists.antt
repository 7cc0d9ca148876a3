-- Names and indices of members: the first few, and those behind them in the map.
use Rattle.std.proofs.Common.{◌≡◌, ℕ, ◌≤◌, ◌<◌, Bool, true, false, cond, List, [], ◌∷◌, ◌++◌, length, take, drop, Option, Some, None, refl, sym, ap, ◌∙◌, ◌⊎◌, inl, inr, arith}
use Rattle.std.specs.Str.{bytes_eq}
use Rattle.std.proofs.lemmas.Slice.Eq.{bytes_eq-Decides}
use Rattle.std.proofs.lemmas.List.{take-append-drop, drop-append-le, drop_all, length_push}
use Rattle.edit_tree.specs.declared.nodes.Lookup.{Lookup}
use Rattle.edit_tree.specs.Nodes.{number_of, number_in}

-- the number of a name that is in front
pub number_front : (xs ys : List (List ℕ × ℕ)) (name : List ℕ) (n : ℕ) → number_in xs name ≡ Some n
    → number_in (xs ++ ys) name ≡ Some n
number_front [] ys name n e = absurd cc
number_front (x ∷ xs) ys name n e = go (bytes_eq name x.0) e (number_front xs ys name n)
  where
    go : (b : Bool) → cond b (Some x.1) (number_in xs name) ≡ Some n
        → (number_in xs name ≡ Some n → number_in (xs ++ ys) name ≡ Some n)
        → cond b (Some x.1) (number_in (xs ++ ys) name) ≡ Some n
    go true h more = h
    go false h more = more h

-- and of one that is not
pub number_behind : (xs ys : List (List ℕ × ℕ)) (name : List ℕ) → number_in xs name ≡ None
    → number_in (xs ++ ys) name ≡ number_in ys name
number_behind [] ys name e = refl
number_behind (x ∷ xs) ys name e = go (bytes_eq name x.0) e (number_behind xs ys name)
  where
    go : (b : Bool) → cond b (Some x.1) (number_in xs name) ≡ None
        → (number_in xs name ≡ None → number_in (xs ++ ys) name ≡ number_in ys name)
        → cond b (Some x.1) (number_in (xs ++ ys) name) ≡ number_in ys name
    go true h more = absurd cc
    go false h more = more h

-- a name that is nowhere is not behind
pub none_behind : (xs ys : List (List ℕ × ℕ)) (name : List ℕ) → number_in (xs ++ ys) name ≡ None
    → number_in ys name ≡ None
none_behind xs ys name e = go (number_in xs name) refl
  where
    go : (o : Option ℕ) → number_in xs name ≡ o → number_in ys name ≡ None
    go None h = sym (number_behind xs ys name h) ∙ e
    go (Some n) h = absurd (let clash : None ≡ Some n = sym e ∙ number_front xs ys name n h in cc)

-- the number of a name that is among the first few
pub number_few : (k : ℕ) (es : List (List ℕ × ℕ)) (name : List ℕ) (n : ℕ)
    → number_in (take k es) name ≡ Some n → number_in es name ≡ Some n
number_few k es name n e = ap (λ (xs : List (List ℕ × ℕ)). number_in xs name) (sym (take-append-drop k es)) ∙
    number_front (take k es) (drop k es) name n e

-- and of one that is not
pub number_others : (k : ℕ) (es : List (List ℕ × ℕ)) (name : List ℕ) → number_in (take k es) name ≡ None
    → number_in es name ≡ number_in (drop k es) name
number_others k es name e = ap (λ (xs : List (List ℕ × ℕ)). number_in xs name) (sym (take-append-drop k es)) ∙
    number_behind (take k es) (drop k es) name e

-- the number of a name behind one more, which was nowhere
number_push : (es : List (List ℕ × ℕ)) (name other : List ℕ) (n : ℕ) → number_in es name ≡ None
    → number_in (es ++ (name, n) ∷ []) other ≡ cond (bytes_eq name other) (Some n) (number_in es other)
number_push es name other n none = go (number_in es other) refl (bytes_eq name other) refl
  where
    same : bytes_eq name other ≡ true → name ≡ other
    same e = (bytes_eq-Decides name other).0 e

    equal : bytes_eq other other ≡ true
    equal = (bytes_eq-Decides other other).1 refl

    turned : bytes_eq name other ≡ false → bytes_eq other name ≡ false
    turned e = against (bytes_eq other name) refl
      where
        against : (b : Bool) → bytes_eq other name ≡ b → b ≡ false
        against false f = refl
        against true f = absurd (let clash : false ≡ true = sym e ∙
            (bytes_eq-Decides name other).1 (sym ((bytes_eq-Decides other name).0 f)) in cc)

    go : (o : Option ℕ) → number_in es other ≡ o → (b : Bool) → bytes_eq name other ≡ b
        → number_in (es ++ (name, n) ∷ []) other ≡ cond b (Some n) (number_in es other)
    go (Some m) e true t = absurd (let clash : None ≡ Some m = sym none ∙ ap (number_in es) (same t) ∙ e in
        cc)
    go (Some m) e false t = number_front es ((name, n) ∷ []) other m e ∙ sym e
    go None e true t = number_behind es ((name, n) ∷ []) other e ∙
        ap (λ (k : List ℕ). cond (bytes_eq other k) (Some n) None) (same t) ∙
        ap (λ (b : Bool). cond b (Some n) None) equal
    go None e false t = number_behind es ((name, n) ∷ []) other e ∙
        ap (λ (b : Bool). cond b (Some n) None) (turned t) ∙ sym e

-- the lookup of the names after the first few, where one more is added
pub others_push : (k : ℕ) (es : List (List ℕ × ℕ)) (name other : List ℕ) (n : ℕ) → k ≤ length es
    → number_in es name ≡ None
    → number_in (drop k (es ++ (name, n) ∷ [])) other ≡ cond (bytes_eq name other) (Some n)
    (number_in (drop k es) other)
others_push k es name other n le none =
    let absent = none_behind (take k es) (drop k es) name
    (ap (λ (xs : List (List ℕ × ℕ)). number_in xs name) (take-append-drop k es) ∙ none) in
    ap (λ (xs : List (List ℕ × ℕ)). number_in xs other) (drop-append-le k es ((name, n) ∷ []) le) ∙
    number_push (drop k es) name other n absent

-- and where it comes to the first few
pub others_same : (k : ℕ) (es : List (List ℕ × ℕ)) (name other : List ℕ) (n : ℕ) → length es < k
    → number_in (drop k (es ++ (name, n) ∷ [])) other ≡ number_in (drop k es) other
others_same k es name other n lt =
    let size = length_push es (name, n) in
    ap (λ (xs : List (List ℕ × ℕ)). number_in xs other) (drop_all k (es ++ (name, n) ∷ []) (omega arith) ∙
    sym (drop_all k es (omega arith)))

-- the lookup still numbers the names after the first few, where a name is added to the members
pub others_remain : (es more : List (List ℕ × ℕ)) (old others : Lookup) (name : List ℕ) (n : ℕ)
    → more ≡ es ++ (name, n) ∷ [] → ((other : List ℕ) → number_of old other ≡ number_in (drop 8 es) other)
    → number_in es name ≡ None
    → ((8 ≤ length es) × ((other : List ℕ) → number_of others other
    ≡ cond (bytes_eq name other) (Some n) (number_of old other))) ⊎ ((length es < 8) × (others ≡ old))
    → (other : List ℕ) → number_of others other ≡ number_in (drop 8 more) other
others_remain es more old others name n pushed numbers none (inl (le, adds)) other =
    adds other ∙ ap (λ (o : Option ℕ). cond (bytes_eq name other) (Some n) o) (numbers other) ∙
    sym (others_push 8 es name other n le none) ∙ ap (λ (xs : List (List ℕ × ℕ)). number_in (drop 8 xs) other)
    (sym pushed)
others_remain es more old others name n pushed numbers none (inr (lt, same)) other =
    ap (λ (l : Lookup). number_of l other) same ∙ numbers other ∙ sym (others_same 8 es name other n lt) ∙
    ap (λ (xs : List (List ℕ × ℕ)). number_in (drop 8 xs) other) (sym pushed)
