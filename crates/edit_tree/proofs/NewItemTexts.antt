-- The texts of new lists and tables, part by part.
use Rattle.std.proofs.Common.{◌≡◌, ◌<◌, ◌≤◌, ◌+◌, ◌-◌, ◌++◌, ◌∷◌, [], List, ℕ, length, take, drop, take_all, get_or, map, refl, ap, ◌∙◌, sym, append_assoc, append-nil, codes, arith}
use Rattle.std.specs.Prelude.{OnOk, Result, Ok, Err, is_ok, if◌then◌else◌}
use Rattle.std.proofs.lemmas.List.{take_more}
use Rattle.edit_syntax.specs.Characters.{space, comma}
use Rattle.edit_syntax.specs.Strings.{key}
use Rattle.edit_syntax.specs.Grammar.{value, elements, members}
use Rattle.edit_syntax.proofs.PutBefore.{key_before, Behind, behind_one}
use Rattle.edit_syntax.proofs.ValueEdges.{value_rest}
use Rattle.edit_tree.specs.Literals.{literal_of, literal_bytes}
use Rattle.edit_tree.specs.NewItems.{NewValue, a_list, literals, new_value, new_key, new_pair, new_members, new_table}

-- texts, each behind a comma and a space
abbrev pub joined : {X : Type 0} → (X → List ℕ) → List X → List ℕ
joined f [] = []
joined f (x ∷ xs) = codes ", " ++ (f x ++ joined f xs)

joined-append : {X : Type 0} (f : X → List ℕ) (xs ys : List X)
    → joined f (xs ++ ys) ≡ joined f xs ++ joined f ys
joined-append f [] ys = refl
joined-append f (x ∷ xs) ys =
    ap (λ (l : List ℕ). codes ", " ++ (f x ++ l)) (joined-append f xs ys)
    ∙ ap (λ (l : List ℕ). codes ", " ++ l) (sym (append_assoc (f x) (joined f xs) (joined f ys)))

-- the text with one part more
pub joined_more : {X : Type 0} (f : X → List ℕ) (xs : List X) (i : ℕ) (x : X) (start now mid next : List ℕ)
    → i < length xs → x ≡ get_or xs i x → now ≡ start ++ joined f (take i xs) → mid ≡ now ++ codes ", "
    → next ≡ mid ++ f x
    → next ≡ start ++ joined f (take (i + 1) xs)
joined_more {X = X} f xs i x start now mid next lt at h m n =
    let one : take (i + 1) xs ≡ take i xs ++ x ∷ [] = take_more xs i x lt
    ∙ ap (λ y. take i xs ++ y ∷ []) (sym at) in
    let two : joined f (take i xs ++ x ∷ []) ≡ joined f (take i xs) ++ (codes ", " ++ (f x ++ [])) =
    joined-append f (take i xs) (x ∷ []) in
    rw (n, m, h, one, two) (simp (append_assoc, append-nil))

-- the first of a list, and the others
others_are : {X : Type 0} (y : X) (ys : List X) (i : ℕ)
    → length (take (length (y ∷ ys) - 1) (drop 1 (y ∷ ys))) ≤ i
    → take i (take (length (y ∷ ys) - 1) (drop 1 (y ∷ ys))) ≡ ys
others_are {X = X} y ys i le =
    let same : take (length (y ∷ ys) - 1) ys ≡ ys = take_all (length (y ∷ ys) - 1) ys (omega arith) in
    let short : length ys ≤ i = omega (arith, ap length same) in
    ap (λ (l : List X). take i l) same ∙ take_all i ys short

-- ---- lists

elements_text : {X : Type 0} (f : X → List ℕ) (x : X) (xs : List X) (rest : List ℕ)
    → elements (literals (map f (x ∷ xs))) rest ≡ literal_bytes (f x) ++
    (joined (λ y. literal_bytes (f y)) xs ++ rest)
elements_text f x [] rest = value_rest (literal_of (f x)) rest
elements_text f x (y ∷ xs) rest =
    value_rest (literal_of (f x)) (comma ∷ (space ∷ elements (literals (map f (y ∷ xs))) rest))
    ∙ ap (λ (l : List ℕ). literal_bytes (f x) ++ (comma ∷ (space ∷ l)))
    (elements_text f y xs rest
    ∙ sym (append_assoc (literal_bytes (f y)) (joined (λ z. literal_bytes (f z)) xs) rest))

pub list_text : {X : Type 0} (f : X → List ℕ) (x : X) (xs : List X)
    → value (new_value (a_list (map f (x ∷ xs)))) [] ≡ 91 ∷
    (literal_bytes (f x) ++ (joined (λ y. literal_bytes (f y)) xs ++ 93 ∷ []))
list_text f x xs = ap (λ (l : List ℕ). 91 ∷ l) (elements_text f x xs (93 ∷ []))

-- the whole list is written once its last literal is
pub list_done : {X : Type 0} (f : X → List ℕ) (list : List X) (x : X) (i : ℕ) (start one two now : List ℕ)
    → 0 < length list → x ≡ get_or list 0 x → length (take (length list - 1) (drop 1 list)) ≤ i
    → one ≡ start ++ codes "[" → two ≡ one ++ literal_bytes (f x)
    → now ≡ two ++ joined (λ y. literal_bytes (f y)) (take i (take (length list - 1) (drop 1 list)))
    → now ++ codes "]" ≡ start ++ value (new_value (a_list (map f list))) []
list_done f [] x i start one two now some at end o t n = absurd (omega arith)
list_done {X = X} f (y ∷ ys) x i start one two now some at end o t n =
    let all = others_are y ys i end in
    rw (list_text f y ys, n, all, t, o, at) (simp append_assoc)

-- ---- tables

pair_rest : (name : List ℕ) (v : NewValue) (rest : List ℕ)
    → new_pair name v rest ≡ new_pair name v [] ++ rest
pair_rest name v rest =
    key_before (Behind rest) (behind_one rest) (new_key name) _ _
    (ap (λ (l : List ℕ). codes " = " ++ l) (value_rest (new_value v) rest))

members_text : {X : Type 0} (f : X → List ℕ × NewValue) (x : X) (xs : List X) (rest : List ℕ)
    → members (new_members (map f (x ∷ xs))) rest ≡ new_pair (f x).0 (f x).1 [] ++
    (joined (λ y. new_pair (f y).0 (f y).1 []) xs ++ (32 ∷ rest))
members_text f x [] rest = pair_rest (f x).0 (f x).1 (32 ∷ rest)
members_text f x (y ∷ xs) rest =
    pair_rest (f x).0 (f x).1 (comma ∷ (space ∷ members (new_members (map f (y ∷ xs))) rest))
    ∙ ap (λ (l : List ℕ). new_pair (f x).0 (f x).1 [] ++ (comma ∷ (space ∷ l)))
    (members_text f y xs rest
    ∙ sym (append_assoc (new_pair (f y).0 (f y).1 []) (joined (λ z. new_pair (f z).0 (f z).1 []) xs)
    (32 ∷ rest)))

pub table_text : {X : Type 0} (f : X → List ℕ × NewValue) (x : X) (xs : List X)
    → value (new_table (map f (x ∷ xs))) []
    ≡ 123 ∷ (32 ∷
    (new_pair (f x).0 (f x).1 [] ++
    (joined (λ y. new_pair (f y).0 (f y).1 []) xs ++ (32 ∷ (125 ∷ [])))))
table_text f x xs = ap (λ (l : List ℕ). 123 ∷ (32 ∷ l)) (members_text f x xs (125 ∷ []))

-- the whole table is written once its last pair is
pub table_done : {X : Type 0} (f : X → List ℕ × NewValue) (list : List X) (x : X) (i : ℕ)
    (start one two now : List ℕ)
    → 0 < length list → x ≡ get_or list 0 x → length (take (length list - 1) (drop 1 list)) ≤ i
    → one ≡ start ++ codes "{ " → two ≡ one ++ new_pair (f x).0 (f x).1 []
    → now ≡ two ++ joined (λ y. new_pair (f y).0 (f y).1 []) (take i (take (length list - 1) (drop 1 list)))
    → now ++ codes " }" ≡ start ++ value (new_table (map f list)) []
table_done f [] x i start one two now some at end o t n = absurd (omega arith)
table_done {X = X} f (y ∷ ys) x i start one two now some at end o t n =
    let all = others_are y ys i end in
    rw (table_text f y ys, n, all, t, o, at) (simp append_assoc)

-- a pair is its key, ` = ` and its literal
pub pair_done : (name : List ℕ) (v : NewValue) (start one two now : List ℕ)
    → one ≡ start ++ key (new_key name) [] → two ≡ one ++ codes " = " → now ≡ two ++ value (new_value v) []
    → now ≡ start ++ new_pair name v []
pair_done name v start one two now o t n =
    let whole : new_pair name v [] ≡ key (new_key name) [] ++ (codes " = " ++ value (new_value v) []) =
    key_before (Behind (codes " = " ++ value (new_value v) [])) (behind_one _) (new_key name) _ _ refl in
    rw (n, t, o, whole) (simp append_assoc)

-- what is appended where there is room for it
pub on_appended : {T E P : Type 0} (r : Result T E) (a b now : List ℕ) → now ≡ (if is_ok r then a else b)
    → (now ≡ a → P) → OnOk r P
on_appended (Ok v) a b now e from = from e
on_appended (Err x) a b now e from = tt
