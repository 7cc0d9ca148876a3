-- A path relative to a root, joined to that root and made relative to it again, is the same text.
use Rattle.std.proofs.Common.{◌≡◌, ◌≢◌, ℕ, ◌-◌, Bool, true, false, List, [], ◌∷◌, ◌++◌, length, drop, take, replicate, refl, ap, sym, ◌∙◌, inl, inr, append-nil, append_assoc, arith, subst}
use Rattle.std.specs.Prelude.{codes, filter, All, nat_eq, ◌==◌}
use Rattle.std.specs.List.{join_by, onto_first, starts_with, ends_with}
use Rattle.std.specs.Cmp.Lexicographic.{pointwise}
use Rattle.std.proofs.lemmas.Bool.{cases_Bool, eqb-true, and_parts}
use Rattle.std.proofs.lemmas.List.{take-append-drop}
use Rattle.std.proofs.lemmas.List.Elements.{All-head, All-tail, All-nil, All-cons, All-append, All-filter, All-replicate, filter_passes, filter-append}
use Rattle.std.proofs.lemmas.List.Splits.{slice_split-cons_yes, slice_split-cons_no, slice_split_none, slice_split_at}
use Rattle.edit_base.specs.Paths.{joined, parts_of}
use Rattle.edit_tree.proofs.SamePlace.{same_bytes_self}
use Rattle.edit_record.proofs.RelativeTexts.{replace_backslashes-none}
use Rattle.edit_tree.specs.Assertions.{same_bytes}
use Rattle.edit_record.specs.RelativePaths.{is_name_segment, names_of, steps_between, relative_of, replace_backslashes, path_field}

-- ---- segments

-- no slash
abbrev is_slash : ℕ → Bool
is_slash b = b == 47

-- there is a first segment
first_part : (text : List ℕ) → (first : List ℕ) × (rest : List (List ℕ)) × (parts_of text ≡ first ∷ rest)
first_part [] = ([], [], refl)
first_part (b ∷ bs) =
    let more = first_part bs in
    elim (cases_Bool (is_slash b)) [
      | inl is ↦ ([], parts_of bs, slice_split-cons_yes is_slash b bs is)
      | inr other ↦ (b ∷ more.0, more.1, slice_split-cons_no is_slash b bs other ∙ ap (onto_first b) more.2)
    ]

-- a property of each byte except the slashes holds for each byte of each segment
All-parts : (P : ℕ → Type 0) (text : List ℕ) → All (λ b. is_slash b ≡ false → P b) text
    → All (All P) (parts_of text)
All-parts P [] h = All-cons (All P) [] [] (All-nil P) (All-nil (All P))
All-parts P (b ∷ bs) h =
    let more = All-parts P bs (All-tail (λ x. is_slash x ≡ false → P x) b bs h) in
    let parts = first_part bs in
    let shown : All (All P) (parts.0 ∷ parts.1) = subst (All (All P)) parts.2 more in
    elim (cases_Bool (is_slash b)) [
      | inl is ↦
          subst (All (All P)) (sym (slice_split-cons_yes is_slash b bs is))
          (All-cons (All P) [] (parts_of bs) (All-nil P) more)
      | inr other ↦
          subst (All (All P)) (sym (slice_split-cons_no is_slash b bs other ∙ ap (onto_first b) parts.2))
          (All-cons (All P) (b ∷ parts.0) parts.1
          (All-cons P b parts.0 (All-head (λ x. is_slash x ≡ false → P x) b bs h other)
          (All-head (All P) parts.0 parts.1 shown))
          (All-tail (All P) parts.0 parts.1 shown))
    ]

-- the segments of two texts with a slash between them
parts-slash : (a b : List ℕ) → parts_of (a ++ 47 ∷ b) ≡ parts_of a ++ parts_of b
parts-slash [] b = refl
parts-slash (x ∷ a) b =
    let parts = first_part a in
    let more : parts_of (a ++ 47 ∷ b) ≡ parts.0 ∷ (parts.1 ++ parts_of b) =
    parts-slash a b ∙ ap (λ ps. ps ++ parts_of b) parts.2 in
    elim (cases_Bool (is_slash x)) [
      | inl is ↦
          slice_split-cons_yes is_slash x (a ++ 47 ∷ b) is ∙ ap (λ ps. [] ∷ ps) (parts-slash a b)
          ∙ ap (λ ps. ps ++ parts_of b) (sym (slice_split-cons_yes is_slash x a is))
      | inr other ↦
          slice_split-cons_no is_slash x (a ++ 47 ∷ b) other ∙ ap (onto_first x) more
          ∙ ap (λ ps. ps ++ parts_of b)
          (sym (slice_split-cons_no is_slash x a other ∙ ap (onto_first x) parts.2))
    ]

-- ---- names

-- a segment without a slash that is a name
record IsStep (part : List ℕ) : Type 0 where
  whole : All (λ b. is_slash b ≡ false) part
  is_name : is_name_segment part ≡ true

-- the steps joined by slashes
abbrev way : List (List ℕ) → List ℕ
way steps = join_by (λ step. step) (codes "/") steps

names-slash : (a b : List ℕ) → names_of (a ++ 47 ∷ b) ≡ names_of a ++ names_of b
names-slash a b = ap (filter is_name_segment) (parts-slash a b) ∙ filter-append is_name_segment (parts_of a) (parts_of b)

-- both facts for each segment
zipped : (ps : List (List ℕ)) → All (All (λ b. is_slash b ≡ false)) ps → All (λ p. is_name_segment p ≡ true) ps
    → All IsStep ps
zipped ps whole is_name = λ k d l. record { whole = whole k d l; is_name = is_name k d l }

names-steps : (text : List ℕ) → All IsStep (names_of text)
names-steps text =
    zipped (names_of text)
    (All-filter is_name_segment (All (λ b. is_slash b ≡ false)) (parts_of text)
    (All-parts (λ b. is_slash b ≡ false) text (λ k d l other. other)))
    (filter_passes is_name_segment (parts_of text))

-- no step is left out
filter-steps : (ws : List (List ℕ)) → All IsStep ws → filter is_name_segment ws ≡ ws
filter-steps [] h = refl
filter-steps (w ∷ ws) h =
    let first = All-head IsStep w ws h in
    rw (first.is_name) (ap (λ l. w ∷ l) (filter-steps ws (All-tail IsStep w ws h)))

-- the segments of a relative path are its steps
parts-way : (w : List ℕ) (ws : List (List ℕ)) → All IsStep (w ∷ ws) → parts_of (way (w ∷ ws)) ≡ w ∷ ws
parts-way w [] h =
    let first = All-head IsStep w [] h in
    ap parts_of (append-nil w) ∙ slice_split_none is_slash w first.whole
parts-way w (v ∷ vs) h =
    let first = All-head IsStep w (v ∷ vs) h in
    slice_split_at is_slash w 47 (way (v ∷ vs)) first.whole refl
    ∙ ap (λ ps. w ∷ ps) (parts-way v vs (All-tail IsStep w (v ∷ vs) h))

names-way : (ws : List (List ℕ)) → All IsStep ws → names_of (way ws) ≡ ws
names-way [] h = refl
names-way (w ∷ ws) h = ap (filter is_name_segment) (parts-way w ws h) ∙ filter-steps (w ∷ ws) h

-- ---- the joined path

-- a relative path is not absolute
way-begins : (ws : List (List ℕ)) → All IsStep ws → starts_with nat_eq (way ws) (codes "/") ≡ false
way-begins [] h = refl
way-begins ([] ∷ ws) h = let first = All-head IsStep [] ws h in absurd cc
way-begins ((b ∷ bs) ∷ ws) h =
    let first = All-head IsStep (b ∷ bs) ws h in
    let other : is_slash b ≡ false = All-head (λ x. is_slash x ≡ false) b bs first.whole in
    elim (cases_Bool (nat_eq 47 b)) [
      | inl e ↦
          let slash : is_slash 47 ≡ false = subst (λ x. is_slash x ≡ false) (sym (eqb-true 47 b e)) other in
          absurd cc
      | inr e ↦ rw e refl
    ]

-- the last byte is a slash
one-slash : (t : List ℕ) → pointwise nat_eq (codes "/") t ≡ true → t ≡ 47 ∷ []
one-slash [] h = absurd cc
one-slash (c ∷ []) h =
    let e = and_parts (nat_eq 47 c) true h in
    ap (λ b. b ∷ []) (sym (eqb-true 47 c e.0))
one-slash (c ∷ d ∷ t) h = let e = and_parts (nat_eq 47 c) false h in absurd cc

-- a text that ends with a slash
ends-slash : (text : List ℕ) → ends_with nat_eq text (codes "/") ≡ true
    → (front : List ℕ) × (text ≡ front ++ 47 ∷ [])
ends-slash text h = (
  take (length text - 1) text,
  sym (take-append-drop (length text - 1) text)
      ∙ ap (λ t. take (length text - 1) text ++ t) (one-slash (drop (length text - 1) text) h),
)

-- the path is not empty
some : (b : ℕ) (bs : List ℕ) → (length (b ∷ bs) == 0) ≡ false
some b bs = elim (cases_Bool (length (b ∷ bs) == 0)) [
  | inl e ↦ let none : length (b ∷ bs) ≡ 0 = eqb-true (length (b ∷ bs)) 0 e in absurd (omega arith)
  | inr e ↦ e
]

names-joined : (root f : List ℕ) → starts_with nat_eq f (codes "/") ≡ false
    → names_of (joined root f) ≡ names_of root ++ names_of f
names-joined [] f h = rw h refl
names-joined (r ∷ root) f h = elim (cases_Bool (ends_with nat_eq (r ∷ root) (codes "/"))) [
  | inl e ↦
      let cut = ends-slash (r ∷ root) e in
      rw (h, some r root, e)
      (ap (λ t. names_of (t ++ f)) cut.1 ∙ ap names_of (append_assoc cut.0 (47 ∷ []) f) ∙ names-slash cut.0 f
      ∙ ap (λ ns. ns ++ names_of f)
      (sym (ap names_of cut.1 ∙ names-slash cut.0 [] ∙ append-nil (names_of cut.0))))
  | inr e ↦
      rw (h, some r root, e)
      (ap names_of (append_assoc (r ∷ root) (47 ∷ []) f) ∙ names-slash (r ∷ root) f)
]

-- ---- steps

-- steps below the folder itself
steps-below : (root ws : List (List ℕ)) → steps_between (root ++ ws) root ≡ ws
steps-below [] [] = refl
steps-below [] (w ∷ ws) = refl
steps-below (r ∷ root) ws = rw (same_bytes_self r) (steps-below root ws)

-- a property of each name, and of `..`, holds for each step
All-steps : (P : List ℕ → Type 0) → P (codes "..") → (down up : List (List ℕ)) → All P down
    → All P (steps_between down up)
All-steps P up_one [] up h =
    All-append P (replicate (length up) (codes "..")) [] (All-replicate P (length up) (codes "..") up_one) h
All-steps P up_one (d ∷ down) [] h = h
All-steps P up_one (d ∷ down) (u ∷ up) h = elim (cases_Bool (same_bytes d u)) [
  | inl e ↦ rw e (All-steps P up_one down up (All-tail P d down h))
  | inr e ↦
      rw e
      (All-append P (replicate (length (u ∷ up)) (codes "..")) (d ∷ down)
      (All-replicate P (length (u ∷ up)) (codes "..") up_one) h)
]

two_dots : IsStep (codes "..")
two_dots = record {
  whole = All-cons (λ b. is_slash b ≡ false) 46 (codes ".") refl
      (All-cons (λ b. is_slash b ≡ false) 46 [] refl (All-nil (λ b. is_slash b ≡ false)));
  is_name = refl;
}

-- the law of relative paths
pub relative-again : (path root : List ℕ)
    → relative_of (joined root (relative_of path root)) root ≡ relative_of path root
relative-again path root =
    let ws = steps_between (names_of path) (names_of root) in
    let steps : All IsStep ws =
    All-steps IsStep two_dots (names_of path) (names_of root) (names-steps path) in
    let all : names_of (joined root (way ws)) ≡ names_of root ++ ws =
    names-joined root (way ws) (way-begins ws steps) ∙ ap (λ ns. names_of root ++ ns) (names-way ws steps) in
    ap (λ ns. way (steps_between ns (names_of root))) all ∙ ap way (steps-below (names_of root) ws)

-- ---- backslashes

-- a property of each byte of each step, and of the slash, holds for each byte of their path
All-way : (P : ℕ → Type 0) → P 47 → (ws : List (List ℕ)) → All (All P) ws → All P (way ws)
All-way P slash [] h = All-nil P
All-way P slash (w ∷ []) h = All-append P w [] (All-head (All P) w [] h) (All-nil P)
All-way P slash (w ∷ v ∷ vs) h =
    All-append P w (47 ∷ way (v ∷ vs)) (All-head (All P) w (v ∷ vs) h)
    (All-cons P 47 (way (v ∷ vs)) slash (All-way P slash (v ∷ vs) (All-tail (All P) w (v ∷ vs) h)))

-- a path without a backslash has none relative to a folder either
relative-whole : (path root : List ℕ) → All (λ b. b ≢ 92) path → All (λ b. b ≢ 92) (relative_of path root)
relative-whole path root h =
    let P : ℕ → Type 0 = λ b. b ≢ 92 in
    let dot : P 46 = λ e. absurd (omega arith) in
    let dots : All P (codes "..") = All-cons P 46 (codes ".") dot (All-cons P 46 [] dot (All-nil P)) in
    let named : All (All P) (names_of path) =
    All-filter is_name_segment (All P) (parts_of path) (All-parts P path (λ k d l other. h k d l)) in
    All-way P (λ e. absurd (omega arith)) (steps_between (names_of path) (names_of root))
    (All-steps (All P) dots (names_of path) (names_of root) named)

-- the path that is written, joined to the root and written again, is the same text
pub path-again : (path root : List ℕ) → All (λ b. b ≢ 92) path
    → path_field root (joined root (path_field root path)) ≡ path_field root path
path-again path root h =
    ap (λ f. path_field root (joined root f))
    (replace_backslashes-none (relative_of path root) (relative-whole path root h))
    ∙ ap replace_backslashes (relative-again path root)
