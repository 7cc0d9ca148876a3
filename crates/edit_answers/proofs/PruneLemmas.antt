-- Files of a cache that are removed and that stay.
use Rattle.std.proofs.Common.{◌≡◌, ◌<◌, ◌≤◌, ◌+◌, ℕ, inl, inr, ⊎_elim, arith, List, [], ◌∷◌, ◌++◌, Bool, true, false, cond, not, refl, sym, ap, subst, ◌∙◌, length, get_or, map, take, append_assoc}
use Rattle.std.specs.Prelude.{◌-◌, ◌&&◌, ◌||◌, All, Ok, Result, codes, filter, nat_eq}
use Rattle.edit_base.specs.declared.errors.Error.{Error}
use Rattle.edit_store.specs.Store.{IsRaisedCount}
use Rattle.std.specs.List.{ends_with, list_any}
use Rattle.std.specs.Str.{bytes_eq}
use Rattle.std.proofs.Math.ListN.{get_or-map}
use Rattle.std.proofs.lemmas.List.{length-map, map-append, take_more}
use Rattle.std.proofs.lemmas.List.Elements.{All-cons, All-head, All-nil, All-tail}
use Rattle.std.proofs.Math.Seq.{take-length}
use Rattle.std.proofs.lemmas.List.Folds.{list_any-append, list_any_more}
use Rattle.std.proofs.lemmas.Bool.{false≢true}
use Rattle.std.proofs.lemmas.Bool.Decides.{Decides-eqb}
use Rattle.std.proofs.lemmas.Slice.Eq.{bytes_eq-Decides, ends_is}
use Rattle.edit_answers.specs.Aging.{AgedText, AgingView, RemovesUnused, aged_text, entry_of, is_recent, is_same, is_used, owner_of, remaining_files}
use Rattle.edit_answers.specs.declared.aging_store.AgedFile.{AgedFile}
use Rattle.edit_answers.proofs.BoolLemmas.{filter-filter, filter-here, filter-same}

either : (a b : Bool) → (a || (b || false)) ≡ cond b true a
either true true = refl
either true false = refl
either false true = refl
either false false = refl

-- an owner is used by one file more
pub used-more : (files : List AgedText) (a : AgedText) (q : List ℕ)
    → is_used (files ++ a ∷ []) q ≡ cond (is_recent a && bytes_eq (owner_of a) q) true (is_used files q)
used-more files a q =
    list_any-append (λ b. is_recent b && bytes_eq (owner_of b) q) files (a ∷ [])
    ∙ either (is_used files q) (is_recent a && bytes_eq (owner_of a) q)

-- a file is itself
same-kind : (b : Bool) → cond b b (not b) ≡ true
same-kind true = refl
same-kind false = refl

weaker : {X : Type 0} (P Q : X → Type 0) → ((x : X) → P x → Q x) → (xs : List X) → All P xs → All Q xs
weaker P Q f [] h = All-nil Q
weaker P Q f (x ∷ xs) h =
    All-cons Q x xs (f x (All-head P x xs h)) (weaker P Q f xs (All-tail P x xs h))

is_same-refl : (a : AgedText) → is_same a a ≡ true
is_same-refl a =
    ap (λ t. t && cond a.is_run a.is_run (not a.is_run)) ((bytes_eq-Decides a.path a.path).1 refl)
    ∙ same-kind a.is_run

-- two parts of a test hold
left-part : (a b : Bool) → (a && b) ≡ true → a ≡ true
left-part true b h = refl
left-part false b h = h

right-part : (a b : Bool) → (a && b) ≡ true → b ≡ true
right-part true b h = h
right-part false b h = cc

kinds : (a b : Bool) → cond a b (not b) ≡ true → a ≡ b
kinds true true h = refl
kinds true false h = cc
kinds false true h = cc
kinds false false h = refl

-- the same file has the same owner
same-owner : (a b : AgedText) → is_same a b ≡ true → owner_of a ≡ owner_of b
same-owner a b h =
    let path : a.path ≡ b.path =
    (bytes_eq-Decides a.path b.path).0 (left-part (bytes_eq a.path b.path) _ h) in
    let kind : a.is_run ≡ b.is_run = kinds a.is_run b.is_run (right-part (bytes_eq a.path b.path) _ h) in
    let both : (p : List ℕ) → Bool → List ℕ = λ p k. owner_of (record { path = p; is_run = k; days = 0 }) in
    ap (λ p. both p a.is_run) path ∙ ap (λ k. both b.path k) kind

keeps-used : (q s : Bool) → (s ≡ true → q ≡ false) → (not s && q) ≡ q
keeps-used q true h = sym (h refl)
keeps-used q false h = refl

one-gone : (q a s : Bool) → (s ≡ true → q ≡ false) → ((q || not a) && not s) ≡ (q || not (a || s))
one-gone true a true h = absurd (false≢true (sym (h refl)))
one-gone true a false h = refl
one-gone false true true h = refl
one-gone false true false h = refl
one-gone false false true h = refl
one-gone false false false h = refl

one-stays : (q a s : Bool) → (s ≡ true → q ≡ true) → (q || not a) ≡ (q || not (a || s))
one-stays true a s h = refl
one-stays false true s h = refl
one-stays false false true h = absurd (false≢true (h refl))
one-stays false false false h = refl

-- a test that each element passes leaves the list
all-pass : {X : Type 0} (p : X → Bool) (xs : List X) → ((x : X) → p x ≡ true) → filter p xs ≡ xs
all-pass p [] h = refl
all-pass p (x ∷ xs) h =
    ap (λ b. cond b (x ∷ filter p xs) (filter p xs)) (h x) ∙ ap (λ l. x ∷ l) (all-pass p xs h)

or-true : (b : Bool) → (b || true) ≡ true
or-true true = refl
or-true false = refl

or-false : (b : Bool) → (b || false) ≡ b
or-false true = refl
or-false false = refl

-- the files of a list are in a list that they end
all-found : (front files : List AgedText)
    → All (λ x. list_any (λ t. is_same t x) (front ++ files) ≡ true) files
all-found front [] = All-nil (λ x. list_any (λ t. is_same t x) (front ++ []) ≡ true)
all-found front (a ∷ files) =
    All-cons (λ x. list_any (λ t. is_same t x) (front ++ a ∷ files) ≡ true) a files
    (list_any-append (λ t. is_same t a) front (a ∷ files)
    ∙ ap (λ b. list_any (λ t. is_same t a) front || (b || list_any (λ t. is_same t a) files)) (is_same-refl a)
    ∙ or-true (list_any (λ t. is_same t a) front))
    (subst (λ fs. All (λ x. list_any (λ t. is_same t x) fs ≡ true) files)
    (append_assoc front (a ∷ []) files) (all-found (front ++ a ∷ []) files))

-- a path that does not end in `.etag` is the path of an entry
entry-by : (path : List ℕ) (b : Bool) → (b ≡ true → path ≡ take (length path - 5) path ++ codes ".etag")
    → ((front : List ℕ) → path ≡ front ++ codes ".etag" → ⊥)
    → path ≡ cond b (take (length path - 5) path) path
entry-by path true ends never = absurd (never (take (length path - 5) path) (ends refl))
entry-by path false ends never = refl

pub no-etag-file : (path : List ℕ) → ((front : List ℕ) → path ≡ front ++ codes ".etag" → ⊥)
    → path ≡ entry_of path
no-etag-file path never =
    entry-by path (ends_with nat_eq path (codes ".etag"))
    (ends_is Decides-eqb path (codes ".etag") (ends_with nat_eq path (codes ".etag")) refl).0 never

-- what a function gives of one more of a list's elements
pub mapped-more : {A B : Type 0} (f : A → B) (xs : List A) (i : ℕ) (x : A) → i < length xs → x ≡ get_or xs i x
    → map f (take (i + 1) xs) ≡ map f (take i xs) ++ f x ∷ []
mapped-more f xs i x within is =
    ap (map f) (take_more xs i x within ∙ ap (λ y. take i xs ++ y ∷ []) (sym is))
    ∙ map-append f (take i xs) (x ∷ [])

-- a listed file is at its index
pub at-place : (items : List AgedFile) (files : List AgedText) (i : ℕ) (a : AgedFile)
    → map aged_text items ≡ files
    → i < length items → a ≡ get_or items i a
    → (i < length files) × (aged_text a ≡ get_or files i (aged_text a))
at-place items files i a listed within is = (
  subst (λ n. i < n) (sym (length-map items aged_text) ∙ ap length listed) within,
  ap aged_text is ∙ sym (get_or-map aged_text items i a) ∙ ap (λ fs. get_or fs i (aged_text a)) listed,
)

-- a file stays, or is none of the first ones
abbrev pub stays_at : List AgedText → ℕ → AgedText → Bool
stays_at all i x = is_used all (owner_of x) || not (list_any (λ t. is_same t x) (take i all))

-- at first every file is there
pub none-gone : (all : List AgedText) → all ≡ filter (stays_at all 0) all
none-gone all = sym (all-pass (stays_at all 0) all (λ x. or-true (is_used all (owner_of x))))

-- at the end each file was passed
pub all-gone : (all now : List AgedText) (i : ℕ) → i ≡ length all → now ≡ filter (stays_at all i) all
    → now ≡ remaining_files all all
all-gone all now i end e =
    e ∙ filter-here (stays_at all i) (λ x. is_used all (owner_of x)) all
    (weaker (λ x. list_any (λ t. is_same t x) all ≡ true) (λ x. stays_at all i x ≡ is_used all (owner_of x))
    (λ x found. ap (λ l. is_used all (owner_of x) || not (list_any (λ t. is_same t x) l))
    (ap (λ n. take n all) end ∙ take-length all)
    ∙ ap (λ b. is_used all (owner_of x) || not b) found ∙ or-false (is_used all (owner_of x)))
    all (all-found [] all))

module _ (all : List AgedText) (i : ℕ) (t : AgedText) (within : i < length all)
    (is : t ≡ get_or all i t) where
  more : (x : AgedText) → stays_at all (i + 1) x
      ≡ (is_used all (owner_of x) || not (list_any (λ u. is_same u x) (take i all) || is_same t x))
  more x =
      ap (λ b. is_used all (owner_of x) || not b)
      (list_any_more (λ u. is_same u x) all i t within
      ∙ ap (λ y. list_any (λ u. is_same u x) (take i all) || is_same y x) (sym is))

  -- the owner of the same file is used as this one's
  of-same : (b : Bool) → is_used all (owner_of t) ≡ b → (x : AgedText) → is_same t x ≡ true
      → is_used all (owner_of x) ≡ b
  of-same b used x same = ap (is_used all) (sym (same-owner t x same)) ∙ used

  -- a file that goes
  pub gone-more : (now new : List AgedText) → is_used all (owner_of t) ≡ false
      → new ≡ filter (λ b. not (is_same t b)) now → now ≡ filter (stays_at all i) all
      → new ≡ filter (stays_at all (i + 1)) all
  gone-more now new unused removed e =
      removed ∙ ap (filter (λ b. not (is_same t b))) e
      ∙ filter-filter (λ b. not (is_same t b)) (stays_at all i) all
      ∙ filter-same (λ x. stays_at all i x && not (is_same t x)) (stays_at all (i + 1))
      (λ x. one-gone (is_used all (owner_of x)) (list_any (λ u. is_same u x) (take i all)) (is_same t x)
      (of-same false unused x) ∙ sym (more x)) all

  -- a file that stays
  pub unchanged-more : (now : List AgedText) → is_used all (owner_of t) ≡ true → now ≡ filter (stays_at all i) all
      → now ≡ filter (stays_at all (i + 1)) all
  unchanged-more now used e =
      e ∙ filter-same (stays_at all i) (stays_at all (i + 1))
      (λ x. one-stays (is_used all (owner_of x)) (list_any (λ u. is_same u x) (take i all)) (is_same t x)
      (of-same true used x) ∙ sym (more x)) all

  -- the files that have to stay do so when another one is removed
  pub stays-more : (now new : List AgedText) → is_used all (owner_of t) ≡ false
      → new ≡ filter (λ b. not (is_same t b)) now → remaining_files all new ≡ remaining_files all now
  stays-more now new unused removed =
      ap (remaining_files all) removed
      ∙ filter-filter (λ a. is_used all (owner_of a)) (λ b. not (is_same t b)) now
      ∙ filter-same (λ x. not (is_same t x) && is_used all (owner_of x)) (λ a. is_used all (owner_of a))
      (λ x. keeps-used (is_used all (owner_of x)) (is_same t x) (of-same false unused x)) now

-- a failure that was counted stays counted
pub raised-on : (a b c : ℕ) → b ≤ c → IsRaisedCount a b → IsRaisedCount a c
raised-on a b c le (inl lt) = inl (omega arith)
raised-on a b c le (inr end) = grind (arith)

-- a step of the loop, whether the file is used or not
module _ (all : List AgedText) (i : ℕ) (t : AgedText) (within : i < length all)
    (is : t ≡ get_or all i t) where
  pub stays-step : (b : Bool) (mid new : AgingView) (r : Result Unit Error) → RemovesUnused b t mid new r
      → b ≡ is_used all (owner_of t) → mid.tells ≡ true
      → remaining_files all new.files ≡ remaining_files all mid.files
  stays-step true mid new r h used tells = ap (remaining_files all) (h.unchanged refl tells)
  stays-step false mid new r h used tells =
      ⊎_elim (λ same. ap (remaining_files all) same)
      (λ removed. stays-more all i t within is mid.files new.files (sym used) removed) (h.changed tells)

  pub gone-step : (b : Bool) (mid new : AgingView) → RemovesUnused b t mid new (Ok tt)
      → b ≡ is_used all (owner_of t) → mid.tells ≡ true → (IsRaisedCount mid.faults new.faults → ⊥)
      → mid.files ≡ filter (stays_at all i) all → new.files ≡ filter (stays_at all (i + 1)) all
  gone-step true mid new h used tells none e =
      h.unchanged refl tells ∙ unchanged-more all i t within is mid.files (sym used) e
  gone-step false mid new h used tells none e =
      gone-more all i t within is mid.files new.files (sym used) (h.gone refl tells none) e
