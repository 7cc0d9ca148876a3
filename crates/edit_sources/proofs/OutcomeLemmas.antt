-- A lookup of a name at an address has a single result.
use Rattle.std.proofs.Common.{◌≡◌, ℕ, ◌+◌, ◌<◌, List, [], ◌∷◌, ◌++◌, Bool, true, false, cond, Option, Some, None, Ok, Err, length, length-append, get_or, refl, ap, sym, ◌∙◌, subst, arith, inl, inr}
use Rattle.std.specs.Prelude.{◌⊎◌, option_and_then, codes}
use Rattle.std.specs.List.{All, flat_map}
use Rattle.std.specs.Option.{option_to_list}
use Rattle.std.proofs.lemmas.List.{append-nil, get_or_append_left, get_or_at}
use Rattle.std.proofs.lemmas.List.Elements.{All-nil, All-push, All-get_or}
use Rattle.std.proofs.lemmas.Grind.{flat_map-append}
use Rattle.serde_json.specs.Data.{Data}
use Rattle.serde_json.specs.Read.{read}
use Rattle.serde_json.specs.Find.{get, as_str}
use Rattle.url.specs.Parts.{Parts}
use Rattle.edit_version.specs.IndexEntry.{IndexEntry}
use Rattle.edit_sources.specs.FileIndex.{FileGives}
use Rattle.edit_sources.specs.Index.{LookupError, Outcome, bad_line}
use Rattle.edit_sources.specs.IndexLines.{HaveEntriesInOrder, IsBadLine, IsIndexLine, IsEntryValue, is_blank, lines_of, yanked_of, rust_version_of}
use Rattle.edit_sources.specs.IndexLines.HaveEntriesInOrder.{none, blank, entry}
use Rattle.edit_sources.specs.LocalIndex.{HasBadLine, HasEntries, HasNoIndexPath, IsIndexPath, LocalGives, below}
use Rattle.edit_sources.specs.Names.{layout}
use Rattle.edit_store.specs.Store.{Files, StoreView}
use Rattle.edit_sources.specs.declared.file_index.FileIndex.{FileIndex}

-- ---- the entries of lines

-- an entry, given its four fields
abbrev entry_by : Option (List ℕ) → Option (List ℕ) → Option Bool → Option (Option (List ℕ))
    → Option IndexEntry
entry_by (Some n) (Some v) (Some y) (Some r) =
    Some (record { name = n; version = v; yanked = y; rust_version = r })
entry_by _ _ _ _ = None

-- the entry of a JSON value, as a function
abbrev entry_in : Data → Option IndexEntry
entry_in d = entry_by (option_and_then as_str (get (codes "name") d))
    (option_and_then as_str (get (codes "vers") d)) (yanked_of (get (codes "yanked") d))
    (rust_version_of (get (codes "rust_version") d))

entry_is : (d : Data) (e : IndexEntry) → IsEntryValue d e → entry_in d ≡ Some e
entry_is d e h = λ i. entry_by (h.name i) (h.version i) (h.yanked i) (h.rust_version i)

-- the entries of a line, as a function: none if it is blank
abbrev said : List ℕ → List IndexEntry
said line = cond (is_blank line) [] (option_to_list (option_and_then entry_in (read line)))

said-blank : (line : List ℕ) → is_blank line ≡ true → said line ++ [] ≡ []
said-blank line is = ap (λ b. cond b [] (option_to_list (option_and_then entry_in (read line))) ++ []) is

said-entry : (line : List ℕ) (e : IndexEntry) → is_blank line ≡ false → IsIndexLine line e
    → said line ++ [] ≡ e ∷ []
said-entry line e is h =
    let reads : option_and_then entry_in (read line) ≡ Some e = ap (option_and_then entry_in) h.reads ∙
    entry_is h.value e h.says in
    λ i. cond (is i) [] (option_to_list (reads i)) ++ []

-- lines have the entries of each of them, in order
all_said : (lines : List (List ℕ)) (entries : List IndexEntry) → HaveEntriesInOrder lines entries
    → flat_map said lines ≡ entries
all_said lines entries none = refl
all_said lines entries (blank ls es line h is) =
    flat_map-append said ls (line ∷ []) ∙ ap (λ t. flat_map said ls ++ t) (said-blank line is) ∙
    append-nil (flat_map said ls) ∙ all_said ls es h
all_said lines entries (entry ls es line e h is says) =
    flat_map-append said ls (line ∷ []) ∙ ap (λ t. flat_map said ls ++ t) (said-entry line e is says) ∙
    ap (λ t. t ++ e ∷ []) (all_said ls es h)

pub one_reading : (lines : List (List ℕ)) (a b : List IndexEntry) → HaveEntriesInOrder lines a
    → HaveEntriesInOrder lines b
    → a ≡ b
one_reading lines a b x y = sym (all_said lines a x) ∙ all_said lines b y

-- ---- lines before a malformed one are valid

-- a line that is blank or valid
abbrev pub IsGood : List ℕ → Type 0
IsGood line = (is_blank line ≡ true) ⊎ ((e : IndexEntry) × IsIndexLine line e)

each_good : (lines : List (List ℕ)) (entries : List IndexEntry) → HaveEntriesInOrder lines entries
    → All IsGood lines
each_good lines entries none = All-nil IsGood
each_good lines entries (blank ls es line h is) = All-push IsGood ls line (each_good ls es h) (inl is)
each_good lines entries (entry ls es line e h is says) =
    All-push IsGood ls line (each_good ls es h) (inr (e, says))

not_good : (lines : List (List ℕ)) (n : ℕ) (b : IsBadLine lines n) → IsGood b.line → ⊥
not_good lines n b (inl is) = cc
not_good lines n b (inr h) = b.bad h.0 h.1

-- the line at the index of a malformed one
there : (lines : List (List ℕ)) (n : ℕ) (b : IsBadLine lines n)
    → get_or lines (length b.before) b.line ≡ b.line
there lines n b = ap (λ ls. get_or ls (length b.before) b.line) b.whole ∙
    get_or_at b.before b.line b.after b.line (length b.before) refl

-- a malformed line does not come after another one
not_later : (lines : List (List ℕ)) (m n : ℕ) (a : IsBadLine lines m) (b : IsBadLine lines n)
    → length a.before < length b.before → ⊥
not_later lines m n a b lt =
    let within : get_or lines (length a.before) a.line ≡ get_or b.before (length a.before) a.line =
    ap (λ ls. get_or ls (length a.before) a.line) b.whole ∙
    get_or_append_left b.before (b.line ∷ b.after) a.line (length a.before) lt in
    let is : get_or b.before (length a.before) a.line ≡ a.line = sym within ∙ there lines m a in
    not_good lines m a (subst IsGood is
    (All-get_or IsGood b.before (length a.before) a.line lt (each_good b.before b.entries b.good)))

-- two numbers, neither of which is less, are one
even : (m n : ℕ) → (m < n → ⊥) → (n < m → ⊥) → m ≡ n
even m n a b = omega arith

-- the number of the first malformed line is unique
pub one_bad_line : (lines : List (List ℕ)) (m n : ℕ) → IsBadLine lines m → IsBadLine lines n → m ≡ n
one_bad_line lines m n a b =
    let same : length a.before ≡ length b.before = even (length a.before) (length b.before)
    (not_later lines m n a b) (not_later lines n m b a) in
    a.place ∙ ap (λ k. k + 1) same ∙ sym b.place

-- lines with a malformed one have no entries
pub none_said : (lines : List (List ℕ)) (entries : List IndexEntry) (n : ℕ) → HaveEntriesInOrder lines entries
    → IsBadLine lines n → ⊥
none_said lines entries n says b =
    let within : length b.before < length lines =
    omega (arith, ap length b.whole, length-append b.before (b.line ∷ b.after)) in
    not_good lines n b (subst IsGood (there lines n b)
    (All-get_or IsGood lines (length b.before) b.line within (each_good lines entries says)))

-- ---- the path of a crate's file is unique

one_path : (address : Parts) (name p q : List ℕ) → IsIndexPath address name p → IsIndexPath address name q
    → p ≡ q
one_path address name p q a b =
    let folder : a.folder ≡ b.folder = a.folder_of.path ∙ sym b.folder_of.path in
    a.is ∙ ap (λ f. below f (layout name)) folder ∙ sym b.is

-- a crate's file does not have both a path and an error
no_path : (address : Parts) (name p : List ℕ) (n : LookupError) → IsIndexPath address name p
    → HasNoIndexPath address name n → ⊥
no_path address name p n a (inl h) = h.1 a.scheme
no_path address name p n a (inr (inl h)) = h.2 a.folder a.folder_of
no_path address name p n a (inr (inr h)) = let is = a.named in let isnt = h.2.1 in cc

one_reason : (address : Parts) (name : List ℕ) (m n : LookupError) → HasNoIndexPath address name m
    → HasNoIndexPath address name n → m ≡ n
one_reason address name m n (inl a) (inl b) = a.0 ∙ sym b.0
one_reason address name m n (inl a) (inr (inl b)) = absurd (a.1 b.1)
one_reason address name m n (inl a) (inr (inr b)) = absurd (a.1 b.1)
one_reason address name m n (inr (inl a)) (inl b) = absurd (b.1 a.1)
one_reason address name m n (inr (inl a)) (inr (inl b)) = a.0 ∙ sym b.0
one_reason address name m n (inr (inl a)) (inr (inr b)) = absurd (a.2 b.2.0.0 b.2.0.1)
one_reason address name m n (inr (inr a)) (inl b) = absurd (b.1 a.1)
one_reason address name m n (inr (inr a)) (inr (inl b)) = absurd (b.2 a.2.0.0 a.2.0.1)
one_reason address name m n (inr (inr a)) (inr (inr b)) = a.0 ∙ sym b.0

-- ---- results

-- the contents of a crate's file are unique
one_text : (files : Files) (address : Parts) (name p q : List ℕ) (a b : Option (List ℕ))
    → IsIndexPath address name p → IsIndexPath address name q → files p ≡ a → files q ≡ b → a ≡ b
one_text files address name p q a b at also x y = sym x ∙ ap files (one_path address name p q at also) ∙ y

-- lines do not both have entries and a malformed line
not_both : (store : StoreView) (address : Parts) (name : List ℕ) (es : List IndexEntry) (line : ℕ)
    → store.tells ≡ true
    → HasEntries store address name es → HasBadLine store address name line → ⊥
not_both store address name es line tells x y =
    let h : Some x.bytes ≡ Some y.bytes = one_text store.file_at address name x.path y.path (Some x.bytes)
    (Some y.bytes) x.at y.at (x.stands tells) (y.stands tells) in
    let same : x.bytes ≡ y.bytes = cc in
    none_said (lines_of y.bytes) es line (subst (λ t. HaveEntriesInOrder (lines_of t) es) same x.say) y.bad

-- the first malformed line is unique
pub one_line : (store : StoreView) (address : Parts) (name : List ℕ) (m n : ℕ) → store.tells ≡ true
    → HasBadLine store address name m → HasBadLine store address name n → m ≡ n
one_line store address name m n tells x y =
    let h : Some x.bytes ≡ Some y.bytes = one_text store.file_at address name x.path y.path (Some x.bytes)
    (Some y.bytes) x.at y.at (x.stands tells) (y.stands tells) in
    let same : x.bytes ≡ y.bytes = cc in
    one_bad_line (lines_of y.bytes) m n (subst (λ t. IsBadLine (lines_of t) m) same x.bad) y.bad

-- a lookup in an index of one file per crate has a single result, if the contents of the store's files are
-- known
pub one_local_outcome : (store : StoreView) (address : Parts) (name : List ℕ) (a b : Outcome)
    → store.tells ≡ true
    → LocalGives store address name a → LocalGives store address name b → a ≡ b
one_local_outcome store address name (Ok None) (Ok None) tells x y = refl
one_local_outcome store address name (Ok None) (Ok (Some es)) tells x y =
    let h : None ≡ Some y.bytes = one_text store.file_at address name x.path y.path None
    (Some y.bytes) x.at y.at (x.absent tells) (y.stands tells) in cc
one_local_outcome store address name (Ok None) (Err n) tells x (inl why) =
    absurd (no_path address name x.path n x.at why)
one_local_outcome store address name (Ok None) (Err n) tells x (inr (line, named, y)) =
    let h : None ≡ Some y.bytes = one_text store.file_at address name x.path y.path None
    (Some y.bytes) x.at y.at (x.absent tells) (y.stands tells) in cc
one_local_outcome store address name (Ok (Some es)) (Ok None) tells x y =
    let h : Some x.bytes ≡ None = one_text store.file_at address name x.path y.path
    (Some x.bytes) None x.at y.at (x.stands tells) (y.absent tells) in cc
one_local_outcome store address name (Ok (Some es)) (Ok (Some fs)) tells x y =
    let h : Some x.bytes ≡ Some y.bytes = one_text store.file_at address name x.path y.path (Some x.bytes)
    (Some y.bytes) x.at y.at (x.stands tells) (y.stands tells) in
    let same : x.bytes ≡ y.bytes = cc in
    ap (λ t. Ok (Some t))
    (one_reading (lines_of y.bytes) es fs (subst (λ t. HaveEntriesInOrder (lines_of t) es) same x.say) y.say)
one_local_outcome store address name (Ok (Some es)) (Err n) tells x (inl why) =
    absurd (no_path address name x.path n x.at why)
one_local_outcome store address name (Ok (Some es)) (Err n) tells x (inr (line, named, y)) =
    absurd (not_both store address name es line tells x y)
one_local_outcome store address name (Err m) (Ok None) tells (inl why) y =
    absurd (no_path address name y.path m y.at why)
one_local_outcome store address name (Err m) (Ok None) tells (inr (line, named, x)) y =
    let h : Some x.bytes ≡ None = one_text store.file_at address name x.path y.path
    (Some x.bytes) None x.at y.at (x.stands tells) (y.absent tells) in cc
one_local_outcome store address name (Err m) (Ok (Some es)) tells (inl why) y =
    absurd (no_path address name y.path m y.at why)
one_local_outcome store address name (Err m) (Ok (Some es)) tells (inr (line, named, x)) y =
    absurd (not_both store address name es line tells y x)
one_local_outcome store address name (Err m) (Err n) tells (inl a) (inl b) =
    ap Err (one_reason address name m n a b)
one_local_outcome store address name (Err m) (Err n) tells (inl why) (inr (line, named, y)) =
    absurd (no_path address name y.path m y.at why)
one_local_outcome store address name (Err m) (Err n) tells (inr (line, named, x)) (inl why) =
    absurd (no_path address name x.path n x.at why)
one_local_outcome store address name (Err m) (Err n) tells (inr a) (inr b) =
    ap Err (a.1 ∙ ap bad_line (one_line store address name a.0 b.0 tells a.2 b.2) ∙ sym b.1)

-- a lookup in an index in a single file has a single result
pub one_file_outcome : (index : FileIndex) (name : List ℕ) (a b : Outcome) → FileGives index name a
    → FileGives index name b → a ≡ b
one_file_outcome index name a b (inl x) (inl y) = x.1 ∙ sym y.1
one_file_outcome index name a b (inl x) (inr y) = let isnt = x.0 in let yes = y.0 in cc
one_file_outcome index name a b (inr x) (inl y) = let yes = x.0 in let isnt = y.0 in cc
one_file_outcome index name a b (inr x) (inr y) = x.1 ∙ sym y.1
