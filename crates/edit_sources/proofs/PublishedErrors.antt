-- The malformed lines of a text with a bound are those of the text without one.
use Rattle.std.proofs.Common.{◌≡◌, ◌∙◌, ℕ, ◌+◌, Bool, true, false, List, [], ◌∷◌, ◌++◌, map, length, Option, Some, None, refl, sym, ap, subst, inl, inr}
use Rattle.std.specs.Prelude.{◌⊎◌, ◌&&◌, if◌then◌else◌, option_and_then, codes}
use Rattle.std.specs.Option.{is_some, option_map_or}
use Rattle.std.specs.Str.{IsUtf8, is_utf8}
use Rattle.std.proofs.lemmas.Bool.{and_parts, cases_Bool, false≢true, true≢false}
use Rattle.std.proofs.lemmas.List.{length-map}
use Rattle.std.proofs.lemmas.Str.{IsUtf8-from_is_utf8}
use Rattle.serde_json.specs.Data.{Data}
use Rattle.serde_json.specs.Find.{as_str, get}
use Rattle.serde_json.specs.Read.{read}
use Rattle.edit_base.specs.declared.errors.Error.{Error}
use Rattle.edit_version.specs.IndexEntry.{IndexEntry}
use Rattle.edit_sources.proofs.OutcomeLemmas.{IsGood}
use Rattle.edit_sources.proofs.PublishedLemmas.{lines_of-published_text}
use Rattle.edit_sources.specs.IndexLines.{HaveEntriesInOrder, IsBadLine, IsEntryValue, IsIndexLine, IsLinesError, is_blank, lines_of, rust_version_of, yanked_of}
use Rattle.edit_sources.specs.IndexLines.HaveEntriesInOrder.{none, blank, entry}
use Rattle.edit_sources.specs.Published.{has_entry, is_index_line, is_withheld, published_line, published_text}
use Rattle.edit_sources.specs.declared.published.PublishedBefore.{PublishedBefore}

-- ---- a valid line has an entry

-- an entry with these four members
abbrev HasMembers : Option (List ℕ) → Option (List ℕ) → Option Bool → Option (Option (List ℕ)) → Type 0
HasMembers n v y r =
    (e : IndexEntry) × (n ≡ Some e.name) × (v ≡ Some e.version) × (y ≡ Some e.yanked)
    × (r ≡ Some e.rust_version)

members_of : (n v : Option (List ℕ)) (y : Option Bool) (r : Option (Option (List ℕ)))
    → (is_some n && is_some v && is_some y && is_some r) ≡ true → HasMembers n v y r
members_of None v y r is = absurd (false≢true is)
members_of (Some n) None y r is = absurd (false≢true is)
members_of (Some n) (Some v) None r is = absurd (false≢true is)
members_of (Some n) (Some v) (Some y) None is = absurd (false≢true is)
members_of (Some n) (Some v) (Some y) (Some r) is =
    (record { name = n; version = v; yanked = y; rust_version = r }, refl, refl, refl, refl)

value_entry : (d : Data) → has_entry d ≡ true → (e : IndexEntry) × IsEntryValue d e
value_entry d is =
    let found = members_of (option_and_then as_str (get (codes "name") d))
    (option_and_then as_str (get (codes "vers") d)) (yanked_of (get (codes "yanked") d))
    (rust_version_of (get (codes "rust_version") d)) is in (
      found.0,
      record { name = found.1; version = found.2; yanked = found.3; rust_version = found.4 },
    )

read_entry : (line : List ℕ) (r : Option Data) → read line ≡ r → IsUtf8 line
    → option_map_or has_entry r false ≡ true → (e : IndexEntry) × IsIndexLine line e
read_entry line None reads utf8 is = absurd (false≢true is)
read_entry line (Some d) reads utf8 is =
    let found = value_entry d is in
    (found.0, record { value = d; utf8 = utf8; reads = reads; says = found.1 })

-- a valid line has an entry
pub line_entry : (line : List ℕ) → is_index_line line ≡ true → (e : IndexEntry) × IsIndexLine line e
line_entry line is =
    let parts = and_parts (is_utf8 line) (option_map_or has_entry (read line) false) is in
    read_entry line (read line) refl (IsUtf8-from_is_utf8 line parts.0) parts.1

-- ---- a line that is blank or valid after others was so before

good_line : (bound : PublishedBefore) (line : List ℕ) (w : Bool) → is_withheld bound line ≡ w
    → IsGood (if w then [] else line) → IsGood line
good_line bound line true is h = inr (line_entry line (and_parts (is_index_line line) _ is).0)
good_line bound line false is h = h

not_withheld : (bound : PublishedBefore) (line other : List ℕ) (w : Bool) → is_withheld bound line ≡ w
    → other ≡ (if w then [] else line) → is_blank other ≡ false → line ≡ other
not_withheld bound line other true is same some = absurd (true≢false (sym (ap is_blank same) ∙ some))
not_withheld bound line other false is same some = sym same

-- ---- lines that are mapped, split at one of them

record IsMappedAt (f : List ℕ → List ℕ) (all before : List (List ℕ)) (line : List ℕ)
    (after : List (List ℕ)) : Type 0 where
  front : List (List ℕ)
  here : List ℕ
  rest : List (List ℕ)
  whole : all ≡ front ++ here ∷ rest
  fronts : before ≡ map f front
  same : line ≡ f here
  rests : after ≡ map f rest

mapped_at : (f : List ℕ → List ℕ) (all before : List (List ℕ)) (line : List ℕ) (after : List (List ℕ))
    → before ++ line ∷ after ≡ map f all → IsMappedAt f all before line after
mapped_at f [] [] line after is = cc
mapped_at f [] (b ∷ bs) line after is = cc
mapped_at f (a ∷ all) [] line after is =
    record { front = []; here = a; rest = all; whole = refl; fronts = refl; same = cc; rests = cc }
mapped_at f (a ∷ all) (b ∷ bs) line after is =
    let more = mapped_at f all bs line after cc in
    let first : b ≡ f a = cc in
    record {
      front = a ∷ more.front;
      here = more.here;
      rest = more.rest;
      whole = ap (λ ls. a ∷ ls) more.whole;
      fronts = ap (λ ls. b ∷ ls) more.fronts ∙ ap (λ l. l ∷ map f more.front) first;
      same = more.same;
      rests = more.rests;
    }

none_mapped : (f : List ℕ → List ℕ) (lines : List (List ℕ)) → [] ≡ map f lines → lines ≡ []
none_mapped f [] is = refl
none_mapped f (l ∷ ls) is = cc

-- ---- lines have entries if those that a bound leaves have some

-- lines have entries
abbrev HaveSome : List (List ℕ) → Type 0
HaveSome lines = (entries : List IndexEntry) × HaveEntriesInOrder lines entries

add_good : (lines : List (List ℕ)) (line : List ℕ) → HaveSome lines → IsGood line
    → HaveSome (lines ++ line ∷ [])
add_good lines line some (inl is) = (some.0, blank lines some.0 line some.1 is)
add_good lines line some (inr found) = elim (cases_Bool (is_blank line)) [
  | inl is ↦ (some.0, blank lines some.0 line some.1 is)
  | inr is ↦ (some.0 ++ found.0 ∷ [], entry lines some.0 line found.0 some.1 is found.1)
]

-- the last of the lines is added to those before it
add_last : (bound : PublishedBefore) (all lines : List (List ℕ)) (line : List ℕ)
    (at : IsMappedAt (published_line bound) all lines line []) → HaveSome at.front → IsGood line
    → HaveSome all
add_last bound all lines line at some good =
    let whole = at.whole
    ∙ ap (λ ls. at.front ++ at.here ∷ ls) (none_mapped (published_line bound) at.rest at.rests) in
    subst HaveSome (sym whole)
    (add_good at.front at.here some
    (good_line bound at.here (is_withheld bound at.here) refl (subst IsGood at.same good)))

have_some : (bound : PublishedBefore) (lines : List (List ℕ)) (entries : List IndexEntry)
    → HaveEntriesInOrder lines entries → (all : List (List ℕ)) → lines ≡ map (published_line bound) all
    → HaveSome all
have_some bound lines entries none all is =
    subst HaveSome (sym (none_mapped (published_line bound) all is)) ([], none)
have_some bound lines entries (blank ls es line h is_blank) all is =
    let at = mapped_at (published_line bound) all ls line [] is in
    add_last bound all ls line at (have_some bound ls es h at.front at.fronts) (inl is_blank)
have_some bound lines entries (entry ls es line e h not_blank says) all is =
    let at = mapped_at (published_line bound) all ls line [] is in
    add_last bound all ls line at (have_some bound ls es h at.front at.fronts) (inr (e, says))

-- ---- errors

bad_line : (bound : PublishedBefore) (all : List (List ℕ)) (n : ℕ)
    → IsBadLine (map (published_line bound) all) n → IsBadLine all n
bad_line bound all n b =
    let at = mapped_at (published_line bound) all b.before b.line b.after (sym b.whole) in
    let some = have_some bound b.before b.entries b.good at.front at.fronts in
    let same : at.here ≡ b.line =
    not_withheld bound at.here b.line (is_withheld bound at.here) refl at.same b.some in
    record {
      before = at.front;
      line = at.here;
      after = at.rest;
      entries = some.0;
      whole = at.whole;
      place = b.place
          ∙ ap (λ k. k + 1) (ap length at.fronts ∙ length-map at.front (published_line bound));
      good = some.1;
      some = ap is_blank same ∙ b.some;
      bad = subst (λ l. (e : IndexEntry) → IsIndexLine l e → ⊥) (sym same) b.bad;
    }

lines_error : (bound : PublishedBefore) (all : List (List ℕ)) (e : Error)
    → IsLinesError (map (published_line bound) all) e → IsLinesError all e
lines_error bound all e (inl memory) = inl memory
lines_error bound all e (inr found) = inr (found.0, found.1, bad_line bound all found.0 found.2)

-- an error of the lines that a bound leaves is one of all lines
pub published_error : (bound : PublishedBefore) (text : List ℕ) (e : Error)
    → IsLinesError (lines_of (published_text bound text)) e → IsLinesError (lines_of text) e
published_error bound text e h =
    lines_error bound (lines_of text) e
    (subst (λ ls. IsLinesError ls e) (lines_of-published_text bound text) h)
