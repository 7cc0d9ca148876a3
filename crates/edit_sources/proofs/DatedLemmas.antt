-- A line of an index, with the time at which its version was published.
use Rattle.std.proofs.Common.{◌≡◌, ◌∙◌, ℕ, ℤ, ◌+◌, ◌==◌, Bool, true, false, not, List, [], ◌∷◌, ◌++◌, length, map, Option, Some, None, refl, sym, ap, subst, append-nil, ⊎_elim}
use Rattle.std.specs.Prelude.{◌&&◌, ◌||◌, if◌then◌else◌, option_and_then, unwrap_or}
use Rattle.std.specs.Option.{is_some, option_map_or}
use Rattle.std.specs.Str.{bytes_eq}
use Rattle.std.proofs.lemmas.Bool.{and_parts, eqb-true, or_cases}
use Rattle.std.proofs.lemmas.List.{length-map, map-append}
use Rattle.json.specs.Json.{if_last, value}
use Rattle.json.specs.Lex.{class, lex, lex_byte, punctuate}
use Rattle.json.specs.Lex.Class.{space}
use Rattle.json.specs.Lex.Mode.{between}
use Rattle.json.specs.Lex.Place.{fresh}
use Rattle.serde_json.specs.Data.{Data}
use Rattle.serde_json.specs.Read.{of_json, read}
use Rattle.edit_version.specs.IndexEntry.{IndexEntry}
use Rattle.edit_sources.proofs.PublishedErrors.{line_entry}
use Rattle.edit_sources.proofs.PublishedLemmas.{is_withheld-none, is_withheld-value}
use Rattle.edit_sources.proofs.WithheldLemmas.{line_of_crate-none, line_of_crate-value, of_line-none, of_line-value}
use Rattle.edit_sources.specs.IndexLines.{HaveEntriesInOrder, IsBadLine, IsEntryValue, IsIndexLine, is_blank}
use Rattle.edit_sources.specs.IndexLines.HaveEntriesInOrder.{blank, entry}
use Rattle.edit_sources.specs.Published.{IsDatedLine, has_entry, is_by, is_index_line, is_withheld, published_line}
use Rattle.edit_sources.specs.Withheld.{line_of_crate, nothing, of_line, of_value, of_version}
use Rattle.edit_sources.specs.declared.published.PublishedBefore.{PublishedBefore}

-- ---- a blank line

blank_class : (b : ℕ) → ((b == 32) || ((b == 9) || (b == 13))) ≡ true → class b ≡ space
blank_class b is = ⊎_elim (λ e. ap class (eqb-true b 32 e))
    (λ e. ⊎_elim (λ f. ap class (eqb-true b 9 f)) (λ f. ap class (eqb-true b 13 f))
    (or_cases (b == 9) (b == 13) e))
    (or_cases (b == 32) ((b == 9) || (b == 13)) is)

-- a blank line has no lexemes
blank_lex : (line : List ℕ) → is_blank line ≡ true → lex between line ≡ []
unfolding lex
blank_lex [] is = refl
blank_lex (b ∷ bs) is =
    let parts = and_parts ((b == 32) || ((b == 9) || (b == 13))) (is_blank bs) is in
    ap (λ k. lex_byte between k b bs (λ m. lex m bs)) (blank_class b parts.0) ∙ blank_lex bs parts.1

-- a blank line has no value
blank_read : (line : List ℕ) → is_blank line ≡ true → read line ≡ None
unfolding value punctuate
blank_read line is = ap (λ ls. option_and_then of_json (option_and_then (λ p. if_last p.0 p.1)
    (value 127 (punctuate fresh ls)))) (blank_lex line is)

module _ (bound : PublishedBefore) (line : List ℕ) (is : is_blank line ≡ true) where
  -- a blank line is not withheld
  pub is_withheld-blank : is_withheld bound line ≡ false
  is_withheld-blank = is_withheld-none bound line (λ _. blank_read line is)

  -- nothing is held back by it
  pub of_line-blank : of_line bound line ≡ nothing
  of_line-blank = of_line-none bound line (λ _. blank_read line is)

  pub line_of_crate-blank : (q : List ℕ) → line_of_crate bound q line ≡ None
  line_of_crate-blank q = line_of_crate-none bound q line (λ _. blank_read line is)

-- ---- a valid line

-- a value with an entry has the members of one
has_entry-says : (d : Data) (e : IndexEntry) → IsEntryValue d e → has_entry d ≡ true
has_entry-says d e says = λ i.
    is_some (says.name i) && is_some (says.version i) && is_some (says.yanked i)
    && is_some (says.rust_version i)

module _ (bound : PublishedBefore) (line : List ℕ) (e : IndexEntry) (time : Option ℤ)
    (dated : IsDatedLine line e time) where
  valid : has_entry dated.entry.value ≡ true
  valid = has_entry-says dated.entry.value e dated.entry.says

  -- a valid line is withheld if its version was not published by the bound
  pub is_withheld-dated : is_withheld bound line ≡ not (is_by bound time)
  is_withheld-dated =
      is_withheld-value bound line dated.entry.value dated.entry.utf8 dated.entry.reads
      ∙ λ i. valid i && not (is_by bound (sym dated.published i))

  -- what is held back of its version
  pub of_value-dated : of_value bound dated.entry.value ≡ of_version bound e.yanked time
  of_value-dated = λ i.
      if valid i then of_version bound (unwrap_or (dated.entry.says.yanked i) false) (sym dated.published i)
      else nothing

  pub of_line-dated : of_line bound line ≡ of_version bound e.yanked time
  of_line-dated =
      of_line-value bound line dated.entry.value dated.entry.utf8 dated.entry.reads ∙ of_value-dated

  -- what it adds to what is held back of a crate
  pub line_of_crate-dated : (q : List ℕ) → line_of_crate bound q line
      ≡ (if bytes_eq e.name q then Some (of_version bound e.yanked time) else None)
  line_of_crate-dated q =
      line_of_crate-value bound q line dated.entry.value dated.entry.utf8 dated.entry.reads
      ∙ λ i. if option_map_or (λ n. bytes_eq n q) (if valid i then dated.entry.says.name i else None) false
      then Some (of_value-dated i) else None

-- ---- lines with a bound

module _ (bound : PublishedBefore) where
  -- the lines that the bound leaves have these entries
  abbrev pub HaveLeft : List (List ℕ) → List IndexEntry → Type 0
  HaveLeft lines entries = HaveEntriesInOrder (map (published_line bound) lines) entries

  add_line : (lines : List (List ℕ)) (line left : List ℕ) (entries : List IndexEntry)
      → published_line bound line ≡ left
      → HaveEntriesInOrder (map (published_line bound) lines ++ left ∷ []) entries
      → HaveLeft (lines ++ line ∷ []) entries
  add_line lines line left entries is say =
      subst (λ ls. HaveEntriesInOrder ls entries)
      (sym (map-append (published_line bound) lines (line ∷ [])
      ∙ ap (λ l. map (published_line bound) lines ++ l ∷ []) is)) say

  left_is : (line : List ℕ) (w : Bool) → is_withheld bound line ≡ w
      → published_line bound line ≡ (if w then [] else line)
  left_is line w is = ap (λ b. if b then [] else line) is

  -- a blank line more
  pub left-blank : (lines : List (List ℕ)) (line : List ℕ) (entries : List IndexEntry)
      → HaveLeft lines entries → is_blank line ≡ true → HaveLeft (lines ++ line ∷ []) entries
  left-blank lines line entries say is =
      add_line lines line line entries (left_is line false (is_withheld-blank bound line is))
      (blank (map (published_line bound) lines) entries line say is)

  left_by : (lines : List (List ℕ)) (line : List ℕ) (entries : List IndexEntry) (e : IndexEntry)
      (time : Option ℤ) (by : Bool) → is_by bound time ≡ by
      → HaveLeft lines entries → is_blank line ≡ false → IsDatedLine line e time
      → HaveLeft (lines ++ line ∷ []) (entries ++ (if by then e ∷ [] else []))
  left_by lines line entries e time true by say some dated =
      add_line lines line line (entries ++ e ∷ [])
      (left_is line false (is_withheld-dated bound line e time dated ∙ ap not by))
      (entry (map (published_line bound) lines) entries line e say some dated.entry)
  left_by lines line entries e time false by say some dated =
      subst (HaveLeft (lines ++ line ∷ [])) (sym (append-nil entries))
      (add_line lines line [] entries
      (left_is line true (is_withheld-dated bound line e time dated ∙ ap not by))
      (blank (map (published_line bound) lines) entries [] say refl))

  -- a valid line more
  pub left-version : (lines : List (List ℕ)) (line : List ℕ) (entries : List IndexEntry) (e : IndexEntry)
      (time : Option ℤ) → HaveLeft lines entries → is_blank line ≡ false → IsDatedLine line e time
      → HaveLeft (lines ++ line ∷ []) (entries ++ (if is_by bound time then e ∷ [] else []))
  left-version lines line entries e time say some dated =
      left_by lines line entries e time (is_by bound time) refl say some dated

  bad_left : (line : List ℕ) (w : Bool) → is_withheld bound line ≡ w
      → ((e : IndexEntry) → IsIndexLine line e → ⊥) → published_line bound line ≡ line
  bad_left line false is bad = left_is line false is
  bad_left line true is bad =
      let found = line_entry line (and_parts (is_index_line line) _ is).0 in absurd (bad found.0 found.1)

  -- the first malformed line of a text is that of the lines that the bound leaves
  pub left-bad : (all lines rest : List (List ℕ)) (line : List ℕ) (entries : List IndexEntry) (n : ℕ)
      → all ≡ lines ++ line ∷ rest → n ≡ length lines + 1 → HaveLeft lines entries
      → is_blank line ≡ false → ((e : IndexEntry) → IsIndexLine line e → ⊥)
      → IsBadLine (map (published_line bound) all) n
  left-bad all lines rest line entries n whole place good some bad = record {
    before = map (published_line bound) lines;
    line = line;
    after = map (published_line bound) rest;
    entries = entries;
    whole = ap (map (published_line bound)) whole
        ∙ map-append (published_line bound) lines (line ∷ rest)
        ∙ ap (λ l. map (published_line bound) lines ++ l ∷ map (published_line bound) rest)
        (bad_left line (is_withheld bound line) refl bad);
    place = place ∙ sym (ap (λ k. k + 1) (length-map lines (published_line bound)));
    good = good;
    some = some;
    bad = bad;
  }
