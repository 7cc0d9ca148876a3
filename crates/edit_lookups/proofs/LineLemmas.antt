-- The lines of a file of lookups, one at a time.
use Rattle.std.proofs.Common.{◌≡◌, ℕ, List, [], ◌∷◌, ◌++◌, length, map, ap, ◌∙◌, sym, subst, arith, length-append, append_assoc}
use Rattle.std.specs.Prelude.{All}
use Rattle.std.specs.List.{flat_map}
use Rattle.std.proofs.lemmas.Grind.{flat_map-append}
use Rattle.std.proofs.lemmas.List.{map-append}
use Rattle.std.proofs.lemmas.List.Elements.{All-head, All-tail, All-push}
use Rattle.edit_lookups.specs.declared.lookups.Lookup.{Lookup}
use Rattle.edit_lookups.specs.Lookups.{HasNo, IsLookup, LookupText, HasLookupLines, lookup_line, lookup_text}
use Rattle.edit_lookups.proofs.CutLemmas.{HasNo-at, HasNo-append, HasNo-cons, first-cut}

abbrev pub ended : LookupText → List ℕ
ended l = lookup_line l ++ 10 ∷ []

line-plain : (l : LookupText) → IsLookup l → HasNo 10 (lookup_line l)
line-plain l is =
    HasNo-append 10 l.address (9 ∷ (l.name ++ 9 ∷ l.path)) is.address.no_line_end
    (HasNo-cons 10 9 (l.name ++ 9 ∷ l.path) (λ e. omega arith)
    (HasNo-append 10 l.name (9 ∷ l.path) is.name.no_line_end
    (HasNo-cons 10 9 l.path (λ e. omega arith) is.path.no_line_end)))

-- what the first line of some lookups is
pub record FirstLine (line after : List ℕ) : Type 0 where
  pub first : LookupText
  pub is : IsLookup first
  pub line_is : line ≡ lookup_line first
  pub others : List LookupText
  pub say : HasLookupLines after others

pub first-line : (rest line after : List ℕ) (ls : List LookupText) → rest ≡ line ++ 10 ∷ after → HasNo 10 line
    → HasLookupLines rest ls → FirstLine line after
first-line rest line after [] cut plain h =
    absurd (omega (arith, ap length (sym cut ∙ h.is), length-append line (10 ∷ after)))
first-line rest line after (l ∷ ls) cut plain h =
    let e : line ++ 10 ∷ after ≡ lookup_line l ++ 10 ∷ flat_map ended ls =
    sym cut ∙ (h.is ∙ append_assoc (lookup_line l) (10 ∷ []) (flat_map ended ls)) in
    let parts = first-cut 10 line after (lookup_line l) (flat_map ended ls) plain
    (line-plain l (All-head IsLookup l ls h.plain)) e in
    record {
      first = l;
      is = All-head IsLookup l ls h.plain;
      line_is = parts.0;
      others = ls;
      say = record { is = parts.1; plain = All-tail IsLookup l ls h.plain };
    }

-- a text without a line feed has no lookup
pub no-line : (rest : List ℕ) (ls : List LookupText) → HasNo 10 rest → HasLookupLines rest ls → rest ≡ []
no-line rest [] plain h = h.is
no-line rest (l ∷ ls) plain h =
    absurd (HasNo-at 10 (lookup_line l) (flat_map ended ls)
    (subst (HasNo 10) (h.is ∙ append_assoc (lookup_line l) (10 ∷ []) (flat_map ended ls)) plain))

-- one lookup more
texts-more : (items xs : List Lookup) (x : Lookup) → xs ≡ items ++ x ∷ []
    → map lookup_text xs ≡ map lookup_text items ++ lookup_text x ∷ []
texts-more items xs x e = ap (map lookup_text) e ∙ map-append lookup_text items (x ∷ [])

pub All-more : (items xs : List Lookup) (x : Lookup) → xs ≡ items ++ x ∷ []
    → All IsLookup (map lookup_text items)
    → IsLookup (lookup_text x) → All IsLookup (map lookup_text xs)
All-more items xs x e all is =
    subst (All IsLookup) (sym (texts-more items xs x e)) (All-push IsLookup _ _ all is)

regroup : (a b c : List ℕ) → a ++ (b ++ 10 ∷ c) ≡ (a ++ ((b ++ 10 ∷ []) ++ [])) ++ c
regroup a b c = simp append_assoc

pub text-more : (items xs : List Lookup) (x : Lookup) (text rest line after : List ℕ) → xs ≡ items ++ x ∷ []
    → text ≡ flat_map ended (map lookup_text items) ++ rest → rest ≡ line ++ 10 ∷ after
    → line ≡ lookup_line (lookup_text x) → text ≡ flat_map ended (map lookup_text xs) ++ after
text-more items xs x text rest line after e so cut is =
    let all : flat_map ended (map lookup_text xs)
    ≡ flat_map ended (map lookup_text items) ++ (ended (lookup_text x) ++ []) =
    ap (flat_map ended) (texts-more items xs x e)
    ∙ flat_map-append ended (map lookup_text items) (lookup_text x ∷ []) in
    so ∙ (ap (λ t. flat_map ended (map lookup_text items) ++ t) (cut ∙ ap (λ t. t ++ 10 ∷ after) is)
    ∙ (regroup (flat_map ended (map lookup_text items)) (lookup_line (lookup_text x)) after
    ∙ ap (λ t. t ++ after) (sym all)))
