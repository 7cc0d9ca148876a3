-- The records of a list of entries, one at a time.
use Rattle.std.proofs.Common.{◌≡◌, ℕ, List, [], ◌∷◌, ◌++◌, Bool, true, false, ◌<◌, ◌≤◌, length, map, ap, ◌∙◌, sym, subst, arith, length-append, append_assoc}
use Rattle.std.specs.Prelude.{All, codes}
use Rattle.std.specs.List.{flat_map}
use Rattle.std.proofs.lemmas.Grind.{flat_map-append}
use Rattle.std.proofs.lemmas.List.{map-append}
use Rattle.std.proofs.lemmas.List.Elements.{All-head, All-tail, All-push}
use Rattle.edit_lookups.specs.Lookups.{HasNo}
use Rattle.index_list.specs.EntryLists.{EntryText, HasEntries, IsListable, entry_fields, entry_record, entry_text, kind_text}
use Rattle.index_list.specs.declared.entry_list.ListedEntry.{ListedEntry}
use Rattle.edit_lookups.proofs.CutLemmas.{HasNo-at, HasNo-append, HasNo-cons, first-cut}

-- a letter is no byte below the letters
letters : (c : ℕ) → c < 97 → (x : ℕ) (xs : List ℕ) → 97 ≤ x → HasNo c xs → HasNo c (x ∷ xs)
letters c low x xs high h = HasNo-cons c x xs (λ e. omega arith) h

-- the kind of a file has only letters
pub kind-free : (c : ℕ) (is_cached : Bool) → c < 97 → HasNo c (kind_text is_cached)
kind-free c true low =
    letters c low 99 (codes "ached") (omega arith) (letters c low 97 (codes "ched") (omega arith)
    (letters c low 99 (codes "hed") (omega arith) (letters c low 104 (codes "ed") (omega arith)
    (letters c low 101 (codes "d") (omega arith)
    (letters c low 100 [] (omega arith) (λ i w e. omega arith))))))
kind-free c false low =
    letters c low 108 (codes "ocal") (omega arith) (letters c low 111 (codes "cal") (omega arith)
    (letters c low 99 (codes "al") (omega arith) (letters c low 97 (codes "l") (omega arith)
    (letters c low 108 [] (omega arith) (λ i w e. omega arith)))))

fields-free : (e : EntryText) → IsListable e → HasNo 0 (entry_fields e)
fields-free e is =
    HasNo-append 0 (kind_text e.is_cached) (9 ∷ (e.below ++ 9 ∷ e.file))
    (kind-free 0 e.is_cached (omega arith))
    (HasNo-cons 0 9 (e.below ++ 9 ∷ e.file) (λ e. omega arith)
    (HasNo-append 0 e.below (9 ∷ e.file) is.no_nul (HasNo-cons 0 9 e.file (λ e. omega arith) is.file)))

-- what the first record of some entries is
pub record FirstRecord (line after : List ℕ) : Type 0 where
  pub first : EntryText
  pub is : IsListable first
  pub fields_are : line ≡ entry_fields first
  pub others : List EntryText
  pub say : HasEntries after others

pub first-record : (rest line after : List ℕ) (ls : List EntryText) → rest ≡ line ++ 0 ∷ after → HasNo 0 line
    → HasEntries rest ls → FirstRecord line after
first-record rest line after [] cut plain h =
    absurd (omega (arith, ap length (sym cut ∙ h.is), length-append line (0 ∷ after)))
first-record rest line after (l ∷ ls) cut plain h =
    let e : line ++ 0 ∷ after ≡ entry_fields l ++ 0 ∷ flat_map entry_record ls =
    sym cut ∙ (h.is ∙ append_assoc (entry_fields l) (0 ∷ []) (flat_map entry_record ls)) in
    let parts = first-cut 0 line after (entry_fields l) (flat_map entry_record ls) plain
    (fields-free l (All-head IsListable l ls h.listable)) e in
    record {
      first = l;
      is = All-head IsListable l ls h.listable;
      fields_are = parts.0;
      others = ls;
      say = record { is = parts.1; listable = All-tail IsListable l ls h.listable };
    }

-- a text without a byte 0 has no record
pub no-record : (rest : List ℕ) (ls : List EntryText) → HasNo 0 rest → HasEntries rest ls → rest ≡ []
no-record rest [] plain h = h.is
no-record rest (l ∷ ls) plain h =
    absurd (HasNo-at 0 (entry_fields l) (flat_map entry_record ls)
    (subst (HasNo 0) (h.is ∙ append_assoc (entry_fields l) (0 ∷ []) (flat_map entry_record ls)) plain))

-- one entry more
texts-more : (items xs : List ListedEntry) (x : ListedEntry) → xs ≡ items ++ x ∷ []
    → map entry_text xs ≡ map entry_text items ++ entry_text x ∷ []
texts-more items xs x e = ap (map entry_text) e ∙ map-append entry_text items (x ∷ [])

pub All-more : (items xs : List ListedEntry) (x : ListedEntry) → xs ≡ items ++ x ∷ []
    → All IsListable (map entry_text items)
    → IsListable (entry_text x) → All IsListable (map entry_text xs)
All-more items xs x e all is =
    subst (All IsListable) (sym (texts-more items xs x e)) (All-push IsListable _ _ all is)

regroup : (a b c : List ℕ) → a ++ (b ++ 0 ∷ c) ≡ (a ++ ((b ++ 0 ∷ []) ++ [])) ++ c
regroup a b c = simp append_assoc

pub text-more : (items xs : List ListedEntry) (x : ListedEntry) (text rest line after : List ℕ)
    → xs ≡ items ++ x ∷ []
    → text ≡ flat_map entry_record (map entry_text items) ++ rest → rest ≡ line ++ 0 ∷ after
    → line ≡ entry_fields (entry_text x) → text ≡ flat_map entry_record (map entry_text xs) ++ after
text-more items xs x text rest line after e so cut is =
    let all : flat_map entry_record (map entry_text xs)
    ≡ flat_map entry_record (map entry_text items) ++ (entry_record (entry_text x) ++ []) =
    ap (flat_map entry_record) (texts-more items xs x e)
    ∙ flat_map-append entry_record (map entry_text items) (entry_text x ∷ []) in
    so ∙ (ap (λ t. flat_map entry_record (map entry_text items) ++ t) (cut ∙ ap (λ t. t ++ 0 ∷ after) is)
    ∙ (regroup (flat_map entry_record (map entry_text items)) (entry_fields (entry_text x)) after
    ∙ ap (λ t. t ++ after) (sym all)))
