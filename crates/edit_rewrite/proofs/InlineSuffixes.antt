-- Where a member is inserted into an inline table of a text.
use Rattle.std.proofs.Common.{◌≡◌, ℕ, ◌-◌, ◌+◌, ◌<◌, Bool, true, false, cond, List, [], ◌∷◌, ◌++◌, length, drop, get_or, Option, Some, None, refl, sym, ap, ap₂, ◌∙◌, ◌⊎◌, inl, inr, length-append, arith}
use Rattle.std.specs.Prelude.{IsUtf8}
use Rattle.std.proofs.lemmas.Bool.Decides.{nat_tests}
use Rattle.std.proofs.lemmas.Str.{IsCharBoundary-after_ascii}
use Rattle.edit_syntax.specs.Characters.{comma, left_brace, right_brace, is_blank}
use Rattle.edit_syntax.specs.Strings.{Key, lf, crlf}
use Rattle.edit_syntax.specs.Grammar.{Between, blank, break, remark, gap, IsGap, Value, value, Members, no_members, last_member, member, members, AreMembers, Text}
use Rattle.edit_syntax.specs.Reading.{past_gap}
use Rattle.edit_syntax.proofs.ListElements.{get_seam}
use Rattle.edit_syntax.proofs.Members.{Among}
use Rattle.edit_tree.specs.Assertions.{Place, same_place, AreCompatible, assertions}
use Rattle.edit_tree.specs.EditBytes.{Splice, first_of, first_result, behind_last, inline_grown, in_inline}
use Rattle.edit_tree.specs.Slots.{Slot, slots, of_members}
use Rattle.edit_tree.specs.SlotTexts.{TableAt}
use Rattle.edit_rewrite.specs.StatementOffsets.{IsSuffix}
use Rattle.edit_tree.specs.Written.{PlacedValue, values}
use Rattle.edit_tree.proofs.Ends.{Ends, ends_one, ends_pair, ends_gap, ends_value}
use Rattle.edit_rewrite.proofs.MemberTurns.{folded, members_come}
use Rattle.edit_tree.proofs.SamePlace.{same_place_self, same_place_is}
use Rattle.edit_rewrite.proofs.StatementSuffixes.{Starts, suffix_of}
use Rattle.edit_tree.proofs.UniqueValues.{values_unique}

-- ---- behind the last member

-- the text behind the value of the last member so far
abbrev pub past_value : List ℕ → Slot → List ℕ → List ℕ
past_value last s behind = behind

members_past : (k : Key) (a b : List ℕ) (v : Value) (c d : List Between) (ms : Members) (rest : List ℕ)
    → folded past_value (gap c (comma ∷ gap d (slots (of_members ms) rest))) (of_members ms) rest
    ≡ behind_last (member k a b v c d ms) rest
members_past k a b v c d no_members rest = refl
members_past k a b v c d (last_member l x y w e) rest = refl
members_past k a b v c d (member l x y w e f ms) rest = members_past l x y w e f ms rest

last_past : (ms : Members) (rest : List ℕ)
    → folded past_value (slots (of_members ms) rest) (of_members ms) rest ≡ behind_last ms rest
last_past no_members rest = refl
last_past (last_member k a b v c) rest = refl
last_past (member k a b v c d ms) rest = members_past k a b v c d ms rest

-- what the loop over the members comes to
pub table_past : (text table : List ℕ) (g : List Between) (ms : Members) (after rest : List ℕ)
    → TableAt text table g ms after → rest ≡ past_gap (drop 1 table)
    → folded past_value rest (of_members ms) (right_brace ∷ after) ≡ behind_last ms (right_brace ∷ after)
table_past text table g ms after rest h e =
    ap (λ (x : List ℕ). folded past_value x (of_members ms) (right_brace ∷ after))
    (e ∙ members_come text table g ms after h) ∙ last_past ms (right_brace ∷ after)

-- ---- offsets

blank_low : (b : ℕ) → is_blank b ≡ true → b < 128
blank_low b e = grind (arith, nat_tests)

-- a gap begins with a character of ASCII, where what follows it does
pub gap_starts : (g : List Between) (rest : List ℕ) → IsGap g → Starts rest → Starts (gap g rest)
gap_starts [] rest h st = st
gap_starts (blank b ∷ g) rest h st = blank_low b h.0
gap_starts (break lf ∷ g) rest h st = omega arith
gap_starts (break crlf ∷ g) rest h st = omega arith
gap_starts (remark t e ∷ g) rest h st = omega arith

ends_members : (bytes : List ℕ) (ms : Members) (rest : List ℕ) → Ends bytes (members ms rest)
    → Ends bytes rest
ends_members bytes no_members rest e = e
ends_members bytes (last_member k a b v c) rest e =
    ends_gap bytes c rest (ends_value bytes v _ (ends_pair bytes k a b (value v (gap c rest)) e))
ends_members bytes (member k a b v c d ms) rest e =
    ends_members bytes ms rest
    (ends_gap bytes d _ (ends_one bytes comma _ (ends_gap bytes c _ (ends_value bytes v _
    (ends_pair bytes k a b (value v (gap c (comma ∷ gap d (members ms rest)))) e)))))

ends_behind : (bytes : List ℕ) (ms : Members) (rest : List ℕ) → Ends bytes (members ms rest)
    → Ends bytes (behind_last ms rest)
ends_behind bytes no_members rest e = e
ends_behind bytes (last_member k a b v c) rest e =
    ends_value bytes v _ (ends_pair bytes k a b (value v (gap c rest)) e)
ends_behind bytes (member k a b v c d no_members) rest e =
    ends_value bytes v _ (ends_pair bytes k a b (value v (gap c (comma ∷ gap d rest))) e)
ends_behind bytes (member k a b v c d (last_member l x y w g)) rest e =
    ends_behind bytes (last_member l x y w g) rest
    (ends_gap bytes d _ (ends_one bytes comma _ (ends_gap bytes c _ (ends_value bytes v _
    (ends_pair bytes k a b (value v (gap c (comma ∷ gap d (members (last_member l x y w g) rest)))) e)))))
ends_behind bytes (member k a b v c d (member l x y w g h ms)) rest e =
    ends_behind bytes (member l x y w g h ms) rest
    (ends_gap bytes d _ (ends_one bytes comma _ (ends_gap bytes c _ (ends_value bytes v _
    (ends_pair bytes k a b (value v (gap c (comma ∷ gap d (members (member l x y w g h ms) rest)))) e)))))

behind_starts : (ms : Members) (rest : List ℕ) → AreMembers ms → Starts rest → Starts (behind_last ms rest)
behind_starts no_members rest h st = st
behind_starts (last_member k a b v c) rest h st = gap_starts c rest h.4 st
behind_starts (member k a b v c d no_members) rest h st = gap_starts c _ h.4 (omega arith)
behind_starts (member k a b v c d (last_member l x y w g)) rest h st =
    behind_starts (last_member l x y w g) rest h.6 st
behind_starts (member k a b v c d (member l x y w g f ms)) rest h st =
    behind_starts (member l x y w g f ms) rest h.6 st

-- behind a character of ASCII
suffix_behind : (bytes s : List ℕ) (b : ℕ) → b < 128 → IsUtf8 bytes → Ends bytes (b ∷ s) → IsSuffix bytes s
suffix_behind bytes s b low u ends =
    let whole = ap length ends.1 ∙ length-append ends.0 (b ∷ s) in
    let at : length bytes - length s ≡ length ends.0 + 1 = omega arith in
    let here : get_or bytes (length ends.0) 0 ≡ b =
    ap (λ (l : List ℕ). get_or l (length ends.0) 0) ends.1 ∙ get_seam ends.0 s b in
    let past = ends_one bytes b s ends in
    record {
      front = past.0;
      seam = past.1;
      fits = rw at (IsCharBoundary-after_ascii bytes (length ends.0) u (omega arith) (omega arith));
    }

-- what follows its opening brace, its last member, its members
pub record InlineSuffixes (bytes : List ℕ) (g : List Between) (ms : Members) (after : List ℕ) : Type 0 where
  pub opened : IsSuffix bytes (gap g (members ms (right_brace ∷ after)))
  pub last : IsSuffix bytes (behind_last ms (right_brace ∷ after))
  pub close : IsSuffix bytes (right_brace ∷ after)

pub inline_suffixes : (bytes table : List ℕ) (g : List Between) (ms : Members) (after : List ℕ) → IsUtf8 bytes
    → TableAt bytes table g ms after → InlineSuffixes bytes g ms after
inline_suffixes bytes table g ms after u h =
    let ends : Ends bytes (left_brace ∷ gap g (members ms (right_brace ∷ after))) =
    (h.within.0, h.within.1 ∙ ap (λ (x : List ℕ). h.within.0 ++ x) h.spelled) in
    let gapped = ends_one bytes left_brace _ ends in
    let inner = ends_gap bytes g (members ms (right_brace ∷ after)) gapped in
    let close = ends_members bytes ms (right_brace ∷ after) inner in
    record {
      opened = suffix_behind bytes _ left_brace (omega arith) u ends;
      last = suffix_of bytes _ (ends_behind bytes ms (right_brace ∷ after) inner)
          (behind_starts ms (right_brace ∷ after) h.valid.1 (omega arith));
      close = suffix_of bytes (right_brace ∷ after) close (omega arith);
    }

-- ---- the row of inline tables

only_one : {A : Type 0} (o : Option A) → first_of (o ∷ []) ≡ o
only_one None = refl
only_one (Some x) = refl

same_twice : {A : Type 0} (o : Option A) → first_of (o ∷ o ∷ []) ≡ o
same_twice None = refl
same_twice (Some x) = refl

-- what is made of one, where nothing else is made of any other
first_same : {A B : Type 0} (f : A → Option B) (c : Option B) (xs : List A)
    → ((x : A) → Among x xs → (f x ≡ None) ⊎ (f x ≡ c)) → (first_result f xs ≡ None) ⊎ (first_result f xs ≡ c)
first_same f c [] all = inl refl
first_same {A} {B} f c (x ∷ xs) all = go (all x (inl refl)) (first_same f c xs (λ y m. all y (inr m)))
  where
    go : (f x ≡ None) ⊎ (f x ≡ c) → (first_result f xs ≡ None) ⊎ (first_result f xs ≡ c)
        → (first_result f (x ∷ xs) ≡ None) ⊎ (first_result f (x ∷ xs) ≡ c)
    go (inl e) (inl h) = inl (ap₂ (λ (a b : Option B). first_of (a ∷ b ∷ [])) e h)
    go (inl e) (inr h) =
        inr (ap (λ (a : Option B). first_of (a ∷ first_result f xs ∷ [])) e ∙ only_one (first_result f xs) ∙ h)
    go (inr e) (inl h) = inr (ap₂ (λ (a b : Option B). first_of (a ∷ b ∷ [])) e h ∙ none_behind c)
      where
        none_behind : (o : Option B) → first_of (o ∷ None ∷ []) ≡ o
        none_behind None = refl
        none_behind (Some y) = refl
    go (inr e) (inr h) = inr (ap₂ (λ (a b : Option B). first_of (a ∷ b ∷ [])) e h ∙ same_twice c)

first_found : {A B : Type 0} (f : A → Option B) (xs : List A) (x : A) (y : B) → Among x xs → f x ≡ Some y
    → first_result f xs ≡ None → ⊥
first_found f [] x y m e none = m
first_found {A} {B} f (z ∷ zs) x y (inl h) e none =
    let some : f z ≡ Some y = ap f (sym h) ∙ e in
    let clash : Some y ≡ None = sym (ap (λ (o : Option B). first_of (o ∷ first_result f zs ∷ [])) some) ∙
    none in
    absurd cc
first_found {A} {B} f (z ∷ zs) x y (inr m) e none =
    first_found f zs x y m e (rest (f z) none)
  where
    rest : (o : Option B) → first_of (o ∷ first_result f zs ∷ []) ≡ None → first_result f zs ≡ None
    rest None h = sym (only_one (first_result f zs)) ∙ h
    rest (Some b) h = absurd cc

-- into the inline table at the place
pub inline_row : (form : Text) (place : Place) (m : List ℕ) (w : PlacedValue) (s : Splice)
    → AreCompatible (assertions form)
    → Among w (values form) → w.place ≡ place → inline_grown m w.value w.after ≡ Some s
    → in_inline place m form ≡ Some s
inline_row form place m w s clash among there grown = pick (first_same grow (Some s) (values form) each)
  where
    grow : PlacedValue → Option Splice
    grow v = cond (same_place v.place place) (inline_grown m v.value v.after) None

    at_w : grow w ≡ Some s
    at_w =
        ap (λ (b : Bool). cond b (inline_grown m w.value w.after) None)
        (ap (λ (p : Place). same_place p place) there ∙ same_place_self place) ∙ grown

    each : (v : PlacedValue) → Among v (values form) → (grow v ≡ None) ⊎ (grow v ≡ Some s)
    each v listed = go (same_place v.place place) refl
      where
        go : (b : Bool) → same_place v.place place ≡ b → (grow v ≡ None) ⊎ (grow v ≡ Some s)
        go true e =
            let same : v ≡ w = values_unique form v w clash listed among
            (same_place_is v.place place e ∙ sym there) in
            inr (ap grow same ∙ at_w)
        go false e = inl (ap (λ (b : Bool). cond b (inline_grown m v.value v.after) None) e)

    pick : (first_result grow (values form) ≡ None) ⊎ (first_result grow (values form) ≡ Some s)
        → in_inline place m form ≡ Some s
    pick (inl none) = absurd (first_found grow (values form) w s among at_w none)
    pick (inr e) = e
