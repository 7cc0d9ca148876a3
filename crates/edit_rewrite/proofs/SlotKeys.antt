-- The decoded parts of a member's key, and the elements and members that a place passes through.
use Rattle.std.proofs.Common.{◌≡◌, ℕ, suc, ◌≤◌, Bool, true, false, List, [], ◌∷◌, ◌++◌, length, map, refl, sym, true≢false, ap, ◌∙◌, arith}
use Rattle.std.specs.List.{AllByRecursion}
use Rattle.edit_syntax.specs.Characters.{quote, right_bracket, right_brace, is_blank, All}
use Rattle.edit_syntax.specs.Strings.{Piece, pieces, Part, bare, basic_part, literal_part, part, IsPart, name, basic_text, Dotted, dotted, Key, IsKey}
use Rattle.edit_syntax.specs.Strings as strings
use Rattle.edit_syntax.specs.Grammar.{Between, array, inline, value, IsValue, Elements, no_elements, last_element, element, Members, no_members, last_member, member}
use Rattle.edit_syntax.specs.Depth.{depth}
use Rattle.edit_syntax.specs.SyntaxTokens.{token_of_part, tokens_of_dotted, tokens_of_key}
use Rattle.edit_syntax.proofs.PutBefore.{pieces_rest}
use Rattle.edit_tree.specs.Assertions.{key, index, Place, same_bytes, same_place, names}
use Rattle.edit_tree.specs.EditBytes.{is_within}
use Rattle.edit_tree.specs.RemovedBytes.{elements_left, members_left, value_left}
use Rattle.edit_tree.specs.Slots.{of_elements, of_members, slots_left, enclosed_left, IsEnclosed}
use Rattle.edit_tree.specs.SlotTexts.{AreDecodedAs, Ends}
use Rattle.edit_tree.specs.WalkState.{IsDecodedAt}
use Rattle.edit_tree.proofs.Ends.{ends_past, ends_one, ends_part}
use Rattle.std.specs.Str.{bytes_eq}
use Rattle.std.proofs.lemmas.Slice.Eq.{bytes_eq-Decides}
use Rattle.edit_tree.proofs.SamePlace.{same_bytes_self, same_bytes_is, same_step_self}
use Rattle.edit_rewrite.proofs.SlotLaws.{elements_text, members_text, elements_valid, members_valid}

-- ---- keys

basic_split : (ps : List Piece) (rest : List ℕ) → basic_text ps rest
    ≡ quote ∷ (pieces quote ps [] ++ (quote ∷ rest))
basic_split ps rest = ap (λ (t : List ℕ). quote ∷ t) (pieces_rest quote ps (quote ∷ rest))

part_says : (bytes : List ℕ) (p : Part) (rest : List ℕ) → IsPart p → Ends bytes (part p rest)
    → IsDecodedAt bytes (token_of_part p rest) (name p)
part_says bytes (bare text) rest h ends = (ends.0, text, rest, ends.1, refl, refl, (h.0, h.1, refl))
part_says bytes (basic_part ps) rest h ends = (
  ends.0,
  pieces quote ps [],
  rest,
  ends.1 ∙ ap (λ (t : List ℕ). ends.0 ++ t) (basic_split ps rest),
  ap length (basic_split ps rest),
  refl,
  (ps, h, refl, refl),
)
part_says bytes (literal_part text) rest h ends = (ends.0, text, rest, ends.1, refl, refl, (h, refl))

dotted_said : (bytes : List ℕ) (ds : List Dotted) (rest : List ℕ)
    → AllByRecursion (λ d. All is_blank d.before × All is_blank d.behind × IsPart d.part) ds
    → Ends bytes (dotted ds rest) → AreDecodedAs bytes (tokens_of_dotted ds rest) (map (λ d. name d.part) ds)
dotted_said bytes [] rest h ends = tt
dotted_said bytes (d ∷ ds) rest h ends =
    let here : Ends bytes (part d.part (dotted ds rest)) =
    ends_past bytes d.behind (part d.part (dotted ds rest))
    (ends_one bytes 46 (d.behind ++ part d.part (dotted ds rest))
    (ends_past bytes d.before (46 ∷ (d.behind ++ part d.part (dotted ds rest))) ends)) in (
      part_says bytes d.part (dotted ds rest) h.0.2 here,
      dotted_said bytes ds rest h.1 (ends_part bytes d.part (dotted ds rest) here),
    )

-- the tokens of a key decode to its names
pub key_said : (bytes : List ℕ) (k : Key) (rest : List ℕ) → IsKey k → Ends bytes (strings.key k rest)
    → AreDecodedAs bytes (tokens_of_key k rest) (names k)
key_said bytes k rest h ends = (
  part_says bytes k.first (dotted k.others rest) h.0 ends,
  dotted_said bytes k.others rest h.1 (ends_part bytes k.first (dotted k.others rest) ends),
)

-- ---- places

within_below : (place below q : Place) → is_within (place ++ below) (place ++ q) ≡ is_within below q
within_below [] below q = refl
within_below (s ∷ place) below q = rw (same_step_self s) (within_below place below q)

same_below : (place below q : Place) → same_place (place ++ q) (place ++ below) ≡ same_place q below
same_below [] below q = refl
same_below (s ∷ place) below q = rw (same_step_self s) (same_below place below q)

elements_as : (place below : Place) (i : ℕ) (es : Elements) (rest : List ℕ)
    → elements_left (place ++ below) place i es rest ≡ slots_left below i (of_elements es) rest
elements_as place below i no_elements rest = refl
elements_as place below i (last_element v g) rest = rw (same_below place below (index i ∷ [])) refl
elements_as place below i (element v g h es) rest =
    rw (same_below place below (index i ∷ []), elements_as place below (suc i) es rest) refl

members_as : (place below : Place) (i : ℕ) (ms : Members) (rest : List ℕ)
    → members_left (place ++ below) place ms rest ≡ slots_left below i (of_members ms) rest
members_as place below i no_members rest = refl
members_as place below i (last_member k a b v c) rest = rw (within_below place below (map key (names k))) refl
members_as place below i (member k a b v c d ms) rest =
    rw (within_below place below (map key (names k)), members_as place below (suc i) ms rest) refl

-- ---- values

pub array_enclosed : (g : List Between) (es : Elements) (text : List ℕ) → IsValue (array g es)
    → depth (array g es) ≤ 80 → text ≡ value (array g es) [] → IsEnclosed false g (of_elements es) text
array_enclosed g es text h le e = record {
  between = h.0;
  slots_valid = elements_valid es h.1 (omega arith);
  spelled = rw (elements_text es (right_bracket ∷ [])) e;
}

pub inline_enclosed : (g : List Between) (ms : Members) (text : List ℕ) → IsValue (inline g ms)
    → depth (inline g ms) ≤ 80 → text ≡ value (inline g ms) [] → IsEnclosed true g (of_members ms) text
inline_enclosed g ms text h le e = record {
  between = h.0;
  slots_valid = members_valid ms h.1 (omega arith);
  spelled = rw (members_text ms (right_brace ∷ [])) e;
}

pub array_left : (place below : Place) (g : List Between) (es : Elements)
    → enclosed_left false below g (of_elements es) ≡ value_left (place ++ below) place (array g es) []
array_left place below g es = rw (elements_as place below 0 es (right_bracket ∷ [])) refl

pub inline_left : (place below : Place) (g : List Between) (ms : Members)
    → enclosed_left true below g (of_members ms) ≡ value_left (place ++ below) place (inline g ms) []
inline_left place below g ms = rw (members_as place below 0 ms (right_brace ∷ [])) refl

-- ---- names

-- two texts are the same by std's test where they are by the place's
pub same_bytes_swapped : (a b : List ℕ) → bytes_eq a b ≡ same_bytes b a
same_bytes_swapped a b = go (bytes_eq a b) refl (same_bytes b a) refl
  where
    go : (r : Bool) → bytes_eq a b ≡ r → (q : Bool) → same_bytes b a ≡ q → r ≡ q
    go true e true f = refl
    go false e false f = refl
    go true e false f =
        let same : a ≡ b = (bytes_eq-Decides a b).0 e in
        absurd (true≢false (sym (ap (λ (x : List ℕ). same_bytes b x) same ∙ same_bytes_self b) ∙ f))
    go false e true f = absurd (true≢false (sym ((bytes_eq-Decides a b).1 (sym (same_bytes_is b a f))) ∙ e))
