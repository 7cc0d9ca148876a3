-- The loop over the members of an inline table up to the last one whose key passes through a place.
use Rattle.std.proofs.Common.{◌≡◌, ℕ, List, [], ◌∷◌, length, Option, None, Some, option_map, refl, ap, ap₂, ◌∙◌}
use Rattle.std.specs.Option.{option_or}
use Rattle.edit_syntax.specs.Characters.{comma}
use Rattle.edit_syntax.specs.Grammar.{gap, Members, no_members, last_member, member, members}
use Rattle.edit_rewrite.specs.declared.inner.Inner.{Inner}
use Rattle.edit_tree.specs.Assertions.{Place}
use Rattle.edit_tree.specs.EditBytes.{first_of, last_result}
use Rattle.edit_rewrite.specs.Inner.{inner_of, inner_in}
use Rattle.edit_tree.specs.Slots.{Slot, of_members}
use Rattle.edit_tree.specs.Statements.{placed_pair, paired_members}
use Rattle.edit_rewrite.proofs.MemberTurns.{folded}
use Rattle.edit_rewrite.proofs.SlotLaws.{members_text}

-- the last one so far
abbrev pub inner_turn : Place → Place → Option Inner → Slot → List ℕ → Option Inner
inner_turn place above made it behind = option_or (inner_in place above it behind) made

or_last : {A : Type 0} (o p : Option A) → option_or o p ≡ option_or (first_of (None ∷ o ∷ [])) p
or_last None p = refl
or_last (Some x) p = refl

or_more : {A : Type 0} (l o p : Option A) → option_or l (option_or o p) ≡ option_or (first_of (l ∷ o ∷ [])) p
or_more None None p = refl
or_more None (Some x) p = refl
or_more (Some y) o p = refl

pub last_folded : (place above : Place) (ms : Members) (rest : List ℕ) (made : Option Inner)
    → folded (inner_turn place above) made (of_members ms) rest
    ≡ option_or (last_result (inner_of place) (paired_members above ms rest)) made
last_folded place above no_members rest made = refl
last_folded place above (last_member k a b v c) rest made =
    or_last (inner_of place (placed_pair above k a b v (gap c rest))) made
last_folded place above (member k a b v c d ms) rest made =
    let behind = gap c (comma ∷ gap d (members ms rest)) in
    let here = inner_of place (placed_pair above k a b v behind) in
    ap (λ (x : List ℕ). folded (inner_turn place above)
    (option_or (inner_of place (placed_pair above k a b v (gap c (comma ∷ gap d x)))) made) (of_members ms) rest)
    (members_text ms rest)
    ∙ last_folded place above ms rest (option_or here made)
    ∙ or_more (last_result (inner_of place) (paired_members above ms rest)) here made

pub or_none : {A : Type 0} (o : Option A) → option_or o None ≡ o
or_none None = refl
or_none (Some x) = refl

-- a member whose key goes on behind the place, by how many bytes follow
pub inner_made : (s behind from rest : List ℕ) (front : Option ℕ) (o : Option (List ℕ)) (r : Option Inner)
    → r ≡ option_map (λ n. record { from = length s; front = n; behind = length behind }) front
    → front ≡ option_map length o → s ≡ from → behind ≡ rest
    → r ≡ option_map (λ suffix. record { from = length from; front = length suffix; behind = length rest }) o
inner_made s behind from rest front o r e f is_s is_b =
    e ∙ ap (option_map (λ n. made s behind n)) f ∙
    ap₂ (λ (x y : List ℕ). option_map (λ n. made x y n) (option_map length o)) is_s is_b
    ∙ go o
  where
    made : List ℕ → List ℕ → ℕ → Inner
    made x y n = record { from = length x; front = n; behind = length y }

    go : (p : Option (List ℕ)) → option_map (λ n. made from rest n) (option_map length p)
        ≡ option_map (λ (suffix : List ℕ). made from rest (length suffix)) p
    go None = refl
    go (Some x) = refl
