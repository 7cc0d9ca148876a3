-- The innermost value around a place: the last one, in the order of the text, that is above the place.
use Rattle.std.proofs.Common.{◌≡◌, Bool, true, false, not, ◌&&◌, if◌then◌else◌, List, [], ◌∷◌, Option, None, Some, refl, sym, ap, ◌∙◌, inl, inr, true≢false}
use Rattle.edit_syntax.specs.Grammar.{Text}
use Rattle.edit_syntax.proofs.Cases.{by_test}
use Rattle.edit_syntax.proofs.Members.{Among, among_all, among_map}
use Rattle.edit_tree.specs.Assertions.{Place, Step, at, same_step, same_place, assertions, AreCompatible}
use Rattle.edit_tree.specs.EditBytes.{is_within, first_of, last_result}
use Rattle.edit_tree.specs.RemovedBytes.{is_around, innermost}
use Rattle.edit_tree.specs.Tree.{is_value_at}
use Rattle.edit_tree.specs.Written.{PlacedValue, values}
use Rattle.edit_tree.proofs.Choices.{last_nothing}
use Rattle.edit_tree.proofs.RisingValues.{Rising, values_rise}
use Rattle.edit_tree.proofs.SamePlace.{same_place_is}
use Rattle.edit_tree.proofs.SamePlaces.{within_same}
use Rattle.edit_tree.proofs.UniqueValues.{places, listed_value}

-- ---- places

-- above a place with a step more is what is above the place, and the place itself
above_at : (q p : Place) (s : Step) → (is_within q (at p s) && not (same_place q (at p s))) ≡ is_within q p
above_at [] [] s = refl
above_at [] (x ∷ p) s = refl
above_at (y ∷ []) [] s = go (same_step y s)
  where
    go : (b : Bool) → ((b && true) && not (b && true)) ≡ false
    go true = refl
    go false = refl
above_at (y ∷ z ∷ q) [] s = go (same_step y s)
  where
    go : (b : Bool) → ((b && false) && not (b && false)) ≡ false
    go true = refl
    go false = refl
above_at (y ∷ q) (x ∷ p) s = go (same_step y x) (above_at q p s)
  where
    go : (b : Bool) → (is_within q (at p s) && not (same_place q (at p s))) ≡ is_within q p
        → ((b && is_within q (at p s)) && not (b && same_place q (at p s))) ≡ (b && is_within q p)
    go true e = e
    go false e = refl

above_root : (q : Place) → (is_within q [] && not (same_place q [])) ≡ false
above_root [] = refl
above_root (y ∷ q) = refl

-- ---- values

abbrev around : Place → PlacedValue → Option PlacedValue
around gone w = if is_around gone w then Some w else None

around_not : (gone : Place) (w : PlacedValue) → is_around gone w ≡ false → around gone w ≡ None
around_not gone w e = ap (λ (b : Bool). if b then Some w else None) e

last_alike : (f g : PlacedValue → Option PlacedValue) (ws : List PlacedValue)
    → ((w : PlacedValue) → Among w ws → f w ≡ g w)
    → last_result f ws ≡ last_result g ws
last_alike f g [] h = refl
last_alike f g (w ∷ ws) h =
    ap (λ (o : Option PlacedValue). first_of (o ∷ f w ∷ [])) (last_alike f g ws (λ v m. h v (inr m)))
    ∙ ap (λ (o : Option PlacedValue). first_of (last_result g ws ∷ o ∷ [])) (h w (inl refl))

-- nothing is around the root
pub none_around : (form : Text) → innermost [] form ≡ None
none_around form =
    last_nothing (around []) (values form) (λ w m. around_not [] w (above_root w.place))

-- where no value stands, the innermost one around what is below is that around the place
pub same_around : (form : Text) (p : Place) (s : Step) → is_value_at form p ≡ false
    → innermost (at p s) form ≡ innermost p form
same_around form p s none =
    last_alike (around (at p s)) (around p) (values form)
    (λ w m. ap (λ (b : Bool). if b then Some w else None)
    (above_at w.place p s
    ∙ sym (ap (λ (b : Bool). is_within w.place p && not b) (other w m) ∙ yes (is_within w.place p))))
  where
    other : (w : PlacedValue) → Among w (values form) → same_place w.place p ≡ false
    other w m =
        by_test (same_place w.place p)
        (λ h. absurd (true≢false
        (sym (listed_value form w m) ∙ ap (is_value_at form) (same_place_is w.place p h) ∙ none)))
        (λ h. h)

    yes : (b : Bool) → (b && true) ≡ b
    yes true = refl
    yes false = refl

found_last : (p : Place) (s : Step) (ws : List PlacedValue) (w : PlacedValue) → Rising (places ws)
    → Among w ws
    → w.place ≡ p → last_result (around (at p s)) ws ≡ Some w
found_last p s [] w up m e = absurd m
found_last p s (x ∷ ws) w up (inr m) e =
    ap (λ (o : Option PlacedValue). first_of (o ∷ around (at p s) x ∷ [])) (found_last p s ws w up.1 m e)
found_last p s (x ∷ ws) w up (inl same) e =
    let there : x.place ≡ p = ap (λ (v : PlacedValue). v.place) (sym same) ∙ e in
    let none : last_result (around (at p s)) ws ≡ None =
    last_nothing (around (at p s)) ws (λ u m. around_not (at p s) u
    (above_at u.place p s ∙ ap (is_within u.place) (sym there)
    ∙ among_all (λ q. is_within q x.place ≡ false) u.place (places ws) up.0
    (among_map (λ (v : PlacedValue). v.place) u ws m))) in
    let here : is_around (at p s) x ≡ true =
    above_at x.place p s ∙ ap (λ (q : Place). is_within q p) there ∙ within_same p in
    ap (λ (o : Option PlacedValue). first_of (o ∷ around (at p s) x ∷ [])) none
    ∙ ap (λ (b : Bool). first_of ((if b then Some x else None) ∷ [])) here ∙ ap Some (sym same)

-- where a value stands, it is the innermost one around what is one step below
pub value_around : (form : Text) (p : Place) (s : Step) (w : PlacedValue) → AreCompatible (assertions form)
    → Among w (values form) → w.place ≡ p → innermost (at p s) form ≡ Some w
value_around form p s w clash m e = found_last p s (values form) w (values_rise form clash) m e
