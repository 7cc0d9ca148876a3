-- What defines a place: each place on the path to one that a statement names is defined on that path.
use Rattle.std.proofs.Common.{◌≡◌, ℕ, Bool, true, false, not, List, [], ◌∷◌, ◌++◌, map, refl, sym, ap, subst, ◌∙◌, inl, inr, true≢false, append_assoc}
use Rattle.std.specs.List.{AllByRecursion}
use Rattle.edit_syntax.specs.Grammar.{Value}
use Rattle.edit_syntax.proofs.Cases.{by_test}
use Rattle.edit_syntax.proofs.Members.{Among}
use Rattle.edit_tree.specs.Assertions.{Place, Step, key, index, at, Kind, dotted, leaf, Assertion, asserts, named, of_key, is_array}
use Rattle.edit_tree.specs.EditBytes.{is_within}
use Rattle.edit_tree.proofs.HeadedPlaces.{inside_self, inside_more, inside_trans, inside_step}
use Rattle.edit_tree.proofs.PairedPlaces.{owns}
use Rattle.edit_tree.proofs.SamePlace.{last_same}

-- asserted outside values
abbrev pub is_outer : Kind → Bool
is_outer (dotted w) = not w
is_outer (leaf v) = false
is_outer _ = true

abbrev pub is_value : Kind → Bool
is_value (leaf v) = true
is_value _ = false

-- a place is asserted by one on the way to another, an element by itself
pub record Ground (made : List Assertion) (by : Place) (outer : Bool) (q : Place) : Type 0 where
  pub one : Assertion
  pub among : Among one made
  pub here : one.place ≡ q
  pub within : is_within one.by by ≡ true
  pub own : (p : Place) (i : ℕ) → q ≡ at p (index i) → one.by ≡ q
  pub plain : outer ≡ true → is_outer one.kind ≡ true

-- so is each place on the way
abbrev pub Paved : List Assertion → Place → Bool → Place → Type 0
Paved made by outer p = (q : Place) → (q ≡ [] → ⊥) → is_within q p ≡ true → Ground made by outer q

-- a value stands at the place or on the way to it
abbrev pub InValue : List Assertion → Place → Type 0
InValue made p = (b : Assertion) × Among b made × (is_value b.kind ≡ true) × (is_within b.place p ≡ true)

-- what an assertion says of the place that its statement names
pub record Made (made : List Assertion) (a : Assertion) : Type 0 where
  pub upto : is_within a.place a.by ≡ true
  pub owner : owns a.kind ≡ true → a.by ≡ a.place
  pub goes : owns a.kind ≡ false → (s : Step) × (is_within (at a.place s) a.by ≡ true)
  pub array : is_array a.kind ≡ true → (i : ℕ) × (a.by ≡ at a.place (index i))
  pub paved : Paved made a.by false a.by
  pub inner : a.kind ≡ dotted true → InValue made a.place
  pub outer : is_outer a.kind ≡ true → Paved made a.by true a.place

abbrev pub AreMade : List Assertion → List Assertion → Type 0
AreMade made xs = AllByRecursion (Made made) xs

abbrev pub Part : List Assertion → List Assertion → Type 0
Part xs made = (b : Assertion) → Among b xs → Among b made

pub among_left : (xs ys : List Assertion) (b : Assertion) → Among b xs → Among b (xs ++ ys)
among_left [] ys b m = absurd m
among_left (x ∷ xs) ys b (inl e) = inl e
among_left (x ∷ xs) ys b (inr m) = inr (among_left xs ys b m)

pub among_right : (xs ys : List Assertion) (b : Assertion) → Among b ys → Among b (xs ++ ys)
among_right [] ys b m = m
among_right (x ∷ xs) ys b m = inr (among_right xs ys b m)

pub left_part : (xs ys made : List Assertion) → Part (xs ++ ys) made → Part xs made
left_part xs ys made h b m = h b (among_left xs ys b m)

pub right_part : (xs ys made : List Assertion) → Part (xs ++ ys) made → Part ys made
right_part xs ys made h b m = h b (among_right xs ys b m)

pub both_made : (made xs ys : List Assertion) → AreMade made xs → AreMade made ys → AreMade made (xs ++ ys)
both_made made [] ys a b = b
both_made made (x ∷ xs) ys a b = (a.0, both_made made xs ys a.1 b)

-- ---- ways

within_root : (q : Place) → is_within q [] ≡ true → q ≡ []
within_root [] e = refl
within_root (s ∷ q) e = absurd (true≢false (sym e))

pub paved_root : (made : List Assertion) (by : Place) (outer : Bool) → Paved made by outer []
paved_root made by outer q ne e = absurd (ne (within_root q e))

pub paved_at : (made : List Assertion) (by : Place) (outer : Bool) (p : Place) (s : Step)
    → Paved made by outer p
    → Ground made by outer (at p s) → Paved made by outer (at p s)
paved_at made by outer p s way last q ne e =
    by_test (is_within q p) (λ h. way q ne h)
    (λ h. subst (Ground made by outer) (sym (inside_step q p s h e)) last)

pub paved_wider : (made : List Assertion) (by wide : Place) (outer : Bool) (p : Place)
    → is_within by wide ≡ true
    → Paved made by outer p → Paved made wide outer p
paved_wider made by wide outer p low way q ne e =
    let g = way q ne e in
    record {
      one = g.one;
      among = g.among;
      here = g.here;
      within = inside_trans g.one.by by wide g.within low;
      own = g.own;
      plain = g.plain;
    }

pub paved_any : (made : List Assertion) (by : Place) (outer : Bool) (p : Place) → Paved made by outer p
    → Paved made by false p
paved_any made by outer p way q ne e =
    let g = way q ne e in
    record {
      one = g.one;
      among = g.among;
      here = g.here;
      within = g.within;
      own = g.own;
      plain = λ f. absurd (true≢false (sym f));
    }

-- the place of a member is asserted
pub key_ground : (made : List Assertion) (by : Place) (outer : Bool) (p : Place) (n : List ℕ) (b : Assertion)
    → Among b made
    → b.place ≡ at p (key n) → is_within b.by by ≡ true → (outer ≡ true → is_outer b.kind ≡ true)
    → Ground made by outer (at p (key n))
key_ground made by outer p n b m place low plain = record {
  one = b;
  among = m;
  here = place;
  within = low;
  own = λ q i e. absurd (let clash : key n ≡ index i = (last_same p q (key n) (index i) e).1 in cc);
  plain = plain;
}

-- and that of an element, by itself
pub index_ground : (made : List Assertion) (by : Place) (outer : Bool) (p : Place) (i : ℕ) (k : Kind)
    → Among (asserts (at p (index i)) (at p (index i)) k) made → is_within (at p (index i)) by ≡ true
    → (outer ≡ true → is_outer k ≡ true) → Ground made by outer (at p (index i))
index_ground made by outer p i k m low plain = record {
  one = asserts (at p (index i)) (at p (index i)) k;
  among = m;
  here = refl;
  within = low;
  own = λ q j e. refl;
  plain = plain;
}

-- ---- keys

module _ (made : List Assertion) (w : Bool) (by : Place) where
  dotted_way : (p : Place) (n m : List ℕ) (ns : List (List ℕ)) (v : Value) → Paved made by (not w) p
      → Part (of_key w by p (n ∷ m ∷ ns) v) made → Paved made by (not w) (at p (key n))
  dotted_way p n m ns v way h =
      paved_at made by (not w) p (key n) way
      (key_ground made by (not w) p n (asserts by (at p (key n)) (dotted w)) (h _ (inl refl)) refl
      (inside_self by) (λ e. e))

  pub key_paved : (p : Place) (n : List ℕ) (ns : List (List ℕ)) (v : Value) → Paved made by (not w) p
      → Part (of_key w by p (n ∷ ns) v) made → Paved made by false (named p (n ∷ ns))
  key_paved p n [] v way h =
      paved_at made by false p (key n) (paved_any made by (not w) p way)
      (key_ground made by false p n (asserts by (at p (key n)) (leaf v)) (h _ (inl refl)) refl
      (inside_self by) (λ e. absurd (true≢false (sym e))))
  key_paved p n (m ∷ ns) v way h =
      subst (Paved made by false) (append_assoc p (key n ∷ []) (map key (m ∷ ns)))
      (key_paved (at p (key n)) m ns v (dotted_way p n m ns v way h) (λ b x. h b (inr x)))

  pub key_made : (p : Place) (n : List ℕ) (ns : List (List ℕ)) (v : Value) → by ≡ named p (n ∷ ns)
      → Paved made by (not w) p
      → (w ≡ true → InValue made p) → Paved made by false by → Part (of_key w by p (n ∷ ns) v) made
      → AreMade made (of_key w by p (n ∷ ns) v)
  key_made p n [] v e way inside whole h = (
    record {
      upto = ap (is_within (at p (key n))) e ∙ inside_self (at p (key n));
      owner = λ f. e;
      goes = λ f. absurd (true≢false f);
      array = λ f. absurd (true≢false (sym f));
      paved = whole;
      inner = λ f. absurd cc;
      outer = λ f. absurd (true≢false (sym f));
    },
    tt,
  )
  key_made p n (m ∷ ns) v e way inside whole h = (
    record {
      upto = ap (is_within (at p (key n))) on ∙ inside_more (at p (key n)) (at p (key n)) _
          (inside_self (at p (key n)));
      owner = λ f. absurd (true≢false (sym f));
      goes = λ f. (
        key m,
        ap (is_within (at (at p (key n)) (key m))) (on ∙
            sym (append_assoc (at p (key n)) (key m ∷ []) (map key ns)))
            ∙ inside_more (at (at p (key n)) (key m)) (at (at p (key n)) (key m)) _
            (inside_self (at (at p (key n)) (key m))),
      );
      array = λ f. absurd (true≢false (sym f));
      paved = whole;
      inner = λ f. deeper f;
      outer = λ f. subst (λ o. Paved made by o (at p (key n))) f (dotted_way p n m ns v way h);
    },
    key_made (at p (key n)) m ns v on (dotted_way p n m ns v way h) below whole (λ b x. h b (inr x)),
  )
    where
      on : by ≡ named (at p (key n)) (m ∷ ns)
      on = e ∙ sym (append_assoc p (key n ∷ []) (map key (m ∷ ns)))

      below : w ≡ true → InValue made (at p (key n))
      below f = let v = inside f in (v.0, v.1, v.2, inside_more v.0.place p (key n ∷ []) v.3)

      deeper : dotted w ≡ dotted true → InValue made (at p (key n))
      deeper f = below (let t : w ≡ true = cc in t)

-- the last part of a key has its value
pub key_leaf : (w : Bool) (by p : Place) (n : List ℕ) (ns : List (List ℕ)) (v : Value)
    → Among (asserts by (named p (n ∷ ns)) (leaf v)) (of_key w by p (n ∷ ns) v)
key_leaf w by p n [] v = inl refl
key_leaf w by p n (m ∷ ns) v =
    inr (subst (λ q. Among (asserts by q (leaf v)) (of_key w by (at p (key n)) (m ∷ ns) v))
    (append_assoc p (key n ∷ []) (map key (m ∷ ns))) (key_leaf w by (at p (key n)) m ns v))
