-- A header defines each place that its key passes through; what no pair defines, a header does.
use Rattle.std.proofs.Common.{◌≡◌, ℕ, suc, ◌-◌, Bool, true, false, not, ◌&&◌, ◌||◌, nat_lt, if◌then◌else◌, cond, List, [], ◌∷◌, ◌++◌, refl, sym, ap, ◌∙◌, ◌⊎◌, inl, inr, ⊎_elim, true≢false}
use Rattle.std.proofs.lemmas.Bool.{and_parts, and_from, or_left, or_right}
use Rattle.std.specs.List.{list_any}
use Rattle.edit_tree.specs.Statements.{stated_line}
use Rattle.edit_syntax.specs.Grammar.{Statement, pair, header, element_header, empty_line, full_line, Lines, one_line, more_lines, Text}
use Rattle.edit_syntax.proofs.Cases.{by_test}
use Rattle.edit_tree.specs.Assertions.{Place, Step, key, index, at, same_step, same_place, Kind, super, header_kind, array_kind, element_kind, Assertion, asserts, names, is_array, is_array_at, elements_at, last_element_or_self, fronts, header_place, of_statement, prefix_after, of_lines, assertions}
use Rattle.edit_tree.specs.EditBytes.{is_within as is_inside, is_header_of}
use Rattle.edit_tree.proofs.NamedHeads.{has_head, head_append, ArePaired, pair_pairs, statement_heads}
use Rattle.edit_tree.proofs.NamedPairs.{is_paired}
use Rattle.edit_tree.proofs.SamePlace.{same_step_is, same_step_self, same_place_is, same_place_self}

-- something that no pair asserts stands at the place
abbrev pub is_headed_at : List Assertion → Place → Bool
is_headed_at made t = list_any (λ a. not (is_paired a.kind) && same_place a.place t) made

headed_append : (xs ys : List Assertion) (t : Place) → is_headed_at (xs ++ ys) t
    ≡ (is_headed_at xs t || is_headed_at ys t)
headed_append [] ys t = refl
headed_append (x ∷ xs) ys t = go (not (is_paired x.kind) && same_place x.place t) (headed_append xs ys t)
  where
    go : (b : Bool) → is_headed_at (xs ++ ys) t ≡ (is_headed_at xs t || is_headed_at ys t)
        → (b || is_headed_at (xs ++ ys) t) ≡ ((b || is_headed_at xs t) || is_headed_at ys t)
    go true ih = refl
    go false ih = ih

headed_left : (xs ys : List Assertion) (t : Place) → is_headed_at xs t ≡ true
    → is_headed_at (xs ++ ys) t ≡ true
headed_left xs ys t e = headed_append xs ys t ∙ or_left (is_headed_at xs t) (is_headed_at ys t) e

headed_right : (xs ys : List Assertion) (t : Place) → is_headed_at ys t ≡ true
    → is_headed_at (xs ++ ys) t ≡ true
headed_right xs ys t e = headed_append xs ys t ∙ or_right (is_headed_at xs t) (is_headed_at ys t) e

-- ---- places within places

pub inside_self : (q : Place) → is_inside q q ≡ true
inside_self [] = refl
inside_self (s ∷ q) = and_from (same_step s s) (is_inside q q) (same_step_self s) (inside_self q)

pub inside_more : (t q r : Place) → is_inside t q ≡ true → is_inside t (q ++ r) ≡ true
inside_more [] q r e = refl
inside_more (s ∷ t) [] r e = absurd (true≢false (sym e))
inside_more (s ∷ t) (u ∷ q) r e = let h = and_parts (same_step s u) (is_inside t q) e in
    and_from (same_step s u) (is_inside t (q ++ r)) h.0 (inside_more t q r h.1)

-- a place that is first reached by a step is that place
pub inside_step : (t q : Place) (s : Step) → is_inside t q ≡ false → is_inside t (at q s) ≡ true → t ≡ at q s
inside_step [] q s far near = absurd (true≢false far)
inside_step (u ∷ []) [] s far near =
    ap (λ x. x ∷ []) (same_step_is u s (and_parts (same_step u s) true near).0)
inside_step (u ∷ v ∷ t) [] s far near = absurd (true≢false (sym (and_parts (same_step u s) false near).1))
inside_step (u ∷ t) (v ∷ q) s far near =
    let h = and_parts (same_step u v) (is_inside t (at q s)) near in
    let rest : is_inside t q ≡ false = sym (ap (λ b. b && is_inside t q) h.0) ∙ far in
    ap (λ x. x ∷ t) (same_step_is u v h.0) ∙ ap (λ p. v ∷ p) (inside_step t q s rest h.1)

-- ---- a header asserts what it goes through

array_there : (earlier : List Assertion) (q : Place) → nat_lt 0 (elements_at earlier q) ≡ true
    → is_headed_at earlier q ≡ true
array_there [] q e = absurd (true≢false (sym e))
array_there (a ∷ earlier) q e =
    by_test (is_array_at q a)
    (λ h. let b = and_parts (is_array a.kind) (same_place a.place q) h in
    or_left _ _ (and_from (not (is_paired a.kind)) (same_place a.place q) (unpaired a.kind b.0) b.1))
    (λ h. or_right _ _ (array_there earlier q
    (sym (ap (λ c. nat_lt 0 (cond c (suc (elements_at earlier q)) (elements_at earlier q))) h) ∙ e)))
  where
    unpaired : (k : Kind) → is_array k ≡ true → not (is_paired k) ≡ true
    unpaired array_kind h = refl
    unpaired super h = refl
    unpaired header_kind h = refl
    unpaired element_kind h = refl
    unpaired k h = absurd cc

-- the header's own place is reached, or one before it, which this header or an earlier array asserts
through : (earlier : List Assertion) (by q : Place) (n : List ℕ) (ns : List (List ℕ)) (t : Place)
    → is_inside t q ≡ false → is_inside t (header_place earlier q (n ∷ ns)) ≡ true
    → ((is_headed_at earlier t ≡ true) ⊎ (is_headed_at (fronts earlier by q (n ∷ ns)) t ≡ true))
    ⊎ (t ≡ header_place earlier q (n ∷ ns))
through earlier by q n [] t far near = inr (inside_step t q (key n) far near)
through earlier by q n (m ∷ ns) t far near =
    go (nat_lt 0 (elements_at earlier (at q (key n)))) refl
    (λ out. through earlier by (last_element_or_self earlier (at q (key n))) m ns t out near)
  where
    more : (r : Place) → last_element_or_self earlier (at q (key n)) ≡ r → is_inside t r ≡ false
        → (is_inside t (last_element_or_self earlier (at q (key n))) ≡ false
        → ((is_headed_at earlier t ≡ true)
        ⊎ (is_headed_at (fronts earlier by (last_element_or_self earlier (at q (key n))) (m ∷ ns)) t ≡ true))
        ⊎ (t ≡ header_place earlier (last_element_or_self earlier (at q (key n))) (m ∷ ns)))
        → ((is_headed_at earlier t ≡ true) ⊎ (is_headed_at (fronts earlier by q (n ∷ m ∷ ns)) t ≡ true))
        ⊎ (t ≡ header_place earlier q (n ∷ m ∷ ns))
    more r e out ih =
        ⊎_elim (λ h. inl (⊎_elim (λ a. inl a)
        (λ b. inr (or_right (same_place (last_element_or_self earlier (at q (key n))) t) _ b)) h)) (λ h. inr h)
        (ih (ap (λ z. is_inside t z) e ∙ out))

    here : (r : Place) → last_element_or_self earlier (at q (key n)) ≡ r → t ≡ r
        → is_headed_at (fronts earlier by q (n ∷ m ∷ ns)) t ≡ true
    here r e same =
        or_left (same_place (last_element_or_self earlier (at q (key n))) t) _ (ap (λ z. same_place z t) (e ∙ sym same) ∙
        same_place_self t)

    go : (b : Bool) → nat_lt 0 (elements_at earlier (at q (key n))) ≡ b
        → (is_inside t (last_element_or_self earlier (at q (key n))) ≡ false
        → ((is_headed_at earlier t ≡ true)
        ⊎ (is_headed_at (fronts earlier by (last_element_or_self earlier (at q (key n))) (m ∷ ns)) t ≡ true))
        ⊎ (t ≡ header_place earlier (last_element_or_self earlier (at q (key n))) (m ∷ ns)))
        → ((is_headed_at earlier t ≡ true) ⊎ (is_headed_at (fronts earlier by q (n ∷ m ∷ ns)) t ≡ true))
        ⊎ (t ≡ header_place earlier q (n ∷ m ∷ ns))
    go false e ih =
        let r : last_element_or_self earlier (at q (key n)) ≡ at q (key n) =
        ap (λ b. if b then at (at q (key n)) (index (elements_at earlier (at q (key n)) - 1)) else at q
        (key n)) e in
        by_test (is_inside t (at q (key n)))
        (λ h. inl (inr (here (at q (key n)) r (inside_step t q (key n) far h))))
        (λ h. more (at q (key n)) r h ih)
    go true e ih =
        let c = at q (key n) in
        let d = at c (index (elements_at earlier c - 1)) in
        let r : last_element_or_self earlier c ≡ d =
        ap (λ b. if b then at c (index (elements_at earlier c - 1)) else c) e in
        by_test (is_inside t c)
        (λ h. inl (inl (ap (λ z. is_headed_at earlier z) (inside_step t q (key n) far h) ∙
        array_there earlier c e)))
        (λ g. by_test (is_inside t d)
        (λ h. inl (inr (here d r (inside_step t c (index (elements_at earlier c - 1)) g h))))
        (λ h. more d r h ih))

-- where a header names a place by some part of its key, something that no pair asserts stands there
down_statement : (s0 : Step) (ss : Place) (earlier : List Assertion) (prefix : Place) (s : Statement)
    → has_head (of_statement earlier prefix s) (s0 ∷ ss) ≡ true
    → is_headed_at (earlier ++ of_statement earlier prefix s) (s0 ∷ ss) ≡ true
down_statement s0 ss earlier prefix s e =
    go s (sym (statement_heads (s0 ∷ ss) (stated_line earlier prefix [] s [] [] [])) ∙ e)
  where
    joined : (x : Statement) → (is_headed_at earlier (s0 ∷ ss) ≡ true)
        ⊎ (is_headed_at (of_statement earlier prefix x) (s0 ∷ ss) ≡ true)
        → is_headed_at (earlier ++ of_statement earlier prefix x) (s0 ∷ ss) ≡ true
    joined x h = ⊎_elim (λ a. headed_left earlier (of_statement earlier prefix x) (s0 ∷ ss) a)
        (λ b. headed_right earlier (of_statement earlier prefix x) (s0 ∷ ss) b) h

    go : (x : Statement) → is_header_of (s0 ∷ ss) (stated_line earlier prefix [] x [] [] []) ≡ true
        → is_headed_at (earlier ++ of_statement earlier prefix x) (s0 ∷ ss) ≡ true
    go (pair k a b v) h = absurd (true≢false (sym h))
    go (header a k b) h =
        let t : Place = s0 ∷ ss in
        let place = header_place earlier [] (names k) in
        joined (header a k b)
        (⊎_elim (λ z. ⊎_elim (λ x. inl x) (λ y. inr (headed_left (fronts earlier place [] (names k)) _ t y))
        z)
        (λ same. inr (headed_right (fronts earlier place [] (names k)) _ t
        (or_left (same_place place t) false (ap (λ z. same_place z t) (sym same) ∙ same_place_self t))))
        (through earlier place [] _ _ t refl h))
    go (element_header a k b) h =
        let t : Place = s0 ∷ ss in
        let place = header_place earlier [] (names k) in
        let i = elements_at earlier place in
        let last = at place (index i) in
        joined (element_header a k b)
        (by_test (is_inside t place)
        (λ near. ⊎_elim (λ z. ⊎_elim (λ x. inl x)
        (λ y. inr (headed_left (fronts earlier last [] (names k)) _ t y)) z)
        (λ same. inr (headed_right (fronts earlier last [] (names k)) _ t
        (or_left (same_place place t) _ (ap (λ z. same_place z t) (sym same) ∙ same_place_self t))))
        (through earlier last [] _ _ t refl near))
        (λ far. inr (headed_right (fronts earlier last [] (names k)) _ t
        (or_right (same_place place t) _ (or_left (same_place last t) false
        (ap (λ z. same_place z t) (sym (inside_step t place (index i) far h)) ∙ same_place_self t))))))

or_cases : (a b : Bool) → (a || b) ≡ true → (a ≡ true) ⊎ (b ≡ true)
or_cases true b e = inl refl
or_cases false b e = inr e

down_lines : (s0 : Step) (ss : Place) (earlier : List Assertion) (prefix : Place) (ls : Lines)
    → (has_head earlier (s0 ∷ ss) ≡ true → is_headed_at earlier (s0 ∷ ss) ≡ true)
    → has_head (of_lines earlier prefix ls) (s0 ∷ ss) ≡ true
    → is_headed_at (of_lines earlier prefix ls) (s0 ∷ ss) ≡ true
down_lines s0 ss earlier prefix (one_line (empty_line a c)) so e = so e
down_lines s0 ss earlier prefix (one_line (full_line a s b c)) so e =
    ⊎_elim (λ x. headed_left earlier (of_statement earlier prefix s) (s0 ∷ ss) (so x))
    (λ y. down_statement s0 ss earlier prefix s y)
    (or_cases _ _ (sym (head_append earlier (of_statement earlier prefix s) (s0 ∷ ss)) ∙ e))
down_lines s0 ss earlier prefix (more_lines (empty_line a c) l ls) so e =
    down_lines s0 ss earlier prefix ls so e
down_lines s0 ss earlier prefix (more_lines (full_line a s b c) l ls) so e =
    down_lines s0 ss (earlier ++ of_statement earlier prefix s) (prefix_after earlier prefix s) ls
    (λ h. ⊎_elim (λ x. headed_left earlier (of_statement earlier prefix s) (s0 ∷ ss) (so x))
    (λ y. down_statement s0 ss earlier prefix s y)
    (or_cases _ _ (sym (head_append earlier (of_statement earlier prefix s) (s0 ∷ ss)) ∙ h))) e

pub headed_down : (form : Text) (s : Step) (ss : Place) → has_head (assertions form) (s ∷ ss) ≡ true
    → is_headed_at (assertions form) (s ∷ ss) ≡ true
headed_down form s ss e = down_lines s ss [] [] form.lines (λ h. absurd (true≢false (sym h))) e

-- ---- and what is asserted by no pair is asserted by a header

pub inside_trans : (p q r : Place) → is_inside p q ≡ true → is_inside q r ≡ true → is_inside p r ≡ true
inside_trans [] q r e f = refl
inside_trans (s ∷ p) [] r e f = absurd (true≢false (sym e))
inside_trans (s ∷ p) (u ∷ q) [] e f = absurd (true≢false (sym f))
inside_trans (s ∷ p) (u ∷ q) (w ∷ r) e f =
    let a = and_parts (same_step s u) (is_inside p q) e in
    let b = and_parts (same_step u w) (is_inside q r) f in
    and_from (same_step s w) (is_inside p r) (ap (λ z. same_step z w) (same_step_is s u a.0) ∙ b.0)
    (inside_trans p q r a.1 b.1)

pub inside_resolved : (earlier : List Assertion) (q : Place) (n : List ℕ)
    → is_inside q (last_element_or_self earlier (at q (key n))) ≡ true
inside_resolved earlier q n = go (nat_lt 0 (elements_at earlier (at q (key n))))
  where
    go : (b : Bool) → is_inside q
        (if b then at (at q (key n)) (index (elements_at earlier (at q (key n)) - 1)) else at q (key n))
        ≡ true
    go true = inside_more q (at q (key n)) _ (inside_more q q (key n ∷ []) (inside_self q))
    go false = inside_more q q (key n ∷ []) (inside_self q)

pub inside_header : (earlier : List Assertion) (q : Place) (n : List ℕ) (ns : List (List ℕ))
    → is_inside q (header_place earlier q (n ∷ ns)) ≡ true
inside_header earlier q n [] = inside_more q q (key n ∷ []) (inside_self q)
inside_header earlier q n (m ∷ ns) =
    inside_trans q (last_element_or_self earlier (at q (key n))) _ (inside_resolved earlier q n)
    (inside_header earlier (last_element_or_self earlier (at q (key n))) m ns)

fronts_up : (earlier : List Assertion) (by q : Place) (n : List ℕ) (ns : List (List ℕ)) (t : Place)
    → is_headed_at (fronts earlier by q (n ∷ ns)) t ≡ true
    → is_inside t (header_place earlier q (n ∷ ns)) ≡ true
fronts_up earlier by q n [] t e = absurd (true≢false (sym e))
fronts_up earlier by q n (m ∷ ns) t e =
    let r = last_element_or_self earlier (at q (key n)) in
    ⊎_elim (λ x. ap (λ z. is_inside z (header_place earlier r (m ∷ ns))) (sym (same_place_is r t x)) ∙
    inside_header earlier r m ns)
    (λ y. fronts_up earlier by r m ns t y) (or_cases (same_place r t) _ e)

paired_not_headed : (xs : List Assertion) (t : Place) → ArePaired xs → is_headed_at xs t ≡ false
paired_not_headed [] t h = refl
paired_not_headed (x ∷ xs) t h =
    ap (λ b. (not b && same_place x.place t) || is_headed_at xs t) h.0 ∙ paired_not_headed xs t h.1

or_none : (b : Bool) → (b || false) ≡ b
or_none true = refl
or_none false = refl

same_inside : (q t : Place) → same_place q t ≡ true → is_inside t q ≡ true
same_inside q t e = ap (λ z. is_inside z q) (sym (same_place_is q t e)) ∙ inside_self q

up_statement : (earlier : List Assertion) (prefix : Place) (s : Statement) (t : Place)
    → is_headed_at (of_statement earlier prefix s) t ≡ true
    → has_head (of_statement earlier prefix s) t ≡ true
up_statement earlier prefix (pair k a b v) t e =
    absurd (true≢false (sym e ∙ paired_not_headed _ t (pair_pairs false prefix k v)))
up_statement earlier prefix (header a k b) t e =
    let place = header_place earlier [] (names k) in
    statement_heads t (stated_line earlier prefix [] (header a k b) [] [] [])
    ∙ ⊎_elim (λ x. fronts_up earlier place [] _ _ t x)
    (λ y. same_inside place t (sym (or_none (same_place place t)) ∙ y))
    (or_cases _ _ (sym (headed_append (fronts earlier place [] (names k))
    (asserts place place header_kind ∷ []) t) ∙ e))
up_statement earlier prefix (element_header a k b) t e =
    let place = header_place earlier [] (names k) in
    let i = elements_at earlier place in
    let last = at place (index i) in
    statement_heads t (stated_line earlier prefix [] (element_header a k b) [] [] [])
    ∙ ⊎_elim (λ x. inside_more t place (index i ∷ []) (fronts_up earlier last [] _ _ t x))
    (λ y. ⊎_elim (λ z. inside_more t place (index i ∷ []) (same_inside place t z))
    (λ w. same_inside last t (sym (or_none (same_place last t)) ∙ w))
    (or_cases (same_place place t) (same_place last t || false) y))
    (or_cases _ _ (sym (headed_append (fronts earlier last [] (names k))
    (asserts last place array_kind ∷ asserts last last element_kind ∷ []) t) ∙ e))

up_joined : (earlier : List Assertion) (prefix : Place) (s : Statement) (t : Place)
    → (is_headed_at earlier t ≡ true → has_head earlier t ≡ true)
    → is_headed_at (earlier ++ of_statement earlier prefix s) t ≡ true
    → has_head (earlier ++ of_statement earlier prefix s) t ≡ true
up_joined earlier prefix s t so e =
    head_append earlier (of_statement earlier prefix s) t
    ∙ ⊎_elim (λ x. or_left _ _ (so x)) (λ y. or_right _ _ (up_statement earlier prefix s t y))
    (or_cases _ _ (sym (headed_append earlier (of_statement earlier prefix s) t) ∙ e))

up_lines : (earlier : List Assertion) (prefix : Place) (ls : Lines) (t : Place)
    → (is_headed_at earlier t ≡ true → has_head earlier t ≡ true)
    → is_headed_at (of_lines earlier prefix ls) t ≡ true → has_head (of_lines earlier prefix ls) t ≡ true
up_lines earlier prefix (one_line (empty_line a c)) t so e = so e
up_lines earlier prefix (one_line (full_line a s b c)) t so e = up_joined earlier prefix s t so e
up_lines earlier prefix (more_lines (empty_line a c) l ls) t so e = up_lines earlier prefix ls t so e
up_lines earlier prefix (more_lines (full_line a s b c) l ls) t so e =
    up_lines (earlier ++ of_statement earlier prefix s) (prefix_after earlier prefix s) ls t
    (λ h. up_joined earlier prefix s t so h) e

pub headed_up : (form : Text) (t : Place) → is_headed_at (assertions form) t ≡ true
    → has_head (assertions form) t ≡ true
headed_up form t e = up_lines [] [] form.lines t (λ h. absurd (true≢false (sym h))) e
