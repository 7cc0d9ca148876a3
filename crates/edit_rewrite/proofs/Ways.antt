-- The relation of a place to the target after one more step.
use Rattle.std.proofs.Common.{◌≡◌, ℕ, suc, ◌+◌, ◌-◌, ◌≤◌, ◌<◌, Bool, true, false, cond, ◌&&◌, get_or, List, [], ◌∷◌, ◌++◌, length, take, Option, refl, sym, ap, subst, ◌∙◌, arith, eq-eqb, true≢false, String, Global}
use Rattle.std.specs.Prelude.{slice_get, nat_lt, option_map, string_bytes}
use Rattle.std.proofs.lemmas.Bool.{ne_eqb}
use Rattle.std.proofs.lemmas.Option.{slice_get-map, slice_get_past, slice_get_read}
use Rattle.std.proofs.lemmas.List.{length-map}
use Rattle.edit_tree.specs.declared.place.Step.{Step as WrittenStep}
use Rattle.edit_tree.specs.declared.place.Step.TheVariants.{Key, Index}
use Rattle.edit_document.specs.Items.{step_view, place_view}
use Rattle.edit_tree.specs.Assertions.{Step, key, index, Place, at, same_step, same_place, Assertion, elements_at, last_element_or_self}
use Rattle.edit_tree.specs.EditBytes.{is_within, unresolved}
use Rattle.edit_rewrite.specs.declared.path_matching.PathMatch.{PathMatch}
use Rattle.edit_rewrite.specs.declared.path_matching.PathMatch.TheVariants.{On, Below, Off}
use Rattle.edit_rewrite.specs.Entries.{path_match_on, path_match, path_match_next, extend_path_match, is_at, is_at_or_below, count_on, last_element_match, Counts, Follows}
use Rattle.edit_tree.proofs.SamePlace.{same_step_is, same_step_self}

-- ---- one step more

way_next : (full : Place) (d : ℕ) (target p : Place) (s : Step)
    → ((i : ℕ) → slice_get full (d + i) ≡ slice_get target i)
    → path_match_on d target (p ++ s ∷ []) ≡ extend_path_match full (path_match_on d target p) s
way_next full d [] [] s e = let here : d + 0 ≡ d = omega arith in
    sym (ap (λ (o : Option Step). path_match_next d o s) (ap (slice_get full) (sym here) ∙ e 0))
way_next full d [] (t ∷ ts) s e = refl
way_next full d (u ∷ us) [] s e =
    let here : d + 0 ≡ d = omega arith in
    ap (λ (w : PathMatch). cond (same_step u s) w Off) (on us) ∙
    sym (ap (λ (o : Option Step). path_match_next d o s) (ap (slice_get full) (sym here) ∙ e 0))
  where
    on : (us : Place) → path_match_on (d + 1) us [] ≡ On (d + 1)
    on [] = refl
    on (v ∷ vs) = refl
way_next full d (u ∷ us) (t ∷ ts) s e = go (same_step u t)
    (way_next full (d + 1) us ts s (λ i. let k : (d + 1) + i ≡ d + suc i = omega arith in
    ap (slice_get full) k ∙ e (suc i)))
  where
    go : (b : Bool)
        → path_match_on (d + 1) us (ts ++ s ∷ []) ≡ extend_path_match full (path_match_on (d + 1) us ts) s
        → cond b (path_match_on (d + 1) us (ts ++ s ∷ [])) Off ≡ extend_path_match full (cond b (path_match_on (d + 1) us ts) Off) s
    go true ih = ih
    go false ih = refl

pub way_at : (target p : Place) (s : Step)
    → path_match target (at p s) ≡ extend_path_match target (path_match target p) s
way_at target p s = way_next target 0 target p s (λ i. let k : 0 + i ≡ i = omega arith in
    ap (slice_get target) k)

pub way_root : (target : Place) → On 0 ≡ path_match target []
way_root [] = refl
way_root (s ∷ ss) = refl

-- ---- the place, or one below it

within_on : (d : ℕ) (target p : Place)
    → is_within target p ≡ is_at_or_below (d + length target) (path_match_on d target p)
within_on d [] [] = let here : d ≡ d + 0 = omega arith in sym (eq-eqb d (d + 0) here)
within_on d [] (t ∷ ts) = refl
within_on d (s ∷ ss) [] = sym (ne_eqb d (d + length (s ∷ ss)) (λ e. omega arith))
within_on d (s ∷ ss) (t ∷ ts) = go (same_step s t) (within_on (d + 1) ss ts)
  where
    go : (b : Bool) → is_within ss ts ≡ is_at_or_below ((d + 1) + length ss) (path_match_on (d + 1) ss ts)
        → (b && is_within ss ts) ≡ is_at_or_below (d + length (s ∷ ss)) (cond b (path_match_on (d + 1) ss ts) Off)
    go true ih = let k : (d + 1) + length ss ≡ d + length (s ∷ ss) = omega arith in
        ih ∙ ap (λ n. is_at_or_below n (path_match_on (d + 1) ss ts)) k
    go false ih = refl

pub within_is : (target p : Place) → is_within target p ≡ is_at_or_below (length target) (path_match target p)
within_is target p = let k : 0 + length target ≡ length target = omega arith in
    within_on 0 target p ∙ ap (λ n. is_at_or_below n (path_match target p)) k

same_step_swap : (s t : Step) → same_step s t ≡ same_step t s
same_step_swap s t = go (same_step s t) refl (same_step t s) refl
  where
    clash : (a b : Step) → same_step a b ≡ true → same_step b a ≡ false → ⊥
    clash a b e f = let same : a ≡ b = same_step_is a b e in
        true≢false (sym (same_step_self b) ∙ ap (same_step b) (sym same) ∙ f)

    go : (x : Bool) → same_step s t ≡ x → (y : Bool) → same_step t s ≡ y → same_step s t ≡ same_step t s
    go true e true f = e ∙ sym f
    go true e false f = absurd (clash s t e f)
    go false e true f = absurd (clash t s f e)
    go false e false f = e ∙ sym f

same_on : (d : ℕ) (target p : Place)
    → same_place p target ≡ is_at (d + length target) (path_match_on d target p)
same_on d [] [] = let here : d ≡ d + 0 = omega arith in sym (eq-eqb d (d + 0) here)
same_on d [] (t ∷ ts) = refl
same_on d (s ∷ ss) [] = sym (ne_eqb d (d + length (s ∷ ss)) (λ e. omega arith))
same_on d (s ∷ ss) (t ∷ ts) = ap (λ b. b && same_place ts ss) (same_step_swap t s) ∙
    go (same_step s t) (same_on (d + 1) ss ts)
  where
    go : (b : Bool) → same_place ts ss ≡ is_at ((d + 1) + length ss) (path_match_on (d + 1) ss ts)
        → (b && same_place ts ss) ≡ is_at (d + length (s ∷ ss)) (cond b (path_match_on (d + 1) ss ts) Off)
    go true ih = let k : (d + 1) + length ss ≡ d + length (s ∷ ss) = omega arith in
        ih ∙ ap (λ n. is_at n (path_match_on (d + 1) ss ts)) k
    go false ih = refl

pub same_is : (target p : Place) → same_place p target ≡ is_at (length target) (path_match target p)
same_is target p = let k : 0 + length target ≡ length target = omega arith in
    same_on 0 target p ∙ ap (λ n. is_at n (path_match target p)) k

-- a place on the way is a prefix of the target
pub record IsFront (d done : ℕ) (target p : Place) : Type 0 where
  pub count : done ≡ d + length p
  pub front : p ≡ take (length p) target
  pub within : length p ≤ length target

front_on : (d done : ℕ) (target p : Place) → path_match_on d target p ≡ On done → IsFront d done target p
front_on d done [] [] e = let same : d ≡ done = cc in
    record { count = omega arith; front = refl; within = omega arith }
front_on d done (s ∷ ss) [] e = let same : d ≡ done = cc in
    record { count = omega arith; front = refl; within = omega arith }
front_on d done [] (t ∷ ts) e = absurd cc
front_on d done (s ∷ ss) (t ∷ ts) e = go (same_step s t) refl e (front_on (d + 1) done ss ts)
  where
    go : (b : Bool) → same_step s t ≡ b → cond b (path_match_on (d + 1) ss ts) Off ≡ On done
        → (path_match_on (d + 1) ss ts ≡ On done → IsFront (d + 1) done ss ts)
        → IsFront d done (s ∷ ss) (t ∷ ts)
    go true h f ih =
        let f2 = ih f in
        let same : s ≡ t = same_step_is s t h in
        let count : done ≡ (d + 1) + length ts = f2.count in
        let within : length ts ≤ length ss = f2.within in
        record {
          count = omega arith;
          front = ap (λ (u : Step). u ∷ ts) (sym same) ∙ ap (λ (q : Place). s ∷ q) f2.front;
          within = omega arith;
        }
    go false h f ih = absurd cc

pub on_front : (target p : Place) (done : ℕ) → path_match target p ≡ On done → (p ≡ take done target)
    × (done ≤ length target)
on_front target p done e =
    let f = front_on 0 done target p e in
    let count : done ≡ 0 + length p = f.count in
    let within : length p ≤ length target = f.within in
    let n : length p ≡ done = omega arith in
    (f.front ∙ ap (λ k. take k target) n, omega arith)

-- ---- counts of elements

-- the key of a pair leads on as it is
pub follows_itself : (target : Place) → Follows target [] unresolved
follows_itself target p = go (path_match target p)
  where
    go : (w : PathMatch) → w ≡ last_element_match target [] w
    go (On d) = refl
    go Below = refl
    go Off = refl

pub follows_counts : (target : Place) (earlier : List Assertion) (counts : List ℕ)
    → Counts target earlier counts → Follows target counts (last_element_or_self earlier)
follows_counts target earlier counts h p = step (nat_lt 0 (elements_at earlier p)) ∙ go (path_match target p) refl
  where
    step : (b : Bool) → path_match target (cond b (at p (index (elements_at earlier p - 1))) p)
        ≡ cond b (extend_path_match target (path_match target p) (index (elements_at earlier p - 1))) (path_match target p)
    step true = way_at target p (index (elements_at earlier p - 1))
    step false = refl

    stays : (c : ℕ) (b : Bool)
        → extend_path_match target (path_match target p) (index (c - 1)) ≡ path_match target p
        → cond b (extend_path_match target (path_match target p) (index (c - 1))) (path_match target p) ≡ path_match target p
    stays c true e = e
    stays c false e = refl

    off : (c d : ℕ)
        → ((i : ℕ) → extend_path_match target (path_match target p) (index i) ≡ path_match target p)
        → cond (nat_lt 0 c) (extend_path_match target (path_match target p) (index (c - 1))) (path_match target p)
        ≡ cond (nat_lt 0 d) (extend_path_match target (path_match target p) (index (d - 1))) (path_match target p)
    off c d e = stays c (nat_lt 0 c) (e (c - 1)) ∙ sym (stays d (nat_lt 0 d) (e (d - 1)))

    go : (w : PathMatch) → path_match target p ≡ w
        → cond (nat_lt 0 (elements_at earlier p))
        (extend_path_match target (path_match target p) (index (elements_at earlier p - 1))) (path_match target p)
        ≡ last_element_match target counts (path_match target p)
    go (On d) e =
        let f = on_front target p d e in
        let count : count_on counts (path_match target p) ≡ elements_at earlier p = ap (count_on counts) e ∙
        h d f.1 ∙ ap (elements_at earlier) (sym f.0) in
        ap (λ (c : ℕ). cond (nat_lt 0 c) (extend_path_match target (path_match target p) (index (c - 1))) (path_match target p))
        (sym count)
    go Below e = off (elements_at earlier p) (count_on counts (path_match target p))
        (λ i. ap (λ (w : PathMatch). extend_path_match target w (index i)) e ∙ sym e)
    go Off e = off (elements_at earlier p) (count_on counts (path_match target p))
        (λ i. ap (λ (w : PathMatch). extend_path_match target w (index i)) e ∙ sym e)

-- ---- steps of the code

pub next_past : (place : List WrittenStep) (done : ℕ) (s : Step) → length place ≤ done
    → extend_path_match (place_view place) (On done) s ≡ Below
next_past place done s le =
    ap (λ (o : Option Step). path_match_next done o s)
    (slice_get_past (place_view place) done (let n = length-map place step_view in omega arith))

next_here : (place : List WrittenStep) (done : ℕ) (x : WrittenStep) (s : Step) → done < length place
    → x ≡ get_or place done x → extend_path_match (place_view place) (On done) s
    ≡ cond (same_step (step_view x) s) (On (done + 1)) Off
next_here place done x s lt is =
    ap (λ (o : Option Step). path_match_next done o s) (slice_get-map step_view place done ∙
    ap (λ (o : Option WrittenStep). option_map step_view o)
    (slice_get_read place (length place) done x refl lt is))

same_names : (a b : List ℕ) → a ≡ b → same_step (key a) (key b) ≡ true
same_names a b e = subst (λ (c : List ℕ). same_step (key a) (key c) ≡ true) e (same_step_self (key a))

key_same : (a b : List ℕ) → key a ≡ key b → a ≡ b
key_same a b e = cc

other_names : (a b : List ℕ) → (a ≡ b → ⊥) → same_step (key a) (key b) ≡ false
other_names a b ne = go (same_step (key a) (key b)) refl
  where
    go : (c : Bool) → same_step (key a) (key b) ≡ c → same_step (key a) (key b) ≡ false
    go true e = absurd (ne (key_same a b (same_step_is (key a) (key b) e)))
    go false e = e

pub name_on : (place : List WrittenStep) (done : ℕ) (x : WrittenStep) (k : String Global) (name : List ℕ)
    (w : PathMatch) → w ≡ On done → done < length place → x ≡ get_or place done x → x ≡ Key k
    → name ≡ string_bytes k → extend_path_match (place_view place) w (key name) ≡ On (done + 1)
name_on place done x k name w on lt is named same =
    ap (λ (z : PathMatch). extend_path_match (place_view place) z (key name)) on ∙ next_here place done x (key name) lt is
    ∙ ap (λ b. cond b (On (done + 1)) Off)
    (ap (λ (y : WrittenStep). same_step (step_view y) (key name)) named ∙
    same_names (string_bytes k) name (sym same))

pub name_off : (place : List WrittenStep) (done : ℕ) (x : WrittenStep) (k : String Global) (name : List ℕ)
    (w : PathMatch) → w ≡ On done → done < length place → x ≡ get_or place done x → x ≡ Key k
    → (name ≡ string_bytes k → ⊥) → extend_path_match (place_view place) w (key name) ≡ Off
name_off place done x k name w on lt is named ne =
    ap (λ (z : PathMatch). extend_path_match (place_view place) z (key name)) on ∙ next_here place done x (key name) lt is
    ∙ ap (λ b. cond b (On (done + 1)) Off)
    (ap (λ (y : WrittenStep). same_step (step_view y) (key name)) named ∙
    other_names (string_bytes k) name (λ e. ne (sym e)))

pub index_off : (place : List WrittenStep) (done : ℕ) (x : WrittenStep) (i : ℕ) (name : List ℕ) (w : PathMatch)
    → w ≡ On done → done < length place → x ≡ get_or place done x → x ≡ Index i
    → extend_path_match (place_view place) w (key name) ≡ Off
index_off place done x i name w on lt is named =
    ap (λ (z : PathMatch). extend_path_match (place_view place) z (key name)) on ∙ next_here place done x (key name) lt is
    ∙ ap (λ b. cond b (On (done + 1)) Off)
    (ap (λ (y : WrittenStep). same_step (step_view y) (key name)) named)

pub index_on : (place : List WrittenStep) (done : ℕ) (x : WrittenStep) (i number : ℕ) (w : PathMatch)
    → w ≡ On done
    → done < length place → x ≡ get_or place done x → x ≡ Index i → i ≡ number
    → extend_path_match (place_view place) w (index number) ≡ On (done + 1)
index_on place done x i number w on lt is named same =
    ap (λ (z : PathMatch). extend_path_match (place_view place) z (index number)) on ∙
    next_here place done x (index number) lt is
    ∙ ap (λ b. cond b (On (done + 1)) Off)
    (ap (λ (y : WrittenStep). same_step (step_view y) (index number)) named ∙ eq-eqb i number same)

pub index_past : (place : List WrittenStep) (done : ℕ) (x : WrittenStep) (i number : ℕ) (w : PathMatch)
    → w ≡ On done → done < length place → x ≡ get_or place done x → x ≡ Index i → (i ≡ number → ⊥)
    → extend_path_match (place_view place) w (index number) ≡ Off
index_past place done x i number w on lt is named ne =
    ap (λ (z : PathMatch). extend_path_match (place_view place) z (index number)) on ∙
    next_here place done x (index number) lt is
    ∙ ap (λ b. cond b (On (done + 1)) Off)
    (ap (λ (y : WrittenStep). same_step (step_view y) (index number)) named ∙ ne_eqb i number ne)

pub key_off : (place : List WrittenStep) (done : ℕ) (x : WrittenStep) (k : String Global) (number : ℕ)
    (w : PathMatch) → w ≡ On done → done < length place → x ≡ get_or place done x → x ≡ Key k
    → extend_path_match (place_view place) w (index number) ≡ Off
key_off place done x k number w on lt is named =
    ap (λ (z : PathMatch). extend_path_match (place_view place) z (index number)) on ∙
    next_here place done x (index number) lt is
    ∙ ap (λ b. cond b (On (done + 1)) Off)
    (ap (λ (y : WrittenStep). same_step (step_view y) (index number)) named)
