-- The leader of a row is together with it, and none of the others has a higher floor.
use Rattle.std.proofs.Common.{◌≡◌, ◌∷◌, [], ◌∙◌, ◌<◌, ◌⊎◌, ⊎_elim, inl, inr, List, Bool, true, false, ℕ, suc, zero, Option, Some, None, ap, refl, sym, subst, arith, rules}
use Rattle.std.specs.Prelude.{◌&&◌, Contains, if◌then◌else◌}
use Rattle.std.specs.List.{fold}
use Rattle.std.proofs.lemmas.Bool.Decides.{nat_tests}
use Rattle.edit_version.specs.Levels.{CrateBounds}
use Rattle.edit_unify.specs.Ranges.{Caret, is_higher}
use Rattle.edit_unify.specs.Stands.{Required, is_together}
use Rattle.edit_unify.specs.Leaders.{better, is_better, leader}

-- the first one, or one of the others
pub first_or_rest : {X : Type 0} (x y : X) (xs : List X) → Contains (x ∷ xs) y → (x ≡ y) ⊎ Contains xs y
first_or_rest x y xs (zero, lt, is) = inl is
first_or_rest x y xs (suc k, lt, is) = inr (k, omega (arith, lt), is)

-- the same of one more in front
pub has_more : {X : Type 0} (x y : X) (xs : List X) → Contains xs y → Contains (x ∷ xs) y
has_more x y xs (k, lt, is) = (suc k, omega (arith, lt), is)

pub has_first : {X : Type 0} (x : X) (xs : List X) → Contains (x ∷ xs) x
has_first x xs = (zero, omega arith, refl)

-- where a floor is not higher than a second one, and a third one is higher than that
pub higher_on : (x b c : Caret) → is_higher x b ≡ false → is_higher c b ≡ true → is_higher x c ≡ false
higher_on x b c not_x is_c = grind (arith, nat_tests, not_x, is_c)

-- no floor is higher than itself
pub not_higher : (x : Caret) → is_higher x x ≡ false
not_higher x = grind (arith, nat_tests)

-- after the rows that follow a best one, the leader is one of these, or it; none of them has a higher floor
pub record IsLeading (level : CrateBounds) (own b : Required) (stands : List (Option Required))
    (l : Required) : Type 0 where
  pub from : (b ≡ l) ⊎ (Contains stands (Some l) × (is_together level own l ≡ true))
  pub over : is_higher b.caret l.caret ≡ false
  pub highest : (other : Required) → Contains stands (Some other) → is_together level own other ≡ true
      → is_higher other.caret l.caret ≡ false

pub none_in : {X : Type 0} (x : X) → Contains [] x → ⊥
none_in x (k, lt, is) = omega (arith, lt)

pub some_is : {X : Type 0} (x y : X) → Some x ≡ Some y → x ≡ y
some_is x y is = cc is

pub none_is : {X : Type 0} (x : X) → None ≡ Some x → ⊥
none_is x is = cc is

never : false ≡ true → ⊥
never is = cc is

-- a floor that a higher one does not exceed
higher_over : (b o l : Caret) → is_higher o l ≡ false → is_higher o b ≡ true → is_higher b l ≡ false
higher_over b o l not_o is_o = grind (arith, nat_tests, not_o, is_o)

higher_under : (o b l : Caret) → is_higher o b ≡ false → is_higher b l ≡ false → is_higher o l ≡ false
higher_under o b l not_o not_b = grind (arith, nat_tests, not_o, not_b)

-- the leader from a best one on, where the step to the next one is known
lead_on : (level : CrateBounds) (own b other : Required) (stands : List (Option Required)) (l : Required)
    → ((best : Required) → fold (better level own) (Some best) stands ≡ Some l
    → IsLeading level own best stands l)
    → (t : Bool) → is_together level own other ≡ t → (h : Bool) → is_higher other.caret b.caret ≡ h
    → fold (better level own) (if t && h then Some other else Some b) stands ≡ Some l
    → IsLeading level own b (Some other ∷ stands) l
lead_on level own b other stands l rest true t true h is = let r = rest other is in record {
  from = inr (⊎_elim
      (λ e. (
        subst (λ x. Contains (Some other ∷ stands) (Some x)) e (has_first (Some other) stands),
        subst (λ x. is_together level own x ≡ true) e t,
      ))
      (λ p. (has_more (Some other) (Some l) stands p.0, p.1)) r.from);
  over = higher_over b.caret other.caret l.caret r.over h;
  highest = λ x has with. ⊎_elim
      (λ e. subst (λ y. is_higher y.caret l.caret ≡ false) (some_is other x e) r.over)
      (λ later. r.highest x later with) (first_or_rest (Some other) (Some x) stands has);
}
lead_on level own b other stands l rest true t false h is = let r = rest b is in record {
  from = ⊎_elim (λ e. inl e) (λ p. inr (has_more (Some other) (Some l) stands p.0, p.1)) r.from;
  over = r.over;
  highest = λ x has with. ⊎_elim
      (λ e. subst (λ y. is_higher y.caret l.caret ≡ false) (some_is other x e)
      (higher_under other.caret b.caret l.caret h r.over))
      (λ later. r.highest x later with) (first_or_rest (Some other) (Some x) stands has);
}
lead_on level own b other stands l rest false t h e is = let r = rest b is in record {
  from = ⊎_elim (λ e. inl e) (λ p. inr (has_more (Some other) (Some l) stands p.0, p.1)) r.from;
  over = r.over;
  highest = λ x has with. ⊎_elim
      (λ e. absurd (never (sym t ∙ ap (is_together level own) (some_is other x e) ∙ with)))
      (λ later. r.highest x later with) (first_or_rest (Some other) (Some x) stands has);
}

pub leading : (level : CrateBounds) (own b : Required) (stands : List (Option Required)) (l : Required)
    → fold (better level own) (Some b) stands ≡ Some l → IsLeading level own b stands l
leading level own b [] l is = record {
  from = inl (some_is b l is);
  over = subst (λ c. is_higher b.caret c.caret ≡ false) (some_is b l is) (not_higher b.caret);
  highest = λ other has with. absurd (none_in (Some other) has);
}
leading level own b (None ∷ stands) l is = let r = leading level own b stands l is in record {
  from = ⊎_elim (λ e. inl e) (λ p. inr (has_more None (Some l) stands p.0, p.1)) r.from;
  over = r.over;
  highest = λ x has with. ⊎_elim (λ e. absurd (none_is x e)) (λ later. r.highest x later with)
      (first_or_rest None (Some x) stands has);
}
leading level own b (Some other ∷ stands) l is =
    lead_on level own b other stands l (λ best so_far. leading level own best stands l so_far)
    (is_together level own other) refl (is_higher other.caret b.caret) refl is

-- what a row is among, that leads another one
pub record IsLeader (level : CrateBounds) (own : Required) (stands : List (Option Required))
    (l : Required) : Type 0 where
  pub among : Contains stands (Some l)
  pub together : is_together level own l ≡ true
  pub highest : (other : Required) → Contains stands (Some other) → is_together level own other ≡ true
      → is_higher other.caret l.caret ≡ false

-- the leader, where the first one may be the best so far
lead_from : (level : CrateBounds) (own other : Required) (stands : List (Option Required)) (l : Required)
    → (leader level own stands ≡ Some l → IsLeader level own stands l)
    → (t : Bool) → is_together level own other ≡ t
    → fold (better level own) (if t && true then Some other else None) stands ≡ Some l
    → IsLeader level own (Some other ∷ stands) l
lead_from level own other stands l rest true t is = let r = leading level own other stands l is in
    let among : Contains (Some other ∷ stands) (Some l) × (is_together level own l ≡ true) = ⊎_elim
    (λ e. (
      subst (λ x. Contains (Some other ∷ stands) (Some x)) e (has_first (Some other) stands),
      subst (λ x. is_together level own x ≡ true) e t,
    ))
    (λ p. (has_more (Some other) (Some l) stands p.0, p.1)) r.from in record {
      among = among.0;
      together = among.1;
      highest = λ x has with. ⊎_elim
          (λ e. subst (λ y. is_higher y.caret l.caret ≡ false) (some_is other x e) r.over)
          (λ later. r.highest x later with) (first_or_rest (Some other) (Some x) stands has);
    }
lead_from level own other stands l rest false t is = let r = rest is in record {
  among = has_more (Some other) (Some l) stands r.among;
  together = r.together;
  highest = λ x has with. ⊎_elim
      (λ e. absurd (never (sym t ∙ ap (is_together level own) (some_is other x e) ∙ with)))
      (λ later. r.highest x later with) (first_or_rest (Some other) (Some x) stands has);
}

pub leader_is : (level : CrateBounds) (own : Required) (stands : List (Option Required)) (l : Required)
    → leader level own stands ≡ Some l → IsLeader level own stands l
leader_is level own [] l is = absurd (none_is l is)
leader_is level own (None ∷ stands) l is = let r = leader_is level own stands l is in record {
  among = has_more None (Some l) stands r.among;
  together = r.together;
  highest = λ x has with. ⊎_elim (λ e. absurd (none_is x e)) (λ later. r.highest x later with)
      (first_or_rest None (Some x) stands has);
}
leader_is level own (Some other ∷ stands) l is =
    lead_from level own other stands l (λ so_far. leader_is level own stands l so_far)
    (is_together level own other) refl is

stays_on : (level : CrateBounds) (own b other : Required) (stands : List (Option Required))
    → ((best : Required) → fold (better level own) (Some best) stands ≡ None → ⊥)
    → (t : Bool) → fold (better level own) (if t then Some other else Some b) stands ≡ None → ⊥
stays_on level own b other stands rest true is = rest other is
stays_on level own b other stands rest false is = rest b is

-- a best one is never lost
best_stays : (level : CrateBounds) (own b : Required) (stands : List (Option Required))
    → fold (better level own) (Some b) stands ≡ None → ⊥
best_stays level own b [] is = cc is
best_stays level own b (None ∷ stands) is = best_stays level own b stands is
best_stays level own b (Some other ∷ stands) is =
    stays_on level own b other stands (λ best so_far. best_stays level own best stands so_far)
    (is_better level own (Some b) other) is

there_on : (level : CrateBounds) (own x other : Required) (stands : List (Option Required))
    → (Contains stands (Some x) → leader level own stands ≡ None → ⊥)
    → Contains (Some other ∷ stands) (Some x) → is_together level own x ≡ true
    → (t : Bool) → is_together level own other ≡ t
    → fold (better level own) (if t && true then Some other else None) stands ≡ None → ⊥
there_on level own x other stands rest has with true t is = best_stays level own other stands is
there_on level own x other stands rest has with false t is = ⊎_elim
    (λ e. never (sym t ∙ ap (is_together level own) (some_is other x e) ∙ with)) (λ later. rest later is)
    (first_or_rest (Some other) (Some x) stands has)

-- a row that is together with one of the rows has a leader
pub leader_there : (level : CrateBounds) (own x : Required) (stands : List (Option Required))
    → Contains stands (Some x) → is_together level own x ≡ true → leader level own stands ≡ None → ⊥
leader_there level own x [] has with is = none_in (Some x) has
leader_there level own x (None ∷ stands) has with is =
    ⊎_elim (λ e. none_is x e) (λ later. leader_there level own x stands later with is)
    (first_or_rest None (Some x) stands has)
leader_there level own x (Some other ∷ stands) has with is =
    there_on level own x other stands (λ later so_far. leader_there level own x stands later with so_far)
    has with (is_together level own other) refl is
