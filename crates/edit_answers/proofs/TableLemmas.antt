-- The table of outcomes.
use Rattle.std.proofs.Common.{◌≡◌, ℕ, zero, suc, ◌+◌, ◌-◌, ◌<◌, true, arith, get_or, List, [], ◌∷◌, ◌++◌, length, Option, Some, None, replicate, refl, sym, subst, ⊎_elim, inl, inr}
use Rattle.std.specs.Prelude.{◌⊎◌, slice_get, slice_set}
use Rattle.std.specs.Option.{is_some}
use Rattle.edit_lookups.specs.Lookups.{HasNo}
use Rattle.edit_answers.specs.Answers.{AreFirst, AreFound, HasLine, HasAnswerAt, IsFirst, IsAnswerLine}
use Rattle.edit_answers.specs.Answers.IsFirst.{at_head, behind}
use Rattle.edit_answers.specs.declared.answers.Answer.{Answer}
use Rattle.edit_answers.proofs.LineLemmas.{line-cases, no-line}

-- the outcome of a line is found
abbrev pub IsFound : List ℕ → List (Option Answer) → Type 0
IsFound line table = (k : ℕ) (a : Answer) → k < length table → IsAnswerLine line (k + 1) a → HasAnswerAt table k

-- each empty slot has its first outcome in the rest as the first in the text, and the outcomes in front of
-- the rest are found
pub record IsRest (text rest : List ℕ) (table : List (Option Answer)) : Type 0 where
  pub firsts : (k : ℕ) (a : Answer) → slice_get table k ≡ Some None → IsFirst (k + 1) a rest
      → IsFirst (k + 1) a text
  pub found : (line : List ℕ) → HasLine line text → HasLine line rest ⊎ IsFound line table

pub rest-begins : (text : List ℕ) (table : List (Option Answer)) → IsRest text text table
rest-begins text table = record { firsts = λ k a free h. h; found = λ line h. inl h }

-- a table without outcomes has none
pub none-said : (text : List ℕ) (n : ℕ) → AreFirst text (replicate n None)
none-said text n k a e = absurd (never n k e)
  where
    never : (n k : ℕ) → slice_get (replicate n (let o : Option Answer = None in o)) k ≡ Some (Some a) → ⊥
    never zero k e = cc
    never (suc n) zero e = cc
    never (suc n) (suc k) e = never n k e

within-got : (xs : List (Option Answer)) (k : ℕ) (x : Option Answer) → slice_get xs k ≡ Some x
    → k < length xs
within-got [] k x e = cc
within-got (y ∷ xs) zero x e = omega arith
within-got (y ∷ xs) (suc k) x e = let w = within-got xs k x e in omega (arith, w)

got-within : (xs : List (Option Answer)) (k : ℕ) → slice_get xs k ≡ None → k < length xs → ⊥
got-within [] k e w = absurd (omega arith)
got-within (y ∷ xs) zero e w = cc
got-within (y ∷ xs) (suc k) e w = got-within xs k e (omega arith)

one-answer : (o : Option (Option Answer)) (a b : Answer) → o ≡ Some (Some a) → o ≡ Some (Some b) → a ≡ b
one-answer o a b e f = cc

taken-free : (o : Option (Option Answer)) (a : Answer) → o ≡ Some (Some a) → o ≡ Some None → ⊥
taken-free o a e f = cc

-- a place of a table that has no answer now had none before
free-before : (old new : List (Option Answer)) (k : ℕ) → length new ≡ length old
    → ((k : ℕ) (a : Answer) → slice_get old k ≡ Some (Some a) → slice_get new k ≡ Some (Some a))
    → slice_get new k ≡ Some None → slice_get old k ≡ Some None
free-before old new k count preserved free = cases (slice_get old k) refl
  where
    cases : (o : Option (Option Answer)) → slice_get old k ≡ o → slice_get old k ≡ Some None
    cases None is = absurd (got-within old k is (subst (λ n. k < n) count (within-got new k None free)))
    cases (Some None) is = is
    cases (Some (Some a)) is = absurd (taken-free (slice_get new k) a (preserved k a is) free)

-- one outcome more
pub one-first : (text rest line after : List ℕ) (old new : List (Option Answer)) (number : ℕ)
    (answer : Answer)
    → IsRest text rest old → rest ≡ line ++ 10 ∷ after → HasNo 10 line → IsAnswerLine line number answer
    → ((k : ℕ) (a : Answer) → slice_get new k ≡ Some (Some a)
    → (slice_get old k ≡ Some (Some a)) ⊎ ((k + 1 ≡ number) × (a ≡ answer)))
    → ((k : ℕ) (a : Answer) → slice_get old k ≡ Some (Some a) → slice_get new k ≡ Some (Some a))
    → length new ≡ length old → AreFirst text old → AreFirst text new
one-first text rest line after old new number answer so cut none says put preserved count firsts k a e =
    ⊎_elim (λ was. firsts k a was) (λ is. cases is (slice_get old k) refl) (put k a e)
  where
    cases : (k + 1 ≡ number) × (a ≡ answer) → (o : Option (Option Answer)) → slice_get old k ≡ o
        → IsFirst (k + 1) a text
    cases is None was =
        absurd (got-within old k was (subst (λ n. k < n) count (within-got new k (Some a) e)))
    cases is (Some None) was =
        so.firsts k a was (subst (IsFirst (k + 1) a) (sym cut) (at_head line after none
        (subst (λ x. IsAnswerLine line (k + 1) x) (sym is.1)
        (subst (λ n. IsAnswerLine line n answer) (sym is.0) says))))
    cases is (Some (Some b)) was =
        firsts k a (subst (λ x. slice_get old k ≡ Some (Some x))
        (one-answer (slice_get new k) b a (preserved k b was) e) was)

-- a line further, which is found
pub line-on : (text rest line after : List ℕ) (old new : List (Option Answer)) → IsRest text rest old
    → rest ≡ line ++ 10 ∷ after → HasNo 10 line → length new ≡ length old
    → ((k : ℕ) (a : Answer) → slice_get old k ≡ Some (Some a) → slice_get new k ≡ Some (Some a))
    → IsFound line new → IsRest text after new
line-on text rest line after old new so cut none count preserved is = record {
  firsts = λ k a free h. so.firsts k a (free-before old new k count preserved free)
      (subst (IsFirst (k + 1) a) (sym cut) (behind line after none
      (λ b says.
      let one = is k b (within-got new k None free) says in
      taken-free (slice_get new k) one.0 one.1 free) h));
  found = λ l h. ⊎_elim
      (λ in_rest. ⊎_elim (λ same. inr (subst (λ x. IsFound x new) (sym same) is)) (λ in_after. inl in_after)
      (line-cases l line after none (subst (HasLine l) cut in_rest)))
      (λ was. inr (λ k a w says.
      let one = was k a (subst (λ n. k < n) count w) says in (one.0, preserved k one.0 one.1)))
      (so.found l h);
}

-- a line that holds no outcome
pub says-none : (line : List ℕ) (table : List (Option Answer))
    → ((number : ℕ) (a : Answer) → IsAnswerLine line number a → ⊥) → IsFound line table
says-none line table never k a w says = absurd (never (k + 1) a says)

-- the outcome of a line is found once it was put into the table
pub says-one : (line : List ℕ) (old new : List (Option Answer)) (number : ℕ) (answer : Answer)
    → IsAnswerLine line number answer
    → ((n m : ℕ) (a b : Answer) → IsAnswerLine line n a → IsAnswerLine line m b → n ≡ m)
    → length new ≡ length old → ((k : ℕ) → k + 1 ≡ number → k < length old → HasAnswerAt new k)
    → IsFound line new
says-one line old new number answer says one count has k a w other =
    has k (one (k + 1) number a answer other says) (subst (λ n. k < n) count w)

-- every outcome is found if no line is left
pub all-found : (text rest : List ℕ) (table : List (Option Answer)) → IsRest text rest table → HasNo 10 rest
    → AreFound text table
all-found text rest table so none k a w answer =
    ⊎_elim (λ in_rest. absurd (no-line answer.line rest none in_rest)) (λ is. is k a w answer.says)
    (so.found answer.line answer.whole)

get-set : (xs : List (Option Answer)) (k : ℕ) (y : Option Answer) → k < length xs
    → slice_get (slice_set xs k y) k ≡ Some y
get-set [] k y w = absurd (omega arith)
get-set (x ∷ xs) zero y w = refl
get-set (x ∷ xs) (suc k) y w = get-set xs k y (omega arith)

-- an outcome that was put is there
pub has-set : (xs : List (Option Answer)) (number : ℕ) (a : Answer) (k : ℕ) → k + 1 ≡ number → k < length xs
    → HasAnswerAt (slice_set xs (number - 1) (Some a)) k
has-set xs number a k e w =
    let at : k ≡ number - 1 = omega (arith, e) in
    subst (λ i. HasAnswerAt (slice_set xs i (Some a)) k) at (a, get-set xs k (Some a) w)

-- where one is there already
has-got : (xs : List (Option Answer)) (k : ℕ) (d : Option Answer) → is_some (get_or xs k d) ≡ true
    → k < length xs → HasAnswerAt xs k
has-got [] k d e w = absurd (omega arith)
has-got (None ∷ xs) zero d e w = cc
has-got (Some a ∷ xs) zero d e w = (a, refl)
has-got (x ∷ xs) (suc k) d e w = has-got xs k d e (omega arith)

pub has-before : (xs : List (Option Answer)) (number : ℕ) (o d : Option Answer) (k : ℕ) → is_some o ≡ true
    → o ≡ get_or xs (number - 1) d → k + 1 ≡ number → k < length xs → HasAnswerAt xs k
has-before xs number o d k some is e w =
    let at : number - 1 ≡ k = omega (arith, e) in
    has-got xs k d (subst (λ i. is_some (get_or xs i d) ≡ true) at (subst (λ x. is_some x ≡ true) is some)) w
