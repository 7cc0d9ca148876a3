-- Lines that hold no outcome.
use Rattle.std.proofs.Common.{◌≡◌, ℕ, ◌<◌, ◌^◌, List, ◌∷◌, ◌++◌, refl, sym, ◌∙◌, ap, subst, inl, inr}
use Rattle.std.specs.Prelude.{◌⊎◌, Ok}
use Rattle.std.specs.Str.Parse.{IsNumeral, ParsesUnsigned, digits_value, without_leading_plus}
use Rattle.edit_lookups.specs.Lookups.{HasNo}
use Rattle.edit_lookups.proofs.CutLemmas.{HasNo-at, first-cut}
use Rattle.edit_answers.specs.Answers.{HasLine, IsAnswerLine}
use Rattle.edit_answers.specs.Answers.HasLine.{first, later}
use Rattle.edit_answers.specs.declared.answers.Answer.{Answer}

-- without a tab
pub no-number : (line : List ℕ) (number : ℕ) (a : Answer) → HasNo 9 line → IsAnswerLine line number a → ⊥
no-number line number a lacks says = HasNo-at 9 says.digits _ (subst (HasNo 9) says.is lacks)

-- with one tab
pub no-status : (line digits rest : List ℕ) (number : ℕ) (a : Answer) → line ≡ digits ++ 9 ∷ rest
    → HasNo 9 digits
    → HasNo 9 rest → IsAnswerLine line number a → ⊥
no-status line digits rest number a is none lacks says =
    let cut = first-cut 9 digits rest says.digits _ none says.no_tab_number (sym is ∙ says.is) in
    HasNo-at 9 a.code.now _ (subst (HasNo 9) cut.1 lacks)

-- with two tabs
pub no-exit : (line digits code rest : List ℕ) (number : ℕ) (a : Answer) → line
    ≡ digits ++ 9 ∷ (code ++ 9 ∷ rest)
    → HasNo 9 digits → HasNo 9 code → HasNo 9 rest → IsAnswerLine line number a → ⊥
no-exit line digits code rest number a is none none2 lacks says =
    let cut = first-cut 9 digits (code ++ 9 ∷ rest) says.digits _ none says.no_tab_number
    (sym is ∙ says.is) in
    let cut2 = first-cut 9 code rest a.code.now _ none2 says.no_tab cut.1 in
    HasNo-at 9 a.exit.now _ (subst (HasNo 9) cut2.1 lacks)

-- with three tabs
pub no-redirects : (line digits code exit rest : List ℕ) (number : ℕ) (a : Answer)
    → line ≡ digits ++ 9 ∷ (code ++ 9 ∷ (exit ++ 9 ∷ rest)) → HasNo 9 digits → HasNo 9 code → HasNo 9 exit
    → HasNo 9 rest → IsAnswerLine line number a → ⊥
no-redirects line digits code exit rest number a is none none2 none3 lacks says =
    let cut = first-cut 9 digits (code ++ 9 ∷ (exit ++ 9 ∷ rest)) says.digits _ none says.no_tab_number
    (sym is ∙ says.is) in
    let cut2 = first-cut 9 code (exit ++ 9 ∷ rest) a.code.now _ none2 says.no_tab cut.1 in
    let cut3 = first-cut 9 exit rest a.exit.now _ none3 says.no_tab_exit cut2.1 in
    HasNo-at 9 a.redirects.now _ (subst (HasNo 9) cut3.1 lacks)

-- without a number
pub no-parse : (line digits rest : List ℕ) (number : ℕ) (a : Answer) → line ≡ digits ++ 9 ∷ rest
    → HasNo 9 digits
    → ((IsNumeral 10 (without_leading_plus digits)
    × (digits_value 10 (without_leading_plus digits) < 2 ^ 64)) → ⊥)
    → IsAnswerLine line number a → ⊥
no-parse line digits rest number a is none fails says =
    let cut = first-cut 9 digits rest says.digits _ none says.no_tab_number (sym is ∙ says.is) in
    fails (subst (λ d. ParsesUnsigned {E = Unit {0}} 64 10 d (Ok number)) (sym cut.0) says.number_is).0

-- the lines of a text whose first one is known
pub line-cases : (line l0 after : List ℕ) → HasNo 10 l0 → HasLine line (l0 ++ 10 ∷ after)
    → (line ≡ l0) ⊎ HasLine line after
line-cases line l0 after none h = by-cut (l0 ++ 10 ∷ after) refl h
  where
    by-cut : (text : List ℕ) → text ≡ l0 ++ 10 ∷ after → HasLine line text → (line ≡ l0) ⊎ HasLine line after
    by-cut text e (first rest lacks) = inl (first-cut 10 line rest l0 after lacks none e).0
    by-cut text e (later other rest lacks h) =
        inr (subst (HasLine line) (first-cut 10 other rest l0 after lacks none e).1 h)

-- a text without a line feed has no complete line
pub no-line : (line text : List ℕ) → HasNo 10 text → HasLine line text → ⊥
no-line line text lacks (first after _) = HasNo-at 10 line after lacks
no-line line text lacks (later other after _ _) = HasNo-at 10 other after lacks

-- a line holds a single number
pub one-number : (line : List ℕ) (n m : ℕ) (a b : Answer) → IsAnswerLine line n a → IsAnswerLine line m b
    → n ≡ m
one-number line n m a b x y =
    let cut = first-cut 9 x.digits _ y.digits _ x.no_tab_number y.no_tab_number (sym x.is ∙ y.is) in
    x.number_is.1 ∙ (ap (λ d. digits_value 10 (without_leading_plus d)) cut.0 ∙ sym y.number_is.1)
