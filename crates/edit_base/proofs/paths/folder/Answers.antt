use Rattle.std.proofs.Common.{◌≡◌, ℕ, ◌<◌, List, [], ◌∷◌, ◌++◌, length, drop, lit<, sym, arith, subst}
use Rattle.std.proofs.lemmas.Bool.Decides.{nat_tests}
use Rattle.std.proofs.lemmas.List.{take-append-drop}
use Rattle.std.proofs.lemmas.Str.Pattern.{NoCharPasses-char, drop_at_char}
use Rattle.std.specs.Str.Pattern.{SplitsAroundMatch, RFindsChar}
use Rattle.edit_base.specs.Paths.{HasNoSlash}
use Rattle.edit_base.specs.Paths.IsFolderOf.{above, below_root, bare}
use Rattle.edit_base.proofs.paths.folder.Goals as goal

-- the text is cut at a slash
cut : (s before after : List ℕ) → SplitsAroundMatch (RFindsChar 47) s before after
    → s ≡ before ++ (47 ∷ after)
cut s before after h =
    let whole = take-append-drop h.0 s in
    let rest = drop_at_char 47 s h.0 h.1 h.2.1 (lit< tt) in
    cc

-- and none is left behind it
behind : (s before after : List ℕ) → SplitsAroundMatch (RFindsChar 47) s before after → HasNoSlash after
behind s before after h = subst HasNoSlash (sym h.4)
    (λ i w. NoCharPasses-char 47 (drop h.1 s) i h.2.0 (lit< tt) w)

-- where nothing stands before it, the text begins with it
at_front : (s before after : List ℕ) → length before ≡ 0 → s ≡ before ++ (47 ∷ after) → s ≡ 47 ∷ after
at_front s [] after h e = e
at_front s (x ∷ before) after h e = absurd (omega arith)

pub returns-in-None : goal.returns-in-None
returns-in-None c = bare (λ i w. NoCharPasses-char 47 c.args.path.now i c.in-None.ensures.cases (lit< tt) w)

pub returns-then-is_empty : goal.returns-then-is_empty
returns-then-is_empty c =
    let empty : length c.in-Some.before.now ≡ 0 = grind (arith, nat_tests) in
    below_root c.in-Some._after.now (at_front _ _ _ empty (cut _ _ _ c.in-Some.ensures.cases))
    (behind _ _ _ c.in-Some.ensures.cases)

pub returns-else-is_empty : goal.returns-else-is_empty
returns-else-is_empty c =
    let some : 0 < length c.in-Some.before.now = grind (arith, nat_tests) in
    above c.in-Some.before.now c.in-Some._after.now (cut _ _ _ c.in-Some.ensures.cases)
    (behind _ _ _ c.in-Some.ensures.cases) some
