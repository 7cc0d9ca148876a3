-- Two of three flags are given, as the program tests it.
use Rattle.std.proofs.Common.{◌≡◌, ◌&&◌, ◌||◌, Bool, None, Some, codes, false, refl, sym, true}
use Rattle.edit_program.specs.ParsedSetVersion.{conflict_among}

pub twice_all : (a w p : Bool) → p ≡ true → a ≡ true → true ≡ ((a && w) || (p && (a || w)))
twice_all true true p there all = refl
twice_all true false true there all = refl
twice_all true false false there all = sym there
twice_all false w p there all = cc

pub twice_workspace : (a w p : Bool) → p ≡ true → w ≡ true → true ≡ ((a && w) || (p && (a || w)))
twice_workspace true true p there whole = refl
twice_workspace true false p there whole = cc
twice_workspace false true true there whole = refl
twice_workspace false true false there whole = sym there
twice_workspace false false p there whole = cc

pub not_twice : (a w p : Bool) → (a && w) ≡ false → (p && a) ≡ false → (p && w) ≡ false
    → false ≡ ((a && w) || (p && (a || w)))
not_twice true true p one two three = cc
not_twice true false true one two three = cc
not_twice true false false one two three = refl
not_twice false true true one two three = cc
not_twice false true false one two three = refl
not_twice false false true one two three = refl
not_twice false false false one two three = refl

pub and_right : (a w : Bool) → w ≡ false → (a && w) ≡ false
and_right true w is = is
and_right false w is = refl

pub twice_is : (a w p a' w' p' : Bool) → a ≡ a' → w ≡ w' → p ≡ p'
    → ((a && w) || (p && (a || w))) ≡ ((a' && w') || (p' && (a' || w')))
twice_is a w p a' w' p' one two three = cc

-- ---- which two of them an error names

-- packages and all of them, unless all and the workspace are given
pub all_named : (a w p : Bool) → (a && w) ≡ false → p ≡ true → a ≡ true
    → Some (codes "--package <PKGID>", codes "--all") ≡ conflict_among a w p
all_named true true p one there all = cc
all_named true false true one there all = refl
all_named true false false one there all = cc
all_named false w p one there all = cc

-- packages and the workspace, unless another pair is given
pub workspace_named : (a w p : Bool) → (a && w) ≡ false → (p && a) ≡ false → p ≡ true → w ≡ true
    → Some (codes "--package <PKGID>", codes "--workspace") ≡ conflict_among a w p
workspace_named true true p one two there whole = cc
workspace_named true false p one two there whole = cc
workspace_named false true true one two there whole = refl
workspace_named false true false one two there whole = cc
workspace_named false false p one two there whole = cc

-- no pair is given
pub none_named : (a w p : Bool) → (a && w) ≡ false → (p && a) ≡ false → (p && w) ≡ false
    → None ≡ conflict_among a w p
none_named true true p one two three = cc
none_named true false true one two three = cc
none_named true false false one two three = refl
none_named false true true one two three = cc
none_named false true false one two three = refl
none_named false false true one two three = refl
none_named false false false one two three = refl

pub named_is : (a w p a' w' p' : Bool) → a ≡ a' → w ≡ w' → p ≡ p'
    → conflict_among a w p ≡ conflict_among a' w' p'
named_is a w p a' w' p' one two three = cc
