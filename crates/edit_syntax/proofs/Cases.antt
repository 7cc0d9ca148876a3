-- Case distinctions on tests.
use Rattle.std.proofs.Common.{◌≡◌, Bool, true, false, ◌||◌, refl}

pub by_test : {P : Type 0} (c : Bool) → (c ≡ true → P) → (c ≡ false → P) → P
by_test true t f = t refl
by_test false t f = f refl

pub or_false : (x y : Bool) → (x || y) ≡ false → (x ≡ false) × (y ≡ false)
or_false true y e = absurd cc
or_false false y e = (refl, e)
