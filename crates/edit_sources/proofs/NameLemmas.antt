-- A valid crate name is ASCII.
use Rattle.std.proofs.Common.{◌≡◌, ℕ, ◌<◌, List, [], ◌∷◌, map, Bool, true, false, ◌&&◌, refl, arith}
use Rattle.std.specs.Prelude.{All}
use Rattle.std.specs.List.{list_all}
use Rattle.std.specs.Char.{to_ascii_lowercase}
use Rattle.std.proofs.lemmas.Bool.Decides.{nat_tests}
use Rattle.std.proofs.lemmas.List.Elements.{All-nil, All-cons}
use Rattle.edit_sources.specs.Names.{is_name_byte, is_crate_name}

-- both of two tests that hold together
left : (a b : Bool) → (a && b) ≡ true → a ≡ true
left true b h = refl
left false b h = cc

right : (a b : Bool) → (a && b) ≡ true → b ≡ true
right true b h = h
right false b h = cc

small_byte : (b : ℕ) → is_name_byte b ≡ true → to_ascii_lowercase b < 128
small_byte b h = grind (arith, nat_tests)

small_bytes : (name : List ℕ) → list_all is_name_byte name ≡ true
    → All (λ b. b < 128) (map to_ascii_lowercase name)
small_bytes [] h = All-nil (λ b. b < 128)
small_bytes (b ∷ name) h = All-cons (λ b. b < 128) (to_ascii_lowercase b) (map to_ascii_lowercase name)
    (small_byte b (left (is_name_byte b) (list_all is_name_byte name) h))
    (small_bytes name (right (is_name_byte b) (list_all is_name_byte name) h))

-- a valid crate name in lower case is ASCII too
pub small_name : (name : List ℕ) → is_crate_name name ≡ true
    → All (λ b. b < 128) (map to_ascii_lowercase name)
small_name name h = small_bytes name (right _ _ (right _ _ h))
