-- The pairs of inline tables: the key of each starts from the table that it is written in.
use Rattle.std.proofs.Common.{◌≡◌, ℕ, List, [], ◌∷◌, ap, inl, inr, ⊎_elim, refl}
use Rattle.std.specs.List.{flat_map}
use Rattle.edit_syntax.specs.Characters.{right_brace}
use Rattle.edit_syntax.specs.Grammar.{Value, basic, literal, multi_basic, multi_literal, boolean, integer, float, datetime, array, inline, Members, no_members, last_member, member}
use Rattle.edit_syntax.proofs.Members.{Among, among_append}
use Rattle.edit_tree.specs.Assertions.{Place}
use Rattle.edit_tree.specs.Statements.{PlacedPair, paired_members, paired_value}
use Rattle.edit_tree.specs.Written.{PlacedValue}

pub among_flat : {X Y : Type 0} (f : X → List Y) (y : Y) (xs : List X) → Among y (flat_map f xs)
    → (x : X) × Among x xs × Among y (f x)
among_flat f y [] m = absurd m
among_flat f y (x ∷ xs) m =
    ⊎_elim (λ l. (x, inl refl, l)) (λ r. let h = among_flat f y xs r in (h.0, inr h.1, h.2))
    (among_append y (f x) (flat_map f xs) m)

members_table : (p : PlacedPair) (table : Place) (ms : Members) (rest : List ℕ)
    → Among p (paired_members table ms rest)
    → p.table ≡ table
members_table p table no_members rest m = absurd m
members_table p table (last_member k a b v c) rest (inl e) = ap (λ (q : PlacedPair). q.table) e
members_table p table (last_member k a b v c) rest (inr m) = absurd m
members_table p table (member k a b v c d ms) rest (inl e) = ap (λ (q : PlacedPair). q.table) e
members_table p table (member k a b v c d ms) rest (inr m) = members_table p table ms rest m

pub value_table : (p : PlacedPair) (w : PlacedValue) → Among p (paired_value w) → p.table ≡ w.place
value_table p w = go w.value
  where
    go : (v : Value) → Among p (paired_value (record w { value = v })) → p.table ≡ w.place
    go (basic ps) m = absurd m
    go (literal t) m = absurd m
    go (multi_basic ps) m = absurd m
    go (multi_literal t) m = absurd m
    go (boolean b) m = absurd m
    go (integer n) m = absurd m
    go (float f) m = absurd m
    go (datetime d) m = absurd m
    go (array g es) m = absurd m
    go (inline g ms) m = members_table p w.place ms (right_brace ∷ w.after) m
