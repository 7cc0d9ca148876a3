-- The value of a name in a JSON object after one more member was put into it.
use Rattle.std.proofs.Common.{◌≡◌, ℕ, List, Some, None, Ordering, Less, Equal, Greater, nat_cmp, is_eq, Bool, true, false, bytes_eq, true≢false, ◌⊎◌, inl, inr, refl, sym, ap, ◌∙◌}
use Rattle.std.proofs.lemmas.Map.Text.{is_eq-slice_cmp}
use Rattle.std.proofs.lemmas.Slice.Eq.{bytes_eq-Decides}
use Rattle.std.specs.Cmp.Lexicographic.{slice_cmp}
use Rattle.std.specs.Ordering.{match_ordering}
use Rattle.serde_json.specs.Data.{Data, Members, no_members, member, put}
use Rattle.serde_json.specs.Find.{get_member}
use Rattle.serde_json.proofs.Views.{get_member-put}

skip : {A : Type 0} (o : Ordering) (a b : A) → is_eq o ≡ false → match_ordering o a b a ≡ a
skip Less a b h = refl
skip Equal a b h = absurd (true≢false h)
skip Greater a b h = refl

apart : (j k : List ℕ) → bytes_eq j k ≡ false → is_eq (slice_cmp nat_cmp j k) ≡ false
apart j k h = is_eq-slice_cmp j k ∙ h

same_eq : (k l : List ℕ) → slice_cmp nat_cmp k l ≡ Equal → bytes_eq k l ≡ true
same_eq k l e = sym (is_eq-slice_cmp k l) ∙ ap is_eq e

pub put_at : (o : Ordering) (j k l : List ℕ) (d e : Data) (ms : Members) → slice_cmp nat_cmp k l ≡ o
    → bytes_eq j k ≡ false → bytes_eq j l ≡ false ⊎ (o ≡ Equal → ⊥)
    → get_member j (put k d ms) ≡ get_member j ms
    → get_member j (match_ordering o (member k d (member l e ms)) (member l d ms) (member l e (put k d ms))) ≡ get_member j (member l e ms)
put_at Less j k l d e ms is h m later = skip (slice_cmp nat_cmp j k) (get_member j (member l e ms)) (Some d) (apart j k h)
put_at Equal j k l d e ms is h (inl m) later = skip (slice_cmp nat_cmp j l) (get_member j ms) (Some d) (apart j l m) ∙ sym (skip (slice_cmp nat_cmp j l) (get_member j ms) (Some e) (apart j l m))
put_at Equal j k l d e ms is h (inr m) later = absurd (m refl)
put_at Greater j k l d e ms is h m later = ap (λ y. match_ordering (slice_cmp nat_cmp j l) y (Some e) y) later

beside : (o : Ordering) (j k l : List ℕ) → slice_cmp nat_cmp k l ≡ o → bytes_eq j k ≡ false
    → bytes_eq j l ≡ false ⊎ (o ≡ Equal → ⊥)
beside Less j k l is h = inr (λ e. cc)
beside Equal j k l is h = inl (ap (bytes_eq j) (sym ((bytes_eq-Decides k l).0 (same_eq k l is))) ∙ h)
beside Greater j k l is h = inr (λ e. cc)

-- the value of another name is unchanged
pub put_other : (j k : List ℕ) (d : Data) (ms : Members) → bytes_eq j k ≡ false
    → get_member j (put k d ms) ≡ get_member j ms
put_other j k d no_members h = skip (slice_cmp nat_cmp j k) None (Some d) (apart j k h)
put_other j k d (member l e ms) h = put_at _ j k l d e ms refl h (beside _ j k l refl h) (put_other j k d ms h)

pub at_key : (k key : List ℕ) (d : Data) (ms : Members) → key ≡ k → get_member k (put key d ms) ≡ Some d
at_key k key d ms is = ap (λ x. get_member k (put x d ms)) is ∙ get_member-put k d ms

pub off_key : (j k key : List ℕ) (d : Data) (ms : Members) → key ≡ k → bytes_eq j k ≡ false
    → get_member j (put key d ms) ≡ get_member j ms
off_key j k key d ms is h = ap (λ x. get_member j (put x d ms)) is ∙ put_other j k d ms h

unequal : (b : Bool) (j key : List ℕ) → b ≡ bytes_eq j key → (key ≡ j → ⊥) → b ≡ false
unequal true j key is h = absurd (h (sym ((bytes_eq-Decides j key).0 (sym is))))
unequal false j key is h = refl

-- the value of a name that differs from the key is unchanged
pub not_key : (j key : List ℕ) (d : Data) (ms : Members) → (key ≡ j → ⊥)
    → get_member j (put key d ms) ≡ get_member j ms
not_key j key d ms h = put_other j key d ms (unequal (bytes_eq j key) j key refl h)
