-- Properties of precise versions: of equal greatest versions the last is taken, and the last argument of a
-- name counts.
use Rattle.std.proofs.Common.{◌≡◌, ◌∷◌, ◌++◌, ◌∙◌, [], List, ℕ, Bool, true, false, cond, Option, Some, None, ap, append-nil, append_assoc, refl, subst, sym}
use Rattle.std.specs.Prelude.{option_and_then}
use Rattle.std.specs.BTreeMap.{insert_entry}
use Rattle.std.specs.Cmp.Lexicographic.{slice_cmp}
use Rattle.std.specs.List.{fold}
use Rattle.std.specs.Map.{lookup}
use Rattle.std.specs.Ordering.{is_eq, match_ordering, nat_cmp}
use Rattle.std.specs.Str.{bytes_eq}
use Rattle.std.specs.declared.cmp.Ordering.{Ordering}
use Rattle.std.specs.declared.cmp.Ordering.TheVariants.{Less, Equal, Greater}
use Rattle.std.proofs.lemmas.List.Elements.{All-nil}
use Rattle.std.proofs.lemmas.Map.Text.{is_eq-slice_cmp}
use Rattle.semver.specs.Parse.{Parts}
use Rattle.edit_upgrade.proofs.Bytes.{same-eq, same-refl}
use Rattle.edit_version.proofs.Greatests.{advanced}
use Rattle.edit_version.proofs.Orders.{full_total}
use Rattle.edit_version.specs.CrateSpecs.{spec_name}
use Rattle.edit_version.specs.Greatest.{IsGreatest, advance}
use Rattle.edit_version.specs.VersionOrder.{full_order}
use Rattle.edit_upgrade.specs.Pins.{Pin, greatest, pin_at, pins_of, arg_pin}
use Rattle.edit_upgrade.proofs.Entries.{arg-more}

-- every version counts
abbrev every : Parts → Bool
every v = true

greatest-from : (done rest : List Parts) (best : Option Parts) → IsGreatest every full_order done best
    → IsGreatest every full_order (done ++ rest) (fold (advance every full_order) best rest)
greatest-from done [] best h =
    subst (λ (l : List Parts). IsGreatest every full_order l best) (sym (append-nil done)) h
greatest-from done (v ∷ vs) best h =
    subst (λ (l : List Parts). IsGreatest every full_order l (fold (advance every full_order) best (v ∷ vs)))
    (append_assoc done (v ∷ []) vs)
    (greatest-from (done ++ v ∷ []) vs (advance every full_order best v)
    (advanced every full_order full_total done v best h))

-- the greatest version is the last of the greatest
greatest-holds : (vs : List Parts) → IsGreatest every full_order vs (greatest vs)
greatest-holds vs = greatest-from [] vs None (All-nil (λ v. every v ≡ false))

cond-twice : {A : Type 0} (b : Bool) (x y z : A) → cond b x z ≡ cond b x (cond b y z)
cond-twice true x y z = refl
cond-twice false x y z = refl

cond-swap : {A : Type 0} (a b : Bool) (x y z : A) → (a ≡ true → b ≡ true → ⊥)
    → cond a x (cond b y z) ≡ cond b y (cond a x z)
cond-swap true true x y z apart = absurd (apart refl refl)
cond-swap true false x y z apart = refl
cond-swap false b x y z apart = refl

-- what a lookup finds after one more entry: before an entry, in its place, or after it
inserted-by : (name k : List ℕ) (pin : Option Pin) (e : List ℕ × Option Pin)
    (es new : List (List ℕ × Option Pin)) (o : Ordering) → slice_cmp nat_cmp k e.0 ≡ o
    → lookup (bytes_eq name) new ≡ cond (bytes_eq name k) (Some pin) (lookup (bytes_eq name) es)
    → lookup (bytes_eq name) (match_ordering o ((k, pin) ∷ e ∷ es) ((e.0, pin) ∷ es) (e ∷ new))
    ≡ cond (bytes_eq name k) (Some pin) (lookup (bytes_eq name) (e ∷ es))
inserted-by name k pin e es new Less h behind = refl
inserted-by name k pin e es new Equal h behind =
    let same : k ≡ e.0 = same-eq k e.0 (sym (is_eq-slice_cmp k e.0) ∙ ap is_eq h) in
    cond-twice (bytes_eq name e.0) (Some pin) (Some e.1) (lookup (bytes_eq name) es)
    ∙ ap (λ (key : List ℕ). cond (bytes_eq name key) (Some pin) (lookup (bytes_eq name) (e ∷ es))) (sym same)
inserted-by name k pin e es new Greater h behind =
    let apart : bytes_eq k e.0 ≡ false = sym (is_eq-slice_cmp k e.0) ∙ ap is_eq h in
    ap (cond (bytes_eq name e.0) (Some e.1)) behind
    ∙ cond-swap (bytes_eq name e.0) (bytes_eq name k) (Some e.1) (Some pin) (lookup (bytes_eq name) es)
    (λ p q. cc (sym (same-refl e.0)
    ∙ ap (λ (z : List ℕ). bytes_eq z e.0) (sym (same-eq name e.0 p) ∙ same-eq name k q) ∙ apart))

lookup-inserted : (name k : List ℕ) (pin : Option Pin) (es : List (List ℕ × Option Pin))
    → lookup (bytes_eq name) (insert_entry (slice_cmp nat_cmp) es k pin)
    ≡ cond (bytes_eq name k) (Some pin) (lookup (bytes_eq name) es)
lookup-inserted name k pin [] = refl
lookup-inserted name k pin (e ∷ es) =
    inserted-by name k pin e es (insert_entry (slice_cmp nat_cmp) es k pin) (slice_cmp nat_cmp k e.0) refl
    (lookup-inserted name k pin es)

joined-cond : (b : Bool) (pin : Option Pin) (o : Option (Option Pin))
    → option_and_then (λ p. p) (cond b (Some pin) o) ≡ cond b pin (option_and_then (λ p. p) o)
joined-cond true pin o = refl
joined-cond false pin o = refl

-- the last package argument of a name applies
last-stands : (args : List (List ℕ)) (arg name : List ℕ)
    → pin_at (pins_of (args ++ arg ∷ [])) name
    ≡ cond (bytes_eq name (spec_name arg)) (arg_pin arg) (pin_at (pins_of args) name)
last-stands args arg name =
    ap (λ es. pin_at es name) (arg-more args arg)
    ∙ ap (option_and_then (λ (p : Option Pin). p))
    (lookup-inserted name (spec_name arg) (arg_pin arg) (pins_of args))
    ∙ joined-cond (bytes_eq name (spec_name arg)) (arg_pin arg) (lookup (bytes_eq name) (pins_of args))
