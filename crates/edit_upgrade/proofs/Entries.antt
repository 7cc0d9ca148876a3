-- The entries of a map of names, after a lookup and after one more `--package` argument.
use Rattle.std.proofs.Common.{Global, ◌≡◌, ◌∷◌, ◌++◌, [], List, ℕ, Bool, true, false, cond, Option, Some, None, map, refl, ap, ◌∙◌, sym}
use Rattle.std.specs.Prelude.{String, option_and_then, option_map, string_bytes, string_cmp}
use Rattle.std.specs.BTreeMap.{insert_entry, is_at}
use Rattle.std.specs.Cmp.Lexicographic.{slice_cmp}
use Rattle.std.specs.List.{filter_map, cons_option}
use Rattle.std.specs.Map.{lookup}
use Rattle.std.specs.Ordering.{match_ordering, nat_cmp}
use Rattle.std.specs.Str.{bytes_eq}
use Rattle.std.specs.declared.cmp.Ordering.{Ordering}
use Rattle.std.specs.declared.cmp.Ordering.TheVariants.{Less, Equal, Greater}
use Rattle.std.proofs.lemmas.List.Elements.{filter_map-append}
use Rattle.std.proofs.lemmas.List.Sums.{fold-append}
use Rattle.std.proofs.lemmas.Map.Text.{is_eq-slice_cmp}
use Rattle.semver.specs.Parse.{Held, Parts}
use Rattle.edit_version.specs.Greatest.{advance, pick}
use Rattle.edit_version.specs.VersionOrder.{full_order}
use Rattle.edit_upgrade.specs.PinViews.{pin_entry_view, pin_view}
use Rattle.edit_upgrade.specs.Pins as spec
use Rattle.edit_upgrade.specs.Pins.{greatest, named_version, pin_at, pins_of, precise_version, with_package_arg}
use Rattle.edit_upgrade.specs.declared.update.pins.Pin.{Pin}

option-cond : {A B : Type 0} (f : A → B) (b : Bool) (x : A) (o : Option A)
    → cond b (Some (f x)) (option_map f o) ≡ option_map f (cond b (Some x) o)
option-cond f true x o = refl
option-cond f false x o = refl

-- what a lookup of a name finds
pub lookup-seen : (name : List ℕ) (es : List (String Global × Option Pin))
    → lookup (bytes_eq name) (map pin_entry_view es)
    ≡ option_map (option_map pin_view) (lookup (is_at (λ k. slice_cmp nat_cmp name (string_bytes k))) es)
lookup-seen name [] = refl
lookup-seen name (e ∷ es) =
    ap (cond (bytes_eq name (string_bytes e.0)) (Some (option_map pin_view e.1))) (lookup-seen name es)
    ∙ option-cond (option_map pin_view) (bytes_eq name (string_bytes e.0)) e.1
    (lookup (is_at (λ k. slice_cmp nat_cmp name (string_bytes k))) es)
    ∙ ap (λ b. option_map (option_map pin_view) (cond b (Some e.1)
    (lookup (is_at (λ k. slice_cmp nat_cmp name (string_bytes k))) es)))
    (sym (is_eq-slice_cmp name (string_bytes e.0)))

seen-by : (o : Ordering) (a b c a' b' c' : List (List ℕ × Option spec.Pin)) → a ≡ a' → b ≡ b' → c ≡ c'
    → match_ordering o a b c ≡ match_ordering o a' b' c'
seen-by Less a b c a' b' c' p q r = p
seen-by Equal a b c a' b' c' p q r = q
seen-by Greater a b c a' b' c' p q r = r

map-by : (o : Ordering) (a b c : List (String Global × Option Pin))
    → map pin_entry_view (match_ordering o a b c)
    ≡ match_ordering o (map pin_entry_view a) (map pin_entry_view b) (map pin_entry_view c)
map-by Less a b c = refl
map-by Equal a b c = refl
map-by Greater a b c = refl

-- an entry more
pub insert-seen : (es : List (String Global × Option Pin)) (name : String Global) (pin : Option Pin)
    → map pin_entry_view (insert_entry string_cmp es name pin)
    ≡ insert_entry (slice_cmp nat_cmp) (map pin_entry_view es) (string_bytes name) (option_map pin_view pin)
insert-seen [] name pin = refl
insert-seen (e ∷ es) name pin =
    map-by (string_cmp name e.0) ((name, pin) ∷ e ∷ es) ((e.0, pin) ∷ es)
    (e ∷ insert_entry string_cmp es name pin)
    ∙ seen-by (string_cmp name e.0) _ _ _ _ _ _ refl refl
    (ap (λ l. pin_entry_view e ∷ l) (insert-seen es name pin))

-- one more package argument
pub arg-more : (args : List (List ℕ)) (arg : List ℕ)
    → pins_of (args ++ arg ∷ []) ≡ with_package_arg (pins_of args) arg
arg-more args arg = fold-append with_package_arg [] args (arg ∷ [])

-- a comparator more
pub precise-more : (cs : List Held) (c : Held) (named : Option Parts) → named ≡ named_version c
    → precise_version (cs ++ c ∷ []) ≡ greatest (filter_map named_version cs ++ cons_option named [])
precise-more cs c named e =
    ap greatest (filter_map-append named_version cs (c ∷ []))
    ∙ ap (λ (o : Option Parts). greatest (filter_map named_version cs ++ cons_option o [])) (sym e)

-- a version more
pub greatest-more : (vs : List Parts) (v : Parts)
    → greatest (vs ++ v ∷ []) ≡ Some (pick full_order (greatest vs) v)
greatest-more vs v = fold-append (advance (λ w. true) full_order) None vs (v ∷ [])

-- the pin of a name that is there, and of one that is not
pub joined-seen : (name : List ℕ) (es : List (String Global × Option Pin)) (pin : Option Pin)
    → Some pin ≡ lookup (is_at (λ k. slice_cmp nat_cmp name (string_bytes k))) es
    → option_map pin_view pin ≡ pin_at (map pin_entry_view es) name
joined-seen name es pin found =
    ap (λ (o : Option (Option Pin)). option_and_then (λ p. p) (option_map (option_map pin_view) o)) found
    ∙ ap (option_and_then (λ (p : Option spec.Pin). p)) (sym (lookup-seen name es))

pub missing-seen : (name : List ℕ) (es : List (String Global × Option Pin))
    → None ≡ lookup (is_at (λ k. slice_cmp nat_cmp name (string_bytes k))) es
    → None ≡ pin_at (map pin_entry_view es) name
missing-seen name es missing =
    ap (λ (o : Option (Option Pin)). option_and_then (λ p. p) (option_map (option_map pin_view) o)) missing
    ∙ ap (option_and_then (λ (p : Option spec.Pin). p)) (sym (lookup-seen name es))
