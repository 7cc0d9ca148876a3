-- Entries that qualify, the greatest of them, and their versions.
use Rattle.std.proofs.Common.{◌≡◌, ◌++◌, ◌∷◌, [], List, Option, Some, None, Bool, true, false, refl, ap, ◌∙◌, sym, inl, inr}
use Rattle.std.specs.Prelude.{All, is_some, unwrap_or}
use Rattle.std.specs.Cmp.{IsTotalOrder, on_total}
use Rattle.std.specs.List.{filter_map}
use Rattle.std.specs.Ordering.{is_le}
use Rattle.std.specs.declared.cmp.Ordering.TheVariants.{Less}
use Rattle.std.proofs.lemmas.Bool.{cases_Bool}
use Rattle.semver.specs.Parse.{Parts}
use Rattle.edit_version.specs.Admissible.{admissible, admissible_in, entry_order, if_passes, is_qualifying, version_in}
use Rattle.edit_version.specs.Greatest.{IsGreatest, IsGreatestItem}
use Rattle.edit_version.specs.IndexEntry.{IndexEntry}
use Rattle.edit_version.specs.RustVersions.{Numbers}
use Rattle.std.proofs.lemmas.List.Elements.{All-cons, All-head, All-nil, All-tail, filter_map-append}
use Rattle.semver.specs.Grammar.{IsValid}
use Rattle.semver.proofs.Grammar.{version_parts-sound}
use Rattle.edit_version.specs.VersionOrder.{full_order}
use Rattle.edit_version.proofs.QualifyingEntries.{admissible-version, read-parts}
use Rattle.edit_version.proofs.Orders.{full_total}

-- the order of entries is total
pub entry_total : IsTotalOrder entry_order
entry_total = on_total (λ (e : IndexEntry). unwrap_or (version_in e) (0, 0, 0, [], [])) full_total

weaker-passes : (test wide : Parts → Bool) → ((v : Parts) → test v ≡ true → wide v ≡ true)
    → (o : Option Parts)
    → is_some (if_passes test o) ≡ true → is_some (if_passes wide o) ≡ true
weaker-passes test wide more None h = h
weaker-passes test wide more (Some v) h = elim (cases_Bool (test v)) [
  | inl holds ↦ rw (more v holds) refl
  | inr fails ↦ cc (rw fails at h)
]

-- what a test keeps, a weaker test keeps
pub qualifies-weaker : (rust : Option Numbers) (test wide : Parts → Bool)
    → ((v : Parts) → test v ≡ true → wide v ≡ true) → (e : IndexEntry)
    → is_qualifying rust test e ≡ true → is_qualifying rust wide e ≡ true
qualifies-weaker rust test wide more e h = weaker-passes test wide more (admissible rust e) h

one-more : {X Y : Type 0} (P : X → Type 0) (Q : Y → Type 0) (f : X → Option Y)
    → ((x : X) (y : Y) → f x ≡ Some y → P x → Q y)
    → (x : X) (xs : List X) (o : Option Y) → f x ≡ o → P x → All Q (filter_map f xs)
    → All Q (filter_map f (x ∷ xs))
one-more P Q f step x xs None e p rest = rw e rest
one-more P Q f step x xs (Some y) e p rest = rw e (All-cons Q y (filter_map f xs) (step x y e p) rest)

All-filter_map : {X Y : Type 0} (P : X → Type 0) (Q : Y → Type 0) (f : X → Option Y)
    → ((x : X) (y : Y) → f x ≡ Some y → P x → Q y)
    → (xs : List X) → All P xs → All Q (filter_map f xs)
All-filter_map P Q f step [] h = All-nil Q
All-filter_map P Q f step (x ∷ xs) h =
    one-more P Q f step x xs (f x) refl (All-head P x xs h) (All-filter_map P Q f step xs (All-tail P x xs h))

-- the version of an admissible entry is one that `semver` reads
pub admissible-valid : (rust : Option Numbers) (e : IndexEntry) (v : Parts) → admissible rust e ≡ Some v
    → IsValid v
admissible-valid rust e v h = (version_parts-sound e.version v
    (read-parts e.version v (admissible-version rust e v h))).1

one-valid : (rust : Option Numbers) (e : IndexEntry) (es : List IndexEntry) (o : Option Parts)
    → admissible rust e ≡ o
    → All IsValid (admissible_in rust es) → All IsValid (admissible_in rust (e ∷ es))
one-valid rust e es None h rest = rw h rest
one-valid rust e es (Some v) h rest =
    rw h (All-cons IsValid v (admissible_in rust es) (admissible-valid rust e v h) rest)

-- so are all listed versions
pub all-valid : (rust : Option Numbers) (entries : List IndexEntry) → All IsValid (admissible_in rust entries)
all-valid rust [] = All-nil IsValid
all-valid rust (e ∷ es) = one-valid rust e es (admissible rust e) refl (all-valid rust es)

at-read : (rust : Option Numbers) (x e : IndexEntry) (u v : Parts) → admissible rust x ≡ Some u
    → admissible rust e ≡ Some v
    → entry_order x e ≡ full_order u v
at-read rust x e u v h g = rw (admissible-version rust x u h, admissible-version rust e v g) refl

qualifies-true : (rust : Option Numbers) (test : Parts → Bool) (e : IndexEntry) (v : Parts)
    → admissible rust e ≡ Some v → test v ≡ true → is_qualifying rust test e ≡ true
qualifies-true rust test e v h t = rw (h, t) refl

qualifies-false : (rust : Option Numbers) (test : Parts → Bool) (e : IndexEntry) (v : Parts)
    → admissible rust e ≡ Some v → is_qualifying rust test e ≡ false → test v ≡ false
qualifies-false rust test e v h f = elim (cases_Bool (test v)) [
  | inl holds ↦ cc (sym (qualifies-true rust test e v h holds) ∙ f)
  | inr fails ↦ fails
]

qualifies-some : (test : Parts → Bool) (o : Option Parts) → is_some (if_passes test o) ≡ true → (v : Parts)
    × (o ≡ Some v) × (test v ≡ true)
qualifies-some test None h = cc h
qualifies-some test (Some v) h = elim (cases_Bool (test v)) [
  | inl holds ↦ (v, refl, holds)
  | inr fails ↦ cc (rw fails at h)
]

-- the version of an entry that satisfies the condition
pub qualifies-has : (rust : Option Numbers) (test : Parts → Bool) (e : IndexEntry)
    → is_qualifying rust test e ≡ true
    → (v : Parts) × (admissible rust e ≡ Some v) × (test v ≡ true)
qualifies-has rust test e h = qualifies-some test (admissible rust e) h

-- where no entry satisfies the condition, none of the versions passes the test
pub none-versions : (rust : Option Numbers) (test : Parts → Bool) (entries : List IndexEntry)
    → IsGreatest (is_qualifying rust test) entry_order entries None
    → IsGreatest test full_order (admissible_in rust entries) None
none-versions rust test entries h =
    All-filter_map (λ e. is_qualifying rust test e ≡ false) (λ v. test v ≡ false) (admissible rust)
    (λ e v a f. qualifies-false rust test e v a f) entries h

-- the version of the greatest entry is the greatest of the versions
pub greatest-versions : (rust : Option Numbers) (test : Parts → Bool) (entries : List IndexEntry)
    (e : IndexEntry)
    → IsGreatestItem (is_qualifying rust test) entry_order entries e
    → (v : Parts) × (admissible rust e ≡ Some v)
    × IsGreatestItem test full_order (admissible_in rust entries) v
greatest-versions rust test entries e h =
    let k = qualifies-has rust test e h.qualifies in
    let whole : admissible_in rust entries ≡ admissible_in rust h.front ++ admissible_in rust (e ∷ h.rest) =
    ap (λ (l : List IndexEntry). admissible_in rust l) h.split
    ∙ filter_map-append (admissible rust) h.front (e ∷ h.rest) in
    let head : admissible_in rust (e ∷ h.rest) ≡ k.0 ∷ admissible_in rust h.rest = rw k.1 refl in (
      k.0,
      k.1,
      record {
        front = admissible_in rust h.front;
        rest = admissible_in rust h.rest;
        split = whole ∙ ap (λ (l : List Parts). admissible_in rust h.front ++ l) head;
        qualifies = k.2;
        before = All-filter_map (λ x. is_qualifying rust test x ≡ true → is_le (entry_order x e) ≡ true)
            (λ u. test u ≡ true → is_le (full_order u k.0) ≡ true)
            (admissible rust) (λ x u a p t. ap is_le (sym (at-read rust x e u k.0 a k.1))
            ∙ p (qualifies-true rust test x u a t)) h.front h.before;
        after = All-filter_map (λ x. is_qualifying rust test x ≡ true → entry_order x e ≡ Less) (λ u. test u ≡ true
            → full_order u k.0 ≡ Less)
            (admissible rust) (λ x u a p t. sym (at-read rust x e u k.0 a k.1)
            ∙ p (qualifies-true rust test x u a t)) h.rest h.after;
      },
    )
