-- Deciding again over the same versions within a level, where no requirement was given, changes nothing.
use Rattle.std.proofs.Common.{◌≡◌, ◌∷◌, [], List, ℕ, Option, Some, None, Bool, true, false, map, refl, ap, ◌∙◌, sym, subst, inl, inr}
use Rattle.std.specs.Prelude.{All, nat_eq, ◌||◌, if◌then◌else◌, is_ok, is_some}
use Rattle.std.specs.Cmp.Lexicographic.{nat_list_eq_equiv, pointwise}
use Rattle.std.specs.List.{list_any}
use Rattle.std.proofs.lemmas.Bool.{cases_Bool}
use Rattle.semver.specs.Grammar.{IsValid}
use Rattle.semver.specs.Parse.{Held, Parts, req_of}
use Rattle.semver.specs.declared.Op.{Op}
use Rattle.edit_version.specs.Laws.{HasSameOperators}
use Rattle.edit_version.specs.declared.levels.Level.{Level}
use Rattle.edit_version.specs.Levels.{versions_within}
use Rattle.edit_version.specs.Requirement.{Nothing, UpgradeResult, Text, Unread, Unsupported, upgrade_of}
use Rattle.edit_version.specs.Selection.{IsCompatible, IsLatest, is_admitted, is_offered}
use Rattle.edit_version.proofs.Orders.{greatest-has, greatest-same}
use Rattle.edit_version.proofs.Outcomes.{form-of, text-outcome, valid-version}
use Rattle.edit_upgrade.specs.Decision.{Case, decision, first_row, has_pin_read, is_pin, is_too_low, newer, row_change, row_of, row_text, text_or, unless, some_if}
use Rattle.edit_upgrade.specs.Records.{RowEntry}
use Rattle.edit_upgrade.specs.Rows.{case_for}
use Rattle.edit_upgrade.specs.EntrySelection.{is_excluded, requirement_for}
use Rattle.edit_upgrade.specs.declared.decision.options.Options.{Options}
use Rattle.edit_upgrade.proofs.LevelLemmas.{compatible-same, latest-left, valid-within}
use Rattle.edit_upgrade.proofs.LowAgain.{low-again}
use Rattle.edit_upgrade.proofs.Narrowing.{latest-lands}
use Rattle.edit_upgrade.proofs.RaisedAgain.{compatible-far, compatible-near, latest-settles}
use Rattle.edit_upgrade.proofs.TakenVersions.{far-some, far_text, near-some, near_text, newer-latest, unless-some, some_if-some}

-- ---- pinned entries

-- pinning depends on operators alone
pin-map : (cs : List Held)
    → list_any (λ (c : Held). is_pin c.0) cs ≡ list_any is_pin (map (λ (c : Held). c.0) cs)
pin-map [] = refl
pin-map (c ∷ cs) = ap (λ b. is_pin c.0 || b) (pin-map cs)

-- requirements with the same operators pin alike
pin-same : (old new : List ℕ) → HasSameOperators old new
    → has_pin_read (req_of new) ≡ has_pin_read (req_of old)
pin-same old new h =
    let a : has_pin_read (req_of new) ≡ list_any is_pin (map (λ (c : Held). c.0) h.1) = ap has_pin_read h.3
    ∙ pin-map h.1 in
    let b : has_pin_read (req_of old) ≡ list_any is_pin (map (λ (c : Held). c.0) h.0) = ap has_pin_read h.2
    ∙ pin-map h.0 in
    a ∙ ap (λ (l : List Op). list_any is_pin l) h.4 ∙ sym b

-- ---- the second decision

-- a case without a given requirement
abbrev pub case_of : Bool → Bool → Bool → List ℕ → Option Parts → Option Parts → Case
case_of x r m old near far =
    record {
      excluded = x;
      renamed = r;
      never_lower = m;
      selected = None;
      old = old;
      compatible = near;
      latest = far;
    }

-- where package arguments give no requirement, the decision for an entry is one without
pub case-plain : (o : Options) (e : RowEntry) (old : List ℕ) (near far : Option Parts)
    → requirement_for o e.name ≡ None
    → case_for o e old near far ≡ case_of (is_excluded o e.name) (is_some e.rename) o.never_lower old near far
case-plain o e old near far h =
    ap (λ (s : Option (List ℕ)). record (case_for o e old near far) { selected = s }) h

-- whether the entry may change to the latest version
abbrev jump : Options → Bool → List ℕ → Bool
jump o r old = if r || has_pin_read (req_of old) then o.pinned else o.incompatible

-- nothing may be written where there is nothing
some_if-none : (b : Bool) → some_if {A = List ℕ} b None ≡ None
some_if-none true = refl
some_if-none false = refl

-- nothing is written where it may not be
some_if-off : (b : Bool) (a : Option (List ℕ)) → b ≡ false → some_if b a ≡ None
some_if-off b a h = rw h refl

-- where it may be and nothing is, there is nothing
some_if-on : (b : Bool) (a : Option (List ℕ)) → b ≡ true → some_if b a ≡ None → a ≡ None
some_if-on b a e h = rw e at h

-- without another text nothing changes
rest-none : (old : List ℕ) (x b : Bool) → row_change old (first_row x None b None None) ≡ None
rest-none old true b = refl
rest-none old false true = refl
rest-none old false false = refl

-- the text for the latest version, where that is not too low
abbrev far_for : Bool → List ℕ → Option Parts → Option Parts → Option (List ℕ)
far_for m t far near = unless (is_too_low m t (newer far near)) (far_text t far near)

-- without a text there is none that is not too low
quiet-for : (b low : Bool) (a : Option (List ℕ)) → a ≡ None → some_if b (unless low a) ≡ None
quiet-for true true a h = refl
quiet-for true false a h = h
quiet-for false low a h = refl

-- where no other text can be written, the text stays
stays : (o : Options) (x r m : Bool) (t : List ℕ) (near far : Option Parts)
    → some_if (jump o r t) (far_for m t far near) ≡ None
    → some_if o.compatible (near_text t near) ≡ None
    → row_change t (row_of o (case_of x r m t near far)) ≡ None
stays o x r m t near far h g = rw (h, g) (rest-none t x (is_ok (req_of t)))

-- the latest version was written
latest-row : (o : Options) (r m : Bool) (xs : List Parts) (old t : List ℕ)
    (near0 far0 near far : Option Parts) → All IsValid xs
    → IsLatest old xs far0 → far_text old far0 near0 ≡ Some t → IsCompatible t xs near → IsLatest t xs far
    → row_change t (row_of o (case_of false r m t near far)) ≡ None
latest-row o r m xs old t near0 far0 near far all islatest h isnear isfar =
    let f = far-some old t far0 near0 h in
    let qualifies = subst (λ (x : Option Parts). IsLatest old xs x) (newer-latest far0 near0 f.0 f.1) islatest in
    let l = latest-lands old f.0 t (greatest-has IsValid (is_offered old) xs f.0 all qualifies) qualifies.qualifies f.2 in
    let s = latest-settles xs old t f.0 far near l qualifies isfar isnear in
    stays o false r m t near far
    (quiet-for (jump o r t) (is_too_low m t (newer far near)) (far_text t far near) s.0)
    (ap (λ (x : Option (List ℕ)). some_if o.compatible x) s.1 ∙ some_if-none o.compatible)

-- writing the old text is no change
self-none : (o : Options) (r m : Bool) (old : List ℕ) (near far : Option Parts) → is_ok (req_of old) ≡ true
    → some_if (jump o r old) (far_for m old far near) ≡ None
    → some_if o.compatible (near_text old near) ≡ Some old
    → row_change old (row_of o (case_of false r m old near far)) ≡ None
self-none o r m old near far b h g =
    let self : pointwise nat_eq old old ≡ true = nat_list_eq_equiv.refl old in
    rw (b, h, g, self) refl

-- after the compatible version was written, no later one that is not too low is
for-compatible : (o : Options) (r m : Bool) (xs : List Parts) (old t : List ℕ) (u : Parts)
    (far0 far : Option Parts) → All IsValid xs
    → upgrade_of old u ≡ Text t → IsCompatible old xs (Some u) → IsLatest old xs far0
    → far_for m old far0 (Some u) ≡ None → IsLatest t xs far
    → some_if (jump o r t) (far_for m t far (Some u)) ≡ None
for-compatible o r m xs old t u far0 far all raised near islatest none isfar =
    elim (cases_Bool (is_too_low m old (newer far0 (Some u)))) [
      | inl low ↦
          let again = low-again m xs old t u far0 far all raised near islatest low isfar in
          rw again (some_if-none (jump o r t))
      | inr high ↦
          let first : far_text old far0 (Some u) ≡ None = rw high at none in
          quiet-for (jump o r t) (is_too_low m t (newer far (Some u))) (far_text t far (Some u))
          (compatible-far xs old t u far0 far all raised near islatest first isfar)
    ]

-- the compatible version was written
compatible-row : (o : Options) (r m : Bool) (xs : List Parts) (old t : List ℕ) (u : Parts)
    (far0 near far : Option Parts) (raised : UpgradeResult)
    → All IsValid xs → is_ok (req_of old) ≡ true → upgrade_of old u ≡ raised → text_or old raised ≡ Some t
    → IsCompatible old xs (Some u) → IsLatest old xs far0
    → some_if (jump o r old) (far_for m old far0 (Some u)) ≡ None
    → some_if o.compatible (near_text old (Some u)) ≡ Some t
    → IsCompatible t xs near → IsLatest t xs far
    → row_change t (row_of o (case_of false r m t near far)) ≡ None
compatible-row o r m xs old t u far0 near far Unread all b e h iscomp islatest none some isnear isfar = cc h
compatible-row o r m xs old t u far0 near far Nothing all b e h iscomp islatest none some isnear isfar = cc h
compatible-row o r m xs old t u far0 near far
    (Unsupported d) all b e h iscomp islatest none some isnear isfar =
    let same : old ≡ t = cc h in
    let near1 = subst (λ (x : List ℕ). IsCompatible x xs near) (sym same) isnear in
    let far1 = subst (λ (x : List ℕ). IsLatest x xs far) (sym same) isfar in
    let n : near ≡ Some u = greatest-same (is_admitted old) xs near (Some u) near1 iscomp in
    let f : far ≡ far0 = greatest-same (is_offered old) xs far far0 far1 islatest in
    subst (λ (x : List ℕ). row_change x (row_of o (case_of false r m x near far)) ≡ None) same
    (self-none o r m old near far b
    (ap (λ (x : Option Parts). some_if (jump o r old) (far_for m old x near)) f
    ∙ ap (λ (x : Option Parts). some_if (jump o r old) (far_for m old far0 x)) n ∙ none)
    (ap (λ (x : Option Parts). some_if o.compatible (near_text old x)) n ∙ some
    ∙ ap (λ (x : List ℕ). Some x) (sym same)))
compatible-row o r m xs old t u far0 near far (Text s) all b e h iscomp islatest none some isnear isfar =
    let same : s ≡ t = cc h in
    let raised : upgrade_of old u ≡ Text t = e ∙ ap Text same in
    let c = compatible-near xs old t u near all raised iscomp isnear in
    let valid = greatest-has IsValid (is_admitted old) xs u all iscomp in
    let pins = pin-same old t (form-of old u t (valid-version u valid) (text-outcome old u t raised)).0 in
    let jumps : jump o r t ≡ jump o r old = ap
    (λ (p : Bool). if r || p then o.pinned else o.incompatible) pins in
    let quiet : some_if (jump o r t) (far_for m t far near) ≡ None = elim (cases_Bool (jump o r old)) [
      | inl on ↦
          let first = some_if-on (jump o r old) (far_for m old far0 (Some u)) on none in
          ap (λ (x : Option Parts). some_if (jump o r t) (far_for m t far x)) c.0
          ∙ for-compatible o r m xs old t u far0 far all raised iscomp islatest first isfar
      | inr off ↦ some_if-off (jump o r t) (far_for m t far near) (jumps ∙ off)
    ] in
    stays o false r m t near far quiet
    (ap (λ (x : Option (List ℕ)). some_if o.compatible x) c.1 ∙ some_if-none o.compatible)

-- the text that stands in a row that was the first to hold
abbrev stands : Bool → List ℕ → Bool → Option (List ℕ) → Option (List ℕ) → List ℕ
stands x old b l c = row_text old (first_row x None b l c)

-- the versions within a level of a requirement
abbrev left : Option Level → List ℕ → List Parts → List Parts
left bound text xs = versions_within bound text xs

-- whichever text the entry got, it stays
rows : (o : Options) (bound : Option Level) (x r m : Bool) (xs : List Parts) (old : List ℕ) (near0 far0 near far : Option Parts)
    (b : Bool) (l c : Option (List ℕ))
    → All IsValid xs → IsCompatible old (left bound old xs) near0 → IsLatest old (left bound old xs) far0
    → is_ok (req_of old) ≡ b → some_if (jump o r old) (far_for m old far0 near0) ≡ l
    → some_if o.compatible (near_text old near0) ≡ c
    → IsCompatible (stands x old b l c) (left bound (stands x old b l c) xs) near
    → IsLatest (stands x old b l c) (left bound (stands x old b l c) xs) far
    → row_change (stands x old b l c) (row_of o (case_of x r m (stands x old b l c) near far)) ≡ None
rows o bound true r m xs old near0 far0 near far b l c all iscomp islatest p q s isnear isfar = refl
rows o bound false r m xs old near0 far0 near far false l c all iscomp islatest p q s isnear isfar = rw p refl
rows o bound false r m xs old near0 far0 near far true (Some t) c all iscomp islatest p q s isnear isfar =
    let u = unless-some (is_too_low m old (newer far0 near0)) (far_text old far0 near0) t
    (some_if-some (jump o r old) (far_for m old far0 near0) t q) in
    latest-row o r m (left bound t xs) old t near0 far0 near far (valid-within bound t xs all)
    (latest-left bound old t near0 far0 xs all islatest u.1) u.1 isnear isfar
rows o bound false r m xs old near0 far0 near far true None (Some t) all iscomp islatest p q s isnear isfar =
    let n = near-some o old t near0 s in
    let first = subst (λ (y : Option Parts). IsCompatible old (left bound old xs) y) n.1 iscomp in
    let none = subst (λ (y : Option Parts). some_if (jump o r old) (far_for m old far0 y) ≡ None) n.1 q in
    let some = subst (λ (y : Option Parts). some_if o.compatible (near_text old y) ≡ Some t) n.1 s in
    let same = compatible-same bound old t n.0 xs all first n.2 in
    compatible-row o r m (left bound old xs) old t n.0 far0 near far
    (upgrade_of old n.0) (valid-within bound old xs all) p refl n.2 first islatest none some
    (subst (λ (ys : List Parts). IsCompatible t ys near) same isnear)
    (subst (λ (ys : List Parts). IsLatest t ys far) same isfar)
rows o bound false r m xs old near0 far0 near far true None None all iscomp islatest p q s isnear isfar =
    let n : near ≡ near0 = greatest-same (is_admitted old) (left bound old xs) near near0 isnear iscomp in
    let f : far ≡ far0 = greatest-same (is_offered old) (left bound old xs) far far0 isfar islatest in
    stays o false r m old near far
    (ap (λ (y : Option Parts). some_if (jump o r old) (far_for m old y near)) f
    ∙ ap (λ (y : Option Parts). some_if (jump o r old) (far_for m old far0 y)) n ∙ q)
    (ap (λ (y : Option Parts). some_if o.compatible (near_text old y)) n ∙ s)

-- the requirement that an entry got, decided again, stays
pub again : (o : Options) (bound : Option Level) (x r m : Bool) (xs : List Parts) (old : List ℕ)
    (near0 far0 near far : Option Parts) → All IsValid xs
    → IsCompatible old (left bound old xs) near0 → IsLatest old (left bound old xs) far0
    → IsCompatible (decision o (case_of x r m old near0 far0)).new
    (left bound (decision o (case_of x r m old near0 far0)).new xs) near
    → IsLatest (decision o (case_of x r m old near0 far0)).new
    (left bound (decision o (case_of x r m old near0 far0)).new xs) far
    → (decision o (case_of x r m (decision o (case_of x r m old near0 far0)).new near far)).change ≡ None
again o bound x r m xs old near0 far0 near far all iscomp islatest isnear isfar =
    rows o bound x r m xs old near0 far0 near far (is_ok (req_of old))
    (some_if (jump o r old) (far_for m old far0 near0)) (some_if o.compatible (near_text old near0))
    all iscomp islatest refl refl refl isnear isfar
