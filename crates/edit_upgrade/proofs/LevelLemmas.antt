-- The versions within a level of a requirement, before and after a change.
use Rattle.std.proofs.Common.{◌≡◌, List, ℕ, Option, Some, None, true, refl, ap, ◌∙◌, sym, subst}
use Rattle.std.specs.Prelude.{All, is_ok}
use Rattle.std.proofs.lemmas.List.Elements.{All-filter, filter_passes}
use Rattle.semver.specs.Grammar.{IsValid}
use Rattle.semver.specs.Parse.{Parts, req_of}
use Rattle.edit_version.specs.Greatest.{IsGreatestItem}
use Rattle.edit_version.specs.Levels.{is_within, versions_within}
use Rattle.edit_version.specs.Requirement.{Nothing, UpgradeResult, Text, Unread, Unsupported, plain_text, upgrade_of}
use Rattle.edit_version.specs.Selection.{IsCompatible, IsLatest, is_admitted, is_offered}
use Rattle.edit_version.specs.VersionOrder.{full_order}
use Rattle.edit_version.specs.declared.levels.Level.{Level}
use Rattle.edit_version.proofs.LevelLaws.{plain-greatest, plain-narrower, raised-versions, raised-within}
use Rattle.edit_version.proofs.Orders.{greatest-has}
use Rattle.edit_version.proofs.Outcomes.{valid-version}
use Rattle.edit_report.specs.declared.row.Change.TheVariants as change
use Rattle.edit_upgrade.specs.Decision.{Case, compatible_text, decision, is_set_aside, is_too_low, latest_text, may_jump, newer, text_or, unless, some_if}
use Rattle.edit_upgrade.specs.declared.decision.options.Options.{Options}
use Rattle.edit_upgrade.proofs.TakenVersions.{compatible-taken, far-some, far_text, latest-taken, near-some, newer-latest, unless-some, some_if-some}

-- ---- the versions within a level

-- they are within it
pub all-within : (l : Option Level) (old : List ℕ) (all : List Parts)
    → All (λ v. is_within l old v ≡ true) (versions_within l old all)
all-within l old all = filter_passes (is_within l old) all

-- they are as valid as all versions
pub valid-within : (l : Option Level) (old : List ℕ) (all : List Parts) → All IsValid all
    → All IsValid (versions_within l old all)
valid-within l old all h = All-filter (is_within l old) IsValid all h

-- ---- the same versions after a change

no-text : {P : Type 0} (t : List ℕ) → None ≡ Some t → P
no-text t h = cc h

some-text : (s t : List ℕ) → Some s ≡ Some t → s ≡ t
some-text s t h = cc h

-- what the compatible version was written into has the same versions within the level
compatible-by : (l : Option Level) (old t : List ℕ) (u : Parts) (all : List Parts) (r : UpgradeResult)
    → IsValid u → is_within l old u ≡ true → upgrade_of old u ≡ r → text_or old r ≡ Some t
    → versions_within l t all ≡ versions_within l old all
compatible-by l old t u all Unread valid h e q = no-text t q
compatible-by l old t u all Nothing valid h e q = no-text t q
compatible-by l old t u all (Unsupported d) valid h e q =
    ap (λ (x : List ℕ). versions_within l x all) (sym (some-text old t q))
compatible-by l old t u all (Text s) valid h e q =
    raised-versions l old t u all (valid-version u valid) (e ∙ ap Text (some-text s t q)) h

pub compatible-same : (l : Option Level) (old t : List ℕ) (u : Parts) (all : List Parts) → All IsValid all
    → IsCompatible old (versions_within l old all) (Some u) → text_or old (upgrade_of old u) ≡ Some t
    → versions_within l t all ≡ versions_within l old all
compatible-same l old t u all valid near q =
    let xs = versions_within l old all in
    compatible-by l old t u all (upgrade_of old u)
    (greatest-has IsValid (is_admitted old) xs u (valid-within l old all valid) near)
    (greatest-has (λ v. is_within l old v ≡ true) (is_admitted old) xs u (all-within l old all) near) refl q

-- what the latest version was written into has it as the greatest version within the level
latest-by : (l : Option Level) (old t : List ℕ) (v : Parts) (all : List Parts) (r : UpgradeResult)
    → IsValid v → is_within l old v ≡ true → upgrade_of old v ≡ r → text_or (plain_text v) r ≡ Some t
    → IsGreatestItem (is_offered old) full_order (versions_within l old all) v
    → IsGreatestItem (is_offered old) full_order (versions_within l t all) v
latest-by l old t v all Unread valid h e q far = no-text t q
latest-by l old t v all Nothing valid h e q far = no-text t q
latest-by l old t v all (Unsupported d) valid h e q far =
    subst (λ (x : List ℕ). IsGreatestItem (is_offered old) full_order (versions_within l x all) v)
    (some-text (plain_text v) t q) (plain-greatest l old v all (is_offered old) valid h far)
latest-by l old t v all (Text s) valid h e q far =
    subst (λ (xs : List Parts). IsGreatestItem (is_offered old) full_order xs v)
    (sym (raised-versions l old t v all (valid-version v valid) (e ∙ ap Text (some-text s t q)) h)) far

pub latest-left : (l : Option Level) (old t : List ℕ) (near far : Option Parts) (all : List Parts)
    → All IsValid all → IsLatest old (versions_within l old all) far → far_text old far near ≡ Some t
    → IsLatest old (versions_within l t all) far
latest-left l old t near far all valid islatest q =
    let xs = versions_within l old all in
    let f = far-some old t far near q in
    let is = newer-latest far near f.0 f.1 in
    let item = subst (λ (x : Option Parts). IsLatest old xs x) is islatest in
    subst (λ (x : Option Parts). IsLatest old (versions_within l t all) x) (sym is)
    (latest-by l old t f.0 all (upgrade_of old f.0)
    (greatest-has IsValid (is_offered old) xs f.0 (valid-within l old all valid) item)
    (greatest-has (λ v. is_within l old v ≡ true) (is_offered old) xs f.0 (all-within l old all) item) refl
    f.2 item)

-- ---- the versions of a change

-- what is within the level of a new text is within that of the old one
abbrev pub Bounds : Option Level → List ℕ → List ℕ → Type 0
Bounds l old new = (w : Parts) → is_within l new w ≡ true → is_within l old w ≡ true

compatible-bounds : (l : Option Level) (old t : List ℕ) (u : Parts) (r : UpgradeResult) → IsValid u
    → is_within l old u ≡ true → upgrade_of old u ≡ r → text_or old r ≡ Some t → Bounds l old t
compatible-bounds l old t u Unread valid h e q = no-text t q
compatible-bounds l old t u Nothing valid h e q = no-text t q
compatible-bounds l old t u (Unsupported d) valid h e q =
    let same = some-text old t q in
    λ w k. ap (λ (x : List ℕ). is_within l x w) same ∙ k
compatible-bounds l old t u (Text s) valid h e q =
    let raised = e ∙ ap Text (some-text s t q) in
    λ w k. sym (raised-within l old t u (valid-version u valid) raised h w) ∙ k

latest-bounds : (l : Option Level) (old t : List ℕ) (v : Parts) (r : UpgradeResult) → IsValid v
    → is_within l old v ≡ true → upgrade_of old v ≡ r → text_or (plain_text v) r ≡ Some t → Bounds l old t
latest-bounds l old t v Unread valid h e q = no-text t q
latest-bounds l old t v Nothing valid h e q = no-text t q
latest-bounds l old t v (Unsupported d) valid h e q =
    subst (λ (x : List ℕ). Bounds l old x) (some-text (plain_text v) t q)
    (λ w k. plain-narrower l old v w valid h k)
latest-bounds l old t v (Text s) valid h e q =
    let raised = e ∙ ap Text (some-text s t q) in
    λ w k. sym (raised-within l old t v (valid-version v valid) raised h w) ∙ k

-- a change to the compatible version, where each version is within the level
pub compatible-stays : (o : Options) (l : Option Level) (xs : List Parts) (c : Case) → All IsValid xs
    → All (λ v. is_within l c.old v ≡ true) xs → IsCompatible c.old xs c.compatible
    → (decision o c).change ≡ Some change.Compatible
    → (u : Parts) × IsValid u × (c.compatible ≡ Some u) × (is_within l c.old u ≡ true)
    × Bounds l c.old (decision o c).new
compatible-stays o l xs c valid within iscomp h =
    let k = compatible-taken c.old c.excluded (unless (is_set_aside o c) c.selected) (is_ok (req_of c.old))
    (some_if (may_jump o c) (latest_text c))
    (some_if o.compatible (compatible_text c)) h in
    let n = near-some o c.old k.0 c.compatible k.1 in
    let near = subst (λ (x : Option Parts). IsCompatible c.old xs x) n.1 iscomp in
    let u = greatest-has IsValid (is_admitted c.old) xs n.0 valid near in
    let i = greatest-has (λ v. is_within l c.old v ≡ true) (is_admitted c.old) xs n.0 within near in (
      n.0,
      u,
      n.1,
      i,
      subst (λ (x : List ℕ). Bounds l c.old x) (sym k.2)
          (compatible-bounds l c.old k.0 n.0 (upgrade_of c.old n.0) u i refl n.2),
    )

-- a change to the latest version
pub latest-stays : (o : Options) (l : Option Level) (xs : List Parts) (c : Case) → All IsValid xs
    → All (λ v. is_within l c.old v ≡ true) xs → IsLatest c.old xs c.latest
    → (decision o c).change ≡ Some change.Latest
    → (v : Parts) × IsValid v × (newer c.latest c.compatible ≡ Some v) × (is_within l c.old v ≡ true)
    × Bounds l c.old (decision o c).new
latest-stays o l xs c valid within islatest h =
    let k = latest-taken c.old c.excluded (unless (is_set_aside o c) c.selected) (is_ok (req_of c.old))
    (some_if (may_jump o c) (latest_text c))
    (some_if o.compatible (compatible_text c)) h in
    let u = unless-some (is_too_low c.never_lower c.old (newer c.latest c.compatible))
    (far_text c.old c.latest c.compatible) k.0
    (some_if-some (may_jump o c) (latest_text c) k.0 k.1) in
    let f = far-some c.old k.0 c.latest c.compatible u.1 in
    let far = subst (λ (x : Option Parts). IsLatest c.old xs x)
    (newer-latest c.latest c.compatible f.0 f.1) islatest in
    let v = greatest-has IsValid (is_offered c.old) xs f.0 valid far in
    let i = greatest-has (λ v. is_within l c.old v ≡ true) (is_offered c.old) xs f.0 within far in (
      f.0,
      v,
      f.1,
      i,
      subst (λ (x : List ℕ). Bounds l c.old x) (sym k.2)
          (latest-bounds l c.old k.0 f.0 (upgrade_of c.old f.0) v i refl f.2),
    )
