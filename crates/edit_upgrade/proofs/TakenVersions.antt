-- Which candidate text a decision takes, and for which version.
use Rattle.std.proofs.Common.{◌≡◌, List, ℕ, Option, Some, None, Bool, true, false, refl, inl, inr}
use Rattle.std.specs.Prelude.{nat_eq, option_and_then}
use Rattle.std.specs.Cmp.Lexicographic.{pointwise}
use Rattle.std.proofs.lemmas.Bool.{cases_Bool}
use Rattle.semver.specs.Parse.{Parts}
use Rattle.edit_version.specs.Requirement.{plain_text, upgrade_of}
use Rattle.edit_upgrade.specs.Decision.{first_row, newer, row_change, row_text, text_or, unless, unless_old, some_if}
use Rattle.edit_report.specs.declared.row.Change.{Change}
use Rattle.edit_report.specs.declared.row.Change.TheVariants as change
use Rattle.edit_upgrade.specs.declared.decision.options.Options.{Options}

-- the texts that could be written, for a requirement and its two versions
abbrev pub far_text : List ℕ → Option Parts → Option Parts → Option (List ℕ)
far_text t far near = option_and_then (λ v. text_or (plain_text v) (upgrade_of t v)) (newer far near)

-- the same for the compatible version
abbrev pub near_text : List ℕ → Option Parts → Option (List ℕ)
near_text t near = option_and_then (λ v. text_or t (upgrade_of t v)) near

-- a text that may be written is there
pub some_if-some : (b : Bool) (a : Option (List ℕ)) (t : List ℕ) → some_if b a ≡ Some t → a ≡ Some t
some_if-some true a t h = h
some_if-some false a t h = cc h

-- a text that is not left out is there
pub unless-some : (b : Bool) (a : Option (List ℕ)) (t : List ℕ) → unless b a ≡ Some t
    → (b ≡ false) × (a ≡ Some t)
unless-some true a t h = cc h
unless-some false a t h = (refl, h)

-- a newer version is the latest one
pub newer-latest : (far near : Option Parts) (v : Parts) → newer far near ≡ Some v → far ≡ Some v
newer-latest None near v h = cc h
newer-latest (Some f) None v h = h
newer-latest (Some f) (Some u) v h = elim (cases_Bool (pointwise nat_eq (plain_text f) (plain_text u))) [
  | inl same ↦ cc (rw same at h)
  | inr other ↦ rw other at h
]

-- the version that a text is for
newer-some : (old t : List ℕ) (o : Option Parts)
    → option_and_then (λ v. text_or (plain_text v) (upgrade_of old v)) o ≡ Some t
    → (v : Parts) × (o ≡ Some v) × (text_or (plain_text v) (upgrade_of old v) ≡ Some t)
newer-some old t None h = cc h
newer-some old t (Some v) h = (v, refl, h)

-- the version that a text for the latest one is for
pub far-some : (old t : List ℕ) (far near : Option Parts) → far_text old far near ≡ Some t
    → (v : Parts) × (newer far near ≡ Some v) × (text_or (plain_text v) (upgrade_of old v) ≡ Some t)
far-some old t far near h = newer-some old t (newer far near) h

-- the version that a text for the compatible one is for
pub near-some : (o : Options) (old t : List ℕ) (near : Option Parts)
    → some_if o.compatible (near_text old near) ≡ Some t
    → (u : Parts) × (near ≡ Some u) × (text_or old (upgrade_of old u) ≡ Some t)
near-some o old t None h = cc (some_if-some o.compatible None t h)
near-some o old t (Some u) h = (u, refl, some_if-some o.compatible (near_text old (Some u)) t h)

-- a change writes a different text
other-text : (old text : List ℕ) (kind got : Change) → unless_old old text kind ≡ Some got
    → (kind ≡ got) × (pointwise nat_eq text old ≡ false)
other-text old text kind got h = elim (cases_Bool (pointwise nat_eq text old)) [
  | inl same ↦ cc (rw same at h)
  | inr other ↦ (some-kind kind got (rw other at h), other)
]
  where
    some-kind : (a b : Change) → Some a ≡ Some b → a ≡ b
    some-kind a b h = cc h

-- where the change is the compatible one, its text was taken
pub compatible-taken : (old : List ℕ) (x : Bool) (e : Option (List ℕ)) (b : Bool) (l c : Option (List ℕ))
    → row_change old (first_row x e b l c) ≡ Some change.Compatible
    → (t : List ℕ) × (c ≡ Some t) × (row_text old (first_row x e b l c) ≡ t)
    × (pointwise nat_eq t old ≡ false)
compatible-taken old true e b l c h = cc h
compatible-taken old false (Some text) b l c h =
    cc ((other-text old text change.Explicit change.Compatible h).0)
compatible-taken old false None false l c h = cc h
compatible-taken old false None true (Some text) c h =
    cc ((other-text old text change.Latest change.Compatible h).0)
compatible-taken old false None true None (Some text) h =
    (text, refl, refl, (other-text old text change.Compatible change.Compatible h).1)
compatible-taken old false None true None None h = cc h

-- where the change is the latest one, its text was taken
pub latest-taken : (old : List ℕ) (x : Bool) (e : Option (List ℕ)) (b : Bool) (l c : Option (List ℕ))
    → row_change old (first_row x e b l c) ≡ Some change.Latest
    → (t : List ℕ) × (l ≡ Some t) × (row_text old (first_row x e b l c) ≡ t)
latest-taken old true e b l c h = cc h
latest-taken old false (Some text) b l c h = cc ((other-text old text change.Explicit change.Latest h).0)
latest-taken old false None false l c h = cc h
latest-taken old false None true (Some text) c h = (text, refl, refl)
latest-taken old false None true None (Some text) h =
    cc ((other-text old text change.Compatible change.Latest h).0)
latest-taken old false None true None None h = cc h
