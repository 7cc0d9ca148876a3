-- When the edits of an input are possible, and which error they cause otherwise.
use Rattle.std.proofs.Common.{◌≡◌, ◌≢◌, ◌∙◌, ℕ, List, [], true, ◌⊎◌, ap, inl, inr, refl, slice_index_or, subst, sym}
use Rattle.std.proofs.Math.Path.{fun_ext}
use Rattle.std.specs.Prelude.{All}
use Rattle.std.specs.List.{filter}
use Rattle.std.proofs.lemmas.List.Elements.{All-contains}
use Rattle.edit_base.specs.Errors.{IsMemory}
use Rattle.edit_base.specs.declared.errors.Error.{Error}
use Rattle.edit_base.specs.declared.errors.Error.TheVariants as error
use Rattle.edit_base.specs.declared.errors.Error.TheVariants.{NoVersionPlace}
use Rattle.edit_manifest.specs.Tables.{Tree}
use Rattle.edit_manifest.specs.Versions.{IsNoValue, package_version}
use Rattle.edit_manifest.specs.declared.manifest.Manifest.{Manifest}
use Rattle.edit_metadata.specs.declared.input.Input.{Input}
use Rattle.edit_syntax.specs.Grammar.{Text}
use Rattle.edit_tree.specs.Assertions.{IsDocument}
use Rattle.edit_tree.specs.DocumentViews.{tree_of}
use Rattle.edit_tree.specs.Tree.{is_value_at, view_at}
use Rattle.edit_tree.proofs.Shallow.{one_form}
use Rattle.edit_version.specs.Requirement.{UpgradeResult, upgrade_of}
use Rattle.edit_version.specs.RequirementErrors.{IsUpgradeError}
use Rattle.edit_set_version.specs.Crates.{IsReadOf}
use Rattle.edit_set_version.specs.Admitted.{AllRise, CanRise}
use Rattle.edit_set_version.specs.PlanCauses.{AllRiseIn, CanFollow, FailsAtEntry, HasLiteral, IsUnraised, LacksLiteral}
use Rattle.edit_set_version.specs.PlanLines.{Named}
use Rattle.edit_set_version.specs.PlanRefused.{IsInputClearBy}
use Rattle.edit_set_version.specs.Projects.{IsManifestAmong}
use Rattle.edit_metadata.specs.Inputs.{path_of}
use Rattle.edit_set_version.specs.SetVersioned.{Bump, Dependent, dependents, writes_own}
use Rattle.edit_set_version.specs.declared.failure.VersionFailure.{VersionFailure}
use Rattle.edit_base.proofs.FirstCauseLemmas.{first_good}

-- a requirement that can be raised causes no other error than a lack of memory
rise_memory : (r : UpgradeResult) (text : List ℕ) (e : Error) → CanRise r → IsUpgradeError r text e
    → IsMemory e
rise_memory r text error.Memory can h = refl
rise_memory r text (error.InvalidRequirement s) can h = absurd (subst CanRise h.0 can)
rise_memory r text (error.Unsupported s) can h = absurd (subst CanRise h.1 can)
rise_memory r text other can h = absurd h

-- the error of a requirement of a manifest whose requirements can all be raised is a lack of memory
pub unraised_memory : (bs : List Bump) (file : List ℕ) (t : Tree) (f : VersionFailure)
    → IsMemory f.error ⊎ IsUnraised bs file t f → AllRise bs file t → IsMemory f.error
unraised_memory bs file t f (inl none) rise = none
unraised_memory bs file t f (inr has) rise =
    rise_memory (upgrade_of has.first.text has.first.next) has.first.text f.error
    (first_good CanFollow (FailsAtEntry file f) (dependents bs file t) has rise) has.cause.0

-- each requirement of an input in which nothing is at fault can be raised, by the tree of its manifest
pub clear_rise : (bs : List Bump) (input : Input) (m : Manifest) → IsReadOf input m → IsInputClearBy bs input
    → AllRise bs (path_of input) (tree_of m.document)
clear_rise bs input m read clear = subst (λ (t : Tree). AllRise bs (path_of input) t) same clear.requirements
  where
    same : view_at clear.form ≡ tree_of m.document
    same =
        ap view_at (one_form input.bytes.items clear.form read.form clear.manifest read.manifest)
        ∙ sym (fun_ext read.shows)

-- a manifest that was read has a literal where a bumped version is to be written into it
pub has_literal : (bs : List Bump) (input : Input) (m : Manifest) → IsReadOf input m
    → (filter (writes_own (path_of input)) bs ≢ [] → (form : Text) → IsDocument m.document.bytes form
    → is_value_at form package_version ≡ true) → HasLiteral bs input
has_literal bs input m read literal = record {
  form = read.form;
  manifest = read.manifest;
  literal = λ some. literal some read.form
      (subst (λ (bytes : List ℕ). IsDocument bytes read.form) (sym read.bytes) read.manifest);
}

-- a bumped version that is to be written into a manifest without a value for it
pub lacks_literal : (bs : List Bump) (input : Input) (m : Manifest) (e : Error) → IsReadOf input m
    → IsMemory e ⊎ ((e ≡ NoVersionPlace) × (filter (writes_own (path_of input)) bs ≢ [])
    × IsNoValue m.document package_version)
    → IsMemory e ⊎ ((e ≡ NoVersionPlace) × LacksLiteral bs input)
lacks_literal bs input m e read (inl none) = inl none
lacks_literal bs input m e read (inr why) = inr (
  why.0,
  record {
    form = read.form;
    manifest = read.manifest;
    written = why.1;
    no_value = why.2 read.form
        (subst (λ (bytes : List ℕ). IsDocument bytes read.form) (sym read.bytes) read.manifest);
  },
)

-- the error of a literal of an input in which nothing is at fault is a lack of memory
pub unvalued_memory : (bs : List Bump) (input : Input) (m : Manifest) (e : Error) → IsReadOf input m
    → IsMemory e ⊎ ((e ≡ NoVersionPlace) × (filter (writes_own (path_of input)) bs ≢ [])
    × IsNoValue m.document package_version)
    → IsInputClearBy bs input → IsMemory e
unvalued_memory bs input m e read (inl none) clear = none
unvalued_memory bs input m e read (inr why) clear =
    let found = clear.literal why.1 in
    let none = why.2 clear.form
    (subst (λ (bytes : List ℕ). IsDocument bytes clear.form) (sym read.bytes) clear.manifest) in
    cc (sym none ∙ found)

-- nothing is at fault in an input whose literals are there and whose requirements can be raised
pub written_clear : (bs : List Bump) (input : Input) (m : Manifest) → IsReadOf input m
    → (filter (writes_own (path_of input)) bs ≢ [] → (form : Text) → IsDocument m.document.bytes form
    → is_value_at form package_version ≡ true)
    → AllRise bs (path_of input) (tree_of m.document) → IsInputClearBy bs input
written_clear bs input m read literal rise = record {
  form = read.form;
  manifest = read.manifest;
  literal = λ some. literal some read.form
      (subst (λ (bytes : List ℕ). IsDocument bytes read.form) (sym read.bytes) read.manifest);
  requirements = subst (λ (t : Tree). AllRise bs (path_of input) t) (fun_ext read.shows) rise;
}

-- a manifest that was read shows the tree of its form
pub shown : (input : Input) (m : Manifest) (read : IsReadOf input m) → tree_of m.document ≡ view_at read.form
shown input m read = fun_ext read.shows

-- and of each form of its text
pub document_view_of : (input : Input) (m : Manifest) → IsReadOf input m → (form : Text)
    → IsDocument m.document.bytes form → tree_of m.document ≡ view_at form
document_view_of input m read form manifest =
    fun_ext read.shows
    ∙ ap view_at (one_form m.document.bytes read.form form
    (subst (λ (bytes : List ℕ). IsDocument bytes read.form) (sym read.bytes) read.manifest) manifest)

-- where nothing stands against an input, a version that is to be written has a literal in each form
pub literal_of : (bs : List Bump) (input : Input) (m : Manifest) (form : Text) → IsReadOf input m
    → IsDocument m.document.bytes form → IsInputClearBy bs input
    → filter (writes_own (path_of input)) bs ≢ [] → is_value_at form package_version ≡ true
literal_of bs input m form read manifest clear some =
    subst (λ (f : Text). is_value_at f package_version ≡ true)
    (one_form input.bytes.items clear.form form clear.manifest
    (subst (λ (bytes : List ℕ). IsDocument bytes form) read.bytes manifest)) (clear.literal some)

-- inputs with literals whose manifests are among some in which each requirement can be raised
pub all_clear : (bs : List Bump) (ms : List Named) (inputs : List Input) → All (HasLiteral bs) inputs
    → All (AllRiseIn bs) ms → All (IsManifestAmong ms) inputs → All (IsInputClearBy bs) inputs
all_clear bs ms inputs literals rise among =
    λ k d within. one (slice_index_or inputs k d) (literals k d within) (among k d within)
  where
    one : (input : Input) → HasLiteral bs input → IsManifestAmong ms input → IsInputClearBy bs input
    one input literal there = record {
      form = literal.form;
      manifest = literal.manifest;
      literal = literal.literal;
      requirements = subst (λ (f : Text). AllRise bs (path_of input) (view_at f))
          (one_form input.bytes.items there.form literal.form there.manifest literal.manifest)
          (subst (λ (t : Tree). AllRise bs (path_of input) t) (fun_ext there.is)
          (subst (λ (path : List ℕ). AllRise bs path there.named.tree) there.at
          (All-contains (AllRiseIn bs) ms there.named rise there.among)));
    }
