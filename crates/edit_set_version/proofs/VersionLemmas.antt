-- The versions that a plan bumps, and the first of them that cannot be bumped.
use Rattle.std.proofs.Common.{◌≡◌, ◌∙◌, ◌+◌, ◌<◌, ◌++◌, ◌∷◌, [], ℕ, Bor, List, Option, Some, None, ap, drop, get_or, length, map, subst, sym, take}
use Rattle.std.specs.Prelude.{All, IfSome, option_to_list}
use Rattle.std.proofs.lemmas.List.{map-append}
use Rattle.std.proofs.lemmas.List.Elements.{All-append, All-cons, All-map, All-nil}
use Rattle.semver.specs.Identifiers.{parts_of}
use Rattle.semver.specs.Parse.{Parts}
use Rattle.semver.specs.declared.Version.{Version}
use Rattle.edit_set_version.specs.BumpCauses.{IsBumpable}
use Rattle.edit_set_version.specs.Bumps.{Target, bump}
use Rattle.edit_set_version.specs.Chosen.{SelectionView, Member, chosen_members}
use Rattle.edit_set_version.specs.Crates.{member_of, members_of}
use Rattle.edit_set_version.specs.PlanCauses.{AreUnbumped, CanBump, Current, FailsAtVersion, currents, member_current, root_current}
use Rattle.edit_set_version.specs.SetVersioned.{Project, workspace_current}
use Rattle.edit_set_version.specs.Written.{shared_version_view}
use Rattle.edit_set_version.specs.declared.crates.Crate.{Crate}
use Rattle.edit_set_version.specs.declared.failure.VersionFailure.{VersionFailure}
use Rattle.edit_base.proofs.FirstCauseLemmas.{first_behind, first_here, first_mapped, split_at}

-- ---- what holds of them

-- what holds of the version of the workspace, where there is one
pub all_shared : (P : Parts → Type 0) (o : Option (Bor Version)) (q : Option Parts)
    → shared_version_view o ≡ q
    → IfSome o (λ v. P (parts_of v.now)) → All P (option_to_list q)
all_shared P None q is h = subst (λ z. All P (option_to_list z)) is (All-nil P)
all_shared P (Some v) q is h =
    subst (λ z. All P (option_to_list z)) is (All-cons P (parts_of v.now) [] h (All-nil P))

-- what holds of it and of those of the chosen members
pub all_currents : (P : Parts → Type 0) (a : SelectionView) (p : Project)
    → All P (option_to_list (workspace_current a p)) → All (λ (m : Member). P m.version) (chosen_members a p.members)
    → All (λ (c : Current). P c.version) (currents a p)
all_currents P a p shared own =
    All-append (λ (c : Current). P c.version)
    (map (root_current p.path) (option_to_list (workspace_current a p)))
    (map member_current (chosen_members a p.members))
    (All-map (λ (c : Current). P c.version) (root_current p.path) (option_to_list (workspace_current a p)) shared)
    (All-map (λ (c : Current). P c.version) member_current (chosen_members a p.members) own)

-- ---- the first that cannot be bumped

-- that of the workspace
pub unbumped_shared : (t : Target) (a : SelectionView) (p : Project) (v : Parts) (f : VersionFailure)
    → workspace_current a p ≡ Some v → FailsAtVersion t a f (root_current p.path v)
    → AreUnbumped t a (currents a p) f
unbumped_shared t a p v f is cause =
    subst (λ (o : Option Parts). AreUnbumped t a (map (root_current p.path) (option_to_list o)
    ++ map member_current (chosen_members a p.members)) f) (sym is)
    (first_here (CanBump t a) (FailsAtVersion t a f) (root_current p.path v)
    (map member_current (chosen_members a p.members)) cause)

-- that of a chosen member
pub unbumped_chosen : (t : Target) (a : SelectionView) (p : Project) (f : VersionFailure)
    → All (λ (v : Parts). IsBumpable (bump t a.metadata v)) (option_to_list (workspace_current a p))
    → AreUnbumped t a (map member_current (chosen_members a p.members)) f → AreUnbumped t a (currents a p) f
unbumped_chosen t a p f shared unbumped =
    first_behind (CanBump t a) (FailsAtVersion t a f)
    (map (root_current p.path) (option_to_list (workspace_current a p)))
    (map member_current (chosen_members a p.members))
    (All-map (CanBump t a) (root_current p.path) (option_to_list (workspace_current a p)) shared) unbumped

-- that of one of several crates
pub unbumped_member : (t : Target) (a : SelectionView) (cs : List Crate) (i : ℕ) (c : Crate) (f : VersionFailure)
    → i < length cs → c ≡ get_or cs i c
    → All (λ (m : Member). IsBumpable (bump t a.metadata m.version)) (members_of (take i cs))
    → FailsAtVersion t a f (member_current (member_of c))
    → AreUnbumped t a (map member_current (members_of cs)) f
unbumped_member t a cs i c f within is good cause =
    first_mapped member_current (CanBump t a) (FailsAtVersion t a f) (members_of cs) (record {
      before = members_of (take i cs);
      first = member_of c;
      behind = members_of (drop (i + 1) cs);
      within = ap members_of (split_at cs i c within is)
          ∙ map-append member_of (take i cs) (c ∷ drop (i + 1) cs);
      good = good;
      cause = cause;
    })
