-- Which version takes the place of a package's version (own; requirements: Cargo reference, "Specifying
-- Dependencies"; order: SemVer 2.0.0, item 11).
use Rattle.std.specs.Prelude.{◌&&◌, ℕ, List, [], Bool, true, false, Option, Some, None, fold, if◌then◌else◌, map, option_and_then}
use Rattle.std.specs.List.{filter, filter_map, list_all}
use Rattle.std.specs.Option.{option_map_or}
use Rattle.std.specs.Str.{bytes_eq}
use Rattle.std.specs.declared.cmp.Ordering.{Ordering}
use Rattle.semver.specs.Parse.{Held, Parts}
use Rattle.edit_version.specs.Admits.{admits}
use Rattle.edit_version.specs.Greatest.{advance}
use Rattle.edit_version.specs.ReadVersion.{version_read}
use Rattle.edit_version.specs.Requirement.{requirement_read}
use Rattle.edit_version.specs.VersionOrder.{full_order}
use Rattle.edit_lock_bounds.specs.Changes.{is_same_source, is_text_of}
use Rattle.edit_lock_bounds.specs.LockPackages.{Package}

-- a requirement on a crate: the crate's name, its source where that is fixed, and the requirement's text (own)
pub record Requirement : Type 0 where
  pub name : List ℕ
  pub source : Option (List ℕ)
  pub text : List ℕ

-- the eligible versions of a crate: its name, its source and the texts of the versions (own)
pub record Crate : Type 0 where
  pub name : List ℕ
  pub source : List ℕ
  pub versions : List (List ℕ)

-- a version that was chosen for the requirements on the crates of a name (own)
pub record Chosen : Type 0 where
  pub name : List ℕ
  pub version : List ℕ

-- the requirements, the crates of which eligible versions are known, and the chosen versions (own)
pub record Limits : Type 0 where
  pub requirements : List Requirement
  pub crates : List Crate
  pub chosen : List Chosen

-- what is read of a requirement: the source where that is fixed, and the comparators, none where the text is
-- no requirement (own)
pub record Wanted : Type 0 where
  pub source : Option (List ℕ)
  pub comparators : Option (List Held)

-- what is read of a requirement (own)
abbrev pub wanted_of : Requirement → Wanted
wanted_of r = record { source = r.source; comparators = requirement_read r.text }

-- what the limits say of the crates of one name: the requirements on them, their eligible versions, and the
-- chosen versions (own)
pub record Known : Type 0 where
  pub requirements : List Wanted
  pub crates : List Crate
  pub chosen : List (List ℕ)

-- what the limits say of the crates of a name (own)
abbrev pub known_of : Limits → List ℕ → Known
known_of l name = record {
  requirements = map wanted_of (filter (λ r. bytes_eq name r.name) l.requirements);
  crates = filter (λ c. bytes_eq name c.name) l.crates;
  chosen = map (λ c. c.version) (filter (λ c. bytes_eq name c.name) l.chosen);
}

-- the requirement may be met by a package from a source: each source where the requirement fixes none (own)
abbrev pub fits_source : Option (List ℕ) → Option (List ℕ) → Bool
fits_source None source = true
fits_source (Some s) source = is_same_source (Some s) source

-- the requirement admits a version; one whose text is no requirement admits none (own)
abbrev pub is_met : Wanted → Parts → Bool
is_met w v = option_map_or (λ cs. admits cs v) w.comparators false

-- the requirements that a package from a source meets by its version (own)
abbrev pub met_requirements : List Wanted → Option (List ℕ) → Parts → List Wanted
met_requirements ws source current = filter (λ w. fits_source w.source source && is_met w current) ws

-- each of the requirements admits a version (own)
abbrev pub are_met : List Wanted → Parts → Bool
are_met ws v = list_all (λ w. is_met w v) ws

-- a version that may take the place of a package's: its text, what is read of it, and whether it was chosen
-- (own)
pub record Candidate : Type 0 where
  pub text : List ℕ
  pub version : Parts
  pub is_chosen : Bool

-- the candidate that a version is, where each of the requirements admits it (own)
abbrev pub admitted_candidate : List Wanted → List (List ℕ) → List ℕ → Parts → Option Candidate
admitted_candidate ws chosen text v =
    if are_met ws v then Some (record { text = text; version = v; is_chosen = is_text_of chosen text }) else None

-- the candidate that a text is: it is a version, and each of the requirements admits that (own)
abbrev pub candidate_of : List Wanted → List (List ℕ) → List ℕ → Option Candidate
candidate_of ws chosen text = option_and_then (admitted_candidate ws chosen text) (version_read text)

-- the candidates among texts for a package from a source at a version: each requirement that the version
-- meets admits them (own)
abbrev pub candidates_for : Known → Option (List ℕ) → Parts → List (List ℕ) → List Candidate
candidates_for k source current texts =
    filter_map (candidate_of (met_requirements k.requirements source current) k.chosen) texts

-- the same for a version that is read; there are none for a text that is no version, so that such a package
-- is never set back (own)
abbrev pub candidates_at : Known → Option (List ℕ) → Option Parts → List (List ℕ) → List Candidate
candidates_at k source None texts = []
candidates_at k source (Some current) texts = candidates_for k source current texts

-- the candidates among texts for a package (own)
abbrev pub candidates : Known → Package → List (List ℕ) → List Candidate
candidates k p texts = candidates_at k p.source (version_read p.version) texts

-- the order of candidates is that of their versions (own)
abbrev pub candidate_order : Candidate → Candidate → Ordering
candidate_order a b = full_order a.version b.version

-- the greatest of the candidates that satisfy a condition, the last of equal ones (own)
abbrev pub greatest : (Candidate → Bool) → List Candidate → Option Candidate
greatest keep cs = fold (advance keep candidate_order) None cs

-- the first value where there is one, else the second (own)
abbrev pub first_some : Option Candidate → Option Candidate → Option Candidate
first_some None b = b
first_some (Some a) b = Some a

-- the best candidate: the greatest of the chosen ones where there are some, else the greatest of all (own)
abbrev pub best : List Candidate → Option Candidate
best cs = first_some (greatest (λ c. c.is_chosen) cs) (greatest (λ c. true) cs)
