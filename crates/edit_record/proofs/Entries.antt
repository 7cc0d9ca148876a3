-- The order of index entries, and the version of the greatest of them.
use Rattle.std.proofs.Common.{◌≡◌, List, ℕ, Option, Some, None, Bool, ap, ◌∙◌}
use Rattle.std.specs.Prelude.{IsTrue, option_and_then}
use Rattle.semver.specs.Parse.{Parts}
use Rattle.edit_version.specs.Admissible.{admissible_in, entry_order, is_qualifying}
use Rattle.edit_record.specs.Finding.{IsFound, IsFoundAtLeast}
use Rattle.edit_version.specs.Greatest.{IsGreatest, IsGreatestItem}
use Rattle.edit_version.specs.IndexEntry.{IndexEntry}
use Rattle.edit_version.specs.Laws.{holds_dash}
use Rattle.edit_version.specs.RustVersions.{Numbers}
use Rattle.edit_version.specs.Selection.{is_admitted, is_allowed}
use Rattle.edit_record.specs.declared.dependency.Dependency.{Dependency}
use Rattle.edit_record.specs.declared.dependency.sources.Source.{Source}
use Rattle.semver.specs.Grammar.{IsValid}
use Rattle.edit_record.specs.Records.{source_version, version_of}
use Rattle.edit_version.specs.Requirement.{cut, plain_text}
use Rattle.edit_version.specs.VersionOrder.{full_order}
use Rattle.edit_version.proofs.Builds.{cut-text}
use Rattle.edit_version.proofs.Greatests.{wider, wider-found}
use Rattle.edit_version.proofs.QualifyingEntries.{admissible-version, read-parts}
use Rattle.edit_version.proofs.Offers.{admitted-allowed}
use Rattle.edit_version.proofs.GreatestEntries.{entry_total, qualifies-weaker, admissible-valid, none-versions, greatest-versions}

-- if a requirement has a greatest entry, the latest one exists and is not less
pub found-at_least : (rust : Option Numbers) (pre : Bool) (entries : List IndexEntry) (o : Option Dependency)
    → IsFound rust (is_allowed pre) entries o
    → (req : List ℕ) → (IsTrue (holds_dash req) → IsTrue pre) → (e : IndexEntry)
    → IsGreatestItem (is_qualifying rust (is_admitted req)) entry_order entries e
    → IsFoundAtLeast rust (is_allowed pre) entries e o
found-at_least rust pre entries None h req dash e g =
    wider-found (is_qualifying rust (is_admitted req)) (is_qualifying rust (is_allowed pre)) entry_order
    (λ x k. qualifies-weaker rust (is_admitted req) (is_allowed pre) (λ v a. admitted-allowed req pre v dash a) x
    k) entries e g h
found-at_least rust pre entries (Some d) h req dash e g = (
  h.0,
  h.1,
  h.2,
  wider (is_qualifying rust (is_admitted req)) (is_qualifying rust (is_allowed pre)) entry_order entry_total
      (λ x k. qualifies-weaker rust (is_admitted req) (is_allowed pre) (λ v a. admitted-allowed req pre v dash a)
      x k) entries e h.0 g h.1,
)

-- ---- the result of a search, by version

-- the result has the name of an entry and the text of the greatest version, without build metadata
pub found-version : (rust : Option Numbers) (test : Parts → Bool) (entries : List IndexEntry)
    (d : Dependency) → IsFound rust test entries (Some d)
    → (v : Parts) × IsValid v × IsGreatestItem test full_order (admissible_in rust entries) v
    × (version_of d ≡ Some (plain_text v))
found-version rust test entries d h =
    let g = greatest-versions rust test entries h.0 h.1 in
    let read = read-parts h.0.version g.0 (admissible-version rust h.0 g.0 g.1) in
    let text : version_of d ≡ Some (cut h.0.version) =
    ap (λ (s : Option Source). option_and_then source_version s) h.2.1.1
    ∙ ap (λ (t : List ℕ). Some t) h.2.1.2 in (
      g.0,
      admissible-valid rust h.0 g.0 g.1,
      g.2,
      text
          ∙ ap (λ (t : List ℕ). Some t) (cut-text h.0.version g.0 read),
    )

-- where nothing is found, no version passes the test
pub found-none : (rust : Option Numbers) (test : Parts → Bool) (entries : List IndexEntry)
    → IsFound rust test entries None
    → IsGreatest test full_order (admissible_in rust entries) None
found-none rust test entries h = none-versions rust test entries h
