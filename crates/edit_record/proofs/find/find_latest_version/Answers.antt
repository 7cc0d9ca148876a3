use Rattle.std.proofs.Common.{Bool, Err, List, Ok, Option, Result, map, ℕ}
use Rattle.std.specs.Prelude.{IfOk, IsTrue, option_map}
use Rattle.edit_base.specs.declared.errors.Error.{Error}
use Rattle.edit_version.specs.Admissible.{entry_order, is_qualifying}
use Rattle.edit_record.specs.Finding.{IsFound, IsFoundAtLeast}
use Rattle.edit_version.specs.Greatest.{IsGreatestItem}
use Rattle.edit_version.specs.IndexEntry.{IndexEntry, entry_of}
use Rattle.edit_version.specs.Laws.{holds_dash}
use Rattle.edit_version.specs.RustVersions.{Numbers, numbers_of}
use Rattle.edit_version.specs.Selection.{is_admitted, is_allowed}
use Rattle.edit_record.specs.declared.dependency.Dependency.{Dependency}
use Rattle.edit_record.proofs.Entries.{found-at_least}
use Rattle.edit_record.proofs.find.find_latest_version.Goals as goal

at_least : (rust : Option Numbers) (pre : Bool) (entries : List IndexEntry)
    (r : Result (Option Dependency) Error)
    → IfOk r (λ o. IsFound rust (is_allowed pre) entries o)
    → IfOk r (λ o. (req : List ℕ) → (IsTrue (holds_dash req) → IsTrue pre) → (e : IndexEntry)
    → IsGreatestItem (is_qualifying rust (is_admitted req)) entry_order entries e
    → IsFoundAtLeast rust (is_allowed pre) entries e o)
at_least rust pre entries (Ok o) h = λ req dash e g. found-at_least rust pre entries o h req dash e g
at_least rust pre entries (Err e) h = tt

pub returns-clause-at_least : goal.returns-clause-at_least
returns-clause-at_least c =
    at_least (option_map numbers_of c.args.rust_version) c.args.allow_prerelease
    (map entry_of c.args.versions.now) c.find_version.result c.find_version.ensures.ok
