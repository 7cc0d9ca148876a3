-- The full order of versions, build metadata included.
use Rattle.std.specs.Ordering.{ordering_then}
use Rattle.std.specs.declared.cmp.Ordering.{Ordering}
use Rattle.semver.specs.Order.{build_cmp}
use Rattle.semver.specs.Parse.{Parts}
use Rattle.edit_version.specs.Laws.{precedence}

-- by precedence, and then by build metadata (SemVer 2.0.0, item
-- 11; the order of build metadata is that of Rust's `semver`)
abbrev pub full_order : Parts → Parts → Ordering
full_order a b = ordering_then (precedence a b) (build_cmp a.4 b.4)
