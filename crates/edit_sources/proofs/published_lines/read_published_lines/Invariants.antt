use Rattle.std.proofs.Common.{◌≡◌, List, map, ℕ}
use Rattle.std.specs.BTreeMap.{get_by_text}
use Rattle.edit_version.specs.IndexEntry.{entry_of}
use Rattle.edit_sources.specs.IndexLines.{length_left, lines_left, lines_of}
use Rattle.edit_sources.specs.Withheld.{either, joined, of_crate, of_lines}
use Rattle.edit_sources.proofs.DatedLemmas.{HaveLeft}
use Rattle.edit_sources.proofs.LineLemmas.{HasRead}
use Rattle.edit_sources.proofs.published_lines.read_published_lines.Given as goal

-- the lines so far have the entries so far, and what is held back by them with that of the rest is that of
-- all lines
abbrev pub invariant-lines : goal.invariant-lines
invariant-lines l = record {
  read : HasRead (HaveLeft l.bound) l.bytes l.number l.rest (map entry_of l.lines.entries.items);
  withheld : of_lines l.bound (lines_of l.bytes)
      ≡ either l.lines.withheld (of_lines l.bound (lines_left l.rest));
  crates : (name : List ℕ) → of_crate l.bound (lines_of l.bytes) name
      ≡ joined (get_by_text l.lines.crates name) (of_crate l.bound (lines_left l.rest) name);
}

abbrev pub decreases-lines : goal.decreases-lines
decreases-lines l = length_left l.rest
