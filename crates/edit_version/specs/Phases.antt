-- The increments of pre-releases, one for each phase, for crates that cannot name a phase (own).
use Rattle.edit_version.specs.Increments.{Level, Pre}
use Rattle.edit_version.specs.declared.version.Phase.TheVariants as phase

-- the next alpha
abbrev pub alpha : Level
alpha = Pre phase.Alpha

-- the next beta
abbrev pub beta : Level
beta = Pre phase.Beta

-- the next release candidate
abbrev pub rc : Level
rc = Pre phase.Rc
