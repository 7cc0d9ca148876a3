-- A text that was read as a requirement, as clauses see it.
use Rattle.std.specs.Prelude.{ℕ, List}
use Rattle.edit_version.specs.declared.requirement.Requirement.{Requirement}

-- the text itself (own)
abbrev pub text_in : Requirement → List ℕ
text_in r = r.text.now
