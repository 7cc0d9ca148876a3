-- The front of a JSON string that was passed.
use Rattle.std.specs.Prelude.{◌≡◌, ℕ, List, Some}
use Rattle.json.specs.Lex.{in_string, lex}
use Rattle.json.specs.Text.{content, plain}

-- a text within a string ends as its rest does, and has a content where the rest has one (own)
pub record Passed (text rest : List ℕ) : Type 0 where
  pub lexed : lex in_string text ≡ lex in_string rest
  pub read : (s : List ℕ) → content plain rest ≡ Some s → (whole : List ℕ) × (content plain text ≡ Some whole)
