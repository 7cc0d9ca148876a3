-- The loop over the lines of a text: the lines before the current position, and the rest.
use Rattle.std.proofs.Common.{Option, Some, None, ◌≡◌, ℕ, ◌+◌, ◌≤◌, List, [], ◌∷◌, ◌++◌, length, Bor, refl, ap, sym, ◌∙◌, subst, arith, append_assoc, append-nil}
use Rattle.std.proofs.lemmas.List.{length_push}
use Rattle.edit_version.specs.IndexEntry.{IndexEntry}
use Rattle.edit_sources.specs.IndexLines.{length_left, lines_left, lines_of}

-- what is known of lines and the entries that were read of them
abbrev pub Said : Type 1
Said = List (List ℕ) → List IndexEntry → Type 0

-- this is known of the lines so far and their entries, and the rest has not been read
pub record HasRead (Say : Said) (text : List ℕ) (count : ℕ) (rest : Option (Bor (List ℕ)))
    (entries : List IndexEntry) : Type 0 where
  pub lines : List (List ℕ)
  pub whole : lines_of text ≡ lines ++ lines_left rest
  pub counted : count ≡ length lines
  pub bound : count + length_left rest ≤ length text + 1
  pub say : Say lines entries

-- at the beginning no line has been read
pub read-none : (Say : Said) → Say [] [] → (text : Bor (List ℕ)) → HasRead Say text.now 0 (Some text) []
read-none Say empty text =
    record { lines = []; whole = refl; counted = refl; bound = omega arith; say = empty }

module _ (Say : Said) (text : List ℕ) (count : ℕ) (line : List ℕ) (now : Bor (List ℕ))
    (after : Option (Bor (List ℕ))) (entries : List IndexEntry)
    (read : HasRead Say text count (Some now) entries) (split : lines_of now.now ≡ line ∷ lines_left after) where
  -- the lines read, the next one, and those behind it
  pub read-parts : lines_of text ≡ read.lines ++ line ∷ lines_left after
  read-parts = read.whole ∙ ap (λ ls. read.lines ++ ls) split

  -- one line has been read more
  pub read-more : (more : List IndexEntry) → length_left after ≤ length now.now
      → Say (read.lines ++ line ∷ []) more → HasRead Say text (count + 1) after more
  read-more more shorter say = record {
    lines = read.lines ++ line ∷ [];
    whole = read-parts ∙ sym (append_assoc read.lines (line ∷ []) (lines_left after));
    counted = omega (arith, read.counted, length_push read.lines line);
    bound = omega (arith, read.bound, shorter);
    say = say;
  }

-- at the end all lines have been read
pub read-all : (Say : Said) (text : List ℕ) (count : ℕ) (entries : List IndexEntry)
    → HasRead Say text count None entries → Say (lines_of text) entries
read-all Say text count entries read =
    subst (λ ls. Say ls entries) (sym (read.whole ∙ append-nil read.lines)) read.say
