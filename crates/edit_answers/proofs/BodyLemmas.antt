-- Valid index files.
use Rattle.std.proofs.Common.{◌≡◌, ℕ, List, Bool, false, map, sym, ◌∙◌, subst, arith}
use Rattle.std.specs.Prelude.{All, IsTrue, ◌↔◌}
use Rattle.std.proofs.lemmas.Bool.{false≢true}
use Rattle.std.proofs.lemmas.List.{length-map}
use Rattle.std.proofs.Math.ListN.{get_or-map}
use Rattle.edit_base.specs.declared.errors.Error.TheVariants.{IndexLine}
use Rattle.edit_version.specs.IndexEntry.{IndexEntry}
use Rattle.edit_sources.specs.IndexLines.{HaveEntriesInOrder, lines_of}
use Rattle.edit_sources.proofs.OutcomeLemmas.{one_reading}
use Rattle.edit_answers.specs.Bodies.{AreNamed, EndsLine, IsWholeIndex}

pub All-unmap : {X Y : Type 0} (P : Y → Type 0) (f : X → Y) (xs : List X) → All P (map f xs)
    → All (λ x. P (f x)) xs
All-unmap P f xs h k d w =
    subst P (get_or-map f xs k d) (h k (f d) (omega (arith, length-map xs f)))

-- a file that does not end with a line feed is not complete
pub not-ended : (b : Bool) (name body : List ℕ) → (IsTrue b ↔ EndsLine body) → b ≡ false
    → IsWholeIndex name body → ⊥
not-ended b name body ends is w = false≢true (sym is ∙ ends.1 w.ended)

-- the line of an error
pub one-line : (m n : ℕ) → IndexLine m ≡ IndexLine n → m ≡ n
one-line m n e = cc

-- a file whose entries do not all have the name is not complete
pub not-named : (b : Bool) (name body : List ℕ) (entries : List IndexEntry)
    → HaveEntriesInOrder (lines_of body) entries
    → (IsTrue b ↔ AreNamed entries name) → b ≡ false → IsWholeIndex name body → ⊥
not-named b name body entries say named is w =
    false≢true (sym is
    ∙ named.1 (subst (λ es. AreNamed es name) (one_reading
    (lines_of body) w.entries entries w.say say) w.named))
