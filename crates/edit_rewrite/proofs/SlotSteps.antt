-- An element or a member at the front meets the preconditions of the steps over values and keys.
use Rattle.std.proofs.Common.{◌≡◌, ℕ, Bool, true, false, List, [], ◌∷◌, ◌++◌, refl, sym, true≢false, ap, ◌∙◌}
use Rattle.std.proofs.Common.{◌≤◌, ◌&&◌, length, map, ◌-◌, take, drop, get_or, subst, Result, Err, MatchResult, arith}
use Rattle.std.proofs.Math.Seq.{take-length}
use Rattle.edit_base.specs.Errors.{IsMemory}
use Rattle.edit_base.specs.declared.errors.Error.{Error}
use Rattle.edit_syntax.specs.declared.read.syntax_tokens.SyntaxToken.{SyntaxToken}
use Rattle.edit_tree.specs.declared.place.Step.{Step as WrittenStep}
use Rattle.edit_tree.specs.Assertions.{key as name_step, same_step}
use Rattle.edit_tree.specs.EditBytes.{is_within}
use Rattle.edit_document.specs.Items.{place_view, step_view}
use Rattle.edit_tree.specs.WalkState.{IsDecodedAt}
use Rattle.edit_syntax.specs.Characters.{equals}
use Rattle.edit_syntax.specs.Strings.{Key, key}
use Rattle.edit_syntax.specs.Grammar.{Between, gap, Value, value}
use Rattle.edit_syntax.specs.SyntaxTokens.{tokens_of_key}
use Rattle.edit_syntax.specs.Steps.{IsItem, IsKeyAndSign}
use Rattle.edit_syntax.proofs.MembersReadAgain.{value_first}
use Rattle.edit_tree.specs.Assertions.{names}
use Rattle.edit_tree.specs.Slots.{Slot, of_value, of_pair}
use Rattle.edit_tree.specs.SlotTexts.{AreDecodedAs, Ends, StandsAt}
use Rattle.edit_rewrite.proofs.SlotKeys.{key_said}

-- an element
pub record ValueAt (s : List ℕ) (it : Slot) (c : List Between) (rest : List ℕ) : Type 0 where
  pub v : Value
  pub is : it ≡ of_value v
  pub item : IsItem v c rest
  pub spelled : s ≡ value v (gap c rest)

pub value_at_front : (text s : List ℕ) (t : Bool) (it : Slot) (c : List Between) (rest : List ℕ)
    → StandsAt text s t it c rest → t ≡ false → ValueAt s it c rest
value_at_front text s t (of_value v) c rest h no_table = record {
  v = v;
  is = refl;
  item = let w = h.valid in record { valid = w.1; shallow = w.2; between = h.between; ends = h.ends };
  spelled = h.spelled;
}
value_at_front text s t (of_pair k a b v) c rest h no_table = let w = h.valid in
    absurd (true≢false (sym w.0 ∙ no_table))

-- a member
pub record PairAt (text s : List ℕ) (it : Slot) (c : List Between) (rest : List ℕ) : Type 0 where
  pub k : Key
  pub a : List ℕ
  pub b : List ℕ
  pub v : Value
  pub is : it ≡ of_pair k a b v
  pub item : IsItem v c rest
  pub naming : IsKeyAndSign k a b (value v (gap c rest))
  pub said : AreDecodedAs text (tokens_of_key k (a ++ (equals ∷ (b ++ value v (gap c rest))))) (names k)
  pub spelled : s ≡ key k (a ++ (equals ∷ (b ++ value v (gap c rest))))

pub pair_at_front : (text s : List ℕ) (t : Bool) (it : Slot) (c : List Between) (rest : List ℕ)
    → StandsAt text s t it c rest → t ≡ true → PairAt text s it c rest
pair_at_front text s t (of_value v) c rest h table = let w = h.valid in absurd (true≢false (sym table ∙ w.0))
pair_at_front text s t (of_pair k a b v) c rest h table =
    let w = h.valid in
    let more = a ++ (equals ∷ (b ++ value v (gap c rest))) in
    let ends : Ends text (key k more) =
    (h.within.0, h.within.1 ∙ ap (λ (x : List ℕ). h.within.0 ++ x) h.spelled) in
    record {
      k = k;
      a = a;
      b = b;
      v = v;
      is = refl;
      item = record { valid = w.4; shallow = w.5; between = h.between; ends = h.ends };
      naming = record { key = w.1; before = w.2; behind = w.3; begins = value_first v (gap c rest) w.4 };
      said = key_said text k more w.1 ends;
      spelled = h.spelled;
    }

-- ---- steps of a key

-- all but the first, as a pattern takes it
tail_slice : {A : Type 0} (xs : List A) → take (length xs - 1) (drop 1 xs) ≡ drop 1 xs
tail_slice [] = refl
tail_slice (x ∷ xs) = let k : length (x ∷ xs) - 1 ≡ length xs = omega arith in rw k (take-length xs)

-- the first of the tokens decodes to the first of the names
pub record FirstSaid (text : List ℕ) (tokens : List SyntaxToken) (ns : List (List ℕ)) : Type 0 where
  pub name : List ℕ
  pub others : List (List ℕ)
  pub is : ns ≡ name ∷ others
  pub said : (d : SyntaxToken) → IsDecodedAt text (get_or tokens 0 d) name
  pub others_said : AreDecodedAs text (take (length tokens - 1) (drop 1 tokens)) others

pub first_said : (text : List ℕ) (tokens : List SyntaxToken) (ns : List (List ℕ)) → 1 ≤ length tokens
    → AreDecodedAs text tokens ns → FirstSaid text tokens ns
first_said text [] ns le h = absurd (omega arith)
first_said text (m ∷ ms) [] le h = absurd h
first_said text (m ∷ ms) (n ∷ ns) le h =
    record { name = n; others = ns; is = refl; said = λ d. h.0; others_said = rw (tail_slice (m ∷ ms)) h.1 }

pub within_turn : (steps : List WrittenStep) (s : WrittenStep) (name : List ℕ) (others ns : List (List ℕ))
    → 1 ≤ length steps → s ≡ get_or steps 0 s → ns ≡ name ∷ others
    → is_within (place_view steps) (map name_step ns)
    ≡ (same_step (step_view s) (name_step name) && is_within
    (place_view (take (length steps - 1) (drop 1 steps))) (map name_step others))
within_turn [] s name others ns le e is = absurd (omega arith)
within_turn (x ∷ xs) s name others ns le e is = rw (is, e, tail_slice (x ∷ xs)) refl

-- ---- errors

pub keeps_memory : {A : Type 0} (r : Result A Error) (e e2 : Error) (P : A → Type 0) → r ≡ Err e2 → e2 ≡ e
    → IsMemory e → MatchResult r P IsMemory
keeps_memory {A} r e e2 P was same m = subst (λ (x : Result A Error). MatchResult x P IsMemory) (sym was)
    (subst IsMemory (sym same) m)
