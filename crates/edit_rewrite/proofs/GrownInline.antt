-- How a member is inserted into an inline table, by what is between its braces.
use Rattle.std.proofs.Common.{◌≡◌, ℕ, Bool, true, false, eqb, List, [], ◌∷◌, ◌++◌, Option, Some, drop, refl, sym, true≢false, ap, ◌∙◌}
use Rattle.std.specs.Prelude.{unwrap_or, codes}
use Rattle.edit_syntax.specs.Characters.{right_brace}
use Rattle.edit_syntax.specs.Strings.{lf, crlf}
use Rattle.edit_syntax.specs.Grammar.{Between, blank, break, remark, gap, IsGap, inline, Members, no_members, last_member, member}
use Rattle.edit_syntax.specs.Reading.{first, past_gap, past_blanks}
use Rattle.edit_tree.specs.EditBytes.{Splice, put_before, behind_last, is_blank_gap, inline_grown}
use Rattle.edit_tree.specs.Slots.{of_pair, slots, AreSlots, of_members}
use Rattle.edit_tree.specs.SlotTexts.{TableAt}
use Rattle.edit_rewrite.proofs.SlotLaws.{slot_begins, trimmed, trimmed_gap, past_blanks_is}
use Rattle.edit_rewrite.proofs.MemberTurns.{table_valid, members_come}

-- ---- an empty one

-- the brace closes it behind white space alone
trimmed_closes : (g : List Between) (after : List ℕ)
    → eqb (first (trimmed g ++ (right_brace ∷ after))) right_brace ≡ is_blank_gap g
trimmed_closes [] after = refl
trimmed_closes (blank b ∷ g) after = trimmed_closes g after
trimmed_closes (break lf ∷ g) after = refl
trimmed_closes (break crlf ∷ g) after = refl
trimmed_closes (remark text e ∷ g) after = refl

blanks_past : (g : List Between) (after : List ℕ) → IsGap g
    → past_blanks (gap g (right_brace ∷ after)) ≡ trimmed g ++ (right_brace ∷ after)
blanks_past g after h = past_blanks_is (gap g (right_brace ∷ after)) ∙
    trimmed_gap g (right_brace ∷ after) h refl

-- behind tabs and spaces the closing brace comes, or a newline or a comment
pub empty_closes : (g : List Between) (after close : List ℕ) → IsGap g
    → close ≡ past_blanks (gap g (right_brace ∷ after)) → eqb (first close) right_brace ≡ is_blank_gap g
empty_closes g after close h e =
    ap (λ (x : List ℕ). eqb (first x) right_brace) (e ∙ blanks_past g after h) ∙ trimmed_closes g after

blank_trimmed : (g : List Between) → is_blank_gap g ≡ true → trimmed g ≡ []
blank_trimmed [] e = refl
blank_trimmed (blank b ∷ g) e = blank_trimmed g e
blank_trimmed (break l ∷ g) e = absurd (true≢false (sym e))
blank_trimmed (remark text l ∷ g) e = absurd (true≢false (sym e))

-- where it comes, nothing else is left
pub empty_closed : (g : List Between) (after close : List ℕ) → IsGap g
    → close ≡ past_blanks (gap g (right_brace ∷ after)) → is_blank_gap g ≡ true → close ≡ right_brace ∷ after
empty_closed g after close h e blanks =
    e ∙ blanks_past g after h ∙ ap (λ (x : List ℕ). x ++ (right_brace ∷ after)) (blank_trimmed g blanks)

some_is : {A : Type 0} (a b : A) → Some a ≡ Some b → b ≡ a
some_is a b e = ap (λ (o : Option _). unwrap_or o a) (sym e)

-- white space alone gives way
pub blank_row : (m : List ℕ) (g : List Between) (after : List ℕ) (s : Splice) → is_blank_gap g ≡ true
    → inline_grown m (inline g no_members) after ≡ Some s
    → s ≡ record {
      from = gap g (right_brace ∷ after);
      to = right_brace ∷ after;
      now = codes " " ++ (m ++ codes " ");
    }
blank_row m g after s blanks is = some_is _ _ (rw blanks at is)

-- a newline or a comment stays behind the member
pub open_row : (m : List ℕ) (g : List Between) (after : List ℕ) (s : Splice) → is_blank_gap g ≡ false
    → inline_grown m (inline g no_members) after ≡ Some s
    → s ≡ put_before (gap g (right_brace ∷ after)) (codes " " ++ m)
open_row m g after s blanks is = some_is _ _ (rw blanks at is)

-- ---- one with members

-- it has none
abbrev has_none : Members → Bool
has_none no_members = true
has_none _ = false

closes_empty : (ms : Members) (after : List ℕ) → AreSlots true (of_members ms)
    → eqb (first (slots (of_members ms) (right_brace ∷ after))) right_brace ≡ has_none ms
closes_empty no_members after h = refl
closes_empty (last_member k a b v c) after h = (slot_begins true (of_pair k a b v) _ h.0).unshut
closes_empty (member k a b v c d ms) after h = (slot_begins true (of_pair k a b v) _ h.0).unshut

-- behind the brace and its gap another comes where it has none
closes_where : (text table : List ℕ) (g : List Between) (ms : Members) (after : List ℕ)
    → TableAt text table g ms after → eqb (first (past_gap (drop 1 table))) right_brace ≡ has_none ms
closes_where text table g ms after h =
    ap (λ (x : List ℕ). eqb (first x) right_brace) (members_come text table g ms after h)
    ∙ closes_empty ms after (table_valid text table g ms after h)

pub none_there : (text table : List ℕ) (g : List Between) (ms : Members) (after : List ℕ)
    → TableAt text table g ms after → eqb (first (past_gap (drop 1 table))) right_brace ≡ true
    → ms ≡ no_members
none_there text table g ms after h comes = go ms (sym (closes_where text table g ms after h) ∙ comes)
  where
    go : (l : Members) → has_none l ≡ true → l ≡ no_members
    go no_members e = refl
    go (last_member k a b v c) e = absurd (true≢false (sym e))
    go (member k a b v c d l) e = absurd (true≢false (sym e))

-- behind the value of the last member
pub full_row : (m text table : List ℕ) (g : List Between) (ms : Members) (after : List ℕ) (s : Splice)
    → TableAt text table g ms after → eqb (first (past_gap (drop 1 table))) right_brace ≡ false
    → inline_grown m (inline g ms) after ≡ Some s
    → s ≡ put_before (behind_last ms (right_brace ∷ after)) (codes ", " ++ m)
full_row m text table g ms after s h comes is = go ms (sym (closes_where text table g ms after h) ∙ comes) is
  where
    go : (l : Members) → has_none l ≡ false → inline_grown m (inline g l) after ≡ Some s
        → s ≡ put_before (behind_last l (right_brace ∷ after)) (codes ", " ++ m)
    go no_members e k = absurd (true≢false e)
    go (last_member l a b v c) e k = some_is _ _ k
    go (member l a b v c d ms) e k = some_is _ _ k
