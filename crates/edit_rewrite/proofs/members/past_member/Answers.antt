use Rattle.std.proofs.Common.{◌≡◌, ℕ, List, [], ◌∷◌, ◌++◌, refl, sym, ap, subst, ◌∙◌}
use Rattle.std.proofs.lemmas.List.{append-nil}
use Rattle.edit_syntax.specs.declared.read.syntax_tokens.SyntaxToken.{SyntaxToken}
use Rattle.edit_syntax.specs.Characters.{equals}
use Rattle.edit_syntax.specs.Grammar.{gap, value}
use Rattle.edit_syntax.specs.SyntaxTokens.{tokens_of_key}
use Rattle.edit_syntax.specs.Steps.{IsItem, IsKeyAndSign}
use Rattle.edit_syntax.specs.Strings.{name, dotted}
use Rattle.edit_syntax.specs.Strings as strings
use Rattle.edit_syntax.proofs.MembersReadAgain.{value_first}
use Rattle.edit_tree.specs.EditBytes.{unresolved}
use Rattle.edit_rewrite.specs.Entries.{AreParts}
use Rattle.edit_document.specs.Items.{place_view}
use Rattle.edit_tree.specs.SlotTexts.{Ends}
use Rattle.edit_tree.specs.Statements.{Named, dotted_parts, parts}
use Rattle.edit_rewrite.proofs.EntryParts.{part_offset_is}
use Rattle.edit_rewrite.proofs.KeyWays.{key_are}
use Rattle.edit_rewrite.proofs.Ways.{follows_itself}
use Rattle.edit_rewrite.proofs.members.past_member.Goals as goal

pub returns-clause-outcome : goal.returns-clause-outcome
returns-clause-outcome c table k a b v g rest st begins =
    let text = c.args.text.now in
    let place = place_view c.args.place.now in
    let w = st.valid in
    let more = value v (gap g rest) in
    let behind = a ++ (equals ∷ (b ++ more)) in
    let n : Named = (name k.first, dotted k.others behind) in
    let ns = dotted_parts k.others behind in
    let naming : IsKeyAndSign k a b more =
    record { key = w.1; before = w.2; behind = w.3; begins = value_first v (gap g rest) w.4 } in
    let item : IsItem v g rest =
    record { valid = w.4; shallow = w.5; between = st.between; ends = st.ends } in
    let read = c.in-Ok.ensures k a b more naming st.spelled in
    let all = tokens_of_key k behind in
    let tokens : c.as_slice-seen.result.now ≡ all =
    c.as_slice-seen.ensures.value ∙ read.1 ∙ ap (λ (l : List SyntaxToken). l ++ all) c.new-tokens.ensures.items in
    let ends : Ends text (strings.key k behind) =
    (st.within.0, st.within.1 ∙ ap (λ (x : List ℕ). st.within.0 ++ x) st.spelled) in
    let are = subst (λ (l : List SyntaxToken). AreParts text (parts k behind) l) (append-nil all ∙ sym tokens)
    (key_are text k behind [] w.1 c.utf8.text ends refl) in
    let goes =
    (c.in_ok-named.ensures {u = tt}).goes table unresolved n ns are (follows_itself place) begins in (
      c.part_end.ensures
          ∙ part_offset_is text place table n ns c.as_slice-seen.result.now
          (c.in_ok-named.named, c.in_ok-named.front) are goes,
      c.in-Ok-past_value.ensures v g rest item read.0,
    )
