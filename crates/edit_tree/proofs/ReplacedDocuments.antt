-- Parsing a text with values replaced by literals.
use Rattle.std.proofs.Common.{◌≡◌, ℕ, List, [], ◌∷◌, cond, Option, None, sym, ap, ◌∙◌, subst}
use Rattle.edit_syntax.specs.Grammar.{Text, text}
use Rattle.edit_tree.specs.Assertions.{IsDocument, Place}
use Rattle.edit_tree.specs.Tree.{View, view_at}
use Rattle.edit_tree.specs.DocumentViews.{DocumentViews, tree_of, ShowsTree}
use Rattle.edit_tree.specs.Replaces.{Edits, replaced, tree_with_strings, tree_without_below, is_below_any, is_string, AreStrings, AreValues, AreOutside}
use Rattle.edit_tree.proofs.ReplacedTree.{AreApart, replaced_document, replaced_view}
use Rattle.edit_tree.proofs.ReplacedStrings.{written_same, strings_values, strings_outside, strings_emptied}
use Rattle.edit_tree.proofs.Shallow.{one_form}

-- whatever form the new text is read to, its tree is the old one with the new strings and nothing below them
pub tree_again : (edits : Edits) (old new : List ℕ) (form : Text) (t : Place → Option View)
    → IsDocument old form → AreApart edits form → ((q : Place) → t q ≡ view_at form q)
    → new ≡ text (replaced edits form)
    → (g : Text) → IsDocument new g → (q : Place)
    → view_at g q ≡ tree_with_strings edits (tree_without_below edits t) q
tree_again edits old new form t manifest apart same e g read q =
    let is = subst (λ (b : List ℕ). IsDocument b (replaced edits form)) (sym e)
    (replaced_document edits old form manifest) in
    ap (λ z. view_at z q) (one_form new g (replaced edits form) read is) ∙
    replaced_view edits old form manifest apart q
    ∙ written_same edits (tree_without_below edits (view_at form)) (tree_without_below edits t) q
    (ap (λ v. cond (is_below_any edits q) None v) (sym (same q)))

-- ---- strings of a document

pub strings_along : (edits : Edits) (t u : Place → Option View) → ((q : Place) → t q ≡ u q)
    → AreStrings edits t → AreStrings edits u
strings_along [] t u same h = tt
strings_along (e ∷ edits) t u same h = (ap is_string (sym (same e.0)) ∙ h.0, strings_along edits t u same h.1)

-- strings that a document shows are values, and none of them lies below another
pub shown_values : (edits : Edits) (d : DocumentViews) (form : Text) → ShowsTree d form
    → AreStrings edits (tree_of d)
    → AreValues edits form
shown_values edits d form shows all = strings_values edits form
    (strings_along edits (tree_of d) (view_at form) shows all)

pub shown_outside : (edits : Edits) (d : DocumentViews) (form : Text) → IsDocument d.bytes form
    → ShowsTree d form
    → AreStrings edits (tree_of d) → AreOutside edits
shown_outside edits d form manifest shows all =
    strings_outside edits d.bytes form manifest
    (strings_along edits (tree_of d) (view_at form) shows all)

-- nothing stands below them
pub shown_emptied : (edits : Edits) (d : DocumentViews) (form : Text) → IsDocument d.bytes form
    → ShowsTree d form
    → AreStrings edits (tree_of d)
    → (q : Place) → tree_without_below edits (tree_of d) q ≡ tree_of d q
shown_emptied edits d form manifest shows all q =
    ap (λ v. cond (is_below_any edits q) None v) (shows q)
    ∙ strings_emptied edits d.bytes form q manifest
    (strings_along edits (tree_of d) (view_at form) shows all) ∙ sym (shows q)
