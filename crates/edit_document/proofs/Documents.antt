-- What the nodes of a text determine about it.
use Rattle.std.proofs.Common.{◌≡◌, ℕ, ◌≤◌, Bool, true, false, List, [], ◌∷◌, Option, Some, None, Result, Err, refl, sym, ap, subst, ◌∙◌, ◌⊎◌, inl, inr, arith}
use Rattle.std.specs.Prelude.{map, IsUtf8, MatchResult, string_bytes}
use Rattle.std.specs.List.{AllByRecursion}
use Rattle.edit_syntax.specs.declared.read.syntax_tokens.SyntaxToken.{SyntaxToken}
use Rattle.edit_tree.specs.declared.nodes.Node.{Node}
use Rattle.edit_document.specs.declared.document.Document.TheInside.{Inside}
use Rattle.edit_syntax.specs.Grammar.{array, Text, lines, byte_order_mark, Spells}
use Rattle.edit_tree.specs.Assertions.{index, at, assertions, IsDocument}
use Rattle.edit_syntax.specs.Depth.{text_depth}
use Rattle.edit_syntax.specs.SyntaxTokens.{tokens_of_text, IsTokenizeError}
use Rattle.edit_base.specs.Errors.{IsMemory}
use Rattle.edit_base.specs.declared.errors.Error.{Error}
use Rattle.edit_base.specs.declared.errors.Error.TheVariants.{NotToml, Memory}
use Rattle.edit_tree.specs.DocumentViews.{DocumentViews, ShowsTree, node_at}
use Rattle.edit_tree.specs.Nodes.{ModelNode, RepresentsNodes}
use Rattle.edit_syntax.specs.FormOf.{form_of}
use Rattle.edit_tree.specs.Written.{values}
use Rattle.edit_document.specs.DocumentLayout.{placed, model_nodes_of, node_views, document_view_by, IsRead}
use Rattle.edit_tree.specs.Pieces.{IsRange}
use Rattle.edit_syntax.specs.Reading.{◌>>=◌}
use Rattle.edit_tree.specs.Walk.{State, start, state_after, without_pending}
use Rattle.edit_tree.specs.WalkState.{IsToken, KeepsState}
use Rattle.edit_syntax.proofs.TextLaws.{read_again}
use Rattle.edit_tree.proofs.Ends.{Ends}
use Rattle.edit_tree.proofs.Shallow.{manifest_form, one_form}
use Rattle.edit_document.proofs.AssertedModels.{Stands}
use Rattle.edit_document.proofs.WalkedLines.{Walked as Walks, ended, stuck, text_walked, text_even}
use Rattle.edit_document.proofs.ShownTrees.{AreFull, tree_shown}
use Rattle.edit_tree.proofs.Parts.{any_stands, has_kind, text_whole}
use Rattle.edit_document.proofs.TextTokens.{text_tokens}

-- a text in the grammar, with a form of the part that is read
pub record Read (bytes : List ℕ) (form : Text) : Type 0 where
  pub spells : Spells bytes form
  pub utf8 : IsUtf8 bytes

pub read_of : (bytes : List ℕ) (form : Text) → IsDocument bytes form → IsUtf8 bytes → Read bytes form
read_of bytes form m u = record { spells = m.grammar; utf8 = u }

pub ends_all : (bytes : List ℕ) (form : Text) → Read bytes form → Ends bytes (lines form.lines)
ends_all bytes form r = behind form.has_byte_order_mark (lines form.lines) r.spells.spelled
  where
    behind : (b : Bool) (rest : List ℕ) → bytes ≡ byte_order_mark b rest → Ends bytes rest
    behind true rest e = (0xEF ∷ (0xBB ∷ (0xBF ∷ [])), e)
    behind false rest e = ([], e)

pub tokens_of : (bytes : List ℕ) (form : Text) → Read bytes form
    → AllByRecursion (IsToken bytes) (tokens_of_text form)
tokens_of bytes form r = text_tokens bytes form r.spells.well_formed r.utf8 (ends_all bytes form r)

pub walk_of : (bytes : List ℕ) (form : Text) → Read bytes form
    → Walks (assertions form) (map placed (values form)) (state_after bytes (tokens_of_text form) start)
walk_of bytes form r = text_walked bytes form r.spells.well_formed r.utf8 (ends_all bytes form r)

-- ---- the form of a text, and what it shows

-- what is walked over is a document
pub record Walked (bytes : List ℕ) (form : Text) (nodes : List Node) : Type 0 where
  pub models : List ModelNode
  pub found : model_nodes_of bytes ≡ Some models
  pub stands : Stands (assertions form) (map placed (values form)) models
  pub holds : RepresentsNodes bytes nodes models
  pub manifest : IsDocument bytes form

pub walked_is : (bytes : List ℕ) (form : Text) (nodes : List Node) → Read bytes form
    → KeepsState bytes nodes (state_after bytes (tokens_of_text form) start) → Walked bytes form nodes
walked_is bytes form nodes r keeps = go (walk_of bytes form r)
  where
    go : Walks (assertions form) (map placed (values form)) (state_after bytes (tokens_of_text form) start)
        → Walked bytes form nodes
    go (ended now tables e st) =
        let manifest : IsDocument bytes form =
        record { grammar = r.spells; short = st.clear.short; no_clash = st.clear.apart } in
        record {
          models = now;
          found = ap (λ (o : Option Text). o >>= λ f. state_after bytes (tokens_of_text f) start >>= λ s. Some s.models)
              (manifest_form bytes form manifest) ∙ ap (λ (o : Option State). o >>= λ s. Some s.models) e;
          stands = st;
          holds = subst (KeepsState bytes nodes) e keeps;
          manifest = manifest;
        }
    go (stuck e clash) = absurd (subst (KeepsState bytes nodes) e keeps)

-- what is no document is not walked over
pub refused_is : (bytes : List ℕ) (form : Text) → IsDocument bytes form → IsUtf8 bytes
    → state_after bytes (tokens_of_text form) start ≡ None → ⊥
refused_is bytes form m u none = go (walk_of bytes form (read_of bytes form m u))
  where
    go : Walks (assertions form) (map placed (values form)) (state_after bytes (tokens_of_text form) start)
        → ⊥
    go (ended now tables e st) = let clash : None ≡ Some (without_pending now tables) = sym none ∙ e in cc
    go (stuck e clash) = clash (record { apart = m.no_clash; short = m.short })

-- and each of its arrays has all of its elements
pub text_full : (form : Text) → AreFull (assertions form)
text_full form p g es i kind lt none = any_stands (at p (index i)) (assertions form)
    (text_whole form p g es i (has_kind p (array g es) (assertions form) kind) lt) none

pub shows_form : (bytes : List ℕ) (r : ℕ × ℕ) (form : Text) (nodes : List Node) → Walked bytes form nodes
    → ShowsTree (document_view_by bytes r) form
unfolding document_view_by
shows_form bytes r form nodes w place =
    ap (λ (o : Option (List ModelNode)). node_at (node_views o) place) w.found ∙
    tree_shown (assertions form) (map placed (values form)) w.models place w.stands (text_even form)
    (text_full form)

pub read_is : (inside : Inside) (form : Text) → IsRange (string_bytes inside.text) inside.written
    → Walked (string_bytes inside.text) form inside.nodes.items → IsRead inside
read_is inside form range w = record {
  written = range;
  models = w.models;
  found = w.found;
  form = form;
  manifest = w.manifest;
  holds = w.holds;
  tree = w.stands.tree;
  views = λ place. tree_shown (assertions form) (map placed (values form)) w.models place w.stands
      (text_even form) (text_full form);
  spans = λ n s e. (w.stands.tells n s e).span;
}

-- ---- what reading answers

abbrev pub Found : List ℕ → List SyntaxToken → Type 0
Found bytes tokens = (form : Text) × Spells bytes form × (text_depth form ≤ 80) × (tokens ≡ tokens_of_text form)

read_form : (bytes seen : List ℕ) (tokens : List SyntaxToken) → IsUtf8 bytes → seen ≡ bytes
    → (f : Found seen tokens)
    → Read bytes f.0
read_form bytes seen tokens u same f =
    record { spells = subst (λ (b : List ℕ). Spells b f.0) same f.1; utf8 = u }

pub read_done : (bytes seen : List ℕ) (tokens slice : List SyntaxToken) (nodes : List Node) → IsUtf8 bytes
    → seen ≡ bytes → Found seen tokens → slice ≡ tokens
    → (AllByRecursion (IsToken bytes) slice → KeepsState bytes nodes (state_after bytes slice start))
    → (form : Text) × Walked bytes form nodes
read_done bytes seen tokens slice nodes u same f whole keeps =
    let r = read_form bytes seen tokens u same f in
    let all : slice ≡ tokens_of_text f.0 = whole ∙ f.3 in
    let k : AllByRecursion (IsToken bytes) (tokens_of_text f.0)
    → KeepsState bytes nodes (state_after bytes (tokens_of_text f.0) start) =
    subst (λ (ms : List SyntaxToken). AllByRecursion (IsToken bytes) ms
    → KeepsState bytes nodes (state_after bytes ms start)) all keeps in
    (f.0, walked_is bytes f.0 nodes r (k (tokens_of bytes f.0 r)))

pub shows_any : (bytes : List ℕ) (r : ℕ × ℕ) (form f : Text) (nodes : List Node) → Walked bytes form nodes
    → IsDocument bytes f → ShowsTree (document_view_by bytes r) f
shows_any bytes r form f nodes w m =
    subst (ShowsTree (document_view_by bytes r)) (one_form bytes form f w.manifest m)
    (shows_form bytes r form nodes w)

abbrev pub NotMemory : Error → Type 0
NotMemory e = IsMemory e → ⊥

memory_or : (n : ℕ) (e : Error) → IsTokenizeError n e → IsMemory e ⊎ NotMemory e
memory_or n (NotToml at) h = inr (λ m. omega arith)
memory_or n Memory h = inl refl
memory_or n _ h = absurd h

-- a document is refused for want of memory alone
pub refused_memory : (bytes seen : List ℕ) (tokens slice : List SyntaxToken) (form : Text) (e : Error) (n : ℕ)
    → IsUtf8 bytes → seen ≡ bytes → Found seen tokens → slice ≡ tokens → IsTokenizeError n e
    → (AllByRecursion (IsToken bytes) slice → NotMemory e → state_after bytes slice start ≡ None)
    → IsDocument bytes form → IsMemory e
refused_memory bytes seen tokens slice form e n u same f whole failure stop m =
    elim (memory_or n e failure) [
      | inl y ↦ y
      | inr other ↦
          let r = read_form bytes seen tokens u same f in
          let all : slice ≡ tokens_of_text f.0 = whole ∙ f.3 in
          let s : AllByRecursion (IsToken bytes) (tokens_of_text f.0) → NotMemory e
          → state_after bytes (tokens_of_text f.0) start ≡ None =
          subst (λ (ms : List SyntaxToken). AllByRecursion (IsToken bytes) ms → NotMemory e
          → state_after bytes ms start ≡ None) all stop in
          let none = s (tokens_of bytes f.0 r) other in
          let here : form_of bytes ≡ Some f.0 = read_again 80 bytes f.0
          (record { spells = r.spells; shallow = f.2 }) in
          let one : Some f.0 ≡ Some form = sym here ∙ manifest_form bytes form m in
          let same_form : f.0 ≡ form = cc in
          absurd (refused_is bytes form m u
          (subst (λ (g : Text). state_after bytes (tokens_of_text g) start ≡ None) same_form none))
    ]

pub answer_memory : (r : Result DocumentViews Error) (e e2 : Error) (P : DocumentViews → Type 0)
    → r ≡ Err e2 → e2 ≡ e
    → IsMemory e → MatchResult r P IsMemory
answer_memory r e e2 P was same m = subst (λ (x : Result DocumentViews Error). MatchResult x P IsMemory) (sym was)
    (subst IsMemory (sym same) m)

-- a text over whose tokens no walk ends is no document, whatever form it has
pub no_document : (bytes : List ℕ) → IsUtf8 bytes → model_nodes_of bytes ≡ None → (form : Text)
    → IsDocument bytes form → ⊥
no_document bytes u none form m =
    refused_is bytes form m u
    (stops (state_after bytes (tokens_of_text form) start)
    (ap (λ (o : Option Text). o >>= λ f. state_after bytes (tokens_of_text f) start >>= λ s. Some s.models)
    (sym (manifest_form bytes form m)) ∙ none))
  where
    stops : (o : Option State) → (o >>= λ s. Some s.models) ≡ None → o ≡ None
    stops None e = refl
    stops (Some s) e = absurd (let clash : Some s.models ≡ None = e in cc)
