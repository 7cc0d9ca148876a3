-- How an example of an edit is proved: the text is parsed, and the claim is computed on its syntax tree.
use Rattle.std.proofs.Common.{◌≡◌, ℕ, Bool, true, false, List, Option, Some, None, refl, sym, ap, ◌∙◌, true≢false}
use Rattle.std.specs.Prelude.{not}
use Rattle.edit_syntax.specs.Grammar.{Text, Spells}
use Rattle.edit_syntax.specs.FormOf.{form_of}
use Rattle.edit_tree.specs.Assertions.{Place, key, same_step}
use Rattle.edit_tree.specs.NewItems.{NewValue, NewItem}
use Rattle.edit_tree.specs.EditBytes.{set_text, replaced_text, inserted_text, is_one_statement}
use Rattle.edit_tree.specs.RemovedBytes.{removed_text}
use Rattle.edit_document.proofs.FromReader.{form_spells}

-- the text is in the grammar, and a test holds of its form
pub record Meets (bytes : List ℕ) (test : Text → Bool) : Type 0 where
  pub form : Text
  pub spells : Spells bytes form
  pub holds : test form ≡ true

-- there is a form of which the test holds
abbrev pub is_met : Option Text → (Text → Bool) → Bool
is_met None test = false
is_met (Some form) test = test form

-- what is worked out holds
pub meets : (bytes : List ℕ) (test : Text → Bool) → is_met (form_of bytes) test ≡ true → Meets bytes test
meets bytes test e = go (form_of bytes) refl
  where
    go : (o : Option Text) → form_of bytes ≡ o → Meets bytes test
    go None h = absurd (true≢false (sym e ∙ ap (λ (o : Option Text). is_met o test) h))
    go (Some form) h = record {
      form = form;
      spells = form_spells bytes form h;
      holds = sym (ap (λ (o : Option Text). is_met o test) h) ∙ e;
    }

-- an edit makes this text of a form
abbrev pub is_left : (Text → List ℕ) → List ℕ → Text → Bool
is_left edit new form = same_step (key (edit form)) (key new)

-- a value at a place makes another text of the first
abbrev pub Sets : List ℕ → Place → NewValue → List ℕ → Type 0
Sets old place v new = Meets old (is_left (set_text place v) new)

-- what is worked out does so
pub sets : (old : List ℕ) (place : Place) (v : NewValue) (new : List ℕ)
    → is_met (form_of old) (is_left (set_text place v) new) ≡ true → Sets old place v new
sets old place v new e = meets old (is_left (set_text place v) new) e

-- an entry at a place does
abbrev pub ReplacesEntry : List ℕ → Place → NewItem → List ℕ → Type 0
ReplacesEntry old place item new = Meets old (is_left (replaced_text place item) new)

-- what is worked out does so
pub replaces_entry : (old : List ℕ) (place : Place) (item : NewItem) (new : List ℕ)
    → is_met (form_of old) (is_left (replaced_text place item) new) ≡ true → ReplacesEntry old place item new
replaces_entry old place item new e = meets old (is_left (replaced_text place item) new) e

-- a member of a table does
abbrev pub Inserts : List ℕ → Place → List ℕ → NewValue → List ℕ → Type 0
Inserts old place name v new = Meets old (is_left (inserted_text place name v) new)

-- what is worked out does so
pub inserts : (old : List ℕ) (place : Place) (name : List ℕ) (v : NewValue) (new : List ℕ)
    → is_met (form_of old) (is_left (inserted_text place name v) new) ≡ true → Inserts old place name v new
inserts old place name v new e = meets old (is_left (inserted_text place name v) new) e

-- an item removed does
abbrev pub Removes : List ℕ → Place → List ℕ → Type 0
Removes old place new = Meets old (is_left (removed_text place) new)

-- what is worked out does so
pub removes : (old : List ℕ) (place : Place) (new : List ℕ)
    → is_met (form_of old) (is_left (removed_text place) new) ≡ true → Removes old place new
removes old place new e = meets old (is_left (removed_text place) new) e

-- the answer says whether one pair alone names a place
abbrev pub is_one_pair : Place → Bool → Text → Bool
is_one_pair place true form = is_one_statement form place
is_one_pair place false form = not (is_one_statement form place)
