-- No message has a float.
use Rattle.std.proofs.Common.{◌≡◌, ℕ, Some, None, Ordering, Less, Equal, Greater, List, [], ◌∷◌, Bool, true, false, ◌||◌, map, refl, ap, ◌∙◌}
use Rattle.std.specs.List.{fold}
use Rattle.std.specs.Cmp.Lexicographic.{slice_cmp}
use Rattle.std.specs.Ordering.{match_ordering, nat_cmp}
use Rattle.serde_json.specs.Data.{Data, Members, no_members, member, put}
use Rattle.serde_json.specs.View.{items_of}
use Rattle.serde_json.specs.Written.{has_float, items_have_float, members_have_float}
use Rattle.edit_tree.specs.declared.place.Step.{Step}
use Rattle.edit_tree.specs.declared.place.Step.TheVariants.{Key, Index}
use Rattle.edit_shown.specs.Fields.{field_data, list_data, member_data, step_data, text_data}
use Rattle.edit_shown.specs.JsonMessages.{format_member, message_data, with_member}
use Rattle.edit_shown.specs.declared.json.fields.Field.{Field}
use Rattle.edit_shown.specs.declared.json.fields.Field.TheVariants as field
use Rattle.edit_shown.specs.declared.json.fields.Member.{Member}

-- neither of two tests holds
neither : (a b : Bool) → a ≡ false → b ≡ false → (a || b) ≡ false
neither a b x y = ap (λ t. t || b) x ∙ y

-- the first of two tests, neither of which holds
first : (a b : Bool) → (a || b) ≡ false → a ≡ false
first true b h = h
first false b h = refl

-- the second one
second : (a b : Bool) → (a || b) ≡ false → b ≡ false
second true b h = cc
second false b h = h

-- a list of what has no float has none
items : {A : Type 0} (of : A → Data) → ((x : A) → has_float (of x) ≡ false) → (xs : List A)
    → items_have_float (items_of (map of xs)) ≡ false
items of none [] = refl
items of none (x ∷ xs) = neither _ _ (none x) (items of none xs)

-- a step of a place has none
step_none : (s : Step) → has_float (step_data s) ≡ false
step_none (Key key) = refl
step_none (Index index) = refl

-- what a member has is no float
field_none : (f : Field) → has_float (field_data f) ≡ false
field_none (field.Text text) = refl
field_none (field.Maybe None) = refl
field_none (field.Maybe (Some text)) = refl
field_none (field.Truth truth) = refl
field_none (field.Number None) = refl
field_none (field.Number (Some n)) = refl
field_none (field.Texts texts) = items text_data (λ _. refl) texts.now
field_none (field.Lists lists) = items (λ l. list_data text_data l.items)
    (λ l. items text_data (λ _. refl) l.items) lists.now
field_none (field.Place steps) = items step_data step_none steps.now

-- one of three objects
ordered : (o : Ordering) (a b c : Members) → members_have_float a ≡ false → members_have_float b ≡ false
    → members_have_float c ≡ false → members_have_float (match_ordering o a b c) ≡ false
ordered Less a b c x y z = x
ordered Equal a b c x y z = y
ordered Greater a b c x y z = z

-- one member more
more : (key : List ℕ) (d : Data) (ms : Members) → has_float d ≡ false → members_have_float ms ≡ false
    → members_have_float (put key d ms) ≡ false
more key d no_members x h = neither _ _ x refl
more key d (member l e ms) x h =
    let own = first (has_float e) (members_have_float ms) h in
    let rest = second (has_float e) (members_have_float ms) h in
    ordered (slice_cmp nat_cmp key l) (member key d (member l e ms)) (member l d ms)
    (member l e (put key d ms))
    (neither _ _ x h) (neither _ _ x rest) (neither _ _ own (more key d ms x rest))

-- no object of members has one
all : (members : List Member) (ms : Members) → members_have_float ms ≡ false
    → members_have_float (fold with_member ms (map member_data members)) ≡ false
all [] ms h = h
all (m ∷ members) ms h =
    all members (put m.key.now (field_data m.field) ms) (more _ _ ms (field_none m.field) h)

-- the object of a message has no float
pub no_float : (members : List Member) → has_float (message_data (map member_data members)) ≡ false
no_float members = all members format_member refl
