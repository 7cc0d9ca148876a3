-- The elements of an array that refer to a removed dependency, from the last one on; and whether some table
-- passes a test.
use Rattle.std.proofs.Common.{◌≡◌, ℕ, suc, Bool, true, false, ◌||◌, cond, List, [], ◌∷◌, ◌++◌, Option, Some, refl, sym, ap, ◌∙◌, append_assoc}
use Rattle.std.specs.List.{filter, list_any, starts_with}
use Rattle.std.specs.Option.{option_map_or}
use Rattle.std.specs.Prelude.{codes, nat_eq, not, ◌&&◌, option_and_then}
use Rattle.std.specs.Str.{bytes_eq}
use Rattle.std.specs.Global.{Vec}
use Rattle.std.proofs.lemmas.List.{map-append}
use Rattle.edit_tree.specs.declared.place.Step.{Step as WrittenStep}
use Rattle.edit_tree.specs.Assertions.{Place, at, index}
use Rattle.edit_document.specs.Items.{count_in, is_static_array, place_view, string_in}
use Rattle.edit_tree.specs.Tree.{View, string, truth, whole, fractional, moment, static_array, table_array, inline_table, table}
use Rattle.edit_update.specs.Features.{elements_back, elements_of, is_stale_item, is_stale, stale_in}
use Rattle.edit_manifest.specs.Places.{places_view}
use Rattle.edit_manifest.specs.Tables.{Tree}

-- those among so many elements of an array
abbrev pub stale_back : Tree → Bool → List ℕ → Place → ℕ → List Place
stale_back t held name array n = filter (λ p. is_stale_item held name (t p)) (elements_back array n)

module _ (t : Tree) (held : Bool) (name : List ℕ) (array : Place) where
  -- one that goes
  pub back_goes : (n m : ℕ) → n ≡ suc m → is_stale_item held name (t (at array (index m))) ≡ true
      → stale_back t held name array n ≡ at array (index m) ∷ stale_back t held name array m
  back_goes n m e h =
      ap (stale_back t held name array) e
      ∙ ap (λ b. cond b (at array (index m) ∷ stale_back t held name array m)
      (stale_back t held name array m)) h

  -- one that stays
  pub back_stays : (n m : ℕ) → n ≡ suc m → is_stale_item held name (t (at array (index m))) ≡ false
      → stale_back t held name array n ≡ stale_back t held name array m
  back_stays n m e h =
      ap (stale_back t held name array) e
      ∙ ap (λ b. cond b (at array (index m) ∷ stale_back t held name array m)
      (stale_back t held name array m)) h

  -- an element that is removed is listed, and then those before it
  pub stale_goes : (n m : ℕ) (xs new : List (Vec WrittenStep)) (x : Vec WrittenStep) (all : List Place)
      → n ≡ suc m
      → is_stale_item held name (t (at array (index m))) ≡ true → new ≡ xs ++ x ∷ []
      → place_view x.items ≡ at array (index m)
      → places_view xs ++ stale_back t held name array n ≡ all
      → places_view new ++ stale_back t held name array m ≡ all
  stale_goes n m xs new x all e h pushed is before_is =
      let before = stale_back t held name array m in
      ap (λ l. places_view l ++ before) pushed
      ∙ ap (λ l. l ++ before) (map-append (λ (p : Vec WrittenStep). place_view p.items) xs (x ∷ []))
      ∙ append_assoc (places_view xs) (place_view x.items ∷ []) before
      ∙ ap (λ q. places_view xs ++ q ∷ before) is
      ∙ sym (ap (λ l. places_view xs ++ l) (back_goes n m e h)) ∙ before_is

  -- an element that stays is not listed
  pub stale_stays : (n m : ℕ) (xs : List (Vec WrittenStep)) (all : List Place) → n ≡ suc m
      → is_stale_item held name (t (at array (index m))) ≡ false
      → places_view xs ++ stale_back t held name array n ≡ all
      → places_view xs ++ stale_back t held name array m ≡ all
  stale_stays n m xs all e h before_is = sym (ap (λ l. places_view xs ++ l) (back_stays n m e h)) ∙ before_is

  -- all of an array's
  of_view : (v : View) → is_static_array v ≡ true → elements_of array (Some v)
      ≡ elements_back array (count_in v)
  of_view (static_array n) e = refl
  of_view (string s) e = absurd cc
  of_view (truth b) e = absurd cc
  of_view (whole s) e = absurd cc
  of_view (fractional s) e = absurd cc
  of_view (moment s) e = absurd cc
  of_view (table_array n) e = absurd cc
  of_view (inline_table ms) e = absurd cc
  of_view (table ms) e = absurd cc

  of_other : (v : View) → is_static_array v ≡ false → elements_of array (Some v) ≡ []
  of_other (static_array n) e = absurd cc
  of_other (string s) e = refl
  of_other (truth b) e = refl
  of_other (whole s) e = refl
  of_other (fractional s) e = refl
  of_other (moment s) e = refl
  of_other (table_array n) e = refl
  of_other (inline_table ms) e = refl
  of_other (table ms) e = refl

  pub stale_all : (v : View) → t array ≡ Some v → is_static_array v ≡ true
      → stale_in t held name array ≡ stale_back t held name array (count_in v)
  stale_all v e is = ap (λ ps. filter (λ p. is_stale_item held name (t p)) ps)
      (ap (elements_of array) e ∙ of_view v is)

  pub stale_none : (v : View) → t array ≡ Some v → is_static_array v ≡ false → stale_in t held name array ≡ []
  stale_none v e is = ap (λ ps. filter (λ p. is_stale_item held name (t p)) ps)
      (ap (elements_of array) e ∙ of_other v is)

-- ---- tests

-- the first one that is left passes
pub any_here : (test : Place → Bool) (ps : List Place) (p : Place) (more : List Place) → ps ≡ p ∷ more
    → test p ≡ true
    → list_any test ps ≡ true
any_here test ps p more e h = ap (list_any test) e ∙ ap (λ b. b || list_any test more) h

-- it does not
pub any_next : (test : Place → Bool) (ps : List Place) (p : Place) (more : List Place) → ps ≡ p ∷ more
    → test p ≡ false
    → list_any test ps ≡ list_any test more
any_next test ps p more e h = ap (list_any test) e ∙ ap (λ b. b || list_any test more) h

-- a string that begins with the key and a slash goes, where no section holds the key
pub goes_front : (held : Bool) (name text front : List ℕ) (r : Bool) (v : View) (o : Option View) → o ≡ Some v
    → Some text ≡ string_in v → bytes_eq text name ≡ false → held ≡ false → front ≡ name ++ codes "/"
    → r ≡ starts_with nat_eq text front → r ≡ is_stale_item held name o
goes_front held name text front r v o is said other free begins e =
    e ∙ ap (starts_with nat_eq text) begins
    ∙ sym (ap (λ w. option_map_or (is_stale held name) (option_and_then string_in w) false) is
    ∙ ap (λ w. option_map_or (is_stale held name) w false) (sym said)
    ∙ ap (λ b. b || (not held && starts_with nat_eq text (name ++ codes "/"))) other
    ∙ ap (λ b. not b && starts_with nat_eq text (name ++ codes "/")) free)
