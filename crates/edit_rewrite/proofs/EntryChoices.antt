-- Selecting entries in a loop.
use Rattle.std.proofs.Common.{◌≡◌, ℕ, ◌+◌, ◌<◌, Bool, true, false, cond, List, length, take, get_or, Some, None, ap}
use Rattle.std.specs.Prelude.{not, ◌&&◌, is_some}
use Rattle.edit_rewrite.specs.declared.locate.Entry.{Entry}
use Rattle.edit_tree.specs.EditBytes.{first_result, last_result}
use Rattle.edit_rewrite.specs.StatementOffsets.{own_entry, dotted_entry, through_entry}
use Rattle.edit_tree.proofs.Choices.{last_taken, last_left, first_taken, first_left}

-- what is read past the end
abbrev pub no_entry : Entry
no_entry = record {
  is_own = false;
  is_within = false;
  is_header = false;
  front = None;
  line = 0;
  key = 0;
  after = 0;
  next = 0;
}

yes : (b : Bool) (e : Entry) → b ≡ true → cond b (Some e) None ≡ Some e
yes b e h = ap (λ (t : Bool). cond t (Some e) None) h

no : (b : Bool) (e : Entry) → b ≡ false → cond b (Some e) None ≡ None
no b e h = ap (λ (t : Bool). cond t (Some e) None) h

module _ (xs : List Entry) (i : ℕ) (lt : i < length xs) where
  pub own_taken : (get_or xs i no_entry).is_own ≡ true
      → last_result own_entry (take (i + 1) xs) ≡ Some (get_or xs i no_entry)
  own_taken h = last_taken own_entry xs i no_entry (get_or xs i no_entry) lt (yes _ (get_or xs i no_entry) h)

  pub own_left : (get_or xs i no_entry).is_own ≡ false
      → last_result own_entry (take (i + 1) xs) ≡ last_result own_entry (take i xs)
  own_left h = last_left own_entry xs i no_entry lt (no _ (get_or xs i no_entry) h)

  pub dotted_taken : (not (get_or xs i no_entry).is_header && is_some (get_or xs i no_entry).front) ≡ true
      → last_result dotted_entry (take (i + 1) xs) ≡ Some (get_or xs i no_entry)
  dotted_taken h = last_taken dotted_entry xs i no_entry (get_or xs i no_entry) lt
      (yes _ (get_or xs i no_entry) h)

  pub dotted_left : (not (get_or xs i no_entry).is_header && is_some (get_or xs i no_entry).front) ≡ false
      → last_result dotted_entry (take (i + 1) xs) ≡ last_result dotted_entry (take i xs)
  dotted_left h = last_left dotted_entry xs i no_entry lt (no _ (get_or xs i no_entry) h)

  pub through_taken : first_result through_entry (take i xs) ≡ None
      → ((get_or xs i no_entry).is_header && is_some (get_or xs i no_entry).front) ≡ true
      → first_result through_entry xs ≡ Some (get_or xs i no_entry)
  through_taken none h =
      first_taken through_entry xs i no_entry (get_or xs i no_entry) lt none (yes _ (get_or xs i no_entry) h)

  pub through_left : first_result through_entry (take i xs) ≡ None
      → ((get_or xs i no_entry).is_header && is_some (get_or xs i no_entry).front) ≡ false
      → first_result through_entry (take (i + 1) xs) ≡ None
  through_left none h = first_left through_entry xs i no_entry lt none (no _ (get_or xs i no_entry) h)
