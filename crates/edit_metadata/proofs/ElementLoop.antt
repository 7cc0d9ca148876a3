-- A loop over the elements of an array: the elements that were read so far, and the tokens that are left.
use Rattle.std.proofs.Common.{◌≡◌, ℕ, ◌-◌, ◌<◌, ◌≤◌, List, [], ◌∷◌, ◌++◌, length, Option, Some, None, refl, sym, ap, ◌∙◌, subst, arith}
use Rattle.std.specs.List.{AllZip}
use Rattle.std.proofs.lemmas.List.{append-nil, append_assoc}
use Rattle.std.proofs.lemmas.Slice.Zip.{all_zipped_more}
use Rattle.json.specs.Token.{Token}
use Rattle.json.specs.Json.{after_end_array, items, parse_map, value}
use Rattle.serde_json.specs.Data.{Data, Items, item, no_items}
use Rattle.serde_json.specs.Read.{converted, of_items}
use Rattle.edit_json.specs.Reads.{ReadsItems, ReadsValue}
use Rattle.edit_json.proofs.GrammarLemmas.{item_read, items_over, none_before}
use Rattle.edit_metadata.specs.Metadata.{values}

-- the elements between the first tokens and the second are these
abbrev pub HasRead : {B : Type 0} → ℕ → (Data → B → Type 0) → List Token → List Token → List B → Type 0
HasRead depth Says first reader ys =
    (n : ℕ) × (length reader ≤ n) × (f : Items → Items)
    × (converted of_items (items (value depth) (length first) first) ≡ parse_map f (converted of_items (items (value depth) n reader)))
    × (length reader ≤ length first)
    × (xs : List Data) × ((ds : Items) → values (f ds) ≡ xs ++ values ds) × AllZip Says xs ys

both : {A B C : Type 0} (f : B → C) (g : A → B) (o : Option (A × List Token)) → parse_map f (parse_map g o) ≡ parse_map (λ a. f (g a)) o
both f g None = refl
both f g (Some p) = refl

module _ {B : Type 0} (depth : ℕ) (Says : Data → B → Type 0) (first : List Token) where
  pub begin : HasRead depth Says first first []
  begin = (length first, omega arith, (λ ds. ds), none_before _, omega arith, [], (λ ds. refl), tt)

  -- one element more
  pub element-more : (reader rest : List Token) (ys : List B) (d : Data) (y : B)
      → HasRead depth Says first reader ys
      → after_end_array reader ≡ None → ReadsValue depth reader d rest → length rest < length reader
      → Says d y
      → HasRead depth Says first rest (ys ++ y ∷ [])
  element-more reader rest ys d y so_far going reads less says =
      let n = so_far.0 in
      let f = so_far.2 in
      let turn = item_read (value depth) n reader rest d (omega (arith, so_far.1, less)) going reads in (
        n - 1,
        omega (arith, so_far.1, less),
        (λ ds. f (item d ds)),
        so_far.3 ∙ ap (parse_map f) turn ∙ both f (item d) _,
        omega (arith, so_far.4, less),
        so_far.5 ++ d ∷ [],
        (λ ds. so_far.6 (item d ds) ∙ sym (append_assoc so_far.5 (d ∷ []) (values ds))),
        all_zipped_more Says so_far.5 ys d y so_far.7 says,
      )

  -- the closing bracket
  pub over : (reader rest : List Token) (ys : List B) → HasRead depth Says first reader ys
      → after_end_array reader ≡ Some rest
      → (ds : Items) × ReadsItems depth first ds rest × AllZip Says (values ds) ys
  over reader rest ys so_far ended = (
    so_far.2 no_items,
    so_far.3 ∙ ap (parse_map so_far.2) (items_over (value depth) so_far.0 reader rest so_far.1 ended),
    subst (λ xs. AllZip Says xs ys) (sym (so_far.6 no_items ∙ append-nil so_far.5)) so_far.7,
  )
