-- Groups of entries by name, to which runs of entries of one name are added.
use Rattle.std.proofs.Common.{◌≡◌, ℕ, List, [], ◌∷◌, ◌++◌, true, false, cond, arith, ◌==◌, refl, sym, ap, ◌∙◌, Option, None, Some, ◌⊎◌, append_assoc, append-nil, inl, inr, ⊎_elim}
use Rattle.std.specs.Prelude.{String, Vec, slice_get, string_bytes, unwrap_or}
use Rattle.std.specs.declared.alloc.Global.{Global}
use Rattle.std.specs.List.{filter}
use Rattle.std.specs.Option.{option_map_or}
use Rattle.std.specs.Str.{bytes_eq}
use Rattle.std.specs.Vec.{vec_len}
use Rattle.std.specs.BTreeMap.{BTreeMap}
use Rattle.std.proofs.lemmas.Bool.{cases_Bool, false≢true}
use Rattle.std.proofs.lemmas.List.{nil_from_length}
use Rattle.std.proofs.lemmas.List.Elements.{All-head, All-tail, All-nil, All-push, filter-append}
use Rattle.std.proofs.lemmas.Slice.Eq.{bytes_eq-Decides}
use Rattle.edit_version.specs.declared.fetch.IndexVersion.{IndexVersion}
use Rattle.edit_sources.specs.FileIndex.{AreNamed, IsAdded, items_at, items_of, shared_items}
use Rattle.edit_sources.specs.declared.index_group.Group.{Group}

abbrev Groups : Type 0
Groups = BTreeMap (String Global) Group

-- the entries of a name among these
abbrev pub with_name : List ℕ → List IndexVersion → List IndexVersion
with_name q xs = filter (λ e. bytes_eq q (string_bytes e.name)) xs

module _ (name q : List ℕ) where
  with_name-step : (b : _) → bytes_eq q name ≡ b → (x : IndexVersion) (xs : List IndexVersion)
      → AreNamed name (x ∷ xs) → with_name q (x ∷ xs) ≡ cond b (x ∷ with_name q xs) (with_name q xs)
  with_name-step b e x xs h =
      ap (λ n. cond (bytes_eq q n) (x ∷ with_name q xs) (with_name q xs))
      (All-head (λ v. string_bytes v.name ≡ name) x xs h) ∙
      ap (λ t. cond t (x ∷ with_name q xs) (with_name q xs)) e

  -- a test of names keeps every entry of one name
  pub with_name-all : bytes_eq q name ≡ true → (xs : List IndexVersion) → AreNamed name xs
      → with_name q xs ≡ xs
  with_name-all e [] h = refl
  with_name-all e (x ∷ xs) h = with_name-step true e x xs h ∙
      ap (λ t. x ∷ t) (with_name-all e xs (All-tail (λ v. string_bytes v.name ≡ name) x xs h))

  -- a test of names drops every entry of one name
  pub with_name-none : bytes_eq q name ≡ false → (xs : List IndexVersion) → AreNamed name xs
      → with_name q xs ≡ []
  with_name-none e [] h = refl
  with_name-none e (x ∷ xs) h = with_name-step false e x xs h ∙
      with_name-none e xs (All-tail (λ v. string_bytes v.name ≡ name) x xs h)

  -- a test of names keeps every entry of one name, or drops every one
  pub with_name-is : (xs : List IndexVersion) → AreNamed name xs
      → ((bytes_eq q name ≡ true) × (with_name q xs ≡ xs))
      ⊎ ((bytes_eq q name ≡ false) × (with_name q xs ≡ []))
  with_name-is xs h = ⊎_elim (λ e. inl (e, with_name-all e xs h)) (λ e. inr (e, with_name-none e xs h))
      (cases_Bool (bytes_eq q name))

-- a run joins the group of its name, and no other
pub joined : (groups : Groups) (name : List ℕ) (run group : List IndexVersion) (q : List ℕ)
    → AreNamed name run → group ≡ items_at groups name ++ run
    → ((bytes_eq q name ≡ true) × (group ≡ items_at groups q ++ with_name q run))
    ⊎ ((bytes_eq q name ≡ false) × (items_at groups q ≡ items_at groups q ++ with_name q run))
joined groups name run group q named items = ⊎_elim
    (λ t. inl (
      t.0,
      items ∙ ap (λ n. items_at groups n ++ run) (sym ((bytes_eq-Decides q name).0 t.0)) ∙
          ap (λ xs. items_at groups q ++ xs) (sym t.1),
    ))
    (λ f. inr (f.0, sym (append-nil (items_at groups q)) ∙ ap (λ xs. items_at groups q ++ xs) (sym f.1)))
    (with_name-is name q run named)

unwrapped : (found : Option Group) (default group : Group) → items_of default ≡ []
    → group ≡ unwrap_or found default → option_map_or items_of found [] ≡ items_of group
unwrapped None default group none is = sym none ∙ ap items_of (sym is)
unwrapped (Some x) default group none is = ap items_of (sym is)

-- what `or_insert` gives for a name is its group
pub inserted : (found known : Option Group) (default group : Group) → found ≡ known → items_of default ≡ []
    → group ≡ unwrap_or found default → option_map_or items_of known [] ≡ items_of group
inserted found known default group same none is =
    ap (λ o. option_map_or items_of o []) (sym same) ∙ unwrapped found default group none is

-- a list of no length has no entries
pub emptied : (entries : Vec IndexVersion Global) → true ≡ (vec_len entries == 0) → entries.items ≡ []
emptied entries h = grind (arith, entries.ok, nil_from_length)

-- the entries of a group, before entries that are added to those that are not shared
pub appended : (group after : Group) (run : List IndexVersion) → after.shared ≡ group.shared
    → after.versions.items ≡ group.versions.items ++ run → items_of after ≡ items_of group ++ run
appended group after run shared items =
    ap (λ o. shared_items o ++ after.versions.items) shared ∙
    ap (λ xs. shared_items group.shared ++ xs) items ∙
    sym (append_assoc (shared_items group.shared) group.versions.items run)

-- an entry of the name of the first entry has the name of them all
pub continued : (run : List IndexVersion) (x : IndexVersion)
    → option_map_or (λ e. bytes_eq (string_bytes e.name) (string_bytes x.name)) (slice_get run 0) false ≡ true
    → (name : List ℕ) → AreNamed name run → string_bytes x.name ≡ name
continued [] x h name named = absurd (false≢true h)
continued (e ∷ es) x h name named = sym ((bytes_eq-Decides (string_bytes e.name) (string_bytes x.name)).0 h) ∙
    All-head (λ v. string_bytes v.name ≡ name) e es named

-- all entries except the last ones, which are of one name, are in the groups
abbrev pub HasGrouped : Groups → List IndexVersion → List IndexVersion → Type 0
HasGrouped groups run entries = ((q : List ℕ) → items_at groups q ++ with_name q run ≡ with_name q entries)
    × ((name : List ℕ) × AreNamed name run)

module _ (groups : Groups) (run entries : List IndexVersion) (has : HasGrouped groups run entries) where
  -- one entry more of the same name
  pub grouped-more : (x : IndexVersion) → ((name : List ℕ) → AreNamed name run → string_bytes x.name ≡ name)
      → HasGrouped groups (run ++ x ∷ []) (entries ++ x ∷ [])
  grouped-more x named = (
    λ q. let test = λ (e : IndexVersion). bytes_eq q (string_bytes e.name) in
        ap (λ t. items_at groups q ++ t) (filter-append test run (x ∷ [])) ∙
        sym (append_assoc (items_at groups q) (with_name q run) (with_name q (x ∷ []))) ∙
        ap (λ t. t ++ with_name q (x ∷ [])) (has.0 q) ∙ sym (filter-append test entries (x ∷ [])),
    (has.1.0, All-push (λ v. string_bytes v.name ≡ has.1.0) run x has.1.1 (named has.1.0 has.1.1)),
  )

  -- all entries, where the run is added
  pub grouped-all : (after : Groups) → IsAdded groups run after
      → (q : List ℕ) → items_at after q ≡ with_name q entries
  grouped-all after added q = added q ∙ has.0 q

  -- one entry more, where the run is added before it
  pub grouped-anew : (after : Groups) → IsAdded groups run after → (x : IndexVersion)
      → HasGrouped after (x ∷ []) (entries ++ x ∷ [])
  grouped-anew after added x = (
    λ q. let test = λ (e : IndexVersion). bytes_eq q (string_bytes e.name) in
        ap (λ t. t ++ with_name q (x ∷ [])) (grouped-all after added q) ∙
        sym (filter-append test entries (x ∷ [])),
    (
      string_bytes x.name,
      All-push (λ v. string_bytes v.name ≡ string_bytes x.name) [] x
          (All-nil (λ v. string_bytes v.name ≡ string_bytes x.name)) refl,
    ),
  )
