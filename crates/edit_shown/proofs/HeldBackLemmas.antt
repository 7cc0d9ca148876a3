-- What an upgrade held back, from lookups one after another.
use Rattle.std.proofs.Common.{◌≡◌, ◌∙◌, ℕ, ◌<◌, ◌+◌, Bool, true, false, Ordering, Less, Equal, Greater, List, [], ◌∷◌, ◌++◌, ap, append-nil, get_or, length, map, refl, string_bytes, sym, take}
use Rattle.std.specs.Prelude.{String, ◌==◌, ◌&&◌, codes, if◌then◌else◌}
use Rattle.std.specs.BTreeSet.{insert_key}
use Rattle.std.specs.Ordering.{match_ordering}
use Rattle.std.specs.Str.{bytes_eq}
use Rattle.std.specs.String.{string_cmp}
use Rattle.std.specs.declared.alloc.Global.{Global}
use Rattle.std.proofs.lemmas.List.{flat_map_more, length-map, take_more}
use Rattle.url.specs.Parts.{serialize}
use Rattle.serde_json.specs.Data.{array, string}
use Rattle.serde_json.specs.View.{items_of}
use Rattle.edit_metadata.proofs.Ids.{is_listed-more}
use Rattle.edit_upgrade.specs.UpdateCalls.{is_among}
use Rattle.edit_upgrade.specs.declared.decision.options.Options.{Options}
use Rattle.edit_upgrade.specs.declared.upgrade.Look.{Look}
use Rattle.edit_upgrade.specs.declared.upgrade.UpgradePlan.{UpgradePlan}
use Rattle.edit_shown.specs.Fields.{text_data}
use Rattle.edit_shown.specs.HeldBack.{dated_address, dated_addresses, held_back, is_nothing, lists_of, names_of, registries_of, with_text, withheld_at}
use Rattle.edit_shown.specs.JsonMessages as json_messages
use Rattle.edit_shown.specs.Messages.{held_back_members}
use Rattle.edit_shown.specs.declared.held_back.Cause.TheVariants.{Younger, Undated}
use Rattle.edit_shown.specs.declared.held_back.HeldBack.{HeldBack}

-- ---- the addresses of lookups that found a time

one_address : (before : List (List ℕ)) (dated b : Bool) (address q : List ℕ) (old : Bool)
    → old ≡ is_among before q → dated ≡ b
    → (if dated then (if bytes_eq address q then true else old) else old)
    ≡ is_among (before ++ (if b then address ∷ [] else [])) q
one_address before dated true address q old is same =
    ap (λ d. if d then (if bytes_eq address q then true else old) else old) same
    ∙ ap (λ o. if bytes_eq address q then true else o) is
    ∙ sym (is_listed-more before address q)
one_address before dated false address q old is same =
    ap (λ d. if d then (if bytes_eq address q then true else old) else old) same
    ∙ is ∙ sym (ap (λ xs. is_among xs q) (append-nil before))

-- the addresses of the lookups so far, and of one more
pub addresses_more : (lookups : List Look) (i : ℕ) (lookup : Look) (dated : Bool) (address : List ℕ)
    (old new : List ℕ → Bool) → i < length lookups → lookup ≡ get_or lookups i lookup
    → dated ≡ (withheld_at lookup).dated → address ≡ serialize lookup.registry
    → ((q : List ℕ) → old q ≡ is_among (dated_addresses (take i lookups)) q)
    → ((q : List ℕ) → new q ≡ (if dated then (if bytes_eq address q then true else old q) else old q))
    → (q : List ℕ) → new q ≡ is_among (dated_addresses (take (i + 1) lookups)) q
addresses_more lookups i lookup dated address old new within is dated_is at before added q =
    let front = dated_addresses (take i lookups) in
    added q
    ∙ one_address front dated (withheld_at lookup).dated address q (old q) (before q) dated_is
    ∙ ap (λ a. is_among (front ++ (if (withheld_at lookup).dated then a ∷ [] else [])) q) at
    ∙ ap (λ l. is_among (front ++ dated_address l) q) is
    ∙ ap (λ xs. is_among xs q)
    (flat_map_more dated_address [] (take i lookups) (get_or lookups i lookup)
    ∙ sym (ap dated_addresses (take_more lookups i lookup within)))

-- ---- texts in a set

-- one text more in a set
pub inserted : (texts : List (String Global)) (text : String Global)
    → map string_bytes (insert_key string_cmp texts text) ≡ with_text (map string_bytes texts) (string_bytes text)
inserted [] text = refl
inserted (x ∷ xs) text = by_order (string_cmp text x) (inserted xs text)
  where
    by_order : (o : Ordering)
        → map string_bytes (insert_key string_cmp xs text) ≡ with_text (map string_bytes xs) (string_bytes text)
        → map string_bytes (match_ordering o (text ∷ x ∷ xs) (x ∷ xs) (x ∷ insert_key string_cmp xs text))
        ≡ match_ordering o (string_bytes text ∷ map string_bytes (x ∷ xs)) (map string_bytes (x ∷ xs))
        (string_bytes x ∷ with_text (map string_bytes xs) (string_bytes text))
    by_order Less rest = refl
    by_order Equal rest = refl
    by_order Greater rest = ap (λ ys. string_bytes x ∷ ys) rest

-- ---- the three lists

-- the lists, from a test for excluded names that agrees on each name with theirs
pub held_is : (plan : UpgradePlan) (o : Options) (excluded : List ℕ → Bool) (exclude : List (String Global))
    (lookups : List Look) (younger undated registries : List (String Global))
    → ((q : List ℕ) → excluded q ≡ is_among (map string_bytes exclude) q)
    → exclude ≡ o.exclude.items → lookups ≡ plan.looks.items
    → map string_bytes younger ≡ names_of Younger excluded lookups
    → map string_bytes undated ≡ names_of Undated excluded lookups
    → map string_bytes registries ≡ registries_of excluded lookups
    → record {
      younger = map string_bytes younger;
      undated = map string_bytes undated;
      registries = map string_bytes registries;
    } ≡ held_back plan o
held_is plan o excluded exclude lookups younger undated registries tests names looks ys us rs =
    let same : excluded ≡ is_among (map string_bytes o.exclude.items) =
    (λ i q. tests q i) ∙ ap (λ (xs : List (String Global)). is_among (map string_bytes xs)) names in
    let y = ys ∙ (λ i. names_of Younger (same i) (looks i)) in
    let u = us ∙ (λ i. names_of Undated (same i) (looks i)) in
    let r = rs ∙ (λ i. registries_of (same i) (looks i)) in
    λ i. record { younger = y i; undated = u i; registries = r i }

-- ---- the message

-- nothing is said of no names
pub nothing_held : (h : HeldBack) (b : Bool)
    → ((length h.younger.items == 0) && (length h.undated.items == 0)) ≡ b → is_nothing (lists_of h) ≡ b
nothing_held h b is =
    (λ i. (length-map h.younger.items string_bytes i == 0) && (length-map h.undated.items string_bytes i == 0))
    ∙ is

texts_data : (texts : List (String Global)) → map text_data texts ≡ map string (map string_bytes texts)
texts_data [] = refl
texts_data (text ∷ texts) = ap (λ ds. text_data text ∷ ds) (texts_data texts)

-- the members, from the texts
pub members_are : (h : HeldBack) → json_messages.held_back_members h ≡ held_back_members (lists_of h)
members_are h = λ i. (codes "reason", string (codes "upgrade-held-back"))
    ∷ (codes "younger", array (items_of (texts_data h.younger.items i)))
    ∷ (codes "undated", array (items_of (texts_data h.undated.items i)))
    ∷ (codes "registries_without_times", array (items_of (texts_data h.registries.items i)))
    ∷ []
