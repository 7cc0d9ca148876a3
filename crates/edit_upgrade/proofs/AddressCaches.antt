-- Addresses that are cached for lists of configurations, as inputs use them.
use Rattle.std.proofs.Common.{◌≡◌, ◌<◌, ℕ, List, [], Bool, true, false, Option, Some, None, ap, get_or, length, refl, subst, sym, ◌∙◌}
use Rattle.std.specs.Prelude.{cond, slice_get}
use Rattle.std.specs.BTreeMap.{BTreeMap, get, is_at}
use Rattle.std.specs.Cmp.{Equal-is}
use Rattle.std.specs.Global.{Vec}
use Rattle.std.specs.Map.{lookup}
use Rattle.std.specs.Ordering.{nat_cmp}
use Rattle.std.proofs.lemmas.Map.Lookups.{exact_unsigned}
use Rattle.edit_metadata.specs.declared.input.Input.{Input}
use Rattle.edit_sources.specs.declared.config.Config.{Config}
use Rattle.edit_upgrade.specs.Addresses.{AreAddresses, AreCaches}
use Rattle.edit_upgrade.specs.declared.addresses.Addresses.{Addresses}
use Rattle.edit_upgrade.proofs.EndLemmas.{get-at, get-some}
use Rattle.edit_upgrade.proofs.FurtherInputs.{IsInputAt, input-at}

-- the addresses for the list at an index (own)
abbrev pub AreAddressesFor : List (Vec Config) → ℕ → Addresses → Type 0
AreAddressesFor lists j a = (own : Vec Config) → slice_get lists j ≡ Some own → AreAddresses own.items a

none-some : (a : Addresses) → None ≡ Some a → ⊥
none-some a h = cc

-- none are cached
pub none-cached : (lists : List (Vec Config)) (m : BTreeMap ℕ Addresses) → m.entries ≡ [] → AreCaches lists m
none-cached lists m empty = λ j a own has at.
    let none = ap (λ (es : List (ℕ × Addresses)). lookup (is_at (nat_cmp j)) es) empty in
    absurd (none-some a (sym none ∙ has))

same-index : (j k : ℕ) → is_at (nat_cmp j) k ≡ true → j ≡ k
same-index j k h = exact_unsigned j k ((Equal-is (nat_cmp j k)).0 h)

not-removed : (b : Bool) (o : Option Addresses) (a : Addresses) → cond b None o ≡ Some a → o ≡ Some a
not-removed true o a h = cc h
not-removed false o a h = h

one-list : (a b : Vec Config) → Some a ≡ Some b → a ≡ b
one-list a b h = cc

-- new ones are those for their list
pub new-for : (lists : List (Vec Config)) (j : ℕ) (a : Addresses) (list : Vec Config) (here : List Config)
    → j < length lists → list ≡ get_or lists j list → here ≡ list.items → AreAddresses here a
    → AreAddressesFor lists j a
new-for lists j a list here within is items are = λ own at.
    let same = one-list list own (sym (get-at lists j list within is) ∙ at) in
    subst (λ (cs : List Config). AreAddresses cs a) (items ∙ ap (λ (v : Vec Config). v.items) same) are

-- those for one list are taken out
pub cached-without : (lists : List (Vec Config)) (old new : BTreeMap ℕ Addresses) (j : ℕ)
    → AreCaches lists old
    → ((q : ℕ) → get nat_cmp new q ≡ cond (is_at (nat_cmp j) q) None (get nat_cmp old q))
    → AreCaches lists new
cached-without lists old new j are left = λ k a own has at.
    are k a own (not-removed (is_at (nat_cmp j) k) (get nat_cmp old k) a (sym (left k) ∙ has)) at

cached-at : (lists : List (Vec Config)) (j k : ℕ) (a b : Addresses) (own : Vec Config) (o : Option Addresses)
    (t : Bool) → (t ≡ true → j ≡ k) → AreAddressesFor lists j a
    → (o ≡ Some b → AreAddresses own.items b) → cond t (Some a) o ≡ Some b
    → slice_get lists k ≡ Some own → AreAddresses own.items b
cached-at lists j k a b own o true same fit before has at =
    let is : a ≡ b = cc has in
    let here : slice_get lists j ≡ Some own = subst (λ (i : ℕ). slice_get lists i ≡ Some own)
    (sym (same refl)) at in
    subst (AreAddresses own.items) is (fit own here)
cached-at lists j k a b own o false same fit before has at = before has

-- those for one list are stored
pub cached-with : (lists : List (Vec Config)) (old new : BTreeMap ℕ Addresses) (j : ℕ) (a : Addresses)
    → AreCaches lists old → AreAddressesFor lists j a
    → ((q : ℕ) → get nat_cmp new q ≡ cond (is_at (nat_cmp j) q) (Some a) (get nat_cmp old q))
    → AreCaches lists new
cached-with lists old new j a are fit next = λ k b own has at.
    cached-at lists j k a b own (get nat_cmp old k) (is_at (nat_cmp j) k) (same-index j k) fit
    (λ before. are k b own before at) (sym (next k) ∙ has) at

-- the addresses for the list of an input are those of its configurations
module _ (inputs : List Input) (lists configs : List (Vec Config)) (k j : ℕ) (x : Input) (a : Addresses)
    (low : k < length inputs) (long : length configs ≡ length inputs) (is : x ≡ get_or inputs k x)
    (within : j < length lists) (same : slice_get lists j ≡ slice_get configs k)
    (fit : AreAddressesFor lists j a) where
  pub input-list : (own : Vec Config) × IsInputAt inputs configs k x own a.configs.now
  input-list =
      let list = get-some lists j within in
      (list.0, input-at low long is (sym same ∙ list.1) (fit list.0 list.1).own)

  pub input-addresses : AreAddresses a.configs.now a
  input-addresses =
      let list = get-some lists j within in
      let are = fit list.0 list.1 in
      subst (λ (cs : List Config). AreAddresses cs a) (sym are.own) are

-- addresses that were resolved further are still those for the list
pub still-for : (lists : List (Vec Config)) (j : ℕ) (a b : Addresses) → AreAddressesFor lists j a
    → AreAddresses a.configs.now b → AreAddressesFor lists j b
still-for lists j a b fit are = λ own at.
    subst (λ (cs : List Config). AreAddresses cs b) (fit own at).own are
