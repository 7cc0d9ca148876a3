-- The resolved addresses, after one more is resolved.
use Rattle.std.proofs.Common.{Bor, ◌≡◌, ℕ, List, [], Bool, true, false, Option, Some, None, String, Global, string_bytes, refl, ap, sym, ◌∙◌, subst}
use Rattle.std.specs.Prelude.{IfSome, if◌then◌else◌}
use Rattle.std.specs.BTreeMap.{get_by_text, is_at}
use Rattle.std.specs.Cmp.Lexicographic.{slice_cmp}
use Rattle.std.specs.Map.{lookup}
use Rattle.std.specs.Ordering.{nat_cmp}
use Rattle.std.proofs.lemmas.Slice.Eq.{bytes_eq-Decides}
use Rattle.edit_sources.specs.Configured.{HasAddress}
use Rattle.edit_sources.specs.Definitions.{Defines}
use Rattle.edit_sources.specs.declared.config.Config.{Config}
use Rattle.edit_sources.specs.declared.registry.definitions.Definitions.{Definitions}
use Rattle.url.specs.Parts as url
use Rattle.edit_upgrade.specs.Addresses.{AreAddresses, is_same_registry, url_at}
use Rattle.edit_upgrade.specs.declared.addresses.Addresses.{Addresses}

none_some : {A : Type 0} (a : A) → None ≡ Some a → ⊥
none_some a h = cc

some_one : {A : Type 0} (a b : A) → Some a ≡ Some b → a ≡ b
some_one a b h = cc

false_true : false ≡ true → ⊥
false_true h = cc

same_name : (a b : Option (List ℕ)) → is_same_registry a b ≡ true → a ≡ b
same_name None None h = refl
same_name None (Some b) h = absurd (false_true h)
same_name (Some a) None h = absurd (false_true h)
same_name (Some a) (Some b) h = ap (λ k. Some k) ((bytes_eq-Decides a b).0 h)

-- what is resolved does not depend on the definitions
same_urls : (a b : Addresses) → b.default ≡ a.default → b.named ≡ a.named → (named : Option (List ℕ))
    → url_at b named ≡ url_at a named
same_urls a b default named None = default
same_urls a b default named (Some name) = ap (λ m. get_by_text m name) named

one_more : (configs : List Config) (registry named : Option (List ℕ)) (given address : url.Parts)
    (o : Option url.Parts) (b : Bool) → (b ≡ true → registry ≡ named) → HasAddress configs registry given
    → (o ≡ Some address → HasAddress configs named address)
    → (if b then Some given else o) ≡ Some address → HasAddress configs named address
one_more configs registry named given address o true same has before h =
    subst (λ (n : Option (List ℕ)). HasAddress configs n address) (same refl)
    (subst (HasAddress configs registry) (some_one given address h) has)
one_more configs registry named given address o false same has before h = before h

none_at : (a : Addresses) → a.default ≡ None → a.named.entries ≡ [] → (named : Option (List ℕ))
    → url_at a named ≡ None
none_at a default empty None = default
none_at a default empty (Some name) =
    ap (λ (es : List (String Global × url.Parts)).
    lookup (is_at (λ k. slice_cmp nat_cmp name (string_bytes k))) es) empty

-- none was resolved yet
pub none_resolved : (configs : List Config) (a : Addresses) → a.configs.now ≡ configs
    → a.definitions ≡ None → a.default ≡ None → a.named.entries ≡ [] → AreAddresses configs a
none_resolved configs a own unread default empty = record {
  own = own;
  defines = subst (λ (d : Option Definitions). IfSome d (Defines configs)) (sym unread) tt;
  has = λ named address h. absurd (none_some address (sym (none_at a default empty named) ∙ h));
}

-- one more was resolved
pub one_resolved : (configs : List Config) (registry : Option (List ℕ)) (given : url.Parts)
    (old mid new : Addresses) → AreAddresses configs old
    → mid.configs ≡ old.configs → IfSome mid.definitions (Defines configs)
    → mid.default ≡ old.default → mid.named ≡ old.named
    → new.configs ≡ mid.configs → new.definitions ≡ mid.definitions
    → ((named : Option (List ℕ)) → url_at new named
    ≡ (if is_same_registry registry named then Some given else url_at mid named))
    → HasAddress configs registry given → AreAddresses configs new
one_resolved configs registry given old mid new are first defines default named next same same_leads has = record {
  own = ap (λ (b : Bor (List Config)). b.now) (next ∙ first) ∙ are.own;
  defines = subst (λ (d : Option Definitions). IfSome d (Defines configs)) (sym same) defines;
  has = λ name address h. one_more configs registry name given address (url_at mid name)
      (is_same_registry registry name) (same_name registry name) has
      (λ before. are.has name address (sym (same_urls old mid default named name) ∙ before))
      (sym (same_leads name) ∙ h);
}

-- addresses that are resolved from a list are resolved from the list that they have
pub own-addresses : (configs : List Config) (a : Addresses) → AreAddresses configs a
    → AreAddresses a.configs.now a
own-addresses configs a are = subst (λ (cs : List Config). AreAddresses cs a) (sym are.own) are
