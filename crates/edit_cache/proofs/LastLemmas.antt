-- What stands beside the map of the cached results of a registry.
use Rattle.std.proofs.Common.{◌≡◌, ◌≢◌, ◌∙◌, List, ℕ, Bool, true, false, Option, None, Some, [], ap, refl, subst, sym, inl, inr}
use Rattle.std.specs.Prelude.{if◌then◌else◌, option_map, option_and_then, string_bytes}
use Rattle.std.specs.Cmp.Lexicographic.{nat_list_eq_equiv}
use Rattle.std.specs.Str.{bytes_eq}
use Rattle.std.proofs.lemmas.Bool.{cases_Bool}
use Rattle.semver.specs.OrderLaws.{same_text}
use Rattle.edit_sources.specs.declared.index.IndexKrate.{IndexKrate}
use Rattle.edit_sources.specs.Index.{shared_in}
use Rattle.edit_cache.specs.CachedAnswer.{IsRankedAt}
use Rattle.edit_cache.specs.RegistryAnswers.{first_for, has_last, last_result}
use Rattle.edit_cache.specs.declared.cached_result.CachedAnswer.{CachedAnswer}
use Rattle.edit_cache.specs.declared.ranking.Ranked.{Ranked}
use Rattle.edit_cache.specs.declared.registry_answers.NamedAnswer.{NamedAnswer}

-- the result of the index
abbrev pub result : Option CachedAnswer → Option (Option IndexKrate)
result cached = option_map (λ k. shared_in k.answer) cached

-- the ranking
abbrev pub ranking : Option CachedAnswer → Option Ranked
ranking cached = option_and_then (λ k. k.ranked) cached

-- the result is ranked
abbrev pub AreRanked : Option CachedAnswer → Type 0
AreRanked cached = IsRankedAt (result cached) (ranking cached)

-- texts that differ are distinguished
pub apart : (a b : List ℕ) → b ≢ a → bytes_eq a b ≡ false
apart a b h = elim (cases_Bool (bytes_eq a b)) [
  | inl same ↦ absurd (h (sym (same_text a b same)))
  | inr other ↦ other
]

-- a result in the map that is the same gives the same
pub other-same : (last : Option NamedAnswer) (a b : Option CachedAnswer) (name : List ℕ)
    → result a ≡ result b → result (first_for last a name) ≡ result (first_for last b name)
other-same None a b name same = same
other-same (Some last) a b name same = elim (cases_Bool (bytes_eq (string_bytes last.name) name)) [
  | inl e ↦
      subst (λ (t : Bool).
      result (if t then Some last.cached else a) ≡ result (if t then Some last.cached else b)) (sym e) refl
  | inr e ↦
      subst (λ (t : Bool).
      result (if t then Some last.cached else a) ≡ result (if t then Some last.cached else b)) (sym e) same
]

-- the result beside the map is the result for its crate
pub last-first : (last : Option NamedAnswer) (other : Option CachedAnswer) (name : List ℕ)
    → has_last last name ≡ true → option_map (λ l. l.cached) last ≡ first_for last other name
last-first None other name e = cc e
last-first (Some last) other name e =
    subst (λ (t : Bool). Some last.cached ≡ (if t then Some last.cached else other)) (sym e) refl

-- a result beside the map for another crate leaves the one in the map
pub other-first : (last : Option NamedAnswer) (other : Option CachedAnswer) (name : List ℕ)
    → has_last last name ≡ false → other ≡ first_for last other name
other-first None other name e = refl
other-first (Some last) other name e =
    subst (λ (t : Bool). other ≡ (if t then Some last.cached else other)) (sym e) refl

-- the name of what stands beside the map
abbrev named : Option (List ℕ × Option IndexKrate) → List ℕ
named None = []
named (Some last) = last.0

-- the result of the index that stands beside the map
abbrev answered : Option (List ℕ × Option IndexKrate) → Option (Option IndexKrate)
answered None = None
answered (Some last) = Some last.1

-- a result beside the map that is the same has the same name
pub last-named : (a b : Option NamedAnswer) (name : List ℕ)
    → last_result a ≡ last_result b → has_last a name ≡ has_last b name
last-named None None name same = refl
last-named None (Some b) name same = cc same
last-named (Some a) None name same = cc same
last-named (Some a) (Some b) name same = ap (λ o. bytes_eq (named o) name) same

-- a result beside the map that is the same gives the same
pub last-same : (a b : Option NamedAnswer) (other : Option CachedAnswer) (name : List ℕ)
    → last_result a ≡ last_result b → result (first_for a other name) ≡ result (first_for b other name)
last-same None None other name same = refl
last-same None (Some b) other name same = cc same
last-same (Some a) None other name same = cc same
last-same (Some a) (Some b) other name same = elim (cases_Bool (bytes_eq (string_bytes b.name) name)) [
  | inl e ↦
      ap result (sym (last-first (Some a) other name (last-named (Some a) (Some b) name same ∙ e)))
      ∙ ap answered same ∙ ap result (last-first (Some b) other name e)
  | inr e ↦
      ap result (sym (other-first (Some a) other name (last-named (Some a) (Some b) name same ∙ e)))
      ∙ ap result (other-first (Some b) other name e)
]

-- a result beside the map for one crate is none for a crate of another name
pub apart-first : (last : Option NamedAnswer) (other : Option CachedAnswer) (at name : List ℕ)
    → has_last last at ≡ true → name ≢ at → other ≡ first_for last other name
apart-first None other at name e ne = refl
apart-first (Some last) other at name e ne =
    other-first (Some last) other name
    (apart (string_bytes last.name) name (λ same. ne (same ∙ same_text (string_bytes last.name) at e)))

-- the result beside the map is ranked, and so is the result for its crate
pub ranked-last : (last : Option NamedAnswer) (other : Option CachedAnswer) (name : List ℕ)
    → has_last last name ≡ true
    → IsRankedAt (option_map (λ l. shared_in l.cached.answer) last) (option_and_then (λ l. l.cached.ranked) last)
    → AreRanked (first_for last other name)
ranked-last None other name e h = cc e
ranked-last (Some last) other name e h = subst AreRanked (last-first (Some last) other name e) h

-- the result in the map is ranked, and so is the result for another crate than the one beside it
pub ranked-other : (last : Option NamedAnswer) (other : Option CachedAnswer) (name : List ℕ)
    → has_last last name ≡ false → AreRanked other → AreRanked (first_for last other name)
ranked-other last other name e h = subst AreRanked (other-first last other name e) h

-- a result that moves into the map stays the result for its crate
pub moved : (last : Option NamedAnswer) (l : NamedAnswer) (old new : Option CachedAnswer) (name : List ℕ)
    → last ≡ Some l → new ≡ (if bytes_eq (string_bytes l.name) name then Some l.cached else old)
    → new ≡ first_for last old name
moved last l old new name e h = subst (λ (x : Option NamedAnswer). new ≡ first_for x old name) (sym e) h

-- the result that is added is the one for its crate
pub added : (n name : List ℕ) (cached : CachedAnswer) (other : Option CachedAnswer) → n ≡ name
    → (if bytes_eq n name then Some cached else other) ≡ Some cached
added n name cached other e =
    subst (λ (t : Bool). (if t then Some cached else other) ≡ Some cached)
    (sym (ap (λ (x : List ℕ). bytes_eq x name) e ∙ nat_list_eq_equiv.refl name)) refl

-- the result that is added changes that of no other crate
pub not-added : (n name other-name : List ℕ) (cached : CachedAnswer) (other : Option CachedAnswer) → n ≡ name
    → other-name ≢ name → (if bytes_eq n other-name then Some cached else other) ≡ other
not-added n name other-name cached other e ne =
    subst (λ (t : Bool). (if t then Some cached else other) ≡ other)
    (sym (apart n other-name (λ same. ne (same ∙ e)))) refl
