-- The cached choices, and one choice more.
use Rattle.std.proofs.Common.{◌≡◌, ℕ, List, [], ◌∷◌, ◌++◌, false, Option, Some, inl, inr, subst, sym}
use Rattle.std.specs.Prelude.{All, IfSome}
use Rattle.std.specs.BTreeMap.{BTreeMap, get_by_text}
use Rattle.std.specs.Global.{Vec}
use Rattle.std.specs.Str.{bytes_eq}
use Rattle.std.specs.declared.alloc.Global.{Global}
use Rattle.std.specs.declared.string.String.{String}
use Rattle.std.proofs.lemmas.Bool.{cases_Bool}
use Rattle.std.proofs.lemmas.List.Elements.{All-append, All-cons, All-nil}
use Rattle.std.proofs.lemmas.Slice.Eq.{bytes_eq-Decides}
use Rattle.edit_cache.specs.Choices.{AreChoices, IsChoice}
use Rattle.edit_cache.specs.Ranks.{Ranking}
use Rattle.edit_cache.specs.declared.choices.Choice.{Choice}

-- if one requirement gets other choices that are its own, every requirement has its own
pub choices-with : (ranks : List Ranking) (text : List ℕ)
    (old new : BTreeMap (String Global) (Vec Choice)) (v : Vec Choice)
    → ((t : List ℕ) → bytes_eq text t ≡ false → get_by_text new t ≡ get_by_text old t)
    → get_by_text new text ≡ Some v → All (IsChoice ranks text) v.items
    → AreChoices ranks old → AreChoices ranks new
choices-with ranks text old new v others at own were t = elim (cases_Bool (bytes_eq text t)) [
  | inl same ↦
      let is : text ≡ t = (bytes_eq-Decides text t).0 same in
      let here : IfSome (get_by_text new text) (λ w. All (IsChoice ranks text) w.items) =
      subst (λ (o : Option (Vec Choice)). IfSome o (λ w. All (IsChoice ranks text) w.items)) (sym at) own in
      subst (λ (u : List ℕ). IfSome (get_by_text new u) (λ w. All (IsChoice ranks u) w.items)) is here
  | inr other ↦ subst (λ (o : Option (Vec Choice)). IfSome o (λ w. All (IsChoice ranks t) w.items))
      (sym (others t other)) (were t)
]

-- the cached choices of a requirement are its own
pub choices-at : (ranks : List Ranking) (text : List ℕ) (choices : BTreeMap (String Global) (Vec Choice))
    (v : Vec Choice) → Some v ≡ get_by_text choices text → AreChoices ranks choices
    → All (IsChoice ranks text) v.items
choices-at ranks text choices v at are =
    subst (λ (o : Option (Vec Choice)). IfSome o (λ w. All (IsChoice ranks text) w.items)) (sym at) (are text)

-- one more choice that is its own
pub choices-more : (ranks : List Ranking) (text : List ℕ) (choice : Choice) (old new : List Choice)
    → new ≡ old ++ choice ∷ [] → All (IsChoice ranks text) old → IsChoice ranks text choice
    → All (IsChoice ranks text) new
choices-more ranks text choice old new e were is =
    subst (λ (cs : List Choice). All (IsChoice ranks text) cs) (sym e)
    (All-append (IsChoice ranks text) old (choice ∷ []) were
    (All-cons (IsChoice ranks text) choice [] is (All-nil (IsChoice ranks text))))
