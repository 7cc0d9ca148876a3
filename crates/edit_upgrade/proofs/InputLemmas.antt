-- A plan of one input, as a plan of a list of inputs.
use Rattle.std.proofs.Common.{◌≡◌, ◌∷◌, [], List, ℕ, Some, Bool, true, false, zero, suc, refl, ap, ◌∙◌, sym, subst, inl, inr, ◌⊎◌, arith, length, map}
use Rattle.std.specs.Prelude.{if◌then◌else◌, not, slice_get, ◌==◌}
use Rattle.std.specs.Global.{Vec}
use Rattle.std.specs.Str.{bytes_eq}
use Rattle.edit_base.specs.Errors.{IsMemory}
use Rattle.edit_base.specs.declared.errors.Error.{Error}
use Rattle.edit_metadata.specs.declared.input.Input.{Input}
use Rattle.edit_report.specs.declared.output.Output.{Output}
use Rattle.edit_sources.specs.Index.{Outcomes}
use Rattle.edit_sources.specs.declared.config.Config.{Config}
use Rattle.edit_upgrade.specs.Causes.{FirstInput, HasBadEntry, IsEntryCause}
use Rattle.edit_upgrade.specs.Drafts.{outputs_on}
use Rattle.edit_metadata.specs.Inputs.{HaveOwnPaths, path_of}
use Rattle.edit_upgrade.specs.Inputs.{EachInput, OutputsInOrder, Setting, output_path, outputs_at, setting_of}
use Rattle.edit_upgrade.specs.Lookups.{CachedAnswers}
use Rattle.edit_upgrade.specs.Upgraded.{IsNeeded, IsNeededBy}
use Rattle.edit_upgrade.specs.declared.decision.options.Options.{Options}
use Rattle.edit_upgrade.specs.declared.upgrade.UpgradePlan.{UpgradePlan}
use Rattle.edit_upgrade.proofs.Bytes.{same-refl}

-- one input has a path of its own
pub one-distinct : (inputs : List Input) (x : Input) → inputs ≡ x ∷ [] → HaveOwnPaths inputs
one-distinct inputs x e =
    let one : HaveOwnPaths (x ∷ []) = λ i j d below within. absurd (omega (arith, below, within)) in
    subst (λ (xs : List Input). HaveOwnPaths xs) (sym e) one

same-some : {A : Type 0} (x y : A) → Some x ≡ Some y → x ≡ y
same-some x y h = cc h

-- what one of the inputs needs, the one input does
only-needed : (x : Input) (own : Vec Config) (address name : List ℕ)
    → (need : IsNeeded (x ∷ []) (own ∷ []) address name)
    → IsNeededBy own.items x.bytes.items address name
only-needed x own address name need = by need.i need.input need.own need.at need.configured need.needed
  where
    by : (i : ℕ) (input : Input) (c : Vec Config) → slice_get (x ∷ []) i ≡ Some input
        → slice_get (own ∷ []) i ≡ Some c
        → IsNeededBy c.items input.bytes.items address name → IsNeededBy own.items x.bytes.items address name
    by zero input c e f h =
        subst (λ (d : Vec Config). IsNeededBy d.items x.bytes.items address name) (sym (same-some own c f))
        (subst (λ (y : Input). IsNeededBy c.items y.bytes.items address name) (sym (same-some x input e)) h)
    by (suc k) input c e f h = cc e

-- the one input, as one of the inputs
pub needed-first : (inputs : List Input) (configs : List (Vec Config)) (x : Input) (own : Vec Config)
    (here : List Config) → inputs ≡ x ∷ []
    → configs ≡ own ∷ [] → here ≡ own.items → (address name : List ℕ)
    → IsNeededBy here x.bytes.items address name → IsNeeded inputs configs address name
needed-first inputs configs x own here e f q address name h = record {
  i = 0;
  input = x;
  own = own;
  at = ap (λ (xs : List Input). slice_get xs 0) e;
  configured = ap (λ (cs : List (Vec Config)). slice_get cs 0) f;
  needed = subst (λ (cs : List Config). IsNeededBy cs x.bytes.items address name) q h;
}

pub first-needed : (inputs : List Input) (configs : List (Vec Config)) (x : Input) (own : Vec Config)
    (here : List Config) → inputs ≡ x ∷ []
    → configs ≡ own ∷ [] → here ≡ own.items → (address name : List ℕ)
    → IsNeeded inputs configs address name → IsNeededBy here x.bytes.items address name
first-needed inputs configs x own here e f q address name h =
    subst (λ (cs : List Config). IsNeededBy cs x.bytes.items address name) (sym q)
    (only-needed x own address name (subst (λ (cs : List (Vec Config)). IsNeeded (x ∷ []) cs address name) f
    (subst (λ (xs : List Input). IsNeeded xs configs address name) e h)))

-- what holds of each input holds of the only one
pub of-each : (o : Options) (inputs : List Input) (configs : List (Vec Config))
    (P : Setting → Input → UpgradePlan → Type 0) (p : UpgradePlan)
    (x : Input) (own : Vec Config) → inputs ≡ x ∷ [] → configs ≡ own ∷ [] → EachInput o inputs configs P p
    → P (setting_of 0 o x own.items p.looks.items) x p
of-each o inputs configs P p x own e f h =
    let one : EachInput o (x ∷ []) (own ∷ []) P p = subst
    (λ (cs : List (Vec Config)). EachInput o (x ∷ []) cs P p) f
    (subst (λ (xs : List Input). EachInput o xs configs P p) e h) in
    one 0

-- outputs whose paths are one path
one-path : (path : List ℕ) (outputs : List Output) → map output_path outputs ≡ path ∷ []
    → outputs_on path outputs ≡ outputs
one-path path [] h = cc h
one-path path (o ∷ []) h =
    let same : output_path o ≡ path = cc h in
    let here : bytes_eq (output_path o) path ≡ true = ap (λ (x : List ℕ). bytes_eq x path) same
    ∙ same-refl path in
    rw here refl
one-path path (o ∷ q ∷ rest) h = cc h

no-path : (outputs : List Output) → map output_path outputs ≡ [] → outputs ≡ []
no-path [] h = refl
no-path (o ∷ outputs) h = cc h

by-path : (path : List ℕ) (outputs : List Output) (b : Bool) → map output_path outputs
    ≡ (if b then path ∷ [] else []) → outputs_on path outputs ≡ outputs
by-path path outputs true h = one-path path outputs h
by-path path outputs false h =
    let none = no-path outputs h in
    ap (outputs_on path) none ∙ sym none

-- all outputs are those of the only input
pub only-outputs : (inputs : List Input) (x : Input) (p : UpgradePlan) → inputs ≡ x ∷ []
    → OutputsInOrder inputs p
    → outputs_at (path_of x) p ≡ p.outputs.items
only-outputs inputs x p e h =
    by-path (path_of x) p.outputs.items (not (length (outputs_at (path_of x) p) == 0))
    (subst (λ (xs : List Input). OutputsInOrder xs p) e h)

-- the only input is the first at which a plan does not go on
of-first : (x : Input) (own : Vec Config) (new : CachedAnswers)
    (Stops : ℕ → List Config → List ℕ → Type 0) → FirstInput (x ∷ []) (own ∷ []) new Stops
    → Stops 0 own.items x.bytes.items
of-first x own new Stops f = by f.i f.input f.own f.at f.configured f.stops
  where
    by : (i : ℕ) (input : Input) (c : Vec Config) → slice_get (x ∷ []) i ≡ Some input
        → slice_get (own ∷ []) i ≡ Some c
        → Stops i c.items input.bytes.items → Stops 0 own.items x.bytes.items
    by zero input c e g h =
        subst (λ (d : Vec Config). Stops 0 d.items x.bytes.items) (sym (same-some own c g))
        (subst (λ (y : Input). Stops 0 c.items y.bytes.items) (sym (same-some x input e)) h)
    by (suc k) input c e g h = cc e

-- why a plan over the only input is refused
pub of-entry_cause : (inputs : List Input) (configs : List (Vec Config)) (x : Input) (own : Vec Config)
    (gives : Outcomes) (old new : CachedAnswers) (before now : ℕ)
    (e : Error) → inputs ≡ x ∷ [] → configs ≡ own ∷ [] → IsEntryCause inputs configs gives old new before
    now e
    → IsMemory e ⊎ HasBadEntry own.items gives old new before now x.bytes.items e
of-entry_cause inputs configs x own gives old new before now e p q (inl memory) = inl memory
of-entry_cause inputs configs x own gives old new before now e p q (inr f) =
    inr (of-first x own new (λ i cs bytes. HasBadEntry cs gives old new before now bytes e)
    (subst (λ (cs : List (Vec Config)). FirstInput (x ∷ []) cs new
    (λ i ds bytes. HasBadEntry ds gives old new before now bytes e)) q
    (subst (λ (xs : List Input). FirstInput xs configs new
    (λ i ds bytes. HasBadEntry ds gives old new before now bytes e)) p f)))
