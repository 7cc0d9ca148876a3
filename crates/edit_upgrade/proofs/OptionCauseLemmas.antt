-- The errors of options, from the argument at which parsing stops.
use Rattle.std.proofs.Common.{◌≡◌, ◌≢◌, ◌∷◌, [], List, ℕ, ◌<◌, get_or, length, map, refl, ◌∙◌, sym, inl, inr, suc, take, drop, ap, subst, ◌++◌}
use Rattle.std.specs.Prelude.{All, String, string_bytes}
use Rattle.std.specs.declared.alloc.Global.{Global}
use Rattle.std.proofs.lemmas.List.Elements.{All-nil}
use Rattle.edit_base.specs.declared.errors.Error.{Error}
use Rattle.edit_base.specs.declared.errors.Error.TheVariants as error
use Rattle.edit_record.specs.EachOnce.{each_once}
use Rattle.edit_version.specs.CrateSpecs.{IsInvalidSpec, spec_name}
use Rattle.edit_upgrade.specs.OptionCauses.{IsPlanError, FailsAtPackageArg}
use Rattle.edit_upgrade.specs.EntrySelection.{IsPackageArg}
use Rattle.edit_upgrade.specs.declared.decision.options.Options.{Options}
use Rattle.edit_upgrade.proofs.Steps.{names-split}

-- reading stopped at one of these words
pub stops-at : (args : List (String Global)) (i : ℕ) (arg : String Global) (text : List ℕ) (e : Error)
    → i < length args → arg ≡ get_or args i arg → text ≡ string_bytes arg
    → All IsPackageArg (map string_bytes (take i args)) → IsInvalidSpec text e
    → FailsAtPackageArg (map string_bytes args) e
stops-at args i arg text e low is same read refused = record {
  front = map string_bytes (take i args);
  arg = text;
  rest = map string_bytes (drop (suc i) args);
  split = names-split string_bytes args i arg low is
      ∙ ap (λ (t : List ℕ). map string_bytes (take i args) ++ t ∷ map string_bytes (drop (suc i) args))
      (sym same);
  read = read;
  refused = refused;
}

-- want of memory refuses each word
pub memory-refuses : (arg : List ℕ) (e : Error) → e ≡ error.Memory → IsInvalidSpec arg e
memory-refuses arg e h = subst (λ (x : Error). IsInvalidSpec arg x) (sym h) tt

-- want of memory, where there is a word
pub memory-at : (args : List (List ℕ)) (names : List (String Global)) (e : Error)
    → map string_bytes names ≡ each_once (map spec_name args) → names ≢ [] → e ≡ error.Memory
    → FailsAtPackageArg args e
memory-at [] [] e h some memory = absurd (some refl)
memory-at [] (n ∷ ns) e h some memory = cc h
memory-at (w ∷ ws) names e h some memory = record {
  front = [];
  arg = w;
  rest = ws;
  split = refl;
  read = All-nil IsPackageArg;
  refused = memory-refuses w e memory;
}

-- options without words and excluded names are not refused
pub never-refused : (o : Options) (Cause : Error → Type 0) (e : Error) → o.package.items ≡ []
    → o.exclude.items ≡ [] → IsPlanError o Cause e → Cause e
never-refused o Cause e args names (inl (inl h)) =
    absurd (none h.front (sym h.split ∙ ap (map string_bytes) args))
  where
    none : (front : List (List ℕ)) → front ++ h.arg ∷ h.rest ≡ [] → ⊥
    none [] q = cc q
    none (f ∷ fs) q = cc q
never-refused o Cause e args names (inl (inr h)) = absurd (h.1 names)
never-refused o Cause e args names (inr h) = h.1
