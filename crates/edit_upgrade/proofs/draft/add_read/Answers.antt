use Rattle.std.proofs.Common.{◌≡◌, ◌∙◌, Bor, List, ℕ, Option, Some, None, ap, inl, inr, subst, sym}
use Rattle.std.specs.Prelude.{IfSome, IsSome, IsUtf8, is_some, option_copied}
use Rattle.edit_base.specs.declared.errors.Error.{Error}
use Rattle.edit_manifest.specs.Loaded.{IsBadManifest}
use Rattle.edit_tree.specs.DocumentViews.{DocumentViews}
use Rattle.edit_cache.specs.IndexCache.{index_of}
use Rattle.edit_upgrade.specs.Lookups.{cached_by}
use Rattle.edit_upgrade.specs.Upgraded.{IsNeededBy}
use Rattle.edit_upgrade.proofs.LookUpLemmas.{leaves-same}
use Rattle.edit_upgrade.proofs.PlannedLemmas.{failure-has}
use Rattle.edit_upgrade.proofs.draft.add_read.Goals as goal

not-none : {A P : Type 0} (o : Option (Bor A)) (x : Bor A) → o ≡ Some x → option_copied o ≡ None → P
not-none o x is none = cc (ap option_copied (sym is) ∙ none)

not-some : {A P : Type 0} (o : Option (Bor A)) → o ≡ None → IsSome (option_copied o) → P
not-some {A} o is some = cc (ap (λ (p : Option (Bor A)). is_some (option_copied p)) (sym is) ∙ some)

pub returns-in_err-add_input-in-Some-clause-given : goal.returns-in_err-add_input-in-Some-clause-given
returns-in_err-add_input-in-Some-clause-given g c =
    failure-has c.from_residual.result c.in_err-add_input-in-Some.field-0.0 _ c.from_residual.ensures.1
    (λ some. c.in_err-add_input-in-Some.ensures.error)

pub returns-in_err-add_input-in-Some-clause-read : goal.returns-in_err-add_input-in-Some-clause-read
returns-in_err-add_input-in-Some-clause-read g c =
    failure-has c.from_residual.result c.in_err-add_input-in-Some.field-0.0 _ c.from_residual.ensures.1
    (λ none. not-none c.args.document c.in-Some.document c.in-Some.is none)

pub returns-in-Err-clause-given : goal.returns-in-Err-clause-given
returns-in-Err-clause-given g c = λ some. not-some c.args.document c.in-None.is some

pub returns-in-Err-clause-read : goal.returns-in-Err-clause-read
returns-in-Err-clause-read g c = λ none. inl (
  subst (λ (e : Error). IsBadManifest c.args.job.input.now.bytes.items e) (sym c.at_input.ensures.error)
      (subst (λ (bytes : List ℕ). IsBadManifest bytes c.in-Err.error) c.deref.ensures.value
      c.in-Err.ensures.error),
  inr c.at_input.ensures.origin,
)

pub returns-in_err-add_input-in-None-clause-given : goal.returns-in_err-add_input-in-None-clause-given
returns-in_err-add_input-in-None-clause-given g c =
    failure-has c.from_residual-in_err-add_input-in-None.result c.in_err-add_input-in-None.field-0.0 _
    c.from_residual-in_err-add_input-in-None.ensures.1
    (λ some. not-some c.args.document c.in-None.is some)

pub returns-in_err-add_input-in-None-clause-read : goal.returns-in_err-add_input-in-None-clause-read
returns-in_err-add_input-in-None-clause-read g c =
    let e = c.in_err-add_input-in-None.field-0.0 in
    let utf8 = subst (λ (bytes : List ℕ). IsUtf8 bytes) c.deref.ensures.value
    c.in-Ok.ensures.utf8 in
    failure-has c.from_residual-in_err-add_input-in-None.result e _
    c.from_residual-in_err-add_input-in-None.ensures.1
    (λ none. elim c.in_err-add_input-in-None.ensures.error [
      | inl memory ↦ inl (inr (inr (memory, utf8)), inl memory)
      | inr fails ↦ inr fails
    ])

pub returns-in-Err-clause-left : goal.returns-in-Err-clause-left
returns-in-Err-clause-left g c =
    leaves-same (IsNeededBy c.args.addresses.now.configs.now c.args.job.input.now.bytes.items)
    (g.I.Index.view (index_of c.args.index.now)).gives
    (g.I.Index.view (index_of c.args.index.now)).faults (cached_by c.args.index.now)

pub add_input-requires-clause-document : goal.add_input-requires-clause-document
add_input-requires-clause-document g c =
    subst (λ (o : Option (Bor DocumentViews)). IfSome (option_copied o)
    (λ d. d.bytes ≡ c.args.job.input.now.bytes.items)) c.in-Some.is c.requires.document

pub add_input-requires-in-None-clause-document : goal.add_input-requires-in-None-clause-document
add_input-requires-in-None-clause-document g c =
    c.in-Ok.ensures.bytes ∙ c.deref.ensures.value

pub returns-in_ok-add_input-in-Some-clause-utf8 : goal.returns-in_ok-add_input-in-Some-clause-utf8
returns-in_ok-add_input-in-Some-clause-utf8 g c = λ none.
    not-none c.args.document c.in-Some.document c.in-Some.is none

pub returns-in_ok-add_input-in-None-clause-utf8 : goal.returns-in_ok-add_input-in-None-clause-utf8
returns-in_ok-add_input-in-None-clause-utf8 g c = λ none.
    subst (λ (bytes : List ℕ). IsUtf8 bytes) c.deref.ensures.value
    c.in-Ok.ensures.utf8
