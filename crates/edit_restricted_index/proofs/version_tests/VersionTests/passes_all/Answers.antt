use Rattle.std.proofs.Common.{◌≡◌, ◌∙◌, Bool, None, Option, Some, ap, false, not, option_map, refl, sym, true}
use Rattle.std.specs.Prelude.{String, is_some}
use Rattle.std.specs.BTreeSet.{BTreeSet}
use Rattle.std.specs.declared.alloc.Global.{Global}
use Rattle.edit_restricted_index.specs.VersionTests.{spec_test}
use Rattle.edit_restricted_index.proofs.EntryLemmas.{all_pass}
use Rattle.edit_restricted_index.proofs.version_tests.VersionTests.passes_all.Goals as goal

-- without packages there is no test of them
no_specs : (specs : Option (BTreeSet (String Global))) → is_some specs ≡ false
    → option_map spec_test specs ≡ None
no_specs None none = refl
no_specs (Some specs) none = cc none

-- a test whose opposite holds does not hold
does_not_hold : (b : Bool) → not b ≡ true → b ≡ false
does_not_hold true h = cc h
does_not_hold false h = refl

pub returns-then-is_none : goal.returns-then-is_none
returns-then-is_none c = λ unheld version.
    let tests = c.args.self.now in
    all_pass (option_map spec_test tests.specs) tests.holds c.args.name.now version
    (no_specs tests.specs (c.is_none.ensures ∙ ap not c.if-is_none.true))
    (sym c.has_hold.ensures ∙ does_not_hold c.has_hold.result unheld)
