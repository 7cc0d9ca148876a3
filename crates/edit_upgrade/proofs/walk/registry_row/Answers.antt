use Rattle.std.proofs.Common.{◌∙◌, ap, inl, inr, ⊎_elim, subst, sym}
use Rattle.std.specs.Prelude.{option_copied, option_map}
use Rattle.edit_version.specs.RustVersions.{numbers_of}
use Rattle.edit_sources.specs.Configured.{given}
use Rattle.edit_cache.specs.IndexCache.{index_of}
use Rattle.url.specs.Parts.{serialize}
use Rattle.edit_upgrade.specs.Found.{row_entry_view}
use Rattle.edit_upgrade.specs.Lines.{line_of}
use Rattle.edit_upgrade.specs.LookupSteps.{IsStep, Leaves}
use Rattle.edit_upgrade.specs.Lookups.{CachedAnswers, cached_by}
use Rattle.edit_upgrade.specs.PairSets.{holds_pair}
use Rattle.edit_upgrade.specs.Upgraded.{IsNeededFor}
use Rattle.edit_upgrade.proofs.PlannedLemmas.{failure-has}
use Rattle.edit_upgrade.proofs.WalkLemmas.{no-lookup, no-registry, registry-decided, registry-left, registry-step}
use Rattle.edit_upgrade.proofs.walk.registry_row.Goals as goal

pub returns-in_err-ensure_resolved-clause-error : goal.returns-in_err-ensure_resolved-clause-error
returns-in_err-ensure_resolved-clause-error g c =
    failure-has c.from_residual.result c.in_err-ensure_resolved.field-0.0 _ c.from_residual.ensures.1
    (no-registry c.args.addresses.now.configs.now (row_entry_view c.args.entry.now) (given c.args.registry)
    (g.I.Index.view (index_of c.args.index.now)).gives
    (cached_by c.args.index.now) (g.I.Index.view (index_of c.args.index.now)).faults
    (g.I.Index.view (index_of c.args.index.now)).faults c.in_err-ensure_resolved.field-0.0
    c.requires.source (⊎_elim (λ m. inl m)
    (λ r. inr (r c.args.addresses.now.configs.now c.requires.addresses)) c.in_err-ensure_resolved.ensures.error))

pub returns-in_err-lookup_once-clause-left : goal.returns-in_err-lookup_once-clause-left
returns-in_err-lookup_once-clause-left g c =
    registry-left c.args.addresses.now.configs.now (row_entry_view c.args.entry.now)
    (given c.args.registry) c.in-Some.url.now c.as_str-name.result.now
    (g.I.Index.view (index_of c.args.index.now)).gives (g.I.Index.view (index_of c.lookup_once.new.index)).gives
    (g.I.Index.view (index_of c.args.index.now)).faults
    (g.I.Index.view (index_of c.lookup_once.new.index)).faults
    (cached_by c.args.index.now) (cached_by c.lookup_once.new.index) c.requires.source
    ((c.in_ok-ensure_resolved.ensures.are c.args.addresses.now.configs.now c.requires.addresses).has
    (given c.args.registry) c.in-Some.url.now
    (sym c.url.ensures ∙ ap option_copied c.in-Some.is))
    c.as_str-name.ensures.value c.in_err-lookup_once.ensures.left

pub returns-in_err-lookup_once-clause-error : goal.returns-in_err-lookup_once-clause-error
returns-in_err-lookup_once-clause-error g c =
    failure-has c.from_residual-in_err-lookup_once.result c.in_err-lookup_once.field-0.0 _
    c.from_residual-in_err-lookup_once.ensures.1
    (no-lookup c.args.addresses.now.configs.now (row_entry_view c.args.entry.now)
    (given c.args.registry) c.in-Some.url.now c.as_str-name.result.now
    (g.I.Index.view (index_of c.args.index.now)).gives (cached_by c.args.index.now)
    (g.I.Index.view (index_of c.args.index.now)).faults
    (g.I.Index.view (index_of c.lookup_once.new.index)).faults c.in_err-lookup_once.field-0.0 c.requires.source
    ((c.in_ok-ensure_resolved.ensures.are c.args.addresses.now.configs.now c.requires.addresses).has
    (given c.args.registry) c.in-Some.url.now
    (sym c.url.ensures ∙ ap option_copied c.in-Some.is))
    c.as_str-name.ensures.value c.in_err-lookup_once.ensures.error)

pub returns-in_err-row-clause-left : goal.returns-in_err-row-clause-left
returns-in_err-row-clause-left g c =
    let configs = c.args.addresses.now.configs.now in
    let e = row_entry_view c.args.entry.now in
    let first = (g.I.Index.view (index_of c.args.index.now)).gives in
    let before = (g.I.Index.view (index_of c.args.index.now)).faults in
    let has = (c.in_ok-ensure_resolved.ensures.are c.args.addresses.now.configs.now c.requires.addresses).has
    (given c.args.registry) c.in-Some.url.now
    (sym c.url.ensures ∙ ap option_copied c.in-Some.is) in
    let left = registry-left configs e (given c.args.registry) c.in-Some.url.now c.as_str-name.result.now
    first (g.I.Index.view (index_of c.lookup_once.new.index)).gives before
    (g.I.Index.view (index_of c.lookup_once.new.index)).faults
    (cached_by c.args.index.now)
    (cached_by c.lookup_once.new.index) c.requires.source has c.as_str-name.ensures.value
    c.in_ok-lookup_once.ensures.left in
    subst (λ (k : CachedAnswers). Leaves (IsNeededFor configs e) first
    (g.I.Index.view (index_of c.cached_row.new.index)).gives before
    (g.I.Index.view (index_of c.cached_row.new.index)).faults (cached_by c.args.index.now) k)
    (sym c.in_err-row.ensures.preserved)
    (subst (λ i. Leaves (IsNeededFor configs e) first (g.I.Index.view i).gives before
    (g.I.Index.view i).faults (cached_by c.args.index.now) (cached_by c.lookup_once.new.index))
    (sym c.in_err-row.ensures.index) left)

pub returns-clause-step : goal.returns-clause-step
returns-clause-step g c =
    let e = row_entry_view c.args.entry.now in
    let address = c.in-Some.url.now in
    let name = c.as_str-name.result.now in
    let first = (g.I.Index.view (index_of c.args.index.now)).gives in
    let old = cached_by c.args.index.now in
    registry-step c.args.addresses.now.configs.now e (given c.args.registry) address name first old
    (cached_by c.cached_row.new.index) c.args.books.now.looks.items c.lookup_once.new.lookups.items
    (holds_pair c.args.books.now.pairs) (holds_pair c.lookup_once.new.pairs) c.requires.source
    ((c.in_ok-ensure_resolved.ensures.are c.args.addresses.now.configs.now c.requires.addresses).has
    (given c.args.registry) address
    (sym c.url.ensures ∙ ap option_copied c.in-Some.is)) c.as_str-name.ensures.value
    (subst (λ (k : CachedAnswers). IsStep (serialize address) name first old k
    c.args.books.now.looks.items c.lookup_once.new.lookups.items
    (holds_pair c.args.books.now.pairs) (holds_pair c.lookup_once.new.pairs))
    (sym c.in_ok-row.ensures.preserved) c.in_ok-lookup_once.ensures.step)

pub returns-clause-row : goal.returns-clause-row
returns-clause-row g c =
    registry-decided c.args.job.number c.args.job.parsed.options.now
    (option_map numbers_of c.args.job.input.now.rust_version) c.args.addresses.now.configs.now (cached_by c.cached_row.new.index)
    (row_entry_view c.args.entry.now) (given c.args.registry) c.in-Some.url.now
    (line_of c.in_ok-row.row) c.requires.source
    ((c.in_ok-ensure_resolved.ensures.are c.args.addresses.now.configs.now c.requires.addresses).has
    (given c.args.registry) c.in-Some.url.now
    (sym c.url.ensures ∙ ap option_copied c.in-Some.is)) c.in_ok-row.ensures.ok

pub returns-clause-left : goal.returns-clause-left
returns-clause-left g c =
    let configs = c.args.addresses.now.configs.now in
    let e = row_entry_view c.args.entry.now in
    let first = (g.I.Index.view (index_of c.args.index.now)).gives in
    let before = (g.I.Index.view (index_of c.args.index.now)).faults in
    let has = (c.in_ok-ensure_resolved.ensures.are c.args.addresses.now.configs.now c.requires.addresses).has
    (given c.args.registry) c.in-Some.url.now
    (sym c.url.ensures ∙ ap option_copied c.in-Some.is) in
    let left = registry-left configs e (given c.args.registry) c.in-Some.url.now c.as_str-name.result.now
    first (g.I.Index.view (index_of c.lookup_once.new.index)).gives before
    (g.I.Index.view (index_of c.lookup_once.new.index)).faults
    (cached_by c.args.index.now)
    (cached_by c.lookup_once.new.index) c.requires.source has c.as_str-name.ensures.value
    c.in_ok-lookup_once.ensures.left in
    subst (λ (k : CachedAnswers). Leaves (IsNeededFor configs e) first
    (g.I.Index.view (index_of c.cached_row.new.index)).gives before
    (g.I.Index.view (index_of c.cached_row.new.index)).faults (cached_by c.args.index.now) k)
    (sym c.in_ok-row.ensures.preserved)
    (subst (λ i. Leaves (IsNeededFor configs e) first (g.I.Index.view i).gives before
    (g.I.Index.view i).faults (cached_by c.args.index.now) (cached_by c.lookup_once.new.index))
    (sym c.in_ok-row.ensures.index) left)
