use Rattle.std.proofs.Common.{ap, map, subst, sym, ◌∙◌}
use Rattle.std.specs.Prelude.{String}
use Rattle.std.specs.BTreeSet.{contains_text}
use Rattle.std.specs.declared.alloc.Global.{Global}
use Rattle.std.specs.declared.collections.BTreeSet.{BTreeSet}
use Rattle.std.proofs.lemmas.List.{map-append}
use Rattle.edit_cache.specs.IndexCache.{index_of}
use Rattle.edit_upgrade.specs.Lines.{line_of}
use Rattle.edit_upgrade.specs.Lists.{warning_view}
use Rattle.edit_upgrade.specs.Lookups.{cached_by}
use Rattle.edit_upgrade.specs.Missing.{AddsNames}
use Rattle.edit_upgrade.specs.PlannedView.{IsWalked}
use Rattle.edit_upgrade.specs.declared.walk.LookupLog.{LookupLog}
use Rattle.edit_upgrade.proofs.draft.add_input.Goals as goal

pub returns-clause-adds : goal.returns-clause-adds
returns-clause-adds g c =
    let own = c.in_ok-add_planned.ensures.outputs in
    let planned = c.in_ok-planned.planned in
    record {
      lines = map line_of planned.rows.items;
      outputs = own.0;
      warnings = map warning_view planned.warnings.items;
      walked = subst (λ (books : LookupLog). IsWalked c.args.job.number c.args.job.parsed.options.now c.args.job.input.now
          c.args.addresses.now.configs.now
          (g.I.Index.view (index_of c.args.index.now)).gives (cached_by c.args.index.now)
          (cached_by c.plan_input.new.index)
          c.args.draft.now.books books (map line_of planned.rows.items))
          (sym c.in_ok-add_planned.ensures.books)
          c.in_ok-planned.ensures.walked;
      writes = own.2;
      warned = c.in_ok-planned.ensures.warnings;
      rows_are = ap (map line_of) c.in_ok-add_planned.ensures.rows
          ∙ map-append line_of c.args.draft.now.rows.items planned.rows.items;
      outputs_are = own.1;
      warnings_are = ap (map warning_view) c.in_ok-add_planned.ensures.warnings
          ∙ map-append warning_view c.args.draft.now.warnings.items planned.warnings.items;
    }

pub returns-clause-known : goal.returns-clause-known
returns-clause-known g c =
    subst (λ (known : BTreeSet (String Global) Global). AddsNames c.args.job.parsed.options.now
    c.args.job.input.now.bytes.items (contains_text c.args.draft.now.known) (contains_text known))
    (sym c.in_ok-add_planned.ensures.known) c.in_ok-planned.ensures.known
