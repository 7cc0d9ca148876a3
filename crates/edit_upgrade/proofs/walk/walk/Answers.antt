use Rattle.edit_report.specs.declared.row.Row.{Row}
use Rattle.edit_upgrade.specs.declared.entries_with_rows.Entry.{Entry}
use Rattle.std.proofs.Common.{◌⊎◌, arith, ◌∷◌, ◌++◌, ◌∙◌, [], List, ap, map, take, drop, suc, subst, sym}
use Rattle.std.specs.Prelude.{option_map}
use Rattle.std.proofs.lemmas.List.{map-append, take_all}
use Rattle.std.specs.Prelude.{All}
use Rattle.std.proofs.lemmas.List.Elements.{All-nil, All-push}
use Rattle.edit_version.specs.RustVersions.{numbers_of}
use Rattle.edit_cache.specs.IndexCache.{index_of}
use Rattle.edit_base.specs.Errors.{IsMemory}
use Rattle.edit_sources.specs.declared.config.Config.{Config}
use Rattle.edit_upgrade.specs.Addresses.{AreAddresses}
use Rattle.edit_upgrade.specs.Found.{row_entry_view}
use Rattle.edit_upgrade.specs.Lines.{line_of}
use Rattle.edit_upgrade.specs.Causes.{IsPassed, StopsAt}
use Rattle.edit_upgrade.specs.LookupSteps.{AreSteps, IsEntryStep, Leaves, further, start}
use Rattle.edit_upgrade.specs.Lookups.{cached_basis, cached_by}
use Rattle.edit_upgrade.specs.PairSets.{holds_pair}
use Rattle.edit_upgrade.specs.Records.{RowEntry}
use Rattle.edit_upgrade.specs.Rows.{AreDecided, IsRowBy, Line}
use Rattle.edit_upgrade.specs.Upgraded.{IsNeededFor, IsNeededIn}
use Rattle.edit_upgrade.proofs.AddressLemmas.{own-addresses}
use Rattle.edit_upgrade.proofs.LookUpLemmas.{leaves-more, leaves-same}
use Rattle.edit_upgrade.proofs.Steps.{names-more, names-split}
use Rattle.edit_upgrade.proofs.StepLemmas.{entry-cached, entry-step-with}
use Rattle.edit_upgrade.proofs.WalkLemmas.{contains-item, for-among, passed-stays, rows-further, walk-fails}
use Rattle.edit_upgrade.proofs.walk.walk.Goals as goal

pub entries-init : goal.entries-init
entries-init g c =
    let configs = c.args.addresses.now.configs.now in
    let cached = cached_by c.args.index.now in
    let rust = option_map numbers_of c.args.job.input.now.rust_version in
    record {
      addresses = c.requires.addresses;
      cached = c.requires.preserved;
      steps = start cached c.args.books.now.looks.items (holds_pair c.args.books.now.pairs);
      passed = All-nil (IsPassed configs cached);
      rows = subst (λ (rows : List Row). AreDecided (cached_basis c.args.job.number c.args.job.parsed.options.now
          rust configs cached) [] (map line_of rows))
          (sym c.in_ok-rows.ensures.items) tt;
      left = leaves-same (IsNeededIn configs (map row_entry_view c.args.entries.now))
          (g.I.Index.view (index_of c.args.index.now)).gives
          (g.I.Index.view (index_of c.args.index.now)).faults cached;
    }

pub entry_row-requires : goal.entry_row-requires
entry_row-requires g c = record {
  addresses = own-addresses c.args.addresses.now.configs.now c.entries.addresses
      c.entries.invariant.addresses;
}

pub returns-clause-passed : goal.returns-clause-passed
returns-clause-passed g c =
    let whole = take_all c.entries.entry-index c.args.entries.now (omega (arith, c.entries-test.false)) in
    subst (λ (es : List Entry). All (IsPassed c.args.addresses.now.configs.now (cached_by c.entries.index))
    (map row_entry_view es)) whole c.entries.invariant.passed

pub returns-in-Err-clause-left : goal.returns-in-Err-clause-left
returns-in-Err-clause-left g c =
    let es = map row_entry_view c.args.entries.now in
    let e = row_entry_view c.entry-item.result in
    leaves-more (IsNeededIn c.args.addresses.now.configs.now es) (IsNeededFor c.args.addresses.now.configs.now e)
    (g.I.Index.view (index_of c.args.index.now)).gives (g.I.Index.view (index_of c.entries.index)).gives
    (g.I.Index.view (index_of c.entry_row.new.index)).gives
    (g.I.Index.view (index_of c.args.index.now)).faults (g.I.Index.view (index_of c.entries.index)).faults
    (g.I.Index.view (index_of c.entry_row.new.index)).faults
    (cached_by c.args.index.now) (cached_by c.entries.index) (cached_by c.entry_row.new.index)
    (for-among c.args.addresses.now.configs.now es e (contains-item row_entry_view c.args.entries.now c.entries.entry-index
    c.entry-item.result c.entries-test.true c.entry-item.is))
    c.entries.invariant.left
    (subst (λ (cs : List Config). Leaves (IsNeededFor cs e)
    (g.I.Index.view (index_of c.entries.index)).gives (g.I.Index.view (index_of c.entry_row.new.index)).gives
    (g.I.Index.view (index_of c.entries.index)).faults (g.I.Index.view (index_of c.entry_row.new.index)).faults
    (cached_by c.entries.index) (cached_by c.entry_row.new.index)) c.entries.invariant.addresses.own
    c.in-Err.ensures.left)

pub returns-in_err-push-clause-left : goal.returns-in_err-push-clause-left
returns-in_err-push-clause-left g c =
    let es = map row_entry_view c.args.entries.now in
    let e = row_entry_view c.entry-item.result in
    leaves-more (IsNeededIn c.args.addresses.now.configs.now es) (IsNeededFor c.args.addresses.now.configs.now e)
    (g.I.Index.view (index_of c.args.index.now)).gives (g.I.Index.view (index_of c.entries.index)).gives
    (g.I.Index.view (index_of c.entry_row.new.index)).gives
    (g.I.Index.view (index_of c.args.index.now)).faults (g.I.Index.view (index_of c.entries.index)).faults
    (g.I.Index.view (index_of c.entry_row.new.index)).faults
    (cached_by c.args.index.now) (cached_by c.entries.index) (cached_by c.entry_row.new.index)
    (for-among c.args.addresses.now.configs.now es e (contains-item row_entry_view c.args.entries.now c.entries.entry-index
    c.entry-item.result c.entries-test.true c.entry-item.is))
    c.entries.invariant.left
    (subst (λ (cs : List Config). Leaves (IsNeededFor cs e)
    (g.I.Index.view (index_of c.entries.index)).gives (g.I.Index.view (index_of c.entry_row.new.index)).gives
    (g.I.Index.view (index_of c.entries.index)).faults (g.I.Index.view (index_of c.entry_row.new.index)).faults
    (cached_by c.entries.index) (cached_by c.entry_row.new.index)) c.entries.invariant.addresses.own
    c.in-Ok.ensures.left)

pub returns-in-Err-clause-error : goal.returns-in-Err-clause-error
returns-in-Err-clause-error g c =
    walk-fails c.args.addresses.now.configs.now (g.I.Index.view (index_of c.args.index.now)).gives
    (g.I.Index.view (index_of c.entries.index)).gives
    (cached_by c.args.index.now) (cached_by c.entries.index) (cached_by c.entry_row.new.index)
    (g.I.Index.view (index_of c.args.index.now)).faults (g.I.Index.view (index_of c.entries.index)).faults
    (g.I.Index.view (index_of c.entry_row.new.index)).faults
    (map row_entry_view c.args.entries.now) (map row_entry_view (take c.entries.entry-index c.args.entries.now))
    (row_entry_view c.entry-item.result)
    (map row_entry_view (drop (suc c.entries.entry-index) c.args.entries.now)) c.in-Err.error
    c.args.job.number c.at_entry.result
    (names-split row_entry_view c.args.entries.now c.entries.entry-index c.entry-item.result c.entries-test.true
    c.entry-item.is)
    c.entries.invariant.passed c.entries.invariant.left.same c.entries.invariant.left.adds.stays
    c.in-Err.ensures.left.adds.stays
    c.entries.invariant.left.later
    (subst (λ (cs : List Config). IsMemory c.in-Err.error
    ⊎ StopsAt cs (g.I.Index.view (index_of c.entries.index)).gives (cached_by c.entries.index)
    (g.I.Index.view (index_of c.entries.index)).faults
    (g.I.Index.view (index_of c.entry_row.new.index)).faults (row_entry_view c.entry-item.result)
    c.in-Err.error) c.entries.invariant.addresses.own c.in-Err.ensures.error) c.at_entry.ensures

pub entries-preserved : goal.entries-preserved
entries-preserved g c =
    let configs = c.args.addresses.now.configs.now in
    let all = map row_entry_view c.args.entries.now in
    let front = map row_entry_view (take c.entries.entry-index c.args.entries.now) in
    let e = row_entry_view c.entry-item.result in
    let rust = option_map numbers_of c.args.job.input.now.rust_version in
    let more = names-more row_entry_view c.args.entries.now c.entries.entry-index c.entry-item.result
    c.entries-test.true c.entry-item.is in
    let lines = ap (map line_of) c.in_ok-push.ensures.items ∙ map-append line_of c.entries.rows.items
    (c.in-Ok.row ∷ []) in
    let first = (g.I.Index.view (index_of c.args.index.now)).gives in
    let last = (g.I.Index.view (index_of c.entries.index)).gives in
    let old = cached_by c.args.index.now in
    let now = cached_by c.entries.index in
    let next = cached_by c.entry_row.new.index in
    let before = c.args.books.now.looks.items in
    let lookups = c.entries.books.looks.items in
    let then_lookups = c.entry_row.new.books.looks.items in
    let first_pairs = holds_pair c.args.books.now.pairs in
    let pairs = holds_pair c.entries.books.pairs in
    let then_pairs = holds_pair c.entry_row.new.books.pairs in
    let under = c.entries.invariant.addresses.own in
    let step = subst (λ (cs : List Config). IsEntryStep cs e last now next lookups then_lookups pairs then_pairs)
    under c.in-Ok.ensures.step in
    let same = entry-step-with configs e first last now next lookups then_lookups pairs then_pairs
    c.entries.invariant.left.same step in
    let cached = entry-cached configs e last now next lookups then_lookups pairs then_pairs
    c.entries.invariant.cached step in
    let stays = c.in-Ok.ensures.left.adds.stays in
    let rows = rows-further c.args.job.number c.args.job.parsed.options.now rust configs now next front
    (map line_of c.entries.rows.items) e
    (line_of c.in-Ok.row) c.entries.invariant.passed stays c.entries.invariant.rows
    (subst (λ (cs : List Config). IsRowBy (cached_basis c.args.job.number c.args.job.parsed.options.now rust cs
    next) e (line_of c.in-Ok.row)) under c.in-Ok.ensures.row) in
    let basis = cached_basis c.args.job.number c.args.job.parsed.options.now rust configs next in
    record {
      addresses = subst (λ (cs : List Config). AreAddresses cs c.entry_row.new.addresses) under
          c.in-Ok.ensures.addresses;
      cached = cached.0;
      steps = subst (λ (es : List RowEntry). AreSteps configs first es old next before then_lookups first_pairs
          then_pairs) (sym more)
          (further front e old now next before lookups then_lookups first_pairs pairs then_pairs
          c.entries.invariant.steps same);
      passed = subst (λ (es : List RowEntry). All (IsPassed configs next) es) (sym more)
          (All-push (IsPassed configs next) front e (passed-stays configs now next front stays
          c.entries.invariant.passed) cached.1);
      rows = subst (λ (es : List RowEntry). AreDecided basis es (map line_of c.push.new.self.items)) (sym more)
          (subst (λ (ls : List Line). AreDecided basis (front ++ e ∷ []) ls) (sym lines) rows);
      left = leaves-more (IsNeededIn configs all) (IsNeededFor configs e) first last
          (g.I.Index.view (index_of c.entry_row.new.index)).gives
          (g.I.Index.view (index_of c.args.index.now)).faults
          (g.I.Index.view (index_of c.entries.index)).faults
          (g.I.Index.view (index_of c.entry_row.new.index)).faults
          old now next
          (for-among configs all e (contains-item row_entry_view c.args.entries.now c.entries.entry-index
          c.entry-item.result c.entries-test.true c.entry-item.is))
          c.entries.invariant.left
          (subst (λ (cs : List Config). Leaves (IsNeededFor cs e) last
          (g.I.Index.view (index_of c.entry_row.new.index)).gives
          (g.I.Index.view (index_of c.entries.index)).faults
          (g.I.Index.view (index_of c.entry_row.new.index)).faults now next) under
          c.in-Ok.ensures.left);
    }

pub returns-clause-steps : goal.returns-clause-steps
returns-clause-steps g c =
    let whole = take_all c.entries.entry-index c.args.entries.now (omega (arith, c.entries-test.false)) in
    subst (λ (es : List Entry). AreSteps c.args.addresses.now.configs.now
    (g.I.Index.view (index_of c.args.index.now)).gives (map row_entry_view es)
    (cached_by c.args.index.now) (cached_by c.entries.index)
    c.args.books.now.looks.items c.entries.books.looks.items
    (holds_pair c.args.books.now.pairs) (holds_pair c.entries.books.pairs)) whole c.entries.invariant.steps

pub returns-clause-rows : goal.returns-clause-rows
returns-clause-rows g c =
    let whole = take_all c.entries.entry-index c.args.entries.now (omega (arith, c.entries-test.false)) in
    subst (λ (es : List Entry). AreDecided
    (cached_basis c.args.job.number c.args.job.parsed.options.now
    (option_map numbers_of c.args.job.input.now.rust_version) c.args.addresses.now.configs.now (cached_by c.entries.index))
    (map row_entry_view es) (map line_of c.entries.rows.items)) whole c.entries.invariant.rows

pub returns-in_err-rows-clause-left : goal.returns-in_err-rows-clause-left
returns-in_err-rows-clause-left g c =
    leaves-same (IsNeededIn c.args.addresses.now.configs.now (map row_entry_view c.args.entries.now))
    (g.I.Index.view (index_of c.args.index.now)).gives
    (g.I.Index.view (index_of c.args.index.now)).faults (cached_by c.args.index.now)
