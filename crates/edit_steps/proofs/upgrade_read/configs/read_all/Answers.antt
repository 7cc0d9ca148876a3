use Rattle.std.proofs.Common.{◌≡◌, ◌∙◌, ◌+◌, ◌<◌, [], ap, arith, length, refl, subst, sym, true}
use Rattle.std.specs.List.{filter_map}
use Rattle.std.specs.Prelude.{All, slice_get}
use Rattle.std.proofs.lemmas.List.Elements.{All-nil}
use Rattle.edit_metadata.proofs.InputLemmas.{reads-on}
use Rattle.edit_sources.specs.Configured.{given}
use Rattle.edit_steps.specs.Named.{AreConfigured, AreGathered, pair_of}
use Rattle.edit_steps.proofs.ReadLemmas.{before, configured_more, own_fails, since}
use Rattle.edit_steps.proofs.SharedLemmas.{added_listed, each_more}
use Rattle.edit_steps.specs.Shared.{AddsList, IsListed, IsOfSome, lists_for}
use Rattle.edit_steps.proofs.ErrorLemmas.{config_error, config_counted, wider}
use Rattle.edit_sources.specs.CachedConfigs.{AreCached}
use Rattle.edit_steps.proofs.FirstLemmas.{stops_at_input}
use Rattle.edit_steps.proofs.upgrade_read.configs.read_all.Goals as goal

pub returns-in-Err-clause-error : goal.returns-in-Err-clause-error
returns-in-Err-clause-error g c =
    let old = g.S.Store.view c.args.files.now in
    let mid = g.S.Store.view c.inputs.files in
    let home = given c.args.cargo_home in
    let pair = pair_of c.args.named.now in
    let lists = c.inputs.lists.shared.lists.items in
    stops_at_input old mid (g.S.Store.view c.share.new.files)
    (AreCached mid c.inputs.cache × (mid.tells ≡ true → All (IsOfSome mid.file_at home pair) lists)) home pair
    c.args.inputs.now c.inputs.input-index c.input-item.result c.as_str.result.now
    (lists_for c.inputs.lists.shared) c.in-Err.cause c.inputs.invariant.store (
      c.inputs.invariant.cached,
      since (λ files. All (IsOfSome files home pair) lists) old mid
          c.inputs.invariant.store c.inputs.invariant.others,
    ) c.inputs-test.true c.input-item.is
    c.as_str.ensures.value c.inputs.invariant.read
    (wider _ _ _ (wider _ _ _ (λ stops both t. stops both.0 t (both.1 t))) c.in-Err.ensures.first)

pub returns-in-Err-gather-clause-error : goal.returns-in-Err-gather-clause-error
returns-in-Err-gather-clause-error g c =
    let old = g.S.Store.view c.args.files.now in
    let mid = g.S.Store.view c.share.new.files in
    stops_at_input old mid (g.S.Store.view c.gather.new.files) (AreCached mid c.share.new.cache)
    (given c.args.cargo_home) (pair_of c.args.named.now) c.args.inputs.now c.inputs.input-index
    c.input-item.result c.as_str-in-inputs.result.now (lists_for c.inputs.lists.shared) c.in-Err-gather.error
    (reads-on old (g.S.Store.view c.inputs.files) mid c.inputs.invariant.store c.share.ensures.store)
    (c.share.ensures.preserved c.inputs.invariant.cached) c.inputs-test.true c.input-item.is c.as_str-in-inputs.ensures.value
    c.inputs.invariant.read c.in-Err-gather.ensures.first

pub returns-in-Err-clause-only : goal.returns-in-Err-clause-only
returns-in-Err-clause-only g c =
    let mid = g.S.Store.view c.inputs.files in
    config_error (g.S.Store.view c.args.files.now) mid (g.S.Store.view c.share.new.files)
    (given c.args.cargo_home) (pair_of c.args.named.now).first (pair_of c.args.named.now).last
    c.as_str.result.now c.in-Err.cause c.inputs.invariant.store
    (own_fails _ (pair_of c.args.named.now) mid.tells mid.file_at c.as_str.result.now (given c.args.cargo_home)
    c.in-Err.cause c.in-Err.ensures.error)

pub returns-in-Err-gather-clause-only : goal.returns-in-Err-gather-clause-only
returns-in-Err-gather-clause-only g c =
    let old = g.S.Store.view c.args.files.now in
    let mid = g.S.Store.view c.share.new.files in
    config_error old mid (g.S.Store.view c.gather.new.files) (given c.args.cargo_home)
    (pair_of c.args.named.now).first (pair_of c.args.named.now).last c.as_str-in-inputs.result.now c.in-Err-gather.error
    (reads-on old (g.S.Store.view c.inputs.files) mid c.inputs.invariant.store c.share.ensures.store)
    c.in-Err-gather.ensures.error

pub returns-in-Err-clause-counted : goal.returns-in-Err-clause-counted
returns-in-Err-clause-counted g c =
    config_counted (g.S.Store.view c.args.files.now) (g.S.Store.view c.share.new.files) c.in-Err.cause
    (returns-in-Err-clause-only g c)

pub returns-in-Err-gather-clause-counted : goal.returns-in-Err-gather-clause-counted
returns-in-Err-gather-clause-counted g c =
    config_counted (g.S.Store.view c.args.files.now) (g.S.Store.view c.gather.new.files) c.in-Err-gather.error
    (returns-in-Err-gather-clause-only g c)

pub inputs-init : goal.inputs-init
inputs-init g c =
    let files = g.S.Store.view c.args.files.now in
    let home = given c.args.cargo_home in
    let pair = pair_of c.args.named.now in
    let shared = c.new-lists.result.shared in
    record {
      store = record { tells = refl; files = λ path. refl; later = omega arith; writes = refl };
      cached = c.new-cache.ensures files;
      each = ap length c.new-lists.ensures.which;
      lists = subst (λ js. All (λ j. j < length shared.lists.items) js) (sym c.new-lists.ensures.which)
          (All-nil (λ j. j < length shared.lists.items));
      read = λ t. subst (λ js. AreConfigured files.file_at home pair []
          (filter_map (slice_get shared.lists.items) js)) (sym c.new-lists.ensures.which) tt;
      others = λ t. subst (All (IsOfSome files.file_at home pair)) (sym c.new-lists.ensures.lists)
          (All-nil (IsOfSome files.file_at home pair));
    }

pub inputs-preserved-in-Ok-true : goal.inputs-preserved-in-Ok-true
inputs-preserved-in-Ok-true g c =
    let old = g.S.Store.view c.args.files.now in
    let mid = g.S.Store.view c.inputs.files in
    let home = given c.args.cargo_home in
    let pair = pair_of c.args.named.now in
    let shared = c.inputs.lists.shared in
    let more = c.share.new.lists.shared in
    let path = c.as_str.result.now in
    let one : old.tells ≡ true → IsListed old.file_at home pair path shared more
    = λ t. before (λ files. IsListed files home pair path shared more) old mid c.inputs.invariant.store
    (λ tells_all. c.in-Ok-true.ensures.listed c.in-Ok-true.field-0-test c.inputs.invariant.cached tells_all
    (since (λ files. All (IsOfSome files home pair) shared.lists.items) old mid c.inputs.invariant.store
    c.inputs.invariant.others tells_all)) t in
    record {
      store = reads-on old mid (g.S.Store.view c.share.new.files) c.inputs.invariant.store
          c.share.ensures.store;
      cached = c.share.ensures.preserved c.inputs.invariant.cached;
      each = each_more c.args.inputs.now c.inputs.input-index shared more c.inputs-test.true
          (c.in-Ok-true.ensures.each c.in-Ok-true.field-0-test) c.inputs.invariant.each;
      lists = c.in-Ok-true.ensures.lists;
      read = λ t. configured_more old.file_at home pair c.args.inputs.now c.inputs.input-index
          c.input-item.result (lists_for shared) (lists_for more) (one t).list path c.inputs-test.true
          c.input-item.is c.as_str.ensures.value (one t).is (c.inputs.invariant.read t) (one t).gathered;
      others = λ t. (one t).others;
    }

pub inputs-preserved : goal.inputs-preserved
inputs-preserved g c =
    let old = g.S.Store.view c.args.files.now in
    let start = g.S.Store.view c.inputs.files in
    let mid = g.S.Store.view c.share.new.files in
    let home = given c.args.cargo_home in
    let pair = pair_of c.args.named.now in
    let shared = c.inputs.lists.shared in
    let more = c.add.new.self.shared in
    let path = c.as_str-in-inputs.result.now in
    let reads = reads-on old start mid c.inputs.invariant.store c.share.ensures.store in
    let same : c.share.new.lists.shared ≡ shared = c.in-Ok-false.ensures.none c.in-Ok-false.field-0-test in
    let adds = subst (λ before. AddsList c.in-Ok.configs before more) same c.in_ok-add.ensures.added in
    let one : old.tells ≡ true → IsListed old.file_at home pair path shared more
    = λ t. added_listed old.file_at home pair path c.in-Ok.configs shared more adds
    (c.inputs.invariant.others t)
    (before (λ files. AreGathered files home pair path c.in-Ok.configs.items) old mid reads
    (c.in-Ok.ensures.read (c.share.ensures.preserved c.inputs.invariant.cached)) t) in
    record {
      store = reads-on old mid (g.S.Store.view c.gather.new.files) reads c.in-Ok.ensures.store;
      cached = c.gather.ensures.preserved (c.share.ensures.preserved c.inputs.invariant.cached);
      each = each_more c.args.inputs.now c.inputs.input-index shared more c.inputs-test.true
          (c.in_ok-add.ensures.each ∙ ap (λ s. length s.which.items + 1) same) c.inputs.invariant.each;
      lists = c.in_ok-add.ensures.lists;
      read = λ t. configured_more old.file_at home pair c.args.inputs.now c.inputs.input-index
          c.input-item.result (lists_for shared) (lists_for more) (one t).list path c.inputs-test.true
          c.input-item.is c.as_str-in-inputs.ensures.value (one t).is (c.inputs.invariant.read t) (one t).gathered;
      others = λ t. (one t).others;
    }
