use Rattle.std.proofs.Common.{List, ap, arith, inl, inr, subst, sym, take, ◌∙◌}
use Rattle.std.specs.Prelude.{All, IsUtf8, slice_get}
use Rattle.std.specs.BTreeSet.{contains_text}
use Rattle.std.specs.Global.{Vec}
use Rattle.std.proofs.lemmas.List.{take_all}
use Rattle.std.proofs.lemmas.List.Elements.{All-nil, All-push}
use Rattle.edit_base.specs.Errors.{IsMemory}
use Rattle.edit_tree.specs.DocumentViews.{DocumentViews}
use Rattle.edit_metadata.specs.declared.input.Input.{Input}
use Rattle.edit_cache.specs.IndexCache.{index_of}
use Rattle.edit_sources.specs.declared.config.Config.{Config}
use Rattle.edit_upgrade.specs.ConfigLists.{lists_in}
use Rattle.edit_upgrade.specs.Drafts.{IsDraft}
use Rattle.edit_upgrade.specs.Lookups.{cached_by}
use Rattle.edit_upgrade.specs.Missing.{AreKnown}
use Rattle.edit_upgrade.specs.Caches.{cache_view}
use Rattle.edit_upgrade.specs.Upgraded.{IsNeeded}
use Rattle.edit_upgrade.proofs.AddressCaches.{input-addresses, input-list, none-cached, still-for}
use Rattle.edit_upgrade.proofs.CauseLemmas.{given-fails, read-fails}
use Rattle.edit_upgrade.proofs.EndLemmas.{get-past}
use Rattle.edit_upgrade.proofs.FurtherInputs.{draft-next, draft-start, given-at, left-next}
use Rattle.edit_upgrade.proofs.LookUpLemmas.{leaves-same}
use Rattle.edit_upgrade.proofs.MissingLemmas.{known-next, known-start}
use Rattle.edit_upgrade.proofs.PlannedLemmas.{failure-has, failure-of}
use Rattle.edit_upgrade.proofs.Steps.{taken-more}
use Rattle.edit_upgrade.proofs.plan.plan_each_input.Goals as goal

pub inputs-init : goal.inputs-init
inputs-init g c = record {
  draft = draft-start c.args.parsed.options.now (g.I.Index.view (index_of c.args.index.now)).gives
      (cached_by c.args.index.now) c.new-draft.result
      c.new-draft.ensures.looks c.new-draft.ensures.pairs c.new-draft.ensures.outputs
      c.new-draft.ensures.rows c.new-draft.ensures.warnings;
  known = known-start c.args.parsed.options.now (contains_text c.new-draft.result.known)
      c.new-draft.ensures.known;
  utf8 = λ e. All-nil (λ (x : Input). IsUtf8 x.bytes.items);
  caches = none-cached c.args.configs.lists.now c.new-caches.result c.new-caches.ensures.empty;
  left = leaves-same (IsNeeded c.args.inputs.now (lists_in c.args.configs))
      (g.I.Index.view (index_of c.args.index.now)).gives
      (g.I.Index.view (index_of c.args.index.now)).faults (cached_by c.args.index.now);
}

pub add_read-requires : goal.add_read-requires
add_read-requires g c = record {
  document = given-at c.args.inputs.now c.args.documents.now c.inputs.i c.index-inputs-i.result _
      c.requires.documents c.inputs-test.true
      c.index-inputs-i.is c.document_at-document.ensures;
  addresses = input-addresses c.args.inputs.now c.args.configs.lists.now (lists_in c.args.configs) c.inputs.i
      c.list_index-list.result c.index-inputs-i.result c.take_addresses-addresses.result c.inputs-test.true
      c.requires.configurations c.index-inputs-i.is c.list_index-list.ensures.within
      c.list_index-list.ensures.list c.take_addresses-addresses.ensures.addresses;
  preserved = c.inputs.invariant.draft.cached;
}

pub keep_addresses-requires : goal.keep_addresses-requires
keep_addresses-requires g c = record {
  addresses = still-for c.args.configs.lists.now c.list_index-list.result
      c.take_addresses-addresses.result c.add_read.new.addresses
      c.take_addresses-addresses.ensures.addresses c.in_ok-add_read.ensures.addresses;
  caches = c.take_addresses-addresses.ensures.caches;
}

pub inputs-preserved : goal.inputs-preserved
inputs-preserved g c =
    let was = cache_view g.I.Index.view c.args.index.now in
    let now = cache_view g.I.Index.view c.inputs.index in
    let next = cache_view g.I.Index.view c.add_read.new.index in
    let at = (input-list c.args.inputs.now c.args.configs.lists.now (lists_in c.args.configs) c.inputs.i
    c.list_index-list.result c.index-inputs-i.result c.take_addresses-addresses.result c.inputs-test.true
    c.requires.configurations c.index-inputs-i.is c.list_index-list.ensures.within
    c.list_index-list.ensures.list c.take_addresses-addresses.ensures.addresses).1 in
    record {
      draft = draft-next c.args.parsed.options.now was now next c.inputs.draft c.add_read.new.draft at
          c.requires.paths c.inputs.invariant.draft c.inputs.invariant.left.same
          c.in_ok-add_read.ensures.left.adds.stays c.in_ok-add_read.ensures.adds
          c.in_ok-add_read.ensures.preserved;
      known = known-next c.args.parsed.options.now c.args.inputs.now c.inputs.i c.index-inputs-i.result
          (contains_text c.inputs.draft.known) (contains_text c.add_read.new.draft.known) at.low at.is
          c.inputs.invariant.known c.in_ok-add_read.ensures.known;
      utf8 = λ e.
          let none = c.document_at-document.ensures ∙ ap (λ (ds : List DocumentViews). slice_get ds c.inputs.i) e in
          subst (λ (xs : List Input). All (λ (x : Input). IsUtf8 x.bytes.items) xs)
          (sym (taken-more c.args.inputs.now c.inputs.i c.index-inputs-i.result at.low at.is))
          (All-push (λ (x : Input). IsUtf8 x.bytes.items) (take c.inputs.i c.args.inputs.now)
          c.index-inputs-i.result (c.inputs.invariant.utf8 e) (c.in_ok-add_read.ensures.utf8 none));
      caches = c.in_ok-keep_addresses.ensures.caches;
      left = left-next was now next at c.inputs.invariant.left c.in_ok-add_read.ensures.left;
    }

pub returns-clause-inputs : goal.returns-clause-inputs
returns-clause-inputs g c =
    let whole = take_all c.inputs.i c.args.inputs.now (omega (arith, c.inputs-test.false)) in
    let whole_configs = take_all c.inputs.i (lists_in c.args.configs)
    (omega (arith, c.inputs-test.false, c.requires.configurations)) in
    subst (λ (xs : List Input). IsDraft c.args.parsed.options.now xs (lists_in c.args.configs)
    (g.I.Index.view (index_of c.args.index.now)).gives (cached_by c.args.index.now)
    (cached_by c.inputs.index) c.inputs.draft) whole
    (subst (λ (cs : List (Vec Config)). IsDraft c.args.parsed.options.now
    (take c.inputs.i c.args.inputs.now) cs
    (g.I.Index.view (index_of c.args.index.now)).gives (cached_by c.args.index.now)
    (cached_by c.inputs.index) c.inputs.draft)
    whole_configs c.inputs.invariant.draft)

pub returns-clause-known : goal.returns-clause-known
returns-clause-known g c =
    subst (λ (xs : List Input). AreKnown c.args.parsed.options.now xs (contains_text c.inputs.draft.known))
    (take_all c.inputs.i c.args.inputs.now (omega (arith, c.inputs-test.false))) c.inputs.invariant.known

pub returns-clause-utf8 : goal.returns-clause-utf8
returns-clause-utf8 g c = λ e.
    subst (λ (xs : List Input). All (λ (x : Input). IsUtf8 x.bytes.items) xs)
    (take_all c.inputs.i c.args.inputs.now (omega (arith, c.inputs-test.false))) (c.inputs.invariant.utf8 e)

pub returns-in_err-add_read-clause-left : goal.returns-in_err-add_read-clause-left
returns-in_err-add_read-clause-left g c =
    let was = cache_view g.I.Index.view c.args.index.now in
    let now = cache_view g.I.Index.view c.inputs.index in
    let next = cache_view g.I.Index.view c.add_read.new.index in
    let at = (input-list c.args.inputs.now c.args.configs.lists.now (lists_in c.args.configs) c.inputs.i
    c.list_index-list.result c.index-inputs-i.result c.take_addresses-addresses.result c.inputs-test.true
    c.requires.configurations c.index-inputs-i.is c.list_index-list.ensures.within
    c.list_index-list.ensures.list c.take_addresses-addresses.ensures.addresses).1 in
    left-next was now next at c.inputs.invariant.left c.in_err-add_read.ensures.left

pub returns-in_err-add_read-clause-given : goal.returns-in_err-add_read-clause-given
returns-in_err-add_read-clause-given g c =
    let was = cache_view g.I.Index.view c.args.index.now in
    let now = cache_view g.I.Index.view c.inputs.index in
    let next = cache_view g.I.Index.view c.add_read.new.index in
    let at = (input-list c.args.inputs.now c.args.configs.lists.now (lists_in c.args.configs) c.inputs.i
    c.list_index-list.result c.index-inputs-i.result c.take_addresses-addresses.result c.inputs-test.true
    c.requires.configurations c.index-inputs-i.is c.list_index-list.ensures.within
    c.list_index-list.ensures.list c.take_addresses-addresses.ensures.addresses).1 in
    failure-has c.from_residual.result c.in_err-add_read.field-0.0 _ c.from_residual.ensures.1
    (λ long. given-fails was now next c.in_err-add_read.field-0.0 at c.inputs.invariant.draft.planned
    c.inputs.invariant.left c.in_err-add_read.ensures.left.adds.stays
    (c.in_err-add_read.ensures.given (get-past c.args.documents.now c.inputs.i _
    (omega (arith, c.inputs-test.true, long)) c.document_at-document.ensures)))

pub returns-in_err-add_read-clause-read : goal.returns-in_err-add_read-clause-read
returns-in_err-add_read-clause-read g c =
    let was = cache_view g.I.Index.view c.args.index.now in
    let now = cache_view g.I.Index.view c.inputs.index in
    let next = cache_view g.I.Index.view c.add_read.new.index in
    let at = (input-list c.args.inputs.now c.args.configs.lists.now (lists_in c.args.configs) c.inputs.i
    c.list_index-list.result c.index-inputs-i.result c.take_addresses-addresses.result c.inputs-test.true
    c.requires.configurations c.index-inputs-i.is c.list_index-list.ensures.within
    c.list_index-list.ensures.list c.take_addresses-addresses.ensures.addresses).1 in
    failure-has c.from_residual.result c.in_err-add_read.field-0.0 _ c.from_residual.ensures.1
    (λ e. read-fails was now next c.in_err-add_read.field-0.0 at c.inputs.invariant.draft.planned
    c.inputs.invariant.left c.in_err-add_read.ensures.left.adds.stays
    (c.in_err-add_read.ensures.read (c.document_at-document.ensures
    ∙ ap (λ (ds : List DocumentViews). slice_get ds c.inputs.i) e)))

pub returns-in_err-keep_addresses-clause-left : goal.returns-in_err-keep_addresses-clause-left
returns-in_err-keep_addresses-clause-left g c =
    let was = cache_view g.I.Index.view c.args.index.now in
    let now = cache_view g.I.Index.view c.inputs.index in
    let next = cache_view g.I.Index.view c.add_read.new.index in
    let at = (input-list c.args.inputs.now c.args.configs.lists.now (lists_in c.args.configs) c.inputs.i
    c.list_index-list.result c.index-inputs-i.result c.take_addresses-addresses.result c.inputs-test.true
    c.requires.configurations c.index-inputs-i.is c.list_index-list.ensures.within
    c.list_index-list.ensures.list c.take_addresses-addresses.ensures.addresses).1 in
    left-next was now next at c.inputs.invariant.left c.in_ok-add_read.ensures.left

pub returns-in_err-keep_addresses-clause-given : goal.returns-in_err-keep_addresses-clause-given
returns-in_err-keep_addresses-clause-given g c =
    let was = cache_view g.I.Index.view c.args.index.now in
    let now = cache_view g.I.Index.view c.inputs.index in
    let next = cache_view g.I.Index.view c.add_read.new.index in
    let at = (input-list c.args.inputs.now c.args.configs.lists.now (lists_in c.args.configs) c.inputs.i
    c.list_index-list.result c.index-inputs-i.result c.take_addresses-addresses.result c.inputs-test.true
    c.requires.configurations c.index-inputs-i.is c.list_index-list.ensures.within
    c.list_index-list.ensures.list c.take_addresses-addresses.ensures.addresses).1 in
    failure-of c.from_residual-in_err-keep_addresses.result c.in_err-keep_addresses.field-0.0 _
    c.from_residual-in_err-keep_addresses.ensures.1
    (λ f is long. given-fails was now next f at c.inputs.invariant.draft.planned
    c.inputs.invariant.left c.in_ok-add_read.ensures.left.adds.stays
    (inl (subst IsMemory (sym is) c.in_err-keep_addresses.ensures.error)))

pub returns-in_err-keep_addresses-clause-read : goal.returns-in_err-keep_addresses-clause-read
returns-in_err-keep_addresses-clause-read g c =
    let was = cache_view g.I.Index.view c.args.index.now in
    let now = cache_view g.I.Index.view c.inputs.index in
    let next = cache_view g.I.Index.view c.add_read.new.index in
    let at = (input-list c.args.inputs.now c.args.configs.lists.now (lists_in c.args.configs) c.inputs.i
    c.list_index-list.result c.index-inputs-i.result c.take_addresses-addresses.result c.inputs-test.true
    c.requires.configurations c.index-inputs-i.is c.list_index-list.ensures.within
    c.list_index-list.ensures.list c.take_addresses-addresses.ensures.addresses).1 in
    failure-of c.from_residual-in_err-keep_addresses.result c.in_err-keep_addresses.field-0.0 _
    c.from_residual-in_err-keep_addresses.ensures.1
    (λ f is e.
    let memory = subst IsMemory (sym is) c.in_err-keep_addresses.ensures.error in
    let utf8 = c.in_ok-add_read.ensures.utf8 (c.document_at-document.ensures
    ∙ ap (λ (ds : List DocumentViews). slice_get ds c.inputs.i) e) in
    read-fails was now next f at c.inputs.invariant.draft.planned
    c.inputs.invariant.left c.in_ok-add_read.ensures.left.adds.stays
    (inl (inr (inr (memory, utf8)), inl memory)))
