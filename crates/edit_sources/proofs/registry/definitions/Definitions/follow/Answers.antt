use Rattle.std.proofs.Common.{option_map, Bor, List, ℕ, ◌≡◌, ◌++◌, ◌∷◌, ◌⊎◌, [], Some, cond, zero, ap, sym, ◌∙◌, subst, inr}
use Rattle.std.proofs.lemmas.List.{map_push}
use Rattle.std.proofs.lemmas.Result.{err_from_is_err_and}
use Rattle.edit_base.specs.Errors.{IsMemory}
use Rattle.edit_sources.specs.SourceReplacement.{is_used}
use Rattle.edit_base.specs.Paths.{texts}
use Rattle.edit_sources.specs.Configured.{given}
use Rattle.edit_sources.specs.Configured.HasNoUrl.{no_address}
use Rattle.edit_sources.specs.Definitions.{end_at}
use Rattle.edit_sources.specs.Sources.{source_texts}
use Rattle.edit_sources.proofs.DefinitionLemmas.{IsWalk, walk_start, walk_next, walk_meets, walk_arrives, walk_keeps, walk_fails, walk_breaks, walk_ends, Refuses, refused_head, refused_next}
use Rattle.edit_sources.proofs.registry.definitions.Definitions.follow.Goals as goal

pub loop-source-init : goal.loop-source-init
loop-source-init c = λ configs defines.
    subst (λ ks. IsWalk configs (given c.args.registry) c.args.self.now (texts ks)
    (source_texts c.in-Some.source)) (sym c.new-passed.ensures.items)
    (walk_start configs (given c.args.registry) c.head_key-first.result.now c.args.self.now c.copied.result
    (source_texts c.in-Some.source) c.head_key-first.ensures defines c.requires
    (c.copied.ensures ∙ c.get.ensures.value) (sym c.in-Some.ensures))

pub loop-source-preserved : goal.loop-source-preserved
loop-source-preserved c = λ configs defines.
    let names = ap (option_map (λ (t : Bor (List ℕ)). t.now)) c.in-Some-replace_with.is in
    let more : texts c.push.new.self.items ≡ texts c.loop-source.passed.items
    ++ c.in-Some-replace_with.key.now ∷ [] = ap texts c.in_ok-push.ensures.items
    ∙ map_push (λ (x : Bor (List ℕ)). x.now) c.loop-source.passed.items c.in-Some-replace_with.key in
    subst (λ ks. IsWalk configs (given c.args.registry) c.remove_source.new.self ks
    (source_texts c.in_ok-source.source)) (sym more)
    (walk_next configs (given c.args.registry) c.head_key-first.result.now c.in-Some-replace_with.key.now
    c.loop-source.self c.remove_source.new.self (texts c.loop-source.passed.items)
    (source_texts c.loop-source.source) (source_texts c.in_ok-source.source) c.head_key-first.ensures
    (c.loop-source.invariant configs defines) names (sym c.in_default-end_of.ensures)
    c.in_ok-source.ensures.takes)

pub returns-in_default-clause-error : goal.returns-in_default-clause-error
returns-in_default-clause-error c =
    refused_head (given c.args.registry) c.head_key-first.result.now c.args.self.now
    c.registry_not_found.result c.registry_not_found.ensures
    (λ configs defines. walk_fails configs (given c.args.registry) c.head_key-first.result.now c.args.self.now
    c.copied.result c.head_key-first.ensures defines c.requires
    (c.copied.ensures ∙ c.get.ensures.value) (sym c.in_default.ensures))

pub returns-in-Some-end_of-clause-address : goal.returns-in-Some-end_of-clause-address
returns-in-Some-end_of-clause-address c = λ configs defines.
    let names = ap (option_map (λ (t : Bor (List ℕ)). t.now)) c.in-Some-replace_with.is in
    let walk = c.loop-source.invariant configs defines in
    let keys = texts c.loop-source.passed.items in
    let s = source_texts c.loop-source.source in
    let address = c.in-Some-end_of.address.now in
    walk_arrives configs (given c.args.registry) address c.loop-source.self keys s walk
    (walk_meets configs (given c.args.registry) c.in-Some-replace_with.key.now address c.loop-source.self keys
    s walk names (sym c.in-Some-end_of.ensures))

pub returns-in-Some-end_of-clause-defines : goal.returns-in-Some-end_of-clause-defines
returns-in-Some-end_of-clause-defines c = λ configs defines.
    let names = ap (option_map (λ (t : Bor (List ℕ)). t.now)) c.in-Some-replace_with.is in
    let walk = c.loop-source.invariant configs defines in
    let keys = texts c.loop-source.passed.items in
    let s = source_texts c.loop-source.source in
    let address = c.in-Some-end_of.address.now in
    walk_keeps configs (given c.args.registry) address c.loop-source.self c.insert_ends.new.self keys s walk
    (walk_meets configs (given c.args.registry) c.in-Some-replace_with.key.now address c.loop-source.self keys
    s walk names (sym c.in-Some-end_of.ensures)) c.in_ok-insert_ends.ensures.left
    (λ q. c.in_ok-insert_ends.ensures.ends q ∙ ap (λ xs. cond (is_used (texts xs) q) (Some address)
    (end_at c.loop-source.self q)) c.deref.ensures.value)

pub returns-in_err-source-clause-error : goal.returns-in_err-source-clause-error
returns-in_err-source-clause-error c =
    let names = ap (option_map (λ (t : Bor (List ℕ)). t.now)) c.in-Some-replace_with.is in
    let why : IsMemory c.in_err-source.field-0.0
    ⊎ Refuses c.args.self.now (given c.args.registry) c.in_err-source.field-0.0 =
    refused_next (given c.args.registry) c.in-Some-replace_with.key.now c.args.self.now
    c.in_err-source.field-0.0 c.in_err-source.ensures.error
    (λ configs defines. walk_breaks configs (given c.args.registry) c.head_key-first.result.now
    c.in-Some-replace_with.key.now c.loop-source.self (texts c.loop-source.passed.items)
    (source_texts c.loop-source.source) c.head_key-first.ensures (c.loop-source.invariant configs defines)
    names (sym c.in_default-end_of.ensures) c.in_err-source.ensures.lacks) in
    let stop = c.from_residual-in_err-source in
    let e = err_from_is_err_and stop.result stop.ensures.1 in
    rw (e.1, e.2) why

pub returns-in_default-registry-clause-error : goal.returns-in_default-registry-clause-error
returns-in_default-registry-clause-error c =
    let now = λ (t : Bor (List ℕ)). t.now in
    inr (λ configs defines. no_address (walk_ends configs (given c.args.registry) c.loop-source.self
    (texts c.loop-source.passed.items) (source_texts c.loop-source.source)
    (c.loop-source.invariant configs defines) (ap (option_map now) c.in_default-replace_with.is)
    (ap (option_map now) c.in_default-registry.is)))

pub returns-clause-defines : goal.returns-clause-defines
returns-clause-defines c = λ configs defines.
    let now = λ (t : Bor (List ℕ)). t.now in
    let address = c.in-Some-registry.address.now in
    walk_keeps configs (given c.args.registry) address c.loop-source.self c.insert_ends-2.new.self
    (texts c.loop-source.passed.items) (source_texts c.loop-source.source)
    (c.loop-source.invariant configs defines)
    (zero, (ap (option_map now) c.in_default-replace_with.is, ap (option_map now) c.in-Some-registry.is))
    c.in_ok-insert_ends-2.ensures.left
    (λ q. c.in_ok-insert_ends-2.ensures.ends q ∙ ap (λ xs. cond (is_used (texts xs) q) (Some address)
    (end_at c.loop-source.self q)) c.deref-2.ensures.value)
