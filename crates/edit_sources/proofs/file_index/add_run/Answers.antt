use Rattle.std.proofs.Common.{◌≡◌, ◌++◌, None, refl, sym, ap, ◌∙◌, subst, ⊎_elim, List, arith}
use Rattle.std.specs.Prelude.{string_bytes}
use Rattle.std.proofs.lemmas.Map.Text.{text_keys}
use Rattle.edit_sources.specs.declared.index_group.Group.{Group}
use Rattle.edit_version.specs.declared.fetch.IndexVersion.{IndexVersion}
use Rattle.edit_sources.specs.FileIndex.{AreNamed, items_at, items_of}
use Rattle.edit_sources.proofs.RunLemmas.{appended, emptied, inserted, joined}
use Rattle.edit_sources.proofs.file_index.add_run.Goals as goal

-- a step before another one, which is known
behind : {x y z : List IndexVersion} → y ≡ z → x ≡ y → x ≡ z
behind later first = first ∙ later

pub returns-then-is_empty : goal.returns-then-is_empty
returns-then-is_empty c = λ name named q.
    let key : string_bytes c.in_ok-clone.field-0 ≡ name = grind (arith, named 0 c.in-Some.first.now) in
    let before = c.or_insert-group.result.now in
    let after : Group = record { shared = before.shared; versions = c.args.run } in
    let found : items_at c.args.groups.now (string_bytes c.in_ok-clone.field-0) ≡ items_of before =
    inserted _ _ (record { shared = None; versions = c.new.result }) before c.in_ok-groups.ensures.value
    c.new.ensures.items c.or_insert-group.ensures.value in
    let empty = emptied before.versions (c.if-is_empty.ensures) in
    ⊎_elim
    (λ t. behind t.1 (grind (arith, text_keys, t.0)))
    (λ f. behind f.1 (grind (arith, text_keys, f.0)))
    (joined c.args.groups.now (string_bytes c.in_ok-clone.field-0) c.args.run.items (items_of after) q
    (subst (λ n. AreNamed n c.args.run.items) (sym key) named)
    (appended before after c.args.run.items refl (ap (λ xs. xs ++ c.args.run.items) (sym empty)) ∙
    ap (λ xs. xs ++ c.args.run.items) (sym found)))

pub returns : goal.returns
returns c = λ name named q.
    let key : string_bytes c.in_ok-clone.field-0 ≡ name = grind (arith, named 0 c.in-Some.first.now) in
    let before = c.or_insert-group.result.now in
    let after : Group = record { shared = before.shared; versions = c.append.new.self } in
    let found : items_at c.args.groups.now (string_bytes c.in_ok-clone.field-0) ≡ items_of before =
    inserted _ _ (record { shared = None; versions = c.new.result }) before c.in_ok-groups.ensures.value
    c.new.ensures.items c.or_insert-group.ensures.value in
    ⊎_elim
    (λ t. behind t.1 (grind (arith, text_keys, t.0)))
    (λ f. behind f.1 (grind (arith, text_keys, f.0)))
    (joined c.args.groups.now (string_bytes c.in_ok-clone.field-0) c.args.run.items (items_of after) q
    (subst (λ n. AreNamed n c.args.run.items) (sym key) named)
    (appended before after c.args.run.items refl c.in_ok-append.ensures.items ∙
    ap (λ xs. xs ++ c.args.run.items) (sym found)))
