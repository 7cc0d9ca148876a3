use Rattle.std.proofs.Common.{ap, string_bytes, sym, ◌∙◌}
use Rattle.edit_lookups.specs.Lookups.{lookup_text}
use Rattle.edit_answers.specs.Locals.SettlesLocal.{absent, no_folder, present}
use Rattle.edit_answers.specs.Places.{local_path}
use Rattle.edit_answers.proofs.PutLemmas.{no-bytes, some-bytes}
use Rattle.edit_answers.proofs.local.settle_local.Goals as goal

pub returns-in-Ok-None-clause-outcome : goal.returns-in-Ok-None-clause-outcome
returns-in-Ok-None-clause-outcome g c t = no_folder (rw c.in-Ok-None.field-0-is at
    (c.in-Ok-None.ensures.folder t))

pub returns-in-Ok-true-clause-outcome : goal.returns-in-Ok-true-clause-outcome
returns-in-Ok-true-clause-outcome g c t =
    let l = lookup_text c.args.lookup.now in
    let reads = c.existing_folder.ensures.reads in
    let mid = (g.S.Store.view c.existing_folder.new.files).file_at in
    let is = c.as_str-2.ensures.value ∙ (c.in_ok-path.ensures
    ∙ ap (λ f. local_path f l.path) c.as_str.ensures.value) in
    let there = some-bytes (mid c.as_str-2.result.now)
    (sym c.in-Ok-true.field-0-test ∙ c.in-Ok-true.ensures.is_there (reads.tells ∙ t)) in
    present (string_bytes c.in-Ok-Some.folder) there.0
    (rw c.in-Ok-Some.field-0-is at (c.in-Ok-Some.ensures.folder t))
    (sym (reads.files (local_path (string_bytes c.in-Ok-Some.folder) l.path)) ∙ (ap mid (sym is) ∙ there.1))

pub returns-in-Ok-false-clause-outcome : goal.returns-in-Ok-false-clause-outcome
returns-in-Ok-false-clause-outcome g c t =
    let l = lookup_text c.args.lookup.now in
    let reads = c.existing_folder.ensures.reads in
    let mid = (g.S.Store.view c.existing_folder.new.files).file_at in
    let is = c.as_str-2.ensures.value ∙ (c.in_ok-path.ensures
    ∙ ap (λ f. local_path f l.path) c.as_str.ensures.value) in
    absent (string_bytes c.in-Ok-Some.folder) (rw c.in-Ok-Some.field-0-is at (c.in-Ok-Some.ensures.folder t))
    (sym (reads.files (local_path (string_bytes c.in-Ok-Some.folder) l.path)) ∙ (ap mid (sym is)
    ∙ no-bytes (mid c.as_str-2.result.now)
    (sym c.in-Ok-false.field-0-test ∙ c.in-Ok-false.ensures.is_there (reads.tells ∙ t))))
