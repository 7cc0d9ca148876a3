use Rattle.std.proofs.Common.{true, false, ◌∙◌, string_bytes, sym}
use Rattle.std.proofs.lemmas.Bool.{false≢true}
use Rattle.edit_lookups.specs.CachePaths.{cached_path}
use Rattle.edit_lookups.specs.Lookups.{lookup_text}
use Rattle.edit_answers.specs.Listing.HasFile.{cached, local}
use Rattle.edit_answers.proofs.ChangeLemmas.{on-done}
use Rattle.edit_answers.proofs.ListLemmas.{adds-file, adds-none}
use Rattle.edit_answers.proofs.listing.push_lookup.Goals as goal

pub returns-then-is_in_cache : goal.returns-then-is_in_cache
returns-then-is_in_cache c =
    let l = lookup_text c.args.lookup.now in
    on-done _ _ c.push_file.result
    (adds-file c.args.places.now l c.args.outcome true (cached_path c.args.places.now.cache.now l)
    c.as_str.result.now c.args.text.now.items c.push_file.new.text.items
    (cached (sym c.is_in_cache.ensures ∙ c.if-is_in_cache.true))
    (c.as_str.ensures.value ∙ c.in_ok-file.ensures))
    c.push_file.ensures

pub returns-then-not-is_local_entry : goal.returns-then-not-is_local_entry
returns-then-not-is_local_entry c =
    adds-none c.args.places.now (lookup_text c.args.lookup.now) c.args.outcome c.args.text.now.items
    (sym c.is_in_cache.ensures ∙ c.if-is_in_cache.false)
    (λ file holds is.
    false≢true (sym c.if-not-is_local_entry.true ∙ (c.is_local_entry.ensures ∙ holds)))

pub returns-in-Some : goal.returns-in-Some
returns-in-Some c =
    on-done _ _ c.push_file-in-Some.result
    (adds-file c.args.places.now (lookup_text c.args.lookup.now) c.args.outcome false
    (string_bytes c.in-Some.file)
    c.as_str-in-Some.result.now c.args.text.now.items c.push_file-in-Some.new.text.items
    (local (string_bytes c.in-Some.file) (sym c.is_local_entry.ensures ∙ c.if-not-is_local_entry.false)
    (rw c.in-Some.is at c.in_ok-file-2.ensures))
    c.as_str-in-Some.ensures.value)
    c.push_file-in-Some.ensures

pub returns-in-None : goal.returns-in-None
returns-in-None c =
    adds-none c.args.places.now (lookup_text c.args.lookup.now) c.args.outcome c.args.text.now.items
    (sym c.is_in_cache.ensures ∙ c.if-is_in_cache.false)
    (λ file holds is. (rw c.in-None.is at c.in_ok-file-2.ensures) file is)
