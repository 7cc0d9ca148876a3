use Rattle.std.proofs.Common.{◌≡◌, ◌∙◌, Bool, List, ap, not}
use Rattle.std.specs.Prelude.{◌&&◌}
use Rattle.std.specs.BTreeSet.{contains_text}
use Rattle.std.specs.Str.{bytes_eq}
use Rattle.edit_lock_bounds.specs.Changes.{is_among, is_registry, is_same, is_same_source, is_text_of}
use Rattle.edit_lock_bounds.specs.LockPackages.{Package}
use Rattle.edit_lock_bounds.specs.Views.{borrowed_package, items_at, packages_view, texts_view}
use Rattle.edit_lock_bounds.proofs.ListLemmas.{any-kept, both-first}
use Rattle.edit_lock_bounds.proofs.changes.History.new.Goals as goal

pub returns : goal.returns
returns c = λ p.
    let before = packages_view c.args.change.now.before.now in
    let named = items_at borrowed_package c.in_ok-former.former p.name in
    let exempt : contains_text c.in_ok-exempt.exempt p.name ≡ is_text_of (texts_view c.args.change.now.exempt.now) p.name
    = c.in_ok-exempt.ensures p.name in
    let among : is_among named p ≡ is_among before p
    = ap (λ (ps : List Package). is_among ps p) (c.in_ok-former.ensures p.name)
    ∙ any-kept (λ (q : Package). bytes_eq p.name q.name) (λ q. is_same p q)
    (λ q same. both-first (bytes_eq p.name q.name)
    (bytes_eq p.version q.version && is_same_source p.source q.source) same) before in
    ap (λ (x : Bool). is_registry p.source && (not x && not (is_among named p))) exempt
    ∙ ap (λ (x : Bool). is_registry p.source
    && (not (is_text_of (texts_view c.args.change.now.exempt.now) p.name) && not x)) among
