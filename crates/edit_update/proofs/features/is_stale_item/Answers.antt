use Rattle.std.proofs.Common.{false, ◌≡◌, rules}
use Rattle.std.proofs.lemmas.Str.Pattern.{starts_text}
use Rattle.std.specs.Str.{bytes_eq}
use Rattle.edit_document.specs.ItemViews.{view_of}
use Rattle.edit_tree.specs.DocumentViews.{tree_of}
use Rattle.edit_update.proofs.StaleElements.{goes_front}
use Rattle.edit_update.proofs.features.is_stale_item.Goals as goal

pub returns-then-not-gone : goal.returns-then-not-gone
returns-then-not-gone c d place found =
    let other : bytes_eq c.in-Some-as_str.text.now c.args.gone.name.now ≡ false = search rules in
    let there = rw c.in-Some.is at found in
    goes_front c.args.gone.is_held c.args.gone.name.now c.in-Some-as_str.text.now c.args.gone.front.now
    c.starts_with.result (view_of c.in-Some.item) (tree_of d place) there.2 c.in-Some-as_str.ensures other
    c.if-not-gone.true c.args.gone.fronted (starts_text _ _ _ c.starts_with.ensures.cases)
