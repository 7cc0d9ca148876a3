use Rattle.std.proofs.Common.{rules}
use Rattle.std.specs.Prelude.{string_bytes}
use Rattle.std.proofs.lemmas.Iterator.{cases_from_any}
use Rattle.std.proofs.lemmas.Iterator.Consumers.{YieldsList-from_rest}
use Rattle.std.specs.BTreeMap.{keys}
use borrow.Author.Tests.{tests}
use Rattle.edit_store.specs.Memory.{IsBelow}
use Rattle.edit_store.proofs.FrontLemmas.{front_from_search}
use Rattle.index_list.specs.Listed.{listed_file}
use Rattle.index_list.proofs.listed_files.is_shown_below.Goals as goal

pub returns : goal.returns
returns c =
    let path = c.args.path.now in
    let found = cases_from_any _ _ _ (λ n. IsBelow (string_bytes n) path) (λ n. IsBelow (string_bytes n) path
    → ⊥) c.any.ensures.ran (YieldsList-from_rest (keys c.args.listed.now) c.keys.ensures.rest)
    (λ x q k. search (rules, tests)) (λ x q k. search (rules, tests)) in
    front_from_search listed_file c.args.listed.now path c.any.result c.keys.ensures.found found
