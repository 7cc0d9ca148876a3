use Rattle.std.proofs.Common.{Some, None, lit<}
use Rattle.std.proofs.lemmas.Str.Pattern.{split_once_first, strip_prefix_char}
use Rattle.edit_lookups.proofs.ShownLemmas.{shown-plain, shown-cut}
use Rattle.edit_lookups.proofs.userinfo.strip_userinfo.Goals as goal

pub returns-in_default-strip_prefix : goal.returns-in_default-strip_prefix
returns-in_default-strip_prefix c =
    let cut = split_once_first 47 c.args.address.now (Some (c.in-Some.scheme, c.in-Some.rest))
    c.in-Some.ensures.cases (lit< tt) in
    let none = strip_prefix_char 47 c.in-Some.rest.now None
    c.in_default-strip_prefix.ensures.cases (lit< tt) in
    let shown = shown-plain c.args.address.now c.in-Some.rest.now cut.2 none in
    rw shown c.from_str-in_default-strip_prefix.ensures.ok

pub returns : goal.returns
returns c =
    let cut = split_once_first 47 c.args.address.now (Some (c.in-Some.scheme, c.in-Some.rest))
    c.in-Some.ensures.cases (lit< tt) in
    let host = strip_prefix_char 47 c.in-Some.rest.now (Some c.in-Some-strip_prefix.rest)
    c.in-Some-strip_prefix.ensures.cases (lit< tt) in
    let shown = shown-cut c.args.address.now _ _ _ cut.1 cut.2 host in
    let host_is = c.without_userinfo.ensures in
    rw shown (rw host_is at c.with_scheme.ensures)
