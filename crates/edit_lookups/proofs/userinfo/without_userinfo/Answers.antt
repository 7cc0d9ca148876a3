use Rattle.std.proofs.Common.{◌≡◌, ◌-◌, ◌+◌, ◌≤◌, get_or, length, arith, ap, sym, ◌∙◌, subst}
use Rattle.std.proofs.lemmas.Str.{IsCharBoundary-after_ascii}
use Rattle.std.specs.Str.{IsCharBoundary}
use Rattle.edit_lookups.proofs.userinfo.without_userinfo.Goals as goal

pub range_from-requires : goal.range_from-requires
range_from-requires c w =
    let n = c.userinfo_len-len.result in
    let text = c.args.text.now in
    let back : (n - 1) + 1 ≡ n = omega arith in
    let at : get_or text (n - 1) 0 ≡ 64 =
    ap (λ xs. get_or xs (n - 1) 0) (sym c.as_bytes.ensures.value) ∙ c.userinfo_len-len.ensures.behind w in
    let within : n ≤ length text = subst (λ xs. n ≤ length xs)
    c.as_bytes.ensures.value c.userinfo_len-len.ensures.within in
    subst (IsCharBoundary text) back
    (IsCharBoundary-after_ascii text (n - 1) c.utf8.text (omega arith) (omega arith))
