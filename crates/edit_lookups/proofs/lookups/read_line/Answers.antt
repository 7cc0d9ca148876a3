use Rattle.std.proofs.Common.{◌≡◌, ◌∷◌, ◌++◌, lit<, sym, ◌∙◌, subst}
use Rattle.edit_lookups.specs.Lookups.{HasNo}
use Rattle.edit_lookups.proofs.CutLemmas.{HasNo-at, HasNo-left, HasNo-right, HasNo-tail, first-cut, cut-whole, cut-first, cut-none}
use Rattle.edit_lookups.proofs.lookups.read_line.Goals as goal

pub returns-in_default : goal.returns-in_default
returns-in_default c l is e =
    HasNo-at 9 l.address (l.name ++ 9 ∷ l.path)
    (subst (HasNo 9) e (cut-none 9 c.args.line.now c.in_default.ensures.cases (lit< tt)))

pub returns-in_default-split_once : goal.returns-in_default-split_once
returns-in_default-split_once c l is e =
    let cut = cut-whole 9 _ _ _ c.in-Some.ensures.cases (lit< tt) in
    let parts = first-cut 9 _ _ _ _ (cut-first 9 _ _ _ c.in-Some.ensures.cases (lit< tt)) is.address.no_tab
    (sym cut ∙ e) in
    HasNo-at 9 l.name l.path
    (subst (HasNo 9) parts.1 (cut-none 9 c.in-Some.rest.now c.in_default-split_once.ensures.cases (lit< tt)))

pub returns-then-has_tab : goal.returns-then-has_tab
returns-then-has_tab c l is e =
    let cut = cut-whole 9 _ _ _ c.in-Some.ensures.cases (lit< tt) in
    let parts = first-cut 9 _ _ _ _ (cut-first 9 _ _ _ c.in-Some.ensures.cases (lit< tt)) is.address.no_tab
    (sym cut ∙ e) in
    let cut2 = cut-whole 9 _ _ _ c.in-Some-split_once.ensures.cases (lit< tt) in
    let parts2 = first-cut 9 _ _ _ _ (cut-first 9 _ _ _ c.in-Some-split_once.ensures.cases (lit< tt))
    is.name.no_tab (sym cut2 ∙ parts.1) in
    c.has_tab.ensures.found c.if-has_tab.true (subst (HasNo 9) (sym parts2.1) is.path.no_tab)

pub returns : goal.returns
returns c =
    let cut = cut-whole 9 _ _ _ c.in-Some.ensures.cases (lit< tt) in
    let cut2 = cut-whole 9 _ _ _ c.in-Some-split_once.ensures.cases (lit< tt) in
    let no_end = subst (HasNo 10) cut c.requires in
    let rest = HasNo-tail 10 9 _ (HasNo-right 10 c.in-Some.address.now _ no_end) in
    let rest2 = subst (HasNo 10) cut2 rest in (
      record {
        address = record {
          no_tab = cut-first 9 _ _ _ c.in-Some.ensures.cases (lit< tt);
          no_line_end = HasNo-left 10 _ _ no_end;
        };
        name = record {
          no_tab = cut-first 9 _ _ _ c.in-Some-split_once.ensures.cases (lit< tt);
          no_line_end = HasNo-left 10 _ _ rest2;
        };
        path = record {
          no_tab = c.has_tab.ensures.free c.if-has_tab.false;
          no_line_end = HasNo-tail 10 9 _ (HasNo-right 10 c.in-Some-split_once.name.now _ rest2);
        };
      },
      subst (λ t. c.args.line.now ≡ c.in-Some.address.now ++ 9 ∷ t) cut2 cut,
    )
