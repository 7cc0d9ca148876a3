use Rattle.std.proofs.Common.{◌∷◌, ◌++◌, lit<, sym, ◌∙◌, subst, ap}
use Rattle.edit_lookups.specs.Lookups.{HasNo}
use Rattle.edit_lookups.proofs.CutLemmas.{HasNo-at, HasNo-left, HasNo-right, HasNo-tail, first-cut, cut-whole, cut-first, cut-none}
use Rattle.index_list.proofs.RecordLemmas.{kind-free}
use Rattle.index_list.proofs.entry_list.read_fields.Goals as goal

pub returns-in_default : goal.returns-in_default
returns-in_default c e is at =
    HasNo-at 9 _ (e.below ++ 9 ∷ e.file)
    (subst (HasNo 9) at (cut-none 9 c.args.fields.now c.in_default.ensures.cases (lit< tt)))

pub returns-in_default-split_once : goal.returns-in_default-split_once
returns-in_default-split_once c e is at =
    let cut = cut-whole 9 _ _ _ c.in-Some.ensures.cases (lit< tt) in
    let parts = first-cut 9 _ _ _ _ (cut-first 9 _ _ _ c.in-Some.ensures.cases (lit< tt))
    (kind-free 9 e.is_cached (lit< tt)) (sym cut ∙ at) in
    HasNo-at 9 e.below e.file
    (subst (HasNo 9) parts.1 (cut-none 9 c.in-Some.rest.now c.in_default-split_once.ensures.cases (lit< tt)))

pub returns-in_default-read_kind : goal.returns-in_default-read_kind
returns-in_default-read_kind c e is at =
    let cut = cut-whole 9 _ _ _ c.in-Some.ensures.cases (lit< tt) in
    let parts = first-cut 9 _ _ _ _ (cut-first 9 _ _ _ c.in-Some.ensures.cases (lit< tt))
    (kind-free 9 e.is_cached (lit< tt)) (sym cut ∙ at) in
    c.in_default-read_kind.ensures e.is_cached parts.0

pub returns : goal.returns
returns c =
    let cut = cut-whole 9 _ _ _ c.in-Some.ensures.cases (lit< tt) in
    let cut2 = cut-whole 9 _ _ _ c.in-Some-split_once.ensures.cases (lit< tt) in
    let no_nul = subst (HasNo 0) cut c.requires in
    let rest = subst (HasNo 0) cut2 (HasNo-tail 0 9 _ (HasNo-right 0 c.in-Some.kind.now _ no_nul)) in (
      record {
        no_tab = cut-first 9 _ _ _ c.in-Some-split_once.ensures.cases (lit< tt);
        no_nul = HasNo-left 0 _ _ rest;
        file = HasNo-tail 0 9 _ (HasNo-right 0 c.in-Some-split_once.below.now _ rest);
      },
      cut ∙ (ap (λ t. c.in-Some.kind.now ++ 9 ∷ t) cut2
          ∙ ap (λ k. k ++ 9 ∷ (c.in-Some-split_once.below.now ++ 9 ∷ c.in-Some-split_once.file.now))
          c.in-Some-read_kind.ensures),
    )
