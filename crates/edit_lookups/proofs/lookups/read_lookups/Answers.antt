use Rattle.std.proofs.Common.{ℕ, List, length, lit<, sym, ◌∙◌, ap, rules, eqb}
use Rattle.std.proofs.lemmas.Bool.{false≢true}
use Rattle.edit_lookups.proofs.CutLemmas.{cut-whole, cut-first, cut-none}
use Rattle.edit_lookups.proofs.LineLemmas.{first-line, no-line, All-more, text-more}
use Rattle.edit_lookups.proofs.lookups.read_lookups.Goals as goal

pub read_line-requires : goal.read_line-requires
read_line-requires c = cut-first 10 _ _ _ c.in-Some.ensures.cases (lit< tt)

pub returns-in_default-read_line : goal.returns-in_default-read_line
returns-in_default-read_line c ls h =
    let rest = c.loop-line.invariant.3 ls h in
    let first = first-line _ _ _ rest.0 (cut-whole 10 _ _ _ c.in-Some.ensures.cases (lit< tt))
    (cut-first 10 _ _ _ c.in-Some.ensures.cases (lit< tt)) rest.1 in
    c.in_default-read_line.ensures first.first first.is first.line_is

pub loop-line-preserved : goal.loop-line-preserved
loop-line-preserved c =
    let cut = cut-whole 10 _ _ _ c.in-Some.ensures.cases (lit< tt) in (
      search rules,
      text-more c.loop-line.lookups.items c.push.new.self.items c.in-Some-read_line.lookup _ _ _ _
          c.in_ok-push.ensures.items c.loop-line.invariant.1 cut c.in-Some-read_line.ensures.1,
      All-more c.loop-line.lookups.items c.push.new.self.items c.in-Some-read_line.lookup
          c.in_ok-push.ensures.items c.loop-line.invariant.2 c.in-Some-read_line.ensures.0,
      λ ls h. let rest = c.loop-line.invariant.3 ls h in
          let first = first-line _ _ _ rest.0 cut
          (cut-first 10 _ _ _ c.in-Some.ensures.cases (lit< tt)) rest.1 in
          (first.others, first.say),
    )

pub returns : goal.returns
returns c ls h =
    let rest = c.loop-line.invariant.3 ls h in
    let empty = no-line _ rest.0 (cut-none 10 _ c.in_default.ensures.cases (lit< tt)) rest.1 in
    false≢true (sym c.if-is_empty.false ∙ (c.is_empty.ensures
    ∙ ap (λ (xs : List ℕ). eqb (length xs) 0) empty))
