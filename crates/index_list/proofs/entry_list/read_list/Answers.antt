use Rattle.std.proofs.Common.{ℕ, List, length, lit<, sym, ◌∙◌, ap, rules, eqb}
use Rattle.std.proofs.lemmas.Bool.{false≢true}
use Rattle.edit_lookups.proofs.CutLemmas.{cut-whole, cut-first, cut-none}
use Rattle.index_list.proofs.RecordLemmas.{first-record, no-record, All-more, text-more}
use Rattle.index_list.proofs.entry_list.read_list.Goals as goal

pub read_fields-requires : goal.read_fields-requires
read_fields-requires c = cut-first 0 _ _ _ c.in-Some.ensures.cases (lit< tt)

pub returns-in_default-read_fields : goal.returns-in_default-read_fields
returns-in_default-read_fields c ls h =
    let rest = c.loop-fields.invariant.3 ls h in
    let first = first-record _ _ _ rest.0 (cut-whole 0 _ _ _ c.in-Some.ensures.cases (lit< tt))
    (cut-first 0 _ _ _ c.in-Some.ensures.cases (lit< tt)) rest.1 in
    c.in_default-read_fields.ensures first.first first.is first.fields_are

pub loop-fields-preserved : goal.loop-fields-preserved
loop-fields-preserved c =
    let cut = cut-whole 0 _ _ _ c.in-Some.ensures.cases (lit< tt) in (
      search rules,
      text-more c.loop-fields.entries.items c.push.new.self.items c.in-Some-read_fields.entry _ _ _ _
          c.in_ok-push.ensures.items c.loop-fields.invariant.1 cut c.in-Some-read_fields.ensures.1,
      All-more c.loop-fields.entries.items c.push.new.self.items c.in-Some-read_fields.entry
          c.in_ok-push.ensures.items c.loop-fields.invariant.2 c.in-Some-read_fields.ensures.0,
      λ ls h. let rest = c.loop-fields.invariant.3 ls h in
          let first = first-record _ _ _ rest.0 cut
          (cut-first 0 _ _ _ c.in-Some.ensures.cases (lit< tt)) rest.1 in
          (first.others, first.say),
    )

pub returns : goal.returns
returns c ls h =
    let rest = c.loop-fields.invariant.3 ls h in
    let empty = no-record _ rest.0 (cut-none 0 _ c.in_default.ensures.cases (lit< tt)) rest.1 in
    false≢true (sym c.if-is_empty.false ∙ (c.is_empty.ensures
    ∙ ap (λ (xs : List ℕ). eqb (length xs) 0) empty))
