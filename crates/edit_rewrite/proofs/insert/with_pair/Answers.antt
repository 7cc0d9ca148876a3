use Rattle.std.proofs.Common.{sym, ◌∙◌}
use Rattle.edit_document.specs.Items.{place_view}
use Rattle.edit_rewrite.proofs.InsertedTexts.{own_text, dotted_text, inner_text, through_text, start_text}
use Rattle.edit_rewrite.proofs.insert.with_pair.Goals as goal

pub returns-in-Some-clause-text : goal.returns-in-Some-clause-text
returns-in-Some-clause-text c form name v m none found is =
    own_text c.with_line.result c.args.text.now c.args.pair.now c.utf8.text form (place_view c.args.place.now)
    name v m none c.args.inner found is c.as_slice-found.result.now
    (c.as_slice-found.ensures.value ∙ (c.in_ok-all.ensures {u = tt}).found form m) c.in-Some.entry
    (sym c.last_own.ensures ∙ c.in-Some.is) c.with_line.ensures.text

pub returns-in-Some-last_dotted-clause-text : goal.returns-in-Some-last_dotted-clause-text
returns-in-Some-last_dotted-clause-text c form name v m none found is =
    dotted_text c.with_dotted.result c.args.text.now c.args.pair.now c.utf8.text form
    (place_view c.args.place.now) name v m none c.args.inner found is c.as_slice-found.result.now
    (c.as_slice-found.ensures.value ∙ (c.in_ok-all.ensures {u = tt}).found form m)
    c.in-Some-last_dotted.entry (sym c.last_own.ensures ∙ c.in_default.is)
    (sym c.last_dotted.ensures ∙ c.in-Some-last_dotted.is) c.with_dotted.ensures.text

pub returns-in-Some-inner-clause-text : goal.returns-in-Some-inner-clause-text
returns-in-Some-inner-clause-text c form name v m none found is =
    inner_text c.with_inner.result c.args.text.now c.args.pair.now c.utf8.text form
    (place_view c.args.place.now) name v m none c.args.inner found is c.as_slice-found.result.now
    (c.as_slice-found.ensures.value ∙ (c.in_ok-all.ensures {u = tt}).found form m) c.in-Some-inner.inner
    (sym c.last_own.ensures ∙ c.in_default.is) (sym c.last_dotted.ensures ∙ c.in_default-last_dotted.is)
    c.in-Some-inner.is c.with_inner.ensures.text

pub returns-in-Some-first_through-clause-text : goal.returns-in-Some-first_through-clause-text
returns-in-Some-first_through-clause-text c form name v m none found is =
    through_text c.with_header.result c.args.text.now c.args.pair.now c.utf8.text form
    (place_view c.args.place.now) name v m none c.args.inner found is c.as_slice-found.result.now
    (c.as_slice-found.ensures.value ∙ (c.in_ok-all.ensures {u = tt}).found form m)
    c.in-Some-first_through.entry (sym c.last_own.ensures ∙ c.in_default.is)
    (sym c.last_dotted.ensures ∙ c.in_default-last_dotted.is) c.in_default-inner.is
    (sym c.first_through.ensures ∙ c.in-Some-first_through.is) c.with_header.ensures.text

pub returns-clause-text : goal.returns-clause-text
returns-clause-text c form name v m none found is =
    start_text c.with_first.result c.args.text.now c.args.pair.now c.utf8.text form
    (place_view c.args.place.now) name v m none c.args.inner found is c.as_slice-found.result.now
    (c.as_slice-found.ensures.value ∙ (c.in_ok-all.ensures {u = tt}).found form m)
    (sym c.last_own.ensures ∙ c.in_default.is) (sym c.last_dotted.ensures ∙ c.in_default-last_dotted.is)
    c.in_default-inner.is (sym c.first_through.ensures ∙ c.in_default-first_through.is)
    (c.with_first.ensures.text form m)
