use Rattle.std.proofs.Common.{◌≡◌, ◌∙◌, ◌++◌, List, ap, append-nil, codes, false, rules, string_bytes, sym, true, ℕ}
use Rattle.edit_report.specs.Messages.{message_text}
use Rattle.edit_report.specs.NameSets.{has_name}
use Rattle.plan_holds.proofs.NoteLemmas.{note_at}
use Rattle.plan_holds.proofs.hold_notes.push_hold.Goals as goal

pub returns-then-not-contains : goal.returns-then-not-contains
returns-then-not-contains c =
    let test = has_name c.args.names.now in
    let none : c.contains.result ≡ false = search rules in
    sym (append-nil (string_bytes c.args.text.now))
    ∙ ap (λ (text : List ℕ). string_bytes c.args.text.now ++ text)
    (sym (note_at test c.args.held.now c.in-Some.hold false c.in-Some.is
    (ap test (sym c.as_str.ensures.value) ∙ sym c.contains.ensures ∙ none)))

pub returns : goal.returns
returns c =
    let test = has_name c.args.names.now in
    let has : c.contains.result ≡ true = search rules in
    c.in_ok-push_str.ensures.bytes
    ∙ ap (λ (text : List ℕ). string_bytes c.args.text.now ++ text)
    (c.as_str-2.ensures.value ∙ c.in_ok-line.ensures.ok
    ∙ ap (λ (message : List ℕ). message_text false (codes "note") message) c.in_ok-message.ensures
    ∙ sym (note_at test c.args.held.now c.in-Some.hold true c.in-Some.is
    (ap test (sym c.as_str.ensures.value) ∙ sym c.contains.ensures ∙ has)))
