-- The parts that a note is formatted from are those of the crate and of its hold.
use Rattle.std.proofs.Common.{◌≡◌, ◌∙◌, ◌++◌, List, Option, ap, codes, string_bytes, sym, ℕ}
use Rattle.std.specs.Prelude.{String}
use Rattle.std.specs.declared.alloc.Global.{Global}
use Rattle.std.proofs.lemmas.Result.{IfOk-weaker}
use Rattle.plan_holds.specs.HoldNotes.{with_reason}
use Rattle.plan_holds.proofs.hold_notes.hold_text.Goals as goal

with_parts : (s n q r name requirement reason : List ℕ)
    → s ≡ n ++ (codes " is held at " ++ (q ++ (codes ": " ++ r))) → n ≡ name → q ≡ requirement → r ≡ reason
    → s ≡ name ++ (codes " is held at " ++ (requirement ++ (codes ": " ++ reason)))
with_parts s n q r name requirement reason is named required reasoned =
    is ∙ ap (λ (x : List ℕ). x ++ (codes " is held at " ++ (q ++ (codes ": " ++ r)))) named
    ∙ ap (λ (x : List ℕ). name ++ (codes " is held at " ++ (x ++ (codes ": " ++ r)))) required
    ∙ ap (λ (x : List ℕ). name ++ (codes " is held at " ++ (requirement ++ (codes ": " ++ x)))) reasoned

with_two : (s n q name requirement : List ℕ) → s ≡ n ++ (codes " is held at " ++ q) → n ≡ name
    → q ≡ requirement → s ≡ name ++ (codes " is held at " ++ requirement)
with_two s n q name requirement is named required =
    is ∙ ap (λ (x : List ℕ). x ++ (codes " is held at " ++ q)) named
    ∙ ap (λ (x : List ℕ). name ++ (codes " is held at " ++ x)) required

pub returns-in-Some : goal.returns-in-Some
returns-in-Some c =
    let name = string_bytes c.args.held.now.name in
    let requirement = string_bytes c.args.hold.now.text in
    IfOk-weaker c.format.result _ _
    (λ s is. with_parts (string_bytes s) c.as_str-name.result.now c.as_str-requirement.result.now
    c.as_str-reason.result.now name requirement (string_bytes c.in-Some.reason) is c.as_str-name.ensures.value
    c.as_str-requirement.ensures.value c.as_str-reason.ensures.value
    ∙ ap (λ (o : Option (String Global)). name ++ (codes " is held at " ++ with_reason requirement o))
    (sym c.in-Some.is)) c.format.ensures.ok

pub returns-in-None : goal.returns-in-None
returns-in-None c =
    let name = string_bytes c.args.held.now.name in
    let requirement = string_bytes c.args.hold.now.text in
    IfOk-weaker c.format-in-None.result _ _
    (λ s is. with_two (string_bytes s) c.as_str-name.result.now c.as_str-requirement.result.now name requirement
    is c.as_str-name.ensures.value c.as_str-requirement.ensures.value
    ∙ ap (λ (o : Option (String Global)). name ++ (codes " is held at " ++ with_reason requirement o))
    (sym c.in-None.is)) c.format-in-None.ensures.ok
