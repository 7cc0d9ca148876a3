use Rattle.std.proofs.Common.{◌≡◌, ◌∙◌, Bool, Bor, List, None, Option, Some, ap, codes, false, inr, refl, subst, sym, true, ℕ}
use Rattle.std.specs.Prelude.{◌&&◌, option_map}
use Rattle.std.proofs.lemmas.Result.{IfErr-weaker, IfOk-weaker}
use Rattle.clap.specs.Words.{Text, found_of, rows_of}
use Rattle.edit_program.specs.ParsedOptions.{is_given}
use Rattle.edit_program.specs.ParsedRows.{HasNoRowChoice, IsRowChoice}
use Rattle.edit_program.proofs.ArgsLemmas.{option_text_is}
use Rattle.edit_program.proofs.upgrade_parser.row_choice.Goals as goal
use Rattle.edit_program.proofs.upgrade_parser.row_choice.Goals.{else-is_given-via-then-is_given+else-is_given-2, else-is_given-via-else-is_given}

-- two tests do not both hold where the second one does not
not_second : (a b : Bool) → b ≡ false → (a && b) ≡ false
not_second true b is = is
not_second false b is = refl

pub returns-in-Some-clause-ok : goal.returns-in-Some-clause-ok
returns-in-Some-clause-ok c =
    let rows = rows_of (found_of c.args.matches.now) in
    let apart : (is_given (codes "interactive") rows && is_given (codes "check") rows) ≡ false =
    elim c.else-is_given.branch [
      | else-is_given-via-then-is_given+else-is_given-2 w ↦
          not_second (is_given (codes "interactive") rows) (is_given (codes "check") rows)
          (sym w.is_given-then-is_given.ensures ∙ w.if-is_given-2.false)
      | else-is_given-via-else-is_given w ↦
          ap (λ (b : Bool). b && is_given (codes "check") rows) (sym c.is_given.ensures ∙ w.if-is_given.false)
    ] in
    let given = option_text_is c.args.matches.now (codes "rows") c.get_str.result (Some c.in-Some.text.now)
    (ap (option_map (λ (s : Bor (List ℕ)). s.now)) (sym c.in-Some.is)) c.get_str.ensures in
    IfOk-weaker c.named_rows.result _ _
    (λ v h. record { apart = apart; is = subst (λ (o : Option Text). IsRowChoice o v) given h })
    c.named_rows.ensures.ok

pub returns-in-Some-clause-error : goal.returns-in-Some-clause-error
returns-in-Some-clause-error c =
    let given = option_text_is c.args.matches.now (codes "rows") c.get_str.result (Some c.in-Some.text.now)
    (ap (option_map (λ (s : Bor (List ℕ)). s.now)) (sym c.in-Some.is)) c.get_str.ensures in
    IfErr-weaker c.named_rows.result _ _
    (λ e h other. inr (subst (λ (o : Option Text). HasNoRowChoice o) given (h other)))
    c.named_rows.ensures.error

pub returns-in-None-clause-ok : goal.returns-in-None-clause-ok
returns-in-None-clause-ok c =
    let rows = rows_of (found_of c.args.matches.now) in
    let apart : (is_given (codes "interactive") rows && is_given (codes "check") rows) ≡ false =
    elim c.else-is_given.branch [
      | else-is_given-via-then-is_given+else-is_given-2 w ↦
          not_second (is_given (codes "interactive") rows) (is_given (codes "check") rows)
          (sym w.is_given-then-is_given.ensures ∙ w.if-is_given-2.false)
      | else-is_given-via-else-is_given w ↦
          ap (λ (b : Bool). b && is_given (codes "check") rows) (sym c.is_given.ensures ∙ w.if-is_given.false)
    ] in
    let given = option_text_is c.args.matches.now (codes "rows") c.get_str.result None
    (ap (option_map (λ (s : Bor (List ℕ)). s.now)) (sym c.in-None.is)) c.get_str.ensures in
    record { apart = apart; is = subst (λ (o : Option Text). IsRowChoice o None) given refl }
