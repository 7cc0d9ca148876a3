use Rattle.std.proofs.Common.{◌≡◌, ℕ, Bool, eqb, if◌then◌else◌, List, [], ◌++◌, drop, length, sym, subst, ap, ◌∙◌, refl, arith}
use Rattle.std.proofs.lemmas.Result.{err_from_is_err_and}
use Rattle.edit_syntax.specs.Characters.{comma, left_brace}
use Rattle.edit_syntax.specs.Reading.{first, past_gap}
use Rattle.edit_document.specs.Items.{place_view}
use Rattle.edit_rewrite.specs.Remainders.{before_end}
use Rattle.edit_tree.specs.Slots.{closing, is_item_removed, enclosed_left}
use Rattle.edit_tree.specs.SlotTexts.{StandsAt}
use Rattle.edit_rewrite.proofs.SlotSteps.{keeps_memory}
use Rattle.edit_rewrite.proofs.SlotTurns.{slots_front, at_with, turned, table_is, stop_is}
use Rattle.edit_rewrite.proofs.SlotEnds.{enclosed_start, slots_closed, slots_over}
use Rattle.edit_rewrite.proofs.inside.slots_left.Goals as goal

pub slots-init : goal.slots-init
slots-init c t g ss h =
    let text = c.args.text.now in
    let rest = c.past_gap-rest.result.now in
    let bytes : c.as_bytes-bytes.result.now ≡ text = c.as_bytes-bytes.ensures.value in
    let table = table_is t g ss text h ∙ ap (λ (x : List ℕ). eqb (first x) left_brace) (sym bytes) ∙
    sym c.begins-is_table.ensures in
    let new = c.in_ok-left.ensures {u = tt} in
    let firm = new.firm ∙ c.before-2.ensures ∙ ap (λ (x : List ℕ). before_end x rest) bytes in (
      table,
      at_with t text (place_view c.args.below.now) 0 0 rest
          (before_end text rest) c.in_ok-left.left.firm.items [] c.in_ok-left.left.with_comma.items []
          c.in_ok-left.left.without_comma.items _
          (enclosed_start t text (place_view c.args.below.now) g ss rest h
          (c.past_gap-rest.ensures ∙ ap past_gap (c.behind_one.ensures ∙ ap (drop 1) bytes)))
          refl firm new.rest.0 new.rest.1,
    )

pub returns-then-begins : goal.returns-then-begins
returns-then-begins c t g ss h =
    let inv = c.slots.invariant t g ss h in
    let rest = c.slots.rest.now in
    let ends : c.closer-end.result ≡ closing t = c.closer-end.ensures ∙ ap closing (sym inv.0) in
    let shut = ap (λ (x : ℕ). eqb (first rest) x) (sym ends) ∙ sym c.begins.ensures ∙ c.if-begins.true in
    c.in_ok-finish_with_comma.ensures {u = tt} ∙
    sym (slots_closed t c.args.text.now
    (place_view c.args.below.now) c.slots.index rest c.slots.left.firm.items c.slots.left.with_comma.items
    c.slots.left.without_comma.items _ inv.1 shut)

pub returns-in_err-is_gone : goal.returns-in_err-is_gone
returns-in_err-is_gone c t g ss h =
    let p = err_from_is_err_and c.from_residual-in_err-is_gone.result c.from_residual-in_err-is_gone.ensures.1
    in
    let inv = c.slots.invariant t g ss h in
    let rest = c.slots.rest.now in
    let ends : c.closer-end.result ≡ closing t = c.closer-end.ensures ∙ ap closing (sym inv.0) in
    let unshut = ap (λ (x : ℕ). eqb (first rest) x) (sym ends) ∙ sym c.begins.ensures ∙ c.if-begins.false in
    let f = slots_front t c.args.text.now
    (place_view c.args.below.now) c.slots.index rest c.slots.left.firm.items c.slots.left.with_comma.items
    c.slots.left.without_comma.items _ inv.1 unshut in
    let stands = subst (λ (b : Bool). StandsAt c.args.text.now rest b f.it f.gap_behind f.behind) inv.0
    f.stands in
    keeps_memory c.from_residual-in_err-is_gone.result c.in_err-is_gone.field-0.0 p.0
    (λ v. v.items ≡ enclosed_left t (place_view c.args.below.now) g ss) p.1 p.2
    (c.in_err-is_gone.ensures {u = tt} f.it f.gap_behind f.behind stands)

pub returns-then-not-begins : goal.returns-then-not-begins
returns-then-not-begins c t g ss h =
    let inv = c.slots.invariant t g ss h in
    let text = c.args.text.now in
    let below = place_view c.args.below.now in
    let rest = c.slots.rest.now in
    let firm = c.slots.left.firm.items in
    let commas = c.slots.left.with_comma.items in
    let gaps = c.slots.left.without_comma.items in
    let ends : c.closer-end.result ≡ closing t = c.closer-end.ensures ∙ ap closing (sym inv.0) in
    let unshut = ap (λ (x : ℕ). eqb (first rest) x) (sym ends) ∙ sym c.begins.ensures ∙ c.if-begins.false in
    let f = slots_front t text below c.slots.index rest firm commas gaps _ inv.1 unshut in
    let stands = subst (λ (b : Bool). StandsAt text rest b f.it f.gap_behind f.behind) inv.0 f.stands in
    let r = c.in_ok-is_gone.ensures {u = tt} f.it f.gap_behind f.behind stands in
    let stop : c.past_gap-stop.result.now ≡ f.behind = c.past_gap-stop.ensures ∙ ap past_gap r.1 ∙
    stop_is text rest t f.it f.gap_behind f.behind f.stands in
    let other = ap (λ (x : List ℕ). eqb (first x) comma) (sym stop) ∙ sym c.begins-in-slots.ensures ∙
    c.if-not-begins.true in
    c.in_ok-end.ensures {u = tt}
    ∙ ap (λ (b : Bool). if b then (firm ++ gaps) ++ c.in_ok-is_gone.after.now else (firm ++ commas) ++ rest)
    r.0
    ∙ ap (λ (x : List ℕ). if is_item_removed below c.slots.index f.it then (firm ++ gaps) ++ x else
    (firm ++ commas) ++ rest) r.1
    ∙ sym (f.last other)

pub slots-preserved : goal.slots-preserved
slots-preserved c t g ss h =
    let inv = c.slots.invariant t g ss h in
    let text = c.args.text.now in
    let below = place_view c.args.below.now in
    let i = c.slots.index in
    let rest = c.slots.rest.now in
    let firm = c.slots.left.firm.items in
    let commas = c.slots.left.with_comma.items in
    let gaps = c.slots.left.without_comma.items in
    let ends : c.closer-end.result ≡ closing t = c.closer-end.ensures ∙ ap closing (sym inv.0) in
    let unshut = ap (λ (x : ℕ). eqb (first rest) x) (sym ends) ∙ sym c.begins.ensures ∙ c.if-begins.false in
    let f = slots_front t text below i rest firm commas gaps _ inv.1 unshut in
    let stands = subst (λ (b : Bool). StandsAt text rest b f.it f.gap_behind f.behind) inv.0 f.stands in
    let r = c.in_ok-is_gone.ensures {u = tt} f.it f.gap_behind f.behind stands in
    let stop : c.past_gap-stop.result.now ≡ f.behind = c.past_gap-stop.ensures ∙ ap past_gap r.1 ∙
    stop_is text rest t f.it f.gap_behind f.behind f.stands in
    let more = ap (λ (x : List ℕ). eqb (first x) comma) (sym stop) ∙ sym c.begins-in-slots.ensures ∙
    c.if-not-begins.false in
    let next = c.past_gap-next.result.now in
    let comes : next ≡ past_gap (drop 1 f.behind) = c.past_gap-next.ensures ∙
    ap past_gap (c.behind_one-in-slots.ensures ∙ ap (drop 1) stop) in
    let taken = c.in_ok-take.ensures {u = tt} in (
      inv.0,
      turned t text below i rest _ c.slots.left c.take.new.self f c.in_ok-is_gone.is_gone
          c.in_ok-is_gone.after.now c.past_gap-stop.result.now next r.0 r.1 stop more comes taken.gone
          taken.preserved,
    )

pub returns : goal.returns
returns c t g ss h =
    let inv = c.slots.invariant t g ss h in
    absurd (slots_over t c.args.text.now (place_view c.args.below.now) c.slots.index c.slots.rest.now
    c.slots.left.firm.items c.slots.left.with_comma.items c.slots.left.without_comma.items _ inv.1
    (omega (arith, c.slots-test.false, ap length c.as_bytes-bytes.ensures.value)))
