use Rattle.std.proofs.Common.{◌≡◌, ◌<◌, ◌∷◌, ◌∙◌, length, map, None, Some, ap, arith, refl, sym, subst}
use Rattle.std.proofs.lemmas.List.{map_push}
use Rattle.json.specs.Token.{Token}
use Rattle.json.specs.Json.{after_end_array}
use Rattle.serde_json.specs.Data.{array, string}
use Rattle.edit_json.specs.Reads.{ReadsValue}
use Rattle.edit_json.proofs.GrammarLemmas.{read-array}
use Rattle.edit_metadata.specs.Metadata.{IsText}
use Rattle.edit_metadata.proofs.ElementLoop.{HasRead, begin, element-more, over}
use Rattle.edit_metadata.proofs.package_texts.read_texts.Goals as goal

pub loop-reader-init : goal.loop-reader-init
loop-reader-init c =
    subst (λ ys. HasRead 125 IsText c.next.new.self c.next.new.self (map (λ s. s.now) ys)) (sym c.new-texts.ensures.items)
    (begin 125 IsText c.next.new.self)

pub loop-reader-preserved : goal.loop-reader-preserved
loop-reader-preserved c =
    let l = c.loop-reader in
    let going : (after_end_array l.reader ≡ None) × (c.take_end_array.new.self ≡ l.reader) = grind arith in
    let done = c.in-Some.ensures in
    let text = c.in-Some.text in
    let reads = subst (λ r. ReadsValue 125 r (string text.now) c.read_text.new.reader) going.1 (done.value 125) in
    let less : length c.read_text.new.reader < length l.reader = rw (← going.1) done.shorter in
    let pushed = ap (map (λ s. s.now)) c.in_ok-push.ensures.items ∙ map_push (λ s. s.now) l.texts.items text in
    subst (λ ys. HasRead 125 IsText c.next.new.self c.read_text.new.reader ys) (sym pushed)
    (element-more 125 IsText c.next.new.self l.reader c.read_text.new.reader (map (λ s. s.now) l.texts.items)
    (string text.now) text.now l.invariant going.0 reads less refl)

pub returns-clause-value : goal.returns-clause-value
returns-clause-value c =
    let l = c.loop-reader in
    let r = c.take_end_array.new.self in
    let opened : c.args.reader.now ≡ Token.begin_array ∷ c.next.new.self = grind arith in
    let ended : after_end_array l.reader ≡ Some r = grind arith in
    let all = over 125 IsText c.next.new.self l.reader r (map (λ s. s.now) l.texts.items) l.invariant ended in
    (all.0, read-array 126 c.args.reader.now c.next.new.self r all.0 (omega arith) opened all.1, all.2)
