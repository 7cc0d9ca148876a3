use Rattle.std.proofs.Common.{◌≡◌, ◌<◌, ◌∷◌, length, None, Some, arith, sym, subst}
use Rattle.json.specs.Token.{Token}
use Rattle.json.specs.Json.{after_end_array}
use Rattle.serde_json.specs.Data.{array}
use Rattle.edit_json.specs.Reads.{ReadsValue}
use Rattle.edit_json.proofs.GrammarLemmas.{read-array}
use Rattle.edit_metadata.specs.Texts.{HasPackageTexts}
use Rattle.edit_metadata.proofs.ElementLoop.{HasRead, begin, element-more, over}
use Rattle.edit_metadata.proofs.package_texts.read_packages.Goals as goal

pub loop-reader-init : goal.loop-reader-init
loop-reader-init c =
    subst (λ ys. HasRead 125 HasPackageTexts c.next.new.self c.next.new.self ys) (sym c.new-packages.ensures.items)
    (begin 125 HasPackageTexts c.next.new.self)

pub loop-reader-preserved : goal.loop-reader-preserved
loop-reader-preserved c =
    let l = c.loop-reader in
    let going : (after_end_array l.reader ≡ None) × (c.take_end_array.new.self ≡ l.reader) = grind arith in
    let done = c.in-Some.ensures in
    let reads = subst (λ r. ReadsValue 125 r done.value.0 c.read_package.new.reader) going.1 done.value.1 in
    let less : length c.read_package.new.reader < length l.reader = rw (← going.1) done.shorter in
    subst (λ ys. HasRead 125 HasPackageTexts c.next.new.self c.read_package.new.reader ys) (sym c.in_ok-push.ensures.items)
    (element-more 125 HasPackageTexts c.next.new.self l.reader c.read_package.new.reader l.packages.items done.value.0
    c.in-Some.texts l.invariant going.0 reads less done.value.2)

pub returns-clause-value : goal.returns-clause-value
returns-clause-value c =
    let l = c.loop-reader in
    let r = c.take_end_array.new.self in
    let opened : c.args.reader.now ≡ Token.begin_array ∷ c.next.new.self = grind arith in
    let ended : after_end_array l.reader ≡ Some r = grind arith in
    let all = over 125 HasPackageTexts c.next.new.self l.reader r l.packages.items l.invariant ended in
    (all.0, read-array 126 c.args.reader.now c.next.new.self r all.0 (omega arith) opened all.1, all.2)
