use Rattle.std.proofs.Common.{◌≡◌, ◌<◌, ◌∷◌, length, None, Some, refl, arith}
use Rattle.json.specs.Token.{Token}
use Rattle.json.specs.Json.{read_key}
use Rattle.serde_json.specs.Data.{object}
use Rattle.edit_json.proofs.GrammarLemmas.{read-object}
use Rattle.edit_json.proofs.MemberLoop.{begin, member-more, over}
use Rattle.edit_metadata.specs.Texts.{HasPackageTexts}
use Rattle.edit_metadata.proofs.package_texts.read_package.Goals as goal

pub loop-key-init : goal.loop-key-init
loop-key-init c =
    begin 124 (λ ms. HasPackageTexts (object ms) (record { name = None; id = None; manifest_path = None; version = None; source = None; rust_version = None })) c.next.new.self
    (record { name = refl; id = refl; manifest_path = refl; version = refl; source = refl; rust_version = refl })

pub loop-key-preserved : goal.loop-key-preserved
loop-key-preserved c =
    let l = c.loop-key in
    let named : read_key l.reader ≡ Some (Some c.in-Some.key.now, c.next_key.new.self) = grind arith in
    let done = c.in_ok-texts.ensures in
    member-more 124 (λ ms. HasPackageTexts (object ms) l.texts) c.next.new.self l.reader c.next_key.new.self
    c.read_member.new.reader c.in-Some.key.now done.value.0 (λ ms. HasPackageTexts (object ms) c.in_ok-texts.texts)
    l.invariant named done.value.1 done.shorter done.value.2

pub returns-clause-value : goal.returns-clause-value
returns-clause-value c =
    let l = c.loop-key in
    let opened : c.args.reader.now ≡ Token.begin_object ∷ c.next.new.self = grind arith in
    let ended : read_key l.reader ≡ Some (None, c.next_key.new.self) = grind arith in
    let all = over 124 (λ ms. HasPackageTexts (object ms) l.texts) c.next.new.self l.reader c.next_key.new.self l.invariant ended in
    (object all.0, read-object 125 c.args.reader.now c.next.new.self c.next_key.new.self all.0 (omega arith) opened all.1, all.2)
