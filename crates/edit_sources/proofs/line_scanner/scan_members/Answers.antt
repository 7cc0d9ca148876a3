use Rattle.std.proofs.Common.{◌≡◌, false, None, Some, refl, arith}
use Rattle.json.specs.Json.{read_key}
use Rattle.edit_json.proofs.MemberLoop.{begin, member-more, over}
use Rattle.edit_sources.specs.LineFields.{HasFields}
use Rattle.edit_sources.proofs.line_scanner.scan_members.Goals as goal

pub loop-key-init : goal.loop-key-init
loop-key-init c =
    begin 126 (λ ms. HasFields (record { name = None; version = None; yanked = false; rust_version = None; published = None }) ms) c.args.scanner.now
    (record { name = refl; version = refl; yanked = refl; rust_version = refl; published = refl })

pub loop-key-preserved : goal.loop-key-preserved
loop-key-preserved c =
    let l = c.loop-key in
    let named : read_key l.scanner ≡ Some (Some c.in-Some.key.now, c.next_key.new.self) = grind arith in
    let done = c.in_ok-fields.ensures in
    member-more 126 (λ ms. HasFields l.fields ms) c.args.scanner.now l.scanner c.next_key.new.self c.scan_member.new.scanner
    c.in-Some.key.now done.value.0 (λ ms. HasFields c.in_ok-fields.fields ms) l.invariant named done.value.1 done.shorter done.value.2

pub returns : goal.returns
returns c =
    let l = c.loop-key in
    let ended : read_key l.scanner ≡ Some (None, c.next_key.new.self) = grind arith in
    record { value = over 126 (λ ms. HasFields l.fields ms) c.args.scanner.now l.scanner c.next_key.new.self l.invariant ended }
