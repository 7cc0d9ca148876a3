use Rattle.std.proofs.Common.{◌≡◌, ◌<◌, length, None, Some, arith, subst}
use Rattle.std.specs.Prelude.{IfSome}
use Rattle.json.specs.Json.{read_key}
use Rattle.serde_json.specs.Data.{Data, Members, object, put}
use Rattle.edit_json.specs.Reads.{ReadsValue}
use Rattle.edit_json.proofs.MemberLoop.{begin, member-more, over}
use Rattle.edit_metadata.specs.Texts.{HasWorkspaceTexts}
use Rattle.edit_metadata.proofs.workspace_texts.read_members.Goals as goal

pub loop-key-init : goal.loop-key-init
loop-key-init c =
    begin 126 (λ ms. HasWorkspaceTexts (object ms) (record { root = None; ids = None; packages = None })) c.args.reader.now
    (record { root = tt; ids = tt; packages = tt })

pub loop-key-preserved : goal.loop-key-preserved
loop-key-preserved c =
    let l = c.loop-key in
    let key = c.in-Ok-Some.key.now in
    let s = c.next_key.new.self in
    let r = c.read_member.new.reader in
    let named : read_key l.reader ≡ Some (Some key, s) = grind arith in
    let found = subst (λ o. IfSome o (λ w. (d : Data) × ReadsValue 126 s d r
    × ((ms : Members) → HasWorkspaceTexts (object ms) l.texts → HasWorkspaceTexts (object (put key d ms)) w)))
    c.in-Some.is c.in_ok-more-in-Ok-Some.ensures.value in
    let less = subst (λ o. IfSome o (λ w. length r < length s)) c.in-Some.is c.in_ok-more-in-Ok-Some.ensures.shorter in
    member-more 126 (λ ms. HasWorkspaceTexts (object ms) l.texts) c.args.reader.now l.reader s r key found.0
    (λ ms. HasWorkspaceTexts (object ms) c.in-Some.more) l.invariant named found.1 less found.2

pub returns-in-Ok-None : goal.returns-in-Ok-None
returns-in-Ok-None c =
    let l = c.loop-key in
    let ended : read_key l.reader ≡ Some (None, c.next_key.new.self) = grind arith in
    record { value = over 126 (λ ms. HasWorkspaceTexts (object ms) l.texts) c.args.reader.now l.reader c.next_key.new.self l.invariant ended }
