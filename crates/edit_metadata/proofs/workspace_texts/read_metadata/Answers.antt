use Rattle.std.proofs.Common.{◌≡◌, [], ◌∷◌, Some, ap, ◌∙◌, arith, subst}
use Rattle.std.specs.Prelude.{IfSome}
use Rattle.json.specs.Token.{Token}
use Rattle.json.specs.Lex.{tokens}
use Rattle.json.specs.Json.{value}
use Rattle.serde_json.specs.Data.{Members, object}
use Rattle.edit_json.specs.Reads.{ReadsMembers}
use Rattle.edit_json.proofs.GrammarLemmas.{read-object, whole_read}
use Rattle.edit_metadata.specs.Texts.{HasWorkspaceTexts}
use Rattle.edit_metadata.proofs.workspace_texts.read_metadata.Goals as goal

pub returns-in-None : goal.returns-in-None
returns-in-None c =
    let r = c.next.new.self in
    let end = c.read_members.new.reader in
    let found = subst (λ o. IfSome o (λ w. (ms : Members) × ReadsMembers 126 r ms end × HasWorkspaceTexts (object ms) w))
    c.in-Some.is c.in_ok-texts.ensures.value in
    let ts = tokens c.args.text.now in
    let opened : ts ≡ Token.begin_object ∷ r = grind arith in
    let ended : end ≡ [] = grind arith in
    record {
      value = (
        found.0,
        whole_read (value 127 ts) (object found.0)
            (read-object 127 ts r end found.0 (omega arith) opened found.1 ∙ ap (λ s. Some (object found.0, s)) ended),
        found.2,
      );
    }
