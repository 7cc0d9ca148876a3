use Rattle.std.proofs.Common.{◌∙◌, ◌&&◌, Bool, ap, ap₂, codes, sym}
use Rattle.edit_program.proofs.ArgsLemmas.{is_there}
use Rattle.edit_program.proofs.upgrade_parser.has_two_indexes.Goals as goal

pub returns-then-file : goal.returns-then-file
returns-then-file c =
    let file = c.is_some-file.ensures
    ∙ is_there c.args.matches.now (codes "index-file") c.get_str.result c.get_str.ensures in
    let folder = c.is_some-folder.ensures
    ∙ is_there c.args.matches.now (codes "index-dir") c.get_str-2.result c.get_str-2.ensures in
    sym (ap (λ (a : Bool). a && c.is_some-folder.result) c.if-file.true)
    ∙ ap₂ (λ (a b : Bool). a && b) file folder

pub returns-else-file : goal.returns-else-file
returns-else-file c =
    let file = c.is_some-file.ensures
    ∙ is_there c.args.matches.now (codes "index-file") c.get_str.result c.get_str.ensures in
    let folder = c.is_some-folder.ensures
    ∙ is_there c.args.matches.now (codes "index-dir") c.get_str-2.result c.get_str-2.ensures in
    c.if-file.false ∙ sym (ap (λ (a : Bool). a && c.is_some-folder.result) c.if-file.false)
    ∙ ap₂ (λ (a b : Bool). a && b) file folder
