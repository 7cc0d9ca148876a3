use Rattle.std.proofs.Common.{◌≡◌, ◌++◌, Some}
use Rattle.edit_syntax.specs.Grammar.{Line}
use Rattle.edit_syntax.specs.Reading.{line_at}
use Rattle.edit_syntax.specs.SyntaxTokens.{tokens_of_line}
use Rattle.edit_syntax.proofs.FirstLines.{first_is, first_some}
use Rattle.edit_syntax.proofs.read.line_by_line.first_line.Goals as goal

pub returns-in-Ok : goal.returns-in-Ok
returns-in-Ok c =
    let p : (x : Line) × (line_at 80 c.args.text.now ≡ Some (x, c.in-Ok.rest.now))
    × (c.line.new.out.items ≡ c.args.out.now.items ++ tokens_of_line x c.in-Ok.rest.now) = c.in-Ok.ensures in
    record {
      only = λ form same valid depth. first_is c.args.text.now c.in-Ok.rest.now p.0
          c.args.out.now.items c.line.new.out.items form p.1 p.2 same valid depth;
    }

pub returns-in-Err-NotToml : goal.returns-in-Err-NotToml
returns-in-Err-NotToml c =
    record {
      only = λ form same valid depth. absurd
          (first_some c.args.text.now form (c.in-Err-NotToml.ensures (λ e. cc)) same valid depth);
    }
