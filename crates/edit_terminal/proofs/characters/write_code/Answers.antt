use Rattle.std.proofs.Common.{OnOk, ℕ, List, Option, Some, subst}
use Rattle.std.specs.Prelude.{codes}
use Rattle.std.specs.Fmt.{option_append}
use Rattle.std.specs.Io.KnownBytes.{Appends}
use Rattle.std.specs.Option.{IfSome}
use Rattle.edit_terminal.proofs.characters.write_code.Goals as goal

-- the format's text has the digits of the number
pub returns : goal.returns
returns g c =
    subst (λ (d : Option (List ℕ)). OnOk c.write.result (IfSome
    (option_append (Some (codes "\\u{")) (option_append d (Some (codes "}"))))
    (Appends (g.W.Write.contents c.args.to.now) (g.W.Write.contents c.write.new.self))))
    c.in_radix.ensures c.write.ensures.bytes
