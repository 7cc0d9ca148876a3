use Rattle.std.proofs.Common.{List, Option, subst, sym}
use Rattle.std.specs.Prelude.{IfSome}
use Rattle.std.proofs.lemmas.Result.{IfOk-weaker}
use Rattle.edit_sources.specs.Definitions.{Defines}
use Rattle.edit_sources.specs.declared.config.Config.{Config}
use Rattle.edit_sources.specs.declared.registry.definitions.Definitions.{Definitions}
use Rattle.edit_upgrade.proofs.addresses.Addresses.take_definitions.Goals as goal

pub returns-in-Some-clause-defines : goal.returns-in-Some-clause-defines
returns-in-Some-clause-defines c = λ configs are.
    subst (λ (o : Option Definitions). IfSome o (Defines configs)) (sym c.in-Some.ensures.value) are.defines

pub returns-in-None-clause-defines : goal.returns-in-None-clause-defines
returns-in-None-clause-defines c =
    IfOk-weaker c.read.result _ _
    (λ d defines configs are. subst (λ (cs : List Config). Defines cs d) are.own defines)
    c.read.ensures.defines
