use Rattle.std.proofs.Common.{List, inl, inr, ⊎_elim}
use Rattle.std.specs.Prelude.{◌≡◌, ◌⊎◌}
use Rattle.std.proofs.lemmas.Result.{IfErr-weaker, IfOk-weaker}
use Rattle.url.specs.Parts.{Parts}
use Rattle.edit_base.specs.Errors.{IsMemory}
use Rattle.edit_sources.specs.Configured.{given, HasAddress, HasNoUrl}
use Rattle.edit_sources.specs.Definitions.{Defines}
use Rattle.edit_sources.specs.declared.config.Config.{Config}
use Rattle.edit_sources.proofs.AddressLemmas.{one_url}
use Rattle.edit_sources.proofs.DefinitionLemmas.{Refuses}
use Rattle.edit_sources.proofs.registry.resolve.Goals as goal

pub returns-clause-address : goal.returns-clause-address
returns-clause-address c =
    let d = c.in_ok-definitions.definitions in
    IfOk-weaker c.resolve.result (λ url. (configs : List Config) → Defines configs d
    → HasAddress configs (given c.args.registry) url)
    (λ url. HasAddress c.args.configs.now (given c.args.registry) url)
    (λ url has. has c.args.configs.now c.in_ok-definitions.ensures.defines) c.resolve.ensures.address

pub returns-clause-only : goal.returns-clause-only
returns-clause-only c =
    let d = c.in_ok-definitions.definitions in
    IfOk-weaker c.resolve.result (λ url. (configs : List Config) → Defines configs d
    → HasAddress configs (given c.args.registry) url)
    (λ url. (other : Parts) → HasAddress c.args.configs.now (given c.args.registry) other → other ≡ url)
    (λ url has other also. one_url c.args.configs.now (given c.args.registry) other url also
    (has c.args.configs.now c.in_ok-definitions.ensures.defines)) c.resolve.ensures.address

pub returns-clause-error : goal.returns-clause-error
returns-clause-error c =
    let d = c.in_ok-definitions.definitions in
    IfErr-weaker c.resolve.result (λ e. IsMemory e ⊎ Refuses d (given c.args.registry) e)
    (λ e. IsMemory e ⊎ HasNoUrl c.args.configs.now (given c.args.registry) e)
    (λ e refused. ⊎_elim (λ m. inl m)
    (λ r. inr (r c.args.configs.now c.in_ok-definitions.ensures.defines)) refused)
    c.resolve.ensures.error
