use Rattle.std.proofs.Common.{◌≡◌, List, None, Ok, sym, subst, inl, inr, ⊎_elim}
use Rattle.std.specs.Prelude.{◌⊎◌}
use Rattle.std.proofs.lemmas.Result.{IfErr-weaker, IfOk-weaker}
use Rattle.url.specs.Parser.{parse_url}
use Rattle.edit_base.specs.Errors.{IsMemory}
use Rattle.edit_sources.specs.Configured.{given, HasAddress, HasNoUrl, IsNoUrl}
use Rattle.edit_sources.specs.Configured.HasNoUrl.{no_url}
use Rattle.edit_sources.specs.Definitions.{Defines}
use Rattle.edit_sources.specs.declared.config.Config.{Config}
use Rattle.edit_sources.proofs.DefinitionLemmas.{Refuses}
use Rattle.edit_sources.proofs.registry.definitions.Definitions.resolve.Goals as goal

pub returns-clause-address : goal.returns-clause-address
returns-clause-address c =
    let text = c.in_ok-address.address.now in
    IfOk-weaker c.url_of.result (λ url. parse_url None text ≡ Ok url)
    (λ url. (configs : List Config) → Defines configs c.args.self.now
    → HasAddress configs (given c.args.registry) url)
    (λ url reads configs defines.
    record { text = text; address = c.in_ok-address.ensures.address configs defines; reads = reads })
    c.url_of.ensures.reads

pub returns-clause-error : goal.returns-clause-error
returns-clause-error c =
    let text = c.in_ok-address.address.now in
    let registry = given c.args.registry in
    IfErr-weaker c.url_of.result (λ e. IsMemory e ⊎ IsNoUrl text e)
    (λ e. IsMemory e ⊎ Refuses c.args.self.now registry e)
    (λ e refused. ⊎_elim (λ m. inl m)
    (λ n. inr (λ configs defines. subst (HasNoUrl configs registry) (sym n.is)
    (no_url text n.fault (c.in_ok-address.ensures.address configs defines) n.reads))) refused)
    c.url_of.ensures.error
