use Rattle.std.proofs.Common.{◌≡◌, ◌∙◌, ◌<◌, List, Some, ap, length, subst, sym}
use Rattle.std.specs.Global.{Vec}
use Rattle.std.specs.Prelude.{slice_get}
use Rattle.std.proofs.lemmas.Option.{slice_get-get_or}
use Rattle.edit_sources.specs.declared.config.Config.{Config}
use Rattle.edit_sources.specs.Configured.{paths_of}
use Rattle.edit_steps.proofs.upgrade_read.shared.SharedConfigs.has_at.Goals as goal

pub returns-in-Some : goal.returns-in-Some
returns-in-Some c = λ same.
    let own = c.in-Some.list.now in
    let lists = c.deref.result.now in
    let low : c.args.index < length lists = c.in-Some.ensures.lookup.3.0 in
    let at : slice_get c.args.self.now.lists.items c.args.index ≡ Some own
    = subst (λ (all : List (Vec Config)). slice_get all c.args.index ≡ Some own) c.deref.ensures.value
    (slice_get-get_or lists c.args.index own low ∙ ap Some (sym c.in-Some.ensures.lookup.1)) in
    (own, at, ap paths_of (sym c.deref-in-Some.ensures.value) ∙ c.has_paths.ensures same)
