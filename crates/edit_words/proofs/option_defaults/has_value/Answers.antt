use Rattle.std.proofs.Common.{Bor, List, Option, ℕ, ◌∙◌, ap, false, map, sym}
use Rattle.std.specs.Prelude.{option_map}
use Rattle.std.specs.Option.{option_map_or}
use Rattle.std.specs.Str.{bytes_eq}
use Rattle.clap.proofs.WalkLemmas.{list_any-map}
use Rattle.edit_words.specs.Filled.{is_one}
use Rattle.edit_words.proofs.option_defaults.has_value.Goals as goal

pub returns-in-Some : goal.returns-in-Some
returns-in-Some c = c.is_one.ensures
    ∙ list_any-map (bytes_eq c.in-Some.next.now.now) (λ (v : Bor (List ℕ)). v.now) c.args.values.now
    ∙ ap (λ (o : Option (Bor (Bor (List ℕ)))).
    option_map_or (is_one (map (λ (v : Bor (List ℕ)). v.now) c.args.values.now))
    (option_map (λ (w : Bor (Bor (List ℕ))). w.now.now) o) false) (sym c.in-Some.is)
