-- Models of lists of places.
use Rattle.std.specs.Prelude.{List, map}
use Rattle.std.specs.Global.{Vec}
use Rattle.edit_tree.specs.declared.place.Step.{Step}
use Rattle.edit_tree.specs.Assertions.{Place}
use Rattle.edit_document.specs.Items.{place_view}

-- the models of the places
abbrev pub places_view : List (Vec Step) → List Place
places_view ps = map (λ p. place_view p.items) ps
