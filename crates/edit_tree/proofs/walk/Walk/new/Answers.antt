use Rattle.std.proofs.Common.{List, [], map, ◌∷◌, ◌++◌, ◌∙◌, None, refl, sym, ap, subst}
use Rattle.edit_tree.specs.declared.nodes.Content.TheVariants as content
use Rattle.edit_tree.specs.declared.nodes.Node.{Node}
use Rattle.edit_tree.specs.declared.nodes.DefinedBy.TheVariants as taken
use Rattle.edit_tree.specs.Nodes.{RepresentsNodes, bytes_of, section}
use Rattle.edit_tree.specs.Walk.{model_node_at, start}
use Rattle.edit_tree.proofs.ModelNodes.{holds_push}
use Rattle.edit_tree.proofs.walk.Walk.new.Goals as goal

-- src/walk.rt:31:5
pub returns : goal.returns
returns c =
    let root : Node = record {
      content = content.Table;
      taken = taken.Header;
      steps = 0;
      span = None;
      members = c.none.result;
    } in
    let items = (c.in_ok-push.ensures {u = tt}).items
    ∙ ap (λ (nodes : List Node). nodes ++ root ∷ []) (c.in_ok-nodes.ensures {u = tt}).items in
    record {
      root = λ text. record {
        holds = subst (λ (nodes : List Node). RepresentsNodes text nodes start.models) (sym items)
            (holds_push [] [] root (model_node_at [] section taken.Header None)
            (record { len = refl; each = λ n node model is absurd_is. absurd cc }) record {
              shape = refl;
              taken = refl;
              steps = refl;
              members = c.none.ensures.empty text;
              indexed = c.none.ensures.indexed text;
              elements = c.none.ensures.elements;
              span = refl;
            });
        tables = (c.in_ok-push-2.ensures {u = tt}).items
            ∙ ap (λ tables. tables ++ 0 ∷ []) c.new-tables.ensures.items;
        fronts = ap (λ fronts. map (bytes_of text) fronts) c.new.ensures.items;
        name = refl;
      };
    }
