use Rattle.std.proofs.Common.{◌≡◌, ◌<◌, ◌≤◌, ℕ, cond, List, [], ◌∷◌, ◌++◌, length, Some, ap, ◌∙◌, inl, inr, arith}
use Rattle.std.specs.Str.{bytes_eq}
use Rattle.std.proofs.lemmas.List.{length-map, map-append}
use Rattle.edit_tree.specs.declared.nodes.Member.{Member}
use Rattle.edit_tree.specs.declared.nodes.MemberList.{MemberList}
use Rattle.edit_tree.specs.Nodes.{bytes_of, number_of, entries_in}
use Rattle.edit_tree.proofs.NameLists.{others_remain}
use Rattle.edit_tree.proofs.nodes.MemberList.insert.Goals as goal
use Rattle.edit_tree.proofs.nodes.MemberList.insert.Goals.{then-len-ge-FEW+in_ok-copy+in_ok-insert, else-len-ge-FEW}

pub returns-clause-indexed : goal.returns-clause-indexed
returns-clause-indexed c listed none =
    let text = c.args.text.now in
    let old = c.args.self.now in
    let list = old.list.items in
    let name = bytes_of text c.args.name in
    let entry : Member → List ℕ × ℕ = λ e. (bytes_of text e.name, e.number) in
    let member : Member = record { name = c.args.name; number = c.args.number } in
    let size = length-map list entry in
    let old_len = old.list.ok.0 in
    let seen_len = c.len.ensures in
    let pushed = λ (same : c.if-len-ge-FEW.self.list.items ≡ list).
    ap (entries_in text) ((c.in_ok-push_exact.ensures {u = tt}).items ∙
    ap (λ (ms : List Member). ms ++ member ∷ []) same) ∙ map-append entry list (member ∷ []) in
    elim c.if-len-ge-FEW.branch [
      | then-len-ge-FEW+in_ok-copy+in_ok-insert w ↦
          let test = w.if-len-ge-FEW.true in
          let many : 8 ≤ length (entries_in text list) = omega arith in
          let copied = (w.in_ok-copy.ensures {u = tt}).ok ∙ w.decoded_str.ensures in
          others_remain (entries_in text list)
          (entries_in text c.push_exact.new.list.items) old.others c.if-len-ge-FEW.self.others name
          c.args.number (pushed (ap (λ (m : MemberList). m.list.items) w.self-is)) listed none
          (inl (
            many,
            λ other. ap (λ (m : MemberList). number_of m.others other) w.self-is ∙
                (w.in_ok-insert.ensures {u = tt}).added other ∙
                ap (λ (k : List ℕ). cond (bytes_eq k other) (Some c.args.number) (number_of old.others other))
                copied,
          ))
      | else-len-ge-FEW w ↦
          let test = w.if-len-ge-FEW.false in
          let few : length (entries_in text list) < 8 = omega arith in
          others_remain (entries_in text list)
          (entries_in text c.push_exact.new.list.items) old.others c.if-len-ge-FEW.self.others name
          c.args.number (pushed (ap (λ (m : MemberList). m.list.items) w.self-is)) listed none
          (inr (few, ap (λ (m : MemberList). m.others) w.self-is))
    ]
