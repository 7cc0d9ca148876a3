use Rattle.std.proofs.Common.{◌≡◌, ◌<◌, ℕ, true, List, length, Some, refl, sym, ap, ◌∙◌, arith}
use Rattle.std.specs.Prelude.{slice_get, option_map, nat_lt}
use Rattle.std.proofs.lemmas.Bool.Decides.{nat_tests}
use Rattle.std.proofs.lemmas.Option.{slice_get-map, slice_get_read}
use Rattle.edit_tree.specs.declared.nodes.Member.{Member}
use Rattle.edit_tree.specs.Nodes.{bytes_of, entries_in, names_in}
use Rattle.edit_tree.proofs.nodes.MemberList.name.Goals as goal

pub returns : goal.returns
returns c =
    let text = c.args.text.now in
    let list = c.deref.result.now in
    let member = c.in_ok-member.member.now in
    let index = c.args.index in
    let got = (c.in_ok-member.ensures {u = tt}).lookup in
    let test : true ≡ nat_lt index (length list) = got.0 in
    let inside : index < length list = grind (arith, nat_tests) in
    let there = slice_get_read list (length list) index member refl inside got.1 in
    let entry : slice_get (entries_in text list) index ≡ Some (bytes_of text member.name, member.number) =
    slice_get-map (λ (e : Member). (bytes_of text e.name, e.number)) list index ∙
    ap (option_map (λ (e : Member). (bytes_of text e.name, e.number))) there in
    let name : slice_get (names_in (entries_in text list)) index ≡ Some (bytes_of text member.name) =
    slice_get-map (λ (e : List ℕ × ℕ). e.0) (entries_in text list) index ∙
    ap (option_map (λ (e : List ℕ × ℕ). e.0)) entry in
    ap (λ (b : List ℕ). Some b) c.decoded_str.ensures ∙ sym name ∙
    ap (λ (ms : List Member). slice_get (names_in (entries_in text ms)) index) c.deref.ensures.value
