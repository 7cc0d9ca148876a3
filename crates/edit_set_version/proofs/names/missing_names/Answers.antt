use Rattle.std.proofs.Common.{◌≡◌, ◌+◌, List, ℕ, [], ◌∷◌, ◌++◌, true, cond, ap, sym, map, take, string_bytes, rules, ◌∙◌}
use Rattle.std.specs.Prelude.{◌||◌}
use Rattle.std.specs.BTreeSet.{contains_text}
use Rattle.std.specs.Str.{bytes_eq}
use Rattle.std.proofs.Math.Seq.{take-length}
use Rattle.std.proofs.lemmas.List.{map_more}
use Rattle.edit_set_version.specs.Chosen.{is_among}
use Rattle.edit_set_version.specs.Missing.{names_not_among}
use Rattle.edit_set_version.proofs.NameLemmas.{absent_more, among_more, or_false, or_later}
use Rattle.edit_set_version.proofs.names.missing_names.Goals as goal

pub names-init : goal.names-init
names-init c = λ there are. (
  λ q. are q ∙ sym (or_false (is_among there q)),
  ap (map string_bytes) c.new-missing.ensures.items,
)

pub names-preserved : goal.names-preserved
names-preserved c = λ there are.
    let i = c.names.name-index in
    let old = map string_bytes (take i c.args.names.now) in
    let own = c.as_str.result.now in
    let was = c.names.invariant there are in
    let more : map string_bytes (take (i + 1) c.args.names.now) ≡ old ++ own ∷ []
    = map_more string_bytes c.args.names.now i c.name-item.result c.names-test.true
    ∙ ap (λ t. old ++ string_bytes t ∷ []) (sym c.name-item.is)
    ∙ ap (λ t. old ++ t ∷ []) (sym c.as_str.ensures.value) in (
      λ q. c.in_ok-push_missing.ensures.known q
          ∙ ap (cond (bytes_eq own q) true) (was.0 q)
          ∙ or_later (is_among there q) (is_among old q) (bytes_eq own q)
          ∙ ap (λ b. is_among there q || b) (sym (among_more old own q))
          ∙ ap (λ (xs : List (List ℕ)). is_among there q || is_among xs q) (sym more),
      c.in_ok-push_missing.ensures.missing
          ∙ ap (λ (ms : List (List ℕ)). ms ++ cond (contains_text c.names.known own) [] (own ∷ [])) was.1
          ∙ ap (λ b. names_not_among there old ++ cond b [] (own ∷ [])) (was.0 own)
          ∙ sym (absent_more there old own)
          ∙ ap (names_not_among there) (sym more),
    )

pub returns : goal.returns
returns c = record {
  ok = λ there are.
      let all : take c.names.name-index c.args.names.now ≡ c.args.names.now
      = search (rules, take-length c.args.names.now) in
      (c.names.invariant there are).1 ∙ ap (λ xs. names_not_among there (map string_bytes xs)) all;
}
