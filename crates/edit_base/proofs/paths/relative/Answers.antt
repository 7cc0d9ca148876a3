use Rattle.std.proofs.Common.{◌≡◌, ℕ, ◌-◌, List, ◌++◌, length, take, drop, ap, sym, ◌∙◌, subst, rules, Bor}
use Rattle.std.specs.Prelude.{string_bytes}
use Rattle.std.proofs.lemmas.List.{map-append, take_rest, take-append-drop, length-map, length-drop}
use Rattle.edit_base.specs.Paths.{texts, Named, parts_of, relative_text}
use Rattle.edit_base.proofs.paths.relative.Goals as goal

-- a list of names is its front and the rest
cut : (count : ℕ) (xs : List (Bor (List ℕ))) → texts xs ≡ texts (take count xs) ++ texts (drop count xs)
cut count xs = ap texts (sym (take-append-drop count xs))
    ∙ map-append (λ (x : Bor (List ℕ)). x.now) (take count xs) (drop count xs)

pub returns-clause-text : goal.returns-clause-text
returns-clause-text c =
    let to : List (Bor (List ℕ)) = c.in_ok-to_names.to_names.items in
    let from : List (Bor (List ℕ)) = c.in_ok-from_names.from_names.items in
    let n : ℕ = c.common_count-count.result in
    let to_named : Named (parts_of c.args.to.now) (texts to) = search rules in
    let from_named : Named (parts_of c.args.from.now) (texts from) = search rules in
    let same : texts (take n to) ≡ texts (take n from) = search rules in
    let length_up : length (texts (drop n from)) ≡ length from - n =
    length-map (drop n from) (λ (x : Bor (List ℕ)). x.now) ∙ length-drop n from in
    let all : List (Bor (List ℕ)) = c.deref-5.result.now in
    let whole : all ≡ to = c.deref-5.ensures.value in
    let rest = take_rest all n in
    let counted : c.len.result ≡ length from = search rules in
    let said : string_bytes c.in_ok-text.text ≡ relative_text (length from - n) (texts (drop n to)) =
    c.in_ok-text.ensures ∙ cc in
    record {
      common = texts (take n to);
      down = texts (drop n to);
      up = texts (drop n from);
      reads_to = subst (λ t. Named (parts_of c.args.to.now) t) (cut n to) to_named;
      reads_from = subst (λ t. Named (parts_of c.args.from.now) t) (cut n from
          ∙ ap (λ t. t ++ texts (drop n from)) (sym same)) from_named;
      longest = search rules;
      writes = said ∙ ap (λ k. relative_text k (texts (drop n to))) (sym length_up);
    }
