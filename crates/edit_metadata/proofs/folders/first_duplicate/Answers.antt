use Rattle.std.proofs.Common.{◌≡◌, ◌≢◌, ℕ, List, ◌∷◌, [], ◌++◌, ◌+◌, ap, cond, false, true, map, not, refl, string_bytes, subst, sym, take, drop, ◌∙◌, rules, Bool}
use Rattle.std.specs.List.{AllPairs}
use Rattle.std.specs.Str.{bytes_eq}
use Rattle.std.proofs.Math.Seq.{take-length}
use Rattle.std.proofs.lemmas.List.{drop_more, map-append, map_more, take-append-drop}
use Rattle.edit_metadata.specs.Metadata.{is_listed}
use Rattle.edit_metadata.proofs.Ids.{apart-more, holds-more, is_listed-more, listed-has}
use Rattle.edit_metadata.proofs.folders.first_duplicate.Goals as goal

new-text : (a b : Bool) → a ≡ not b → a ≡ true → b ≡ false
new-text a true added is = cc (sym added ∙ is)
new-text a false added is = refl

old-text : (a b : Bool) → a ≡ not b → a ≡ false → b ≡ true
old-text a true added is = refl
old-text a false added is = cc (sym added ∙ is)

pub texts-preserved : goal.texts-preserved
texts-preserved c =
    let old = map string_bytes (take c.texts.text-index c.args.texts.now) in
    let text = c.as_str-text.result.now in
    let more : map string_bytes (take (c.texts.text-index + 1) c.args.texts.now) ≡ old ++ text ∷ []
    = map_more string_bytes c.args.texts.now c.texts.text-index c.text-item.result c.texts-test.true
    ∙ ap (λ t. old ++ string_bytes t ∷ []) (sym c.text-item.is)
    ∙ ap (λ t. old ++ t ∷ []) (sym c.as_str-text.ensures.value) in
    let none : is_listed old text ≡ false = sym (c.texts.invariant.1 text)
    ∙ new-text c.in_ok-added.added _ c.in_ok-added.ensures.added c.if-not-added.false in (
      subst (AllPairs (λ (a b : List ℕ). a ≢ b)) (sym more) (apart-more old text c.texts.invariant.0 none),
      λ t. holds-more text c.texts.seen c.insert.new.self c.in_ok-added.ensures.updates t
          ∙ ap (cond (bytes_eq text t) true) (c.texts.invariant.1 t)
          ∙ sym (is_listed-more old text t) ∙ ap (λ xs. is_listed xs t) (sym more),
    )

pub returns-then-not-added : goal.returns-then-not-added
returns-then-not-added c =
    let old = map string_bytes (take c.texts.text-index c.args.texts.now) in
    let text = c.as_str-text.result.now in
    let listed : is_listed old text ≡ true = sym (c.texts.invariant.1 text)
    ∙ old-text c.in_ok-added.added _ c.in_ok-added.ensures.added c.if-not-added.true in
    record {
      before = old;
      after = map string_bytes (drop (c.texts.text-index + 1) c.args.texts.now);
      later = ap (map string_bytes) (sym (take-append-drop c.texts.text-index c.args.texts.now)
          ∙ ap (λ xs. take c.texts.text-index c.args.texts.now ++ xs)
          (drop_more c.args.texts.now c.texts.text-index c.text-item.result c.texts-test.true))
          ∙ map-append string_bytes (take c.texts.text-index c.args.texts.now) _
          ∙ ap (λ t. old ++ string_bytes t ∷ map string_bytes
          (drop (c.texts.text-index + 1) c.args.texts.now)) (sym c.text-item.is)
          ∙ ap (λ t. old ++ t ∷ map string_bytes (drop (c.texts.text-index + 1) c.args.texts.now))
          (sym c.as_str-text.ensures.value);
      earlier = listed-has old text listed;
    }

pub returns : goal.returns
returns c =
    let all : take c.texts.text-index c.args.texts.now ≡ c.args.texts.now = search
    (rules, take-length c.args.texts.now) in
    subst (λ xs. AllPairs (λ (a b : List ℕ). a ≢ b) (map string_bytes xs)) all c.texts.invariant.0
