use Rattle.std.proofs.Common.{◌≡◌, List, ℕ, [], ◌∷◌, ◌++◌, ◌+◌, Bool, true, false, not, map, take, string_bytes, ap, sym, refl, ◌∙◌, rules}
use Rattle.std.proofs.Math.Seq.{take-length}
use Rattle.std.proofs.lemmas.List.{map-append, map_more}
use Rattle.edit_record.specs.RecordViews.{texts_view}
use Rattle.edit_update.proofs.EachOnce.{holds_joined, is_old, join_all, join_more, joined_all, joins}
use Rattle.edit_update.proofs.joined_features.remove_duplicates.Goals as goal
use Rattle.edit_update.proofs.joined_features.remove_duplicates.Goals.{then-added+in_ok-clone+in_ok-push, else-added}

new-text : (a b : Bool) → a ≡ not b → a ≡ true → b ≡ false
new-text a true added is = cc (sym added ∙ is)
new-text a false added is = refl

old-text : (a b : Bool) → a ≡ not b → a ≡ false → b ≡ true
old-text a true added is = refl
old-text a false added is = cc (sym added ∙ is)

-- a text that is new is appended, a duplicate is not
joined-new : (done : List (List ℕ)) (text : List ℕ) → is_old done text ≡ false
    → joins done text ≡ done ++ text ∷ []
joined-new done text new = rw new refl

joined-old : (done : List (List ℕ)) (text : List ℕ) → is_old done text ≡ true → joins done text ≡ done
joined-old done text old = rw old refl

-- the texts that are taken after one iteration
joined_once : (c : goal.Joined-added) → texts_view c.if-added.once ≡ joins (texts_view c.texts.once)
    c.as_str.result.now
joined_once c =
    let done = texts_view c.texts.once in
    let text = c.as_str.result.now in
    elim c.if-added.branch [
      | then-added+in_ok-clone+in_ok-push w ↦
          let same : string_bytes w.in_ok-clone.field-0 ≡ text = search rules in
          let new : is_old done text ≡ false = sym (c.texts.invariant.1 text)
          ∙ new-text c.in_ok-added.added _ c.in_ok-added.ensures.added w.if-added.true in
          ap texts_view w.once-is ∙ ap (map string_bytes) w.in_ok-push.ensures.items
          ∙ map-append string_bytes c.texts.once.items (w.in_ok-clone.field-0 ∷ [])
          ∙ ap (λ t. done ++ t ∷ []) same ∙ sym (joined-new done text new)
      | else-added w ↦
          let old : is_old done text ≡ true = sym (c.texts.invariant.1 text)
          ∙ old-text c.in_ok-added.added _ c.in_ok-added.ensures.added w.if-added.false in
          ap texts_view w.once-is ∙ sym (joined-old done text old)
    ]

pub texts-preserved : goal.texts-preserved
texts-preserved c =
    let old = map string_bytes (take c.texts.text-index c.args.texts.now) in
    let text = c.as_str.result.now in
    let more : map string_bytes (take (c.texts.text-index + 1) c.args.texts.now) ≡ old ++ text ∷ []
    = map_more string_bytes c.args.texts.now c.texts.text-index c.text-item.result c.texts-test.true
    ∙ ap (λ t. old ++ string_bytes t ∷ []) (sym c.text-item.is)
    ∙ ap (λ t. old ++ t ∷ []) (sym c.as_str.ensures.value) in (
      joined_once c ∙ ap (λ d. joins d text) c.texts.invariant.0 ∙ sym (join_more [] old text)
          ∙ ap (join_all []) (sym more),
      λ u. holds_joined text c.texts.seen c.insert.new.self (texts_view c.texts.once)
          c.in_ok-added.ensures.updates c.texts.invariant.1 u
          ∙ ap (λ d. is_old d u) (sym (joined_once c)),
    )

pub returns : goal.returns
returns c =
    let all : take c.texts.text-index c.args.texts.now ≡ c.args.texts.now = search
    (rules, take-length c.args.texts.now) in
    c.texts.invariant.0 ∙ ap (λ xs. join_all [] (map string_bytes xs)) all
    ∙ joined_all (map string_bytes c.args.texts.now)
