use Rattle.std.proofs.Common.{◌≡◌, ◌-◌, ◌<◌, [], ◌∷◌, length, Option, Some, None, sym, refl, ap, subst, true≢false, ◌∙◌, arith}
use Rattle.std.specs.Prelude.{IfSome, ⊤}
use Rattle.json.specs.Token.{Token}
use Rattle.json.specs.Json.{parse_map, after_end_array, read_key, items, members, value}
use Rattle.json.proofs.Grammar.{value_is, value-begin_array, value-begin_object}
use Rattle.serde_json.specs.Data.{null, boolean, number, string, array, object, item, no_items}
use Rattle.serde_json.specs.Read.{of_json, of_items, converted}
use Rattle.edit_json.proofs.GrammarLemmas.{converted-array, converted-object, converted_some, item_read, items_over, mapped_twice, none_before}
use Rattle.edit_json.proofs.MemberLoop.{begin, member-more, over}
use Rattle.edit_json.proofs.RefusedLemmas.{all_items, all_members, array_refused, item_refused, member_refused, no_key, no_value, object_refused, other_items, other_members, other_number, too_deep_array, too_deep_object}
use Rattle.edit_json.proofs.ValueLemmas.{plain_number}
use Rattle.edit_json.specs.SmallNumbers.{ReadsNoValue}
use Rattle.edit_json.proofs.skip.+skip_value.Goals as goal

lift : {A : Type 0} {P Q : A → Type 0} (r : Option A) → ((a : A) → P a → Q a) → IfSome r P → IfSome r Q
lift None f x = x
lift (Some a) f x = f a x

pub skip_value-returns-in-Some-String-clause-value : goal.skip_value-returns-in-Some-String-clause-value
skip_value-returns-in-Some-String-clause-value t c =
    let is : c.args.reader.now ≡ Token.string c.in-Some-String._text.now ∷ c.next.new.self = grind arith in
    (string c.in-Some-String._text.now, ap (converted of_json) (ap (value c.args.depth) is ∙ value_is c.args.depth _))

pub skip_value-returns-in-Some-Bool-clause-value : goal.skip_value-returns-in-Some-Bool-clause-value
skip_value-returns-in-Some-Bool-clause-value t c =
    let is : c.args.reader.now ≡ Token.boolean c.in-Some-Bool._b ∷ c.next.new.self = grind arith in
    (boolean c.in-Some-Bool._b, ap (converted of_json) (ap (value c.args.depth) is ∙ value_is c.args.depth _))

pub skip_value-returns-in-Some-Null-clause-value : goal.skip_value-returns-in-Some-Null-clause-value
skip_value-returns-in-Some-Null-clause-value t c =
    let is : c.args.reader.now ≡ Token.null ∷ c.next.new.self = grind arith in
    (null, ap (converted of_json) (ap (value c.args.depth) is ∙ value_is c.args.depth _))

pub skip_value-returns-then-is_small_number-clause-value : goal.skip_value-returns-then-is_small_number-clause-value
skip_value-returns-then-is_small_number-clause-value t c =
    let is : c.args.reader.now ≡ Token.number c.in-Some-Number.text.now ∷ c.next.new.self = grind arith in
    let plain = plain_number c.in-Some-Number.text.now (c.is_small_number.ensures.small c.if-is_small_number.true) in
    (number plain.0, ap (converted of_json) (ap (value c.args.depth) is ∙ value_is c.args.depth _) ∙ rw plain.1)

pub skip_value-returns-else-depth-eq0-clause-value : goal.skip_value-returns-else-depth-eq0-clause-value
skip_value-returns-else-depth-eq0-clause-value t c =
    let opened : c.args.reader.now ≡ Token.begin_array ∷ c.next.new.self = grind arith in
    lift c.skip_items.result (λ _ q. (
      array q.0,
      ap (converted of_json) (ap (value c.args.depth) opened ∙ value-begin_array c.args.depth c.next.new.self (omega arith))
          ∙ converted-array (items (value (c.args.depth - 1)) (length c.next.new.self) c.next.new.self) ∙ ap (parse_map array) q.1,
    )) c.skip_items.ensures.value

pub skip_value-returns-else-depth-eq0-2-clause-value : goal.skip_value-returns-else-depth-eq0-2-clause-value
skip_value-returns-else-depth-eq0-2-clause-value t c =
    let opened : c.args.reader.now ≡ Token.begin_object ∷ c.next.new.self = grind arith in
    lift c.skip_members.result (λ _ q. (
      object q.0,
      ap (converted of_json) (ap (value c.args.depth) opened ∙ value-begin_object c.args.depth c.next.new.self (omega arith))
          ∙ converted-object (members (value (c.args.depth - 1)) (length c.next.new.self) c.next.new.self) ∙ ap (parse_map object) q.1,
    )) c.skip_members.ensures.value

pub skip_items-loop-reader-init : goal.skip_items-loop-reader-init
skip_items-loop-reader-init t c =
    let all = converted of_items (items (value c.args.depth) (length c.args.reader.now) c.args.reader.now) in (
      length c.args.reader.now,
      omega arith,
      (λ a. a),
      none_before all,
      omega arith,
      all_items c.args.depth c.args.reader.now,
    )

pub skip_items-loop-reader-preserved : goal.skip_items-loop-reader-preserved
skip_items-loop-reader-preserved t c =
    let p = value c.args.depth in
    let l = c.loop-reader in
    let n = l.invariant.0 in
    let f = l.invariant.2 in
    let going : (after_end_array l.reader ≡ None) × (c.take_end_array.new.self ≡ l.reader) = grind arith in
    let done = c.in_ok-skip_value.ensures in
    let r = c.skip_value.new.reader in
    let d = done.value.0 in
    let less : length r < length l.reader = rw (← going.1) done.shorter in
    let turn = item_read p n l.reader r d (omega (arith, l.invariant.1)) going.0 (rw (← going.1) done.value.1) in
    let j = converted_some of_json (p l.reader) d r (rw (← going.1) done.value.1) in (
      n - 1,
      omega (arith, l.invariant.1),
      (λ x. f (item d x)),
      l.invariant.3 ∙ ap (parse_map f) turn ∙ mapped_twice f (item d) _,
      omega (arith, l.invariant.4),
      other_items c.args.depth c.args.reader.now l.reader r j.0 l.invariant.5 going.0 j.1,
    )

pub skip_items-returns-clause-value : goal.skip_items-returns-clause-value
skip_items-returns-clause-value t c =
    let p = value c.args.depth in
    let l = c.loop-reader in
    let n = l.invariant.0 in
    let f = l.invariant.2 in
    let r = c.take_end_array.new.self in
    (f no_items, l.invariant.3 ∙ ap (parse_map f) (items_over p n l.reader r l.invariant.1 (grind arith)))

pub skip_members-loop-reader-init : goal.skip_members-loop-reader-init
skip_members-loop-reader-init t c =
    (begin c.args.depth (λ ms. ⊤) c.args.reader.now tt, all_members c.args.depth c.args.reader.now)

pub skip_members-loop-reader-preserved : goal.skip_members-loop-reader-preserved
skip_members-loop-reader-preserved t c =
    let l = c.loop-reader in
    let k = c.in-Some.field-0.now in
    let s = c.next_key.new.self in
    let named : read_key l.reader ≡ Some (Some k, s) = grind arith in
    let done = c.in_ok-skip_value.ensures in
    let j = converted_some of_json (value c.args.depth s) done.value.0 c.skip_value.new.reader done.value.1 in (
      member-more c.args.depth (λ ms. ⊤) c.args.reader.now l.reader s c.skip_value.new.reader k done.value.0
          (λ ms. ⊤) l.invariant.0 named done.value.1 done.shorter (λ ms shows. tt),
      other_members c.args.depth c.args.reader.now l.reader s c.skip_value.new.reader k j.0 l.invariant.1 named j.1,
    )

pub skip_members-returns-clause-value : goal.skip_members-returns-clause-value
skip_members-returns-clause-value t c =
    let l = c.loop-reader in
    let ended : read_key l.reader ≡ Some (None, c.next_key.new.self) = grind arith in
    let all = over c.args.depth (λ ms. ⊤) c.args.reader.now l.reader c.next_key.new.self l.invariant.0 ended in
    (all.0, all.1)

pub skip_items-returns-in_err-skip_value-clause-error : goal.skip_items-returns-in_err-skip_value-clause-error
skip_items-returns-in_err-skip_value-clause-error t c = λ none.
    let l = c.loop-reader in
    let going : (after_end_array l.reader ≡ None) × (c.take_end_array.new.self ≡ l.reader) = grind arith in
    item_refused c.args.depth c.args.reader.now l.reader l.invariant.5 going.0
    (subst (ReadsNoValue c.args.depth) going.1 (c.in_err-skip_value.ensures.error refl))

pub skip_members-returns-in_err-ok-clause-error : goal.skip_members-returns-in_err-ok-clause-error
skip_members-returns-in_err-ok-clause-error t c = λ none.
    let l = c.loop-reader in
    let ended : read_key l.reader ≡ None = grind arith in
    no_key c.args.depth c.args.reader.now l.reader l.invariant.1 ended

pub skip_members-returns-in_err-skip_value-clause-error : goal.skip_members-returns-in_err-skip_value-clause-error
skip_members-returns-in_err-skip_value-clause-error t c = λ none.
    let l = c.loop-reader in
    let k = c.in-Some.field-0.now in
    let s = c.next_key.new.self in
    let named : read_key l.reader ≡ Some (Some k, s) = grind arith in
    member_refused c.args.depth c.args.reader.now l.reader s k l.invariant.1 named
    (c.in_err-skip_value.ensures.error refl)

pub skip_value-returns-then-depth-eq0-clause-error : goal.skip_value-returns-then-depth-eq0-clause-error
skip_value-returns-then-depth-eq0-clause-error t c = λ none.
    let opened : c.args.reader.now ≡ Token.begin_array ∷ c.next.new.self = grind arith in
    too_deep_array c.args.depth c.args.reader.now c.next.new.self (omega (arith, c.if-depth-eq0.true)) opened

pub skip_value-returns-then-depth-eq0-2-clause-error : goal.skip_value-returns-then-depth-eq0-2-clause-error
skip_value-returns-then-depth-eq0-2-clause-error t c = λ none.
    let opened : c.args.reader.now ≡ Token.begin_object ∷ c.next.new.self = grind arith in
    too_deep_object c.args.depth c.args.reader.now c.next.new.self (omega (arith, c.if-depth-eq0-2.true)) opened

pub skip_value-returns-else-is_small_number-clause-error : goal.skip_value-returns-else-is_small_number-clause-error
skip_value-returns-else-is_small_number-clause-error t c = λ none.
    let s = c.in-Some-Number.text.now in
    let is : c.args.reader.now ≡ Token.number s ∷ c.next.new.self = grind arith in
    other_number c.args.depth c.args.reader.now s c.next.new.self is
    (λ small. true≢false (sym (c.is_small_number.ensures.other small) ∙ c.if-is_small_number.false))

pub skip_value-returns-else-depth-eq0-clause-error : goal.skip_value-returns-else-depth-eq0-clause-error
skip_value-returns-else-depth-eq0-clause-error t c = λ none.
    let opened : c.args.reader.now ≡ Token.begin_array ∷ c.next.new.self = grind arith in
    array_refused c.args.depth c.args.reader.now c.next.new.self (omega arith) opened
    (c.skip_items.ensures.error none)

pub skip_value-returns-else-depth-eq0-2-clause-error : goal.skip_value-returns-else-depth-eq0-2-clause-error
skip_value-returns-else-depth-eq0-2-clause-error t c = λ none.
    let opened : c.args.reader.now ≡ Token.begin_object ∷ c.next.new.self = grind arith in
    object_refused c.args.depth c.args.reader.now c.next.new.self (omega arith) opened
    (c.skip_members.ensures.error none)

pub skip_value-returns-in-Some-EndObject-clause-error : goal.skip_value-returns-in-Some-EndObject-clause-error
skip_value-returns-in-Some-EndObject-clause-error t c = λ none.
    let is : c.args.reader.now ≡ Token.end_object ∷ c.next.new.self = grind arith in
    no_value c.args.depth c.args.reader.now (ap (value c.args.depth) is ∙ value_is c.args.depth _)

pub skip_value-returns-in-Some-EndArray-clause-error : goal.skip_value-returns-in-Some-EndArray-clause-error
skip_value-returns-in-Some-EndArray-clause-error t c = λ none.
    let is : c.args.reader.now ≡ Token.end_array ∷ c.next.new.self = grind arith in
    no_value c.args.depth c.args.reader.now (ap (value c.args.depth) is ∙ value_is c.args.depth _)

pub skip_value-returns-in-Some-Key-clause-error : goal.skip_value-returns-in-Some-Key-clause-error
skip_value-returns-in-Some-Key-clause-error t c = λ none.
    let is : c.args.reader.now ≡ Token.key c.in-Some-Key._key.now ∷ c.next.new.self = grind arith in
    no_value c.args.depth c.args.reader.now (ap (value c.args.depth) is ∙ value_is c.args.depth _)

pub skip_value-returns-in-Some-Bad-clause-error : goal.skip_value-returns-in-Some-Bad-clause-error
skip_value-returns-in-Some-Bad-clause-error t c = λ none.
    let is : c.args.reader.now ≡ Token.bad ∷ c.next.new.self = grind arith in
    no_value c.args.depth c.args.reader.now (ap (value c.args.depth) is ∙ value_is c.args.depth _)

pub skip_value-returns-in-None-clause-error : goal.skip_value-returns-in-None-clause-error
skip_value-returns-in-None-clause-error t c = λ none.
    let is : c.args.reader.now ≡ [] = grind arith in
    no_value c.args.depth c.args.reader.now (ap (value c.args.depth) is ∙ value_is c.args.depth [])
