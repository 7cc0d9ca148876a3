-- The part of a key that names a place, by following the key and by its tokens.
use Rattle.std.proofs.Common.{◌≡◌, ℕ, Bool, true, false, ◌&&◌, cond, List, [], ◌∷◌, length, Option, Some, None, option_map, refl, sym, ap, ◌∙◌, true≢false}
use Rattle.std.specs.Prelude.{unwrap_or}
use Rattle.std.proofs.lemmas.Bool.{and_parts, and_from}
use Rattle.edit_syntax.specs.declared.read.syntax_tokens.SyntaxToken.{SyntaxToken}
use Rattle.edit_syntax.proofs.Cases.{by_test}
use Rattle.edit_rewrite.specs.declared.path_matching.PathMatch.{PathMatch}
use Rattle.edit_tree.specs.Assertions.{Place, Step, key, at, same_step, same_place}
use Rattle.edit_tree.specs.EditBytes.{unresolved, is_within, first_of}
use Rattle.edit_rewrite.specs.Entries.{is_at, begins_part, AreParts, key_target, FollowsKey}
use Rattle.edit_rewrite.specs.PairOffsets.{key_end, part_offset}
use Rattle.edit_tree.specs.Statements.{Named, front_parts, behind_part}
use Rattle.edit_tree.proofs.SamePlace.{same_step_is, same_step_self}
use Rattle.edit_rewrite.proofs.Ways.{same_is}

-- ---- one part before the last, or the last one

-- the text behind the last of some parts
abbrev pub last_part : Named → List Named → List ℕ
last_part n [] = n.1
last_part n (m ∷ ns) = last_part m ns

pub part_or : (place table : Place) (n : Named) (ns : List Named)
    → behind_part unresolved place table (n ∷ ns)
    ≡ first_of (behind_part unresolved place table (front_parts (n ∷ ns))
    ∷ cond (same_place (key_target unresolved table (n ∷ ns)) place) (Some (last_part n ns)) None ∷ [])
part_or place table n [] = only (cond (same_place (at table (key n.0)) place) (Some n.1) None)
  where
    only : (o : Option (List ℕ)) → o ≡ first_of (None ∷ o ∷ [])
    only None = refl
    only (Some x) = refl
part_or place table n (m ∷ ns) =
    go (same_place (at table (key n.0)) place) (part_or place (at table (key n.0)) m ns)
  where
    here : Place
    here = at table (key n.0)

    go : (b : Bool)
        → behind_part unresolved place here (m ∷ ns)
        ≡ first_of (behind_part unresolved place here (front_parts (m ∷ ns))
        ∷ cond (same_place (key_target unresolved here (m ∷ ns)) place) (Some (last_part m ns)) None ∷ [])
        → cond b (Some n.1) (behind_part unresolved place here (m ∷ ns))
        ≡ first_of (cond b (Some n.1) (behind_part unresolved place here (front_parts (m ∷ ns)))
        ∷ cond (same_place (key_target unresolved here (m ∷ ns)) place) (Some (last_part m ns)) None ∷ [])
    go true ih = refl
    go false ih = ih

-- ---- tokens

none_more : (e : ℕ) (ms : List SyntaxToken) → begins_part ms ≡ false → key_end e ms ≡ e
none_more e [] h = refl
none_more e (m ∷ ms) h = ap (λ (b : Bool). cond b (key_end m.to ms) e) h

-- the last part of a key ends where the last of its tokens does
pub key_ends : (bytes : List ℕ) (e : ℕ) (n : Named) (ns : List Named) (ms : List SyntaxToken)
    → AreParts bytes (n ∷ ns) ms → key_end e ms ≡ length (last_part n ns)
key_ends bytes e n ns [] h = absurd h
key_ends bytes e n [] (m ∷ ms) h =
    ap (λ (b : Bool). cond b (key_end m.to ms) e) h.0 ∙ none_more m.to ms h.3 ∙ h.2
key_ends bytes e n (n2 ∷ ns) (m ∷ ms) h =
    ap (λ (b : Bool). cond b (key_end m.to ms) e) h.0 ∙ key_ends bytes m.to n2 ns ms h.3

-- what is seen along a key is the part that names the place
pub part_offset_is : (bytes : List ℕ) (place table : Place) (n : Named) (ns : List Named) (ms : List SyntaxToken)
    (r : PathMatch × Option ℕ) → AreParts bytes (n ∷ ns) ms → FollowsKey place unresolved table (n ∷ ns) r
    → part_offset (length place) r.0 r.1 ms ≡ option_map length (behind_part unresolved place table (n ∷ ns))
part_offset_is bytes place table n ns ms r h g =
    let q = key_target unresolved table (n ∷ ns) in
    let fronts = behind_part unresolved place table (front_parts (n ∷ ns)) in
    let there : is_at (length place) r.0 ≡ same_place q place =
    ap (is_at (length place)) g.0 ∙ sym (same_is place q) in
    ap (λ (o : Option ℕ). part_offset (length place) r.0 o ms) g.1
    ∙ ap (λ (b : Bool). first_of (option_map length fronts ∷ cond b (Some (key_end 0 ms)) None ∷ [])) there
    ∙ ap (λ (e : ℕ). first_of (option_map length fronts ∷ cond (same_place q place) (Some e) None ∷ []))
    (key_ends bytes 0 n ns ms h)
    ∙ lengths fronts (same_place q place) (last_part n ns)
    ∙ sym (ap (option_map length) (part_or place table n ns))
  where
    lengths : (o : Option (List ℕ)) (b : Bool) (l : List ℕ)
        → first_of (option_map length o ∷ cond b (Some (length l)) None ∷ [])
        ≡ option_map length (first_of (o ∷ cond b (Some l) None ∷ []))
    lengths None true l = refl
    lengths None false l = refl
    lengths (Some x) b l = refl

-- ---- a key that leads to the place or below it

-- a step into the place or below it leads to it, where it comes from outside
come : (place table : Place) (s : Step) → is_within place table ≡ false → is_within place (at table s) ≡ true
    → same_place (at table s) place ≡ true
come [] table s out reach = absurd (true≢false out)
come (u ∷ []) [] s out reach =
    let same = same_step_is u s (and_parts (same_step u s) true reach).0 in
    and_from (same_step s u) true (ap (λ (x : Step). same_step s x) same ∙ same_step_self s) refl
come (u ∷ v ∷ us) [] s out reach =
    absurd (true≢false (sym (and_parts (same_step u s) false reach).1))
come (u ∷ us) (t ∷ ts) s out reach =
    let h = and_parts (same_step u t) (is_within us (at ts s)) reach in
    let same = same_step_is u t h.0 in
    let further : is_within us ts ≡ false = ap (λ (b : Bool). b && is_within us ts) (sym h.0) ∙ out in
    and_from (same_step t u) (same_place (at ts s) us)
    (ap (λ (x : Step). same_step t x) same ∙ same_step_self t) (come us ts s further h.1)

-- it names the place by the part that is found before the last one, or by the last one
pub within_part : (place table : Place) (n : Named) (ns : List Named) → is_within place table ≡ false
    → is_within place (key_target unresolved table (n ∷ ns)) ≡ true
    → behind_part unresolved place table (n ∷ ns)
    ≡ Some (unwrap_or (behind_part unresolved place table (front_parts (n ∷ ns))) (last_part n ns))
within_part place table n [] out reach =
    ap (λ (b : Bool). cond b (Some n.1) None) (come place table (key n.0) out reach)
within_part place table n (m ∷ ns) out reach =
    go (same_place (at table (key n.0)) place) refl (within_part place (at table (key n.0)) m ns)
  where
    here : Place
    here = at table (key n.0)

    not_yet : same_place here place ≡ false → is_within place here ≡ false
    not_yet other = by_test (is_within place here)
        (λ e. absurd (true≢false (sym (come place table (key n.0) out e) ∙ other))) (λ e. e)

    go : (b : Bool) → same_place here place ≡ b
        → (is_within place here ≡ false → is_within place (key_target unresolved here (m ∷ ns)) ≡ true
        → behind_part unresolved place here (m ∷ ns)
        ≡ Some (unwrap_or (behind_part unresolved place here (front_parts (m ∷ ns))) (last_part m ns)))
        → cond b (Some n.1) (behind_part unresolved place here (m ∷ ns))
        ≡ Some (unwrap_or (cond b (Some n.1) (behind_part unresolved place here (front_parts (m ∷ ns))))
        (last_part m ns))
    go true e ih = refl
    go false e ih = ih (not_yet e) reach

-- ---- a key that leads elsewhere

same_within : (p q : Place) → same_place q p ≡ true → is_within p q ≡ true
same_within [] q e = refl
same_within (s ∷ ss) [] e = e
same_within (s ∷ ss) (t ∷ ts) e =
    let h = and_parts (same_step t s) (same_place ts ss) e in
    let same = same_step_is t s h.0 in
    and_from (same_step s t) (is_within ss ts)
    (ap (λ (x : Step). same_step s x) same ∙ same_step_self s) (same_within ss ts h.1)

within_at : (p q : Place) (s : Step) → is_within p q ≡ true → is_within p (at q s) ≡ true
within_at [] q s e = refl
within_at (u ∷ us) [] s e = absurd (true≢false (sym e))
within_at (u ∷ us) (t ∷ ts) s e =
    let h = and_parts (same_step u t) (is_within us ts) e in
    and_from (same_step u t) (is_within us (at ts s)) h.0 (within_at us ts s h.1)

within_led : (p table : Place) (ns : List Named) → is_within p table ≡ true
    → is_within p (key_target unresolved table ns) ≡ true
within_led p table [] e = e
within_led p table (n ∷ []) e = within_at p table (key n.0) e
within_led p table (n ∷ m ∷ ns) e =
    within_led p (at table (key n.0)) (m ∷ ns) (within_at p table (key n.0) e)

elsewhere : (place here : Place) (ns : List Named) → is_within place (key_target unresolved here ns) ≡ false
    → same_place here place ≡ false
elsewhere place here ns out = by_test (same_place here place)
    (λ e. absurd (true≢false (sym (within_led place here ns (same_within place here e)) ∙ out))) (λ e. e)

-- it names the place by none of its parts
pub within_none : (place table : Place) (ns : List Named)
    → is_within place (key_target unresolved table ns) ≡ false
    → behind_part unresolved place table ns ≡ None
within_none place table [] out = refl
within_none place table (n ∷ []) out =
    ap (λ (b : Bool). cond b (Some n.1) None) (elsewhere place (at table (key n.0)) [] out)
within_none place table (n ∷ m ∷ ns) out =
    let here = at table (key n.0) in
    ap (λ (b : Bool). cond b (Some n.1) (behind_part unresolved place here (m ∷ ns)))
    (elsewhere place here (m ∷ ns) out)
    ∙ within_none place here (m ∷ ns) out
