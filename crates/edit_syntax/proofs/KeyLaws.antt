-- Keys and their parts: the parser accepts exactly what is written as its result says.
use Rattle.std.proofs.Common.{◌≡◌, ℕ, zero, suc, ◌+◌, ◌<◌, ◌≤◌, Bool, true, false, eqb, List, [], ◌∷◌, ◌++◌, length, drop, Some, refl, ap, subst, ◌∙◌, inl, inr, arith}
use Rattle.std.specs.List.{prefix_len, AllByRecursion}
use Rattle.std.proofs.lemmas.Bool.Decides.{nat_tests}
use Rattle.std.proofs.lemmas.List.{length-append}
use Rattle.edit_syntax.specs.Characters.{quote, apostrophe, right_brace, is_blank, is_bare, All}
use Rattle.edit_syntax.specs.Strings.{Part, bare, basic_part, literal_part, part, IsPart, Key, Dotted, key, dotted, IsKey}
use Rattle.edit_syntax.specs.Reading.{◌>>=◌, first, front, after, blanks, past_blanks, basic_at, literal_at, part_at, dotted_at, key_at}
use Rattle.edit_syntax.proofs.GapLaws.{opens_gap}
use Rattle.edit_syntax.proofs.TokenLaws.{bind_some, chosen, tested, some_is, first_is, run_parts, run_all, front_again, after_again, length-pieces, basic_sound, basic_again, literal_sound, literal_again}

-- what may follow a bare key
abbrev pub EndsBare : List ℕ → Type 0
EndsBare rest = is_bare (first rest) ≡ false

pub length_front : (class : ℕ → Bool) (text : List ℕ) → class 0 ≡ false → class (first text) ≡ true
    → 0 < length (front class text)
length_front class [] none e = absurd cc
length_front class (b ∷ text) none e =
    rw e (let k : 1 + prefix_len class text ≡ suc (prefix_len class text) = omega arith in rw k (omega arith))

pub part_sound : (text : List ℕ) (x : Part × List ℕ) → part_at text ≡ Some x → (text ≡ part x.0 x.1)
    × IsPart x.0
unfolding part_at
part_sound text x e =
    let P : Part × List ℕ → Type 0 = λ y. (text ≡ part y.0 y.1) × IsPart y.0 in
    elim (chosen (eqb (first text) quote) _ _ (Some x) e) [
      | inl h ↦
          let a = bind_some (basic_at (drop 1 text)) (λ p. Some (basic_part p.0, p.1)) x h.1 in
          let b = basic_sound (drop 1 text) a.0 a.1 in
          subst P (some_is _ x a.2)
          (first_is quote text (omega arith) h.0 ∙ ap (λ (r : List ℕ). quote ∷ r) b.0, b.1)
      | inr h ↦ elim (chosen (eqb (first text) apostrophe) _ _ (Some x) h.1) [
        | inl k ↦
            let a = bind_some (literal_at (drop 1 text)) (λ p. Some (literal_part p.0, p.1)) x k.1 in
            let b = literal_sound (drop 1 text) a.0 a.1 in
            subst P (some_is _ x a.2)
            (first_is apostrophe text (omega arith) k.0 ∙ ap (λ (r : List ℕ). apostrophe ∷ r) b.0, b.1)
        | inr k ↦
            let t = tested (is_bare (first text)) (Some (bare (front is_bare text), after is_bare text)) x k.1
            in
            subst P (some_is _ x t.1)
            (run_parts is_bare text, (length_front is_bare text refl t.0, run_all is_bare text))
      ]
    ]

bare_not : (b : ℕ) → is_bare b ≡ true → (eqb b quote ≡ false) × (eqb b apostrophe ≡ false)
bare_not b h = (grind (arith, nat_tests), grind (arith, nat_tests))

pub part_again : (k : Part) (rest : List ℕ) → IsPart k → EndsBare rest
    → part_at (part k rest) ≡ Some (k, rest)
unfolding part_at
part_again (basic_part ps) rest h ends = rw (basic_again ps rest h) refl
part_again (literal_part text) rest h ends = rw (literal_again text rest h) refl
part_again (bare []) rest h ends = absurd (omega (arith, h.0))
part_again (bare (b ∷ text)) rest h ends =
    let n = bare_not b h.1.0 in
    rw (
      front_again is_bare (b ∷ text) rest h.1 ends,
      after_again is_bare (b ∷ text) rest h.1 ends,
      n.0,
      n.1,
      h.1.0,
    ) refl

-- ---- keys

bare_first : (b : ℕ) → is_bare b ≡ true → (is_blank b ≡ false) × (opens_gap b ≡ false)
    × (eqb b right_brace ≡ false)
bare_first b h = (grind (arith, nat_tests), grind (arith, nat_tests), grind (arith, nat_tests))

-- a part begins with neither white space nor a gap nor a closing brace
pub part_first : (k : Part) (rest : List ℕ) → IsPart k → (is_blank (first (part k rest)) ≡ false)
    × (opens_gap (first (part k rest)) ≡ false) × (eqb (first (part k rest)) right_brace ≡ false)
part_first (bare []) rest h = absurd (omega (arith, h.0))
part_first (bare (b ∷ text)) rest h = bare_first b h.1.0
part_first (basic_part ps) rest h = (refl, refl, refl)
part_first (literal_part text) rest h = (refl, refl, refl)

-- white space and then this byte ends a bare key
pub ends_bare : (a : List ℕ) (b : ℕ) (rest : List ℕ) → All is_blank a → is_bare b ≡ false
    → EndsBare (a ++ (b ∷ rest))
ends_bare [] b rest h e = e
ends_bare (c ∷ a) b rest h e = grind (arith, nat_tests, h.0)

-- the parts behind dots
abbrev pub AreDotted : List Dotted → Type 0
AreDotted ds = AllByRecursion (λ d. All is_blank d.before × All is_blank d.behind × IsPart d.part) ds

pub dotted_sound : (n : ℕ) (text : List ℕ) (x : List Dotted × List ℕ) → dotted_at n text ≡ Some x
    → (text ≡ dotted x.0 x.1) × AreDotted x.0
unfolding dotted_at
dotted_sound zero text x e = absurd cc
dotted_sound (suc n) text x e =
    let P : List Dotted × List ℕ → Type 0 = λ y. (text ≡ dotted y.0 y.1) × AreDotted y.0 in
    elim (chosen (eqb (first (past_blanks text)) 46) _ _ (Some x) e) [
      | inl h ↦
          let inner = drop 1 (past_blanks text) in
          let a = bind_some (part_at (past_blanks inner)) _ x h.1 in
          let b = bind_some (dotted_at n a.0.1) _ x a.2 in
          let k = part_sound (past_blanks inner) a.0 a.1 in
          let more = dotted_sound n a.0.1 b.0 b.1 in
          let one : inner ≡ blanks inner ++ part a.0.0 (dotted b.0.0 b.0.1) = run_parts is_blank inner ∙
          ap (λ (r : List ℕ). blanks inner ++ r) (k.0 ∙ ap (part a.0.0) more.0) in
          subst P (some_is _ x b.2) (
            run_parts is_blank text ∙ ap (λ (r : List ℕ). blanks text ++ r)
                (first_is 46 (past_blanks text) (omega arith) h.0 ∙ ap (λ (r : List ℕ). 46 ∷ r) one),
            ((run_all is_blank text, run_all is_blank inner, k.1), more.1),
          )
      | inr h ↦ subst P (some_is ([], text) x h.1) (refl, tt)
    ]

-- what may follow a key
pub record EndsKey (rest : List ℕ) : Type 0 where
  pub bare : EndsBare rest
  pub undotted : eqb (first (past_blanks rest)) 46 ≡ false

-- white space and then this byte ends a key
pub ends_key : (a : List ℕ) (b : ℕ) (rest : List ℕ) → All is_blank a → is_bare b ≡ false → is_blank b ≡ false
    → eqb b 46 ≡ false → EndsKey (a ++ (b ∷ rest))
ends_key a b rest h e f g =
    record { bare = ends_bare a b rest h e; undotted = rw (after_again is_blank a (b ∷ rest) h f) g }

ends_part : (ds : List Dotted) (rest : List ℕ) → AreDotted ds → EndsKey rest → EndsBare (dotted ds rest)
ends_part [] rest h ends = ends.bare
ends_part (d ∷ ds) rest h ends = ends_bare d.before 46 (d.behind ++ part d.part (dotted ds rest)) h.0.0 refl

pub dotted_again : (n : ℕ) (ds : List Dotted) (rest : List ℕ) → AreDotted ds → EndsKey rest → length ds < n
    → dotted_at n (dotted ds rest) ≡ Some (ds, rest)
unfolding dotted_at
dotted_again zero ds rest h ends lt = absurd (omega arith)
dotted_again (suc n) [] rest h ends lt = rw ends.undotted refl
dotted_again (suc n) (d ∷ ds) rest h ends lt =
    let more = dotted ds rest in
    let inner = d.behind ++ part d.part more in
    let begins = (part_first d.part more h.0.2).0 in
    rw (
      after_again is_blank d.before (46 ∷ inner) h.0.0 refl,
      front_again is_blank d.before (46 ∷ inner) h.0.0 refl,
      after_again is_blank d.behind (part d.part more) h.0.1 begins,
      front_again is_blank d.behind (part d.part more) h.0.1 begins,
      part_again d.part more h.0.2 (ends_part ds rest h.1 ends),
      dotted_again n ds rest h.1 ends (omega arith),
    ) refl

-- a part has a byte
part_some : (k : Part) (rest : List ℕ) → IsPart k → suc (length rest) ≤ length (part k rest)
part_some (bare text) rest h = omega (arith, length-append text rest, h.0)
part_some (basic_part ps) rest h = let k = length-pieces quote ps (quote ∷ rest) in omega arith
part_some (literal_part text) rest h = omega (arith, length-append text (apostrophe ∷ rest))

dotted_some : (ds : List Dotted) (rest : List ℕ) → AreDotted ds
    → length ds + length rest ≤ length (dotted ds rest)
dotted_some [] rest h = omega arith
dotted_some (d ∷ ds) rest h =
    omega (
      arith,
      length-append d.before (46 ∷ (d.behind ++ part d.part (dotted ds rest))),
      length-append d.behind (part d.part (dotted ds rest)),
      part_some d.part (dotted ds rest) h.0.2,
      dotted_some ds rest h.1,
    )

pub key_sound : (text : List ℕ) (x : Key × List ℕ) → key_at text ≡ Some x → (text ≡ key x.0 x.1) × IsKey x.0
unfolding key_at
key_sound text x e =
    let a = bind_some (part_at text)
    (λ k. dotted_at (length text) k.1 >>= λ ds. Some (record { first = k.0; others = ds.0 }, ds.1)) x e in
    let b = bind_some (dotted_at (length text) a.0.1)
    (λ ds. Some (record { first = a.0.0; others = ds.0 }, ds.1)) x a.2 in
    let k = part_sound text a.0 a.1 in
    let ds = dotted_sound (length text) a.0.1 b.0 b.1 in
    subst (λ (y : Key × List ℕ). (text ≡ key y.0 y.1) × IsKey y.0)
    (some_is (record { first = a.0.0; others = b.0.0 }, b.0.1) x b.2)
    (k.0 ∙ ap (part a.0.0) ds.0, (k.1, ds.1))

pub key_again : (k : Key) (rest : List ℕ) → IsKey k → EndsKey rest → key_at (key k rest) ≡ Some (k, rest)
unfolding key_at
key_again k rest h ends =
    let more = dotted k.others rest in
    let few : length k.others < length (key k rest) =
    omega (arith, part_some k.first more h.0, dotted_some k.others rest h.1) in
    rw (
      part_again k.first more h.0 (ends_part k.others rest h.1 ends),
      dotted_again (length (key k rest)) k.others rest h.1 ends few,
    ) refl
