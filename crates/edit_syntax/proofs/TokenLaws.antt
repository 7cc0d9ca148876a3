-- Tokens: the parser accepts exactly what is written as its result says.
use Rattle.std.proofs.Common.{◌≡◌, ℕ, zero, suc, ◌+◌, ◌<◌, ◌≤◌, Bool, true, false, cond, ◌&&◌, eqb, List, [], ◌∷◌, ◌++◌, length, slice_index, take, drop, Option, Some, None, refl, sym, ap, subst, ◌∙◌, ◌⊎◌, inl, inr, arith, eq-eqb}
use Rattle.std.specs.List.{prefix_len, AllByRecursion, list_all}
use Rattle.std.proofs.lemmas.Bool.{eqb-true, and_parts}
use Rattle.std.proofs.lemmas.Bool.Decides.{nat_tests}
use Rattle.std.proofs.lemmas.List.{take_at, drop_at, take-append-drop, length-append}
use Rattle.edit_syntax.specs.Characters.{quote, apostrophe, backslash, is_basic_ch, is_literal_ch, All}
use Rattle.std.specs.Str.Parse.{digits_value}
use Rattle.edit_syntax.specs.Strings.{LineEnd, lf, crlf, line_end, Space, blank, break, spaces, Piece, plain, letter, short, long, feed, fold, delimiter, piece, IsBasicPiece, pieces, is_escape, is_hex, is_scalar, IsScalarCode}
use Rattle.edit_syntax.specs.Reading.{◌>>=◌, first, front, after, past, scalar, scalar_escape_at, escape_at, piece_at, pieces_at, basic_at, literal_at}

-- ---- steps that did not fail

pub bind_some : {A B : Type 0} (o : Option A) (f : A → Option B) (y : B) → (o >>= f) ≡ Some y → (x : A)
    × (o ≡ Some x) × (f x ≡ Some y)
bind_some (Some x) f y e = (x, refl, e)
bind_some None f y e = absurd cc

pub chosen : {A : Type 0} (b : Bool) (x y z : A) → cond b x y ≡ z → ((b ≡ true) × (x ≡ z))
    ⊎ ((b ≡ false) × (y ≡ z))
chosen true x y z e = inl (refl, e)
chosen false x y z e = inr (refl, e)

-- the test of a step that did not fail
pub tested : {A : Type 0} (b : Bool) (o : Option A) (y : A) → cond b o None ≡ Some y → (b ≡ true)
    × (o ≡ Some y)
tested true o y e = (refl, e)
tested false o y e = absurd cc

abbrev some_of : {A : Type 0} → A → Option A
some_of x = Some x

pub some_is : {A : Type 0} (x y : A) → some_of x ≡ some_of y → x ≡ y
some_is x y e = cc

-- ---- bytes and runs

pub first_is : (b : ℕ) (text : List ℕ) → 0 < b → eqb (first text) b ≡ true → text ≡ b ∷ drop 1 text
first_is b [] lt e = absurd (omega (arith, eqb-true 0 b e))
first_is b (c ∷ text) lt e = ap (λ (x : ℕ). x ∷ text) (eqb-true c b e)

pub past_some : (b : ℕ) (text rest : List ℕ) → 0 < b → past b text ≡ Some rest → text ≡ b ∷ rest
past_some b text rest lt e =
    let t = tested (eqb (first text) b) (Some (drop 1 text)) rest e in
    first_is b text lt t.0 ∙ ap (λ (r : List ℕ). b ∷ r) (some_is (drop 1 text) rest t.1)

pub run_parts : (class : ℕ → Bool) (text : List ℕ) → text ≡ front class text ++ after class text
run_parts class text = sym (take-append-drop (prefix_len class text) text)

run_step : (class : ℕ → Bool) (b : ℕ) (text : List ℕ) (c : Bool) → class b ≡ c
    → All class (take (prefix_len class text) text)
    → All class (take (cond c (1 + prefix_len class text) 0) (b ∷ text))
run_step class b text true e h = let k : 1 + prefix_len class text ≡ suc (prefix_len class text) =
    omega arith in rw k (e, h)
run_step class b text false e h = tt

pub run_all : (class : ℕ → Bool) (text : List ℕ) → All class (front class text)
run_all class [] = tt
run_all class (b ∷ text) = run_step class b text (class b) refl (run_all class text)

pub prefix_len_run : (class : ℕ → Bool) (run rest : List ℕ) → All class run → class (first rest) ≡ false
    → prefix_len class (run ++ rest) ≡ length run
prefix_len_run class [] [] all stops = refl
prefix_len_run class [] (b ∷ rest) all stops = rw stops refl
prefix_len_run class (b ∷ run) rest all stops = rw (all.0, prefix_len_run class run rest all.1 stops)
    (omega arith)

pub front_again : (class : ℕ → Bool) (run rest : List ℕ) → All class run → class (first rest) ≡ false
    → front class (run ++ rest) ≡ run
front_again class run rest all stops = take_at run rest _ (sym (prefix_len_run class run rest all stops))

pub after_again : (class : ℕ → Bool) (run rest : List ℕ) → All class run → class (first rest) ≡ false
    → after class (run ++ rest) ≡ rest
after_again class run rest all stops = drop_at run rest _ (sym (prefix_len_run class run rest all stops))

pub basic_ch_not : (b : ℕ) → is_basic_ch b ≡ true → (eqb b quote ≡ false) × (eqb b backslash ≡ false)
basic_ch_not b h = (grind (arith, nat_tests), grind (arith, nat_tests))

-- a text whose first byte is of a class that has no 0
pub first_of : (class : ℕ → Bool) (text : List ℕ) → class 0 ≡ false → class (first text) ≡ true
    → text ≡ first text ∷ drop 1 text
first_of class [] none e = cc
first_of class (c ∷ text) none e = refl

pub second_of : (class : ℕ → Bool) (text : List ℕ) (b : ℕ) → class 0 ≡ false → 0 < b
    → eqb (first text) b ≡ true → class (slice_index text 1) ≡ true
    → text ≡ b ∷ (slice_index text 1 ∷ drop 2 text)
second_of class [] b none lt e h = absurd (omega (arith, eqb-true 0 b e))
second_of class (c ∷ []) b none lt e h = cc
second_of class (c ∷ d ∷ text) b none lt e h = ap (λ (x : ℕ). x ∷ (d ∷ text)) (eqb-true c b e)

-- this byte stands at k
pub at_drop : (k b : ℕ) (text : List ℕ) → 0 < b → eqb (slice_index text k) b ≡ true
    → drop k text ≡ b ∷ drop (suc k) text
at_drop zero b [] lt e = absurd (omega (arith, eqb-true 0 b e))
at_drop zero b (c ∷ text) lt e = ap (λ (x : ℕ). x ∷ text) (eqb-true c b e)
at_drop (suc k) b [] lt e = absurd (omega (arith, eqb-true 0 b e))
at_drop (suc k) b (c ∷ text) lt e = at_drop k b text lt e

all_of_list : (class : ℕ → Bool) (bytes : List ℕ) → list_all class bytes ≡ true → All class bytes
all_of_list class [] e = tt
all_of_list class (b ∷ bytes) e = let w = and_parts (class b) (list_all class bytes) e in
    (w.0, all_of_list class bytes w.1)

pub list_of_all : (class : ℕ → Bool) (bytes : List ℕ) → All class bytes → list_all class bytes ≡ true
list_of_all class [] h = refl
list_of_all class (b ∷ bytes) h = rw (h.0, list_of_all class bytes h.1) refl

-- ---- codes

coded_sound : (made : List ℕ → Piece) (n : ℕ) (text : List ℕ) (x : Piece × List ℕ)
    → scalar_escape_at made n text ≡ Some x
    → ((made (take n text), drop n text) ≡ x) × IsScalarCode n (take n text)
unfolding scalar_escape_at
coded_sound made n text x e =
    let t = tested (eqb (length (take n text)) n) _ x e in
    let a = bind_some (scalar (take n text)) (λ c. Some (made (take n text), drop n text)) x t.1 in
    let s = tested (list_all is_hex (take n text) && is_scalar (digits_value 16 (take n text))) _ a.0 a.1 in
    let w = and_parts _ (is_scalar (digits_value 16 (take n text))) s.0 in
    (some_is _ x a.2, (eqb-true _ _ t.0, all_of_list is_hex (take n text) w.0, w.1))

coded_again : (made : List ℕ → Piece) (n : ℕ) (digits rest : List ℕ) → IsScalarCode n digits
    → scalar_escape_at made n (digits ++ rest) ≡ Some (made digits, rest)
unfolding scalar_escape_at
coded_again made n digits rest h =
    let same : eqb (length digits) n ≡ true = eq-eqb (length digits) n h.0 in
    rw (take_at digits rest n h.0, drop_at digits rest n h.0, same, list_of_all is_hex digits h.1, h.2) refl

-- ---- pieces

pub escape_sound : (text : List ℕ) (x : Piece × List ℕ) → eqb (first text) backslash ≡ true
    → escape_at text ≡ Some x → (text ≡ piece quote x.0 x.1) × IsBasicPiece x.0
unfolding escape_at
escape_sound text x opened e =
    let P : Piece × List ℕ → Type 0 = λ y. (text ≡ piece quote y.0 y.1) × IsBasicPiece y.0 in
    let begins = first_is backslash text (omega arith) opened in
    elim (chosen (is_escape (slice_index text 1)) _ _ (Some x) e) [
      | inl h ↦ subst P (some_is _ x h.1)
          (second_of is_escape text backslash refl (omega arith) opened h.0, h.0)
      | inr h ↦ elim (chosen (eqb (slice_index text 1) 117) _ _ (Some x) h.1) [
        | inl k ↦
            let a = coded_sound short 4 (drop 2 text) x k.1 in
            subst P a.0 (
              begins ∙ ap (λ (r : List ℕ). backslash ∷ r) (at_drop 1 117 text (omega arith) k.0 ∙
                  ap (λ (r : List ℕ). 117 ∷ r) (sym (take-append-drop 4 (drop 2 text)))),
              a.1,
            )
        | inr k ↦
            let t = tested (eqb (slice_index text 1) 85) _ x k.1 in
            let a = coded_sound long 8 (drop 2 text) x t.1 in
            subst P a.0 (
              begins ∙ ap (λ (r : List ℕ). backslash ∷ r) (at_drop 1 85 text (omega arith) t.0 ∙
                  ap (λ (r : List ℕ). 85 ∷ r) (sym (take-append-drop 8 (drop 2 text)))),
              a.1,
            )
      ]
    ]

pub piece_sound : (text : List ℕ) (x : Piece × List ℕ) → piece_at text ≡ Some x → (text ≡ piece quote x.0 x.1)
    × IsBasicPiece x.0
unfolding piece_at
piece_sound text x e = elim (chosen (eqb (first text) backslash) _ _ (Some x) e) [
  | inl h ↦ escape_sound text x h.0 h.1
  | inr h ↦
      let t = tested (is_basic_ch (first text)) (Some (plain (first text), drop 1 text)) x h.1 in
      subst (λ (y : Piece × List ℕ). (text ≡ piece quote y.0 y.1) × IsBasicPiece y.0) (some_is _ x t.1)
      (first_of is_basic_ch text refl t.0, t.0)
]

pub piece_again : (p : Piece) (rest : List ℕ) → IsBasicPiece p
    → piece_at (piece quote p rest) ≡ Some (p, rest)
unfolding piece_at escape_at
piece_again (plain b) rest h = rw (h, (basic_ch_not b h).1) refl
piece_again (letter c) rest h = rw h refl
piece_again (short digits) rest h = coded_again short 4 digits rest h
piece_again (long digits) rest h = coded_again long 8 digits rest h
piece_again (feed e) rest h = absurd h
piece_again (fold ws e more) rest h = absurd h
piece_again delimiter rest h = absurd h

pub piece_first : (p : Piece) (rest : List ℕ) → IsBasicPiece p
    → eqb (first (piece quote p rest)) quote ≡ false
piece_first (plain b) rest h = (basic_ch_not b h).0
piece_first (letter c) rest h = refl
piece_first (short digits) rest h = refl
piece_first (long digits) rest h = refl
piece_first (feed e) rest h = absurd h
piece_first (fold ws e more) rest h = absurd h
piece_first delimiter rest h = absurd h

abbrev pub AreBasic : List Piece → Type 0
AreBasic ps = AllByRecursion IsBasicPiece ps

-- the pieces, the closing quote and what follows
abbrev pub basic_rest : List Piece → List ℕ → List ℕ
basic_rest ps rest = pieces quote ps (quote ∷ rest)

pub pieces_sound : (n : ℕ) (text : List ℕ) (x : List Piece × List ℕ) → pieces_at n text ≡ Some x
    → (text ≡ basic_rest x.0 x.1) × AreBasic x.0
unfolding pieces_at
pieces_sound zero text x e = absurd cc
pieces_sound (suc n) text x e = elim (chosen (eqb (first text) quote) _ _ (Some x) e) [
  | inl h ↦ subst (λ (y : List Piece × List ℕ). (text ≡ basic_rest y.0 y.1) × AreBasic y.0)
      (some_is ([], drop 1 text) x h.1) (first_is quote text (omega arith) h.0, tt)
  | inr h ↦
      let a = bind_some (piece_at text) (λ p. pieces_at n p.1 >>= λ ps. Some (p.0 ∷ ps.0, ps.1)) x h.1 in
      let b = bind_some (pieces_at n a.0.1) (λ ps. Some (a.0.0 ∷ ps.0, ps.1)) x a.2 in
      let one = piece_sound text a.0 a.1 in
      let others = pieces_sound n a.0.1 b.0 b.1 in
      subst (λ (y : List Piece × List ℕ). (text ≡ basic_rest y.0 y.1) × AreBasic y.0)
      (some_is (a.0.0 ∷ b.0.0, b.0.1) x b.2) (one.0 ∙ ap (piece quote a.0.0) others.0, (one.1, others.1))
]

pub pieces_again : (n : ℕ) (ps : List Piece) (rest : List ℕ) → AreBasic ps → length ps < n
    → pieces_at n (basic_rest ps rest) ≡ Some (ps, rest)
unfolding pieces_at
pieces_again zero ps rest h lt = absurd (omega arith)
pieces_again (suc n) [] rest h lt = refl
pieces_again (suc n) (p ∷ ps) rest h lt =
    rw (
      piece_first p (basic_rest ps rest) h.0,
      piece_again p (basic_rest ps rest) h.0,
      pieces_again n ps rest h.1 (omega arith),
    ) refl

line_end_longer : (e : LineEnd) (rest : List ℕ) → suc (length rest) ≤ length (line_end e rest)
line_end_longer lf rest = omega arith
line_end_longer crlf rest = omega arith

spaces_longer : (more : List Space) (rest : List ℕ) → length rest ≤ length (spaces more rest)
spaces_longer [] rest = omega arith
spaces_longer (blank b ∷ more) rest = let h = spaces_longer more rest in omega arith
spaces_longer (break e ∷ more) rest =
    omega (arith, spaces_longer more rest, line_end_longer e (spaces more rest))

pub piece_longer : (delimiter_byte : ℕ) (p : Piece) (rest : List ℕ) → suc (length rest) ≤ length (piece delimiter_byte p rest)
piece_longer delimiter_byte (plain b) rest = omega arith
piece_longer delimiter_byte (letter c) rest = omega arith
piece_longer delimiter_byte (short digits) rest = omega (arith, length-append digits rest)
piece_longer delimiter_byte (long digits) rest = omega (arith, length-append digits rest)
piece_longer delimiter_byte (feed e) rest = line_end_longer e rest
piece_longer delimiter_byte (fold ws e more) rest =
    omega (
      arith,
      length-append ws (line_end e (spaces more rest)),
      line_end_longer e (spaces more rest),
      spaces_longer more rest,
    )
piece_longer delimiter_byte delimiter rest = omega arith

pub length-pieces : (delimiter_byte : ℕ) (ps : List Piece) (rest : List ℕ)
    → length ps + length rest ≤ length (pieces delimiter_byte ps rest)
length-pieces delimiter_byte [] rest = omega arith
length-pieces delimiter_byte (p ∷ ps) rest =
    omega (arith, length-pieces delimiter_byte ps rest, piece_longer delimiter_byte p (pieces delimiter_byte ps rest))

pub basic_sound : (text : List ℕ) (x : List Piece × List ℕ) → basic_at text ≡ Some x
    → (text ≡ basic_rest x.0 x.1) × AreBasic x.0
unfolding basic_at
basic_sound text x e = pieces_sound (length text) text x e

pub basic_again : (ps : List Piece) (rest : List ℕ) → AreBasic ps
    → basic_at (basic_rest ps rest) ≡ Some (ps, rest)
unfolding basic_at
basic_again ps rest h = pieces_again (length (basic_rest ps rest)) ps rest h
    (let k = length-pieces quote ps (quote ∷ rest) in omega arith)

-- ---- literals and keys

pub literal_sound : (text : List ℕ) (x : List ℕ × List ℕ) → literal_at text ≡ Some x
    → (text ≡ x.0 ++ (apostrophe ∷ x.1)) × All is_literal_ch x.0
unfolding literal_at
literal_sound text x e =
    let a = bind_some (past apostrophe (after is_literal_ch text))
    (λ rest. Some (front is_literal_ch text, rest)) x e in
    subst (λ (y : List ℕ × List ℕ). (text ≡ y.0 ++ (apostrophe ∷ y.1)) × All is_literal_ch y.0)
    (some_is (front is_literal_ch text, a.0) x a.2) (
      run_parts is_literal_ch text ∙ ap (λ (r : List ℕ). front is_literal_ch text ++ r)
          (past_some apostrophe _ a.0 (omega arith) a.1),
      run_all is_literal_ch text,
    )

pub literal_again : (text rest : List ℕ) → All is_literal_ch text
    → literal_at (text ++ (apostrophe ∷ rest)) ≡ Some (text, rest)
unfolding literal_at
literal_again text rest h =
    rw (
      after_again is_literal_ch text (apostrophe ∷ rest) h refl,
      front_again is_literal_ch text (apostrophe ∷ rest) h refl,
    ) refl
