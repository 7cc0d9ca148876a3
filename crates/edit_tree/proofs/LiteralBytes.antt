-- The bytes of a literal, character by character.
use Rattle.std.proofs.Common.{◌≡◌, ℕ, ◌+◌, ◌-◌, ◌<◌, ◌≤◌, true, false, ◌==◌, nat_lt, List, [], ◌∷◌, ◌++◌, map, length, get_or, take, drop, length-drop, get_or-drop, append_assoc, append-nil, take_all, refl, ap, ◌∙◌, lit<, arith}
use Rattle.std.proofs.lemmas.Bool.Decides.{nat_tests}
use Rattle.std.proofs.lemmas.List.{drop_more, take_more, drop_all}
use Rattle.edit_syntax.specs.Characters.{quote}
use Rattle.edit_tree.specs.Literals.{literal_piece, literal_body, literal_bytes, escaped_byte, is_escaped}
use Rattle.edit_syntax.proofs.PutBefore.{piece_rest, pieces_rest}

pub literal_parts : (said : List ℕ) → literal_bytes said ≡ quote ∷ (literal_body said ++ quote ∷ [])
literal_parts said = ap (λ (l : List ℕ). quote ∷ l) (pieces_rest quote (map literal_piece said) (quote ∷ []))

body_more : (b : ℕ) (bs : List ℕ) → literal_body (b ∷ bs) ≡ escaped_byte b ++ literal_body bs
body_more b bs = piece_rest quote (literal_piece b) (literal_body bs)

-- ---- which bytes are escaped

pub escaped_ascii : (b : ℕ) → is_escaped b ≡ true → b < 128
escaped_ascii b e = grind (arith, nat_tests)

pub escaped_plain : (b : ℕ) → is_escaped b ≡ false → escaped_byte b ≡ b ∷ []
escaped_plain b e =
    let quoted : (b == 34) ≡ false = grind (arith, nat_tests) in
    let slashed : (b == 92) ≡ false = grind (arith, nat_tests) in
    let low : nat_lt b 32 ≡ false = grind (arith, nat_tests) in
    let deleted : (b == 127) ≡ false = grind (arith, nat_tests) in
    rw (
      quoted,
      slashed,
      under b 8 low (lit< tt),
      under b 9 low (lit< tt),
      under b 10 low (lit< tt),
      under b 12 low (lit< tt),
      under b 13 low (lit< tt),
      low,
      deleted,
    ) refl
  where
    under : (b n : ℕ) → nat_lt b 32 ≡ false → n < 32 → (b == n) ≡ false
    under b n low h = grind (arith, nat_tests)

-- ---- one byte more

body-drop : (s : List ℕ) (i : ℕ) → i < length s → literal_body (drop i s)
    ≡ escaped_byte (get_or s i 0) ++ literal_body (drop (i + 1) s)
body-drop s i h = ap literal_body (drop_more s i 0 h) ∙ body_more (get_or s i 0) (drop (i + 1) s)

omega-add : (a b : ℕ) → a ≤ b → a + (b - a) ≡ b
omega-add a b h = omega arith

-- a byte that stands for itself joins the run
pub keep_byte : (s done total : List ℕ) (start i : ℕ) → start ≤ i → i < length s
    → is_escaped (get_or s i 0) ≡ false
    → done ++ (take (i - start) (drop start s) ++ literal_body (drop i s)) ≡ total
    → done ++ (take (i + 1 - start) (drop start s) ++ literal_body (drop (i + 1) s)) ≡ total
keep_byte s done total start i low within same whole =
    let at : get_or (drop start s) (i - start) 0 ≡ get_or s i 0 =
    rw (get_or-drop start s (i - start) 0, omega-add start i low) in
    let more = take_more (drop start s) (i - start) 0 (omega (arith, length-drop start s)) in
    let next : i + 1 - start ≡ i - start + 1 = omega arith in
    rw (next, more, at) (simp append_assoc
    (rw (body-drop s i within, escaped_plain (get_or s i 0) same) at whole))

-- an escape ends the run
pub escape_byte : (s done total : List ℕ) (start i : ℕ) → i < length s
    → done ++ (take (i - start) (drop start s) ++ literal_body (drop i s)) ≡ total
    → ((done ++ take (i - start) (drop start s)) ++ escaped_byte (get_or s i 0)) ++
    (take (i + 1 - (i + 1)) (drop (i + 1) s) ++ literal_body (drop (i + 1) s)) ≡ total
escape_byte s done total start i within whole =
    let zero : i + 1 - (i + 1) ≡ 0 = omega arith in
    let read = rw (body-drop s i within) at whole in
    rw zero (simp append_assoc read)

-- at the end of the text, what is left is the run
pub body_end : (s done total : List ℕ) (start i : ℕ) → start ≤ i → i ≡ length s
    → done ++ (take (i - start) (drop start s) ++ literal_body (drop i s)) ≡ total
    → done ++ drop start s ≡ total
body_end s done total start i low end whole =
    let all : take (i - start) (drop start s) ≡ drop start s =
    take_all _ _ (omega (arith, length-drop start s)) in
    let none : drop i s ≡ [] = drop_all i s (omega arith) in
    rw (all, none, append-nil) at whole
