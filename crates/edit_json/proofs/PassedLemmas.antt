-- The front of a JSON string that was passed, a byte or an escape at a time.
use Rattle.std.proofs.Common.{◌≡◌, ℕ, suc, ◌+◌, ◌≤◌, Bool, true, false, cond, ◌==◌, ◌||◌, ◌⊎◌, inl, inr, length, get_or, List, [], ◌∷◌, drop, refl, subst, ap, ◌∙◌, arith}
use Rattle.std.proofs.lemmas.Bool.{eqb-false, ltb-false, not-true, or_parts, ne_eqb, le-ltb}
use Rattle.std.specs.List.{prefix_len}
use Rattle.json.specs.Lex.{Lexeme, Mode, in_string, lex, lex_byte, operator, other, space}
use Rattle.json.specs.Run.{is_plain, is_stop}
use Rattle.json.specs.Text.{content, plain, prepend, short_escape}
use Rattle.json.specs.Word.{is_operator, is_space}
use Rattle.edit_json.specs.Passed.{Passed}
use Rattle.edit_json.specs.Taken.{ClosesString, Takes}
use Rattle.edit_json.proofs.LexemeLemmas.{behind, two_bytes}
use Rattle.edit_json.proofs.TakenLemmas.{takes_both, takes_nothing}

pub nothing_passed : (t : List ℕ) → Passed t t
nothing_passed t = record { lexed = refl; read = λ s e. (s, e) }

pub passed_both : (t r q : List ℕ) → Passed t r → Passed r q → Passed t q
passed_both t r q one two = record {
  lexed = one.lexed ∙ two.lexed;
  read = λ s e. let more = two.read s e in one.read more.0 more.1;
}

stays_inside : (o s : Bool) (x : ℕ) (r : List ℕ) (k : Mode → List Lexeme) → lex_byte in_string (cond o operator (cond s space other)) x r k ≡ k in_string
stays_inside true s x r k = refl
stays_inside false true x r k = refl
stays_inside false false x r k = refl

plain_read : (x : ℕ) (r : List ℕ) → (x ≡ 34 → ⊥) → (x ≡ 92 → ⊥) → 32 ≤ x → content plain (x ∷ r) ≡ prepend (x ∷ []) (content plain r)
unfolding content
plain_read x r q b l = rw (ne_eqb x 34 q, ne_eqb x 92 b, le-ltb x 32 l)

plain_lexed : (x : ℕ) (r : List ℕ) → (x ≡ 34 → ⊥) → (x ≡ 92 → ⊥) → lex in_string (x ∷ r) ≡ lex in_string r
unfolding lex
plain_lexed x r q b = rw (ne_eqb x 34 q, ne_eqb x 92 b) (stays_inside (is_operator x) (is_space x) x r (λ m. lex m r))

plain_byte : (x : ℕ) (r : List ℕ) → is_plain x ≡ true → Passed (x ∷ r) r
plain_byte x r e =
    let none = or_parts ((x == 34) || (x == 92)) _ (not-true (is_stop x) e) in
    let tests = or_parts (x == 34) _ none.0 in
    let q = eqb-false x 34 tests.0 in
    let b = eqb-false x 92 tests.1 in
    record {
      lexed = plain_lexed x r q b;
      read = λ s found. (x ∷ s, plain_read x r q b (ltb-false x 32 none.1) ∙ ap (prepend (x ∷ [])) found);
    }

plain_more : (p : Bool) (x : ℕ) (xs : List ℕ) (n : ℕ) → is_plain x ≡ p → Takes Passed xs (drop n xs) → Takes Passed (x ∷ xs) (drop (cond p (1 + n) 0) (x ∷ xs))
plain_more true x xs n e more =
    let next : suc n ≡ 1 + n = omega arith in
    let first : Takes Passed (x ∷ xs) xs = record { front = x ∷ []; whole = refl; local = λ other same. plain_byte x other e } in
    subst (λ k. Takes Passed (x ∷ xs) (drop k (x ∷ xs))) next (takes_both Passed Passed Passed (x ∷ xs) xs (drop n xs) first more passed_both)
plain_more false x xs n e more = takes_nothing Passed (x ∷ xs) (λ other same. nothing_passed other)

-- the bytes before the first quote, backslash or control character
pub plain_taken : (t : List ℕ) → Takes Passed t (drop (prefix_len is_plain t) t)
plain_taken [] = takes_nothing Passed [] (λ other same. nothing_passed other)
plain_taken (x ∷ xs) = plain_more (is_plain x) x xs (prefix_len is_plain xs) refl (plain_taken xs)

quote_passed : (r : List ℕ) → Passed (92 ∷ 34 ∷ r) r
unfolding content lex short_escape
quote_passed r = record { lexed = refl; read = λ s e. (34 ∷ s, ap (prepend (34 ∷ [])) e) }

backslash_passed : (r : List ℕ) → Passed (92 ∷ 92 ∷ r) r
unfolding content lex short_escape
backslash_passed r = record { lexed = refl; read = λ s e. (92 ∷ s, ap (prepend (92 ∷ [])) e) }

-- a quote or a backslash that is escaped
pub escape_taken : (t : List ℕ) → 2 ≤ length t → get_or t 0 0 ≡ 92 → (get_or t 1 0 ≡ 34) ⊎ (get_or t 1 0 ≡ 92) → Takes Passed t (behind 2 t)
escape_taken t some e (inl f) = record { front = 92 ∷ 34 ∷ []; whole = two_bytes t 92 34 some e f; local = λ other same. quote_passed other }
escape_taken t some e (inr f) = record { front = 92 ∷ 92 ∷ []; whole = two_bytes t 92 92 some e f; local = λ other same. backslash_passed other }

-- the closing quote
pub closed : (t r : List ℕ) → Passed t (34 ∷ r) → ClosesString t r
unfolding content lex
closed t r all = (all.read [] refl, all.lexed)
