-- The tokens of a text, by its first bytes.
use Rattle.std.proofs.Common.{◌≡◌, ℕ, suc, ◌+◌, ◌-◌, ◌<◌, ◌≤◌, Bool, true, false, List, [], ◌∷◌, ◌++◌, ◌⊎◌, inl, inr, Option, Some, None, length, take, drop, get_or, refl, sym, ap, ap₂, ◌∙◌, subst, arith, get_or-take}
use Rattle.std.proofs.Math.Seq.{drop-cons}
use Rattle.std.proofs.lemmas.List.{take_rest, take-append-drop, length-take-le}
use Rattle.std.proofs.lemmas.List.Sums.{prefix_len_passes}
use Rattle.std.specs.List.{prefix_len}
use Rattle.json.specs.Token.{begin_object, end_object, begin_array, end_array, key, string, number, boolean, null}
use Rattle.json.specs.Text.{content, plain}
use Rattle.json.specs.Word.{after_number, ends_word, word}
use Rattle.json.specs.Lex.{Lexeme, token, between, in_string, lex, string_token, fresh, after_value, after_comma, begins_colon, punctuate, tokens}
use Rattle.json.specs.Print.{escape}
use Rattle.json.specs.Run.{is_plain}
use Rattle.json.specs.Written.{PlainBetween}
use Rattle.json.proofs.Printed.Numbers.{in_word-ended, lex-number}
use Rattle.json.proofs.Printed.Plain.{escape_on_plain}
use Rattle.json.proofs.Printed.Strings.{content-escape, lex-escape}
use Rattle.edit_json.specs.Taken.{Follows}

-- ---- the first bytes of a text

-- what a slice's pattern binds after its first n bytes
abbrev pub behind : ℕ → List ℕ → List ℕ
behind n t = take (length t - n) (drop n t)

pub one_byte : (t : List ℕ) (a : ℕ) → 1 ≤ length t → get_or t 0 0 ≡ a → t ≡ a ∷ behind 1 t
one_byte [] a some e = let never : ⊥ = omega arith in absurd never
one_byte (x ∷ xs) a some e = ap₂ (λ b r. b ∷ r) e (sym (take_rest (x ∷ xs) 1))

next_byte : (t : List ℕ) (i a : ℕ) → i < length t → get_or t i 0 ≡ a → drop i t ≡ a ∷ drop (i + 1) t
next_byte t i a within e =
    let next : i + 1 ≡ suc i = omega arith in
    drop-cons t i 0 within ∙ ap₂ (λ b k. b ∷ drop k t) e (sym next)

pub two_bytes : (t : List ℕ) (a b : ℕ) → 2 ≤ length t → get_or t 0 0 ≡ a → get_or t 1 0 ≡ b → t ≡ a ∷ b ∷ behind 2 t
two_bytes t a b some e f =
    next_byte t 0 a (omega arith) e ∙ ap (λ r. a ∷ r) (next_byte t 1 b (omega arith) f ∙ ap (λ r. b ∷ r) (sym (take_rest t 2)))

pub four_bytes : (t : List ℕ) (a b c d : ℕ) → 4 ≤ length t
    → get_or t 0 0 ≡ a → get_or t 1 0 ≡ b → get_or t 2 0 ≡ c → get_or t 3 0 ≡ d
    → t ≡ a ∷ b ∷ c ∷ d ∷ behind 4 t
four_bytes t a b c d some e f g h =
    next_byte t 0 a (omega arith) e ∙ ap (λ r. a ∷ r) (next_byte t 1 b (omega arith) f ∙ ap (λ r. b ∷ r) (next_byte t 2 c (omega arith) g
    ∙ ap (λ r. c ∷ r) (next_byte t 3 d (omega arith) h ∙ ap (λ r. d ∷ r) (sym (take_rest t 4)))))

pub five_bytes : (t : List ℕ) (a b c d s : ℕ) → 5 ≤ length t
    → get_or t 0 0 ≡ a → get_or t 1 0 ≡ b → get_or t 2 0 ≡ c → get_or t 3 0 ≡ d → get_or t 4 0 ≡ s
    → t ≡ a ∷ b ∷ c ∷ d ∷ s ∷ behind 5 t
five_bytes t a b c d s some e f g h k =
    next_byte t 0 a (omega arith) e ∙ ap (λ r. a ∷ r) (next_byte t 1 b (omega arith) f ∙ ap (λ r. b ∷ r) (next_byte t 2 c (omega arith) g
    ∙ ap (λ r. c ∷ r) (next_byte t 3 d (omega arith) h ∙ ap (λ r. d ∷ r) (next_byte t 4 s (omega arith) k ∙ ap (λ r. s ∷ r) (sym (take_rest t 5))))))

-- ---- a string without escapes

pub record SplitAt (t : List ℕ) (n : ℕ) : Type 0 where
  pub content : content plain t ≡ Some (take n t)
  pub rest : lex in_string t ≡ lex between (drop (n + 1) t)

pub split_at_quote : (t : List ℕ) (n : ℕ) → n ≡ prefix_len is_plain t → n < length t → get_or t n 0 ≡ 34 → SplitAt t n
split_at_quote t n is within quote =
    let s = take n t in
    let r = drop (n + 1) t in
    let long : length s ≡ n = length-take-le n t (omega arith) in
    let each : PlainBetween s 0 (length s) = λ k low high. ap is_plain (get_or-take n t k 0 (omega arith)) ∙ prefix_len_passes is_plain t k 0 (omega arith) in
    let same : escape s ≡ s = escape_on_plain true s each in
    let whole : t ≡ escape s ++ 34 ∷ r = sym (take-append-drop n t) ∙ ap₂ (λ a b. a ++ b) (sym same) (next_byte t n 34 within quote) in
    record { content = ap (content plain) whole ∙ content-escape s r; rest = ap (lex in_string) whole ∙ lex-escape s r }

-- ---- one token at the front

lex_quote : (t s : List ℕ) (r : List Lexeme) → content plain t ≡ Some s → lex in_string t ≡ r → lex between (34 ∷ t) ≡ token (string s) ∷ r
unfolding lex
lex_quote t s r e f = ap₂ (λ o l. token (string_token o) ∷ l) e f

pub tokens_key : (t s r : List ℕ) → content plain t ≡ Some s → lex in_string t ≡ lex between (58 ∷ r)
    → tokens (34 ∷ t) ≡ key s ∷ tokens r
unfolding lex punctuate
tokens_key t s r e f = ap (punctuate fresh) (lex_quote t s (lex between (58 ∷ r)) e f)

string_at : (s : List ℕ) (ls : List Lexeme) → begins_colon ls ≡ false → punctuate fresh (token (string s) ∷ ls) ≡ string s ∷ punctuate after_value ls
unfolding punctuate
string_at s ls e = rw e

pub tokens_string : (t s r : List ℕ) → content plain t ≡ Some s → lex in_string t ≡ lex between r
    → begins_colon (lex between r) ≡ false → tokens (34 ∷ t) ≡ string s ∷ punctuate after_value (lex between r)
tokens_string t s r e f no_key = ap (punctuate fresh) (lex_quote t s (lex between r) e f) ∙ string_at s (lex between r) no_key

pub tokens_true : (r : List ℕ) → ends_word r ≡ true → tokens (116 ∷ 114 ∷ 117 ∷ 101 ∷ r) ≡ boolean true ∷ punctuate after_value (lex between r)
unfolding lex word punctuate
tokens_true r e = rw (e, in_word-ended r e)

pub tokens_false : (r : List ℕ) → ends_word r ≡ true → tokens (102 ∷ 97 ∷ 108 ∷ 115 ∷ 101 ∷ r) ≡ boolean false ∷ punctuate after_value (lex between r)
unfolding lex word punctuate
tokens_false r e = rw (e, in_word-ended r e)

pub tokens_null : (r : List ℕ) → ends_word r ≡ true → tokens (110 ∷ 117 ∷ 108 ∷ 108 ∷ r) ≡ null ∷ punctuate after_value (lex between r)
unfolding lex word punctuate
tokens_null r e = rw (e, in_word-ended r e)

number_at : (s : List ℕ) (ls : List Lexeme) → punctuate fresh (token (number s) ∷ ls) ≡ number s ∷ punctuate after_value ls
unfolding punctuate
number_at s ls = refl

pub tokens_one : (r : List ℕ) → ends_word r ≡ true → tokens (49 ∷ r) ≡ number (49 ∷ []) ∷ punctuate after_value (lex between r)
unfolding after_number
tokens_one r e = ap (punctuate fresh) (lex-number (49 ∷ []) r refl e) ∙ number_at (49 ∷ []) (lex between r)

pub tokens_two : (r : List ℕ) → ends_word r ≡ true → tokens (50 ∷ r) ≡ number (50 ∷ []) ∷ punctuate after_value (lex between r)
unfolding after_number
tokens_two r e = ap (punctuate fresh) (lex-number (50 ∷ []) r refl e) ∙ number_at (50 ∷ []) (lex between r)

pub tokens_begin_object : (r : List ℕ) → tokens (123 ∷ r) ≡ begin_object ∷ tokens r
unfolding lex punctuate
tokens_begin_object r = refl

pub tokens_begin_array : (r : List ℕ) → tokens (91 ∷ r) ≡ begin_array ∷ tokens r
unfolding lex punctuate
tokens_begin_array r = refl

pub tokens_end_object : (r : List ℕ) → tokens (125 ∷ r) ≡ end_object ∷ punctuate after_value (lex between r)
unfolding lex punctuate
tokens_end_object r = refl

pub tokens_end_array : (r : List ℕ) → tokens (93 ∷ r) ≡ end_array ∷ punctuate after_value (lex between r)
unfolding lex punctuate
tokens_end_array r = refl

pub lex_blank : (r : List ℕ) → lex between (32 ∷ r) ≡ lex between r
unfolding lex
lex_blank r = refl

-- ---- what follows a value

pub at_the_end : (t : List ℕ) → length t ≡ 0 → Follows t t
unfolding lex punctuate
at_the_end [] e = record { tokens = refl; delimited = refl; no_key = refl }
at_the_end (x ∷ xs) e = let never : ⊥ = omega arith in absurd never

closing_bracket : (r : List ℕ) → Follows (93 ∷ r) (93 ∷ r)
unfolding lex punctuate
closing_bracket r = record { tokens = refl; delimited = refl; no_key = refl }

closing_brace : (r : List ℕ) → Follows (125 ∷ r) (125 ∷ r)
unfolding lex punctuate
closing_brace r = record { tokens = refl; delimited = refl; no_key = refl }

pub at_closing : (t : List ℕ) → 1 ≤ length t → (get_or t 0 0 ≡ 93) ⊎ (get_or t 0 0 ≡ 125) → Follows t t
at_closing t some (inl e) = subst (λ x. Follows x x) (sym (one_byte t 93 some e)) (closing_bracket (behind 1 t))
at_closing t some (inr e) = subst (λ x. Follows x x) (sym (one_byte t 125 some e)) (closing_brace (behind 1 t))

string_after_comma : (o : Option (List ℕ)) (ls : List Lexeme) (b : Bool) → begins_colon ls ≡ b
    → punctuate after_comma (token (string_token o) ∷ ls) ≡ punctuate fresh (token (string_token o) ∷ ls)
unfolding punctuate
string_after_comma None ls b e = refl
string_after_comma (Some s) ls true e = rw e
string_after_comma (Some s) ls false e = rw e

may_follow : (t : List ℕ) → 1 ≤ length t → (get_or t 0 0 ≡ 34) ⊎ ((get_or t 0 0 ≡ 123) ⊎ (get_or t 0 0 ≡ 91)) → punctuate after_comma (lex between t) ≡ tokens t
unfolding lex punctuate
may_follow [] some h = let never : ⊥ = omega arith in absurd never
may_follow (x ∷ xs) some (inl e) = rw e (string_after_comma (content plain xs) (lex in_string xs) _ refl)
may_follow (x ∷ xs) some (inr (inl e)) = rw e
may_follow (x ∷ xs) some (inr (inr e)) = rw e

comma_at : (t r : List ℕ) → punctuate after_comma (lex between t) ≡ tokens r → Follows (44 ∷ t) r
unfolding lex punctuate
comma_at t r e = record { tokens = e; delimited = refl; no_key = refl }

-- a string, an array or an object follows a comma and blanks
pub at_comma : (t r : List ℕ) → lex between t ≡ lex between r → 1 ≤ length r
    → (get_or r 0 0 ≡ 34) ⊎ ((get_or r 0 0 ≡ 123) ⊎ (get_or r 0 0 ≡ 91)) → Follows (44 ∷ t) r
at_comma t r same begins h = comma_at t r (ap (punctuate after_comma) same ∙ may_follow r begins h)

-- ---- no token

pub tokens_empty : (t : List ℕ) → length t ≡ 0 → tokens t ≡ []
unfolding lex punctuate
tokens_empty [] e = refl
tokens_empty (x ∷ xs) e = let never : ⊥ = omega arith in absurd never
