-- What is taken off the front of a text, whatever follows it: one part, and one part after another.
use Rattle.std.proofs.Common.{◌≡◌, ℕ, ◌≤◌, ◌⊎◌, inl, inr, List, [], ◌∷◌, ◌++◌, length, take, get_or, true, refl, sym, ap, subst, ◌∙◌, append_assoc, arith}
use Rattle.json.specs.Lex.{after_value, between, fresh, lex, punctuate, tokens}
use Rattle.json.specs.Token.{Token}
use Rattle.json.specs.Word.{ends_word}
use Rattle.edit_json.specs.Taken.{BeginsWith, BeginsWithKey, BeginsWithString, ClosesString, Follows, HasSameLexemes, Takes}
use Rattle.edit_json.proofs.LexemeLemmas.{at_closing, at_comma, tokens_key, tokens_string}

-- the bytes at the front of a text
abbrev pub HasFront : List ℕ → List ℕ → List ℕ → Type 0
HasFront bytes text rest = text ≡ bytes ++ rest

pub front_taken : (bytes t r : List ℕ) → t ≡ bytes ++ r → Takes (HasFront bytes) t r
front_taken bytes t r whole = record { front = bytes; whole = whole; local = λ other same. refl }

same_first : (b r o : List ℕ) → take 1 o ≡ take 1 r → take 1 (b ++ o) ≡ take 1 (b ++ r)
same_first [] r o same = same
same_first (x ∷ xs) r o same = refl

pub first_of_empty : (r o : List ℕ) → take 1 o ≡ take 1 r → length r ≡ 0 → length o ≡ 0
first_of_empty [] [] same none = refl
first_of_empty [] (y ∷ ys) same none = let never : ⊥ = cc in absurd never
first_of_empty (x ∷ xs) o same none = let never : ⊥ = omega arith in absurd never

pub first_stands : (r o : List ℕ) → take 1 o ≡ take 1 r → 1 ≤ length r → 1 ≤ length o
first_stands [] o same some = let never : ⊥ = omega arith in absurd never
first_stands (x ∷ xs) [] same some = let never : ⊥ = cc in absurd never
first_stands (x ∷ xs) (y ∷ ys) same some = omega arith

pub first_is : (r o : List ℕ) (a : ℕ) → take 1 o ≡ take 1 r → 1 ≤ length r → get_or r 0 0 ≡ a → get_or o 0 0 ≡ a
first_is [] o a same some e = let never : ⊥ = omega arith in absurd never
first_is (x ∷ xs) [] a same some e = let never : ⊥ = cc in absurd never
first_is (x ∷ xs) (y ∷ ys) a same some e = cc

begins_alike : (r o : List ℕ) → take 1 o ≡ take 1 r → 1 ≤ length r → (get_or r 0 0 ≡ 34) ⊎ ((get_or r 0 0 ≡ 123) ⊎ (get_or r 0 0 ≡ 91)) → (get_or o 0 0 ≡ 34) ⊎ ((get_or o 0 0 ≡ 123) ⊎ (get_or o 0 0 ≡ 91))
begins_alike r o same some (inl e) = inl (first_is r o 34 same some e)
begins_alike r o same some (inr (inl e)) = inr (inl (first_is r o 123 same some e))
begins_alike r o same some (inr (inr e)) = inr (inr (first_is r o 91 same some e))

module _ (P : List ℕ → List ℕ → Type 0) (t r : List ℕ) where
  -- the relation itself
  pub takes_here : Takes P t r → P t r
  takes_here all = subst (λ x. P x r) (sym all.whole) (all.local r refl)

  -- a weaker relation, which may use the first byte of the rest
  pub takes_more : (Q : List ℕ → List ℕ → Type 0) → Takes P t r
      → ((x o : List ℕ) → take 1 o ≡ take 1 r → P x o → Q x o) → Takes Q t r
  takes_more Q all weaker = record {
    front = all.front;
    whole = all.whole;
    local = λ other same. weaker (all.front ++ other) other same (all.local other same);
  }

-- nothing
pub takes_nothing : (P : List ℕ → List ℕ → Type 0) (t : List ℕ)
    → ((o : List ℕ) → take 1 o ≡ take 1 t → P o o) → Takes P t t
takes_nothing P t here = record { front = []; whole = refl; local = here }

-- one part and then another
pub takes_both : (P Q S : List ℕ → List ℕ → Type 0) (t r q : List ℕ) → Takes P t r → Takes Q r q
    → ((x y z : List ℕ) → P x y → Q y z → S x z) → Takes S t q
takes_both P Q S t r q one two join = record {
  front = one.front ++ two.front;
  whole = one.whole ∙ ap (λ x. one.front ++ x) two.whole ∙ sym (append_assoc one.front two.front q);
  local = λ other same.
      let next : take 1 (two.front ++ other) ≡ take 1 r =
      same_first two.front q other same ∙ ap (take 1) (sym two.whole) in
      subst (λ x. S x other) (sym (append_assoc one.front two.front other))
      (join (one.front ++ (two.front ++ other)) (two.front ++ other) other
      (one.local (two.front ++ other) next) (two.local other same));
}

-- a token whose bytes are known, and what follows a value
pub token_taken : (bytes : List ℕ) (token : Token) (t u r : List ℕ) → t ≡ bytes ++ u → Takes Follows u r
    → ((o : List ℕ) → ends_word o ≡ true → tokens (bytes ++ o) ≡ token ∷ punctuate after_value (lex between o))
    → Takes (BeginsWith token) t r
token_taken bytes token t u r whole follows lexed =
    takes_both (HasFront bytes) Follows (BeginsWith token) t u r (front_taken bytes t u whole) follows
    (λ x y z e f. ap tokens e ∙ lexed y f.delimited ∙ ap (λ ts. token ∷ ts) f.tokens)

-- a comma and blanks, where a string, an array or an object follows
pub comma_taken : (t u r : List ℕ) → t ≡ 44 ∷ u → Takes HasSameLexemes u r → 1 ≤ length r
    → (get_or r 0 0 ≡ 34) ⊎ ((get_or r 0 0 ≡ 123) ⊎ (get_or r 0 0 ≡ 91)) → Takes Follows t r
comma_taken t u r whole blanks some begins = record {
  front = 44 ∷ blanks.front;
  whole = whole ∙ ap (λ x. 44 ∷ x) blanks.whole;
  local = λ other same. at_comma (blanks.front ++ other) other (blanks.local other same) (first_stands r other same some) (begins_alike r other same some begins);
}

-- a closing bracket stays
pub closing_follows : (t o : List ℕ) → take 1 o ≡ take 1 t → 1 ≤ length t → (get_or t 0 0 ≡ 93) ⊎ (get_or t 0 0 ≡ 125) → Follows o o
closing_follows t o same some (inl e) = at_closing o (first_stands t o same some) (inl (first_is t o 93 same some e))
closing_follows t o same some (inr e) = at_closing o (first_stands t o same some) (inr (first_is t o 125 same some e))

-- a quote and the string that it opens
abbrev Quoted : List ℕ → List ℕ → Type 0
Quoted text rest = (u : List ℕ) × ClosesString u rest × (text ≡ 34 ∷ u)

quoted : (t u v : List ℕ) → t ≡ 34 ∷ u → Takes ClosesString u v → Takes Quoted t v
quoted t u v quote closes = takes_both (HasFront (34 ∷ [])) ClosesString Quoted t u v (front_taken (34 ∷ []) t u quote) closes (λ x y z e c. (y, c, e))

-- a colon, and blanks
abbrev Colon : List ℕ → List ℕ → Type 0
Colon text rest = (u : List ℕ) × (text ≡ 58 ∷ u) × (lex between u ≡ lex between rest)

-- a string that is no key
pub string_taken : (t u v r : List ℕ) → t ≡ 34 ∷ u → Takes ClosesString u v → Takes Follows v r → Takes BeginsWithString t r
string_taken t u v r quote closes follows =
    takes_both Quoted Follows BeginsWithString t v r (quoted t u v quote closes) follows
    (λ x y z string ends.
    (string.1.0.0, ap tokens string.2 ∙ tokens_string string.0 string.1.0.0 y string.1.0.1 string.1.1 ends.no_key ∙ ap (λ ts. Token.string string.1.0.0 ∷ ts) ends.tokens))

-- a key with its colon
pub key_taken : (t u v w r : List ℕ) → t ≡ 34 ∷ u → Takes ClosesString u v → v ≡ 58 ∷ w → Takes HasSameLexemes w r → Takes BeginsWithKey t r
key_taken t u v w r quote closes colon blanks =
    takes_both Quoted Colon BeginsWithKey t v r (quoted t u v quote closes)
    (takes_both (HasFront (58 ∷ [])) HasSameLexemes Colon v w r (front_taken (58 ∷ []) v w colon) blanks (λ x y z e f. (y, e, f)))
    (λ x y z string colon.
    (string.1.0.0, ap tokens string.2 ∙ tokens_key string.0 string.1.0.0 colon.0 string.1.0.1 (string.1.1 ∙ ap (lex between) colon.1) ∙ ap (λ ls. Token.key string.1.0.0 ∷ punctuate fresh ls) colon.2))
