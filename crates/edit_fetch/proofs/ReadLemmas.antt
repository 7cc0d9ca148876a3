-- The options that curl reads from lines of a configuration file.
use Rattle.std.proofs.Common.{◌≡◌, ℕ, ◌≤◌, List, [], ◌∷◌, ◌++◌, Bool, true, false, cond, eqb, leb, Option, Some, None, option_map, map, refl, ap, sym, ◌∙◌, subst, ⊎_elim, arith}
use Rattle.std.specs.Prelude.{◌&&◌, ◌||◌, not, All}
use Rattle.std.specs.List.{cons_option, filter, filter_map, flat_map, list_all}
use Rattle.std.proofs.lemmas.Bool.{false≢true, and_from, and_parts, cases_eq, eqb-true, le-leb, leb-true, lt-leb, ne_eqb, not-true, not_from_false, or_cases}
use Rattle.std.proofs.lemmas.List.{append_assoc}
use Rattle.std.proofs.lemmas.List.Elements.{All-cons, All-nil}
use Rattle.std.proofs.lemmas.List.Folds.{list_all-append}
use Rattle.std.proofs.lemmas.List.Splits.{slice_split_at}
use Rattle.edit_fetch.specs.CurlConfig.{CurlOption, escape_of, from_on, is_option_name, is_separator, is_space, option_from, option_line, option_text, options_in, unquoted, up_to, value_in, value_text, without_nuls}

-- a fact of each byte, by whether it is escaped
escape_cases : (P : ℕ → Type 0) → P 0 → P 34 → P 92 → P 9 → P 10 → P 13 → P 11
    → ((b : ℕ) → eqb b 0 ≡ false → eqb b 34 ≡ false → eqb b 92 ≡ false → eqb b 9 ≡ false
    → eqb b 10 ≡ false → eqb b 13 ≡ false → eqb b 11 ≡ false → P b) → (b : ℕ) → P b
escape_cases P nul quote slash tab feed return vertical plain b =
    ⊎_elim (λ e. subst P (sym e) nul) (λ n0.
    ⊎_elim (λ e. subst P (sym e) quote) (λ n1.
    ⊎_elim (λ e. subst P (sym e) slash) (λ n2.
    ⊎_elim (λ e. subst P (sym e) tab) (λ n3.
    ⊎_elim (λ e. subst P (sym e) feed) (λ n4.
    ⊎_elim (λ e. subst P (sym e) return) (λ n5.
    ⊎_elim (λ e. subst P (sym e) vertical) (λ n6.
    plain b (ne_eqb b 0 n0) (ne_eqb b 34 n1) (ne_eqb b 92 n2) (ne_eqb b 9 n3) (ne_eqb b 10 n4)
    (ne_eqb b 13 n5) (ne_eqb b 11 n6))
    (cases_eq b 11)) (cases_eq b 13)) (cases_eq b 10)) (cases_eq b 9)) (cases_eq b 92)) (cases_eq b 34))
    (cases_eq b 0)

-- a byte is read back; a NUL is not there
unquoted_byte : (rest : List ℕ) (b : ℕ) → unquoted false (escape_of b ++ rest)
    ≡ cond (eqb b 0) (unquoted false rest) (b ∷ unquoted false rest)
unquoted_byte rest = escape_cases (λ b. unquoted false (escape_of b ++ rest)
    ≡ cond (eqb b 0) (unquoted false rest) (b ∷ unquoted false rest))
    refl refl refl refl refl refl refl
    (λ b e0 e1 e2 e3 e4 e5 e6. simp (e0, e1, e2, e3, e4, e5, e6))

-- no line feed is left
no_feed_byte : (b : ℕ) → list_all (λ c. not (eqb c 10)) (escape_of b) ≡ true
no_feed_byte = escape_cases (λ b. list_all (λ c. not (eqb c 10)) (escape_of b) ≡ true)
    refl refl refl refl refl refl refl
    (λ b e0 e1 e2 e3 e4 e5 e6. simp (e0, e1, e2, e3, e4, e5, e6))

cond_not : {A : Type 0} (b : Bool) (x y : A) → cond b x y ≡ cond (not b) y x
cond_not true x y = refl
cond_not false x y = refl

-- a value in double quotes is read back, without its NULs
unquoted_value : (value rest : List ℕ) → unquoted false (flat_map escape_of value ++ 34 ∷ rest)
    ≡ filter (λ b. not (eqb b 0)) value
unquoted_value [] rest = refl
unquoted_value (b ∷ bs) rest =
    let left = filter (λ c. not (eqb c 0)) bs in
    ap (unquoted false) (append_assoc (escape_of b) (flat_map escape_of bs) (34 ∷ rest))
    ∙ unquoted_byte (flat_map escape_of bs ++ 34 ∷ rest) b
    ∙ ap (λ t. cond (eqb b 0) t (b ∷ t)) (unquoted_value bs rest)
    ∙ cond_not (eqb b 0) left (b ∷ left)

-- what a test that passes each element gives of each
all_give : (p q : ℕ → Bool) → ((c : ℕ) → p c ≡ true → q c ≡ true) → (xs : List ℕ)
    → list_all p xs ≡ true → list_all q xs ≡ true
all_give p q gives [] h = refl
all_give p q gives (x ∷ xs) h =
    let both = and_parts (p x) (list_all p xs) h in
    and_from (q x) (list_all q xs) (gives x both.0) (all_give p q gives xs both.1)

all_apart : (p : ℕ → Bool) (xs : List ℕ) → list_all (λ c. not (p c)) xs ≡ true
    → All (λ c. p c ≡ false) xs
all_apart p [] h = All-nil (λ c. p c ≡ false)
all_apart p (x ∷ xs) h =
    let both = and_parts (not (p x)) (list_all (λ c. not (p c)) xs) h in
    All-cons (λ c. p c ≡ false) x xs (not-true (p x) both.0) (all_apart p xs both.1)

-- a letter or a dash
abbrev is_letter : ℕ → Bool
is_letter c = (leb 97 c && leb c 122) || eqb c 45

letter_cases : (P : ℕ → Type 0) → P 45 → ((c : ℕ) → 97 ≤ c → P c) → (c : ℕ) → is_letter c ≡ true → P c
letter_cases P dash letter c h =
    ⊎_elim (λ low. letter c (leb-true 97 c (and_parts (leb 97 c) (leb c 122) low).0))
    (λ e. subst P (sym (eqb-true c 45 e)) dash)
    (or_cases (leb 97 c && leb c 122) (eqb c 45) h)

-- a letter or a dash is no line feed, no separator, no white space and no `#`
letter_feed : (c : ℕ) → is_letter c ≡ true → not (eqb c 10) ≡ true
letter_feed = letter_cases (λ c. not (eqb c 10) ≡ true) refl
    (λ c low. not_from_false (eqb c 10) (ne_eqb c 10 (λ e. omega arith)))

letter_apart : (c : ℕ) → is_letter c ≡ true → not (is_separator c) ≡ true
letter_apart = letter_cases (λ c. not (is_separator c) ≡ true) refl
    (λ c low. let e32 : eqb c 32 ≡ false = ne_eqb c 32 (λ e. omega arith) in
    let e13 : leb c 13 ≡ false = lt-leb c 13 (omega arith) in
    let e9 : leb 9 c ≡ true = le-leb 9 c (omega arith) in
    let e61 : eqb c 61 ≡ false = ne_eqb c 61 (λ e. omega arith) in
    let e58 : eqb c 58 ≡ false = ne_eqb c 58 (λ e. omega arith) in
    simp (e32, e13, e9, e61, e58))

letter_space : (c : ℕ) → is_letter c ≡ true → not (is_space c) ≡ true
letter_space = letter_cases (λ c. not (is_space c) ≡ true) refl
    (λ c low. let e32 : eqb c 32 ≡ false = ne_eqb c 32 (λ e. omega arith) in
    let e13 : leb c 13 ≡ false = lt-leb c 13 (omega arith) in
    let e9 : leb 9 c ≡ true = le-leb 9 c (omega arith) in
    simp (e32, e13, e9))

letter_number_sign : (c : ℕ) → is_letter c ≡ true → eqb c 35 ≡ false
letter_number_sign = letter_cases (λ c. eqb c 35 ≡ false) refl (λ c low. ne_eqb c 35 (λ e. omega arith))

-- the bytes before the first that passes, and those from it on
up_to_at : (p : ℕ → Bool) (xs : List ℕ) (c : ℕ) (rest : List ℕ) → list_all (λ x. not (p x)) xs ≡ true
    → p c ≡ true → up_to p (xs ++ c ∷ rest) ≡ xs
up_to_at p [] c rest h at = rw at
up_to_at p (x ∷ xs) c rest h at =
    let both = and_parts (not (p x)) (list_all (λ y. not (p y)) xs) h in
    let no = not-true (p x) both.0 in
    rw no (ap (λ t. x ∷ t) (up_to_at p xs c rest both.1 at))

up_to_all : (p : ℕ → Bool) (xs : List ℕ) → list_all (λ x. not (p x)) xs ≡ true → up_to p (xs ++ []) ≡ xs
up_to_all p [] h = refl
up_to_all p (x ∷ xs) h =
    let both = and_parts (not (p x)) (list_all (λ y. not (p y)) xs) h in
    let no = not-true (p x) both.0 in
    rw no (ap (λ t. x ∷ t) (up_to_all p xs both.1))

from_on_at : (p : ℕ → Bool) (xs : List ℕ) (c : ℕ) (rest : List ℕ) → list_all (λ x. not (p x)) xs ≡ true
    → p c ≡ true → from_on p (xs ++ c ∷ rest) ≡ c ∷ rest
from_on_at p [] c rest h at = rw at
from_on_at p (x ∷ xs) c rest h at =
    let both = and_parts (not (p x)) (list_all (λ y. not (p y)) xs) h in
    let no = not-true (p x) both.0 in
    rw no (from_on_at p xs c rest both.1 at)

from_on_all : (p : ℕ → Bool) (xs : List ℕ) → list_all (λ x. not (p x)) xs ≡ true → from_on p (xs ++ []) ≡ []
from_on_all p [] h = refl
from_on_all p (x ∷ xs) h =
    let both = and_parts (not (p x)) (list_all (λ y. not (p y)) xs) h in
    let no = not-true (p x) both.0 in
    rw no (from_on_all p xs both.1)

-- the name of an option, with what follows it, is read back
name_read : (name : List ℕ) (value : Option (List ℕ)) → list_all is_letter name ≡ true
    → up_to is_separator (name ++ value_text value) ≡ name
name_read name None h = up_to_all is_separator name (all_give is_letter (λ c. not (is_separator c))
    letter_apart name h)
name_read name (Some value) h = up_to_at is_separator name 32 _ (all_give is_letter
    (λ c. not (is_separator c)) letter_apart name h) refl

value_read : (name : List ℕ) (value : Option (List ℕ)) → list_all is_letter name ≡ true
    → value_in (from_on (λ c. not (is_separator c)) (from_on is_separator (name ++ value_text value)))
    ≡ option_map (filter (λ b. not (eqb b 0))) value
value_read name None h = ap (λ t. value_in (from_on (λ c. not (is_separator c)) t))
    (from_on_all is_separator name (all_give is_letter (λ c. not (is_separator c)) letter_apart name h))
value_read name (Some value) h = ap (λ t. value_in (from_on (λ c. not (is_separator c)) t))
    (from_on_at is_separator name 32 _ (all_give is_letter (λ c. not (is_separator c)) letter_apart name h)
    refl) ∙ ap (λ v. Some v) (unquoted_value value [])

-- what curl reads from a line
abbrev read_line : List ℕ → Option CurlOption
read_line line = option_from (from_on (λ c. not (is_space c)) line)

option_read : (name : List ℕ) (value : Option (List ℕ)) → is_option_name name ≡ true
    → read_line (option_text (record { name = name; value = value }))
    ≡ Some (without_nuls (record { name = name; value = value }))
option_read [] value h = absurd (false≢true h)
option_read (b ∷ bs) value h =
    let first = and_parts (is_letter b) (list_all is_letter bs) h in
    let solid : not (is_space b) ≡ true = letter_space b first.0 in
    let differs : eqb b 35 ≡ false = letter_number_sign b first.0 in
    let text : List ℕ = (b ∷ bs) ++ value_text value in
    let skipped : from_on (λ c. not (is_space c)) text ≡ text = rw solid in
    let named : option_from text ≡ Some (record {
      name = up_to is_separator text;
      value = value_in (from_on (λ c. not (is_separator c)) (from_on is_separator text));
    }) = rw differs in
    ap option_from skipped ∙ named
    ∙ ap (λ n. Some (record {
      name = n;
      value = value_in (from_on (λ c. not (is_separator c)) (from_on is_separator text));
    })) (name_read (b ∷ bs) value h)
    ∙ ap (λ v. Some (record { name = b ∷ bs; value = v })) (value_read (b ∷ bs) value h)

-- a line contains no line feed
no_feed_value : (value : List ℕ) → list_all (λ c. not (eqb c 10)) (flat_map escape_of value ++ 34 ∷ []) ≡ true
no_feed_value [] = refl
no_feed_value (b ∷ bs) =
    let p : ℕ → Bool = λ c. not (eqb c 10) in
    ap (list_all p) (append_assoc (escape_of b) (flat_map escape_of bs) (34 ∷ []))
    ∙ list_all-append p (escape_of b) (flat_map escape_of bs ++ 34 ∷ [])
    ∙ and_from (list_all p (escape_of b)) (list_all p (flat_map escape_of bs ++ 34 ∷ []))
    (no_feed_byte b) (no_feed_value bs)

no_feed_text : (value : Option (List ℕ)) → list_all (λ c. not (eqb c 10)) (value_text value) ≡ true
no_feed_text None = refl
no_feed_text (Some value) = no_feed_value value

no_feed : (name : List ℕ) (value : Option (List ℕ)) → list_all is_letter name ≡ true
    → All (λ c. eqb c 10 ≡ false) (option_text (record { name = name; value = value }))
no_feed name value h =
    let p : ℕ → Bool = λ c. not (eqb c 10) in
    all_apart (λ c. eqb c 10) (name ++ value_text value)
    (list_all-append p name (value_text value) ∙ and_from (list_all p name) (list_all p (value_text value))
    (all_give is_letter p letter_feed name h) (no_feed_text value))

letters : (name : List ℕ) → is_option_name name ≡ true → list_all is_letter name ≡ true
letters [] h = refl
letters (b ∷ bs) h = h

-- what curl reads from the lines of options: these options, and no others
pub options_read : (options : List CurlOption) → list_all (λ o. is_option_name o.name) options ≡ true
    → options_in (flat_map option_line options) ≡ map without_nuls options
unfolding option_line
options_read [] h = refl
options_read (o ∷ options) h =
    let both = and_parts (is_option_name o.name) (list_all (λ x. is_option_name x.name) options) h in
    let text = option_text o in
    let rest = flat_map option_line options in
    ap options_in (append_assoc text (10 ∷ []) rest)
    ∙ ap (filter_map read_line) (slice_split_at (λ b. eqb b 10) text 10 rest
    (no_feed o.name o.value (letters o.name both.0)) refl)
    ∙ ap (λ x. cons_option x (options_in rest)) (option_read o.name o.value both.0)
    ∙ ap (λ xs. without_nuls o ∷ xs) (options_read options both.1)
