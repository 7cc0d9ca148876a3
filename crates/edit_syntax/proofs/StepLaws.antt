-- The steps over values and keys of arrays and inline tables end where these end.
use Rattle.std.proofs.Common.{◌≡◌, ℕ, true, false, List, ◌∷◌, ◌++◌, Option, Some, None, refl, sym, ap, ◌∙◌, arith}
use Rattle.std.proofs.lemmas.Bool.Decides.{nat_tests}
use Rattle.edit_syntax.specs.Characters.{equals, is_blank}
use Rattle.edit_syntax.specs.Strings.{Key, key}
use Rattle.edit_syntax.specs.Grammar.{Between, gap, Value, value}
use Rattle.edit_syntax.specs.Reading.{first, past_blanks, past, key_at, value_at}
use Rattle.edit_syntax.specs.Steps.{ends_item, IsItem, IsKeyAndSign}
use Rattle.edit_base.specs.Errors.{IsMemory}
use Rattle.edit_base.specs.declared.errors.Error.{Error}
use Rattle.edit_syntax.specs.declared.read.syntax_tokens.ReadError.{ReadError}
use Rattle.edit_syntax.specs.declared.read.syntax_tokens.ReadError.TheVariants.{Memory, NotToml}
use Rattle.edit_syntax.proofs.TokenLaws.{some_is, after_again}
use Rattle.edit_syntax.proofs.NumberEnds.{is_stop}
use Rattle.edit_syntax.proofs.GapLaws.{opens_gap, gap_ends}
use Rattle.edit_syntax.proofs.KeyLaws.{key_again, ends_key}
use Rattle.edit_syntax.proofs.ValueReadAgain.{value_again}

item_stops : (b : ℕ) → ends_item b ≡ true → is_stop b ≡ true
item_stops b h = grind (arith, nat_tests)

-- what ends an item begins no gap
pub item_gapless : (b : ℕ) → ends_item b ≡ true → opens_gap b ≡ false
item_gapless b h = grind (arith, nat_tests)

-- the value is read
pub item_again : (v : Value) (g : List Between) (rest : List ℕ) → IsItem v g rest
    → value_at 80 (value v (gap g rest)) ≡ Some (v, gap g rest)
item_again v g rest h = value_again v 80 h.valid h.shallow (gap g rest)
    (gap_ends g rest h.between (item_stops (first rest) h.ends))

-- the key is read
pub naming_again : (k : Key) (a b more : List ℕ) → IsKeyAndSign k a b more
    → key_at (key k (a ++ (equals ∷ (b ++ more)))) ≡ Some (k, a ++ (equals ∷ (b ++ more)))
naming_again k a b more h = key_again k (a ++ (equals ∷ (b ++ more))) h.key
    (ends_key a equals (b ++ more) h.before refl refl refl)

-- the white space before the equals sign
pub naming_sign : (k : Key) (a b more : List ℕ) → IsKeyAndSign k a b more
    → past_blanks (a ++ (equals ∷ (b ++ more))) ≡ equals ∷ (b ++ more)
naming_sign k a b more h = after_again is_blank a (equals ∷ (b ++ more)) h.before refl

-- the white space behind it
pub naming_value : (k : Key) (a b more : List ℕ) → IsKeyAndSign k a b more → past_blanks (b ++ more) ≡ more
naming_value k a b more h = after_again is_blank b more h.behind h.begins

some_none : {A : Type 0} (o : Option A) (x : A) → o ≡ Some x → o ≡ None → ⊥
some_none o x e n = cc

not_memory : (l : ℕ) → NotToml l ≡ Memory → ⊥
not_memory l e = cc

-- an error in reading a text that is sure to be read
pub refused_memory : {A : Type 0} (o : Option A) (x : A) (e : ReadError) (r : Error) → o ≡ Some x
    → ((e ≡ Memory → ⊥) → o ≡ None) → (e ≡ Memory → IsMemory r) → IsMemory r
refused_memory o x Memory r some other wants = wants refl
refused_memory o x (NotToml l) r some other wants = absurd (some_none o x some (other (not_memory l)))

-- what is read there is the value alone
pub item_read : (s r : List ℕ) (x v : Value) (g : List Between) (rest : List ℕ) → IsItem v g rest
    → s ≡ value v (gap g rest) → value_at 80 s ≡ Some (x, r) → r ≡ gap g rest
item_read s r x v g rest h e read = ap (λ (p : Value × List ℕ). p.1)
    (some_is (x, r) (v, gap g rest) (sym read ∙ ap (value_at 80) e ∙ item_again v g rest h))

-- what is read there is the key
pub naming_read : (s r : List ℕ) (x k : Key) (a b more : List ℕ) → IsKeyAndSign k a b more
    → s ≡ key k (a ++ (equals ∷ (b ++ more))) → key_at s ≡ Some (x, r) → (x ≡ k)
    × (r ≡ a ++ (equals ∷ (b ++ more)))
naming_read s r x k a b more h e read =
    let same = some_is (x, r) (k, a ++ (equals ∷ (b ++ more)))
    (sym read ∙ ap key_at e ∙ naming_again k a b more h) in
    (ap (λ (p : Key × List ℕ). p.0) same, ap (λ (p : Key × List ℕ). p.1) same)

-- what follows the equals sign
pub sign_read : (s : List ℕ) (k : Key) (a b more : List ℕ) → IsKeyAndSign k a b more
    → s ≡ a ++ (equals ∷ (b ++ more)) → past equals (past_blanks s) ≡ Some (b ++ more)
sign_read s k a b more h e = rw (e, naming_sign k a b more h) refl

-- there is an equals sign
pub sign_there : (s : List ℕ) (k : Key) (a b more : List ℕ) → IsKeyAndSign k a b more
    → s ≡ a ++ (equals ∷ (b ++ more)) → past equals (past_blanks s) ≡ None → ⊥
sign_there s k a b more h e n = some_none _ (b ++ more) (sign_read s k a b more h e) n
