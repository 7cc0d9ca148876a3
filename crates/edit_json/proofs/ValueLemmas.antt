-- A value that consists of one token.
use Rattle.std.proofs.Common.{◌≡◌, ℕ, ◌⊎◌, inl, inr, Bool, List, [], ◌∷◌, Option, Some, None, refl, sym, ap, ◌∙◌, arith}
use Rattle.std.specs.Fmt.{decimal, digits}
use Rattle.json.specs.Token.{Token}
use Rattle.json.specs.Json.{after_end_array, value}
use Rattle.json.proofs.Grammar.{value_is}
use Rattle.serde_json.specs.Data.{Data, Num, unsigned, null, boolean, number, string}
use Rattle.serde_json.specs.Read.{of_json, converted, number_of}
use Rattle.serde_json.proofs.Numbers.{number_of-decimal}
use Rattle.edit_json.specs.Reads.{ReadsValue}

one : decimal 1 ≡ 49 ∷ []
unfolding digits
one = refl

two : decimal 2 ≡ 50 ∷ []
unfolding digits
two = refl

pub plain_number : (s : List ℕ) → (s ≡ 49 ∷ []) ⊎ (s ≡ 50 ∷ []) → (n : Num) × (number_of s ≡ Some n)
plain_number s (inl e) = (unsigned 1, ap number_of (e ∙ sym one) ∙ number_of-decimal 1 (omega arith))
plain_number s (inr e) = (unsigned 2, ap number_of (e ∙ sym two) ∙ number_of-decimal 2 (omega arith))

module _ (depth : ℕ) (ts r : List Token) where
  pub reads_string : (s : List ℕ) → ts ≡ Token.string s ∷ r → ReadsValue depth ts (string s) r
  reads_string s is = ap (converted of_json) (ap (value depth) is ∙ value_is depth _)

  pub reads_boolean : (b : Bool) → ts ≡ Token.boolean b ∷ r → ReadsValue depth ts (boolean b) r
  reads_boolean b is = ap (converted of_json) (ap (value depth) is ∙ value_is depth _)

  pub reads_null : ts ≡ Token.null ∷ r → ReadsValue depth ts null r
  reads_null is = ap (converted of_json) (ap (value depth) is ∙ value_is depth _)

  pub reads_number : (s : List ℕ) → ts ≡ Token.number s ∷ r → (s ≡ 49 ∷ []) ⊎ (s ≡ 50 ∷ []) → (d : Data) × ReadsValue depth ts d r
  reads_number s is small =
      let plain = plain_number s small in
      (number plain.0, ap (converted of_json) (ap (value depth) is ∙ value_is depth _) ∙ rw plain.1)

-- ---- where a value stands, no array ends

not_both : (o : Option (Data × List Token)) (p : Data × List Token) → o ≡ None → o ≡ Some p → ⊥
not_both o p e f = cc

no_value : (depth : ℕ) (ts r : List Token) (d : Data) → value depth ts ≡ None → ReadsValue depth ts d r → ⊥
no_value depth ts r d none reads = not_both (converted of_json (value depth ts)) (d, r) (ap (converted of_json) none) reads

pub value_goes_on : (depth : ℕ) (ts r : List Token) (d : Data) → ReadsValue depth ts d r → after_end_array ts ≡ None
value_goes_on depth [] r d reads = refl
value_goes_on depth (Token.begin_object ∷ ts) r d reads = refl
value_goes_on depth (Token.end_object ∷ ts) r d reads = refl
value_goes_on depth (Token.begin_array ∷ ts) r d reads = refl
value_goes_on depth (Token.end_array ∷ ts) r d reads = absurd (no_value depth (Token.end_array ∷ ts) r d (value_is depth (Token.end_array ∷ ts)) reads)
value_goes_on depth (Token.key s ∷ ts) r d reads = refl
value_goes_on depth (Token.string s ∷ ts) r d reads = refl
value_goes_on depth (Token.number s ∷ ts) r d reads = refl
value_goes_on depth (Token.boolean b ∷ ts) r d reads = refl
value_goes_on depth (Token.null ∷ ts) r d reads = refl
value_goes_on depth (Token.bad ∷ ts) r d reads = refl
