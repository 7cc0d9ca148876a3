-- The token that is found for an address.
use Rattle.std.proofs.Common.{◌≡◌, ℕ, List, [], ◌∷◌, ◌++◌, Bool, true, false, cond, Option, Some, None, option_map, refl, ap, sym, ◌∙◌, ⊎_elim}
use Rattle.std.specs.List.{find}
use Rattle.std.specs.Str.{bytes_eq}
use Rattle.std.proofs.lemmas.Bool.{cases_Bool}
use Rattle.std.proofs.lemmas.Slice.Eq.{bytes_eq-Decides}
use Rattle.edit_fetch.specs.Tokens.{IsTokenOf, token_of}
use Rattle.edit_fetch.specs.declared.tokens.Token.{Token}

-- what is given of a token, whichever way a test turned out
chosen : (k : Token) (rest : Option Token) (b : Bool) → b ≡ true
    → option_map (λ t. t.token.now) (cond b (Some k) rest) ≡ Some k.token.now
chosen k rest b yes_ = ap (λ x. option_map (λ (t : Token). t.token.now) (cond x (Some k) rest)) yes_

passed_over : (k : Token) (rest : Option Token) (b : Bool) → b ≡ false
    → option_map (λ t. t.token.now) (cond b (Some k) rest) ≡ option_map (λ t. t.token.now) rest
passed_over k rest b no_ = ap (λ x. option_map (λ (t : Token). t.token.now) (cond x (Some k) rest)) no_

-- the token that is found is in the list, and belongs to the address
pub found_token : (tokens : List Token) (address token : List ℕ)
    → token_of tokens address ≡ Some token → IsTokenOf tokens address token
found_token [] address token found = absurd (cc)
found_token (k ∷ ks) address token found =
    let test = bytes_eq k.address.now address in
    let rest = find (λ (t : Token). bytes_eq t.address.now address) ks in
    ⊎_elim (λ (same : test ≡ true).
    let is : Some k.token.now ≡ Some token = sym (chosen k rest test same) ∙ found in
    let own : k.address.now ≡ address = (bytes_eq-Decides k.address.now address).0 same in
    let whole : k ∷ ks ≡ [] ++ k ∷ ks = refl in
    let value : k.token.now ≡ token = cc in
    record { before = []; holder = k; after = ks; among = whole; own = own; is = value })
    (λ (other : test ≡ false).
    let later = found_token ks address token (sym (passed_over k rest test other) ∙ found) in
    record {
      before = k ∷ later.before;
      holder = later.holder;
      after = later.after;
      among = ap (λ xs. k ∷ xs) later.among;
      own = later.own;
      is = later.is;
    })
    (cases_Bool test)
