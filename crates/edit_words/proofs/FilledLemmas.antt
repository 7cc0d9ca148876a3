-- Inserting defaults: the arguments processed so far, and the remaining ones.
use Rattle.std.proofs.Math.Seq.{drop-cons}
use Rattle.std.proofs.Common.{Bor, ◌≤◌, drop_of_length-le, add-one, suc, zero, ◌≡◌, ◌∙◌, ◌<◌, ◌+◌, ◌++◌, ◌||◌, ◌∷◌, ℕ, List, [], Bool, true, false, Option, Some, None, ap, sym, refl, map, drop, length, codes, append_assoc, append-nil}
use Rattle.std.specs.Prelude.{MatchOption, if◌then◌else◌, option_map, slice_get}
use Rattle.std.proofs.lemmas.Option.{slice_get-get_or, slice_get_past}
use Rattle.std.specs.List.{HoldsAt, slice_index_or}
use Rattle.std.specs.Option.{option_map_or}
use Rattle.std.specs.Str.{bytes_eq}
use Rattle.clap.specs.Words.{Text}
use Rattle.edit_words.specs.Filled.{inserted_values, insert_defaults, is_one, missing_value}

-- what arguments become after an argument `--`, where there was one, or else
abbrev pub rest_of : Bool → List Text → List Text
rest_of true args = args
rest_of false args = insert_defaults args

-- one more argument
pub turn : (ended : Bool) (arg : Text) (rest : List Text)
    → rest_of ended (arg ∷ rest)
    ≡ (arg ∷ inserted_values (ended || bytes_eq arg (codes "--")) arg (slice_get rest 0))
    ++ rest_of (ended || bytes_eq arg (codes "--")) rest
unfolding insert_defaults
turn true arg rest = refl
turn false arg rest = go (bytes_eq arg (codes "--"))
  where
    go : (b : Bool)
        → arg ∷ (inserted_values b arg (slice_get rest 0) ++ (if b then rest else insert_defaults rest))
        ≡ (arg ∷ inserted_values b arg (slice_get rest 0)) ++ rest_of b rest
    go true = refl
    go false = refl

next_of : (args : List (Bor Text)) (n : ℕ)
    → option_map (λ (w : Bor Text). w.now) (slice_get args n)
    ≡ slice_get (map (λ (w : Bor Text). w.now) (drop n args)) 0
next_of [] zero = refl
next_of [] (suc n) = refl
next_of (arg ∷ args) zero = refl
next_of (arg ∷ args) (suc n) = next_of args n

-- one more argument of a slice
pub pushed : (ended now_ended : Bool) (args : List (Bor Text)) (n : ℕ) (arg other : Bor Text)
    (old new all : List Text) (next : Option Text)
    → n < length args → arg ≡ slice_index_or args n other
    → next ≡ option_map (λ (w : Bor Text). w.now) (slice_get args (n + 1))
    → now_ended ≡ (ended || bytes_eq arg.now (codes "--"))
    → new ≡ old ++ arg.now ∷ inserted_values now_ended arg.now next
    → old ++ rest_of ended (map (λ (w : Bor Text). w.now) (drop n args)) ≡ all
    → new ++ rest_of now_ended (map (λ (w : Bor Text). w.now) (drop (n + 1) args)) ≡ all
pushed ended now_ended args n arg other old new all next lt at is_next is_ended is_new before =
    let rest : List Text = map (λ (w : Bor Text). w.now) (drop (n + 1) args) in
    let split : drop n args ≡ arg ∷ drop (n + 1) args =
    drop-cons args n other lt ∙ ap (λ w. w ∷ drop (suc n) args) (sym at)
    ∙ ap (λ k. arg ∷ drop k args) (sym (add-one n)) in
    let first : next ≡ slice_get rest 0 = is_next ∙ next_of args (n + 1) in
    ap (λ xs. xs ++ rest_of now_ended rest) is_new
    ∙ append_assoc old (arg.now ∷ inserted_values now_ended arg.now next) (rest_of now_ended rest)
    ∙ ap (λ (o : Option Text). old ++ ((arg.now ∷ inserted_values now_ended arg.now o) ++ rest_of now_ended rest))
    first
    ∙ ap (λ (b : Bool). old ++ ((arg.now ∷ inserted_values b arg.now (slice_get rest 0)) ++ rest_of b rest))
    is_ended
    ∙ ap (λ xs. old ++ xs) (sym (turn ended arg.now rest))
    ∙ ap (λ (ws : List (Bor Text)). old ++ rest_of ended (map (λ (w : Bor Text). w.now) ws)) (sym split)
    ∙ before

rest_of_none : (ended : Bool) → rest_of ended [] ≡ []
unfolding insert_defaults
rest_of_none true = refl
rest_of_none false = refl

-- no more arguments
pub all_pushed : (ended : Bool) (args : List (Bor Text)) (n : ℕ) (old all : List Text) → length args ≤ n
    → old ++ rest_of ended (map (λ (w : Bor Text). w.now) (drop n args)) ≡ all → old ≡ all
all_pushed ended args n old all past before =
    let none : drop n args ≡ [] = drop_of_length-le args past in
    sym (append-nil old) ∙ ap (λ xs. old ++ xs) (sym (rest_of_none ended))
    ∙ ap (λ (ws : List (Bor Text)). old ++ rest_of ended (map (λ (w : Bor Text). w.now) ws)) (sym none)
    ∙ before

-- what is got of a slice
pub got : (o : Option (Bor (Bor Text))) (args : List (Bor Text)) (n : ℕ)
    → MatchOption o (length args ≤ n) (λ x. n < length args × HoldsAt (λ y. x.now ≡ y) args n)
    → option_map (λ (w : Bor (Bor Text)). w.now.now) o
    ≡ option_map (λ (w : Bor Text). w.now) (slice_get args n)
got None args n past = sym (ap (option_map (λ (w : Bor Text). w.now)) (slice_get_past args n past))
got (Some x) args n (lt, at) =
    let one : slice_get args n ≡ Some x.now = slice_get-get_or args n x.now lt
    ∙ ap (λ (w : Bor Text). Some w) (sym (at x.now)) in
    sym (ap (option_map (λ (w : Bor Text). w.now)) one)

-- nothing is missing where the next argument is a value
pub none_missing : (values : List Text) (next : Option Text)
    → option_map_or (is_one values) next false ≡ true → None ≡ missing_value values next
none_missing values next is = rw is refl

-- and else the first value
pub first_missing : (values : List Text) (next o : Option Text)
    → option_map_or (is_one values) next false ≡ false → o ≡ slice_get values 0
    → o ≡ missing_value values next
first_missing values next o is same = rw is same
