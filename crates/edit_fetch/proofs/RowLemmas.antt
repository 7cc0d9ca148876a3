-- The options of several transfers, with one transfer more at the end.
use Rattle.std.proofs.Common.{◌≡◌, ◌<◌, ◌+◌, ℕ, List, [], ◌∷◌, ◌++◌, length, map, take, get_or, ap, sym, ◌∙◌, cond, eqb, suc, false, arith, rules}
use Rattle.std.specs.List.{flat_map}
use Rattle.std.proofs.lemmas.List.{append-nil, append_assoc, length-map, length-take-le, map_more}
use Rattle.std.proofs.lemmas.List.Concat.{flat_map-append}
use Rattle.edit_fetch.specs.CurlConfig.{CurlOption, config_text, in_a_row, next, option_line, transfer_separator, valued}

parting_later : (n : ℕ) → transfer_separator (suc n) ≡ next ∷ []
parting_later n =
    let later : eqb (suc n) 0 ≡ false = search rules in
    ap (λ b. cond b [] (next ∷ [])) later

in_a_row_push : (ts : List (List CurlOption)) (t : List CurlOption)
    → in_a_row (ts ++ t ∷ []) ≡ in_a_row ts ++ (transfer_separator (length ts) ++ t)
in_a_row_push [] t = append-nil t
in_a_row_push (first ∷ ts) t =
    let between : List CurlOption → List CurlOption = λ options. (next ∷ []) ++ options in
    ap (λ xs. first ++ xs) (flat_map-append between ts (t ∷ [])
    ∙ ap (λ xs. flat_map between ts ++ xs) (append-nil (between t)))
    ∙ sym (append_assoc first (flat_map between ts) (between t))
    ∙ ap (λ p. (first ++ flat_map between ts) ++ (p ++ t)) (sym (parting_later (length ts)))

config_text_push : (ts : List (List CurlOption)) (t : List CurlOption)
    → config_text (ts ++ t ∷ []) ≡ config_text ts ++ flat_map option_line (transfer_separator (length ts) ++ t)
config_text_push ts t =
    ap (flat_map option_line) (in_a_row_push ts t)
    ∙ flat_map-append option_line (in_a_row ts) (transfer_separator (length ts) ++ t)

length-front : {X Y : Type 0} (f : X → Y) (xs : List X) (i : ℕ) → i < length xs
    → length (map f (take i xs)) ≡ i
length-front f xs i within = length-map (take i xs) f ∙ length-take-le i xs (omega arith)

-- the text for one transfer more
pub config_text_more : {X : Type 0} (f : X → List CurlOption) (xs : List X) (i : ℕ) (x : X)
    (old new : List ℕ) → i < length xs → x ≡ get_or xs i x
    → old ≡ config_text (map f (take i xs)) → new ≡ old ++ flat_map option_line (transfer_separator i ++ f x)
    → new ≡ config_text (map f (take (i + 1) xs))
config_text_more f xs i x old new within is so_far added =
    let more : map f (take (i + 1) xs) ≡ map f (take i xs) ++ f x ∷ [] = map_more f xs i x within
    ∙ ap (λ y. map f (take i xs) ++ f y ∷ []) (sym is) in
    added ∙ ap (λ s. s ++ flat_map option_line (transfer_separator i ++ f x)) so_far
    ∙ ap (λ n. config_text (map f (take i xs)) ++ flat_map option_line (transfer_separator n ++ f x))
    (sym (length-front f xs i within))
    ∙ sym (ap config_text more ∙ config_text_push (map f (take i xs)) (f x))

-- two, three or four lines one after another
pub two_lines : (t a b : List ℕ) (x y : CurlOption) → a ≡ t ++ option_line x → b ≡ a ++ option_line y
    → b ≡ t ++ flat_map option_line (x ∷ y ∷ [])
two_lines t a b x y first second =
    second ∙ ap (λ s. s ++ option_line y) first ∙ append_assoc t (option_line x) (option_line y)
    ∙ ap (λ s. t ++ (option_line x ++ s)) (sym (append-nil (option_line y)))

pub four_lines : (t a b c d : List ℕ) (w x y z : CurlOption) → a ≡ t ++ option_line w
    → b ≡ a ++ option_line x → c ≡ b ++ option_line y → d ≡ c ++ option_line z
    → d ≡ t ++ flat_map option_line (w ∷ x ∷ y ∷ z ∷ [])
four_lines t a b c d w x y z first second third fourth =
    two_lines b c d y z third fourth
    ∙ ap (λ s. s ++ flat_map option_line (y ∷ z ∷ [])) (two_lines t a b w x first second)
    ∙ append_assoc t (flat_map option_line (w ∷ x ∷ [])) (flat_map option_line (y ∷ z ∷ []))
    ∙ ap (λ s. t ++ s) (sym (flat_map-append option_line (w ∷ x ∷ []) (y ∷ z ∷ [])))

-- the lines of options, and then those of others
pub then_more : (t u v : List ℕ) (xs ys : List CurlOption) → u ≡ t ++ flat_map option_line xs
    → v ≡ u ++ flat_map option_line ys → v ≡ t ++ flat_map option_line (xs ++ ys)
then_more t u v xs ys first second =
    second ∙ ap (λ s. s ++ flat_map option_line ys) first
    ∙ append_assoc t (flat_map option_line xs) (flat_map option_line ys)
    ∙ ap (λ s. t ++ s) (sym (flat_map-append option_line xs ys))

-- a line with an equal value
pub line_same : (t u name a b : List ℕ) → u ≡ t ++ option_line (valued name a) → a ≡ b
    → u ≡ t ++ option_line (valued name b)
line_same t u name a b line same = line ∙ ap (λ v. t ++ option_line (valued name v)) same

-- one line
pub one_line : (t u : List ℕ) (x : CurlOption) → u ≡ t ++ option_line x
    → u ≡ t ++ flat_map option_line (x ∷ [])
one_line t u x line = line ∙ ap (λ s. t ++ s) (sym (append-nil (option_line x)))
