-- The values of an option in parsed arguments.
use Rattle.std.proofs.Common.{◌≡◌, ℕ, Bool, List, Option, Some, None, Result, Ok, Err, Bor, ap, codes, false, map, refl, subst, true, ◌∙◌, sym}
use Rattle.std.specs.Prelude.{[], IfErr, IsErrAnd, find, if◌then◌else◌, is_some, option_and_then, option_map, unwrap_or}
use Rattle.std.specs.Option.{option_map_or}
use Rattle.std.specs.Str.{bytes_eq}
use Rattle.clap.specs.Words.{Text, first_value, first_of, found_of, matched_of, raw_values, rows_of}
use Rattle.clap.specs.Facts.{Entry}
use Rattle.clap.specs.Walk.{Row, row_of}
use Rattle.clap.specs.declared.parser.ArgMatches.{ArgMatches}
use Rattle.clap.specs.declared.parser.matches.Found.{Found}
use Rattle.clap.specs.declared.parser.matches.MatchedArg.{MatchedArg}
use Rattle.clap.proofs.WalkLemmas.{find_row, first_value-rows, raw_values-rows}
use Rattle.edit_program.specs.ParsedOptions.{value_of, values_of}
use Rattle.edit_program.specs.Presented.{has_color, is_color}

or_other : (o : Option (Bor (List ℕ))) (d : Bor (List ℕ))
    → (unwrap_or o d).now ≡ unwrap_or (option_map (λ (s : Bor (List ℕ)). s.now) o) d.now
or_other None d = refl
or_other (Some s) d = refl

-- the text of an option, by the rows of the matches
pub value_is : (m : ArgMatches) (id other : Text) (o : Option (Bor (List ℕ))) (r d : Bor (List ℕ))
    → option_map (λ (s : Bor (List ℕ)). s.now) o ≡ first_value (found_of m) id → r ≡ unwrap_or o d
    → d.now ≡ other
    → r.now ≡ value_of id other (rows_of (found_of m))
value_is m id other o r d found is same =
    ap (λ (x : Bor (List ℕ)). x.now) is ∙ or_other o d
    ∙ ap (unwrap_or (option_map (λ (s : Bor (List ℕ)). s.now) o)) same
    ∙ ap (λ x. unwrap_or x other) (found ∙ first_value-rows (found_of m) id)

-- what is made of the text of an option, where it has one
pub some_is : {A : Type 0} (f : Text → A) (m : ArgMatches) (id : Text) (o : Option (Bor (List ℕ)))
    (v : Bor (List ℕ)) → o ≡ Some v
    → option_map (λ (s : Bor (List ℕ)). s.now) o ≡ first_value (found_of m) id
    → Some (f v.now) ≡ option_map f (first_of id (rows_of (found_of m)))
some_is f m id o v is found =
    ap (λ (p : Option (Bor (List ℕ))). option_map f (option_map (λ (s : Bor (List ℕ)). s.now) p)) (sym is)
    ∙ ap (option_map f) (found ∙ first_value-rows (found_of m) id)

-- and where it has none
pub none_is : {A : Type 0} (f : Text → A) (m : ArgMatches) (id : Text) (o : Option (Bor (List ℕ))) → o ≡ None
    → option_map (λ (s : Bor (List ℕ)). s.now) o ≡ first_value (found_of m) id
    → None ≡ option_map f (first_of id (rows_of (found_of m)))
none_is f m id o is found =
    ap (λ (p : Option (Bor (List ℕ))). option_map f (option_map (λ (s : Bor (List ℕ)). s.now) p)) (sym is)
    ∙ ap (option_map f) (found ∙ first_value-rows (found_of m) id)

-- the values of an option, by the rows of the matches
pub values_are : (m : ArgMatches) (id : Text) (o : Option (Bor (List (Bor Text))))
    → option_map (λ (s : Bor (List (Bor Text))). map (λ (v : Bor Text). v.now) s.now) o
    ≡ option_map raw_values (matched_of (found_of m) id)
    → unwrap_or (option_map (λ (s : Bor (List (Bor Text))). map (λ (v : Bor Text). v.now) s.now) o) []
    ≡ values_of id (rows_of (found_of m))
values_are m id o found = ap (λ (x : Option (List Text)). unwrap_or x []) (found ∙ raw_values-rows (found_of m) id)

-- and where there are some
pub values_there : (m : ArgMatches) (id : Text) (o : Option (Bor (List (Bor Text)))) (s : Bor (List (Bor Text)))
    → o ≡ Some s
    → option_map (λ (s : Bor (List (Bor Text))). map (λ (v : Bor Text). v.now) s.now) o
    ≡ option_map raw_values (matched_of (found_of m) id)
    → map (λ (v : Bor Text). v.now) s.now ≡ values_of id (rows_of (found_of m))
values_there m id o s is found =
    ap (λ (p : Option (Bor (List (Bor Text)))).
    unwrap_or (option_map (λ (s : Bor (List (Bor Text))). map (λ (v : Bor Text). v.now) s.now) p) []) (sym is)
    ∙ values_are m id o found

-- and where there are none
pub values_absent : (m : ArgMatches) (id : Text) (o : Option (Bor (List (Bor Text)))) → o ≡ None
    → option_map (λ (s : Bor (List (Bor Text))). map (λ (v : Bor Text). v.now) s.now) o
    ≡ option_map raw_values (matched_of (found_of m) id)
    → [] ≡ values_of id (rows_of (found_of m))
values_absent m id o is found =
    ap (λ (p : Option (Bor (List (Bor Text)))).
    unwrap_or (option_map (λ (s : Bor (List (Bor Text))). map (λ (v : Bor Text). v.now) s.now) p) []) (sym is)
    ∙ values_are m id o found

-- what is made of the text of an option, where that is all of it
pub option_text_is : (m : ArgMatches) (id : Text) (o : Option (Bor (List ℕ))) (x : Option Text)
    → x ≡ option_map (λ (s : Bor (List ℕ)). s.now) o
    → option_map (λ (s : Bor (List ℕ)). s.now) o ≡ first_value (found_of m) id
    → x ≡ first_of id (rows_of (found_of m))
option_text_is m id o x is found = is ∙ found ∙ first_value-rows (found_of m) id

some_map : (o : Option (Bor (List ℕ))) → is_some o ≡ is_some (option_map (λ (s : Bor (List ℕ)). s.now) o)
some_map None = refl
some_map (Some s) = refl

-- whether an option has a text
pub is_there : (m : ArgMatches) (id : Text) (o : Option (Bor (List ℕ)))
    → option_map (λ (s : Bor (List ℕ)). s.now) o ≡ first_value (found_of m) id
    → is_some o ≡ is_some (first_of id (rows_of (found_of m)))
is_there m id o found = some_map o ∙ ap is_some (found ∙ first_value-rows (found_of m) id)

-- where the value of an option comes from, by the rows of the matches
pub source-rows : (f : Found) (id : Text)
    → option_and_then (λ (a : MatchedArg). a.source) (matched_of f id)
    ≡ option_and_then (λ (r : Row). r.source) (find (λ r. bytes_eq r.id id) (rows_of f))
source-rows f id =
    go (find (λ (e : Entry). bytes_eq e.0.now id) f.entries.items)
    ∙ ap (option_and_then (λ (r : Row). r.source)) (sym (find_row f.entries.items id))
  where
    go : (o : Option Entry) → option_and_then (λ (a : MatchedArg). a.source) (option_map (λ e. e.1) o)
        ≡ option_and_then (λ (r : Row). r.source) (option_map row_of o)
    go None = refl
    go (Some e) = refl

-- what holds of an error holds of the one that a caller hands on
pub err_same : {T E : Type 0} (r : Result T E) (e : E) (P : E → Type 0)
    → IsErrAnd r (λ other. other ≡ e) → P e → IfErr r P
err_same (Ok x) e P same h = tt
err_same (Err other) e P same h = subst P (sym same) h

-- a fact that each error has
pub err_always : {T E : Type 0} (r : Result T E) {P : Type 0} → P → IfErr r (λ _. P)
err_always (Ok x) h = tt
err_always (Err e) h = h

-- ---- when reports are colored

-- the value of `--color`, where it is given
pub color_is : (m : ArgMatches) (o : Option (Bor (List ℕ))) (color : Bor (List ℕ)) → o ≡ Some color
    → option_map (λ (s : Bor (List ℕ)). s.now) o ≡ first_value (found_of m) (codes "color")
    → has_color (rows_of (found_of m)) ≡ is_color color.now
color_is m o color is found =
    ap (λ (x : Option Text). option_map_or is_color x true)
    (sym (ap (option_map (λ (s : Bor (List ℕ)). s.now)) (sym is) ∙ found
    ∙ first_value-rows (found_of m) (codes "color")))

-- where it is not given
pub no_color : (m : ArgMatches) (o : Option (Bor (List ℕ))) → o ≡ None
    → option_map (λ (s : Bor (List ℕ)). s.now) o ≡ first_value (found_of m) (codes "color")
    → has_color (rows_of (found_of m)) ≡ true
no_color m o is found =
    ap (λ (x : Option Text). option_map_or is_color x true)
    (sym (ap (option_map (λ (s : Bor (List ℕ)). s.now)) (sym is) ∙ found
    ∙ first_value-rows (found_of m) (codes "color")))

-- a choice whose test holds
pub same_if : {A : Type 0} (b : Bool) (o : Option A) → b ≡ true → (if b then o else None) ≡ o
same_if b o is = ap (λ x. if x then o else None) is

-- and one whose test does not
pub none_unless : {A : Type 0} (b : Bool) (o : Option A) → b ≡ false → (if b then o else None) ≡ None
none_unless b o is = ap (λ x. if x then o else None) is
