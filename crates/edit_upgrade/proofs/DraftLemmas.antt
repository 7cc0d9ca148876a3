-- A draft of inputs, after one more input.
use Rattle.std.proofs.Common.{◌≡◌, ◌≢◌, ◌∷◌, ◌++◌, [], List, ℕ, Some, Bool, true, false, suc, refl, ap, ◌∙◌, sym, subst, inl, inr, ◌⊎◌, ◌<◌, arith, length, map}
use Rattle.std.specs.Prelude.{All, filter, not, option_map, slice_get, ◌==◌}
use Rattle.std.specs.Global.{Vec}
use Rattle.std.specs.List.{flat_map}
use Rattle.std.specs.Str.{bytes_eq}
use Rattle.std.proofs.lemmas.Bool.{cases_Bool}
use Rattle.std.proofs.lemmas.Bool.Decides.{Decides-eqb}
use Rattle.std.proofs.lemmas.Grind.{flat_map-append}
use Rattle.std.proofs.lemmas.List.{map-append}
use Rattle.std.proofs.lemmas.List.Elements.{All-append, All-cons, All-nil, All-weaker, filter-append}
use Rattle.std.proofs.lemmas.Option.{slice_get_within}
use Rattle.edit_tree.specs.Tree.{view_at}
use Rattle.edit_metadata.specs.declared.input.Input.{Input}
use Rattle.edit_report.specs.declared.output.Output.{Output}
use Rattle.edit_sources.specs.declared.config.Config.{Config}
use Rattle.edit_version.specs.RustVersions.{numbers_of}
use Rattle.edit_upgrade.specs.Drafts.{ArePlanned, IsPathAmong, IsPlanned, lines_on, outputs_on, warnings_among}
use Rattle.edit_metadata.specs.Inputs.{path_of}
use Rattle.edit_upgrade.specs.Inputs.{below, output_path}
use Rattle.edit_upgrade.specs.Lists.{WarningView}
use Rattle.edit_upgrade.specs.LookupSteps.{Stays}
use Rattle.edit_upgrade.specs.Lookups.{CachedAnswers}
use Rattle.edit_upgrade.specs.Records.{row_entries}
use Rattle.edit_upgrade.specs.Rows.{Line}
use Rattle.edit_upgrade.specs.declared.decision.options.Options.{Options}
use Rattle.edit_upgrade.proofs.Bytes.{apart-false, same-refl}
use Rattle.edit_upgrade.proofs.EndLemmas.{all-below, filter-front, filter-last, filter-same, flat-one, flat-same, get-cases, get-front, get-last, length-more}
use Rattle.edit_upgrade.proofs.InputRows.{decided-inputs, one-path-order, warned-inputs, written-paths}
use Rattle.edit_upgrade.proofs.WalkLemmas.{passed-stays, rows-stay}

-- the plan of an input stays, where more answers are cached
planned-stays : (i : ℕ) (o : Options) (x : Input) (configs : List Config) (now next : CachedAnswers)
    (ls : List Line) (os : List Output) (ts : List WarningView)
    → Stays now next → IsPlanned i o x configs now ls os ts → IsPlanned i o x configs next ls os ts
planned-stays i o x configs now next ls os ts stays p = record {
  form = p.form;
  manifest = p.manifest;
  passed = passed-stays configs now next (row_entries (view_at p.form)) stays p.passed;
  decided = rows-stay i o (option_map numbers_of x.rust_version) configs now next (row_entries (view_at p.form))
      ls stays p.passed p.decided;
  writes = p.writes;
  warned = p.warned;
}

-- a test of numbers that differ
differ : (m n : ℕ) → (m ≡ n → ⊥) → (m == n) ≡ false
differ m n h = elim (cases_Bool (m == n)) [
  | inl same ↦ absurd (h ((Decides-eqb m n).0 same))
  | inr other ↦ other
]

-- none of these rows is of another input, and none of these outputs at another path
others : {A : Type 0} (f : A → ℕ) (n i : ℕ) (xs : List A) → i < n → All (λ x. f x ≡ n) xs
    → All (λ x. (f x == i) ≡ false) xs
others f n i xs low h = All-weaker (λ x. f x ≡ n) (λ x. (f x == i) ≡ false)
    (λ x e. differ (f x) i (λ g. omega (arith, low, e, g))) xs h

lows : {A : Type 0} (f : A → ℕ) (n : ℕ) (xs : List A) → All (λ x. f x < n) xs
    → All (λ x. (f x == n) ≡ false) xs
lows f n xs h = All-weaker (λ x. f x < n) (λ x. (f x == n) ≡ false)
    (λ x e. differ (f x) n (λ g. omega (arith, e, g))) xs h

owns : {A : Type 0} (f : A → ℕ) (n : ℕ) (xs : List A) → All (λ x. f x ≡ n) xs
    → All (λ x. (f x == n) ≡ true) xs
owns f n xs h = All-weaker (λ x. f x ≡ n) (λ x. (f x == n) ≡ true) (λ x e. (Decides-eqb (f x) n).1 e) xs h

-- the numbers of a list with one more of this number
more-below : {A : Type 0} (f : A → ℕ) (n m : ℕ) (xs ys : List A) → m ≡ suc n → All (λ x. f x < n) xs
    → All (λ x. f x ≡ n) ys → All (λ x. f x < m) (xs ++ ys)
more-below f n m xs ys is low own =
    All-append (λ x. f x < m) xs ys
    (All-weaker (λ x. f x < n) (λ x. f x < m) (λ x e. omega (arith, e, is)) xs low)
    (All-weaker (λ x. f x ≡ n) (λ x. f x < m) (λ x e. omega (arith, e, is)) ys own)

-- those of each number, one number after another, with those of the next number behind them
in-turn-more : {A : Type 0} (f : A → ℕ) (n m : ℕ) (xs ys : List A) → m ≡ suc n → All (λ x. f x < n) xs
    → All (λ x. f x ≡ n) ys → xs ≡ flat_map (λ i. filter (λ x. f x == i) xs) (below n)
    → xs ++ ys ≡ flat_map (λ i. filter (λ x. f x == i) (xs ++ ys)) (below m)
in-turn-more {A} f n m xs ys is low own turns =
    let old : ℕ → List A = λ i. filter (λ x. f x == i) xs in
    let all : ℕ → List A = λ i. filter (λ x. f x == i) (xs ++ ys) in
    let front : flat_map old (below n) ≡ flat_map all (below n) =
    flat-same old all (below n) (all-below (λ i. old i ≡ all i) n
    (λ i less. sym (filter-front (λ x. f x == i) xs ys (others f n i ys less own)))) in
    let last : all n ≡ ys = filter-last (λ x. f x == n) xs ys (lows f n xs low) (owns f n ys own) in
    ap (λ (l : List A). l ++ ys) (turns ∙ front)
    ∙ ap (λ (l : List A). flat_map all (below n) ++ l) (sym last ∙ sym (flat-one all n))
    ∙ sym (flat_map-append all (below n) (n ∷ [])) ∙ ap (λ (k : ℕ). flat_map all (below k)) (sym is)

-- outputs of an input whose path none of these has
not-there : (xs : List Input) (path : List ℕ) (os : List Output)
    → ((j : ℕ) (y : Input) → slice_get xs j ≡ Some y → path_of y ≢ path)
    → All (λ o. IsPathAmong xs (output_path o)) os → All (λ o. bytes_eq (output_path o) path ≡ false) os
not-there xs path os new h =
    All-weaker (λ o. IsPathAmong xs (output_path o)) (λ o. bytes_eq (output_path o) path ≡ false)
    (λ o a. apart-false (output_path o) path (λ e. new a.i a.input a.at (sym a.path_is ∙ e))) os h

at-other : (path other : List ℕ) (os : List Output) → other ≢ path → All (λ o. output_path o ≡ path) os
    → All (λ o. bytes_eq (output_path o) other ≡ false) os
at-other path other os differs h =
    All-weaker (λ o. output_path o ≡ path) (λ o. bytes_eq (output_path o) other ≡ false)
    (λ o e. apart-false (output_path o) other (λ g. differs (sym g ∙ e))) os h

at-own : (path : List ℕ) (os : List Output) → All (λ o. output_path o ≡ path) os
    → All (λ o. bytes_eq (output_path o) path ≡ true) os
at-own path os h =
    All-weaker (λ o. output_path o ≡ path) (λ o. bytes_eq (output_path o) path ≡ true)
    (λ o e. ap (λ (x : List ℕ). bytes_eq x path) e ∙ same-refl path) os h

among-more : (xs : List Input) (x : Input) (path : List ℕ) → IsPathAmong xs path
    → IsPathAmong (xs ++ x ∷ []) path
among-more xs x path a = record {
  i = a.i;
  input = a.input;
  at = get-front xs (x ∷ []) a.i a.input a.at;
  path_is = a.path_is;
}

-- the paths of a list of inputs, each of which has what every input has
all-paths : (P : List ℕ → Type 0) (xs : List Input) → ((j : ℕ) (y : Input) → slice_get xs j ≡ Some y
    → P (path_of y)) → All P (map path_of xs)
all-paths P [] h = All-nil P
all-paths P (x ∷ xs) h = All-cons P (path_of x) (map path_of xs) (h 0 x refl)
    (all-paths P xs (λ j y e. h (suc j) y e))

-- the test that leaves the paths with outputs
abbrev has_some : List Output → List ℕ → Bool
has_some os path = not (length (outputs_on path os) == 0)

-- the rows, outputs and warnings of inputs with one more
module _ (o : Options) (now next : CachedAnswers) (xs : List Input) (cs : List (Vec Config)) (ls lines : List Line)
    (os outputs : List Output)
    (ts warnings : List WarningView) (x : Input) (own : Vec Config) (stays : Stays now next)
    (p : ArePlanned o now xs cs ls os ts)
    (one : IsPlanned (length xs) o x own.items next lines outputs warnings) (long : length cs ≡ length xs)
    (new : (j : ℕ) (y : Input) → slice_get xs j ≡ Some y → path_of y ≢ path_of x) where
  rows-own : All (λ (l : Line). l.input ≡ length xs) lines
  rows-own = decided-inputs (length xs) o (option_map numbers_of x.rust_version) own.items next
      (row_entries (view_at one.form)) lines one.decided

  warnings-own : All (λ (t : WarningView). t.input ≡ length xs) warnings
  warnings-own = warned-inputs o (length xs) x.bytes.items warnings one.warned

  outputs-own : All (λ (q : Output). output_path q ≡ path_of x) outputs
  outputs-own = written-paths (path_of x) x.bytes.items lines outputs one.writes

  lines-front : (i : ℕ) → i < length xs → lines_on i (ls ++ lines) ≡ lines_on i ls
  lines-front i low = filter-front (λ (l : Line). l.input == i) ls lines
      (others (λ (l : Line). l.input) (length xs) i lines low rows-own)

  lines-last : lines_on (length xs) (ls ++ lines) ≡ lines
  lines-last = filter-last (λ (l : Line). l.input == length xs) ls lines
      (lows (λ (l : Line). l.input) (length xs) ls p.rows_below)
      (owns (λ (l : Line). l.input) (length xs) lines rows-own)

  warnings-front : (i : ℕ) → i < length xs → warnings_among i (ts ++ warnings) ≡ warnings_among i ts
  warnings-front i low = filter-front (λ (t : WarningView). t.input == i) ts warnings
      (others (λ (t : WarningView). t.input) (length xs) i warnings low warnings-own)

  warnings-last : warnings_among (length xs) (ts ++ warnings) ≡ warnings
  warnings-last = filter-last (λ (t : WarningView). t.input == length xs) ts warnings
      (lows (λ (t : WarningView). t.input) (length xs) ts p.warnings_below)
      (owns (λ (t : WarningView). t.input) (length xs) warnings warnings-own)

  outputs-front : (path : List ℕ) → path ≢ path_of x → outputs_on path (os ++ outputs) ≡ outputs_on path os
  outputs-front path differs =
      filter-front (λ (q : Output). bytes_eq (output_path q) path) os outputs
      (at-other (path_of x) path outputs differs outputs-own)

  outputs-last : outputs_on (path_of x) (os ++ outputs) ≡ outputs
  outputs-last = filter-last (λ (q : Output). bytes_eq (output_path q) (path_of x)) os outputs
      (not-there xs (path_of x) os new p.paths_among)
      (at-own (path_of x) outputs outputs-own)

  each-more : (i : ℕ) (y : Input) (c : Vec Config) → slice_get (xs ++ x ∷ []) i ≡ Some y
      → slice_get (cs ++ own ∷ []) i ≡ Some c
      → IsPlanned i o y c.items next (lines_on i (ls ++ lines)) (outputs_on (path_of y) (os ++ outputs))
      (warnings_among i (ts ++ warnings))
  each-more i y c e f = by (get-cases xs x i y e) (get-cases cs own i c f)
    where
      by : (slice_get xs i ≡ Some y) ⊎ ((i ≡ length xs) × (x ≡ y)) → (slice_get cs i ≡ Some c)
          ⊎ ((i ≡ length cs) × (own ≡ c))
          → IsPlanned i o y c.items next (lines_on i (ls ++ lines))
          (outputs_on (path_of y) (os ++ outputs)) (warnings_among i (ts ++ warnings))
      by (inl a) (inl b) =
          let low : i < length xs = slice_get_within xs i y a in
          let before = planned-stays i o y c.items now next (lines_on i ls) (outputs_on (path_of y) os)
          (warnings_among i ts) stays (p.each i y c a b) in
          subst (λ (l : List Line). IsPlanned i o y c.items next l (outputs_on (path_of y) (os ++ outputs))
          (warnings_among i (ts ++ warnings))) (sym (lines-front i low))
          (subst (λ (q : List Output). IsPlanned i o y c.items next (lines_on i ls) q
          (warnings_among i (ts ++ warnings))) (sym (outputs-front (path_of y) (new i y a)))
          (subst (λ (t : List WarningView). IsPlanned i o y c.items next (lines_on i ls)
          (outputs_on (path_of y) os) t) (sym (warnings-front i low)) before))
      by (inl a) (inr b) =
          let low : i < length xs = slice_get_within xs i y a in
          absurd (omega (arith, low, b.0, long))
      by (inr a) (inl b) =
          let low : i < length cs = slice_get_within cs i c b in
          absurd (omega (arith, low, a.0, long))
      by (inr a) (inr b) =
          subst (λ (k : ℕ). IsPlanned k o y c.items next (lines_on k (ls ++ lines))
          (outputs_on (path_of y) (os ++ outputs)) (warnings_among k (ts ++ warnings))) (sym a.0)
          (subst (λ (z : Input). IsPlanned (length xs) o z c.items next
          (lines_on (length xs) (ls ++ lines)) (outputs_on (path_of z) (os ++ outputs))
          (warnings_among (length xs) (ts ++ warnings))) a.1
          (subst (λ (d : Vec Config). IsPlanned (length xs) o x d.items next
          (lines_on (length xs) (ls ++ lines)) (outputs_on (path_of x) (os ++ outputs))
          (warnings_among (length xs) (ts ++ warnings))) b.1
          (subst (λ (l : List Line). IsPlanned (length xs) o x own.items next l
          (outputs_on (path_of x) (os ++ outputs)) (warnings_among (length xs) (ts ++ warnings))) (sym lines-last)
          (subst (λ (q : List Output). IsPlanned (length xs) o x own.items next lines q
          (warnings_among (length xs) (ts ++ warnings))) (sym outputs-last)
          (subst (λ (t : List WarningView). IsPlanned (length xs) o x own.items next lines outputs t)
          (sym warnings-last) one)))))

  rows-more : ls ++ lines ≡ flat_map (λ i. lines_on i (ls ++ lines)) (below (length (xs ++ x ∷ [])))
  rows-more = in-turn-more (λ (l : Line). l.input) (length xs) (length (xs ++ x ∷ [])) ls lines
      (length-more xs x) p.rows_below rows-own p.rows_in_order

  warnings-more : ts ++ warnings ≡ flat_map (λ i. warnings_among i (ts ++ warnings)) (below (length (xs ++ x ∷ [])))
  warnings-more = in-turn-more (λ (t : WarningView). t.input) (length xs) (length (xs ++ x ∷ [])) ts warnings
      (length-more xs x) p.warnings_below warnings-own p.warnings_in_order

  outputs-more : map output_path (os ++ outputs) ≡ filter (has_some (os ++ outputs))
      (map path_of (xs ++ x ∷ []))
  outputs-more =
      let some = has_some (os ++ outputs) in
      let front : filter (has_some os) (map path_of xs) ≡ filter some (map path_of xs) =
      filter-same (has_some os) some (map path_of xs)
      (all-paths (λ path. has_some os path ≡ some path) xs
      (λ j y e. ap (λ (q : List Output). not (length q == 0))
      (sym (outputs-front (path_of y) (new j y e))))) in
      let last : map output_path outputs ≡ filter some (path_of x ∷ []) =
      one-path-order (path_of x) x.bytes.items lines outputs one.writes (os ++ outputs) outputs-last in
      map-append output_path os outputs ∙ ap (λ (l : List (List ℕ)). l ++ map output_path outputs)
      (p.outputs_in_order ∙ front)
      ∙ ap (λ (l : List (List ℕ)). filter some (map path_of xs) ++ l) last
      ∙ sym (filter-append some (map path_of xs) (path_of x ∷ []))
      ∙ ap (filter some) (sym (map-append path_of xs (x ∷ [])))

  pub planned-more : ArePlanned o next (xs ++ x ∷ []) (cs ++ own ∷ []) (ls ++ lines) (os ++ outputs)
      (ts ++ warnings)
  planned-more = record {
    each = each-more;
    rows_in_order = rows-more;
    outputs_in_order = outputs-more;
    warnings_in_order = warnings-more;
    rows_below = more-below (λ (l : Line). l.input) (length xs) (length (xs ++ x ∷ [])) ls lines
        (length-more xs x) p.rows_below rows-own;
    warnings_below = more-below (λ (t : WarningView). t.input) (length xs) (length (xs ++ x ∷ [])) ts warnings
        (length-more xs x) p.warnings_below warnings-own;
    paths_among = All-append (λ q. IsPathAmong (xs ++ x ∷ []) (output_path q)) os outputs
        (All-weaker (λ q. IsPathAmong xs (output_path q)) (λ q. IsPathAmong (xs ++ x ∷ []) (output_path q))
        (λ q a. among-more xs x (output_path q) a) os p.paths_among)
        (All-weaker (λ q. output_path q ≡ path_of x) (λ q. IsPathAmong (xs ++ x ∷ []) (output_path q))
        (λ q e. record { i = length xs; input = x; at = get-last xs x; path_is = e }) outputs outputs-own);
  }
