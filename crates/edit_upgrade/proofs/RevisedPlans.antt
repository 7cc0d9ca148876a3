-- A plan has rows and addresses for the entries of its inputs, as its revision needs them.
use Rattle.std.proofs.Common.{◌≡◌, ◌+◌, ◌∙◌, ℕ, zero, suc, List, [], ◌∷◌, ◌++◌, Bool, Option, Some, None, false, true, ap, arith, length, map, refl, subst, sym}
use Rattle.std.specs.Prelude.{◌==◌, All, IfSome, filter, if◌then◌else◌, slice_get}
use Rattle.std.specs.Global.{Vec}
use Rattle.std.specs.List.{AllZip, flat_map, range_with_len}
use Rattle.std.proofs.lemmas.Bool.{cases_Bool}
use Rattle.std.proofs.lemmas.Bool.Decides.{Decides-eqb}
use Rattle.std.proofs.lemmas.List.{length-map}
use Rattle.std.proofs.lemmas.List.Elements.{All-cons, All-head, All-nil, All-tail}
use Rattle.std.proofs.lemmas.Slice.Zip.{AllZip-long}
use Rattle.edit_metadata.specs.declared.input.Input.{Input}
use Rattle.edit_report.specs.declared.row.Row.{Row}
use Rattle.edit_sources.specs.declared.config.Config.{Config}
use Rattle.edit_tree.specs.Tree.{view_at}
use Rattle.url.specs.Parts.{serialize}
use Rattle.edit_upgrade.specs.Caches.{CacheView}
use Rattle.edit_upgrade.specs.Drafts.{lines_on}
use Rattle.edit_upgrade.specs.Inputs.{below}
use Rattle.edit_upgrade.specs.Lines.{line_of}
use Rattle.edit_upgrade.specs.Plans.{IsPlan}
use Rattle.edit_upgrade.specs.Records.{RowEntry, Source, at_folder, at_registry, at_repository, row_entries}
use Rattle.edit_upgrade.specs.Revisions.{AreAddressesOf, AreRowsFrom, AreRowsOf, HasItsAddress, HaveAddresses, IsAddressOf, IsLongEnough}
use Rattle.edit_upgrade.specs.Revisions.IsAddressOf.{at, folder, repository}
use Rattle.edit_upgrade.specs.Rows.{AreVersionsFor, Basis, IsRowBy, Line, is_elsewhere}
use Rattle.edit_upgrade.specs.Rows.AreVersionsFor.{at_address, elsewhere}
use Rattle.edit_upgrade.specs.Upgraded.{HasRows, IsRow, basis_of}
use Rattle.edit_upgrade.specs.Inputs.{Setting}
use Rattle.edit_upgrade.specs.declared.decision.options.Options.{Options}
use Rattle.edit_upgrade.specs.declared.upgrade.UpgradePlan.{UpgradePlan}

-- ---- addresses

elsewhere_by : (configs : List Config) (e : RowEntry) (source : Source) → e.source ≡ source
    → is_elsewhere source ≡ true → HasItsAddress configs e
elsewhere_by configs e (at_registry named) is there = absurd (cc there)
elsewhere_by configs e at_repository is there = (None, repository is)
elsewhere_by configs e at_folder is there = (None, folder is)

address_by : (s : Basis) (e : RowEntry) (versions : _) → AreVersionsFor s e versions → HasItsAddress s.configs e
address_by s e versions (at_address address needs is) =
    (Some (serialize address), at needs.named address needs.source needs.has)
address_by s e versions (elsewhere is none) = elsewhere_by s.configs e e.source refl is

addresses_by : (s : Basis) (es : List RowEntry) (lines : List Line) → AllZip (IsRowBy s) es lines
    → (found : List (Option (List ℕ))) × AllZip (IsAddressOf s.configs) es found
addresses_by s [] lines rows = ([], tt)
addresses_by s (e ∷ es) [] rows = absurd rows
addresses_by s (e ∷ es) (line ∷ lines) rows =
    let first = address_by s e rows.0.versions rows.0.offered in
    let rest = addresses_by s es lines rows.1 in
    (first.0 ∷ rest.0, (first.1, rest.1))

of_input : (s : Setting) (bytes : List ℕ) (lines : List Line) → HasRows s bytes lines
    → (found : List (Option (List ℕ))) × AreAddressesOf s.configs bytes found
of_input s bytes lines has =
    let found = addresses_by (basis_of s) (row_entries (view_at has.form)) lines has.decided in
    (found.0, record { form = has.form; manifest = has.manifest; each = found.1 })

addresses_each : (inputs : List Input) (configs : List (Vec Config)) → length configs ≡ length inputs
    → ((i : ℕ) → IfSome (slice_get inputs i) (λ input. IfSome (slice_get configs i)
    (λ own. (found : List (Option (List ℕ))) × AreAddressesOf own.items input.bytes.items found)))
    → HaveAddresses inputs configs
addresses_each [] configs long each = ([], refl)
addresses_each (input ∷ inputs) [] long each = absurd (omega (arith, long))
addresses_each (input ∷ inputs) (own ∷ configs) long each =
    let first = each zero in
    let rest = addresses_each inputs configs (omega (arith, long)) (λ i. each (suc i)) in
    (first.0 ++ rest.0, (first.0, rest.0, refl, first.1, rest.1))

weaker : {A B : Type 0} (a : Option A) (b : Option B) (P Q : A → B → Type 0) → ((x : A) (y : B) → P x y → Q x y)
    → IfSome a (λ x. IfSome b (P x)) → IfSome a (λ x. IfSome b (Q x))
weaker None b P Q to has = tt
weaker (Some x) None P Q to has = tt
weaker (Some x) (Some y) P Q to has = to x y has

-- ---- rows

map_none : (rows : List Row) → map line_of rows ≡ [] → rows ≡ []
map_none [] is = refl
map_none (row ∷ rows) is = absurd (cc is)

-- the rows of the first and of the later lines
record AreParted (rows : List Row) (first last : List Line) : Type 0 where
  own : List Row
  later : List Row
  is : rows ≡ own ++ later
  own_is : map line_of own ≡ first
  later_is : map line_of later ≡ last

first_is : (x y : Line) (xs ys : List Line) → x ∷ xs ≡ y ∷ ys → x ≡ y
first_is x y xs ys is = cc is

rest_is : (x y : Line) (xs ys : List Line) → x ∷ xs ≡ y ∷ ys → xs ≡ ys
rest_is x y xs ys is = cc is

cons_not : (x : Line) (xs : List Line) → [] ≡ x ∷ xs → ⊥
cons_not x xs is = cc is

part : (rows : List Row) (first last : List Line) → map line_of rows ≡ first ++ last → AreParted rows first last
part rows [] last is = record { own = []; later = rows; is = refl; own_is = refl; later_is = is }
part [] (line ∷ first) last is = absurd (cons_not line (first ++ last) is)
part (row ∷ rows) (line ∷ first) last is =
    let rest = part rows first last (rest_is (line_of row) line (map line_of rows) (first ++ last) is) in
    let same = first_is (line_of row) line (map line_of rows) (first ++ last) is in record {
      own = row ∷ rest.own;
      later = rest.later;
      is = ap (λ (rs : List Row). row ∷ rs) rest.is;
      own_is = ap (λ (l : Line). l ∷ map line_of rest.own) same ∙ ap (λ (ls : List Line). line ∷ ls) rest.own_is;
      later_is = rest.later_is;
    }

kept : (i : ℕ) (b : Bool) (line : Line) (lines : List Line) → (line.input == i) ≡ b
    → All (λ l. l.input ≡ i) lines → All (λ l. l.input ≡ i) (if b then line ∷ lines else lines)
kept i true line lines is are =
    All-cons (λ (l : Line). l.input ≡ i) line lines ((Decides-eqb line.input i).0 is) are
kept i false line lines is are = are

lines_are : (i : ℕ) (lines : List Line) → All (λ line. line.input ≡ i) (lines_on i lines)
lines_are i [] = All-nil (λ (l : Line). l.input ≡ i)
lines_are i (line ∷ lines) = kept i (line.input == i) line (lines_on i lines) refl (lines_are i lines)

own_are : (i : ℕ) (own : List Row) → All (λ line. line.input ≡ i) (map line_of own)
    → All (λ row. row.input ≡ i) own
own_are i [] are = All-nil (λ (row : Row). row.input ≡ i)
own_are i (row ∷ own) are =
    All-cons (λ (r : Row). r.input ≡ i) row own
    (All-head (λ (l : Line). l.input ≡ i) (line_of row) (map line_of own) are)
    (own_are i own (All-tail (λ (l : Line). l.input ≡ i) (line_of row) (map line_of own) are))

rows_each : (all : List Line) (i : ℕ) (inputs : List Input) (rows : List Row)
    → map line_of rows ≡ flat_map (λ k. lines_on k all) (range_with_len i (length inputs))
    → ((k : ℕ) → IfSome (slice_get inputs k)
    (λ input. IsLongEnough input.bytes.items (length (lines_on (i + k) all))))
    → AreRowsFrom i inputs rows
rows_each all i [] rows is each = map_none rows is
rows_each all i (input ∷ inputs) rows is each =
    let parts = part rows (lines_on i all)
    (flat_map (λ k. lines_on k all) (range_with_len (i + 1) (length inputs))) is in
    let first : IsLongEnough input.bytes.items (length (lines_on (i + 0) all)) = each zero in
    let count : length (lines_on (i + 0) all) ≡ length parts.own =
    ap (λ k. length (lines_on k all)) (let same : i + 0 ≡ i = omega arith in same)
    ∙ ap length (sym parts.own_is) ∙ length-map parts.own line_of in (
      parts.own,
      parts.later,
      parts.is,
      own_are i parts.own (subst (All (λ (l : Line). l.input ≡ i)) (sym parts.own_is) (lines_are i all)),
      subst (IsLongEnough input.bytes.items) count first,
      rows_each all (i + 1) inputs parts.later parts.later_is (λ k.
          subst (λ n. IfSome (slice_get inputs k)
          (λ (x : Input). IsLongEnough x.bytes.items (length (lines_on n all))))
          (let same : i + suc k ≡ i + 1 + k = omega arith in same) (each (suc k))),
    )

range_last : (a n : ℕ) → range_with_len a (suc n) ≡ range_with_len a n ++ (a + n) ∷ []
range_last a zero = ap (λ k. k ∷ []) (let same : a ≡ a + 0 = omega arith in same)
range_last a (suc n) =
    ap (λ ks. a ∷ ks) (range_last (a + 1) n
    ∙ ap (λ k. range_with_len (a + 1) n ++ k ∷ []) (let same : a + 1 + n ≡ a + suc n = omega arith in same))

below_range : (n : ℕ) → below n ≡ range_with_len 0 n
below_range zero = refl
below_range (suc n) =
    ap (λ ks. ks ++ n ∷ []) (below_range n)
    ∙ ap (λ k. range_with_len 0 n ++ k ∷ []) (let same : n ≡ 0 + n = omega arith in same) ∙ sym (range_last 0 n)

long_enough : (s : Setting) (bytes : List ℕ) (lines : List Line) → HasRows s bytes lines
    → IsLongEnough bytes (length lines)
long_enough s bytes lines has = record {
  form = has.form;
  manifest = has.manifest;
  long = AllZip-long (IsRow s) (row_entries (view_at has.form)) lines has.decided;
}

some_within : {A B : Type 0} (xs : List A) (ys : List B) (i : ℕ) (Q : A → Type 0) → length ys ≡ length xs
    → IfSome (slice_get xs i) (λ x. IfSome (slice_get ys i) (λ y. Q x)) → IfSome (slice_get xs i) Q
some_within [] ys i Q long has = tt
some_within (x ∷ xs) [] i Q long has = absurd (omega (arith, long))
some_within (x ∷ xs) (y ∷ ys) zero Q long has = has
some_within (x ∷ xs) (y ∷ ys) (suc i) Q long has = some_within xs ys i Q (omega (arith, long)) has

-- rows in the order of their inputs, as many for each as it has entries
pub rows_by : (inputs : List Input) (rows : List Row)
    → ((k : ℕ) → IfSome (slice_get inputs k)
    (λ input. IsLongEnough input.bytes.items (length (lines_on k (map line_of rows)))))
    → map line_of rows ≡ flat_map (λ k. lines_on k (map line_of rows)) (below (length inputs))
    → AreRowsOf inputs rows
rows_by inputs rows each turns =
    let all = map line_of rows in
    rows_each all 0 inputs rows (turns ∙ ap (flat_map (λ k. lines_on k all)) (below_range (length inputs)))
    (λ k. subst (λ n. IfSome (slice_get inputs k)
    (λ (input : Input). IsLongEnough input.bytes.items (length (lines_on n all))))
    (let same : k ≡ 0 + k = omega arith in same) (each k))

-- there is a row for each entry of the inputs of a plan
pub rows_of_plan : (o : Options) (inputs : List Input) (configs : List (Vec Config)) (old new : CacheView)
    (p : UpgradePlan) → IsPlan o inputs configs old new p → length configs ≡ length inputs
    → AreRowsOf inputs p.rows.items
rows_of_plan o inputs configs old new p plan long =
    let all = map line_of p.rows.items in
    rows_by inputs p.rows.items (λ k.
    some_within inputs configs k (λ input. IsLongEnough input.bytes.items (length (lines_on k all))) long
    (weaker (slice_get inputs k) (slice_get configs k) _ (λ input own. IsLongEnough input.bytes.items
    (length (lines_on k all))) (λ input own has. long_enough _ input.bytes.items (lines_on k all) has)
    (plan.rows k))) plan.rows_in_order

-- the registry of each of these entries has an address
pub addresses_of_plan : (o : Options) (inputs : List Input) (configs : List (Vec Config)) (old new : CacheView)
    (p : UpgradePlan) → IsPlan o inputs configs old new p → length configs ≡ length inputs
    → HaveAddresses inputs configs
addresses_of_plan o inputs configs old new p plan long =
    addresses_each inputs configs long (λ i. weaker (slice_get inputs i) (slice_get configs i) _
    (λ input own. (found : List (Option (List ℕ))) × AreAddressesOf own.items input.bytes.items found)
    (λ input own has. of_input _ input.bytes.items (lines_on i (map line_of p.rows.items)) has) (plan.rows i))
