-- Known names after one more input, and the missing ones.
use Rattle.std.proofs.Common.{◌≡◌, ◌∷◌, ◌++◌, [], List, ℕ, ◌+◌, ◌<◌, Bool, true, false, cond, not, get_or, length, map, refl, ap, ◌∙◌, sym, subst, take}
use Rattle.std.specs.Prelude.{◌||◌, ◌&&◌, filter}
use Rattle.std.specs.List.{AllZip, list_any}
use Rattle.std.specs.Str.{bytes_eq}
use Rattle.std.proofs.lemmas.List.Elements.{All-weaker, filter-append, filter_map-append}
use Rattle.std.proofs.lemmas.List.Folds.{list_any-append}
use Rattle.edit_manifest.specs.Entries.{Entry}
use Rattle.edit_metadata.specs.declared.input.Input.{Input}
use Rattle.edit_record.specs.EachOnce.{each_once}
use Rattle.edit_version.specs.CrateSpecs.{spec_name}
use Rattle.edit_upgrade.specs.Missing.{AddsNames, AreKnown, AreMissing, HasEntryNames, is_among, name_of, names_in}
use Rattle.edit_upgrade.specs.EntrySelection.{is_named, package_args_of}
use Rattle.edit_upgrade.specs.declared.decision.options.Options.{Options}
use Rattle.edit_upgrade.proofs.EndLemmas.{filter-same}
use Rattle.edit_upgrade.proofs.Steps.{taken-more}
use Rattle.edit_upgrade.proofs.PackageArgLemmas.{once_named}

-- two lists that go together, each with one more
zip-push : {A B : Type 0} (R : A → B → Type 0) (xs : List A) (ys : List B) (x : A) (y : B) → AllZip R xs ys
    → R x y → AllZip R (xs ++ x ∷ []) (ys ++ y ∷ [])
zip-push R [] [] x y h r = (r, tt)
zip-push R [] (z ∷ ys) x y h r = absurd h
zip-push R (z ∷ xs) [] x y h r = absurd h
zip-push R (z ∷ xs) (w ∷ ys) x y h r = (h.0, zip-push R xs ys x y h.1 r)

-- of no inputs no name is known
pub known-start : (o : Options) (known : List ℕ → Bool) → ((name : List ℕ) → known name ≡ false)
    → AreKnown o [] known
known-start o known h = record {
  names = [];
  have = tt;
  are = λ name. h name ∙ sym (none (is_named (package_args_of o) name));
}
  where
    none : (b : Bool) → (b && false) ≡ false
    none true = refl
    none false = refl

-- one name or another, where both are selected
joined : (s a b : Bool) → ((s && a) || (s && b)) ≡ (s && (a || (b || false)))
joined true true b = refl
joined true false true = refl
joined true false false = refl
joined false a b = refl

-- one input more
known-more : (o : Options) (xs : List Input) (x : Input) (old new : List ℕ → Bool) → AreKnown o xs old
    → AddsNames o x.bytes.items old new → AreKnown o (xs ++ x ∷ []) new
known-more o xs x old new h a = record {
  names = h.names ++ a.names ∷ [];
  have = zip-push (λ (input : Input) own. HasEntryNames input.bytes.items own) xs h.names x a.names h.have a.have;
  are = λ name.
      let s = is_named (package_args_of o) name in
      let own = list_any (bytes_eq name) a.names in
      a.are name ∙ ap (λ b. b || (s && own)) (h.are name)
      ∙ joined s (is_among h.names name) own
      ∙ ap (λ b. s && b) (sym (list_any-append (list_any (bytes_eq name)) h.names (a.names ∷ [])));
}

-- the next of the inputs
pub known-next : (o : Options) (inputs : List Input) (k : ℕ) (x : Input) (old new : List ℕ → Bool)
    → k < length inputs → x ≡ get_or inputs k x → AreKnown o (take k inputs) old
    → AddsNames o x.bytes.items old new → AreKnown o (take (k + 1) inputs) new
known-next o inputs k x old new low is h a =
    subst (λ (xs : List Input). AreKnown o xs new) (sym (taken-more inputs k x low is))
    (known-more o (take k inputs) x old new h a)

-- the names of package arguments that are not known are missing
pub missing-are : (o : Options) (inputs : List Input) (known : List ℕ → Bool) (names missing : List (List ℕ))
    → AreKnown o inputs known → names ≡ each_once (map spec_name (package_args_of o))
    → missing ≡ filter (λ name. not (known name)) names → AreMissing o inputs missing
missing-are o inputs known names missing h n m = record {
  names = h.names;
  have = h.have;
  are = m
      ∙ ap (λ (ns : List (List ℕ)). filter (λ name. not (known name)) ns) n
      ∙ filter-same (λ name. not (known name)) (λ name. not (is_among h.names name))
      (each_once (map spec_name (package_args_of o)))
      (All-weaker (λ name. is_named (package_args_of o) name ≡ true)
      (λ name. not (known name) ≡ not (is_among h.names name))
      (λ name e. ap not (h.are name ∙ ap (λ b. b && is_among h.names name) e))
      (each_once (map spec_name (package_args_of o))) (once_named (package_args_of o)));
}

-- ---- names of entries, one by one

-- without entries nothing is added
pub names-none : (old selected : Bool) → old ≡ (old || (selected && false))
names-none true s = refl
names-none false true = refl
names-none false false = refl

either-of : (o s a b : Bool) → ((o || (s && a)) || (s && b)) ≡ (o || (s && (a || b)))
either-of true s a b = refl
either-of false true a b = refl
either-of false false a b = refl

-- one entry more
pub names-extended : (name : List ℕ) (s first old new : Bool) (es more : List Entry) (e : Entry)
    → more ≡ es ++ e ∷ [] → old ≡ (first || (s && list_any (bytes_eq name) (names_in es)))
    → new ≡ (old || (s && list_any (bytes_eq name) (names_in (e ∷ []))))
    → new ≡ (first || (s && list_any (bytes_eq name) (names_in more)))
names-extended name s first old new es more e is h n =
    let among : List (List ℕ) → Bool = list_any (bytes_eq name) in
    n ∙ ap (λ b. b || (s && among (names_in (e ∷ [])))) h
    ∙ either-of first s (among (names_in es)) (among (names_in (e ∷ [])))
    ∙ ap (λ b. first || (s && b)) (sym (list_any-append (bytes_eq name) (names_in es) (names_in (e ∷ []))))
    ∙ ap (λ (ns : List (List ℕ)). first || (s && among ns)) (sym (filter_map-append name_of es (e ∷ [])))
    ∙ ap (λ (xs : List Entry). first || (s && among (names_in xs))) (sym is)

-- ---- names that are not known, one by one

-- the one name that a filter keeps
filtered-one : (known : List ℕ → Bool) (name : List ℕ) (b : Bool) → known name ≡ b
    → cond b [] (name ∷ []) ≡ filter (λ n. not (known n)) (name ∷ [])
filtered-one known name true e = rw e refl
filtered-one known name false e = rw e refl

-- one name more
pub unknown-more : (known : List ℕ → Bool) (names more : List (List ℕ)) (text name : List ℕ)
    (old new : List (List ℕ)) → more ≡ names ++ name ∷ [] → text ≡ name
    → old ≡ filter (λ n. not (known n)) names → new ≡ old ++ cond (known text) [] (text ∷ [])
    → new ≡ filter (λ n. not (known n)) more
unknown-more known names more text name old new is same h n =
    let test : List ℕ → Bool = λ x. not (known x) in
    n ∙ ap (λ (t : List ℕ). old ++ cond (known t) [] (t ∷ [])) same
    ∙ ap (λ (l : List (List ℕ)). l ++ cond (known name) [] (name ∷ [])) h
    ∙ ap (λ (l : List (List ℕ)). filter test names ++ l) (filtered-one known name (known name) refl)
    ∙ sym (filter-append test names (name ∷ [])) ∙ ap (filter test) (sym is)
