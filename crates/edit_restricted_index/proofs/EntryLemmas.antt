-- The packages of a lock file as tests, and the entries that pass one.
use Rattle.std.proofs.Common.{◌≡◌, ◌++◌, ◌∷◌, [], ℕ, Bool, List, None, Option, Some, ap, cond, false, option_map, refl, sym, true}
use Rattle.std.specs.Prelude.{◌&&◌, ◌||◌, String, is_some, not, string_bytes}
use Rattle.std.specs.Option.{option_map_or}
use Rattle.std.specs.Str.{bytes_eq}
use Rattle.std.specs.BTreeSet.{BTreeSet, contains_text}
use Rattle.std.specs.declared.alloc.Global.{Global}
use Rattle.std.proofs.lemmas.List.Elements.{filter-append}
use mathlib.Core.Path.{fun_ext}
use Rattle.edit_lock.specs.AdaptedCalls.{locks}
use Rattle.edit_lock.specs.LockFile.{Package, spec_of}
use Rattle.edit_policy.specs.Holds.{admits_text, has_hold, passes_hold, passes_holds}
use Rattle.edit_policy.specs.declared.policy.CratePolicy.{CratePolicy}
use Rattle.edit_version.specs.IndexEntry.{IndexEntry}
use Rattle.edit_version.specs.Requirement.{comparators_of}
use Rattle.edit_restricted_index.specs.HoldsByName.{HoldMap, has_hold_in, passes_map, said_of}
use Rattle.edit_restricted_index.specs.RestrictedIndex.{restricted_answer}
use Rattle.edit_restricted_index.specs.Restrictions.{VersionTest, both_tests, has_version, passes, retained_entries}
use Rattle.edit_restricted_index.specs.VersionTests.{spec_test}

-- texts that are those of packages are one test with them
pub same_versions : (specs : BTreeSet (String Global)) (packages : List Package)
    → ((q : List ℕ) → contains_text specs q ≡ locks packages q) → spec_test specs ≡ has_version packages
same_versions specs packages same =
    fun_ext (λ name. fun_ext (λ version. same (spec_of (record { name = name; version = version }))))

-- one more entry is retained if its version passes the test
pub retained_more : (keeps : List ℕ → Bool) (es : List IndexEntry) (e : IndexEntry)
    → retained_entries keeps (es ++ e ∷ []) ≡ retained_entries keeps es ++ cond (keeps e.version) (e ∷ []) []
retained_more keeps es e = filter-append (λ (x : IndexEntry). keeps x.version) es (e ∷ [])

-- all entries are retained if each version passes
all_retained : (keeps : List ℕ → Bool) (es : List IndexEntry) → ((v : List ℕ) → keeps v ≡ true)
    → retained_entries keeps es ≡ es
all_retained keeps [] each = refl
all_retained keeps (e ∷ es) each = rw (each e.version) (ap (λ xs. e ∷ xs) (all_retained keeps es each))

-- an answer stays as it is if each version passes
pub whole_answer : (keeps : List ℕ → Bool) (answer : Option (List IndexEntry))
    → ((v : List ℕ) → keeps v ≡ true) → answer ≡ option_map (retained_entries keeps) answer
whole_answer keeps None each = refl
whole_answer keeps (Some es) each = ap Some (sym (all_retained keeps es each))

-- the entries that pass are those of a restricted answer
pub answer_by_test : (test : Option VersionTest) (name : List ℕ) (answer : Option (List IndexEntry))
    → option_map (retained_entries (passes test name)) answer ≡ restricted_answer test name answer
answer_by_test None name answer = sym (whole_answer (λ v. true) answer (λ v. refl))
answer_by_test (Some test) name answer = refl

-- ---- holds

-- what is said of a name passes where it is of another name, or has no hold
unheld_one : {A : Type 0} (same : Bool) (hold : Option A) (admits : A → Bool)
    → (same && is_some hold) ≡ false → (not same || option_map_or admits hold true) ≡ true
unheld_one false hold admits h = refl
unheld_one true None admits h = refl
unheld_one true (Some a) admits h = cc h

-- two tests pass where none of two others holds
both_pass : (a b x y : Bool) → (a ≡ false → x ≡ true) → (b ≡ false → y ≡ true) → (a || b) ≡ false
    → (x && y) ≡ true
both_pass false false x y one two h = rw (one refl, two refl) refl
both_pass false true x y one two h = cc h
both_pass true b x y one two h = cc h

-- each version passes the holds where none is on its crate
pub unheld_passes : (crates : List CratePolicy) (name version : List ℕ) → has_hold crates name ≡ false
    → passes_holds crates name version ≡ true
unheld_passes [] name version h = refl
unheld_passes (c ∷ cs) name version h =
    let same = bytes_eq (string_bytes c.name) name in
    both_pass (same && is_some c.hold) (has_hold cs name) (passes_hold c name version)
    (passes_holds cs name version)
    (unheld_one same c.hold (λ hold. admits_text (comparators_of hold.requirement) version))
    (unheld_passes cs name version) h

-- each version passes where no packages are given and no hold is on its crate
pub all_pass : (specs : Option VersionTest) (holds : Option HoldMap) (name version : List ℕ)
    → specs ≡ None → has_hold_in holds name ≡ false
    → passes (both_tests specs (option_map passes_map holds)) name version ≡ true
all_pass None None name version none h = refl
all_pass None (Some holds) name version none h = unheld_passes (said_of holds name) name version h
all_pass (Some test) holds name version none h = cc none
