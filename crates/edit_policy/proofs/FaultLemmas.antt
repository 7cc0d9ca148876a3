-- Errors of a part of a policy as errors of the whole.
use Rattle.std.proofs.Common.{◌≡◌, ◌∙◌, ℕ, List, ap, codes, subst}
use Rattle.edit_document.specs.Items.{place_view}
use Rattle.edit_tree.specs.Assertions.{Place, at, index}
use Rattle.edit_policy.specs.Faults.{AtElements, AtKeys, Expectations, InCrates, InPolicy, IsFault, Only, crate_keys, crates, own_keys}
use Rattle.edit_policy.specs.Keys.{expected_at}
use Rattle.edit_policy.specs.Policies.{member}
use Rattle.edit_policy.specs.Values.{Tree}
use Rattle.edit_policy.specs.declared.error.PolicyError.{PolicyError}
use Rattle.edit_policy.specs.declared.error.PolicyError.TheVariants.{Failed, Unexpected}
use Rattle.edit_policy.specs.declared.keys.Expected.{Expected}
use Rattle.edit_policy.specs.declared.keys.Expected.TheVariants.{Text}
use Rattle.edit_policy.specs.declared.keys.KeySet.{KeySet}
use Rattle.edit_policy.specs.declared.keys.KeySet.TheVariants.{OfCrate, OfPolicy}

-- an error where less is expected
pub fault_within : (A B : Expectations) (t : Tree) (e : PolicyError)
    → ((q : Place) (x : Expected) → A q x → B q x) → IsFault A t e → IsFault B t e
fault_within A B t (Unexpected place expected) within h = (within (place_view place.items) expected h.0, h.1)
fault_within A B t (Failed e) within h = h

-- the same in an equal tree
pub fault_in : (A : Expectations) (old new : Tree) (e : PolicyError) → old ≡ new → IsFault A old e
    → IsFault A new e
fault_in A old new e same h = let P : Tree → Type 0 = λ t. IsFault A t e in subst P same h

-- an error at an element of an array
pub element_fault : (old new : Tree) (array q : Place) (i : ℕ) (e : PolicyError) → old ≡ new
    → q ≡ at array (index i) → IsFault (Only q Text) old e → IsFault (AtElements array) new e
element_fault old new array q i e same is h =
    fault_in (AtElements array) old new e same
    (fault_within (Only q Text) (AtElements array) old e (λ p x o. (i, (o.0 ∙ is, o.1))) h)

-- an error at one key of a table
pub key_fault : (keys : KeySet) (t : Tree) (table : Place) (name : List ℕ) (expected : Expected)
    (e : PolicyError) → expected ≡ expected_at keys name → IsFault (Only (member table name) expected) t e
    → IsFault (AtKeys keys table) t e
key_fault keys t table name expected e is h =
    fault_within (Only (member table name) expected) (AtKeys keys table) t e
    (λ q x o. (name, (o.0, o.1 ∙ is))) h

-- an error at one key of a policy
pub own_fault : (t : Tree) (table : Place) (name : List ℕ) (expected : Expected) (e : PolicyError)
    → expected ≡ expected_at OfPolicy name → IsFault (Only (member table name) expected) t e
    → IsFault (InPolicy table) t e
own_fault t table name expected e is h =
    fault_within (AtKeys OfPolicy table) (InPolicy table) t e (λ q x k. own_keys k)
    (key_fault OfPolicy t table name expected e is h)

-- an error in the table of a crate
pub crate_fault : (old new : Tree) (all table : Place) (name : List ℕ) (e : PolicyError) → old ≡ new
    → table ≡ member all name → IsFault (AtKeys OfCrate table) old e → IsFault (InCrates all) new e
crate_fault old new all table name e same is h =
    fault_in (InCrates all) old new e same
    (fault_within (AtKeys OfCrate table) (InCrates all) old e
    (λ q x k. crate_keys name (k.0, (k.1.0 ∙ ap (λ r. member r k.0) is, k.1.1))) h)

-- an error in the table that has one for each crate
pub crates_fault : (old new : Tree) (policy all : Place) (e : PolicyError) → old ≡ new
    → all ≡ member policy (codes "crates") → IsFault (InCrates all) old e → IsFault (InPolicy policy) new e
crates_fault old new policy all e same is h =
    let P : Place → Type 0 = λ r. IsFault (InCrates r) old e in
    fault_in (InPolicy policy) old new e same
    (fault_within (InCrates (member policy (codes "crates"))) (InPolicy policy) old e (λ q x k. crates k)
    (subst P is h))
