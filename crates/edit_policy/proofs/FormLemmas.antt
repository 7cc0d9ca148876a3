-- A policy of a document, by the form of its text.
use Rattle.std.proofs.Common.{subst}
use Rattle.std.proofs.Math.Path.{fun_ext}
use Rattle.edit_syntax.specs.Grammar.{Text}
use Rattle.edit_tree.specs.Assertions.{IsDocument}
use Rattle.edit_tree.specs.DocumentViews.{DocumentViews, ShowsTree, tree_of}
use Rattle.edit_policy.specs.Faults.{InPolicy, IsFault}
use Rattle.edit_policy.specs.Manifests.{IsManifestFault, IsManifestPolicy, of_document}
use Rattle.edit_policy.specs.Policies.{IsPolicy, policy_place}
use Rattle.edit_policy.specs.Values.{Tree}
use Rattle.edit_policy.specs.declared.error.PolicyError.{PolicyError}
use Rattle.edit_policy.specs.declared.error.PolicyError.TheVariants.{Failed, Unexpected}
use Rattle.edit_policy.specs.declared.policy.Policy.{Policy}

-- the policy in the tree of a document is that in the tree of its form
pub policy_by_form : (d : DocumentViews) (form : Text) (p : Policy) → IsDocument d.bytes form
    → ShowsTree d form → IsPolicy (tree_of d) (policy_place (tree_of d)) p → IsManifestPolicy d.bytes p
policy_by_form d form p is shows h =
    let P : Tree → Type 0 = λ t. IsPolicy t (policy_place t) p in
    of_document form is (subst P (fun_ext shows) h)

-- and so is a fault
pub fault_by_form : (d : DocumentViews) (form : Text) (e : PolicyError) → IsDocument d.bytes form
    → ShowsTree d form → IsFault (InPolicy (policy_place (tree_of d))) (tree_of d) e
    → IsManifestFault d.bytes e
fault_by_form d form (Unexpected place expected) is shows h =
    let P : Tree → Type 0 = λ t. IsFault (InPolicy (policy_place t)) t (Unexpected place expected) in
    (form, is, subst P (fun_ext shows) h)
fault_by_form d form (Failed e) is shows h = h
