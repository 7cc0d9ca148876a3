-- The policy in the bytes of a root manifest (own).
use Rattle.std.specs.Prelude.{ℕ, List}
use Rattle.std.specs.Str.{IsUtf8}
use Rattle.edit_base.specs.Errors.{IsMemory}
use Rattle.edit_syntax.specs.Grammar.{Text}
use Rattle.edit_tree.specs.Assertions.{IsDocument}
use Rattle.edit_tree.specs.Tree.{view_at}
use Rattle.edit_policy.specs.Faults.{InPolicy, IsFault}
use Rattle.edit_policy.specs.Policies.{IsEmpty, IsPolicy, policy_place}
use Rattle.edit_policy.specs.declared.error.PolicyError.{PolicyError}
use Rattle.edit_policy.specs.declared.error.PolicyError.TheVariants.{Failed, Unexpected}
use Rattle.edit_policy.specs.declared.policy.Policy.{Policy}

-- the policy in some bytes: that of their document; it says nothing where they are no document (own)
pub data IsManifestPolicy (bytes : List ℕ) (p : Policy) : Type 0 where
  of_document : (form : Text) → IsDocument bytes form → IsPolicy (view_at form) (policy_place (view_at form)) p
      → IsManifestPolicy bytes p
  no_text : (IsUtf8 bytes → ⊥) → IsEmpty p → IsManifestPolicy bytes p
  no_document : ((form : Text) → IsDocument bytes form → ⊥) → IsEmpty p → IsManifestPolicy bytes p

-- the error of the policy in some bytes: a fault in the tree of their document, or memory ran out (own)
abbrev pub IsManifestFault : List ℕ → PolicyError → Type 0
IsManifestFault bytes (Unexpected place expected) = (form : Text) × IsDocument bytes form
    × IsFault (InPolicy (policy_place (view_at form))) (view_at form) (Unexpected place expected)
IsManifestFault bytes (Failed e) = IsMemory e
