-- The error that a run ends with where a table is no policy (own).
use Rattle.edit_base.specs.declared.errors.Error.{Error}
use Rattle.edit_base.specs.declared.errors.Error.TheVariants.{Policy}
use Rattle.edit_policy.specs.declared.error.PolicyError.{PolicyError}
use Rattle.edit_policy.specs.declared.error.PolicyError.TheVariants.{Failed, Unexpected}

-- the error of a run (own)
abbrev pub error_of : PolicyError → Error
error_of (Unexpected place expected) = Policy
error_of (Failed e) = e
