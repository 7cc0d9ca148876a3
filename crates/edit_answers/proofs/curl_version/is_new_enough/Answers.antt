use Rattle.std.proofs.Common.{subst}
use Rattle.std.proofs.lemmas.Bool.{false≢true}
use Rattle.edit_answers.specs.CurlVersion.{HasVariables}
use Rattle.edit_answers.proofs.VersionLemmas.{one-version}
use Rattle.edit_answers.proofs.curl_version.is_new_enough.Goals as goal

pub returns-in-Some : goal.returns-in-Some
returns-in-Some c = (
  λ t. record {
    major = c.in-Some.major;
    minor = c.in-Some.minor;
    says = c.in-Some.ensures.some;
    has = c.has_variables.ensures.0 t;
  },
  λ new.
      let same = one-version _ _ _ _ _ new.says c.in-Some.ensures.some in
      c.has_variables.ensures.1 (subst (λ x. HasVariables x c.in-Some.minor) same.0
      (subst (λ y. HasVariables new.major y) same.1 new.has)),
)

pub returns-in-None : goal.returns-in-None
returns-in-None c = (
  λ t. absurd (false≢true t),
  λ new. absurd
      (c.in-None.ensures.none new.major new.minor new.says),
)
