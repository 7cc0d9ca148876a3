use Rattle.std.proofs.Common.{inl, sym}
use Rattle.std.proofs.lemmas.Result.{IfErr-weaker, IfOk-weaker}
use Rattle.edit_sources.specs.Index.{answer_of, shared_in}
use Rattle.edit_restricted_index.specs.VersionTests.{tests_of}
use Rattle.edit_restricted_index.proofs.RestrictedLemmas.{answer_given, cause_restricted, faults_later, same_restricted}
use Rattle.edit_restricted_index.proofs.restricted_index.RestrictedIndexIndex.look_shared.Goals as goal

pub returns-in-Err-clause-same : goal.returns-in-Err-clause-same
returns-in-Err-clause-same g c =
    same_restricted (tests_of c.args.self.now.tests) (g.I.Index.view c.args.self.now.index)
    (g.I.Index.view c.look_shared.new.self) c.look_shared.ensures.same

pub returns-in-Err-clause-cause : goal.returns-in-Err-clause-cause
returns-in-Err-clause-cause g c =
    cause_restricted (tests_of c.args.self.now.tests) (g.I.Index.view c.args.self.now.index)
    (g.I.Index.view c.look_shared.new.self) c.args.registry.now c.args.name.now _ c.in-Err.ensures.cause

pub returns-clause-same : goal.returns-clause-same
returns-clause-same g c =
    same_restricted (tests_of c.args.self.now.tests) (g.I.Index.view c.args.self.now.index)
    (g.I.Index.view c.look_shared.new.self) c.look_shared.ensures.same

pub returns-clause-given : goal.returns-clause-given
returns-clause-given g c =
    let answer = answer_of (shared_in c.in-Ok.answer) in
    IfOk-weaker c.restrict_shared.result _ _
    (λ k h. answer_given (tests_of c.args.self.now.tests) (g.I.Index.view c.args.self.now.index)
    c.args.registry.now c.args.name.now answer (answer_of (shared_in k)) c.in-Ok.ensures.given (sym h))
    c.restrict_shared.ensures.ok

pub returns-clause-cause : goal.returns-clause-cause
returns-clause-cause g c = record {
  later = faults_later (tests_of c.args.self.now.tests) (g.I.Index.view c.args.self.now.index)
      (g.I.Index.view c.look_shared.new.self) c.in-Ok.ensures.cause.later;
  refused = IfErr-weaker c.restrict_shared.result _ _ (λ e h. inl h) c.restrict_shared.ensures.error;
}
