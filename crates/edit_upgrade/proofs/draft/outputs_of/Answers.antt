use Rattle.std.proofs.Common.{ℕ, Global, Vec, ap}
use Rattle.edit_report.specs.declared.output.Output.{Output}
use Rattle.edit_upgrade.proofs.PlanLemmas.{only-output}
use Rattle.edit_upgrade.proofs.draft.outputs_of.Goals as goal

pub returns-in_ok-push-in-Some : goal.returns-in_ok-push-in-Some
returns-in_ok-push-in-Some c =
    let o : Output = record { path = c.in_ok-path-in-Some.path; bytes = c.into_bytes.result } in
    record {
      ok = only-output c.args.path.now c.args.text c.in-Some.text c.new-outputs.result.items
          c.push.new.self.items o c.in-Some.is
          c.new-outputs.ensures.items c.in_ok-push-in-Some.ensures.items c.in_ok-path-in-Some.ensures.ok
          (ap (λ (v : Vec ℕ Global). v.items) c.into_bytes.ensures.value);
    }
