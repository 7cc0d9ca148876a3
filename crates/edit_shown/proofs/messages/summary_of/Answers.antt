use Rattle.std.proofs.Common.{refl}
use Rattle.edit_shown.proofs.SummaryLemmas.{summary_is}
use Rattle.edit_shown.proofs.messages.summary_of.Goals as goal

pub returns : goal.returns
returns c =
    summary_is (record {
      dry_run = c.args.options.now.dry_run;
      modified = c.as_slice.result;
      git_crates = c.as_slice-2.result;
      missing = c.as_slice-3.result;
      pinned_present = c.args.plan.now.pinned_present;
      incompatible_present = c.args.plan.now.incompatible_present;
      update_calls = c.args.calls;
    }) c.args.plan.now c.args.options.now c.args.calls.now refl c.as_slice.ensures.value
    c.as_slice-2.ensures.value c.as_slice-3.ensures.value refl refl refl
