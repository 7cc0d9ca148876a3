use Rattle.std.proofs.Common.{◌∙◌, List, ℕ, ap, inr, sym, true}
use Rattle.std.specs.Prelude.{◌&&◌, if◌then◌else◌}
use Rattle.std.specs.Str.{bytes_eq}
use Rattle.edit_upgrade.specs.PairSets.{holds_pair}
use Rattle.edit_upgrade.proofs.lookup_log.lookup_once.Goals as goal

pub returns-clause-step : goal.returns-clause-step
returns-clause-step g c = record {
  set = λ a n. c.in_ok-had.ensures.ok a n
      ∙ ap (λ (x : List ℕ). if bytes_eq x a
      && bytes_eq c.args.name.now n then true else holds_pair c.args.pairs.now a n) c.as_str.ensures.value;
  done = inr (
    c.in_ok-lookup.lookup,
    ap (λ (x : List ℕ). holds_pair c.args.pairs.now x c.args.name.now) (sym c.as_str.ensures.value)
        ∙ sym c.in_ok-had.ensures.had ∙ c.if-had.false,
    c.in_ok-push.ensures.items,
    c.in_ok-lookup.ensures.lookup,
  );
}
