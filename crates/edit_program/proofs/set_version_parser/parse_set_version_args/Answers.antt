use Rattle.std.proofs.Common.{Bor, List, codes, inl, inr, refl, rules, subst, ℕ}
use Rattle.std.specs.Prelude.{Option, option_map}
use Rattle.clap.specs.Words.{Text, first_of, found_of, rows_of}
use Rattle.edit_set_version.specs.Bumps.{target_of}
use Rattle.edit_program.specs.ParsedSetVersion.{HaveNoTarget, IsTarget}
use Rattle.edit_program.proofs.ArgsLemmas.{err_same, option_text_is, value_is}
use Rattle.edit_program.proofs.set_version_parser.parse_set_version_args.Goals as goal

pub returns-in_err-target-clause-error : goal.returns-in_err-target-clause-error
returns-in_err-target-clause-error c =
    let rows = rows_of (found_of c.args.matches.now) in
    let version = option_text_is c.args.matches.now (codes "target") c.get_str.result _ refl c.get_str.ensures in
    let level = option_text_is c.args.matches.now (codes "bump") c.get_str-2.result _ refl c.get_str-2.ensures in
    err_same c.from_residual.result c.in_err-target.field-0.0 _ c.from_residual.ensures.1 (λ other.
    inr (inl (subst (λ (b : Option Text). HaveNoTarget (first_of (codes "target") rows) b) level
    (subst (λ (a : Option Text).
    HaveNoTarget a (option_map (λ (s : Bor (List ℕ)). s.now) c.get_str-2.result)) version
    (c.in_err-target.ensures.error other)))))

pub returns-in_err-presentation-clause-error : goal.returns-in_err-presentation-clause-error
returns-in_err-presentation-clause-error c =
    err_same c.from_residual-in_err-presentation.result c.in_err-presentation.field-0.0 _
    c.from_residual-in_err-presentation.ensures.1 (λ other.
    inr (inr c.in_err-presentation.ensures.error))

pub returns-clause-asks : goal.returns-clause-asks
returns-clause-asks c =
    let rows = rows_of (found_of c.args.matches.now) in
    let version = option_text_is c.args.matches.now (codes "target") c.get_str.result _ refl c.get_str.ensures in
    let level = option_text_is c.args.matches.now (codes "bump") c.get_str-2.result _ refl c.get_str-2.ensures in
    record {
      metadata_json = value_is c.args.matches.now (codes "metadata-json") (codes "metadata.json")
          c.get_str-3.result c.unwrap_or.result _ c.get_str-3.ensures c.unwrap_or.ensures refl;
      target = subst (λ (b : Option Text).
          IsTarget (first_of (codes "target") rows) b (target_of c.in_ok-target.target)) level
          (subst (λ (a : Option Text). IsTarget a (option_map (λ (s : Bor (List ℕ)). s.now) c.get_str-2.result)
          (target_of c.in_ok-target.target)) version
          c.in_ok-target.ensures.ok);
      packages = c.in_ok-selection.ensures.packages;
      exclude = c.in_ok-selection.ensures.exclude;
      workspace = c.in_ok-selection.ensures.workspace;
      metadata = c.in_ok-selection.ensures.metadata;
      all = c.is_given.ensures;
      dry_run = c.is_dry.ensures;
      presentation = c.in_ok-presentation.ensures.ok;
      named_once = search rules;
    }
