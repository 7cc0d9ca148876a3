use Rattle.std.proofs.Common.{Bool, Option, Some, ap, codes, inl, inr, refl, rules, subst, sym, ◌∙◌}
use Rattle.clap.specs.Words.{Text, first_of, found_of, rows_of}
use Rattle.edit_program.specs.ParsedUpgrade.{HasNoRust, IsRust}
use Rattle.edit_version.specs.declared.levels.Level.{Level}
use Rattle.edit_program.proofs.ArgsLemmas.{err_same, option_text_is}
use Rattle.edit_program.proofs.upgrade_parser.parse_upgrade_args.Goals as goal

pub returns-in_err-rust-clause-error : goal.returns-in_err-rust-clause-error
returns-in_err-rust-clause-error c =
    let rows = rows_of (found_of c.args.matches.now) in
    let named = option_text_is c.args.matches.now (codes "rust-version") c.get_str.result _ refl c.get_str.ensures in
    err_same c.from_residual.result c.in_err-rust.field-0.0 _ c.from_residual.ensures.1 (λ other.
    inr (inr (inl (subst (λ (b : Bool). HasNoRust (first_of (codes "rust-version") rows) b)
    c.is_given-ignored.ensures
    (subst (λ (a : Option Text). HasNoRust a c.is_given-ignored.result) named
    (c.in_err-rust.ensures.error other))))))

pub returns-in_err-presentation-clause-error : goal.returns-in_err-presentation-clause-error
returns-in_err-presentation-clause-error c =
    err_same c.from_residual-in_err-presentation.result c.in_err-presentation.field-0.0 _
    c.from_residual-in_err-presentation.ensures.1 (λ other.
    inr (inr (inr (inl c.in_err-presentation.ensures.error))))

pub returns-in_err-level-clause-error : goal.returns-in_err-level-clause-error
returns-in_err-level-clause-error c =
    err_same c.from_residual-in_err-level.result c.in_err-level.field-0.0 _
    c.from_residual-in_err-level.ensures.1 (λ other.
    inr (inr (inr (inr (inl c.in_err-level.ensures.error)))))

pub returns-in_err-published_before-clause-error : goal.returns-in_err-published_before-clause-error
returns-in_err-published_before-clause-error c =
    err_same c.from_residual-in_err-published_before.result c.in_err-published_before.field-0.0 _
    c.from_residual-in_err-published_before.ensures.1 (λ other.
    inr (inr (inr (inr (inr (inr (inl c.in_err-published_before.ensures.error)))))))

pub returns-in_err-to_lockfile-clause-error : goal.returns-in_err-to_lockfile-clause-error
returns-in_err-to_lockfile-clause-error c =
    err_same c.from_residual-in_err-to_lockfile.result c.in_err-to_lockfile.field-0.0 _
    c.from_residual-in_err-to_lockfile.ensures.1 (λ other.
    inr (inr (inr (inr (inr (inl (record {
      incompatible = c.in_ok-options.options.incompatible;
      status = c.in_ok-options.ensures.options.incompatible;
      fault = c.in_err-to_lockfile.ensures.error;
    })))))))

pub returns-in_err-rows-clause-error : goal.returns-in_err-rows-clause-error
returns-in_err-rows-clause-error c =
    err_same c.from_residual-in_err-rows.result c.in_err-rows.field-0.0 _
    c.from_residual-in_err-rows.ensures.1 (λ other.
    inr (inr (inr (inr (inr (inr (inr (c.in_err-rows.ensures.error other))))))))

pub returns-clause-asks : goal.returns-clause-asks
returns-clause-asks c =
    let rows = rows_of (found_of c.args.matches.now) in
    let named = option_text_is c.args.matches.now (codes "rust-version") c.get_str.result _ refl c.get_str.ensures in
    record {
      manifest = option_text_is c.args.matches.now (codes "manifest-path") c.get_str-2.result _ refl c.get_str-2.ensures;
      metadata = option_text_is c.args.matches.now (codes "metadata-json") c.get_str-3.result _ refl c.get_str-3.ensures;
      index = option_text_is c.args.matches.now (codes "index-file") c.get_str-4.result _ refl c.get_str-4.ensures;
      folder = option_text_is c.args.matches.now (codes "index-dir") c.get_str-5.result _ refl c.get_str-5.ensures;
      config = option_text_is c.args.matches.now (codes "config") c.get_str-6.result _ refl c.get_str-6.ensures;
      default_config = option_text_is c.args.matches.now (codes "default-config") c.get_str-7.result _ refl
          c.get_str-7.ensures;
      one_index = search rules;
      rust = subst (λ (b : Bool). IsRust (first_of (codes "rust-version") rows) b c.in_ok-rust.rust)
          c.is_given-ignored.ensures
          (subst (λ (a : Option Text). IsRust a c.is_given-ignored.result c.in_ok-rust.rust) named
          c.in_ok-rust.ensures.ok);
      options = c.in_ok-options.ensures.options;
      level = c.in_ok-level.ensures.ok
          ∙ ap (λ (l : Option Level). Some l) (sym c.in_ok-options.ensures.level);
      choices = c.given_choices.ensures;
      no_policy = search rules;
      presentation = c.in_ok-presentation.ensures.ok;
      calls = option_text_is c.args.matches.now (codes "update-calls") c.get_str-8.result _ refl c.get_str-8.ensures;
      lock = option_text_is c.args.matches.now (codes "lock-file") c.get_str-9.result _ refl c.get_str-9.ensures;
      offline = search rules;
      to_lockfile = c.in_ok-to_lockfile.ensures.given;
      usable = c.in_ok-to_lockfile.ensures.usable;
      bound = c.in_ok-published_before.ensures.ok;
      time = option_text_is c.args.matches.now (codes "now") c.get_str-10.result _ refl c.get_str-10.ensures;
      unify = search rules;
      choice = c.in_ok-rows.ensures.ok;
    }
