use Rattle.std.proofs.Common.{◌≡◌, ◌++◌, List, arith, false, true, ◌∙◌, ap, inl, inr, ⊎_elim, map, string_bytes, subst, sym}
use Rattle.std.specs.Prelude.{◌⊎◌}
use Rattle.std.specs.List.{list_any}
use Rattle.std.specs.Str.{bytes_eq}
use Rattle.std.proofs.lemmas.List.{map-append}
use Rattle.std.proofs.lemmas.Result.{err_from_is_err_and}
use Rattle.edit_base.specs.Errors.{IsMemory}
use Rattle.edit_sources.specs.ConfigurationFiles.{IsFollowing}
use Rattle.edit_sources.specs.Configured.{IsConfigErrorAt, include_view}
use Rattle.edit_sources.specs.FollowingSteps.{StopsAtFile}
use Rattle.edit_sources.specs.declared.config.Config.{Config}
use Rattle.edit_sources.proofs.FollowLemmas.{following_read, stops_malformed, stops_many, stops_twice}
use Rattle.edit_sources.proofs.config.following.add_file.Goals as goal
use Rattle.edit_sources.proofs.config.following.add_file.Goals.{then-len-ge-MOST_FILES-via-then-len-ge-MOST_FILES, then-len-ge-MOST_FILES-via-else-len-ge-MOST_FILES+then-has_path}

pub returns-then-len-ge-MOST_FILES-clause-error : goal.returns-then-len-ge-MOST_FILES-clause-error
returns-then-len-ge-MOST_FILES-clause-error c =
    let rest = map include_view c.args.pending.now.items in
    let configs = c.args.configs.now.items in
    let path = c.args.path.now in
    let bytes = c.args.bytes.now in
    elim c.config_file_error.ensures [
      | inl memory ↦ inl memory
      | inr named ↦ inr (
        named,
        λ files start h. elim c.then-len-ge-MOST_FILES.branch [
          | then-len-ge-MOST_FILES-via-then-len-ge-MOST_FILES w ↦
              stops_many files start rest configs path bytes h (omega (arith, c.len.ensures))
          | then-len-ge-MOST_FILES-via-else-len-ge-MOST_FILES+then-has_path w ↦
              stops_twice files start rest configs path bytes h
              (subst (λ (cs : List Config). list_any (λ x. bytes_eq (string_bytes x.path) path) cs ≡ true)
              w.deref.ensures.value (sym w.has_path.ensures ∙ w.if-has_path.true))
        ],
      )
    ]

pub returns-in_err-config-clause-error : goal.returns-in_err-config-clause-error
returns-in_err-config-clause-error c =
    let rest = map include_view c.args.pending.now.items in
    let configs = c.args.configs.now.items in
    let path = c.args.path.now in
    let bytes = c.args.bytes.now in
    let why : IsMemory c.in_err-config.field-0.0 ⊎ (IsConfigErrorAt path c.in_err-config.field-0.0
    × StopsAtFile path bytes rest configs) = ⊎_elim (λ memory. inl memory)
    (λ bad. inr (bad.0, λ files start h. stops_malformed files start rest configs path bytes h bad.1))
    c.in_err-config.ensures.error in
    let stop = c.from_residual in
    let e = err_from_is_err_and stop.result stop.ensures.1 in
    rw (e.1, e.2) why

pub returns-clause-read : goal.returns-clause-read
returns-clause-read c = λ files start h.
    let rest = map include_view c.args.pending.now.items in
    let more = map include_view c.in_ok-config.includes.items in
    let configs = c.args.configs.now.items in
    let path = c.args.path.now in
    let bytes = c.args.bytes.now in
    let config = c.in_ok-config.config in
    let pending : map include_view c.append.new.self.items ≡ rest ++ more =
    ap (map include_view) c.in_ok-append.ensures.items
    ∙ map-append include_view c.args.pending.now.items c.in_ok-config.includes.items in
    subst (λ is. IsFollowing files start is c.push.new.self.items) (sym pending)
    (subst (λ cs. IsFollowing files start (rest ++ more) cs) (sym c.in_ok-push.ensures.items)
    (following_read files start rest more configs path bytes config h
    (subst (λ (cs : List Config). list_any (λ x. bytes_eq (string_bytes x.path) path) cs ≡ false)
    c.deref.ensures.value (sym c.has_path.ensures ∙ c.if-has_path.false))
    c.in_ok-config.ensures.includes
    (record { path = c.in_ok-config.ensures.named; said = c.in_ok-config.ensures.content })))
