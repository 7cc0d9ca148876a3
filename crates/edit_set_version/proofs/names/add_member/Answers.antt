use Rattle.std.proofs.Common.{◌∙◌}
use Rattle.std.specs.BTreeSet.{contains_text}
use Rattle.edit_metadata.specs.Workspaces.{package_view}
use Rattle.edit_set_version.proofs.NameLemmas.{member_among}
use Rattle.edit_set_version.proofs.names.add_member.Goals as goal

pub returns : goal.returns
returns c = record {
  ok = λ q.
      c.in_ok-add_name.ensures.ok q
      ∙ member_among (package_view c.args.found.now) q c.as_str.result.now (contains_text c.args.names.now q)
      c.if-not-found.false c.as_str.ensures.value;
}
