use Rattle.std.proofs.Common.{◌≡◌, ◌∙◌, ◌&&◌, Bool, ap, codes, false}
use Rattle.edit_program.proofs.ArgsLemmas.{is_there}
use Rattle.edit_program.proofs.TwiceLemmas.{all_named, and_right, named_is, none_named, not_twice, twice_all, twice_is, twice_workspace, workspace_named}
use Rattle.edit_program.proofs.set_version_parser.conflicting_selections.Goals as goal
use Rattle.edit_program.proofs.set_version_parser.conflicting_selections.Goals.{Joined-else-package-2, else-all-via-else-all, else-all-via-then-all+else-workspace, else-package-2-via-else-package-2, else-package-2-via-then-package-2+else-workspace-2, else-package-via-else-package, else-package-via-then-package+else-all-2}

-- the values of two flags of which one is not given
and_left : (a w : Bool) → a ≡ false → (a && w) ≡ false
and_left a w is = ap (λ b. b && w) is

pub returns-then-all-2-clause-found : goal.returns-then-all-2-clause-found
returns-then-all-2-clause-found c =
    twice_all c.is_given-all.result c.is_given-workspace.result c.is_some-package.result c.if-package.true
    c.if-all-2.true
    ∙ twice_is _ _ _ _ _ _ c.is_given-all.ensures c.is_given-workspace.ensures
    (c.is_some-package.ensures ∙ is_there c.args.matches.now (codes "package") c.get_str.result c.get_str.ensures)

pub returns-then-all-2-clause-named : goal.returns-then-all-2-clause-named
returns-then-all-2-clause-named c =
    let one : (c.is_given-all.result && c.is_given-workspace.result) ≡ false =
    elim c.else-all.branch [
      | else-all-via-then-all+else-workspace w ↦ and_right c.is_given-all.result _ w.if-workspace.false
      | else-all-via-else-all w ↦ and_left c.is_given-all.result _ w.if-all.false
    ] in
    all_named c.is_given-all.result c.is_given-workspace.result c.is_some-package.result one c.if-package.true
    c.if-all-2.true
    ∙ named_is _ _ _ _ _ _ c.is_given-all.ensures c.is_given-workspace.ensures
    (c.is_some-package.ensures ∙ is_there c.args.matches.now (codes "package") c.get_str.result c.get_str.ensures)

pub returns-then-workspace-2-clause-found : goal.returns-then-workspace-2-clause-found
returns-then-workspace-2-clause-found c =
    twice_workspace c.is_given-all.result c.is_given-workspace.result c.is_some-package.result
    c.if-package-2.true c.if-workspace-2.true
    ∙ twice_is _ _ _ _ _ _ c.is_given-all.ensures c.is_given-workspace.ensures
    (c.is_some-package.ensures ∙ is_there c.args.matches.now (codes "package") c.get_str.result c.get_str.ensures)

pub returns-then-workspace-2-clause-named : goal.returns-then-workspace-2-clause-named
returns-then-workspace-2-clause-named c =
    let one : (c.is_given-all.result && c.is_given-workspace.result) ≡ false =
    elim c.else-all.branch [
      | else-all-via-then-all+else-workspace w ↦ and_right c.is_given-all.result _ w.if-workspace.false
      | else-all-via-else-all w ↦ and_left c.is_given-all.result _ w.if-all.false
    ] in
    let two : (c.is_some-package.result && c.is_given-all.result) ≡ false =
    elim c.else-package.branch [
      | else-package-via-then-package+else-all-2 w ↦ and_right c.is_some-package.result _ w.if-all-2.false
      | else-package-via-else-package w ↦ and_left c.is_some-package.result _ w.if-package.false
    ] in
    workspace_named c.is_given-all.result c.is_given-workspace.result c.is_some-package.result one two
    c.if-package-2.true c.if-workspace-2.true
    ∙ named_is _ _ _ _ _ _ c.is_given-all.ensures c.is_given-workspace.ensures
    (c.is_some-package.ensures ∙ is_there c.args.matches.now (codes "package") c.get_str.result c.get_str.ensures)

-- no two of the three are given
record GivenAlone (a w p : Bool) : Type 0 where
  one : (a && w) ≡ false
  two : (p && a) ≡ false
  three : (p && w) ≡ false

alone : (c : Joined-else-package-2) → GivenAlone c.is_given-all.result c.is_given-workspace.result
    c.is_some-package.result
alone c = record {
  one = elim c.else-all.branch [
    | else-all-via-then-all+else-workspace w ↦ and_right c.is_given-all.result _ w.if-workspace.false
    | else-all-via-else-all w ↦ and_left c.is_given-all.result _ w.if-all.false
  ];
  two = elim c.else-package.branch [
    | else-package-via-then-package+else-all-2 w ↦ and_right c.is_some-package.result _ w.if-all-2.false
    | else-package-via-else-package w ↦ and_left c.is_some-package.result _ w.if-package.false
  ];
  three = elim c.else-package-2.branch [
    | else-package-2-via-then-package-2+else-workspace-2 w ↦
        and_right c.is_some-package.result _ w.if-workspace-2.false
    | else-package-2-via-else-package-2 w ↦ and_left c.is_some-package.result _ w.if-package-2.false
  ];
}

pub returns-else-package-2-clause-found : goal.returns-else-package-2-clause-found
returns-else-package-2-clause-found c =
    not_twice c.is_given-all.result c.is_given-workspace.result c.is_some-package.result (alone c).one
    (alone c).two (alone c).three
    ∙ twice_is _ _ _ _ _ _ c.is_given-all.ensures c.is_given-workspace.ensures
    (c.is_some-package.ensures ∙ is_there c.args.matches.now (codes "package") c.get_str.result c.get_str.ensures)

pub returns-else-package-2-clause-named : goal.returns-else-package-2-clause-named
returns-else-package-2-clause-named c =
    none_named c.is_given-all.result c.is_given-workspace.result c.is_some-package.result (alone c).one
    (alone c).two (alone c).three
    ∙ named_is _ _ _ _ _ _ c.is_given-all.ensures c.is_given-workspace.ensures
    (c.is_some-package.ensures ∙ is_there c.args.matches.now (codes "package") c.get_str.result c.get_str.ensures)
