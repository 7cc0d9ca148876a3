use Rattle.std.proofs.Common.{◌≡◌, drop}
use Rattle.edit_tree.specs.Nodes.{entries_in, number_in}
use Rattle.edit_tree.proofs.nodes.number_among.Given as goal

-- the name is among those that are left, or it is nowhere
abbrev pub invariant-members : goal.invariant-members
invariant-members l = number_in (entries_in l.text l.members) l.name
    ≡ number_in (entries_in l.text (drop l.member-index l.members)) l.name
