-- A plan of inputs as one fact.
use Rattle.std.specs.Prelude.{List, All, map}
use Rattle.std.specs.Global.{Vec}
use Rattle.edit_metadata.specs.declared.input.Input.{Input}
use Rattle.edit_sources.specs.declared.config.Config.{Config}
use Rattle.edit_upgrade.specs.Caches.{CacheView}
use Rattle.edit_upgrade.specs.Headline.{IsSettled, KeepsLevel, LatestIsNotLess, Narrows, NeedsAsBefore, NeverLowers, Reaches}
use Rattle.edit_upgrade.specs.Inputs.{EachInput, OutputsInOrder, RowsInOrder, WarningsInOrder}
use Rattle.edit_upgrade.specs.Lines.{line_of}
use Rattle.edit_upgrade.specs.Lists.{HasRowLists}
use Rattle.edit_upgrade.specs.LookupOrder.{AreInOrder}
use Rattle.edit_upgrade.specs.Lookups.{AreLookups}
use Rattle.edit_upgrade.specs.Missing.{ListsMissing}
use Rattle.edit_upgrade.specs.Upgraded.{HasItsOutputs, HasItsRows, HasItsWarnings, IsNeeded}
use Rattle.edit_upgrade.specs.declared.decision.options.Options.{Options}
use Rattle.edit_upgrade.specs.declared.upgrade.UpgradePlan.{UpgradePlan}

-- the lookups of a plan: each one that the inputs need and no other, from this cache to that (own)
abbrev pub HasLookups : List Input → List (Vec Config) → CacheView → CacheView → UpgradePlan → Type 0
HasLookups inputs configs old new p =
    AreLookups (IsNeeded inputs configs) old.gives old.cached new.cached p.looks.items

-- the lookups of a plan stand in the order in which the inputs need them (own)
abbrev pub AreLookupsInOrder : List Input → List (Vec Config) → UpgradePlan → Type 0
AreLookupsInOrder inputs configs p = AreInOrder inputs configs p.looks.items

-- what a plan of inputs is, from this cache to that: each promise on it by its name, as the clauses of
-- `plan_upgrade` have them (own)
pub record IsPlan (o : Options) (inputs : List Input) (configs : List (Vec Config)) (old new : CacheView)
    (p : UpgradePlan) : Type 0 where
  pub rows : EachInput o inputs configs HasItsRows p
  pub rows_in_order : RowsInOrder inputs p
  pub outputs : EachInput o inputs configs HasItsOutputs p
  pub outputs_in_order : OutputsInOrder inputs p
  pub warnings : EachInput o inputs configs HasItsWarnings p
  pub warnings_in_order : WarningsInOrder inputs p
  pub narrowing : All Narrows (map line_of p.rows.items)
  pub reach : All Reaches (map line_of p.rows.items)
  pub latest : All LatestIsNotLess (map line_of p.rows.items)
  pub never_lower : NeverLowers o p
  pub level : KeepsLevel o p
  pub fixed_point : EachInput o inputs configs IsSettled p
  pub needs : EachInput o inputs configs NeedsAsBefore p
  pub missing : ListsMissing o inputs p
  pub lookups : HasLookups inputs configs old new p
  pub lookups_in_order : AreLookupsInOrder inputs configs p
  pub lists : HasRowLists p
