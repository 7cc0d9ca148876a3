use Rattle.std.proofs.Common.{arith, Some, None}
use Rattle.std.proofs.lemmas.Map.Text.{text_keys}
use Rattle.edit_upgrade.proofs.addresses.Addresses.store_url.Goals as goal

pub returns-in_ok-insert-in-Some-clause-preserved : goal.returns-in_ok-insert-in-Some-clause-preserved
returns-in_ok-insert-in-Some-clause-preserved c =
    λ named. elim named [ None ↦ grind (arith, text_keys) | Some b ↦ grind (arith, text_keys) ]

pub returns-in-None-clause-preserved : goal.returns-in-None-clause-preserved
returns-in-None-clause-preserved c =
    λ named. elim named [ None ↦ grind (arith, text_keys) | Some b ↦ grind (arith, text_keys) ]
