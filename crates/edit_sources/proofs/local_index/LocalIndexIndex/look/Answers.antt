use Rattle.edit_sources.proofs.SameLookups.{same_lookups}
use Rattle.edit_sources.proofs.local_index.LocalIndexIndex.look.Goals as goal

pub returns-in-Err-read_index_text-clause-same : goal.returns-in-Err-read_index_text-clause-same
returns-in-Err-read_index_text-clause-same g c =
    same_lookups _ _ c.read_index_text.ensures.tells c.read_index_text.ensures.published

pub returns-clause-same : goal.returns-clause-same
returns-clause-same g c = same_lookups _ _ c.read_index_text.ensures.tells c.read_index_text.ensures.published
