use Rattle.std.proofs.Common.{arith}
use Rattle.std.proofs.lemmas.Map.Text.{text_keys}
use Rattle.edit_store.proofs.memory_store.MemoryStoreStore.write.Goals as goal

-- the key has the path's bytes, so `insert` set the path's file and no other
pub returns-clause-others : goal.returns-clause-others
returns-clause-others c = λ path differs. grind (arith, text_keys)
