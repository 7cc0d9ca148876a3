-- A cache after a call that failed.
use Rattle.std.specs.Prelude.{Result, Ok, Err, OnErr}
use Rattle.edit_cache.specs.IndexCache.{HasSameCache}
use Rattle.edit_cache.specs.declared.cache.IndexCache.{IndexCache}

-- where a cache is the same, it is the same on an error
pub same-on-err : {I T E : Type 0} (old new : IndexCache I) (r : Result T E) → HasSameCache old new
    → OnErr r (HasSameCache old new)
same-on-err old new (Ok x) same = tt
same-on-err old new (Err e) same = same
