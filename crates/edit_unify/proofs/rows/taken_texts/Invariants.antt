use Rattle.std.proofs.Common.{◌≡◌, map, option_map, string_bytes, take}
use Rattle.edit_version.specs.Levels.{level_of}
use Rattle.edit_unify.specs.Stands.{stand_view}
use Rattle.edit_unify.specs.Unified.{taken_text}
use Rattle.edit_unify.proofs.rows.taken_texts.Given as goal

-- the texts of the rows so far
abbrev pub invariant-stands : goal.invariant-stands
invariant-stands l = map (option_map string_bytes) l.texts.items
    ≡ map (λ own. taken_text (level_of l.levels) own (map (option_map stand_view) l.own-items))
    (map (option_map stand_view) (take l.own-index l.own-items))
