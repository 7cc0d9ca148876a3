use Rattle.std.proofs.Common.{map, ap, ◌∙◌, string_bytes}
use Rattle.std.proofs.lemmas.List.{map-append}
use Rattle.edit_record.proofs.dependency.copies.append_texts.Goals as goal

pub returns-in_ok-append-in-Some : goal.returns-in_ok-append-in-Some
returns-in_ok-append-in-Some c =
    rw c.in-Some.is
    (ap (map string_bytes) c.in_ok-append-in-Some.ensures.items ∙ map-append string_bytes _ _)
