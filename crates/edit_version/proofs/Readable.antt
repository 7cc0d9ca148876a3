-- Whether a requirement's text can be parsed.
use Rattle.std.proofs.Common.{◌≡◌, List, ℕ, Some, Ok, Err, ap}
use Rattle.std.specs.Prelude.{Result}
use Rattle.std.specs.Result.{result_ok}
use Rattle.semver.specs.Parse.{Held, req_of}
use Rattle.semver.specs.declared.error.Error.{Error}
use Rattle.edit_version.specs.Requirement.{requirement_read}

-- what is read of a text that is a requirement
read-ok : (r : Result (List Held) Error) (cs : List Held) → Some cs ≡ result_ok r → r ≡ Ok cs
read-ok (Ok ds) cs h = let same : ds ≡ cs = cc h in ap Ok same
read-ok (Err e) cs h = cc h

pub requirement-ok : (text : List ℕ) (cs : List Held) → Some cs ≡ requirement_read text → req_of text ≡ Ok cs
requirement-ok text cs h = read-ok (req_of text) cs h
