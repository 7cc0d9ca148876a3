-- `clap` specifies the matches and the errors of the command line.
use Rattle.std.proofs.Common.{◌≡◌, refl, true}
use Rattle.clap.specs.Words.{is_simple, is_simple_and_free}
use Rattle.edit_words.specs.CommandLine.{edit_app}

-- which matches
pub edit_app_is_simple : is_simple edit_app ≡ true
unfolding edit_app
edit_app_is_simple = refl

-- and which faults
pub edit_app_is_free : is_simple_and_free edit_app ≡ true
unfolding edit_app
edit_app_is_free = refl
