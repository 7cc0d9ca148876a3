-- The answer of a subcommand, from that to its parsed arguments and its name.
use Rattle.std.proofs.Common.{◌≡◌, List, codes, inl, inr}
use Rattle.std.specs.Prelude.{◌⊎◌}
use Rattle.clap.specs.Words.{Row, Text}
use Rattle.edit_program.specs.Replies.{IsLookupsReply, IsReplyBy, IsUpgradeReply, IsVersionReply}
use Rattle.edit_program.specs.Run.{Run}
use Rattle.edit_program.specs.declared.effects.Reply.{Reply}
use Rattle.edit_program.specs.declared.effects.Reply.TheVariants as reply

pub upgrade_reply_by : (name : Text) (rows : List Row) (run : Run) (r : Reply) → name ≡ codes "upgrade"
    → IsUpgradeReply rows run r → IsReplyBy name rows run r
upgrade_reply_by name rows run (reply.Usage text) is h = inr (inl (is, h))
upgrade_reply_by name rows run (reply.Text text) is h = absurd h
upgrade_reply_by name rows run (reply.Effects e) is h = inl (is, h)

pub lookups_reply_by : (name : Text) (rows : List Row) (run : Run) (r : Reply) → name ≡ codes "looks"
    → IsLookupsReply rows run.current run.home run.old r → IsReplyBy name rows run r
lookups_reply_by name rows run (reply.Usage text) is h = inr (inr (inl (is, h)))
lookups_reply_by name rows run (reply.Text text) is h = (is, h)
lookups_reply_by name rows run (reply.Effects e) is h = absurd h

pub version_reply_by : (name : Text) (rows : List Row) (run : Run) (r : Reply) → name ≡ codes "set-version"
    → IsVersionReply rows run.current run.old r → IsReplyBy name rows run r
version_reply_by name rows run (reply.Usage text) is h = inr (inr (inr (is, h)))
version_reply_by name rows run (reply.Text text) is h = absurd h
version_reply_by name rows run (reply.Effects e) is h = inr (is, h)

-- what holds in the second case
pub in_right : {A B C : Type 0} → (B → C) → A ⊎ B → A ⊎ C
in_right f (inl a) = inl a
in_right f (inr b) = inr (f b)
