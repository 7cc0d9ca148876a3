use Rattle.std.proofs.Common.{◌∙◌, ◌++◌, ap, codes, lit<}
use Rattle.std.specs.Prelude.{string_bytes}
use Rattle.std.proofs.lemmas.Str.{encode_ascii}
use Rattle.edit_shown.specs.Annotations.{data_text}
use Rattle.edit_shown.proofs.annotations.texts.annotation.Goals as goal

pub returns : goal.returns
returns c =
    c.in_ok-push.ensures.bytes
    ∙ ap (λ t. string_bytes c.push_data.new.to ++ t) (encode_ascii 10 (lit< tt))
    ∙ ap (λ t. t ++ codes "\n") (c.in_ok-push_data.ensures
    ∙ ap (λ t. t ++ data_text c.args.message.now) (c.in_ok-push_str.ensures.bytes
    ∙ ap (λ t. t ++ codes ",title=cargo upgrade::") c.in_ok-text.ensures))
