-- A line that is written in four parts.
use Rattle.std.proofs.Common.{◌≡◌, ℕ, List, ◌++◌, ap, ◌∙◌}
use Rattle.std.proofs.lemmas.List.{append_assoc}

pub four_parts : (t a b c d t1 t2 t3 t4 : List ℕ) → t1 ≡ t ++ a → t2 ≡ t1 ++ b → t3 ≡ t2 ++ c → t4 ≡ t3 ++ d
    → t4 ≡ t ++ (a ++ (b ++ (c ++ d)))
four_parts t a b c d t1 t2 t3 t4 first second third fourth =
    fourth ∙ ap (λ s. s ++ d) (third ∙ ap (λ s. s ++ c) (second ∙ ap (λ s. s ++ b) first))
    ∙ append_assoc ((t ++ a) ++ b) c d ∙ append_assoc (t ++ a) b (c ++ d) ∙ append_assoc t a (b ++ (c ++ d))
