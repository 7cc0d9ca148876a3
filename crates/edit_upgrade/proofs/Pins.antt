-- Whether comparators pin an entry, over the types of `semver` and over their views.
use Rattle.std.proofs.Common.{◌≡◌, ◌∷◌, [], List, ℕ, Bool, false, map, refl, ap, ◌∙◌, sym, Ok, Option}
use Rattle.std.specs.Prelude.{◌||◌, is_ok}
use Rattle.std.specs.List.{list_any}
use Rattle.semver.specs.Identifiers.{comparator_view}
use Rattle.semver.specs.Parse.{Held, req_of}
use Rattle.semver.specs.declared.Comparator.{Comparator}
use Rattle.edit_upgrade.specs.Decision.{Case, compatible_text, decision, has_pin_read, is_pin, is_pinned, latest_text}
use Rattle.edit_upgrade.specs.Decided.{decision_by}
use Rattle.edit_upgrade.specs.declared.decision.options.Options.{Options}

pin-views : (cs : List Comparator)
    → list_any (λ (c : Comparator). is_pin c.op) cs
    ≡ list_any (λ (h : Held). is_pin h.0) (map comparator_view cs)
pin-views [] = refl
pin-views (c ∷ cs) = ap (λ b. is_pin c.op || b) (pin-views cs)

pub pin-read : (text : List ℕ) (cs : List Comparator) (b : Bool) → req_of text ≡ Ok (map comparator_view cs)
    → b ≡ list_any (λ (c : Comparator). is_pin c.op) cs → b ≡ has_pin_read (req_of text)
pin-read text cs b h e = e ∙ pin-views cs ∙ ap has_pin_read (sym h)

-- the decision, from the texts that could be written
pub decision-is : (o : Options) (c : Case) (p r : Bool) (far near : Option (List ℕ)) → c.excluded ≡ false
    → p ≡ is_pinned c
    → r ≡ is_ok (req_of c.old) → far ≡ latest_text c → near ≡ compatible_text c
    → decision_by o false p r c.selected c.old far near ≡ decision o c
decision-is o c p r far near x hp hr hf hn = rw (x, hp, hr, hf, hn) refl
