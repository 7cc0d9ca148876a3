-- After the turns rows that are together have one text, that of their one leader.
use Rattle.std.proofs.Common.{◌≡◌, ◌∷◌, [], ◌∙◌, ⊎_elim, List, Bool, true, false, ℕ, Option, Some, None, ap, refl, sym, subst, map, option_map, string_bytes}
use Rattle.std.specs.Prelude.{◌&&◌, Contains, String, if◌then◌else◌, option_and_then}
use Rattle.std.specs.List.{AllZip, fold, zip}
use Rattle.std.specs.Str.{bytes_eq}
use Rattle.std.specs.declared.alloc.Global.{Global}
use Rattle.std.proofs.lemmas.Slice.Eq.{bytes_eq-Decides}
use Rattle.edit_report.specs.declared.row.Row.{Row}
use Rattle.edit_version.specs.Levels.{CrateBounds}
use Rattle.edit_unify.specs.Leaders.{better, leader}
use Rattle.edit_unify.specs.Ranges.{Caret, caret_of, is_same_range, keeps_level}
use Rattle.edit_unify.specs.Stands.{Required, is_left_out, is_same_crate, is_together, required, stand_of, stands_of}
use Rattle.edit_unify.specs.Unified.{HasOneText, IsWithText, taken_text, taken_texts, unless_same}
use Rattle.edit_unify.proofs.GroupLemmas.{alike, right}
use Rattle.edit_unify.proofs.LeaderLemmas.{first_or_rest, has_first, has_more, leader_is, leader_there, none_in, none_is, some_is}
use Rattle.edit_unify.proofs.UnifyLemmas.{IsTurn, IsTurnBy, both, first_is, rest_is, self_together}

better_alike : (level : CrateBounds) (a b : Required)
    → ((x : Required) → is_together level a x ≡ is_together level b x) → (best other : Option Required)
    → better level a best other ≡ better level b best other
better_alike level a b same best None = refl
better_alike level a b same None (Some other) =
    ap (λ t. if t && true then Some other else None) (same other)
better_alike level a b same (Some best) (Some other) = cc (same other)

lead_alike : (level : CrateBounds) (a b : Required)
    → ((x : Required) → is_together level a x ≡ is_together level b x) → (best : Option Required)
    → (stands : List (Option Required))
    → fold (better level a) best stands ≡ fold (better level b) best stands
lead_alike level a b same best [] = refl
lead_alike level a b same best (other ∷ stands) =
    ap (λ x. fold (better level a) x stands) (better_alike level a b same best other)
    ∙ lead_alike level a b same (better level b best other) stands

-- what is known of a row that requires something
record Stands (address : Option (List ℕ)) (row : Row) (b : Required) : Type 0 where
  pub address_is : address ≡ Some b.address
  pub name_is : string_bytes row.name ≡ b.name
  pub text_is : option_map string_bytes row.new ≡ Some b.text
  pub caret_is : caret_of b.text ≡ Some b.caret

required_is : (a name text : List ℕ) (b : Required) (caret : Option Caret) → caret_of text ≡ caret
    → option_map (λ caret. record { address = a; name = name; caret = caret; text = text }) caret ≡ Some b
    → (a ≡ b.address) × (name ≡ b.name) × (text ≡ b.text) × (caret_of b.text ≡ Some b.caret)
required_is a name text b None of is = absurd (none_is b is)
required_is a name text b (Some caret) of is =
    let same = some_is _ b is in (
      ap (λ x. x.address) same,
      ap (λ x. x.name) same,
      ap (λ x. x.text) same,
      subst (λ x. caret_of x.text ≡ Some x.caret) same of,
    )

stands_if : (out : Bool) (address : Option (List ℕ)) (row : Row) (new : Option (String Global)) (b : Required)
    → row.new ≡ new
    → (if out then None else option_and_then (λ a. option_and_then (λ text.
    required a (string_bytes row.name) (string_bytes text)) new) address) ≡ Some b
    → Stands address row b
stands_if true address row new b new_is is = absurd (none_is b is)
stands_if false None row new b new_is is = absurd (none_is b is)
stands_if false (Some a) row None b new_is is = absurd (none_is b is)
stands_if false (Some a) row (Some text) b new_is is =
    let r = required_is a (string_bytes row.name) (string_bytes text) b (caret_of (string_bytes text)) refl is in
    record {
      address_is = ap Some r.0;
      name_is = r.1;
      text_is = ap (option_map string_bytes) new_is ∙ ap Some r.2;
      caret_is = r.3;
    }

stand_is : (address : Option (List ℕ)) (row : Row) (b : Required) → stand_of address row ≡ Some b
    → Stands address row b
stand_is address row b is = stands_if (is_left_out row.reason) address row row.new b refl is

-- the leader whose text a row has after its turn
record HasLed (level : CrateBounds) (all : List (Option Required)) (b : Required) : Type 0 where
  pub own : Required
  pub lead : Required
  pub leads : leader level own all ≡ Some lead
  pub together : is_together level own lead ≡ true
  pub address_is : own.address ≡ b.address
  pub name_is : own.name ≡ b.name
  pub caret_is : lead.caret ≡ b.caret
  pub text_is : lead.text ≡ b.text

-- the requirement of each of the rows is read from its text
abbrev pub AreRead : List (Option Required) → Type 0
AreRead all = (x : Required) → Contains all (Some x) → caret_of x.text ≡ Some x.caret

are_read : (addresses : List (Option (List ℕ))) (rows : List Row) → AreRead (stands_of addresses rows)
are_read [] rows x has = absurd (none_in (Some x) has)
are_read (d ∷ addresses) [] x has = absurd (none_in (Some x) has)
are_read (d ∷ addresses) (r ∷ rows) x has =
    ⊎_elim (λ e. (stand_is d r x e).caret_is) (λ later. are_read addresses rows x later)
    (first_or_rest (stand_of d r) (Some x) (stands_of addresses rows) has)

same_caret : (l b : Required) → l.text ≡ b.text → caret_of l.text ≡ Some l.caret
    → caret_of b.text ≡ Some b.caret → l.caret ≡ b.caret
same_caret l b text l_is b_is = some_is l.caret b.caret (sym l_is ∙ ap caret_of text ∙ b_is)

unless_none : (t : Bool) (old text : List ℕ) → bytes_eq text old ≡ t
    → None ≡ (if t then None else Some text) → text ≡ old
unless_none true old text t is = (bytes_eq-Decides text old).0 t
unless_none false old text t is = absurd (none_is text is)

unless_some : (t : Bool) (taken text : List ℕ)
    → Some taken ≡ (if t then None else Some text) → taken ≡ text
unless_some true taken text is = absurd (none_is taken (sym is))
unless_some false taken text is = some_is taken text is

-- a row that keeps its own text has that of its leader
led_none : (level : CrateBounds) (all : List (Option Required)) (b : Required) → AreRead all
    → Contains all (Some b) → (first : Option Required) → leader level b all ≡ first
    → None ≡ option_and_then (λ l. unless_same b.text l.text) first → HasLed level all b
led_none level all b read has None is takes =
    absurd (leader_there level b b all has (self_together level b) is)
led_none level all b read has (Some l) is takes =
    let r = leader_is level b all l is in
    let text = unless_none (bytes_eq l.text b.text) b.text l.text refl takes in record {
      own = b;
      lead = l;
      leads = is;
      together = r.together;
      address_is = refl;
      name_is = refl;
      caret_is = same_caret l b text (read l r.among) (read b has);
      text_is = text;
    }

-- a row that takes a text has that of its leader
led_some : (level : CrateBounds) (all : List (Option Required)) (address : Option (List ℕ)) (row a : Row)
    (taken : List ℕ) (o b : Required) → AreRead all → stand_of address row ≡ Some o
    → stand_of address a ≡ Some b → IsWithText taken row a
    → (first : Option Required) → leader level o all ≡ first
    → Some taken ≡ option_and_then (λ l. unless_same o.text l.text) first → HasLed level all b
led_some level all address row a taken o b read own_is b_is with None is takes =
    absurd (none_is taken (sym takes))
led_some level all address row a taken o b read own_is b_is with (Some l) is takes =
    let r = leader_is level o all l is in
    let before = stand_is address row o own_is in
    let now = stand_is address a b b_is in
    let text : l.text ≡ b.text = sym (unless_some (bytes_eq l.text o.text) taken l.text takes)
    ∙ some_is taken b.text (sym with.new ∙ now.text_is) in record {
      own = o;
      lead = l;
      leads = is;
      together = r.together;
      address_is = some_is o.address b.address (sym before.address_is ∙ now.address_is);
      name_is = sym before.name_is ∙ ap string_bytes (sym with.name) ∙ now.name_is;
      caret_is = same_caret l b text (read l r.among) now.caret_is;
      text_is = text;
    }

led_row : (level : CrateBounds) (all : List (Option Required)) (address : Option (List ℕ)) (row a : Row)
    (taken : Option (String Global)) (b : Required) → AreRead all → Contains all (stand_of address row)
    → IsTurnBy taken row a → stand_of address a ≡ Some b
    → (own : Option Required) → stand_of address row ≡ own
    → option_map string_bytes taken ≡ taken_text level own all → HasLed level all b
led_row level all address row a None b read has turn b_is None own_is takes =
    absurd (none_is b (sym own_is ∙ ap (stand_of address) (sym turn) ∙ b_is))
led_row level all address row a None b read has turn b_is (Some o) own_is takes =
    let same : o ≡ b = some_is o b (sym own_is ∙ ap (stand_of address) (sym turn) ∙ b_is) in
    subst (HasLed level all) same
    (led_none level all o read (subst (Contains all) own_is has) (leader level o all) refl takes)
led_row level all address row a (Some t) b read has turn b_is None own_is takes =
    absurd (none_is (string_bytes t) (sym takes))
led_row level all address row a (Some t) b read has turn b_is (Some o) own_is takes =
    led_some level all address row a (string_bytes t) o b read own_is b_is turn (leader level o all) refl takes

led_each : (level : CrateBounds) (all : List (Option Required))
    (addresses : List (Option (List ℕ))) (rows : List Row) (texts : List (Option (String Global)))
    (after : List Row) → AreRead all
    → ((x : Option Required) → Contains (stands_of addresses rows) x → Contains all x)
    → map (option_map string_bytes) texts ≡ map (λ own. taken_text level own all) (stands_of addresses rows)
    → AllZip IsTurn (zip rows texts) after
    → (b : Required) → Contains (stands_of addresses after) (Some b) → HasLed level all b
led_each level all [] rows texts after read within takes turns b has = absurd (none_in (Some b) has)
led_each level all (d ∷ addresses) rows texts [] read within takes turns b has =
    absurd (none_in (Some b) has)
led_each level all (d ∷ addresses) [] texts (a ∷ after) read within takes turns b has = absurd turns
led_each level all (d ∷ addresses) (r ∷ rows) [] (a ∷ after) read within takes turns b has = absurd turns
led_each level all (d ∷ addresses) (r ∷ rows) (t ∷ texts) (a ∷ after) read within takes turns b has =
    ⊎_elim
    (λ e. led_row level all d r a t b read (within _ (has_first _ (stands_of addresses rows))) turns.0 e
    (stand_of d r) refl (first_is _ _ _ _ takes))
    (λ later. led_each level all addresses rows texts after read
    (λ x there. within x (has_more _ x (stands_of addresses rows) there)) (rest_is _ _ _ _ takes) turns.1
    b later)
    (first_or_rest (stand_of d a) (Some b) (stands_of addresses after) has)

-- the row of before is together with the one of after
with_own : (level : CrateBounds) (all : List (Option Required)) (b : Required) (h : HasLed level all b)
    → is_together level h.own b ≡ true
with_own level all b h =
    let kept = keeps_level (level h.own.name) h.own.caret in
    let rest : (is_same_range h.own.caret h.lead.caret && kept h.lead.caret) ≡ true
    = right (is_same_crate h.own h.lead) _ h.together in
    subst (λ c. (is_same_crate h.own b && (is_same_range h.own.caret c && kept c)) ≡ true) h.caret_is
    (both _ _
    (both _ _ ((bytes_eq-Decides h.own.name b.name).1 h.name_is)
    ((bytes_eq-Decides h.own.address b.address).1 h.address_is)) rest)

-- rows that are together after the turns have one text
pub one_text : (level : CrateBounds) (addresses : List (Option (List ℕ))) (rows : List Row)
    (texts : List (Option (String Global))) (after : List Row)
    → map (option_map string_bytes) texts ≡ taken_texts level (stands_of addresses rows)
    → AllZip IsTurn (zip rows texts) after → HasOneText level addresses after
one_text level addresses rows texts after takes turns a b has_a has_b together =
    let all = stands_of addresses rows in
    let read = are_read addresses rows in
    let led_a = led_each level all addresses rows texts after read (λ x has. has) takes turns a has_a in
    let led_b = led_each level all addresses rows texts after read (λ x has. has) takes turns b has_b in
    let same : (x : Required) → is_together level led_a.own x ≡ is_together level led_b.own x = λ x.
    alike level led_a.own a (with_own level all a led_a) x ∙ alike level a b together x
    ∙ sym (alike level led_b.own b (with_own level all b led_b) x) in
    let one : led_a.lead ≡ led_b.lead = some_is led_a.lead led_b.lead
    (sym led_a.leads ∙ lead_alike level led_a.own led_b.own same None all ∙ led_b.leads) in
    sym led_a.text_is ∙ ap (λ x. x.text) one ∙ led_b.text_is
