-- Rows are together where their groups are one, and the best row of a group is the leader of its rows.
use Rattle.std.proofs.Common.{◌≡◌, ◌∷◌, [], ◌++◌, ◌∙◌, ◌<◌, ◌+◌, Bool, true, false, ℕ, List, Option, Some, None, ap, get_or, length, map, option_map, refl, string_bytes, sym, take, arith}
use Rattle.std.specs.Prelude.{◌&&◌, ◌==◌, String, if◌then◌else◌, option_and_then, unwrap_or}
use Rattle.std.specs.BTreeMap.{BTreeMap, get, get_by, is_at}
use Rattle.std.specs.Cmp.{both_tied, unsigned_ties}
use Rattle.std.specs.Option.{option_cmp, option_eq, option_map_or}
use Rattle.std.specs.Ordering.{is_eq, nat_cmp}
use Rattle.std.specs.declared.alloc.Global.{Global}
use Rattle.std.specs.declared.cmp.Ordering.{Ordering}
use Rattle.std.proofs.lemmas.Bool.Decides.{nat_tests}
use Rattle.std.proofs.lemmas.List.{map_push, take_more}
use Rattle.std.proofs.lemmas.Map.Text.{is_eq-slice_cmp}
use Rattle.std.proofs.lemmas.Slice.Eq.{bytes_eq-Decides}
use Rattle.edit_version.specs.Levels.{CrateBounds}
use Rattle.edit_version.specs.declared.levels.Level.{Level}
use Rattle.edit_version.specs.declared.levels.Level.TheVariants as level
use Rattle.edit_unify.specs.Groups.{Shared, best_of, group_cmp, group_of, group_view, text_from}
use Rattle.edit_unify.specs.Leaders.{better, leader}
use Rattle.edit_unify.specs.Ranges.{Caret, is_higher, is_same_range, keeps_level, kept_minor, range_of}
use Rattle.edit_unify.specs.Stands.{Required, is_same_crate, is_together, stand_view}
use Rattle.edit_unify.specs.Unified.{taken_text, unless_same}
use Rattle.edit_unify.specs.declared.groups.Group.{Group}
use Rattle.edit_unify.specs.declared.stands.Stand.{Stand}
use Rattle.edit_unify.proofs.UnifyLemmas.{self_together}

pub left : (a b : Bool) → (a && b) ≡ true → a ≡ true
left true b is = refl
left false b is = is

pub right : (a b : Bool) → (a && b) ≡ true → b ≡ true
right true b is = is
right false b is = absurd (cc is)

nat_is : (m n : ℕ) → (m == n) ≡ true → m ≡ n
nat_is m n is = grind (arith, nat_tests, is)

option_is : (x y : Option ℕ) → option_eq (λ m n. m == n) x y ≡ true → x ≡ y
option_is None None is = refl
option_is None (Some n) is = absurd (cc is)
option_is (Some m) None is = absurd (cc is)
option_is (Some m) (Some n) is = ap Some (nat_is m n is)

same_caret : (a b : Caret) → a.0 ≡ b.0 → a.1 ≡ b.1 → a.2 ≡ b.2 → a ≡ b
same_caret a b m n p = λ i. (m i, n i, p i)

pub same_range : (a b : Caret) → is_same_range a b ≡ true → range_of a ≡ range_of b
same_range a b is =
    same_caret (range_of a) (range_of b) (nat_is _ _ (left _ _ is))
    (option_is _ _ (left _ _ (right _ _ is))) (option_is _ _ (right _ _ (right _ _ is)))

same_kept : (level : Option Level) (a b : Caret) → keeps_level level a b ≡ true
    → kept_minor level a ≡ kept_minor level b
same_kept None a b is = refl
same_kept (Some level.Patch) a b is = nat_is (unwrap_or a.1 0) (unwrap_or b.1 0) is
same_kept (Some level.Minor) a b is = refl
same_kept (Some level.Major) a b is = refl

-- rows that are together have one group
pub same_group : (level : CrateBounds) (a b : Required) → is_together level a b ≡ true
    → group_of level a ≡ group_of level b
same_group level a b is =
    let crate_is = left _ _ is in
    let name = (bytes_eq-Decides a.name b.name).0 (left _ _ crate_is) in
    let address = (bytes_eq-Decides a.address b.address).0 (right _ _ crate_is) in
    let range = same_range a.caret b.caret (left _ _ (right _ _ is)) in
    let kept = same_kept (level a.name) a.caret b.caret (right _ _ (right _ _ is))
    ∙ ap (λ n. kept_minor (level n) b.caret) name in
    λ i. ((name i, address i), range i, kept i)

option_tied : (x y : Option ℕ) → option_eq (λ m n. m == n) x y ≡ is_eq (option_cmp nat_cmp x y)
option_tied None None = refl
option_tied None (Some n) = refl
option_tied (Some m) None = refl
option_tied (Some m) (Some n) = unsigned_ties m n

kept_tied : (level : Option Level) (a b : Caret)
    → keeps_level level a b ≡ is_eq (nat_cmp (kept_minor level a) (kept_minor level b))
kept_tied None a b = refl
kept_tied (Some level.Patch) a b = unsigned_ties (unwrap_or a.1 0) (unwrap_or b.1 0)
kept_tied (Some level.Minor) a b = refl
kept_tied (Some level.Major) a b = refl

-- the last of three tests gives way to one with the same result where the first holds
where_first : (p q x y : Bool) → (p ≡ true → x ≡ y) → (p && (q && x)) ≡ (p && (q && y))
where_first true q x y same = ap (λ z. q && z) (same refl)
where_first false q x y same = refl

-- the minor numbers that are kept of rows of one crate are one number where the level keeps it in common
kept_alike : (level : CrateBounds) (a b : Required) → is_same_crate a b ≡ true
    → keeps_level (level a.name) a.caret b.caret
    ≡ is_eq (nat_cmp (kept_minor (level a.name) a.caret) (kept_minor (level b.name) b.caret))
kept_alike level a b is =
    kept_tied (level a.name) a.caret b.caret
    ∙ ap (λ n. is_eq (nat_cmp (kept_minor (level a.name) a.caret) (kept_minor (level n) b.caret)))
    ((bytes_eq-Decides a.name b.name).0 (left _ _ is))

-- rows are together where a map takes their groups for one key
pub together_tied : (level : CrateBounds) (a b : Required)
    → is_together level a b ≡ is_eq (group_cmp (group_of level a) (group_of level b))
together_tied level a b =
    where_first (is_same_crate a b) (is_same_range a.caret b.caret) _ _ (kept_alike level a b)
    ∙ both_tied _ _ _ _
    (both_tied _ _ _ _ (sym (is_eq-slice_cmp a.name b.name)) (sym (is_eq-slice_cmp a.address b.address)))
    (both_tied _ _ _ _
    (both_tied _ _ _ _ (unsigned_ties (range_of a.caret).0 (range_of b.caret).0)
    (both_tied _ _ _ _ (option_tied (range_of a.caret).1 (range_of b.caret).1)
    (option_tied (range_of a.caret).2 (range_of b.caret).2)))
    refl)

-- rows that are together are so with the same rows
pub alike : (level : CrateBounds) (a b : Required) → is_together level a b ≡ true → (x : Required)
    → is_together level a x ≡ is_together level b x
alike level a b is x =
    together_tied level a x
    ∙ ap (λ g. is_eq (group_cmp g (group_of level x))) (same_group level a b is)
    ∙ sym (together_tied level b x)

together_back : (level : CrateBounds) (a b : Required) → is_together level a b ≡ true
    → is_together level b a ≡ true
together_back level a b is =
    together_tied level b a
    ∙ ap (λ g. is_eq (group_cmp (group_of level b) g)) (same_group level a b is)
    ∙ sym (together_tied level b b) ∙ self_together level b

true_false : true ≡ false → ⊥
true_false h = cc h

turned_by : (level : CrateBounds) (a b : Required) (s t : Bool) → is_together level a b ≡ s
    → is_together level b a ≡ t → s ≡ t
turned_by level a b true true x y = refl
turned_by level a b false false x y = refl
turned_by level a b true false x y = absurd (true_false (sym (together_back level a b x) ∙ y))
turned_by level a b false true x y = absurd (true_false (sym (together_back level b a y) ∙ x))

turned : (level : CrateBounds) (a b : Required) → is_together level a b ≡ is_together level b a
turned level a b = turned_by level a b (is_together level a b) (is_together level b a) refl refl

-- the best row so far, after one more row
better_is : (level : CrateBounds) (own other : Required) (best : Option Required) (t h : Bool)
    → is_together level own other ≡ t
    → option_map_or (λ b. is_higher other.caret b.caret) best true ≡ h
    → better level own best (Some other) ≡ (if t && h then Some other else best)
better_is level own other None t h together higher = cc (together, higher)
better_is level own other (Some best) t h together higher = cc (together, higher)

-- what a map has for a group
abbrev pub best_at : BTreeMap Group Stand → Shared → Option Required
best_at leaders shared = option_map stand_view (get_by (λ g. group_cmp shared (group_view g)) leaders)

-- the floor of a row is higher than that of the best one of its group, or it is not
higher_at : (level : CrateBounds) (own other : Required) (old : BTreeMap Group Stand) (h : Bool)
    → option_map_or (λ b. is_higher other.caret b.caret) (best_of level old other) true ≡ h
    → is_together level own other ≡ true
    → option_map_or (λ b. is_higher other.caret b.caret) (best_of level old own) true ≡ h
higher_at level own other old h higher is =
    ap (λ g. option_map_or (λ b. is_higher other.caret b.caret) (best_at old g) true)
    (same_group level own other is) ∙ higher

kept_by : (level : CrateBounds) (own other : Required) (old : BTreeMap Group Stand) (t : Bool)
    → is_together level own other ≡ t
    → option_map_or (λ b. is_higher other.caret b.caret) (best_of level old other) true ≡ false
    → best_of level old own ≡ better level own (best_of level old own) (Some other)
kept_by level own other old true is higher =
    sym (better_is level own other (best_of level old own) true false is
    (higher_at level own other old false higher is))
kept_by level own other old false is higher =
    sym (better_is level own other (best_of level old own) false _ is refl)

-- a row whose floor is not higher than that of the best one of its group
pub best_kept : (level : CrateBounds) (own other : Required) (old : BTreeMap Group Stand) (group : Group)
    → group_view group ≡ group_of level other
    → option_map_or (λ b. is_higher other.caret b.caret) (best_at old (group_view group)) true ≡ false
    → best_of level old own ≡ better level own (best_of level old own) (Some other)
best_kept level own other old group of higher =
    kept_by level own other old (is_together level own other) refl
    (ap (λ g. option_map_or (λ b. is_higher other.caret b.caret) (best_at old g) true) (sym of) ∙ higher)

-- the order of the keys of a map
abbrev pub groups_cmp : Group → Group → Ordering
groups_cmp a b = group_cmp (group_view a) (group_view b)

-- a key of a map for the group of a row
abbrev key_of : CrateBounds → Required → Group
key_of level own = record {
  krate = record {
    name = record { ref_ptr = (0, 0); now = own.name };
    address = record { ref_ptr = (0, 0); now = own.address };
  };
  range = record {
    major = (range_of own.caret).0;
    minor = (range_of own.caret).1;
    patch = (range_of own.caret).2;
  };
  minor = kept_minor (level own.name) own.caret;
}

added_by : (level : CrateBounds) (own : Required) (stand : Stand) (old new : BTreeMap Group Stand) (t : Bool)
    → is_together level own (stand_view stand) ≡ t
    → option_map_or (λ b. is_higher (stand_view stand).caret b.caret)
    (best_of level old (stand_view stand)) true ≡ true
    → best_of level new own ≡ (if t then Some (stand_view stand) else best_of level old own)
    → best_of level new own ≡ better level own (best_of level old own) (Some (stand_view stand))
added_by level own stand old new true is higher has =
    has ∙ sym (better_is level own (stand_view stand) (best_of level old own) true true is
    (higher_at level own (stand_view stand) old true higher is))
added_by level own stand old new false is higher has =
    has ∙ sym (better_is level own (stand_view stand) (best_of level old own) false _ is refl)

map_if : (t : Bool) (stand : Stand) (o : Option Stand)
    → option_map stand_view (if t then Some stand else o)
    ≡ (if t then Some (stand_view stand) else option_map stand_view o)
map_if true stand o = refl
map_if false stand o = refl

-- a row whose floor is higher than that of the best one of its group
pub best_added : (level : CrateBounds) (own : Required) (stand : Stand) (old new : BTreeMap Group Stand)
    (group : Group) → group_view group ≡ group_of level (stand_view stand)
    → option_map_or (λ b. is_higher (stand_view stand).caret b.caret)
    (best_at old (group_view group)) true ≡ true
    → ((q : Group) → get groups_cmp new q
    ≡ (if is_at (groups_cmp group) q then Some stand else get groups_cmp old q))
    → best_of level new own ≡ better level own (best_of level old own) (Some (stand_view stand))
best_added level own stand old new group of higher put =
    let other = stand_view stand in
    let tied : is_eq (group_cmp (group_view group) (group_of level own)) ≡ is_together level own other =
    ap (λ g. is_eq (group_cmp g (group_of level own))) of
    ∙ sym (together_tied level other own) ∙ turned level other own in
    added_by level own stand old new (is_together level own other) refl
    (ap (λ g. option_map_or (λ b. is_higher other.caret b.caret) (best_at old g) true) (sym of) ∙ higher)
    (ap (option_map stand_view) (put (key_of level own))
    ∙ map_if (is_eq (group_cmp (group_view group) (group_of level own))) stand
    (get_by (λ g. group_cmp (group_of level own) (group_view g)) old)
    ∙ ap (λ (t : Bool). if t then Some other else best_of level old own) tied)

-- the text that a row takes from the best row of its group is that of its leader
pub text_from_is : (level : CrateBounds) (leaders : BTreeMap Group Stand) (all : List (Option Required))
    → ((own : Required) → best_of level leaders own ≡ leader level own all)
    → (own : Option Required) → text_from level leaders own ≡ taken_text level own all
text_from_is level leaders all best None = refl
text_from_is level leaders all best (Some own) =
    ap (option_and_then (λ l. unless_same own.text l.text)) (best own)

-- the texts of the rows so far, after one more row
pub texts_more : (view : Option Stand → Option Required) (take_text : Option Required → Option (List ℕ))
    (xs : List (Option Stand)) (i : ℕ) (d : Option Stand) (texts : List (Option (String Global)))
    (text : Option (String Global)) → i < length xs
    → map (option_map string_bytes) texts ≡ map take_text (map view (take i xs))
    → option_map string_bytes text ≡ take_text (view (get_or xs i d))
    → map (option_map string_bytes) (texts ++ text ∷ []) ≡ map take_text (map view (take (i + 1) xs))
texts_more view take_text xs i d texts text lt before is =
    map_push (option_map string_bytes) texts text
    ∙ (λ k. before k ++ is k ∷ [])
    ∙ sym (ap (λ ys. map take_text (map view ys)) (take_more xs i d lt)
    ∙ ap (map take_text) (map_push view (take i xs) (get_or xs i d))
    ∙ map_push take_text (map view (take i xs)) (view (get_or xs i d)))
