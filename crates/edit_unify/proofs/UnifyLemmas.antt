-- Rows with the texts that they take are unified.
use Rattle.std.proofs.Common.{◌≡◌, ◌∷◌, [], ◌∙◌, List, Bool, true, false, ℕ, suc, Option, Some, None, ap, refl, sym, subst, arith, length, map, option_map, string_bytes, eq-eqb}
use Rattle.std.specs.Prelude.{◌&&◌, ◌==◌, Contains, String, if◌then◌else◌, option_and_then, unwrap_or}
use Rattle.std.specs.List.{AllZip, zip}
use Rattle.std.specs.Option.{option_eq}
use Rattle.std.specs.Str.{bytes_eq}
use Rattle.std.specs.declared.alloc.Global.{Global}
use Rattle.std.proofs.lemmas.Bool.Decides.{nat_tests}
use Rattle.std.proofs.lemmas.Slice.Eq.{bytes_eq-Decides}
use Rattle.edit_report.specs.declared.row.Row.{Row}
use Rattle.edit_version.specs.Levels.{CrateBounds}
use Rattle.edit_version.specs.declared.levels.Level.{Level}
use Rattle.edit_version.specs.declared.levels.Level.TheVariants as level
use Rattle.edit_unify.specs.Leaders.{leader}
use Rattle.edit_unify.specs.Ranges.{Caret, is_same_range, keeps_level, range_of}
use Rattle.edit_unify.specs.Stands.{Required, is_same_crate, is_together, stands_of}
use Rattle.edit_unify.specs.Unified.{AreEach, IsHighest, IsRowWith, IsUnified, IsWithText, taken_text, unless_same}
use Rattle.edit_unify.proofs.LeaderLemmas.{has_first, has_more, leader_is, leader_there, none_is, some_is}

-- what a turn of the loop makes of a row and the text that it takes
abbrev pub IsTurnBy : Option (String Global) → Row → Row → Type 0
IsTurnBy None row after = after ≡ row
IsTurnBy (Some text) row after = IsWithText (string_bytes text) row after

abbrev pub IsTurn : Row × Option (String Global) → Row → Type 0
IsTurn p after = IsTurnBy p.1 p.0 after

pub both : (a b : Bool) → a ≡ true → b ≡ true → (a && b) ≡ true
both a b x y = cc (x, y)

option_self : (x : Option ℕ) → option_eq (λ m n. m == n) x x ≡ true
option_self None = refl
option_self (Some n) = eq-eqb n n refl

pub same_range_self : (a : Caret) → is_same_range a a ≡ true
same_range_self a = both _ _ (eq-eqb (range_of a).0 (range_of a).0 refl)
    (both _ _ (option_self (range_of a).1) (option_self (range_of a).2))

keeps_self : (level : Option Level) (a : Caret) → keeps_level level a a ≡ true
keeps_self None a = refl
keeps_self (Some level.Patch) a = eq-eqb (unwrap_or a.1 0) (unwrap_or a.1 0) refl
keeps_self (Some level.Minor) a = refl
keeps_self (Some level.Major) a = refl

-- a row is together with itself
pub self_together : (level : CrateBounds) (o : Required) → is_together level o o ≡ true
self_together level o = both _ _
    (both _ _ ((bytes_eq-Decides o.name o.name).1 refl) ((bytes_eq-Decides o.address o.address).1 refl))
    (both _ _ (same_range_self o.caret) (keeps_self (level o.name) o.caret))

-- the row after a turn that takes a text unless it has it
row_with : (b : Bool) (taken : Option (String Global)) (text : List ℕ) (row a : Row)
    → option_map string_bytes taken ≡ (if b then None else Some text) → IsTurnBy taken row a
    → IsRowWith b text row a
row_with true None text row a is turn = turn
row_with true (Some t) text row a is turn = absurd (none_is (string_bytes t) (sym is))
row_with false None text row a is turn = absurd (none_is text is)
row_with false (Some t) text row a is turn =
    subst (λ xs. IsWithText xs row a) (some_is (string_bytes t) text is) turn

led : (level : CrateBounds) (all : List (Option Required)) (o : Required) (row a : Row)
    (taken : Option (String Global)) → Contains all (Some o) → IsTurnBy taken row a
    → (first : Option Required) → leader level o all ≡ first
    → option_map string_bytes taken ≡ option_and_then (λ l. unless_same o.text l.text) first
    → IsUnified level all (Some o) row a
led level all o row a taken has turn None is takes =
    absurd (leader_there level o o all has (self_together level o) is)
led level all o row a taken has turn (Some l) is takes =
    let r = leader_is level o all l is in (
      l.text,
      record {
        from = l;
        among = r.among;
        together = r.together;
        text_is = refl;
        highest = r.highest;
      },
      row_with (bytes_eq l.text o.text) taken l.text row a takes turn,
    )

-- one row, with the text that it takes
unified_one : (level : CrateBounds) (all : List (Option Required)) (own : Option Required) (row a : Row)
    (taken : Option (String Global)) → Contains all own
    → option_map string_bytes taken ≡ taken_text level own all → IsTurnBy taken row a
    → IsUnified level all own row a
unified_one level all None row a None has takes turn = turn
unified_one level all None row a (Some t) has takes turn = absurd (none_is (string_bytes t) (sym takes))
unified_one level all (Some o) row a taken has takes turn =
    led level all o row a taken has turn (leader level o all) refl takes

pub first_is : {X : Type 0} (x y : X) (xs ys : List X) → x ∷ xs ≡ y ∷ ys → x ≡ y
first_is x y xs ys is = cc is

pub rest_is : {X : Type 0} (x y : X) (xs ys : List X) → x ∷ xs ≡ y ∷ ys → xs ≡ ys
rest_is x y xs ys is = cc is

pub cons_not : {X : Type 0} (x : X) (xs : List X) → [] ≡ x ∷ xs → ⊥
cons_not x xs is = cc is

-- each row, with the text that it takes
pub unified_each : (level : CrateBounds) (all : List (Option Required))
    (addresses : List (Option (List ℕ))) (rows : List Row) (texts : List (Option (String Global)))
    (after : List Row) → length addresses ≡ length rows
    → ((x : Option Required) → Contains (stands_of addresses rows) x → Contains all x)
    → map (option_map string_bytes) texts ≡ map (λ own. taken_text level own all) (stands_of addresses rows)
    → AllZip IsTurn (zip rows texts) after → AreEach level all (stands_of addresses rows) rows after
unified_each level all [] [] texts [] len within takes turns = tt
unified_each level all [] [] texts (a ∷ after) len within takes turns = absurd turns
unified_each level all [] (r ∷ rows) texts after len within takes turns = absurd (omega (arith, len))
unified_each level all (d ∷ addresses) [] texts after len within takes turns = absurd (omega (arith, len))
unified_each level all (d ∷ addresses) (r ∷ rows) [] after len within takes turns =
    absurd (cons_not _ _ takes)
unified_each level all (d ∷ addresses) (r ∷ rows) (t ∷ texts) [] len within takes turns = absurd turns
unified_each level all (d ∷ addresses) (r ∷ rows) (t ∷ texts) (a ∷ after) len within takes turns = (
  unified_one level all _ r a t (within _ (has_first _ (stands_of addresses rows)))
      (first_is _ _ _ _ takes) turns.0,
  unified_each level all addresses rows texts after (omega (arith, len))
      (λ x has. within x (has_more _ x (stands_of addresses rows) has)) (rest_is _ _ _ _ takes) turns.1,
)

-- pairs as they are
pub pairs_same : {A B : Type 0} (xs : List (A × B)) → map (λ (p : A × B). (p.0, p.1)) xs ≡ xs
pairs_same [] = refl
pairs_same (x ∷ xs) = ap (λ ys. x ∷ ys) (pairs_same xs)
