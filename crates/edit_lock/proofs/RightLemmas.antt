-- An adapted call names only packages that are locked.
use Rattle.std.proofs.Common.{◌≡◌, ◌∷◌, ◌++◌, [], List, ℕ, Bool, true, false, cond, not, refl, sym, codes, true≢false}
use Rattle.std.specs.Prelude.{◌||◌, ◌&&◌, All}
use Rattle.std.specs.List.{filter, flat_map}
use Rattle.std.specs.Str.{bytes_eq}
use Rattle.std.proofs.lemmas.List.Elements.{All-cons, All-filter, All-head, All-map, All-nil, All-tail, All-weaker}
use Rattle.std.proofs.lemmas.Slice.Eq.{bytes_eq-Decides}
use Rattle.edit_lock.specs.LockFile.{Package, spec_of}
use Rattle.edit_lock.specs.ValidCalls.{IsValidCall, NamesLocked}
use Rattle.edit_lock.specs.ValidCalls.NamesLocked.{locked, no_arguments, other}
use Rattle.edit_lock.specs.AdaptedCalls.{Call, changes, is_dropped_argument, locks, name_in, names_package, package_arguments, adapted_argument, adapted_arguments, adapt_calls, replacement_specs}

-- ---- packages that are locked

later : (a b : Bool) → b ≡ true → (a || b) ≡ true
later true b e = refl
later false b e = e

itself : (a b : Bool) → a ≡ true → (a || b) ≡ true
itself true b e = refl
itself false b e = absurd (true≢false (sym e))

-- each package is locked
all-locked : (packages : List Package) → All (λ p. locks packages (spec_of p) ≡ true) packages
all-locked [] = All-nil (λ p. locks [] (spec_of p) ≡ true)
all-locked (p ∷ ps) =
    All-cons (λ x. locks (p ∷ ps) (spec_of x) ≡ true) p ps
    (itself (bytes_eq (spec_of p) (spec_of p)) (locks ps (spec_of p))
    ((bytes_eq-Decides (spec_of p) (spec_of p)).1 refl))
    (All-weaker (λ x. locks ps (spec_of x) ≡ true) (λ x. locks (p ∷ ps) (spec_of x) ≡ true)
    (λ x e. later (bytes_eq (spec_of p) (spec_of x)) (locks ps (spec_of x)) e) ps (all-locked ps))

-- each new package of a name is locked
gained-locked : (before now : List Package) (name : List ℕ)
    → All (λ s. locks now s ≡ true) ((changes before now).gained name)
gained-locked before now name =
    let t : Package → Bool = λ p. bytes_eq name p.name && not (locks before (spec_of p)) in
    All-map (λ s. locks now s ≡ true) spec_of (filter t now)
    (All-filter t (λ p. locks now (spec_of p) ≡ true) now (all-locked now))

standing-step : (P : List ℕ → Type 0) (spec : List ℕ) (gained : List (List ℕ)) (has had : Bool)
    → (has ≡ true → P spec) → All P gained
    → All P (cond has (spec ∷ []) (cond had gained []))
standing-step P spec gained true had here all = All-cons P spec [] (here refl) (All-nil P)
standing-step P spec gained false true here all = all
standing-step P spec gained false false here all = All-nil P

-- each replacement of a package is locked
specs-locked : (before now : List Package) (spec : List ℕ)
    → All (λ s. locks now s ≡ true) (replacement_specs (changes before now) spec)
specs-locked before now spec =
    standing-step (λ s. locks now s ≡ true) spec ((changes before now).gained (name_in spec)) (locks now spec)
    (locks before spec) (λ e. e) (gained-locked before now (name_in spec))

-- ---- arguments

-- arguments after others
named-append : (packages : List Package) (xs ys : Call) → NamesLocked packages xs → NamesLocked packages ys
    → NamesLocked packages (xs ++ ys)
named-append packages xs ys no_arguments h = h
named-append packages xs ys (locked spec rest e more) h =
    locked spec (rest ++ ys) e (named-append packages rest ys more h)
named-append packages xs ys (other argument rest e more) h =
    other argument (rest ++ ys) e (named-append packages rest ys more h)

-- packages that are locked
packages-named : (packages : List Package) (specs : List (List ℕ)) → All (λ s. locks packages s ≡ true) specs
    → NamesLocked packages (flat_map package_arguments specs)
packages-named packages [] all = no_arguments
packages-named packages (s ∷ ss) all =
    locked s (flat_map package_arguments ss) (All-head (λ s. locks packages s ≡ true) s ss all)
    (packages-named packages ss (All-tail (λ s. locks packages s ≡ true) s ss all))

-- an argument other than `--package`
other-named : (packages : List Package) (argument : List ℕ) (is offline : Bool)
    → bytes_eq argument (codes "--package") ≡ is
    → NamesLocked packages (cond (is || offline) [] (argument ∷ []))
other-named packages argument true offline e = no_arguments
other-named packages argument false true e = no_arguments
other-named packages argument false false e = other argument [] e no_arguments

argument-step : (packages : List Package) (xs ys : Call) (behind : Bool)
    → NamesLocked packages xs → NamesLocked packages ys → NamesLocked packages (cond behind xs ys)
argument-step packages xs ys true a b = a
argument-step packages xs ys false a b = b

argument-named : (before now : List Package) (offline : Bool) (previous argument : List ℕ)
    → NamesLocked now (adapted_argument (changes before now) offline previous argument)
argument-named before now offline previous argument =
    argument-step now (flat_map package_arguments (replacement_specs (changes before now) argument))
    (cond (is_dropped_argument offline argument) [] (argument ∷ [])) (bytes_eq previous (codes "--package"))
    (packages-named now (replacement_specs (changes before now) argument) (specs-locked before now argument))
    (other-named now argument (bytes_eq argument (codes "--package"))
    (bytes_eq argument (codes "--offline") && not offline) refl)

arguments-named : (before now : List Package) (offline : Bool) (previous : List ℕ) (call : Call)
    → NamesLocked now (adapted_arguments (changes before now) offline previous call)
arguments-named before now offline previous [] = no_arguments
arguments-named before now offline previous (argument ∷ rest) =
    named-append now (adapted_argument (changes before now) offline previous argument)
    (adapted_arguments (changes before now) offline argument rest)
    (argument-named before now offline previous argument) (arguments-named before now offline argument rest)

-- ---- calls

call-step : (packages : List Package) (call : Call) (calls : List Call) (names : Bool)
    → names_package call ≡ names → NamesLocked packages call → All (IsValidCall packages) calls
    → All (IsValidCall packages) (cond names (call ∷ calls) calls)
call-step packages call calls true e named all =
    All-cons (IsValidCall packages) call calls (record { some = e; locked = named }) all
call-step packages call calls false e named all = all

pub calls-right : (before now : List Package) (offline : Bool) (calls : List Call)
    → All (IsValidCall now) (adapt_calls (changes before now) offline calls)
calls-right before now offline [] = All-nil (IsValidCall now)
calls-right before now offline (call ∷ calls) =
    let own = adapted_arguments (changes before now) offline [] call in
    call-step now own (adapt_calls (changes before now) offline calls) (names_package own) refl
    (arguments-named before now offline [] call) (calls-right before now offline calls)
