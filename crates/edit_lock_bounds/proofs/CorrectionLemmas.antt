-- What holds of each correction.
use Rattle.std.proofs.Common.{◌≡◌, ◌∷◌, ◌++◌, [], List, ℕ, Bool, Option, Some, None, true, false, append_assoc, append-nil, drop, length, refl, subst, sym}
use Rattle.std.specs.Prelude.{◌&&◌, All, Contains, IfSome, fold, if◌then◌else◌, not, option_and_then, option_map}
use Rattle.std.specs.Cmp.{IsTotalOrder, on_total}
use Rattle.std.specs.declared.cmp.Ordering.{Ordering}
use Rattle.std.proofs.lemmas.List.{drop_at}
use Rattle.std.proofs.lemmas.List.Elements.{All-contains_itself, All-drop, All-head, All-nil, All-same, All-weaker, filter_passes}
use Rattle.semver.specs.Parse.{Parts}
use Rattle.edit_version.specs.Greatest.{IsGreatest, IsGreatestItem, advance}
use Rattle.edit_version.specs.ReadVersion.{version_read}
use Rattle.edit_version.proofs.Greatests.{advanced}
use Rattle.edit_version.proofs.Orders.{full_total}
use Rattle.edit_lock_bounds.specs.Changes.{Change, changed_packages, is_among, is_changed, is_registry, is_text_of}
use Rattle.edit_lock_bounds.specs.Choices.{Candidate, Known, Limits, admitted_candidate, are_met, best, candidate_of, candidate_order, candidates, candidates_at, first_some, greatest, known_of, met_requirements}
use Rattle.edit_lock_bounds.specs.Corrections.{Correction, Outcome, correction, corrections, eligible, may_stay, outcome, outcome_among, outcome_of, outcome_unless}
use Rattle.edit_lock_bounds.specs.CorrectionLaws.{IsAdmitted, IsBest, IsOfChange, IsRight, IsRightFor}
use Rattle.edit_lock_bounds.specs.CorrectionLaws.IsBest.{of_all, of_chosen}
use Rattle.edit_lock_bounds.specs.LockPackages.{Package}
use Rattle.edit_lock_bounds.proofs.ListLemmas.{all-filter_map, both-first, both-second, not-true}

-- the order of candidates is total
candidate_total : IsTotalOrder candidate_order
candidate_total = on_total (λ (c : Candidate). c.version) full_total

-- the greatest of some, after more
greatest-behind : {X : Type 0} (keep : X → Bool) (cmp : X → X → Ordering) → IsTotalOrder cmp
    → (xs ys : List X) (b : Option X) → IsGreatest keep cmp xs b
    → IsGreatest keep cmp (xs ++ ys) (fold (advance keep cmp) b ys)
greatest-behind {X} keep cmp o xs [] b h = subst (λ (l : List X). IsGreatest keep cmp l b) (sym (append-nil xs)) h
greatest-behind {X} keep cmp o xs (y ∷ ys) b h =
    subst (λ (l : List X). IsGreatest keep cmp l (fold (advance keep cmp) (advance keep cmp b y) ys))
    (append_assoc xs (y ∷ []) ys)
    (greatest-behind keep cmp o (xs ++ y ∷ []) ys (advance keep cmp b y) (advanced keep cmp o xs y b h))

-- what is called the greatest of candidates is that
greatest-is : (keep : Candidate → Bool) (cs : List Candidate) → IsGreatest keep candidate_order cs (greatest keep cs)
greatest-is keep cs =
    greatest-behind keep candidate_order candidate_total [] cs None (All-nil (λ c. keep c ≡ false))

-- a list without a greatest element is empty
none-at-all : (cs : List Candidate) → IsGreatest (λ c. true) candidate_order cs None → cs ≡ []
none-at-all [] h = refl
none-at-all (c ∷ cs) h = cc (All-head (λ d. true ≡ false) c cs h)

-- the best candidate, by the greatest of the chosen ones and of all
best-of : (cs : List Candidate) (a b : Option Candidate)
    → IsGreatest (λ c. c.is_chosen) candidate_order cs a → IsGreatest (λ c. true) candidate_order cs b
    → (c : Candidate) → first_some a b ≡ Some c → IsBest cs c
best-of cs (Some a) b h g c e =
    let same : a ≡ c = cc e in subst (λ (d : Candidate). IsBest cs d) same (of_chosen h)
best-of cs None (Some b) h g c e =
    let same : b ≡ c = cc e in subst (λ (d : Candidate). IsBest cs d) same (of_all h g)
best-of cs None None h g c e = cc e

-- where there is no best candidate there is none
best-none : (cs : List Candidate) (a b : Option Candidate) → IsGreatest (λ c. true) candidate_order cs b
    → first_some a b ≡ None → cs ≡ []
best-none cs (Some a) b g e = cc e
best-none cs None (Some b) g e = cc e
best-none cs None None g e = none-at-all cs g

-- the best candidate is one of the candidates
greatest-in : (keep : Candidate → Bool) (P : Candidate → Type 0) (cs : List Candidate) (c : Candidate)
    → IsGreatestItem keep candidate_order cs c → All P cs → P c
greatest-in keep P cs c h all =
    let whole = All-same P (h.front ++ c ∷ h.rest) cs (sym h.split) all in
    let part = All-drop P (length h.front) (h.front ++ c ∷ h.rest) whole in
    let here : All P (c ∷ h.rest) = All-same P (c ∷ h.rest) (drop (length h.front) (h.front ++ c ∷ h.rest))
    (sym (drop_at h.front (c ∷ h.rest) (length h.front) refl)) part in
    All-head P c h.rest here

-- what holds of each candidate holds of the best one
best-in : (P : Candidate → Type 0) (cs : List Candidate) (c : Candidate) → IsBest cs c → All P cs → P c
best-in P cs c (of_chosen h) all = greatest-in (λ d. d.is_chosen) P cs c h all
best-in P cs c (of_all _ h) all = greatest-in (λ d. true) P cs c h all

-- a candidate that was made is admitted
made : (k : Known) (p : Package) (versions : List (List ℕ)) (current : Parts)
    → version_read p.version ≡ Some current → (text : List ℕ) → Contains versions text
    → (v : Parts) → version_read text ≡ Some v → (met : Bool)
    → are_met (met_requirements k.requirements p.source current) v ≡ met
    → IfSome (if met then Some (record { text = text; version = v; is_chosen = is_text_of k.chosen text }) else None)
    (IsAdmitted k p versions)
made k p versions current is text there v read true met = record {
  listed = there;
  read = read;
  current = current;
  current_read = is;
  admitted = met;
}
made k p versions current is text there v read false met = tt

-- the candidate that a text is, by what is read of it
one-candidate : (k : Known) (p : Package) (versions : List (List ℕ)) (current : Parts)
    → version_read p.version ≡ Some current → (text : List ℕ) → Contains versions text
    → (r : Option Parts) → version_read text ≡ r
    → IfSome (option_and_then (admitted_candidate (met_requirements k.requirements p.source current) k.chosen text) r)
    (IsAdmitted k p versions)
one-candidate k p versions current is text there None read = tt
one-candidate k p versions current is text there (Some v) read =
    made k p versions current is text there v read
    (are_met (met_requirements k.requirements p.source current) v) refl

-- each candidate is admitted
all-admitted : (k : Known) (p : Package) (versions : List (List ℕ)) (r : Option Parts)
    → version_read p.version ≡ r → All (IsAdmitted k p versions) (candidates_at k p.source r versions)
all-admitted k p versions None is = All-nil (IsAdmitted k p versions)
all-admitted k p versions (Some current) is =
    let ws = met_requirements k.requirements p.source current in
    all-filter_map (candidate_of ws k.chosen) (IsAdmitted k p versions) versions
    (All-weaker (Contains versions) (λ t. IfSome (candidate_of ws k.chosen t) (IsAdmitted k p versions))
    (λ t there. one-candidate k p versions current is t there (version_read t) refl) versions
    (All-contains_itself versions))

-- the outcome of the best candidate is right
right-best : (k : Known) (p : Package) (versions : List (List ℕ)) (b : Option Candidate)
    → best (candidates k p versions) ≡ b → IsRightFor k p (Some versions) (outcome_of b)
right-best k p versions None e =
    let cs = candidates k p versions in
    best-none cs (greatest (λ c. c.is_chosen) cs) (greatest (λ c. true) cs) (greatest-is (λ c. true) cs) e
right-best k p versions (Some c) e =
    let cs = candidates k p versions in
    let is : IsBest cs c = best-of cs (greatest (λ d. d.is_chosen) cs) (greatest (λ d. true) cs)
    (greatest-is (λ d. d.is_chosen) cs) (greatest-is (λ d. true) cs) c e in
    record {
      candidate = c;
      same = refl;
      admitted = best-in (IsAdmitted k p versions) cs c is (all-admitted k p versions (version_read p.version) refl);
      best = is;
    }

-- what becomes of a package that may not stay is right
right-unless : (k : Known) (p : Package) (versions : List (List ℕ)) (stays : Bool)
    → IfSome (outcome_unless stays (candidates k p versions)) (IsRightFor k p (Some versions))
right-unless k p versions true = tt
right-unless k p versions false = right-best k p versions (best (candidates k p versions)) refl

-- what becomes of a package is right by the eligible versions of its crate
right-among : (k : Known) (p : Package) (e : Option (List (List ℕ)))
    → IfSome (outcome_among k p e) (IsRightFor k p e)
right-among k p None = refl
right-among k p (Some versions) = right-unless k p versions (may_stay k p versions (candidates k p versions))

-- what holds of what becomes of a package holds of its correction
corrected : (P : Correction → Type 0) (p : Package) (o : Option Outcome)
    → IfSome o (λ x. P (record { locked = p; outcome = x }))
    → IfSome (option_map (λ x. record { locked = p; outcome = x }) o) P
corrected P p None h = tt
corrected P p (Some x) h = h

-- each correction is right
pub corrections-right : (c : Change) (l : Limits) → All (IsRight l) (corrections c l)
corrections-right c l = all-filter_map (correction l) (IsRight l) (changed_packages c)
    (All-weaker (λ p. is_changed c p ≡ true) (λ p. IfSome (correction l p) (IsRight l))
    (λ p changed. corrected (IsRight l) p (outcome (known_of l p.name) p)
    (right-among (known_of l p.name) p (eligible (known_of l p.name) p)))
    (changed_packages c) (filter_passes (is_changed c) c.after))

-- what becomes of a changed package is of the change
of-change : (c : Change) (p : Package) → is_changed c p ≡ true → (o : Option Outcome)
    → IfSome o (λ x. IsOfChange c (record { locked = p; outcome = x }))
of-change c p changed None = tt
of-change c p changed (Some x) =
    let rest = both-second (is_registry p.source) (not (is_text_of c.exempt p.name) && not (is_among c.before p))
    changed in
    record {
      added = not-true (is_among c.before p)
          (both-second (not (is_text_of c.exempt p.name)) (not (is_among c.before p)) rest);
      registry = both-first (is_registry p.source)
          (not (is_text_of c.exempt p.name) && not (is_among c.before p)) changed;
      bound = not-true (is_text_of c.exempt p.name)
          (both-first (not (is_text_of c.exempt p.name)) (not (is_among c.before p)) rest);
    }

-- each correction is of a changed package
pub corrections-of_change : (c : Change) (l : Limits) → All (IsOfChange c) (corrections c l)
corrections-of_change c l = all-filter_map (correction l) (IsOfChange c) (changed_packages c)
    (All-weaker (λ p. is_changed c p ≡ true) (λ p. IfSome (correction l p) (IsOfChange c))
    (λ p changed. corrected (IsOfChange c) p (outcome (known_of l p.name) p)
    (of-change c p changed (outcome (known_of l p.name) p)))
    (changed_packages c) (filter_passes (is_changed c) c.after))
