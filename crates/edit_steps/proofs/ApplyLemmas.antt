-- The files while outputs are written one by one.
use Rattle.std.proofs.Common.{◌≡◌, ◌≢◌, ℕ, ◌+◌, ◌<◌, ◌≤◌, List, [], ◌∷◌, ◌++◌, true, length, map, take, get_or, append-nil, append_assoc, ap, inl, inr, refl, sym, ◌∙◌, arith, subst}
use Rattle.std.specs.Prelude.{Result, Ok, Err, OnErr, OnOk}
use Rattle.std.specs.List.{All}
use Rattle.std.proofs.lemmas.List.{get_or_default, get_or-drop, get_or-take, length-drop, length-take, map_more}
use Rattle.std.proofs.lemmas.List.Elements.{All-more}
use Rattle.edit_report.specs.Applied.{ArePrepared, AreWritten, AreWrittenOnce, HasStopped, HaveDistinctPaths, IsWhole, KeepsOthers, path_of, steps_at}
use Rattle.edit_report.specs.declared.output.Output.{Output}
use Rattle.edit_store.specs.Store.{AreStepsTaken, Files, IsStepTaken, IsWrittenAtMostOnce, IsWrittenOnce, SameBut, SameFiles, StepView, StoreView}
use Rattle.edit_store.specs.declared.store.StepKind.{StepKind}

-- what holds in any case holds of an error
pub on_failure : {T E : Type 0} (r : Result T E) (P : Type 0) → P → OnErr r P
on_failure (Ok x) P p = tt
on_failure (Err e) P p = p

-- what follows where a call is refused
pub on_failure_more : {T E : Type 0} (r : Result T E) (P Q : Type 0) → (P → Q) → OnErr r P → OnErr r Q
on_failure_more (Ok x) P Q f p = tt
on_failure_more (Err e) P Q f p = f p

-- what follows where a call succeeds
pub on_success_more : {T E : Type 0} (r : Result T E) (P Q : Type 0) → (P → Q) → OnOk r P → OnOk r Q
on_success_more (Ok x) P Q f p = f p
on_success_more (Err e) P Q f p = tt

-- no step
pub steps_none : (old : StoreView) → AreStepsTaken [] old old
steps_none old = λ _. sym (append-nil old.steps)

-- the same step at one output more
pub steps_more : (kind : StepKind) (outputs : List Output) (i : ℕ) (d : Output) (old mid new : StoreView)
    → i < length outputs → mid.tells ≡ old.tells
    → AreStepsTaken (steps_at kind (take i outputs)) old mid
    → IsStepTaken kind (path_of (get_or outputs i d)) mid new
    → AreStepsTaken (steps_at kind (take (i + 1) outputs)) old new
steps_more kind outputs i d old mid new within tells before last = λ t.
    let at : Output → StepView = λ o. record { kind = kind; path = path_of o } in
    last (tells ∙ t)
    ∙ ap (λ s. s ++ at (get_or outputs i d) ∷ []) (before t)
    ∙ append_assoc old.steps (map at (take i outputs)) (at (get_or outputs i d) ∷ [])
    ∙ ap (λ s. old.steps ++ s) (sym (map_more at outputs i d within))

-- steps after other steps
pub steps_after : (first second : List StepView) (old mid new : StoreView) → mid.tells ≡ old.tells
    → AreStepsTaken first old mid → AreStepsTaken second mid new
    → AreStepsTaken (first ++ second) old new
steps_after first second old mid new tells before then = λ t.
    then (tells ∙ t) ∙ ap (λ s. s ++ second) (before t) ∙ append_assoc old.steps first second

-- before the first output is prepared
pub prepared_none : (kind : StepKind) (old : StoreView) → ArePrepared kind [] old old
prepared_none kind old = record {
  tells = refl;
  files = λ _. refl;
  writes = refl;
  later = omega arith;
  ready = refl;
  steps = steps_none old;
}

-- one output more is prepared
pub prepared_more : (kind : StepKind) (outputs : List Output) (i : ℕ) (d : Output) (old mid new : StoreView)
    → i < length outputs → ArePrepared kind (take i outputs) old mid → new.tells ≡ mid.tells
    → SameFiles mid.file_at new.file_at → new.writes ≡ mid.writes → mid.faults ≤ new.faults
    → new.stage_errors ≡ mid.stage_errors → IsStepTaken kind (path_of (get_or outputs i d)) mid new
    → ArePrepared kind (take (i + 1) outputs) old new
prepared_more kind outputs i d old mid new within before tells files writes later ready last = record {
  tells = tells ∙ before.tells;
  files = λ path. files path ∙ before.files path;
  writes = writes ∙ before.writes;
  later = omega (arith, later, before.later);
  ready = ready ∙ before.ready;
  steps = steps_more kind outputs i d old mid new within before.tells before.steps last;
}

-- writing stopped before the first output where nothing is written
pub stopped_early : (outputs : List Output) (old new : StoreView) → 0 < length outputs
    → new.writes ≡ old.writes → SameFiles old.file_at new.file_at → HasStopped outputs old new
stopped_early outputs old new some writes files = record {
  at = 0;
  within = some;
  begun = 0;
  begun_before = omega arith;
  begun_last = omega arith;
  once = writes ∙ sym (append-nil old.writes);
  whole = λ _ k d lt. absurd (omega arith);
  untouched = λ k d lt. files _;
  others = λ path _. files path;
}

-- it stopped as well since a time before, from which on nothing was written
pub stopped_since : (outputs : List Output) (old mid new : StoreView) → mid.tells ≡ old.tells
    → mid.writes ≡ old.writes → SameFiles old.file_at mid.file_at → HasStopped outputs mid new
    → HasStopped outputs old new
stopped_since outputs old mid new tells writes files stopped = record {
  at = stopped.at;
  within = stopped.within;
  begun = stopped.begun;
  begun_before = stopped.begun_before;
  begun_last = stopped.begun_last;
  once = stopped.once ∙ ap (λ ws. ws ++ map path_of (take stopped.begun outputs)) writes;
  whole = λ t. stopped.whole (tells ∙ t);
  untouched = λ k d lt. stopped.untouched k d lt ∙ files _;
  others = λ path away. stopped.others path away ∙ files path;
}

-- it stopped as well where nothing is written afterwards
pub stopped_still : (outputs : List Output) (old mid new : StoreView) → new.writes ≡ mid.writes
    → SameFiles mid.file_at new.file_at → HasStopped outputs old mid → HasStopped outputs old new
stopped_still outputs old mid new writes files stopped = record {
  at = stopped.at;
  within = stopped.within;
  begun = stopped.begun;
  begun_before = stopped.begun_before;
  begun_last = stopped.begun_last;
  once = writes ∙ stopped.once;
  whole = λ t k d lt. files _ ∙ stopped.whole t k d lt;
  untouched = λ k d lt. files _ ∙ stopped.untouched k d lt;
  others = λ path away. files path ∙ stopped.others path away;
}

-- before the first write
pub written_none : (old : StoreView) → AreWritten [] old old
written_none old = record {
  whole = λ _ k d lt. absurd (omega arith);
  once = sym (append-nil old.writes);
  others = λ path _. refl;
}

-- one write more is one output more that is written once
once_more : (outputs : List Output) (i : ℕ) (d : Output) (old mid new : StoreView) → i < length outputs
    → AreWrittenOnce (take i outputs) old mid → IsWrittenOnce (path_of (get_or outputs i d)) mid new
    → AreWrittenOnce (take (i + 1) outputs) old new
once_more outputs i d old mid new within before once =
    let path = path_of (get_or outputs i d) in
    once ∙ ap (λ ws. ws ++ path ∷ []) before
    ∙ append_assoc old.writes (map path_of (take i outputs)) (path ∷ [])
    ∙ ap (λ ws. old.writes ++ ws) (sym (map_more path_of outputs i d within))

-- how many writes were begun where one of them failed, which may have been begun
begun_at : (outputs : List Output) (i : ℕ) (d : Output) (old mid new : StoreView) → i < length outputs
    → AreWrittenOnce (take i outputs) old mid → IsWrittenAtMostOnce (path_of (get_or outputs i d)) mid new
    → (n : ℕ) × (i ≤ n) × (n ≤ i + 1) × AreWrittenOnce (take n outputs) old new
begun_at outputs i d old mid new within before (inl same) = (i, omega arith, omega arith, same ∙ before)
begun_at outputs i d old mid new within before (inr once) =
    (i + 1, omega arith, omega arith, once_more outputs i d old mid new within before once)

-- two outputs go elsewhere
apart : (outputs : List Output) (k j : ℕ) (d e : Output) → HaveDistinctPaths outputs
    → k < j → j < length outputs
    → path_of (get_or outputs k d) ≢ path_of (get_or outputs j e)
apart outputs k j d e distinct before within =
    let P : Output → Type 0 = λ o. path_of (get_or outputs k d) ≢ path_of o in
    subst P (get_or_default outputs j d e within) (distinct k j d before within)

-- an output among the first ones goes elsewhere than a later one
apart_front : (outputs : List Output) (n k j : ℕ) (d e : Output) → HaveDistinctPaths outputs
    → k < n → n ≤ j → j < length outputs
    → path_of (get_or (take n outputs) k d) ≢ path_of (get_or outputs j e)
apart_front outputs n k j d e distinct front behind within =
    let P : Output → Type 0 = λ o. path_of o ≢ path_of (get_or outputs j e) in
    subst P (sym (get_or-take n outputs k d front)) (apart outputs k j d e distinct (omega arith) within)

-- a path that the first ones and one more do not go to keeps what it has
keeps_more : (outputs : List Output) (i : ℕ) (d : Output) (old mid new : Files) → i < length outputs
    → KeepsOthers (take i outputs) old mid → SameBut (path_of (get_or outputs i d)) mid new
    → KeepsOthers (take (i + 1) outputs) old new
keeps_more outputs i d old mid new within before others path away =
    let P : Output → Type 0 = λ o. path ≢ path_of o in
    let within_more : i < length (take (i + 1) outputs) = omega (arith, length-take (i + 1) outputs) in
    others path (subst P (get_or-take (i + 1) outputs i d (omega arith)) (away i d within_more))
    ∙ before path (λ k e lt.
    let front : k < i = omega (arith, length-take i outputs) in
    let more : k < length (take (i + 1) outputs)
    = omega (arith, length-take i outputs, length-take (i + 1) outputs) in
    subst P (get_or-take (i + 1) outputs k e (omega arith) ∙ sym (get_or-take i outputs k e front))
    (away k e more))

-- files that are whole stay so when a later output is written
whole_still : (outputs : List Output) (i : ℕ) (d : Output) (mid new : Files) → HaveDistinctPaths outputs
    → i < length outputs → SameBut (path_of (get_or outputs i d)) mid new
    → All (IsWhole mid) (take i outputs) → All (IsWhole new) (take i outputs)
whole_still outputs i d mid new distinct within others whole k e lt =
    let front : k < i = omega (arith, length-take i outputs) in
    others _ (apart_front outputs i k i e d distinct front (omega arith) within) ∙ whole k e lt

-- one write more
pub written_more : (outputs : List Output) (i : ℕ) (d : Output) (old mid new : StoreView)
    → HaveDistinctPaths outputs → i < length outputs
    → mid.tells ≡ old.tells → AreWritten (take i outputs) old mid
    → (mid.tells ≡ true → IsWhole new.file_at (get_or outputs i d))
    → SameBut (path_of (get_or outputs i d)) mid.file_at new.file_at
    → IsWrittenOnce (path_of (get_or outputs i d)) mid new
    → AreWritten (take (i + 1) outputs) old new
written_more outputs i d old mid new distinct within tells before written others once = record {
  whole = λ t. All-more (IsWhole new.file_at) outputs i d within
      (whole_still outputs i d mid.file_at new.file_at distinct within others (before.whole t))
      (written (tells ∙ t));
  once = once_more outputs i d old mid new within before.once once;
  others = keeps_more outputs i d old.file_at mid.file_at new.file_at within before.others others;
}

-- a write that is refused
pub stopped_at : (outputs : List Output) (i : ℕ) (d : Output) (old mid new : StoreView)
    → HaveDistinctPaths outputs → i < length outputs → AreWritten (take i outputs) old mid
    → SameBut (path_of (get_or outputs i d)) mid.file_at new.file_at
    → IsWrittenAtMostOnce (path_of (get_or outputs i d)) mid new
    → HasStopped outputs old new
stopped_at outputs i d old mid new distinct within before others at_most_once =
    let begun = begun_at outputs i d old mid new within before.once at_most_once in
    let others_remain = keeps_more outputs i d old.file_at mid.file_at new.file_at within before.others others in
    record {
      at = i;
      within = within;
      begun = begun.0;
      begun_before = begun.1;
      begun_last = begun.2;
      once = begun.3;
      whole = λ t. whole_still outputs i d mid.file_at new.file_at distinct within others (before.whole t);
      untouched = λ k e lt. others_remain _ (λ m f front.
          let first : m < i + 1 = omega (arith, length-take (i + 1) outputs) in
          let last : i + 1 + k < length outputs = omega (arith, length-drop (i + 1) outputs) in
          let P : Output → Type 0 = λ o. path_of o ≢ path_of (get_or (take (i + 1) outputs) m f) in
          subst P (sym (get_or-drop (i + 1) outputs k e))
          (λ same. apart_front outputs (i + 1) m (i + 1 + k) f e distinct first (omega arith) last
          (sym same)));
      others = others_remain;
    }
