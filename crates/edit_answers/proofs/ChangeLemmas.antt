-- Sequences of changes of files.
use Rattle.std.proofs.Common.{◌≡◌, ◌≢◌, ℕ, ◌≤◌, List, [], ap, Bool, true, false, Some, refl, sym, ◌∙◌, subst, inl, inr, ⊎_elim, arith, Decides}
use Rattle.std.specs.Prelude.{◌⊎◌, Result, Ok, Err, OnOk, IfErr, IfOk, IsErrAnd}
use Rattle.std.specs.Str.{bytes_eq}
use Rattle.std.proofs.lemmas.Bool.{false≢true}
use Rattle.std.proofs.lemmas.Slice.Eq.{bytes_eq-Decides}
use Rattle.edit_base.specs.Errors.{IsMemory, number_of}
use Rattle.edit_base.specs.declared.errors.DeviceCall.{DeviceCall}
use Rattle.edit_base.specs.declared.errors.Error.{Error}
use Rattle.edit_base.specs.declared.errors.Error.TheVariants.{Memory}
use Rattle.edit_store.specs.Store.{Files, HasCause, OnlyReads, IsCallError, SameBut, SameFiles, StoreView, IsRaisedCount}
use Rattle.edit_answers.specs.Changes.{Changes, Fails, AllowsChanges, AllowsChangesBut}

by_test : (t : Bool) (P : Type 0) → Decides t P → P ⊎ (P → ⊥)
by_test true P d = inl (d.0 refl)
by_test false P d = inr (λ h. false≢true (d.1 h))

-- two paths are equal, or not
apart : (a b : List ℕ) → (a ≡ b) ⊎ (a ≢ b)
apart a b = by_test (bytes_eq a b) (a ≡ b) (bytes_eq-Decides a b)

module _ (P : List ℕ → List ℕ → Type 0) where
  pub keeps-same : (a b : Files) → SameFiles a b → AllowsChanges P a b
  keeps-same a b same path = inl (same path)

  pub keeps-write : (a b : Files) (at bytes : List ℕ) → SameBut at a b → b at ≡ Some bytes → P at bytes
      → AllowsChanges P a b
  keeps-write a b at bytes same is may path =
      ⊎_elim (λ e. inr (bytes, subst (λ p. b p ≡ Some bytes) (sym e) is, subst (λ p. P p bytes) (sym e) may))
      (λ n. inl (same path n)) (apart path at)

  pub keeps-then : (a b c : Files) → AllowsChanges P a b → AllowsChanges P b c → AllowsChanges P a c
  keeps-then a b c first second path =
      ⊎_elim (λ same. ⊎_elim (λ e. inl (same ∙ e)) (λ new. inr (new.0, same ∙ new.1, new.2)) (first path))
      (λ new. inr new) (second path)

  pub but-one : (a b : Files) (at : List ℕ) → SameBut at a b → AllowsChangesBut P a b
  but-one a b at same = (at, λ path n. inl (same path n))

  pub keeps-then-but : (a b c : Files) → AllowsChanges P a b → AllowsChangesBut P b c → AllowsChangesBut P a c
  keeps-then-but a b c first second = (
    second.0,
    λ path n.
        ⊎_elim (λ same. ⊎_elim (λ e. inl (same ∙ e)) (λ new. inr (new.0, same ∙ new.1, new.2)) (first path))
        (λ new. inr new) (second.1 path n),
  )

module _ (P Q : List ℕ → List ℕ → Type 0) (weaker : (path bytes : List ℕ) → P path bytes → Q path bytes) where
  pub keeps-weaker : (a b : Files) → AllowsChanges P a b → AllowsChanges Q a b
  keeps-weaker a b h path = ⊎_elim (λ same. inl same) (λ new. inr (new.0, new.1, weaker path new.0 new.2))
      (h path)

  pub but-weaker : (a b : Files) → AllowsChangesBut P a b → AllowsChangesBut Q a b
  but-weaker a b h = (
    h.0,
    λ path n. ⊎_elim (λ same. inl same)
        (λ new. inr (new.0, new.1, weaker path new.0 new.2)) (h.1 path n),
  )

-- a failure counts from an earlier state on
pub raised-later : (a b c : ℕ) → a ≤ b → IsRaisedCount b c → IsRaisedCount a c
raised-later a b c le (inl lt) = inl (omega arith)
raised-later a b c le (inr end) = grind (arith)

pub fails-later : (a b c : ℕ) (e : Error) → a ≤ b → Fails b c e → Fails a c e
fails-later a b c e le (inl memory) = inl memory
fails-later a b c e le (inr failed) = inr (failed.0, failed.1, raised-later a b c le failed.2)

-- the failure of a call of a store
pub fails-call : (call : DeviceCall) (a b : StoreView) (e : Error) → IsCallError call a b e
    → Fails a.faults b.faults e
fails-call call a b e (inl memory) = inl memory
fails-call call a b e (inr failed) = inr (call, failed.0, failed.1)

-- a step, and then a call
pub after : {T : Type 0} (P : T → List ℕ → List ℕ → Type 0) (Q : List ℕ → List ℕ → Type 0) (a b c : StoreView)
    (r : Result T Error) → b.tells ≡ a.tells → a.faults ≤ b.faults
    → ((v : T) → a.tells ≡ true → AllowsChanges (P v) a.file_at b.file_at)
    → (a.tells ≡ true → AllowsChanges Q a.file_at b.file_at) → Changes P Q b c r → Changes P Q a c r
after P Q a b c (Ok v) tells le keeps keepsq step = record {
  tells = step.tells ∙ tells;
  later = omega (arith, step.later);
  done = λ t. keeps-then (P v) a.file_at b.file_at c.file_at (keeps v t) (step.done (tells ∙ t));
  torn = tt;
  error = tt;
}
after P Q a b c (Err e) tells le keeps keepsq step = record {
  tells = step.tells ∙ tells;
  later = omega (arith, step.later);
  done = tt;
  torn = λ t. keeps-then-but Q a.file_at b.file_at c.file_at (keepsq t) (step.torn (tells ∙ t));
  error = fails-later a.faults b.faults c.faults e le step.error;
}

pub after-reads : {T : Type 0} (P : T → List ℕ → List ℕ → Type 0) (Q : List ℕ → List ℕ → Type 0)
    (a b c : StoreView)
    (r : Result T Error) → OnlyReads a b → Changes P Q b c r → Changes P Q a c r
after-reads P Q a b c r reads step =
    after P Q a b c r reads.tells reads.later (λ v t. keeps-same (P v) a.file_at b.file_at reads.files)
    (λ t. keeps-same Q a.file_at b.file_at reads.files) step

-- a failure for want of memory
pub memory-fails : {T : Type 0} (P : T → List ℕ → List ℕ → Type 0) (Q : List ℕ → List ℕ → Type 0)
    (a : StoreView)
    (e : Error) → IsMemory e → Changes P Q a a (Err e)
memory-fails P Q a e memory = record {
  tells = refl;
  later = omega arith;
  done = tt;
  torn = λ t. ([], λ path n. inl refl);
  error = inl memory;
}

-- nothing happens
pub nothing : {T : Type 0} (P : T → List ℕ → List ℕ → Type 0) (Q : List ℕ → List ℕ → Type 0) (a : StoreView)
    (v : T)
    → Changes P Q a a (Ok v)
nothing P Q a v = record {
  tells = refl;
  later = omega arith;
  done = λ t path. inl refl;
  torn = tt;
  error = tt;
}

-- a call with another result
pub as-ok : {T U : Type 0} (P : T → List ℕ → List ℕ → Type 0) (R : U → List ℕ → List ℕ → Type 0)
    (Q Q' : List ℕ → List ℕ → Type 0) (a b : StoreView) (v : T) (u : U)
    → (a.tells ≡ true → (path bytes : List ℕ) → P v path bytes → R u path bytes) → Changes P Q a b (Ok v)
    → Changes R Q' a b (Ok u)
as-ok P R Q Q' a b v u weaker step = record {
  tells = step.tells;
  later = step.later;
  done = λ t. keeps-weaker (P v) (R u) (weaker t) a.file_at b.file_at (step.done t);
  torn = tt;
  error = tt;
}

pub as-err : {T U : Type 0} (P : T → List ℕ → List ℕ → Type 0) (R : U → List ℕ → List ℕ → Type 0)
    (Q Q' : List ℕ → List ℕ → Type 0) (a b : StoreView) (e : Error)
    → ((path bytes : List ℕ) → Q path bytes → Q' path bytes) → Changes P Q a b (Err e)
    → Changes R Q' a b (Err e)
as-err P R Q Q' a b e weaker step = record {
  tells = step.tells;
  later = step.later;
  done = tt;
  torn = λ t. but-weaker Q Q' weaker a.file_at b.file_at (step.torn t);
  error = step.error;
}

-- a write
pub write-changes : {T : Type 0} (P : T → List ℕ → List ℕ → Type 0) (Q : List ℕ → List ℕ → Type 0)
    (call : DeviceCall)
    (a b : StoreView) (at bytes : List ℕ) (r : Result T Error) → b.tells ≡ a.tells
    → OnOk r (a.tells ≡ true → b.file_at at ≡ Some bytes) → SameBut at a.file_at b.file_at
    → HasCause call a b r
    → (a.tells ≡ true → b.file_at at ≡ Some bytes → (v : T) → AllowsChanges (P v) a.file_at b.file_at)
    → Changes P Q a b r
write-changes P Q call a b at bytes (Ok v) tells written others cause keeps = record {
  tells = tells;
  later = cause.later;
  done = λ t. keeps t (written t) v;
  torn = tt;
  error = tt;
}
write-changes P Q call a b at bytes (Err e) tells written others cause keeps = record {
  tells = tells;
  later = cause.later;
  done = tt;
  torn = λ t. but-one Q a.file_at b.file_at at others;
  error = fails-call call a b e cause.refused;
}

-- a call that only reads
pub only-reads : {T : Type 0} (P : T → List ℕ → List ℕ → Type 0) (Q : List ℕ → List ℕ → Type 0)
    (a b : StoreView) (v : T)
    → OnlyReads a b → Changes P Q a b (Ok v)
only-reads P Q a b v reads = after-reads P Q a b b (Ok v) reads (nothing P Q b v)

pub reads-memory : {T : Type 0} (P : T → List ℕ → List ℕ → Type 0) (Q : List ℕ → List ℕ → Type 0)
    (a b : StoreView)
    (e : Error) → OnlyReads a b → IsMemory e → Changes P Q a b (Err e)
reads-memory P Q a b e reads memory = after-reads P Q a b b (Err e) reads (memory-fails P Q b e memory)

pub reads-fails : {T : Type 0} (P : T → List ℕ → List ℕ → Type 0) (Q : List ℕ → List ℕ → Type 0)
    (a b : StoreView)
    (e : Error) → OnlyReads a b → Fails a.faults b.faults e → Changes P Q a b (Err e)
reads-fails P Q a b e reads fails = record {
  tells = reads.tells;
  later = reads.later;
  done = tt;
  torn = λ t. ([], λ path n. inl (reads.files path));
  error = fails;
}

-- a call that only reads, whatever its result
pub reads-changes : {T : Type 0} (P : T → List ℕ → List ℕ → Type 0) (Q : List ℕ → List ℕ → Type 0)
    (a b : StoreView)
    (r : Result T Error) → OnlyReads a b → IfErr r (Fails a.faults b.faults) → Changes P Q a b r
reads-changes P Q a b (Ok v) reads fails = only-reads P Q a b v reads
reads-changes P Q a b (Err e) reads fails = reads-fails P Q a b e reads fails

-- a call, and then another one
pub then : {U T : Type 0} (F : List ℕ → List ℕ → Type 0) (a b c : StoreView) (u : U) (r : Result T Error)
    → Changes (λ _. F) F a b (Ok u) → Changes (λ _. F) F b c r → Changes (λ _. F) F a c r
then F a b c u r first second =
    after (λ _. F) F a b c r first.tells first.later (λ v t. first.done t) (λ t. first.done t) second

pub on-ok : {T : Type 0} (P P' : T → Type 0) (r : Result T Error) → ((v : T) → P v → P' v) → IfOk r P
    → IfOk r P'
on-ok P P' (Ok v) f h = f v h
on-ok P P' (Err e) f h = tt

pub on-done : {T E : Type 0} (A B : Type 0) (r : Result T E) → (A → B) → OnOk r A → OnOk r B
on-done A B (Ok v) f h = f h
on-done A B (Err e) f h = tt

-- weaker conditions on the writes, if the contents of the files are known
pub weakened-known : {T : Type 0} (P P' : T → List ℕ → List ℕ → Type 0) (Q Q' : List ℕ → List ℕ → Type 0)
    (a b : StoreView) (r : Result T Error)
    → (a.tells ≡ true → (v : T) (path bytes : List ℕ) → P v path bytes → P' v path bytes)
    → (a.tells ≡ true → (path bytes : List ℕ) → Q path bytes → Q' path bytes) → Changes P Q a b r
    → Changes P' Q' a b r
weakened-known P P' Q Q' a b (Ok v) wp wq step = record {
  tells = step.tells;
  later = step.later;
  done = λ t. keeps-weaker (P v) (P' v) (wp t v) a.file_at b.file_at (step.done t);
  torn = tt;
  error = tt;
}
weakened-known P P' Q Q' a b (Err e) wp wq step = record {
  tells = step.tells;
  later = step.later;
  done = tt;
  torn = λ t. but-weaker Q Q' (wq t) a.file_at b.file_at (step.torn t);
  error = step.error;
}

-- memory runs out after a call
pub ok-refused : {U T : Type 0} (P : U → List ℕ → List ℕ → Type 0) (R : T → List ℕ → List ℕ → Type 0)
    (Q : List ℕ → List ℕ → Type 0) (a b : StoreView) (u : U) (r : Result T Error)
    → ((path bytes : List ℕ) → P u path bytes → Q path bytes) → IsErrAnd r (λ e. e ≡ Memory)
    → Changes P Q a b (Ok u) → Changes R Q a b r
ok-refused P R Q a b u (Ok v) weaker memory step = absurd memory
ok-refused P R Q a b u (Err e) weaker memory step = record {
  tells = step.tells;
  later = step.later;
  done = tt;
  torn = λ t. ([], λ path n. keeps-weaker (P u) Q weaker a.file_at b.file_at (step.done t) path);
  error = inl (ap number_of memory);
}

pub reads-refused : {T : Type 0} (P : T → List ℕ → List ℕ → Type 0) (Q : List ℕ → List ℕ → Type 0)
    (a b : StoreView)
    (r : Result T Error) → OnlyReads a b → IsErrAnd r (λ e. e ≡ Memory) → Changes P Q a b r
reads-refused P Q a b (Ok v) reads memory = absurd memory
reads-refused P Q a b (Err e) reads memory = reads-memory P Q a b e reads (ap number_of memory)
