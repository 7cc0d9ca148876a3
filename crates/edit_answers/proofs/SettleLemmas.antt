-- The writes for lookups, one after another.
use Rattle.std.proofs.lemmas.List.{length-map}
use Rattle.std.proofs.lemmas.Option.{slice_get-get_or}
use Rattle.std.proofs.Math.ListN.{get_or-map}
use Rattle.std.proofs.Common.{◌≡◌, ℕ, zero, suc, ◌<◌, get_or, map, ap, List, [], ◌∷◌, ◌++◌, length, Some, refl, sym, ◌∙◌, subst, inl, arith}
use Rattle.std.specs.Prelude.{Ok, Err, IsErrAnd, Result, slice_get}
use Rattle.edit_base.specs.Errors.{IsMemory, number_of}
use Rattle.edit_base.specs.declared.errors.Error.{Error}
use Rattle.edit_base.specs.declared.errors.Error.TheVariants.{Memory}
use Rattle.edit_store.specs.Store.{StoreView}
use Rattle.edit_lookups.specs.Lookups.{LookupText}
use Rattle.edit_answers.specs.Changes.{Changes, AllowsChanges}
use Rattle.edit_answers.specs.Outcomes.{Puts, PutsOne, PutsSome}
use Rattle.edit_answers.specs.Outcomes.Puts.{entry}
use Rattle.edit_answers.specs.declared.meaning.Outcome.{Outcome}
use Rattle.edit_answers.specs.declared.meaning.Outcome.TheVariants.{Fetched}
use Rattle.edit_answers.specs.declared.places.Places.{Places}
use Rattle.edit_answers.proofs.ChangeLemmas.{but-weaker, fails-later, keeps-then, keeps-then-but, keeps-weaker}

-- a write that a lookup allows is allowed if its entry was fetched
pub puts-fetched : (p : Places) (l : LookupText) (o : Outcome) (path bytes : List ℕ) → Puts p l o path bytes
    → Puts p l Fetched path bytes
puts-fetched p l o path bytes (entry etag body is valid moved whole) =
    entry etag body (inl refl) valid (λ e. cc) whole

get-more : {X : Type 0} (xs : List X) (y x : X) (k : ℕ) → slice_get xs k ≡ Some x
    → slice_get (xs ++ y ∷ []) k ≡ Some x
get-more [] y x k e = cc
get-more (z ∷ xs) y x zero e = e
get-more (z ∷ xs) y x (suc k) e = get-more xs y x k e

get-last : {X : Type 0} (xs : List X) (y : X) → slice_get (xs ++ y ∷ []) (length xs) ≡ Some y
get-last [] y = refl
get-last (x ∷ xs) y = get-last xs y

module _ (p : Places) (ls : List LookupText) where
  some-one : (os : List Outcome) (path bytes : List ℕ) → PutsOne p ls os path bytes → PutsSome p ls path bytes
  some-one os path bytes h = record {
    number = h.number;
    lookup = h.lookup;
    among = tt;
    is = h.is;
    puts = puts-fetched p h.lookup h.outcome path bytes h.puts;
  }

  one-more : (os : List Outcome) (o : Outcome) (path bytes : List ℕ) → PutsOne p ls os path bytes
      → PutsOne p ls (os ++ o ∷ []) path bytes
  one-more os o path bytes h = record {
    number = h.number;
    lookup = h.lookup;
    outcome = h.outcome;
    is = h.is;
    becomes = get-more os o h.outcome h.number h.becomes;
    puts = h.puts;
  }

  one-last : (os : List Outcome) (o : Outcome) (l : LookupText) (path bytes : List ℕ)
      → slice_get ls (length os) ≡ Some l → Puts p l o path bytes → PutsOne p ls (os ++ o ∷ []) path bytes
  one-last os o l path bytes is h = record {
    number = length os;
    lookup = l;
    outcome = o;
    is = is;
    becomes = get-last os o;
    puts = h;
  }

  some-last : (os : List Outcome) (l : LookupText) (path bytes : List ℕ) → slice_get ls (length os) ≡ Some l
      → Puts p l Fetched path bytes → PutsSome p ls path bytes
  some-last os l path bytes is h = record { number = length os; lookup = l; among = tt; is = is; puts = h }

  -- one lookup more
  pub settled-more : (os all : List Outcome) (o : Outcome) (l : LookupText) (a b c : StoreView)
      → all ≡ os ++ o ∷ [] → slice_get ls (length os) ≡ Some l
      → Changes (PutsOne p ls) (PutsSome p ls) a b (Ok os) → Changes (Puts p l) (Puts p l Fetched) b c (Ok o)
      → Changes (PutsOne p ls) (PutsSome p ls) a c (Ok all)
  settled-more os all o l a b c e is so step = record {
    tells = step.tells ∙ so.tells;
    later = omega (arith, so.later, step.later);
    done = λ t. subst (λ xs. AllowsChanges (PutsOne p ls xs) a.file_at c.file_at) (sym e)
        (keeps-then (PutsOne p ls (os ++ o ∷ [])) a.file_at b.file_at c.file_at
        (keeps-weaker (PutsOne p ls os) (PutsOne p ls (os ++ o ∷ [])) (one-more os o) a.file_at b.file_at
        (so.done t))
        (keeps-weaker (Puts p l o) (PutsOne p ls (os ++ o ∷ [])) (λ path bytes. one-last os o l path bytes is)
        b.file_at c.file_at (step.done (so.tells ∙ t))));
    torn = tt;
    error = tt;
  }

  -- a lookup that fails
  pub settled-err : {T : Type 0} (P : T → List ℕ → List ℕ → Type 0) (os : List Outcome) (l : LookupText)
      (a b c : StoreView) (e : Error)
      → slice_get ls (length os) ≡ Some l
      → Changes (PutsOne p ls) (PutsSome p ls) a b (Ok os)
      → Changes (Puts p l) (Puts p l Fetched) b c (let r : Result Outcome Error = Err e in r)
      → Changes P (PutsSome p ls) a c (Err e)
  settled-err P os l a b c e is so step = record {
    tells = step.tells ∙ so.tells;
    later = omega (arith, so.later, step.later);
    done = tt;
    torn = λ t. keeps-then-but (PutsSome p ls) a.file_at b.file_at c.file_at
        (keeps-weaker (PutsOne p ls os) (PutsSome p ls) (some-one os) a.file_at b.file_at (so.done t))
        (but-weaker (Puts p l Fetched) (PutsSome p ls) (λ path bytes. some-last os l path bytes is)
        b.file_at c.file_at (step.torn (so.tells ∙ t)));
    error = fails-later a.faults b.faults c.faults e so.later step.error;
  }

  -- memory runs out after a lookup
  pub settled-memory : {T : Type 0} (P : T → List ℕ → List ℕ → Type 0) (os : List Outcome) (o : Outcome)
      (l : LookupText) (a b c : StoreView) (e : Error)
      → IsMemory e → slice_get ls (length os) ≡ Some l → Changes (PutsOne p ls) (PutsSome p ls) a b (Ok os)
      → Changes (Puts p l) (Puts p l Fetched) b c (Ok o) → Changes P (PutsSome p ls) a c (Err e)
  settled-memory P os o l a b c e memory is so step =
      let more = settled-more os (os ++ o ∷ []) o l a b c refl is so step in
      record {
        tells = more.tells;
        later = more.later;
        done = tt;
        torn = λ t. (
          [],
          λ path n. keeps-weaker (PutsOne p ls (os ++ o ∷ [])) (PutsSome p ls) (some-one (os ++ o ∷ []))
              a.file_at c.file_at (more.done t) path,
        );
        error = inl memory;
      }

-- the lookup at an index
pub lookup-at : {X : Type 0} (f : X → LookupText) (xs : List X) (n i : ℕ) (d : X) → n ≡ i → i < length xs
    → slice_get (map f xs) n ≡ Some (f (get_or xs i d))
lookup-at f xs n i d e w =
    ap (slice_get (map f xs)) e
    ∙ (slice_get-get_or (map f xs) i (f d) (omega (arith, length-map xs f)) ∙ ap Some (get_or-map f xs i d))

-- memory runs out after a lookup, as the error of a call
pub settled-refused : {T : Type 0} (P : T → List ℕ → List ℕ → Type 0) (p : Places) (ls : List LookupText)
    (os : List Outcome) (o : Outcome) (l : LookupText) (a b c : StoreView) (r : Result T Error)
    → IsErrAnd r (λ e. e ≡ Memory) → slice_get ls (length os) ≡ Some l
    → Changes (PutsOne p ls) (PutsSome p ls) a b (Ok os) → Changes (Puts p l) (Puts p l Fetched) b c (Ok o)
    → Changes P (PutsSome p ls) a c r
settled-refused P p ls os o l a b c (Ok v) memory is so step = absurd memory
settled-refused P p ls os o l a b c (Err e) memory is so step =
    settled-memory p ls P os o l a b c e (ap number_of memory) is so step

-- the writes of all lookups, without their results
pub settled-all : (p : Places) (ls : List LookupText) (os : List Outcome) (path bytes : List ℕ)
    → PutsOne p ls os path bytes → PutsSome p ls path bytes
settled-all p ls os path bytes h = some-one p ls os path bytes h
