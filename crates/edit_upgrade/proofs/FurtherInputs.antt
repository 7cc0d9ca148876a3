-- The inputs of a draft, after one more.
use Rattle.std.proofs.Common.{zero, suc, Option, None, ◌≡◌, ◌≢◌, ◌∷◌, ◌++◌, [], List, ℕ, Some, false, refl, ap, ◌∙◌, sym, subst, inl, inr, ◌⊎◌, ◌<◌, ◌≤◌, ◌+◌, arith, get_or, length, map, take}
use Rattle.std.specs.Prelude.{IfSome, slice_get}
use Rattle.std.specs.Global.{Vec}
use Rattle.std.proofs.lemmas.List.{length-take-le}
use Rattle.std.proofs.lemmas.List.Elements.{All-nil}
use Rattle.std.proofs.lemmas.Option.{get_or_from_slice_get, slice_get_within}
use Rattle.edit_tree.specs.DocumentViews.{DocumentViews}
use Rattle.edit_tree.specs.Tree.{view_at}
use Rattle.edit_metadata.specs.declared.input.Input.{Input}
use Rattle.edit_report.specs.declared.output.Output.{Output}
use Rattle.edit_report.specs.declared.row.Row.{Row}
use Rattle.edit_sources.specs.Index.{Outcomes, SameOutcomes}
use Rattle.edit_sources.specs.declared.config.Config.{Config}
use Rattle.edit_upgrade.specs.Caches.{CacheView, LeavesCache}
use Rattle.edit_upgrade.specs.Drafts.{AddsInput, AreGiven, ArePlanned, IsDraft, IsPathAmong}
use Rattle.edit_metadata.specs.Inputs.{HaveOwnPaths, path_of}
use Rattle.edit_upgrade.specs.Inputs.{output_path}
use Rattle.edit_upgrade.specs.Lines.{line_of}
use Rattle.edit_upgrade.specs.Lists.{WarningView, warning_view}
use Rattle.edit_upgrade.specs.LookupSteps.{AreAllCached, Stays}
use Rattle.edit_upgrade.specs.Lookups.{CachedAnswers}
use Rattle.edit_upgrade.specs.PairSets.{holds_pair}
use Rattle.edit_upgrade.specs.Records.{row_entries}
use Rattle.edit_upgrade.specs.Rows.{Line}
use Rattle.edit_upgrade.specs.Upgraded.{IsNeeded, IsNeededBy}
use Rattle.edit_upgrade.specs.declared.draft.Draft.{Draft}
use Rattle.edit_upgrade.specs.declared.decision.options.Options.{Options}
use Rattle.edit_upgrade.specs.declared.upgrade.Warning.{Warning}
use Rattle.edit_upgrade.proofs.DraftLemmas.{planned-more}
use Rattle.edit_upgrade.proofs.EndLemmas.{get-at, get-cases, get-front, get-last, get-of-taken}
use Rattle.edit_upgrade.proofs.LookupOrderLemmas.{order-more, order-start}
use Rattle.edit_upgrade.proofs.LookUpLemmas.{leaves-more, so-far-idle, so-far-start}
use Rattle.edit_upgrade.proofs.PlannedLemmas.{of-manifest}
use Rattle.edit_upgrade.proofs.StepLemmas.{Also, steps-so-far}
use Rattle.edit_upgrade.proofs.Steps.{taken-more}

-- ---- the draft of none

nothing-needed : (a n : List ℕ) → IsNeeded [] [] a n → ⊥
nothing-needed a n h = cc h.at

planned-start : (o : Options) (cached : CachedAnswers) (rows : List Row) (outputs : List Output)
    (warnings : List Warning) → rows ≡ [] → outputs ≡ [] → warnings ≡ []
    → ArePlanned o cached [] [] (map line_of rows) outputs (map warning_view warnings)
planned-start o cached rows outputs warnings a b c =
    let none : ArePlanned o cached [] [] [] [] [] = record {
      each = λ i x own e f. absurd (no x e);
      rows_in_order = refl;
      outputs_in_order = refl;
      warnings_in_order = refl;
      rows_below = All-nil (λ (l : Line). l.input < 0);
      warnings_below = All-nil (λ (t : WarningView). t.input < 0);
      paths_among = All-nil (λ (q : Output). IsPathAmong [] (output_path q));
    } in
    subst (λ (r : List Row). ArePlanned o cached [] [] (map line_of r) outputs (map warning_view warnings))
    (sym a)
    (subst (λ (q : List Output). ArePlanned o cached [] [] [] q (map warning_view warnings)) (sym b)
    (subst (λ (w : List Warning). ArePlanned o cached [] [] [] [] (map warning_view w)) (sym c) none))
  where
    no : (x : Input) → slice_get [] 0 ≡ Some x → ⊥
    no x h = cc h

pub draft-start : (o : Options) (gives : Outcomes) (old : CachedAnswers) (d : Draft)
    → d.books.looks.items ≡ []
    → ((a n : List ℕ) → holds_pair d.books.pairs a n ≡ false) → d.outputs.items ≡ [] → d.rows.items ≡ []
    → d.warnings.items ≡ []
    → IsDraft o [] [] gives old old d
draft-start o gives old d lookups pairs outputs rows warnings = record {
  cached = λ a n h. cc (sym (pairs a n) ∙ h);
  so_far = so-far-start (IsNeeded [] []) gives old d.books.looks.items (holds_pair d.books.pairs) lookups
      nothing-needed pairs;
  ordered = order-start d.books.looks.items (holds_pair d.books.pairs) lookups pairs;
  planned = planned-start o old d.rows.items d.outputs.items d.warnings.items rows outputs warnings;
}

-- ---- one input more

module _ (o : Options) (xs : List Input) (cs : List (Vec Config)) (x : Input) (own : Vec Config)
    (first last : Outcomes) (old now next : CachedAnswers) (d e : Draft)
    (draft : IsDraft o xs cs first old now d) (same : SameOutcomes first last) (stays : Stays now next)
    (adds : AddsInput (length xs) o x own.items last now next d e)
    (cached : AreAllCached (holds_pair e.books.pairs) next) (long : length cs ≡ length xs)
    (new : (j : ℕ) (y : Input) → slice_get xs j ≡ Some y → path_of y ≢ path_of x) where
  needs-also : (a n : List ℕ) → Also (IsNeeded xs cs) own.items (row_entries (view_at adds.walked.form)) a n
      → IsNeeded (xs ++ x ∷ []) (cs ++ own ∷ []) a n
  needs-also a n (inl h) = record {
    i = h.i;
    input = h.input;
    own = h.own;
    at = get-front xs (x ∷ []) h.i h.input h.at;
    configured = get-front cs (own ∷ []) h.i h.own h.configured;
    needed = h.needed;
  }
  needs-also a n (inr h) = record {
    i = length xs;
    input = x;
    own = own;
    at = get-last xs x;
    configured = subst (λ (k : ℕ). slice_get (cs ++ own ∷ []) k ≡ Some own) long (get-last cs own);
    needed = record { form = adds.walked.form; manifest = adds.walked.manifest; needed = h };
  }

  also-needs : (a n : List ℕ) → IsNeeded (xs ++ x ∷ []) (cs ++ own ∷ []) a n
      → Also (IsNeeded xs cs) own.items (row_entries (view_at adds.walked.form)) a n
  also-needs a n h = by (get-cases xs x h.i h.input h.at) (get-cases cs own h.i h.own h.configured)
    where
      by : (slice_get xs h.i ≡ Some h.input) ⊎ ((h.i ≡ length xs) × (x ≡ h.input))
          → (slice_get cs h.i ≡ Some h.own) ⊎ ((h.i ≡ length cs) × (own ≡ h.own))
          → Also (IsNeeded xs cs) own.items (row_entries (view_at adds.walked.form)) a n
      by (inl b) (inl c) = inl (record {
        i = h.i;
        input = h.input;
        own = h.own;
        at = b;
        configured = c;
        needed = h.needed;
      })
      by (inl b) (inr c) =
          let low : h.i < length xs = slice_get_within xs h.i h.input b in
          absurd (omega (arith, low, c.0, long))
      by (inr b) (inl c) =
          let low : h.i < length cs = slice_get_within cs h.i h.own c in
          absurd (omega (arith, low, b.0, long))
      by (inr b) (inr c) =
          inr (of-manifest own.items x.bytes.items (row_entries (view_at adds.walked.form))
          (record { form = adds.walked.form; manifest = adds.walked.manifest; are = refl }) a n
          (subst (λ (y : Input). IsNeededBy own.items y.bytes.items a n) (sym b.1)
          (subst (λ (w : Vec Config). IsNeededBy w.items h.input.bytes.items a n) (sym c.1) h.needed)))

  draft-more : IsDraft o (xs ++ x ∷ []) (cs ++ own ∷ []) first old next e
  draft-more =
      let es = row_entries (view_at adds.walked.form) in
      let d_lookups = d.books.looks.items in
      let e_lookups = e.books.looks.items in
      let d_pairs = holds_pair d.books.pairs in
      let e_pairs = holds_pair e.books.pairs in
      let walked = steps-so-far (IsNeeded xs cs) own.items first last old same es now next d_lookups e_lookups
      d_pairs e_pairs adds.walked.steps draft.so_far in
      let more = planned-more o now next xs cs (map line_of d.rows.items) adds.lines d.outputs.items
      adds.outputs (map warning_view d.warnings.items) adds.warnings x own stays
      draft.planned
      (record {
        form = adds.walked.form;
        manifest = adds.walked.manifest;
        passed = adds.walked.passed;
        decided = adds.walked.decided;
        writes = adds.writes;
        warned = adds.warned;
      }) long new in
      record {
        cached = cached;
        so_far = so-far-idle (Also (IsNeeded xs cs) own.items es)
            (IsNeeded (xs ++ x ∷ []) (cs ++ own ∷ [])) first old next next e_lookups e_lookups e_pairs e_pairs
            needs-also also-needs refl refl refl walked;
        ordered = order-more xs cs x own last now next d_lookups e_lookups d_pairs e_pairs long draft.ordered
            adds.walked.form adds.walked.manifest adds.walked.steps;
        planned = subst (λ (l : List Line). ArePlanned o next (xs ++ x ∷ []) (cs ++ own ∷ []) l
            e.outputs.items (map warning_view e.warnings.items)) (sym adds.rows_are)
            (subst (λ (q : List Output). ArePlanned o next (xs ++ x ∷ []) (cs ++ own ∷ [])
            (map line_of d.rows.items ++ adds.lines) q (map warning_view e.warnings.items))
            (sym adds.outputs_are)
            (subst (λ (t : List WarningView). ArePlanned o next (xs ++ x ∷ []) (cs ++ own ∷ [])
            (map line_of d.rows.items ++ adds.lines) (d.outputs.items ++ adds.outputs) t)
            (sym adds.warnings_are) more));
      }

-- ---- the next of the inputs

-- its path is none of an earlier one
path-new : (inputs : List Input) (k : ℕ) (x : Input) → HaveOwnPaths inputs → k < length inputs
    → slice_get inputs k ≡ Some x
    → (j : ℕ) (y : Input) → slice_get (take k inputs) j ≡ Some y → path_of y ≢ path_of x
path-new inputs k x apart low at j y e p =
    let before : j < length (take k inputs) = slice_get_within (take k inputs) j y e in
    let le : k ≤ length inputs = omega (arith, low) in
    let short : length (take k inputs) ≡ k = length-take-le k inputs le in
    let less : j < k = omega (arith, before, short) in
    let there : get_or inputs j y ≡ y = get_or_from_slice_get inputs j y y (get-of-taken inputs k j y e) in
    let here : get_or inputs k y ≡ x = get_or_from_slice_get inputs k x y at in
    apart j k y less low (ap path_of there ∙ p ∙ sym (ap path_of here))

-- an input and its configurations at a place, as a loop over the inputs has them
pub record IsInputAt (inputs : List Input) (configs : List (Vec Config)) (k : ℕ) (x : Input)
    (own : Vec Config) (here : List Config) : Type 0 where
  pub low : k < length inputs
  pub own_low : k < length configs
  pub is : x ≡ get_or inputs k x
  pub own_is : own ≡ get_or configs k own
  pub here_is : here ≡ own.items

pub input-at : {inputs : List Input} {configs : List (Vec Config)} {k : ℕ} {x : Input} {own : Vec Config}
    {here : List Config} → k < length inputs → length configs ≡ length inputs → x ≡ get_or inputs k x
    → slice_get configs k ≡ Some own → here ≡ own.items → IsInputAt inputs configs k x own here
input-at {inputs} {configs} {k} {x} {own} low long is own_at here_is = record {
  low = low;
  own_low = omega (arith, low, long);
  is = is;
  own_is = sym (get_or_from_slice_get configs k own own own_at);
  here_is = here_is;
}

-- the draft with it
pub draft-next : (o : Options) {inputs : List Input} {configs : List (Vec Config)} {k : ℕ} {x : Input}
    {own : Vec Config} {here : List Config} (was now next : CacheView) (d e : Draft)
    → IsInputAt inputs configs k x own here → HaveOwnPaths inputs
    → IsDraft o (take k inputs) (take k configs) was.gives was.cached now.cached d
    → SameOutcomes was.gives now.gives → Stays now.cached next.cached
    → AddsInput k o x here now.gives now.cached next.cached d e
    → AreAllCached (holds_pair e.books.pairs) next.cached
    → IsDraft o (take (k + 1) inputs) (take (k + 1) configs) was.gives was.cached next.cached e
draft-next o {inputs} {configs} {k} {x} {own} was now next d e at apart draft same stays adds cached =
    let le : k ≤ length inputs = omega (arith, at.low) in
    let le_own : k ≤ length configs = omega (arith, at.own_low) in
    let short : length (take k inputs) ≡ k = length-take-le k inputs le in
    let short_own : length (take k configs) ≡ k = length-take-le k configs le_own in
    let own_adds : AddsInput (length (take k inputs)) o x own.items now.gives now.cached next.cached d e =
    subst (λ (n : ℕ). AddsInput n o x own.items now.gives now.cached next.cached d e) (sym short)
    (subst (λ (cs : List Config). AddsInput k o x cs now.gives now.cached next.cached d e) at.here_is adds) in
    let more = draft-more o (take k inputs) (take k configs) x own was.gives now.gives was.cached now.cached
    next.cached d e draft same stays own_adds cached (short_own ∙ sym short)
    (path-new inputs k x apart at.low (get-at inputs k x at.low at.is)) in
    subst (λ (xs : List Input). IsDraft o xs (take (k + 1) configs) was.gives was.cached next.cached e)
    (sym (taken-more inputs k x at.low at.is))
    (subst (λ (cs : List (Vec Config)). IsDraft o (take k inputs ++ x ∷ []) cs was.gives was.cached next.cached e)
    (sym (taken-more configs k own at.own_low at.own_is)) more)

-- ---- the documents that are given

given-by : (inputs : List Input) (documents : List DocumentViews) (i : ℕ) (x : Input) (d : DocumentViews)
    → map (λ (z : DocumentViews). z.bytes) documents ≡ map (λ (z : Input). z.bytes.items) inputs
    → slice_get inputs i ≡ Some x → slice_get documents i ≡ Some d
    → d.bytes ≡ x.bytes.items
given-by [] documents i x d e f g = cc f
given-by (y ∷ ys) [] i x d e f g = cc g
given-by (y ∷ ys) (z ∷ zs) zero x d e f g =
    let header_walk : z.bytes ≡ y.bytes.items = cc e in
    let own : z ≡ d = cc g in
    let other : y ≡ x = cc f in
    ap (λ (q : DocumentViews). q.bytes) (sym own) ∙ header_walk ∙ ap (λ (q : Input). q.bytes.items) other
given-by (y ∷ ys) (z ∷ zs) (suc i) x d e f g = given-by ys zs i x d (cc e) f g

some-given : (o : Option DocumentViews) (x : Input)
    → ((d : DocumentViews) → o ≡ Some d → d.bytes ≡ x.bytes.items)
    → IfSome o (λ d. d.bytes ≡ x.bytes.items)
some-given None x h = tt
some-given (Some d) x h = h d refl

-- a document that is given has the bytes of its input
pub given-at : (inputs : List Input) (documents : List DocumentViews) (i : ℕ) (x : Input) (o : Option DocumentViews)
    → AreGiven inputs documents → i < length inputs
    → x ≡ get_or inputs i x → o ≡ slice_get documents i → IfSome o (λ d. d.bytes ≡ x.bytes.items)
given-at inputs documents i x o (inl none) low is e = some-given o x
    (λ d f. absurd (no d (sym (e ∙ ap (λ (ds : List DocumentViews). slice_get ds i) none) ∙ f)))
  where
    no : (d : DocumentViews) → slice_get [] i ≡ Some d → ⊥
    no d h = cc h
given-at inputs documents i x o (inr same) low is e =
    some-given o x (λ d f. given-by inputs documents i x d same (get-at inputs i x low is) (sym e ∙ f))

-- what an input needs, the inputs need
needed-at : {inputs : List Input} {configs : List (Vec Config)} {k : ℕ} {x : Input} {own : Vec Config}
    {here : List Config} → IsInputAt inputs configs k x own here → (a n : List ℕ)
    → IsNeededBy here x.bytes.items a n → IsNeeded inputs configs a n
needed-at {inputs} {configs} {k} {x} {own} at a n h = record {
  i = k;
  input = x;
  own = own;
  at = get-at inputs k x at.low at.is;
  configured = get-at configs k own at.own_low at.own_is;
  needed = subst (λ (cs : List Config). IsNeededBy cs x.bytes.items a n) at.here_is h;
}

-- what the calls for the inputs before it and for it leave
pub left-next : {inputs : List Input} {configs : List (Vec Config)} {k : ℕ} {x : Input} {own : Vec Config}
    {here : List Config} (was now next : CacheView) → IsInputAt inputs configs k x own here
    → LeavesCache (IsNeeded inputs configs) was now → LeavesCache (IsNeededBy here x.bytes.items) now next
    → LeavesCache (IsNeeded inputs configs) was next
left-next {inputs} {configs} {k} {x} {own} {here} was now next at left more =
    leaves-more (IsNeeded inputs configs) (IsNeededBy here x.bytes.items) was.gives now.gives next.gives
    was.faults now.faults next.faults was.cached now.cached next.cached (needed-at at) left more
