-- Planning the outputs of a plan again, over the same versions, gives rows without a change.
use Rattle.std.proofs.Common.{◌≡◌, ◌∷◌, ◌+◌, suc, arith, [], List, ℕ, Option, Some, None, Bool, true, false, refl, ap, ◌∙◌, sym, subst, inl, inr}
use Rattle.std.specs.Prelude.{All, ◌==◌, is_ok, is_some, nat_eq}
use Rattle.std.specs.Cmp.Lexicographic.{pointwise}
use Rattle.std.specs.List.{AllByRecursion, AllZip, position_or_len}
use Rattle.std.proofs.lemmas.Bool.{cases_Bool}
use Rattle.std.proofs.lemmas.List.Elements.{All-cons, All-nil}
use Rattle.semver.specs.Grammar.{IsValid}
use Rattle.semver.specs.OrderLaws.{same_text}
use Rattle.semver.specs.Parse.{Parts, req_of}
use Rattle.edit_tree.specs.Assertions.{Place}
use Rattle.edit_version.specs.Laws.{holds_plus}
use Rattle.edit_version.specs.Levels.{versions_within}
use Rattle.edit_version.specs.Requirement.{Nothing, UpgradeResult, Text, Unread, Unsupported, cut, plain_text, upgrade_of}
use Rattle.edit_version.specs.Selection.{IsCompatible, IsLatest, is_admitted, is_offered}
use Rattle.edit_version.proofs.NoPlus.{cut-none, plain-whole, raised-whole}
use Rattle.edit_version.proofs.Orders.{greatest-has}
use Rattle.edit_version.proofs.Outcomes.{valid-version}
use Rattle.edit_sources.proofs.AddressLemmas.{one_url}
use Rattle.url.specs.Parts as url
use Rattle.url.specs.Parts.{serialize}
use Rattle.edit_upgrade.specs.OptionLevels.{level_in}
use Rattle.edit_upgrade.specs.Decision.{Case, Outcome, compatible_text, decision, first_row, given, is_too_low, up_to_date, latest_text, left_out, may_jump, newer, row_change, row_of, row_text, text_or, to_compatible, to_latest, unless_old, unread, some_if}
use Rattle.edit_upgrade.specs.Headline.{HasNoChange}
use Rattle.edit_upgrade.specs.Inputs.{Setting}
use Rattle.edit_upgrade.specs.Lookups.{lookup_versions}
use Rattle.edit_upgrade.specs.Records.{RowEntry, at_registry}
use Rattle.edit_sources.specs.Configured.{HasAddress}
use Rattle.edit_sources.specs.declared.config.Config.{Config}
use Rattle.edit_upgrade.specs.Rows.{AreVersionsFor, IsDecided, IsRowOver, Line, Needs, case_for, elsewhere, is_elsewhere, at_address, write_at, write_on}
use Rattle.edit_upgrade.specs.Upgraded.{IsRow, basis_of}
use Rattle.edit_upgrade.specs.EntrySelection.{is_excluded, requirement_for}
use Rattle.edit_report.specs.declared.row.Change.{Change}
use Rattle.edit_upgrade.specs.declared.decision.options.Options.{Options}
use Rattle.edit_upgrade.proofs.DecidedAgain.{again, case-plain, case_of}
use Rattle.edit_upgrade.proofs.HeadlineRows.{offered-valid}
use Rattle.edit_upgrade.proofs.LevelLemmas.{valid-within}
use Rattle.edit_upgrade.proofs.TakenVersions.{far-some, far_text, near-some, newer-latest, unless-some, some_if-some}
use Rattle.edit_upgrade.proofs.WrittenEntries.{old_after, renew, renewed}
use Rattle.edit_upgrade.proofs.SomeRows.{other-versions}

-- ---- the text of a row is cut already

-- a cut text has no `+`
cut-no_plus : (xs : List ℕ) → holds_plus (cut xs) ≡ false
cut-no_plus [] = refl
cut-no_plus (x ∷ xs) = elim (cases_Bool (x == 43)) [
  | inl plus ↦ rw plus refl
  | inr other ↦
      let k = position_or_len (λ b. b == 43) xs in
      let more : 1 + k ≡ suc k = omega arith in
      rw (other, more) (rw other (cut-no_plus xs))
]

-- a text that was cut is cut already
pub cut-whole : (xs : List ℕ) → cut (cut xs) ≡ cut xs
cut-whole xs = cut-none (cut xs) (cut-no_plus xs)

-- a text that could be written is cut already
whole-of : (old other : List ℕ) (v : Parts) (t : List ℕ) (r : UpgradeResult) → IsValid v → cut other ≡ other
    → upgrade_of old v ≡ r → text_or other r ≡ Some t → cut t ≡ t
whole-of old other v t Unread valid e q h = cc h
whole-of old other v t Nothing valid e q h = cc h
whole-of old other v t (Unsupported d) valid e q h =
    let same : other ≡ t = cc h in
    subst (λ (x : List ℕ). cut x ≡ x) same e
whole-of old other v t (Text s) valid e q h =
    let same : s ≡ t = cc h in
    subst (λ (x : List ℕ). cut x ≡ x) same (raised-whole old v s (valid-version v valid) q)

-- so is the text that an entry gets
whole-row : (x b : Bool) (old : List ℕ) (l c : Option (List ℕ)) → cut old ≡ old
    → ((t : List ℕ) → l ≡ Some t → cut t ≡ t) → ((t : List ℕ) → c ≡ Some t → cut t ≡ t)
    → cut (row_text old (first_row x None b l c)) ≡ row_text old (first_row x None b l c)
whole-row true b old l c h f g = h
whole-row false false old l c h f g = h
whole-row false true old (Some t) c h f g = f t refl
whole-row false true old None (Some t) h f g = g t refl
whole-row false true old None None h f g = h

-- so is the requirement of a decided row
case-whole : (o : Options) (x r m : Bool) (xs : List Parts) (old : List ℕ) (near far : Option Parts)
    → All IsValid xs → cut old ≡ old → IsCompatible old xs near → IsLatest old xs far
    → cut (decision o (case_of x r m old near far)).new ≡ (decision o (case_of x r m old near far)).new
case-whole o x r m xs old near far all h ic il =
    let k = case_of x r m old near far in
    whole-row x (is_ok (req_of old)) old (some_if (may_jump o k) (latest_text k))
    (some_if o.compatible (compatible_text k)) h
    (λ t q.
    let u = unless-some (is_too_low m old (newer far near)) (far_text old far near) t
    (some_if-some (may_jump o k) (latest_text k) t q) in
    let f = far-some old t far near u.1 in
    let valid = greatest-has IsValid (is_offered old) xs f.0 all
    (subst (λ (y : Option Parts). IsLatest old xs y) (newer-latest far near f.0 f.1) il) in
    whole-of old (plain_text f.0) f.0 t (upgrade_of old f.0) valid (plain-whole f.0 valid) refl f.2)
    (λ t q.
    let n = near-some o old t near q in
    let valid = greatest-has IsValid (is_admitted old) xs n.0 all
    (subst (λ (y : Option Parts). IsCompatible old xs y) n.1 ic) in
    whole-of old old n.0 t (upgrade_of old n.0) valid h refl n.2)

-- the text left by the decision for an entry, without an explicit requirement, is a whole token
decided-whole : (o : Options) (xs : List Parts) (e : RowEntry) (old : List ℕ) (near far : Option Parts)
    → requirement_for o e.name ≡ None → All IsValid xs → cut old ≡ old
    → IsCompatible old xs near → IsLatest old xs far
    → cut (decision o (case_for o e old near far)).new ≡ (decision o (case_for o e old near far)).new
decided-whole o xs e old near far plain all h ic il =
    subst (λ (k : Case). cut (decision o k).new ≡ (decision o k).new)
    (sym (case-plain o e old near far plain))
    (case-whole o (is_excluded o e.name) (is_some e.rename) o.never_lower xs old near far all h ic il)

-- ---- the requirement that a row leaves

-- a text that is no change is the old one
same-stays : (old text : List ℕ) (kind : Change) → unless_old old text kind ≡ None → text ≡ old
same-stays old text kind h = elim (cases_Bool (pointwise nat_eq text old)) [
  | inl same ↦ same_text _ _ same
  | inr other ↦ cc (rw other at h)
]

-- where there is no change, the text is the old one
old-stays : (old : List ℕ) (row : Outcome) → row_change old row ≡ None → row_text old row ≡ old
old-stays old left_out h = refl
old-stays old (given text) h = same-stays old text _ h
old-stays old unread h = refl
old-stays old (to_latest text) h = same-stays old text _ h
old-stays old (to_compatible text) h = same-stays old text _ h
old-stays old up_to_date h = refl

-- so the row shows the old requirement
line-stays : (i : ℕ) (o : Options) (xs : List Parts) (e : RowEntry) (old : List ℕ) (line : Line)
    → IsDecided i o xs e old line → line.change ≡ None → line.new ≡ Some old
line-stays i o xs e old line d h =
    let k = case_for o e old d.near d.far in
    let q : row_change old (row_of o k) ≡ None = sym (ap (λ (l : Line). l.change) d.is) ∙ h in
    ap (λ (l : Line). l.new) d.is ∙ ap (λ (x : List ℕ). Some x) (old-stays old (row_of o k) q)

-- a row without a change writes nothing
pub none-written : (e : RowEntry) (line : Line) → line.change ≡ None → write_on e line ≡ None
none-written e line h = by-old e.old
  where
    by-old : (o : Option (List ℕ)) → some_if (is_some o) (write_at e.literal line) ≡ None
    by-old None = refl
    by-old (Some old) = rw h refl

-- a row with a change writes its requirement
some-written : (e : RowEntry) (old : List ℕ) (line : Line) (kind : Change) (new : List ℕ) → e.old ≡ Some old
    → line.change ≡ Some kind → line.new ≡ Some new
    → write_on e line ≡ Some (e.literal, new)
some-written e old line kind new q h n = rw (q, h, n) refl

-- the entry after its row was written is the old one with the row's requirement
abbrev HasNew : RowEntry → Line → Type 0
HasNew e line = (new : List ℕ) × (line.new ≡ Some new) × (renew e line ≡ record e { old = Some new })

-- by whether the row has a change
new-by : (i : ℕ) (o : Options) (xs : List Parts) (e : RowEntry) (old : List ℕ) (line : Line) (c : Option Change)
    → requirement_for o e.name ≡ None → All IsValid xs → e.old ≡ Some old → cut old ≡ old
    → IsDecided i o xs e old line → line.change ≡ c → HasNew e line
new-by i o xs e old line None plain all g h d q = (
  old,
  line-stays i o xs e old line d q,
  ap (λ (w : Option (Place × List ℕ)). record e { old = old_after w e.old }) (none-written e line q)
      ∙ ap (λ (x : Option (List ℕ)). record e { old = x }) g,
)
new-by i o xs e old line (Some kind) plain all g h d q =
    let new = (decision o (case_for o e old d.near d.far)).new in
    let new_is : line.new ≡ Some new = ap (λ (l : Line). l.new) d.is in (
      new,
      new_is,
      ap (λ (w : Option (Place × List ℕ)). record e { old = old_after w e.old })
          (some-written e old line kind new g q new_is)
          ∙ ap (λ (x : List ℕ). record e { old = Some x })
          (decided-whole o xs e old d.near d.far plain all h d.compatible d.latest),
    )

-- ---- decided again

-- an option has one text
some-same : (a b : List ℕ) → Some a ≡ Some b → a ≡ b
some-same a b h = cc h

-- one entry, decided on the requirement that its row left
entry-again : (i : ℕ) (o : Options) (xs : List Parts) (e : RowEntry) (old : List ℕ) (line next : Line)
    (new : List ℕ)
    → requirement_for o e.name ≡ None → All IsValid xs
    → IsDecided i o (versions_within (level_in o e.name) old xs) e old line → line.new ≡ Some new
    → IsDecided i o (versions_within (level_in o e.name) new xs) (record e { old = Some new }) new next
    → next.change ≡ None
entry-again i o xs e old line next new plain all d n g =
    let x = is_excluded o e.name in
    let r = is_some e.rename in
    let first = decision o (case_of x r o.never_lower old d.near d.far) in
    let is : (decision o (case_for o e old d.near d.far)).new ≡ first.new
    = ap (λ (k : Case). (decision o k).new) (case-plain o e old d.near d.far plain) in
    let text : new ≡ first.new
    = some-same new first.new (sym n ∙ ap (λ (l : Line). l.new) d.is ∙ ap (λ (t : List ℕ). Some t) is) in
    let near = subst (λ (t : List ℕ). IsCompatible t (versions_within (level_in o e.name) t xs) g.near) text
    g.compatible in
    let far = subst (λ (t : List ℕ). IsLatest t (versions_within (level_in o e.name) t xs) g.far) text g.latest in
    ap (λ (l : Line). l.change) g.is
    ∙ ap (λ (k : Case). (decision o k).change) (case-plain o e new g.near g.far plain)
    ∙ ap (λ (t : List ℕ). (decision o (case_of x r o.never_lower t g.near g.far)).change) text
    ∙ again o (level_in o e.name) x r o.never_lower xs old d.near d.far g.near g.far all d.compatible d.latest near far

pub one-named : (e : RowEntry) (named other : Option (List ℕ)) → e.source ≡ at_registry named
    → e.source ≡ at_registry other → named ≡ other
one-named e named other p q = source-inj named other (sym p ∙ q)
  where
    source-inj : (a b : Option (List ℕ)) → at_registry a ≡ at_registry b → a ≡ b
    source-inj a b h = cc h

-- the address that an entry needs is one
pub one-address : (configs : List Config) (e : RowEntry) (a b : url.Parts) (n m : List ℕ)
    → Needs configs e a n
    → Needs configs e b m → a ≡ b
one-address configs e a b n m x y =
    let has = subst (λ (r : Option (List ℕ)). HasAddress configs r b)
    (one-named e y.named x.named y.source x.source) y.has in
    one_url configs x.named a b x.has has

-- an entry of a registry is not one from elsewhere
pub not-both : (e : RowEntry) (named : Option (List ℕ)) → e.source ≡ at_registry named
    → is_elsewhere e.source ≡ true → ⊥
not-both e named p q = cc (sym (ap is_elsewhere p) ∙ q)

-- the versions that may be taken for an entry are the same
same-versions : (s : Setting) (e : RowEntry) (xs ys : List Parts) → AreVersionsFor (basis_of s) e xs
    → AreVersionsFor (basis_of s) e ys → xs ≡ ys
same-versions s e xs ys (at_address a needs are) (at_address b need is) =
    are ∙ ap (λ (u : url.Parts). lookup_versions s.rust s.lookups (serialize u) e.name)
    (one-address s.configs e a b e.name e.name needs need) ∙ sym is
same-versions s e xs ys (at_address a needs are) (elsewhere other none) =
    absurd (not-both e needs.named needs.source other)
same-versions s e xs ys (elsewhere other none) (at_address b need is) =
    absurd (not-both e need.named need.source other)
same-versions s e xs ys (elsewhere other none) (elsewhere more nothing) = none ∙ sym nothing

-- one entry by its requirement, where it has one
row-again : (s : Setting) (e : RowEntry) (o : Option (List ℕ)) (l m : Line)
    → requirement_for s.options e.name ≡ None → ((old : List ℕ) → e.old ≡ Some old → cut old ≡ old)
    → e.old ≡ o → IsRow s e l
    → IsRow s (renew e l) m → m.change ≡ None
row-again s e None l m plain h q d g =
    let quiet : l.change ≡ None = ap (λ (x : Line). x.change)
    (subst (λ (x : Option (List ℕ)). IsRowOver s.input s.options d.versions e x l) q d.decided) in
    let old : (renew e l).old ≡ None = ap (λ (w : Option (Place × List ℕ)). old_after w e.old)
    (none-written e l quiet) ∙ q in
    ap (λ (x : Line). x.change)
    (subst (λ (x : Option (List ℕ)). IsRowOver s.input s.options g.versions (renew e l) x m) old g.decided)
row-again s e (Some old) l m plain h q d g =
    let first = subst (λ (x : Option (List ℕ)). IsRowOver s.input s.options d.versions e x l) q d.decided in
    let valid = offered-valid s e d.versions d.offered in
    let n = new-by s.input s.options (versions_within (level_in s.options e.name) old d.versions) e old l l.change plain
    (valid-within (level_in s.options e.name) old d.versions valid) q (h old q) first refl in
    let next : RowEntry = record e { old = Some n.0 } in
    let row = subst (λ (x : RowEntry). IsRow s x m) n.2 g in
    let same = same-versions s next row.versions d.versions row.offered
    (other-versions (basis_of s) e next d.versions refl refl d.offered) in
    let again = subst (λ (ys : List Parts). IsDecided s.input s.options
    (versions_within (level_in s.options e.name) n.0 ys) next n.0 m) same row.decided in
    entry-again s.input s.options d.versions e old l m n.0 plain valid first n.1 again

-- all entries, decided on the requirements that their rows left
pub all-again : (s : Setting) (es : List RowEntry) (ls ms : List Line)
    → ((name : List ℕ) → requirement_for s.options name ≡ None)
    → AllByRecursion (λ e. (old : List ℕ) → e.old ≡ Some old → cut old ≡ old) es
    → AllZip (IsRow s) es ls → AllZip (IsRow s) (renewed es ls) ms → All HasNoChange ms
all-again s [] [] [] plain h d g = All-nil HasNoChange
all-again s [] [] (m ∷ ms) plain h d g = absurd g
all-again s [] (l ∷ ls) ms plain h d g = absurd d
all-again s (e ∷ es) [] ms plain h d g = absurd d
all-again s (e ∷ es) (l ∷ ls) [] plain h d g = absurd g
all-again s (e ∷ es) (l ∷ ls) (m ∷ ms) plain h d g =
    All-cons HasNoChange m ms (row-again s e e.old l m (plain e.name) h.0 refl d.0 g.0)
    (all-again s es ls ms plain h.1 d.1 g.1)
