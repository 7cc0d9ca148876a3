-- The settings of several sources, with one source more at the end.
use Rattle.std.proofs.Common.{◌≡◌, ◌<◌, ◌+◌, ℕ, List, [], ◌∷◌, ◌++◌, Option, Some, None, length, take, get_or, refl, ap, string_bytes, sym, ◌∙◌, subst}
use Rattle.std.specs.List.{AllZip}
use Rattle.std.specs.Option.{option_or}
use Rattle.std.proofs.lemmas.List.{take_more}
use Rattle.std.proofs.lemmas.Slice.Zip.{all_zipped_more}
use Rattle.edit_fetch.specs.Settings.{AreReadAt, IsReadAt, Values, first_values, merge_values}
use Rattle.edit_sources.specs.declared.config.Config.{Config}
use Rattle.edit_store.specs.Store.{Files}

or_none : {A : Type 0} (x : Option A) → option_or x None ≡ x
or_none None = refl
or_none (Some x) = refl

or_assoc : {A : Type 0} (x y z : Option A) → option_or x (option_or y z) ≡ option_or (option_or x y) z
or_assoc None y z = refl
or_assoc (Some x) y z = refl

same_values : (a b : Values) → a.offline ≡ b.offline → a.retry ≡ b.retry → a.timeout ≡ b.timeout
    → a.proxy ≡ b.proxy → a.cainfo ≡ b.cainfo → a ≡ b
same_values a b offline retry timeout proxy cainfo =
    ap (λ x. record a { offline = x }) offline
    ∙ ap (λ x. record a { offline = b.offline; retry = x }) retry
    ∙ ap (λ x. record a { offline = b.offline; retry = b.retry; timeout = x }) timeout
    ∙ ap (λ x. record b { proxy = x; cainfo = a.cainfo }) proxy
    ∙ ap (λ x. record b { cainfo = x }) cainfo

first_values_push : (xs : List Values) (v : Values)
    → first_values (xs ++ v ∷ []) ≡ merge_values (first_values xs) v
first_values_push [] v = same_values _ _ (or_none v.offline) (or_none v.retry) (or_none v.timeout)
    (or_none v.proxy) (or_none v.cainfo)
first_values_push (x ∷ xs) v =
    let all = first_values xs in
    ap (merge_values x) (first_values_push xs v)
    ∙ same_values _ _ (or_assoc x.offline all.offline v.offline) (or_assoc x.retry all.retry v.retry)
    (or_assoc x.timeout all.timeout v.timeout) (or_assoc x.proxy all.proxy v.proxy)
    (or_assoc x.cainfo all.cainfo v.cainfo)

-- the settings that were read so far: those of the environment, and those of the files of these
-- configurations
pub record ReadSoFar (files : Files) (configs : List Config) (own now : Values) : Type 0 where
  pub later : List Values
  pub read : AreReadAt files configs later
  pub first : now ≡ first_values (own ∷ later)

pub read_none : (files : Files) (own : Values) → ReadSoFar files [] own own
read_none files own = record { later = []; read = tt; first = sym (first_values_push [] own) }

pub read_more : (files : Files) (configs : List Config) (i : ℕ) (c : Config) (own old new v : Values)
    → i < length configs → c ≡ get_or configs i c → ReadSoFar files (take i configs) own old
    → IsReadAt (string_bytes c.path) (files (string_bytes c.path)) v → new ≡ merge_values old v
    → ReadSoFar files (take (i + 1) configs) own new
read_more files configs i c own old new v within is so_far read items =
    let R : Config → Values → Type 0
    = λ d w. IsReadAt (string_bytes d.path) (files (string_bytes d.path)) w in
    let more : take (i + 1) configs ≡ take i configs ++ c ∷ [] = take_more configs i c within
    ∙ ap (λ d. take i configs ++ d ∷ []) (sym is) in
    record {
      later = so_far.later ++ v ∷ [];
      read = subst (λ cs. AllZip R cs (so_far.later ++ v ∷ [])) (sym more)
          (all_zipped_more R (take i configs) so_far.later c v so_far.read read);
      first = items ∙ ap (λ x. merge_values x v) so_far.first
          ∙ sym (first_values_push (own ∷ so_far.later) v);
    }
