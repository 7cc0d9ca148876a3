use Rattle.std.proofs.Common.{◌≡◌, ℕ, List, map, Option, Some, None, Bor, option_map, option_and_then, refl, sym, ap, subst, ◌∙◌, arith}
use Rattle.std.proofs.lemmas.Slice.Eq.{bytes_eq-Decides}
use Rattle.std.specs.List.{AllZip}
use Rattle.std.specs.Prelude.{IfSome, codes}
use Rattle.serde_json.specs.Data.{Data, Items, Members, array, object, put, string}
use Rattle.serde_json.specs.Find.{as_array, as_str, get_member}
use Rattle.edit_json.specs.Reads.{ReadsValue}
use Rattle.edit_json.proofs.PutMemberLemmas.{at_key, off_key, not_key}
use Rattle.edit_metadata.specs.Metadata.{IsText, values}
use Rattle.edit_metadata.specs.Texts.{HasPackageTexts}
use Rattle.edit_metadata.proofs.workspace_texts.read_member.Goals as goal

-- what holds of a text or a list that may be there, by way of what held of it
lift : {A : Type 0} {P Q : A → Type 0} (r : Option A) → ((a : A) → P a → Q a) → IfSome r P → IfSome r Q
lift None f x = x
lift (Some a) f x = f a x

-- a string is unchanged if the value of its name is
text-stays : (r : Option (Bor (List ℕ))) (o q : Option Data) → q ≡ o
    → IfSome r (λ s. option_and_then as_str o ≡ Some s.now) → IfSome r (λ s. option_and_then as_str q ≡ Some s.now)
text-stays r o q same = lift r (λ s is. ap (option_and_then as_str) same ∙ is)

-- the elements of an array are unchanged if the value of its name is
list-stays : {A : Type 0} (Fits : A → List Data → Type 0) (r : Option A) (o q : Option Data) → q ≡ o
    → IfSome r (λ v. (ds : List Data) × (option_map values (option_and_then as_array o) ≡ Some ds) × Fits v ds)
    → IfSome r (λ v. (ds : List Data) × (option_map values (option_and_then as_array q) ≡ Some ds) × Fits v ds)
list-stays Fits r o q same = lift r (λ v is. (is.0, ap (λ x. option_map values (option_and_then as_array x)) same ∙ is.1, is.2))

pub returns-then-eq-clause-value : goal.returns-then-eq-clause-value
returns-then-eq-clause-value c =
    let key : c.args.key.now ≡ codes "workspace_root" = (bytes_eq-Decides c.args.key.now (codes "workspace_root")).0 (sym c.eq.ensures ∙ c.if-eq.true) in
    let d = string c.in-Some.text.now in (
      d,
      c.in-Some.ensures.value 126,
      λ ms says. record {
        root = ap (option_and_then as_str) (at_key (codes "workspace_root") c.args.key.now d ms key);
        ids = list-stays _ c.args.texts.ids (get_member (codes "workspace_members") ms) (get_member (codes "workspace_members") (put c.args.key.now d ms)) (off_key (codes "workspace_members") (codes "workspace_root") c.args.key.now d ms key refl) says.ids;
        packages = list-stays _ c.args.texts.packages (get_member (codes "packages") ms) (get_member (codes "packages") (put c.args.key.now d ms)) (off_key (codes "packages") (codes "workspace_root") c.args.key.now d ms key refl) says.packages;
      },
    )

pub returns-then-eq-2-clause-value : goal.returns-then-eq-2-clause-value
returns-then-eq-2-clause-value c =
    let key : c.args.key.now ≡ codes "workspace_members" = (bytes_eq-Decides c.args.key.now (codes "workspace_members")).0 (sym c.eq-2.ensures ∙ c.if-eq-2.true) in
    let found = subst (λ o. IfSome o (λ v. (ds : Items) × ReadsValue 126 c.args.reader.now (array ds) c.read_texts.new.reader × AllZip IsText (values ds) (map (λ s. s.now) v.items))) c.in-Some-2.is c.in_ok-ids.ensures.value in
    let d = array found.0 in (
      d,
      found.1,
      λ ms says. record {
        root = text-stays c.args.texts.root (get_member (codes "workspace_root") ms) (get_member (codes "workspace_root") (put c.args.key.now d ms)) (off_key (codes "workspace_root") (codes "workspace_members") c.args.key.now d ms key refl) says.root;
        ids = (values found.0, ap (λ x. option_map values (option_and_then as_array x)) (at_key (codes "workspace_members") c.args.key.now d ms key), found.2);
        packages = list-stays _ c.args.texts.packages (get_member (codes "packages") ms) (get_member (codes "packages") (put c.args.key.now d ms)) (off_key (codes "packages") (codes "workspace_members") c.args.key.now d ms key refl) says.packages;
      },
    )

pub returns-then-eq-3-clause-value : goal.returns-then-eq-3-clause-value
returns-then-eq-3-clause-value c =
    let key : c.args.key.now ≡ codes "packages" = (bytes_eq-Decides c.args.key.now (codes "packages")).0 (sym c.eq-3.ensures ∙ c.if-eq-3.true) in
    let found = subst (λ o. IfSome o (λ v. (ds : Items) × ReadsValue 126 c.args.reader.now (array ds) c.read_packages.new.reader × AllZip HasPackageTexts (values ds) v.items)) c.in-Some-3.is c.in_ok-packages.ensures.value in
    let d = array found.0 in (
      d,
      found.1,
      λ ms says. record {
        root = text-stays c.args.texts.root (get_member (codes "workspace_root") ms) (get_member (codes "workspace_root") (put c.args.key.now d ms)) (off_key (codes "workspace_root") (codes "packages") c.args.key.now d ms key refl) says.root;
        ids = list-stays _ c.args.texts.ids (get_member (codes "workspace_members") ms) (get_member (codes "workspace_members") (put c.args.key.now d ms)) (off_key (codes "workspace_members") (codes "packages") c.args.key.now d ms key refl) says.ids;
        packages = (values found.0, ap (λ x. option_map values (option_and_then as_array x)) (at_key (codes "packages") c.args.key.now d ms key), found.2);
      },
    )

pub returns-in-Some-skip_value-clause-value : goal.returns-in-Some-skip_value-clause-value
returns-in-Some-skip_value-clause-value c =
    let skipped = c.in-Some-skip_value.ensures.value in
    let d = skipped.0 in
    let not_root : c.args.key.now ≡ codes "workspace_root" → ⊥ = grind arith in
    let not_ids : c.args.key.now ≡ codes "workspace_members" → ⊥ = grind arith in
    let not_packages : c.args.key.now ≡ codes "packages" → ⊥ = grind arith in (
      d,
      skipped.1,
      λ ms says. record {
        root = text-stays c.args.texts.root (get_member (codes "workspace_root") ms) (get_member (codes "workspace_root") (put c.args.key.now d ms)) (not_key (codes "workspace_root") c.args.key.now d ms not_root) says.root;
        ids = list-stays _ c.args.texts.ids (get_member (codes "workspace_members") ms) (get_member (codes "workspace_members") (put c.args.key.now d ms)) (not_key (codes "workspace_members") c.args.key.now d ms not_ids) says.ids;
        packages = list-stays _ c.args.texts.packages (get_member (codes "packages") ms) (get_member (codes "packages") (put c.args.key.now d ms)) (not_key (codes "packages") c.args.key.now d ms not_packages) says.packages;
      },
    )
