-- The names of the options of transfers.
use Rattle.std.proofs.Common.{◌≡◌, ℕ, List, [], ◌∷◌, ◌++◌, Bool, true, Option, Some, None, map, option_map, refl, ◌∙◌, string_bytes}
use Rattle.std.specs.Prelude.{codes}
use Rattle.std.specs.List.{flat_map, list_all}
use Rattle.std.specs.Option.{option_to_list}
use Rattle.std.proofs.lemmas.Bool.{and_from}
use Rattle.std.proofs.lemmas.List.Folds.{list_all-append}
use Rattle.edit_fetch.specs.CurlConfig.{CurlOption, in_a_row, is_option_name, next, options_in, valued, without_nuls}
use Rattle.edit_fetch.specs.Transfers.{common_options, etag_options, file_options, head_options, named_options, protocol_options, redirect_options, requests_text, sent_etag, sent_token, time_options, token_options, transfer_options}
use Rattle.edit_fetch.specs.declared.settings.NetSettings.{NetSettings}
use Rattle.edit_fetch.specs.declared.transfers.Request.{Request}
use Rattle.edit_fetch.proofs.ReadLemmas.{options_read}

-- all options have names
record AreNamed (options : List CurlOption) : Type 0 where
  named : list_all (λ o. is_option_name o.name) options ≡ true

both_named : {xs ys : List CurlOption} → AreNamed xs → AreNamed ys → AreNamed (xs ++ ys)
both_named {xs} {ys} first second =
    let p : CurlOption → Bool = λ o. is_option_name o.name in
    record {
      named = list_all-append p xs ys ∙ and_from (list_all p xs) (list_all p ys) first.named second.named;
    }

files_named : (room : List ℕ) (r : Request) → AreNamed (file_options room r)
unfolding file_options
files_named room r = record { named = refl }

head_named : (room : List ℕ) (r : Request) → AreNamed (head_options room r)
unfolding head_options
head_named room r = record { named = refl }

redirects_named : AreNamed redirect_options
unfolding redirect_options
redirects_named = record { named = refl }

etag_named : (etag : Option (List ℕ)) → AreNamed (etag_options etag)
unfolding etag_options
etag_named None = record { named = refl }
etag_named (Some etag) = record { named = refl }

token_named : (token : Option (List ℕ)) → AreNamed (token_options token)
unfolding token_options
token_named None = record { named = refl }
token_named (Some token) = record { named = refl }

protocols_named : (url : List ℕ) → AreNamed (protocol_options url)
unfolding protocol_options
protocols_named url = record { named = refl }

common_named : AreNamed common_options
unfolding common_options
common_named = record { named = refl }

times_named : (settings : NetSettings) → AreNamed (time_options settings)
unfolding time_options
times_named settings = record { named = refl }

settings_named : (settings : NetSettings) → AreNamed (named_options settings)
unfolding named_options
settings_named settings = both_named
    (elim settings.proxy as (λ o. AreNamed (option_to_list
    (option_map (λ p. valued (codes "proxy") (string_bytes p)) o)))
    [ None ↦ record { named = refl } | Some p ↦ record { named = refl } ])
    (elim settings.cainfo as (λ o. AreNamed (option_to_list
    (option_map (λ c. valued (codes "cacert") (string_bytes c)) o)))
    [ None ↦ record { named = refl } | Some c ↦ record { named = refl } ])

transfer_named : (settings : NetSettings) (room : List ℕ) (r : Request)
    → AreNamed (transfer_options settings room r)
unfolding transfer_options
transfer_named settings room r =
    both_named (files_named room r)
    (both_named (head_named room r)
    (both_named (etag_named (sent_etag r))
    (both_named redirects_named
    (both_named (token_named (sent_token r))
    (both_named (protocols_named r.url.items)
    (both_named common_named
    (both_named (times_named settings) (settings_named settings))))))))

later_named : (settings : NetSettings) (room : List ℕ) (rs : List Request)
    → AreNamed (flat_map (λ options. (next ∷ []) ++ options) (map (transfer_options settings room) rs))
later_named settings room [] = record { named = refl }
later_named settings room (r ∷ rs) =
    both_named {xs = next ∷ transfer_options settings room r}
    (record { named = (transfer_named settings room r).named }) (later_named settings room rs)

row_named : (settings : NetSettings) (room : List ℕ) (rs : List Request)
    → AreNamed (in_a_row (map (transfer_options settings room) rs))
row_named settings room [] = record { named = refl }
row_named settings room (r ∷ rs) =
    both_named (transfer_named settings room r) (later_named settings room rs)

-- curl reads the options of the transfers, and no others
pub requests_read : (settings : NetSettings) (room : List ℕ) (rs : List Request)
    → options_in (requests_text settings room rs)
    ≡ map without_nuls (in_a_row (map (transfer_options settings room) rs))
requests_read settings room rs =
    options_read (in_a_row (map (transfer_options settings room) rs)) (row_named settings room rs).named
