use Rattle.std.proofs.Common.{◌≡◌, ◌≤◌, ◌∙◌, ◌++◌, [], ◌∷◌, Bool, List, ap, false, length, map, refl, rules, string_bytes, subst, sym, take, true}
use Rattle.std.specs.Prelude.{◌&&◌, if◌then◌else◌, not}
use Rattle.std.specs.List.{flat_map, list_any}
use Rattle.std.specs.Str.{bytes_eq}
use Rattle.std.proofs.lemmas.List.{append-nil, map-append, take_all}
use Rattle.edit_fetch.specs.Addressless.{is_addressless, place_in, place_of, sources_in, without_address}
use Rattle.edit_fetch.specs.declared.addressless.AddresslessSource.{AddresslessSource}
use Rattle.edit_fetch.proofs.AddresslessOrder.{listed_so_far, next_file}
use Rattle.edit_fetch.proofs.addressless.addressless_sources.Goals as goal
use Rattle.edit_fetch.proofs.addressless.addressless_sources.Goals.{then-is_unlisted+in_ok-push, else-is_unlisted}

pub loop-key-init : goal.loop-key-init
loop-key-init c =
    c.loop-config.invariant
    ∙ ap (without_address c.args.configs.now)
    (sym (append-nil (flat_map sources_in (take c.loop-config.config-index c.args.configs.now))))

pub loop-key-preserved : goal.loop-key-preserved
loop-key-preserved c =
    let config = c.config-item.result in
    let key = c.as_str-key.result.now in
    let found = c.loop-key.found.items in
    let no_url : c.is_unlisted.result
    ≡ (is_addressless c.args.configs.now key && not (list_any (λ o. bytes_eq o.key.now key) found)) =
    c.is_unlisted.ensures
    ∙ ap (λ (listed : List AddresslessSource). is_addressless c.args.configs.now key
    && not (list_any (λ o. bytes_eq o.key.now key) listed)) c.deref.ensures.value in
    listed_so_far c.args.configs.now (flat_map sources_in (take c.loop-config.config-index c.args.configs.now)) config
    c.loop-key.key-index c.deref-key-items.result.now c.loop-key-item.result found c.if-is_unlisted.found.items key
    (string_bytes config.path) c.is_unlisted.result c.deref-key-items.ensures.value c.loop-key-test.true
    c.loop-key-item.is c.as_str-key.ensures.value refl c.loop-key.invariant no_url
    (elim c.if-is_unlisted.branch [
      | then-is_unlisted+in_ok-push w ↦
          let source : AddresslessSource = record { key = c.as_str-key.result; file = w.as_str-file.result } in
          let pushed : c.if-is_unlisted.found.items ≡ found ++ source ∷ [] = search rules in
          let yes : c.is_unlisted.result ≡ true = search rules in
          ap (map place_of) pushed ∙ map-append place_of found (source ∷ [])
          ∙ ap (λ file. map place_of found ++ (key, file) ∷ []) w.as_str-file.ensures.value
          ∙ ap (λ (b : Bool). map place_of found ++ (if b then (key, string_bytes config.path) ∷ [] else []))
          (sym yes)
      | else-is_unlisted w ↦
          let same : c.if-is_unlisted.found.items ≡ found = search rules in
          let no : c.is_unlisted.result ≡ false = search rules in
          ap (map place_of) same ∙ sym (append-nil (map place_of found))
          ∙ ap (λ (b : Bool). map place_of found ++ (if b then (key, string_bytes config.path) ∷ [] else []))
          (sym no)
    ])

pub loop-config-preserved : goal.loop-config-preserved
loop-config-preserved c =
    let config = c.config-item.result in
    let before = flat_map sources_in (take c.loop-config.config-index c.args.configs.now) in
    let all : take c.loop-key.key-index config.sources.items ≡ config.sources.items =
    take_all c.loop-key.key-index config.sources.items
    (subst (λ es. length es ≤ c.loop-key.key-index) c.deref-key-items.ensures.value c.loop-key-test.false) in
    c.loop-key.invariant
    ∙ ap (λ es. without_address c.args.configs.now (before ++ map (place_in config) es)) all
    ∙ ap (without_address c.args.configs.now)
    (next_file c.args.configs.now c.loop-config.config-index config c.loop-config-test.true c.config-item.is)

pub returns : goal.returns
returns c =
    c.loop-config.invariant
    ∙ ap (λ cs. without_address c.args.configs.now (flat_map sources_in cs))
    (take_all c.loop-config.config-index c.args.configs.now c.loop-config-test.false)
