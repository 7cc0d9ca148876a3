-- The steps of the walk over tokens, as the code takes them.
use Rattle.std.proofs.Common.{◌≡◌, ℕ, Bool, true, List, [], ◌∷◌, ◌++◌, length, Option, Some, None, is_some, Result, Ok, Err, refl, sym, ap, ap₂, subst, ◌∙◌}
use Rattle.std.specs.Prelude.{IfOk, option_map, option_to_list, map}
use Rattle.std.proofs.lemmas.List.{map-append}
use Rattle.edit_tree.specs.declared.nodes.Node.{Node}
use Rattle.edit_syntax.specs.declared.span.Span.{Span}
use Rattle.edit_tree.specs.declared.nodes.DecodedText.{DecodedText}
use Rattle.edit_tree.specs.declared.nodes.DefinedBy.{DefinedBy}
use Rattle.edit_tree.specs.declared.nodes.DefinedBy.TheVariants.{Dotted, Value, Super, Header, Array, Element}
use Rattle.edit_tree.specs.declared.walk.Walk.{Walk}
use Rattle.edit_syntax.specs.Reading.{◌>>=◌}
use Rattle.edit_tree.specs.Nodes.{Shape, section, sections, ModelNode, bytes_of, RepresentsNodes}
use Rattle.edit_tree.specs.Walk.{State, last_of, member_defined, element_added, front_shape, fronts_followed, with_key_part, without_pending, is_dotted_within, pending_defined, value_added_below, value_added_at, value_opened, with_only_table, table_opened, array_table_opened}
use Rattle.edit_tree.specs.WalkState.{HasNodeAt, Walks, HasNextState, HasDefinedState}

pub if_ok_map : {A E : Type 0} {P Q : A → Type 0} (r : Result A E) → IfOk r P → ((x : A) → P x → Q x)
    → IfOk r Q
if_ok_map (Ok x) h f = f x h
if_ok_map (Err e) h f = tt

-- ---- names and keys

-- the names of the front parts are those behind the ones that waited
pub awaits : {text : List ℕ} (old walk : Walk) (st : State) (name : DecodedText) → Walks text old st
    → walk.nodes.items ≡ old.nodes.items → walk.tables.items ≡ old.tables.items
    → walk.fronts.items ≡ old.fronts.items ++ option_to_list old.name → walk.name ≡ Some name
    → Walks text walk (with_key_part st (bytes_of text name))
awaits {text} old walk st name w ns ts fs n = record {
  holds = subst (λ (xs : List Node). RepresentsNodes text xs st.models) (sym ns) w.holds;
  tables = ts ∙ w.tables;
  fronts =
      ap (map (bytes_of text)) fs ∙ map-append (bytes_of text) old.fronts.items (option_to_list old.name)
      ∙ ap₂ (λ (a : List (List ℕ)) (b : List (List ℕ)). a ++ b) w.fronts
      (listed old.name ∙ ap option_to_list w.name);
  name = ap (option_map (bytes_of text)) n;
}
  where
    listed : (o : Option DecodedText) → map (bytes_of text) (option_to_list o)
        ≡ option_to_list (option_map (bytes_of text) o)
    listed None = refl
    listed (Some s) = refl

pub settled_is : (st : State) (number : ℕ) (front : DefinedBy) (shape : Shape) (taken : DefinedBy)
    (span : Option Span) (name : List ℕ) → st.name ≡ Some name
    → pending_defined st number front shape taken span
    ≡ (fronts_followed st.models number st.fronts
    (front_shape (is_dotted_within (length st.tables) front)) front >>= λ r.
    member_defined r.0 r.1 name shape taken span >>= λ q. Some (without_pending q.0 st.tables, q.1))
unfolding pending_defined
settled_is st number front shape taken span name n =
    ap (λ (o : Option (List ℕ)). o >>= λ x. fronts_followed st.models number st.fronts
    (front_shape (is_dotted_within (length st.tables) front)) front >>= λ r.
    member_defined r.0 r.1 x shape taken span >>= λ q. Some (without_pending q.0 st.tables, q.1)) n

pub settled_unnamed : (st : State) (number : ℕ) (front : DefinedBy) (shape : Shape) (taken : DefinedBy)
    (span : Option Span) → st.name ≡ None → pending_defined st number front shape taken span ≡ None
unfolding pending_defined
settled_unnamed st number front shape taken span n = rw n refl

-- the table of a key is reached, or it is not
pub reach_of : (text : List ℕ) (nodes : List Node) (st : State) (number : ℕ) (names : List (List ℕ))
    (within : Bool) (front : DefinedBy) (r : Option ℕ) → names ≡ st.fronts
    → within ≡ is_dotted_within (length st.tables) front
    → HasNodeAt text nodes (fronts_followed st.models number names (front_shape within) front) r
    → HasNodeAt text nodes (fronts_followed st.models number st.fronts
    (front_shape (is_dotted_within (length st.tables) front)) front) r
reach_of text nodes st number names within front r a b h =
    subst (λ (ns : List (List ℕ)). HasNodeAt text nodes
    (fronts_followed st.models number ns (front_shape (is_dotted_within (length st.tables) front)) front) r) a
    (subst (λ (x : Bool). HasNodeAt text nodes (fronts_followed st.models number names (front_shape x) front) r) b h)

pub settled_unreached : (st : State) (number : ℕ) (front : DefinedBy) (shape : Shape) (taken : DefinedBy)
    (span : Option Span) (name : List ℕ) → st.name ≡ Some name
    → fronts_followed st.models number st.fronts (front_shape (is_dotted_within (length st.tables) front)) front ≡ None
    → pending_defined st number front shape taken span ≡ None
settled_unreached st number front shape taken span name n none =
    settled_is st number front shape taken span name n ∙
    ap (λ (o : Option (List ModelNode × ℕ)). o >>= λ r. member_defined r.0 r.1 name shape taken span >>= λ q. Some
    (without_pending q.0 st.tables, q.1)) none

pub settles : (text : List ℕ) (walk : Walk) (st : State) (number : ℕ) (front : DefinedBy) (shape : Shape)
    (taken : DefinedBy) (span : Option Span) (name : List ℕ) (models : List ModelNode) (table : ℕ) (r : Option ℕ)
    → st.name ≡ Some name
    → fronts_followed st.models number st.fronts (front_shape (is_dotted_within (length st.tables) front)) front
    ≡ Some (models, table) → walk.tables.items ≡ st.tables → walk.fronts.items ≡ [] → walk.name ≡ None
    → HasNodeAt text walk.nodes.items (member_defined models table name shape taken span) r
    → HasDefinedState text walk (pending_defined st number front shape taken span) r
settles text walk st number front shape taken span name models table r n reach ts fs none puts =
    let first : pending_defined st number front shape taken span
    ≡ (member_defined models table name shape taken span >>= λ q. Some (without_pending q.0 st.tables, q.1)) =
    settled_is st number front shape taken span name n ∙
    ap (λ (o : Option (List ModelNode × ℕ)). o >>= λ x. member_defined x.0 x.1 name shape taken span >>= λ q. Some
    (without_pending q.0 st.tables, q.1)) reach in
    subst (λ (o : Option (State × ℕ)). HasDefinedState text walk o r) (sym first) (go r puts)
  where
    go : (r : Option ℕ) → HasNodeAt text walk.nodes.items (member_defined models table name shape taken span) r
        → HasDefinedState text walk (member_defined models table name shape taken span >>= λ q. Some
        (without_pending q.0 st.tables, q.1)) r
    go None e = ap (λ (o : Option (List ModelNode × ℕ)). o >>= λ q. Some (without_pending q.0 st.tables, q.1)) e
    go (Some k) (made, e, holds) = (
      without_pending made st.tables,
      ap (λ (o : Option (List ModelNode × ℕ)). o >>= λ q. Some (without_pending q.0 st.tables, q.1)) e,
      record {
        holds = holds;
        tables = ts;
        fronts = ap (map (bytes_of text)) fs;
        name = ap (option_map (bytes_of text)) none;
      },
    )

pub entered_is : (st : State) (shape : Shape) (span : Option Span) (number : ℕ) (name : List ℕ)
    → last_of st.tables ≡ Some number → st.name ≡ Some name
    → value_added_at st shape span ≡ pending_defined st number Dotted shape Value span
entered_is st shape span number name t n =
    ap (λ (o : Option ℕ). o >>= λ k. value_added_below st.name st k shape span) t ∙
    ap (λ (o : Option (List ℕ)). value_added_below o st number shape span) n

abbrev models_of_state : State → List ModelNode × ℕ → Option (State × ℕ)
models_of_state st q = Some (record st { models = q.0 }, q.1)

-- where no key waits an element stands in the innermost array
pub enters_element : (st : State) (shape : Shape) (span : Option Span) (number : ℕ)
    → last_of st.tables ≡ Some number → st.name ≡ None → value_added_at st shape span
    ≡ (element_added st.models number shape Value span >>= λ q. models_of_state st q)
enters_element st shape span number t n =
    ap (λ (o : Option ℕ). o >>= λ k. value_added_below st.name st k shape span) t ∙
    ap (λ (o : Option (List ℕ)). value_added_below o st number shape span) n

pub settles_element : {text : List ℕ} (old walk : Walk) (st : State) (shape : Shape) (span : Option Span)
    (number : ℕ) (r : Option ℕ) → Walks text old st → last_of old.tables.items ≡ Some number → old.name ≡ None
    → HasNodeAt text walk.nodes.items (element_added st.models number shape Value span) r
    → walk.tables.items ≡ old.tables.items → walk.fronts.items ≡ old.fronts.items → walk.name ≡ old.name
    → HasDefinedState text walk (value_added_at st shape span) r
settles_element {text} old walk st shape span number r w top bare puts ts fs n =
    let name : st.name ≡ None = sym w.name ∙ ap (option_map (bytes_of text)) bare in
    subst (λ (o : Option (State × ℕ)). HasDefinedState text walk o r)
    (sym (enters_element st shape span number (ap last_of (sym w.tables) ∙ top) name)) (go r puts)
  where
    go : (r : Option ℕ) → HasNodeAt text walk.nodes.items (element_added st.models number shape Value span) r
        → HasDefinedState text walk (element_added st.models number shape Value span >>= λ q. models_of_state st q) r
    go None e = ap (λ (o : Option (List ModelNode × ℕ)). o >>= λ q. models_of_state st q) e
    go (Some k) (made, e, holds) = (
      record st { models = made },
      ap (λ (o : Option (List ModelNode × ℕ)). o >>= λ q. models_of_state st q) e,
      record {
        holds = holds;
        tables = ts ∙ w.tables;
        fronts = ap (map (bytes_of text)) fs ∙ w.fronts;
        name = ap (option_map (bytes_of text)) n ∙ w.name;
      },
    )

-- where a key waits it settles
pub settles_named : {text : List ℕ} (old walk : Walk) (st : State) (shape : Shape) (span : Option Span)
    (number : ℕ) (name : DecodedText) (r : Option ℕ) → Walks text old st → last_of old.tables.items ≡ Some number
    → old.name ≡ Some name → HasDefinedState text walk (pending_defined st number Dotted shape Value span) r
    → HasDefinedState text walk (value_added_at st shape span) r
settles_named {text} old walk st shape span number name r w top waits settles =
    let named : st.name ≡ Some (bytes_of text name) = sym w.name ∙ ap (option_map (bytes_of text)) waits in
    subst (λ (o : Option (State × ℕ)). HasDefinedState text walk o r)
    (sym (entered_is st shape span number (bytes_of text name) (ap last_of (sym w.tables) ∙ top) named))
    settles

pub goes_settled : (text : List ℕ) (walk : Walk) (o : Option (State × ℕ)) (r : Option ℕ)
    → HasDefinedState text walk o r → HasNextState text walk (o >>= λ q. Some q.0) (is_some r)
goes_settled text walk o None e = ap (λ (x : Option (State × ℕ)). x >>= λ q. Some q.0) e
goes_settled text walk o (Some k) (st, e, w) = (st, ap (λ (x : Option (State × ℕ)). x >>= λ q. Some q.0) e, w)

-- an array or an inline table is innermost
pub goes_opened : (text : List ℕ) (middle walk : Walk) (st : State) (shape : Shape) (span : Option Span)
    (number : ℕ) → HasDefinedState text middle (value_added_at st shape span) (Some number)
    → walk.nodes.items ≡ middle.nodes.items → walk.tables.items ≡ middle.tables.items ++ number ∷ []
    → walk.fronts.items ≡ middle.fronts.items → walk.name ≡ middle.name
    → HasNextState text walk (value_opened st shape span) true
goes_opened text middle walk st shape span number (next, e, w) ns ts fs n = (
  record next { tables = next.tables ++ number ∷ [] },
  ap (λ (o : Option (State × ℕ)). o >>= λ r. Some (record r.0 { tables = r.0.tables ++ r.1 ∷ [] })) e,
  record {
    holds = subst (λ (xs : List Node). RepresentsNodes text xs next.models) (sym ns) w.holds;
    tables = ts ∙ ap (λ (xs : List ℕ). xs ++ number ∷ []) w.tables;
    fronts = ap (map (bytes_of text)) fs ∙ w.fronts;
    name = ap (option_map (bytes_of text)) n ∙ w.name;
  },
)

pub opened_refused : (text : List ℕ) (middle : Walk) (st : State) (shape : Shape) (span : Option Span)
    → HasDefinedState text middle (value_added_at st shape span) None → value_opened st shape span ≡ None
opened_refused text middle st shape span e =
    ap (λ (o : Option (State × ℕ)). o >>= λ r. Some (record r.0 { tables = r.0.tables ++ r.1 ∷ [] })) e

-- one table is open
pub turns : {text : List ℕ} (old walk : Walk) (st : State) (number : ℕ) → Walks text old st
    → walk.nodes.items ≡ old.nodes.items → walk.tables.items ≡ number ∷ []
    → walk.fronts.items ≡ old.fronts.items → walk.name ≡ old.name
    → Walks text walk (record st { tables = number ∷ [] })
turns {text} old walk st number w ns ts fs n = record {
  holds = subst (λ (xs : List Node). RepresentsNodes text xs st.models) (sym ns) w.holds;
  tables = ts;
  fronts = ap (map (bytes_of text)) fs ∙ w.fronts;
  name = ap (option_map (bytes_of text)) n ∙ w.name;
}

pub goes_headed : (text : List ℕ) (middle walk : Walk) (st : State) (number : ℕ)
    → HasDefinedState text middle (pending_defined st 0 Super section Header None) (Some number)
    → ((s : State) → Walks text middle s → Walks text walk (record s { tables = number ∷ [] }))
    → HasNextState text walk (table_opened st) true
goes_headed text middle walk st number (next, e, w) turn =
    (with_only_table (next, number), ap (λ (o : Option (State × ℕ)). o >>= λ r. Some (with_only_table r)) e, turn next w)

pub headed_refused : (text : List ℕ) (middle : Walk) (st : State)
    → HasDefinedState text middle (pending_defined st 0 Super section Header None) None
    → table_opened st ≡ None
headed_refused text middle st e = ap (λ (o : Option (State × ℕ)). o >>= λ r. Some (with_only_table r)) e

abbrev pub with_element_of : State × ℕ → Option State
with_element_of r = element_added r.0.models r.1 section Element None >>= λ q. Some
    (with_only_table (record r.0 { models = q.0 }, q.1))

pub element_unheaded : (text : List ℕ) (middle : Walk) (st : State)
    → HasDefinedState text middle (pending_defined st 0 Super sections Array None) None
    → array_table_opened st ≡ None
element_unheaded text middle st e = ap (λ (o : Option (State × ℕ)). o >>= λ r. with_element_of r) e

pub element_refused : (text : List ℕ) (middle : Walk) (nodes : List Node) (st : State) (number : ℕ)
    → HasDefinedState text middle (pending_defined st 0 Super sections Array None) (Some number)
    → ((models : List ModelNode) → RepresentsNodes text middle.nodes.items models
    → HasNodeAt text nodes (element_added models number section Element None) None) → array_table_opened st ≡ None
element_refused text middle nodes st number (next, e, w) stops =
    ap (λ (o : Option (State × ℕ)). o >>= λ r. with_element_of r) e ∙
    ap (λ (o : Option (List ModelNode × ℕ)). o >>= λ q. Some (with_only_table (record next { models = q.0 }, q.1)))
    (stops next.models w.holds)

pub goes_element : (text : List ℕ) (middle walk : Walk) (nodes : Walk) (st : State) (number element : ℕ)
    → HasDefinedState text middle (pending_defined st 0 Super sections Array None) (Some number)
    → ((models : List ModelNode) → RepresentsNodes text middle.nodes.items models
    → HasNodeAt text nodes.nodes.items (element_added models number section Element None) (Some element))
    → nodes.tables.items ≡ middle.tables.items → nodes.fronts.items ≡ middle.fronts.items
    → nodes.name ≡ middle.name
    → ((s : State) → Walks text nodes s → Walks text walk (record s { tables = element ∷ [] }))
    → HasNextState text walk (array_table_opened st) true
goes_element text middle walk nodes st number element (next, e, w) puts ts fs n turn =
    let p = puts next.models w.holds in
    let inner : Walks text nodes (record next { models = p.0 }) =
    record {
      holds = p.2;
      tables = ts ∙ w.tables;
      fronts = ap (map (bytes_of text)) fs ∙ w.fronts;
      name = ap (option_map (bytes_of text)) n ∙ w.name;
    } in (
      with_only_table (record next { models = p.0 }, element),
      ap (λ (o : Option (State × ℕ)). o >>= λ r. with_element_of r) e ∙
          ap (λ (o : Option (List ModelNode × ℕ)). o >>= λ q. Some (with_only_table (record next { models = q.0 }, q.1)))
          p.1,
      turn (record next { models = p.0 }) inner,
    )
