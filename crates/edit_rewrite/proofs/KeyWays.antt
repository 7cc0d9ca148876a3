-- Following the tokens of a key.
use Rattle.std.proofs.Common.{◌≡◌, ℕ, suc, ◌+◌, ◌-◌, Bool, true, false, cond, List, [], ◌∷◌, ◌++◌, length, take, drop, get_or, Option, Some, None, refl, sym, ap, subst, ◌∙◌, append_assoc, true≢false, arith}
use Rattle.std.specs.Prelude.{map, option_map, slice_get, IsUtf8}
use Rattle.std.proofs.Math.Seq.{take-length}
use Rattle.edit_syntax.proofs.ListElements.{drop_from}
use Rattle.std.specs.List.{AllByRecursion}
use Rattle.std.proofs.lemmas.Option.{same_Some}
use Rattle.edit_syntax.specs.declared.read.syntax_tokens.SyntaxToken.{SyntaxToken}
use Rattle.edit_syntax.specs.Characters.{is_blank, All}
use Rattle.edit_syntax.specs.Strings.{Part, bare, basic_part, literal_part, part, IsPart, name, Dotted, dotted, Key, IsKey}
use Rattle.edit_syntax.specs.Strings as strings
use Rattle.edit_syntax.specs.SyntaxTokens.{part_kind, token_of_part, tokens_of_dotted, tokens_of_key}
use Rattle.edit_rewrite.specs.declared.path_matching.PathMatch.{PathMatch}
use Rattle.edit_tree.specs.Assertions.{key, Place, at, same_place, Assertion, names, named, last_element_or_self, header_place}
use Rattle.edit_tree.specs.EditBytes.{unresolved}
use Rattle.edit_tree.specs.Statements.{Named, dotted_parts, parts, front_parts, behind_part}
use Rattle.edit_tree.specs.Walk.{token_value}
use Rattle.edit_tree.specs.WalkState.{IsDecodedAt, has_token_value}
use Rattle.edit_rewrite.specs.Entries.{path_match, extend_path_match, is_at, last_element_match, is_part, begins_part, kind_after_key, AreParts, Follows, key_target, FollowsKey}
use Rattle.edit_tree.proofs.Ends.{Ends, ends_past, ends_one, ends_part}
use Rattle.edit_tree.proofs.WalkedTokens.{said_part}
use Rattle.edit_document.proofs.TextTokens.{part_token}
use Rattle.edit_rewrite.proofs.Ways.{way_at, same_is}

-- ---- the tokens of a key

part_says : (bytes : List ℕ) (p : Part) (rest : List ℕ) → IsPart p → IsUtf8 bytes → Ends bytes (part p rest)
    → IsDecodedAt bytes (token_of_part p rest) (name p)
part_says bytes p rest h u ends = go (part_token bytes p rest h u ends (kind_said p))
  where
    kind_said : (p : Part) → has_token_value (part_kind p) ≡ true
    kind_said (bare text) = refl
    kind_said (basic_part ps) = refl
    kind_said (literal_part text) = refl

    go : (n : List ℕ) × (token_value bytes (token_of_part p rest) ≡ Some n) × IsDecodedAt bytes (token_of_part p rest) n
        → IsDecodedAt bytes (token_of_part p rest) (name p)
    go t = subst (IsDecodedAt bytes (token_of_part p rest))
        (same_Some _ _ (sym t.1 ∙ said_part bytes p rest h u ends)) t.2

pub kind_part : (p : Part) → is_part (part_kind p) ≡ true
kind_part (bare text) = refl
kind_part (basic_part ps) = refl
kind_part (literal_part text) = refl

abbrev IsDotted : Dotted → Type 0
IsDotted d = All is_blank d.before × All is_blank d.behind × IsPart d.part

dotted_are : (bytes : List ℕ) (ds : List Dotted) (rest : List ℕ) (others : List SyntaxToken)
    → AllByRecursion IsDotted ds → IsUtf8 bytes → Ends bytes (dotted ds rest) → begins_part others ≡ false
    → AreParts bytes (dotted_parts ds rest) (tokens_of_dotted ds rest ++ others)
dotted_are bytes [] rest others h u ends over = over
dotted_are bytes (d ∷ ds) rest others h u ends over =
    let here : Ends bytes (part d.part (dotted ds rest)) =
    ends_past bytes d.behind (part d.part (dotted ds rest))
    (ends_one bytes 46 (d.behind ++ part d.part (dotted ds rest))
    (ends_past bytes d.before (46 ∷ (d.behind ++ part d.part (dotted ds rest))) ends)) in (
      kind_part d.part,
      part_says bytes d.part (dotted ds rest) h.0.2 u here,
      refl,
      dotted_are bytes ds rest others h.1 u (ends_part bytes d.part (dotted ds rest) here) over,
    )

pub key_are : (bytes : List ℕ) (k : Key) (rest : List ℕ) (others : List SyntaxToken) → IsKey k → IsUtf8 bytes
    → Ends bytes (strings.key k rest) → begins_part others ≡ false
    → AreParts bytes (parts k rest) (tokens_of_key k rest ++ others)
key_are bytes k rest others h u ends over = (
  kind_part k.first,
  part_says bytes k.first (dotted k.others rest) h.0 u ends,
  refl,
  dotted_are bytes k.others rest others h.1 u (ends_part bytes k.first (dotted k.others rest) ends) over,
)

-- ---- the way

pub no_parts : {A : Type 0} (bytes : List ℕ) (n : Named) (ns : List Named) (ms : List SyntaxToken) → ms ≡ []
    → AreParts bytes (n ∷ ns) ms → A
no_parts bytes n ns [] e h = absurd h
no_parts bytes n ns (m ∷ ms) e h = absurd cc

step_is : (target table : Place) (n : List ℕ) (start here : PathMatch) (said : List ℕ)
    → start ≡ path_match target table
    → said ≡ n → here ≡ extend_path_match target start (key said)
    → here ≡ path_match target (at table (key n))
step_is target table n start here said begins same is =
    is ∙ ap (λ (w : PathMatch). extend_path_match target w (key said)) begins ∙
    ap (λ (x : List ℕ). extend_path_match target (path_match target table) (key x)) same ∙ sym (way_at target table (key n))

-- the last part of a key
pub last_along : (bytes : List ℕ) (target : Place) (resolve : Place → Place) (table : Place) (n : Named)
    (ns : List Named) (m : SyntaxToken) (ms : List SyntaxToken) (start here : PathMatch) (said : List ℕ)
    → AreParts bytes (n ∷ ns) (m ∷ ms) → begins_part ms ≡ false → start ≡ path_match target table → said ≡ n.0
    → here ≡ extend_path_match target start (key said) → FollowsKey target resolve table (n ∷ ns) (here, None)
last_along bytes target resolve table n [] m ms start here said h over begins same is =
    (step_is target table n.0 start here said begins same is, refl)
last_along bytes target resolve table n (n2 ∷ ns) m [] start here said h over begins same is = absurd h.3
last_along bytes target resolve table n (n2 ∷ ns) m (m2 ∷ ms) start here said h over begins same is =
    absurd (true≢false (sym h.3.0 ∙ over))

-- what is promised of the parts behind the first
abbrev pub Promises : List ℕ → Place → List ℕ → List SyntaxToken → PathMatch → PathMatch × Option ℕ → Type 0
Promises bytes target counts ms next r =
    (table : Place) (resolve : Place → Place) (n : Named) (ns : List Named) → AreParts bytes (n ∷ ns) ms
    → Follows target counts resolve → next ≡ path_match target table
    → FollowsKey target resolve table (n ∷ ns) r

-- a part before others
pub more_along : (bytes : List ℕ) (target : Place) (counts : List ℕ) (resolve : Place → Place) (table : Place)
    (n : Named) (ns : List Named) (m : SyntaxToken) (ms : List SyntaxToken) (start here next : PathMatch) (said : List ℕ)
    (r : PathMatch × Option ℕ)
    → Promises bytes target counts ms next r → AreParts bytes (n ∷ ns) (m ∷ ms) → begins_part ms ≡ true
    → Follows target counts resolve → start ≡ path_match target table → said ≡ n.0
    → here ≡ extend_path_match target start (key said) → next ≡ last_element_match target counts here
    → (c : Bool) → c ≡ is_at (length target) next
    → FollowsKey target resolve table (n ∷ ns) (r.0, cond c (Some m.to) r.1)
more_along bytes target counts resolve table n [] m ms start here next said r rec h more follows begins same
    is goes c at_it = absurd (true≢false (sym more ∙ h.3))
more_along bytes target counts resolve table n (n2 ∷ ns) m ms start here next said r rec h more follows begins
    same is goes c at_it =
    (ways.0, ap (λ b. cond b (Some m.to) r.1) test ∙ go (same_place (resolve (at table (key n.0))) target))
  where
    next_is : next ≡ path_match target (resolve (at table (key n.0)))
    next_is = goes ∙ ap (last_element_match target counts)
        (step_is target table n.0 start here said begins same is) ∙ sym (follows (at table (key n.0)))

    ways : FollowsKey target resolve (resolve (at table (key n.0))) (n2 ∷ ns) r
    ways = rec (resolve (at table (key n.0))) resolve n2 ns h.3 follows next_is

    test : c ≡ same_place (resolve (at table (key n.0))) target
    test = at_it ∙ ap (is_at (length target)) next_is ∙ sym (same_is target (resolve (at table (key n.0))))

    go : (b : Bool) → cond b (Some m.to) r.1 ≡ option_map length
        (cond b (Some n.1) (behind_part resolve target (resolve (at table (key n.0)))
        (front_parts (n2 ∷ ns))))
    go true = ap (λ (k : ℕ). Some k) h.2
    go false = ways.1

-- ---- the same for tokens as a whole

pub says_first : (bytes : List ℕ) (n : Named) (ns : List Named) (tokens : List SyntaxToken) (x : SyntaxToken)
    → AreParts bytes (n ∷ ns) tokens → IsDecodedAt bytes (get_or tokens 0 x) n.0
says_first bytes n ns [] x h = absurd h
says_first bytes n ns (m ∷ ms) x h = h.1

-- the tokens after the first
abbrev pub others : List SyntaxToken → List SyntaxToken
others tokens = take (length tokens - 1) (drop 1 tokens)

others_are : (m : SyntaxToken) (ms : List SyntaxToken) → others (m ∷ ms) ≡ ms
others_are m ms = let k : suc (length ms) - 1 ≡ length ms = omega arith in
    ap (λ (n : ℕ). take n ms) k ∙ take-length ms

pub last_way : (bytes : List ℕ) (target : Place) (resolve : Place → Place) (table : Place) (n : Named)
    (ns : List Named) (tokens : List SyntaxToken) (start here : PathMatch) (said : List ℕ)
    → AreParts bytes (n ∷ ns) tokens → begins_part (others tokens) ≡ false → start ≡ path_match target table
    → said ≡ n.0 → here ≡ extend_path_match target start (key said)
    → FollowsKey target resolve table (n ∷ ns) (here, None)
last_way bytes target resolve table n ns [] start here said h over begins same is = absurd h
last_way bytes target resolve table n ns (x ∷ ms) start here said h over begins same is =
    last_along bytes target resolve table n ns x ms start here said h
    (ap begins_part (sym (others_are x ms)) ∙ over) begins same is

pub more_way : (bytes : List ℕ) (target : Place) (counts : List ℕ) (resolve : Place → Place) (table : Place)
    (n : Named) (ns : List Named) (tokens : List SyntaxToken) (x : SyntaxToken) (start here next : PathMatch) (said : List ℕ)
    (r : PathMatch × Option ℕ)
    → Promises bytes target counts (others tokens) next r → AreParts bytes (n ∷ ns) tokens
    → begins_part (others tokens) ≡ true → Follows target counts resolve → start ≡ path_match target table
    → said ≡ n.0
    → here ≡ extend_path_match target start (key said) → next ≡ last_element_match target counts here
    → (c : Bool) → c ≡ is_at (length target) next
    → FollowsKey target resolve table (n ∷ ns) (r.0, cond c (Some (get_or tokens 0 x).to) r.1)
more_way bytes target counts resolve table n ns [] x start here next said r rec h more follows begins same is
    goes c at_it = absurd h
more_way bytes target counts resolve table n ns
    (m ∷ ms) x start here next said r rec h more follows begins same is goes c at_it =
    more_along bytes target counts resolve table n ns m ms start here next said r
    (subst (λ (xs : List SyntaxToken). Promises bytes target counts xs next r) (others_are m ms) rec) h
    (ap begins_part (sym (others_are m ms)) ∙ more) follows begins same is goes c at_it

-- ---- where a key leads to

abbrev part_names : List Named → List (List ℕ)
part_names ns = map (λ (n : Named). n.0) ns

dotted_names : (ds : List Dotted) (rest : List ℕ) → part_names (dotted_parts ds rest)
    ≡ map (λ (d : Dotted). name d.part) ds
dotted_names [] rest = refl
dotted_names (d ∷ ds) rest = ap (λ (ns : List (List ℕ)). name d.part ∷ ns) (dotted_names ds rest)

names_are : (k : Key) (rest : List ℕ) → part_names (parts k rest) ≡ names k
names_are k rest = ap (λ (ns : List (List ℕ)). name k.first ∷ ns) (dotted_names k.others rest)

led_pair : (table : Place) (ns : List Named) → key_target unresolved table ns ≡ named table (part_names ns)
led_pair table [] = nil table
  where
    nil : (xs : Place) → xs ≡ xs ++ []
    nil [] = refl
    nil (x ∷ xs) = ap (λ (ys : Place). x ∷ ys) (nil xs)
led_pair table (n ∷ []) = refl
led_pair table (n ∷ m ∷ ns) = led_pair (at table (key n.0)) (m ∷ ns) ∙
    append_assoc table (key n.0 ∷ []) (map key (part_names (m ∷ ns)))

-- the key of a pair leads to the place that it names
pub pair_led : (table : Place) (k : Key) (rest : List ℕ)
    → key_target unresolved table (parts k rest) ≡ named table (names k)
pair_led table k rest = led_pair table (parts k rest) ∙ ap (named table) (names_are k rest)

led_header : (earlier : List Assertion) (table : Place) (ns : List Named)
    → key_target (last_element_or_self earlier) table ns ≡ header_place earlier table (part_names ns)
led_header earlier table [] = refl
led_header earlier table (n ∷ []) = refl
led_header earlier table (n ∷ m ∷ ns) = led_header earlier (last_element_or_self earlier (at table (key n.0))) (m ∷ ns)

-- and that of a header
pub header_led : (earlier : List Assertion) (k : Key) (rest : List ℕ)
    → key_target (last_element_or_self earlier) [] (parts k rest) ≡ header_place earlier [] (names k)
header_led earlier k rest = led_header earlier [] (parts k rest) ∙
    ap (header_place earlier []) (names_are k rest)

-- ---- the token after a key

pub head_turn : (tokens : List SyntaxToken) (i : ℕ) (m : SyntaxToken) → slice_get tokens i ≡ Some m
    → is_part m.kind ≡ true
    → kind_after_key (drop i tokens) ≡ kind_after_key (drop (i + 1) tokens)
head_turn tokens i m e p = ap kind_after_key (drop_from tokens i m e) ∙
    ap (λ b. cond b (kind_after_key (drop (i + 1) tokens)) (Some m.kind)) p

pub head_found : (tokens : List SyntaxToken) (i : ℕ) (m : SyntaxToken) → slice_get tokens i ≡ Some m
    → is_part m.kind ≡ false
    → kind_after_key (drop i tokens) ≡ Some m.kind
head_found tokens i m e p = ap kind_after_key (drop_from tokens i m e) ∙
    ap (λ b. cond b (kind_after_key (drop (i + 1) tokens)) (Some m.kind)) p
