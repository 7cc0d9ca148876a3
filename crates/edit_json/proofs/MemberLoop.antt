-- A loop over the members of an object: the members that were read so far, and the tokens that are left.
use Rattle.std.proofs.Common.{◌≡◌, ℕ, ◌-◌, ◌<◌, ◌≤◌, List, length, Some, None, refl, ◌∙◌, arith}
use Rattle.json.specs.Token.{Token}
use Rattle.json.specs.Json.{members, read_key, value}
use Rattle.json.proofs.Grammar.{read_key-shorter}
use Rattle.serde_json.specs.Data.{Data, Members, no_members, put}
use Rattle.serde_json.specs.Read.{converted, of_members}
use Rattle.edit_json.specs.Reads.{ReadsMembers, ReadsValue}
use Rattle.edit_json.proofs.GrammarLemmas.{member_read, members_over}

-- the members between the first tokens and the second have this property
abbrev pub HasRead : ℕ → (Members → Type 0) → List Token → List Token → Type 0
HasRead depth Shows first reader =
    (n : ℕ) × (length reader ≤ n) × (old : Members)
    × (converted (λ ms. of_members ms no_members) (members (value depth) (length first) first) ≡ converted (λ ms. of_members ms old) (members (value depth) n reader))
    × (length reader ≤ length first) × Shows old

module _ (depth : ℕ) (Shows : Members → Type 0) (first : List Token) where
  pub begin : Shows no_members → HasRead depth Shows first first
  begin none = (length first, omega arith, no_members, refl, omega arith, none)

  -- one more member, after which another property holds
  pub member-more : (reader behind rest : List Token) (key : List ℕ) (d : Data) (After : Members → Type 0)
      → HasRead depth Shows first reader
      → read_key reader ≡ Some (Some key, behind) → ReadsValue depth behind d rest
      → length rest < length behind
      → ((ms : Members) → Shows ms → After (put key d ms)) → HasRead depth After first rest
  member-more reader behind rest key d After so_far named reads less shows =
      let shorter = read_key-shorter reader (Some key) behind named in (
        so_far.0 - 1,
        omega (arith, so_far.1, shorter, less),
        put key d so_far.2,
        so_far.3 ∙ member_read (value depth) so_far.2 so_far.0 key reader behind rest d (omega (arith, so_far.1, shorter, less)) named reads,
        omega (arith, so_far.4, shorter, less),
        shows so_far.2 so_far.5,
      )

  -- the closing brace
  pub over : (reader rest : List Token) → HasRead depth Shows first reader
      → read_key reader ≡ Some (None, rest)
      → (ms : Members) × ReadsMembers depth first ms rest × Shows ms
  over reader rest so_far ended = (
    so_far.2,
    so_far.3 ∙ members_over (value depth) so_far.2 so_far.0 reader rest so_far.1 ended,
    so_far.5,
  )
