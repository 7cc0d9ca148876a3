-- Parsed arguments, from the rules of the command line.
use Rattle.std.proofs.Common.{◌≡◌, ◌∙◌, ℕ, List, [], Option, Some, None, true, ap, ap₂, inl, inr, refl, subst, sym}
use Rattle.std.specs.Prelude.{option_map}
use Rattle.clap.specs.Words.{App, HasKind, HasMatchesOf, IsAmong, Kinds, Row, Text, fault_of, found_of, is_simple, kind_of, rows_of, subcommand_name_of, subcommand_of, subcommand_rows_of, takes}
use Rattle.clap.specs.declared.error.Error.{Error}
use Rattle.clap.specs.declared.error.kind.ErrorKind.TheVariants.{OutOfMemory}
use Rattle.clap.specs.declared.parser.ArgMatches.{ArgMatches}
use Rattle.clap.specs.declared.parser.matches.ArgMatches.TheViews.{out-ArgMatches}
use Rattle.edit_words.specs.CommandLine.{edit_app}
use Rattle.edit_program.specs.Runs.{IsNotParsed, HasParsedArgs, IsAnswered, HasNoSubcommand, status_of}

-- arguments that are matched are accepted
taken_by : (app : App) (args : List Text) → app ≡ edit_app → fault_of app args ≡ []
    → fault_of edit_app args ≡ []
taken_by app args is taken = ap (λ (a : App). fault_of a args) (sym is) ∙ taken

both_of : (o : Option (Text × List Row)) (name : Text) (rows : List Row)
    → option_map (λ (p : Text × List Row). p.0) o ≡ Some name
    → option_map (λ (p : Text × List Row). p.1) o ≡ Some rows → o ≡ Some (name, rows)
both_of None name rows named same = cc
both_of (Some p) name rows named same =
    let first : p.0 ≡ name = cc in
    let second : p.1 ≡ rows = cc in
    ap (λ (q : Text × List Row). Some q) (ap₂ (λ (n : Text) (r : List Row). (n, r)) first second)

map_map : {A B C : Type 0} (f : A → B) (g : B → C) (o : Option A)
    → option_map g (option_map f o) ≡ option_map (λ a. g (f a)) o
map_map f g None = refl
map_map f g (Some a) = refl

-- the subcommand of the arguments is the one that was matched
met_by : (app : App) (args : List Text) (m : ArgMatches) → app ≡ edit_app → is_simple app ≡ true
    → HasMatchesOf app args m → subcommand_of edit_app args ≡ subcommand_rows_of m
met_by app args m is simple matches =
    ap (λ (a : App). subcommand_of a args) (sym is) ∙ sym (matches simple).1

-- the arguments name this subcommand, and its matches are those that were made
pub entered_by : (app : App) (args : List Text) (m sub : ArgMatches) (name : Text) → app ≡ edit_app
    → is_simple app ≡ true → HasMatchesOf app args m → fault_of app args ≡ []
    → Some name ≡ subcommand_name_of m
    → Some (rows_of (found_of sub)) ≡ option_map (λ (p : Text × List Row). p.1) (subcommand_rows_of m)
    → HasParsedArgs args name (rows_of (found_of sub))
entered_by app args m sub name is simple matches taken named rows =
    let alike : option_map (λ (p : Text × List Row). p.0) (subcommand_rows_of m) ≡ subcommand_name_of m =
    map_map _ _ (out-ArgMatches m).subcommand in
    let met : subcommand_rows_of m ≡ Some (name, rows_of (found_of sub)) =
    both_of (subcommand_rows_of m) name (rows_of (found_of sub)) (alike ∙ sym named) (sym rows) in
    record {
      taken = taken_by app args is taken;
      entered = met_by app args m is simple matches ∙ met;
    }

no_name : (o : Option (Text × List Row)) → option_map (λ (p : Text × List Row). p.0) o ≡ None → o ≡ None
no_name None is = refl
no_name (Some p) is = cc

-- the arguments name no subcommand, and none was matched
pub none_by : (app : App) (args : List Text) (m : ArgMatches) → app ≡ edit_app → is_simple app ≡ true
    → HasMatchesOf app args m → fault_of app args ≡ [] → None ≡ subcommand_name_of m
    → HasNoSubcommand args
none_by app args m is simple matches taken named =
    let alike : option_map (λ (p : Text × List Row). p.0) (subcommand_rows_of m) ≡ subcommand_name_of m =
    map_map _ _ (out-ArgMatches m).subcommand in
    record {
      taken = taken_by app args is taken;
      none = met_by app args m is simple matches ∙ no_name (subcommand_rows_of m) (alike ∙ sym named);
    }

-- arguments that give an error other than a lack of memory are not accepted
pub not_taken : (app : App) (args : List Text) (e : Error) → app ≡ edit_app
    → (takes app args ≡ true → kind_of e ≡ OutOfMemory)
    → (kind_of e ≡ OutOfMemory → ⊥) → IsNotParsed args
not_taken app args e is passes other taken = other (passes (ap (λ (a : App). takes a args) is ∙ taken))

-- and the kind of the error is one that they may have
among : (kinds : Kinds) (e : Error) → HasKind kinds e → (kind_of e ≡ OutOfMemory → ⊥)
    → IsAmong (kind_of e) kinds
among kinds e (inl memory) other = absurd (other memory)
among kinds e (inr kind) other = kind

-- so the command line answers them, by the status of that kind
pub answered : (app : App) (args : List Text) (e : Error) (status : ℕ) → app ≡ edit_app
    → (takes app args ≡ true → kind_of e ≡ OutOfMemory)
    → HasKind (fault_of app args) e → (kind_of e ≡ OutOfMemory → ⊥) → status ≡ status_of (kind_of e)
    → IsAnswered args status
answered app args e status is passes kinds other same = record {
  not_taken = not_taken app args e is passes other;
  kind = kind_of e;
  among = among (fault_of edit_app args) e
      (subst (λ (a : App). HasKind (fault_of a args) e) is kinds) other;
  is = same;
}
