use Rattle.std.proofs.Common.{◌≡◌, ◌++◌, ◌∷◌, [], ℕ, Vec, Global, arith, false, true, ◌∙◌, ap, inl, inr, map, option_map, refl, rules, string_bytes, subst, sym}
use Rattle.std.proofs.lemmas.List.{map_push}
use Rattle.edit_sources.specs.ConfigurationFiles.{IsFollowing}
use Rattle.edit_sources.specs.Configured.{include_view}
use Rattle.edit_sources.specs.Following.IsFault.{absent}
use Rattle.edit_sources.proofs.FollowLemmas.{following_skip, following_stops}
use Rattle.edit_sources.proofs.config.following.next_file.Goals as goal

pub returns-in-Ok-Some-clause-next : goal.returns-in-Ok-Some-clause-next
returns-in-Ok-Some-clause-next g c = λ tells start configs f.
    let store = c.loop-next.invariant.store in
    let seen = g.S.Store.view c.args.store.now in
    let path = string_bytes c.in-Some.next.path in
    let popped : map include_view c.loop-next.pending.items
    ≡ map include_view c.pop.new.self.items ++ include_view c.in-Some.next ∷ [] =
    ap (map include_view) c.in-Some.ensures.items ∙ map_push include_view c.pop.new.self.items c.in-Some.next in
    record {
      next = include_view c.in-Some.next;
      following = subst (λ is. IsFollowing seen.file_at start is configs) popped
          (c.loop-next.invariant.follows tells start configs f);
      at = refl;
      stands = sym (store.files path)
          ∙ ap (g.S.Store.view c.loop-next.store).file_at (sym c.as_str.ensures.value)
          ∙ sym (c.in-Ok-Some.ensures.bytes (store.tells ∙ tells))
          ∙ ap (option_map (λ (v : Vec ℕ Global). v.items)) c.in-Ok-Some.field-0-is;
    }

pub returns-then-not-next-clause-error : goal.returns-then-not-next-clause-error
returns-then-not-next-clause-error g c =
    let store = c.loop-next.invariant.store in
    let seen = g.S.Store.view c.args.store.now in
    let path = string_bytes c.in-Some.next.path in
    let needed : c.in-Some.next.optional ≡ false = search rules in
    let popped : map include_view c.loop-next.pending.items
    ≡ map include_view c.pop.new.self.items ++ include_view c.in-Some.next ∷ [] =
    ap (map include_view) c.in-Some.ensures.items ∙ map_push include_view c.pop.new.self.items c.in-Some.next in
    elim c.config_file_error.ensures [
      | inl memory ↦ inl memory
      | inr named ↦ inr (inr (record {
        path = c.as_str-then-not-next.result.now;
        named = named;
        stops = λ tells start configs f. following_stops seen.file_at start
            (map include_view c.pop.new.self.items) (include_view c.in-Some.next) configs
            c.as_str-then-not-next.result.now
            (subst (λ is. IsFollowing seen.file_at start is configs) popped
            (c.loop-next.invariant.follows tells start configs f))
            (sym c.as_str-then-not-next.ensures.value)
            (absent (sym (store.files path)
            ∙ ap (g.S.Store.view c.loop-next.store).file_at (sym c.as_str.ensures.value)
            ∙ sym (c.in-Ok-None.ensures.bytes (store.tells ∙ tells))
            ∙ ap (option_map (λ (v : Vec ℕ Global). v.items)) c.in-Ok-None.field-0-is) needed);
      }))
    ]

pub loop-next-preserved : goal.loop-next-preserved
loop-next-preserved g c =
    let store = c.loop-next.invariant.store in
    let seen = g.S.Store.view c.args.store.now in
    let path = string_bytes c.in-Some.next.path in
    let optional : c.in-Some.next.optional ≡ true = search rules in
    let popped : map include_view c.loop-next.pending.items
    ≡ map include_view c.pop.new.self.items ++ include_view c.in-Some.next ∷ [] =
    ap (map include_view) c.in-Some.ensures.items ∙ map_push include_view c.pop.new.self.items c.in-Some.next in
    record {
      store = record {
        tells = c.read.ensures.tells ∙ store.tells;
        files = λ p. c.read.ensures.files p ∙ store.files p;
        writes = c.read.ensures.writes ∙ store.writes;
        later = omega (arith, store.later, c.read.ensures.cause.later);
      };
      follows = λ tells start configs f. following_skip seen.file_at start
          (map include_view c.pop.new.self.items) (include_view c.in-Some.next) configs
          (subst (λ is. IsFollowing seen.file_at start is configs) popped
          (c.loop-next.invariant.follows tells start configs f)) optional
          (sym (store.files path)
          ∙ ap (g.S.Store.view c.loop-next.store).file_at (sym c.as_str.ensures.value)
          ∙ sym (c.in-Ok-None.ensures.bytes (store.tells ∙ tells))
          ∙ ap (option_map (λ (v : Vec ℕ Global). v.items)) c.in-Ok-None.field-0-is);
    }
