use Rattle.std.proofs.Common.{rules, ◌≡◌, ◌≤◌, ◌+◌, length, [], ◌∷◌, ◌++◌, true, false, Some, map, ap, sym, ◌∙◌, subst, inl, inr, ⊎_elim, arith}
use Rattle.std.proofs.lemmas.List.{map-append}
use Rattle.edit_version.specs.IndexEntry.{entry_of}
use Rattle.edit_sources.specs.IndexLines.{HaveEntriesInOrder, is_blank, lines_left}
use Rattle.edit_sources.specs.IndexLines.HaveEntriesInOrder.{blank, entry, none}
use Rattle.edit_sources.proofs.LineLemmas.{HasRead, read-none, read-parts, read-more, read-all}
use Rattle.edit_sources.proofs.index_lines.read_lines.Goals as goal

pub lines-init : goal.lines-init
lines-init c = subst (λ es. HasRead HaveEntriesInOrder c.args.bytes.now 0 (Some c.args.bytes) (map entry_of es))
    (sym c.new-entries.ensures.items) (read-none HaveEntriesInOrder none c.args.bytes)

pub overflow_add-number : goal.overflow_add-number
overflow_add-number c =
    let read = subst (λ r. HasRead HaveEntriesInOrder c.args.bytes.now c.lines.number r (map entry_of c.lines.entries.items))
    c.in-Some.is c.lines.invariant in
    let within : c.lines.number ≤ length c.args.bytes.now = omega (arith, read.bound) in
    search (rules, arith)

pub lines-preserved-then-is_blank_line : goal.lines-preserved-then-is_blank_line
lines-preserved-then-is_blank_line c =
    let read = subst (λ r. HasRead HaveEntriesInOrder c.args.bytes.now c.lines.number r (map entry_of c.lines.entries.items))
    c.in-Some.is c.lines.invariant in
    let is : is_blank c.split_line.result.0.now ≡ true = sym c.is_blank_line.ensures ∙ c.if-is_blank_line.true in
    read-more HaveEntriesInOrder c.args.bytes.now c.lines.number c.split_line.result.0.now c.in-Some.text c.split_line.result.1
    (map entry_of c.lines.entries.items) read c.split_line.ensures.lines _ c.split_line.ensures.shorter
    (blank _ _ _ read.say is)

pub lines-preserved : goal.lines-preserved
lines-preserved c =
    let read = subst (λ r. HasRead HaveEntriesInOrder c.args.bytes.now c.lines.number r (map entry_of c.lines.entries.items))
    c.in-Some.is c.lines.invariant in
    let is : is_blank c.split_line.result.0.now ≡ false = sym c.is_blank_line.ensures ∙ c.if-is_blank_line.false in
    let pushed : c.push.new.self.items ≡ c.lines.entries.items ++ c.in-Ok.entry ∷ [] =
    c.in_ok-push-in-Ok.ensures.items in
    let all : map entry_of c.push.new.self.items ≡ map entry_of c.lines.entries.items
    ++ entry_of c.in-Ok.entry ∷ [] =
    ap (λ xs. map entry_of xs) pushed ∙ map-append entry_of c.lines.entries.items (c.in-Ok.entry ∷ []) in
    let says = entry _ _ _ _ read.say is c.in-Ok.ensures in
    read-more HaveEntriesInOrder c.args.bytes.now c.lines.number c.split_line.result.0.now c.in-Some.text c.split_line.result.1
    (map entry_of c.lines.entries.items) read c.split_line.ensures.lines _ c.split_line.ensures.shorter
    (subst (λ es. HaveEntriesInOrder (read.lines ++ c.split_line.result.0.now ∷ []) es) (sym all) says)

pub returns-in-Err-clause-error : goal.returns-in-Err-clause-error
returns-in-Err-clause-error c =
    let read = subst (λ r. HasRead HaveEntriesInOrder c.args.bytes.now c.lines.number r (map entry_of c.lines.entries.items))
    c.in-Some.is c.lines.invariant in
    let is : is_blank c.split_line.result.0.now ≡ false = sym c.is_blank_line.ensures ∙ c.if-is_blank_line.false in
    let parts = read-parts HaveEntriesInOrder c.args.bytes.now c.lines.number c.split_line.result.0.now c.in-Some.text
    c.split_line.result.1 (map entry_of c.lines.entries.items) read c.split_line.ensures.lines in
    ⊎_elim (λ m. inl m) (λ b. inr (
      c.lines.number + 1,
      b.0,
      record {
        before = read.lines;
        line = c.split_line.result.0.now;
        after = lines_left c.split_line.result.1;
        entries = map entry_of c.lines.entries.items;
        whole = parts;
        place = ap (λ n. n + 1) read.counted;
        good = read.say;
        some = is;
        bad = b.1;
      },
    )) c.in-Err.ensures

pub returns-clause-entries : goal.returns-clause-entries
returns-clause-entries c =
    read-all HaveEntriesInOrder c.args.bytes.now c.lines.number (map entry_of c.lines.entries.items)
    (subst (λ r. HasRead HaveEntriesInOrder c.args.bytes.now c.lines.number r (map entry_of c.lines.entries.items))
    c.in_default.is c.lines.invariant)
