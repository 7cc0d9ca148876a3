use Rattle.std.proofs.Common.{◌≡◌, ◌∙◌, ◌+◌, ◌≤◌, Some, ap, arith, false, inl, inr, length, map, rules, subst, sym, true, ⊎_elim, [], ◌∷◌, ◌++◌}
use Rattle.std.specs.BTreeMap.{get_by_text}
use Rattle.edit_version.specs.IndexEntry.{entry_of}
use Rattle.edit_sources.specs.IndexLines.{HaveEntriesInOrder, IsBadLine, is_blank, lines_left, lines_of}
use Rattle.edit_sources.specs.IndexLines.HaveEntriesInOrder.{none}
use Rattle.edit_sources.specs.Withheld.{either, joined, nothing, of_crate, of_lines, of_version}
use Rattle.edit_sources.proofs.DatedLemmas.{HaveLeft, left-bad, left-blank, left-version, line_of_crate-blank, line_of_crate-dated, of_line-blank, of_line-dated}
use Rattle.edit_sources.proofs.LineLemmas.{HasRead, read-all, read-more, read-none, read-parts}
use Rattle.edit_sources.proofs.PublishedLemmas.{lines_of-published_text}
use Rattle.edit_sources.proofs.WithheldLemmas.{either-nothing, either-onto, joined-none, of_crate-more, of_lines-more}
use Rattle.edit_sources.proofs.published_lines.read_published_lines.Goals as goal

pub lines-init : goal.lines-init
lines-init c = record {
  read = subst (λ es. HasRead (HaveLeft c.args.bound) c.args.bytes.now 0 (Some c.args.bytes) (map entry_of es))
      (sym c.new.ensures.items) (read-none (HaveLeft c.args.bound) none c.args.bytes);
  withheld = sym (either-onto c.nothing.result (of_lines c.args.bound (lines_of c.args.bytes.now))
      c.nothing.ensures);
  crates = λ q. search rules;
}

pub overflow_add-number : goal.overflow_add-number
overflow_add-number c =
    let read = subst (λ r. HasRead (HaveLeft c.args.bound) c.args.bytes.now c.lines.number r
    (map entry_of c.lines.lines.entries.items)) c.in-Some.is c.lines.invariant.read in
    let within : c.lines.number ≤ length c.args.bytes.now = omega (arith, read.bound) in
    search (rules, arith)

pub lines-preserved-then-is_blank_line : goal.lines-preserved-then-is_blank_line
lines-preserved-then-is_blank_line c =
    let bound = c.args.bound in
    let entries = map entry_of c.lines.lines.entries.items in
    let line = c.split_line.result.0.now in
    let after = c.split_line.result.1 in
    let split = c.split_line.ensures.lines in
    let withheld = c.lines.lines.withheld in
    let read = subst (λ r. HasRead (HaveLeft bound) c.args.bytes.now c.lines.number r entries) c.in-Some.is
    c.lines.invariant.read in
    let is : is_blank line ≡ true = sym c.is_blank_line.ensures ∙ c.if-is_blank_line.true in
    record {
      read = read-more (HaveLeft bound) c.args.bytes.now c.lines.number line c.in-Some.text after entries read
          split entries c.split_line.ensures.shorter (left-blank bound read.lines line entries read.say is);
      withheld = c.lines.invariant.withheld
          ∙ ap (λ r. either withheld (of_lines bound (lines_left r))) c.in-Some.is
          ∙ of_lines-more bound withheld nothing withheld line (lines_of c.in-Some.text.now) (lines_left after)
          split (sym (of_line-blank bound line is)) (sym (either-nothing withheld));
      crates = λ q.
          let before = get_by_text c.lines.lines.crates q in
          c.lines.invariant.crates q
          ∙ ap (λ r. joined before (of_crate bound (lines_left r) q)) c.in-Some.is
          ∙ of_crate-more bound q line before before (lines_of c.in-Some.text.now) (lines_left after) split
          (sym (ap (joined before) (line_of_crate-blank bound line is q) ∙ joined-none before));
    }

pub lines-preserved : goal.lines-preserved
lines-preserved c =
    let bound = c.args.bound in
    let entries = map entry_of c.lines.lines.entries.items in
    let line = c.split_line.result.0.now in
    let after = c.split_line.result.1 in
    let split = c.split_line.ensures.lines in
    let withheld = c.lines.lines.withheld in
    let e = entry_of c.in-Ok.version.entry in
    let time = c.in-Ok.version.published in
    let added = c.in_ok-add-in-Ok.ensures in
    let read = subst (λ r. HasRead (HaveLeft bound) c.args.bytes.now c.lines.number r entries) c.in-Some.is
    c.lines.invariant.read in
    let is : is_blank line ≡ false = sym c.is_blank_line.ensures ∙ c.if-is_blank_line.false in
    record {
      read = read-more (HaveLeft bound) c.args.bytes.now c.lines.number line c.in-Some.text after entries read
          split (map entry_of c.add.new.self.entries.items) c.split_line.ensures.shorter
          (subst (HaveLeft bound (read.lines ++ line ∷ [])) (sym added.entries)
          (left-version bound read.lines line entries e time read.say is c.in-Ok.ensures));
      withheld = c.lines.invariant.withheld
          ∙ ap (λ r. either withheld (of_lines bound (lines_left r))) c.in-Some.is
          ∙ of_lines-more bound withheld (of_version bound e.yanked time) c.add.new.self.withheld line
          (lines_of c.in-Some.text.now) (lines_left after) split
          (sym (of_line-dated bound line e time c.in-Ok.ensures)) added.withheld;
      crates = λ q.
          let before = get_by_text c.lines.lines.crates q in
          c.lines.invariant.crates q
          ∙ ap (λ r. joined before (of_crate bound (lines_left r) q)) c.in-Some.is
          ∙ of_crate-more bound q line before (get_by_text c.add.new.self.crates q)
          (lines_of c.in-Some.text.now) (lines_left after) split
          (added.crates q
          ∙ ap (joined before) (sym (line_of_crate-dated bound line e time c.in-Ok.ensures q)));
    }

pub returns-in-Err-clause-error : goal.returns-in-Err-clause-error
returns-in-Err-clause-error c =
    let bound = c.args.bound in
    let entries = map entry_of c.lines.lines.entries.items in
    let line = c.split_line.result.0.now in
    let after = c.split_line.result.1 in
    let number = c.lines.number in
    let read = subst (λ r. HasRead (HaveLeft bound) c.args.bytes.now number r entries) c.in-Some.is
    c.lines.invariant.read in
    let is : is_blank line ≡ false = sym c.is_blank_line.ensures ∙ c.if-is_blank_line.false in
    let parts = read-parts (HaveLeft bound) c.args.bytes.now number line c.in-Some.text after entries read
    c.split_line.ensures.lines in
    ⊎_elim (λ m. inl m) (λ b. inr (
      number + 1,
      b.0,
      subst (λ ls. IsBadLine ls (number + 1)) (sym (lines_of-published_text bound c.args.bytes.now))
          (left-bad bound (lines_of c.args.bytes.now) read.lines (lines_left after) line entries (number + 1) parts
          (ap (λ n. n + 1) read.counted) read.say is b.1),
    )) c.in-Err.ensures

pub returns-clause-entries : goal.returns-clause-entries
returns-clause-entries c =
    let bound = c.args.bound in
    let entries = map entry_of c.lines.lines.entries.items in
    subst (λ ls. HaveEntriesInOrder ls entries) (sym (lines_of-published_text bound c.args.bytes.now))
    (read-all (HaveLeft bound) c.args.bytes.now c.lines.number entries
    (subst (λ r. HasRead (HaveLeft bound) c.args.bytes.now c.lines.number r entries) c.in_default.is
    c.lines.invariant.read))
