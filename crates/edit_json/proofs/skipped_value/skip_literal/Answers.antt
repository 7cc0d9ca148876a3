use Rattle.std.proofs.Common.{inl, inr, subst}
use Rattle.json.specs.Reads.{token_of}
use Rattle.json.specs.Token.{Token}
use Rattle.edit_json.specs.Taken.{BeginsWith, Takes}
use Rattle.edit_json.proofs.TakenValueLemmas.{boolean_taken, null_taken, number_taken}
use Rattle.edit_json.proofs.skipped_value.skip_literal.Goals as goal

pub returns-in-Bool : goal.returns-in-Bool
returns-in-Bool c =
    let t = c.args.text.now in
    let r = c.in_ok-token.rest.now in
    let b = c.in-Bool._b in
    let taken : Takes (BeginsWith (Token.boolean b)) t r = subst (λ k. Takes (BeginsWith (token_of k)) t r) c.in-Bool.is c.in_ok-token.ensures.token in
    record { value = boolean_taken c.args.depth t r b taken }

pub returns-in-Null : goal.returns-in-Null
returns-in-Null c =
    let t = c.args.text.now in
    let r = c.in_ok-token.rest.now in
    let taken : Takes (BeginsWith Token.null) t r = subst (λ k. Takes (BeginsWith (token_of k)) t r) c.in-Null.is c.in_ok-token.ensures.token in
    record { value = null_taken c.args.depth t r taken }

pub returns-in-Number-text : goal.returns-in-Number-text
returns-in-Number-text c =
    let t = c.args.text.now in
    let r = c.in_ok-token.rest.now in
    let s = c.in-Number-text.field-0.now in
    let taken : Takes (BeginsWith (Token.number s)) t r = subst (λ k. Takes (BeginsWith (token_of k)) t r) c.in-Number-text.is c.in_ok-token.ensures.token in
    record { value = number_taken c.args.depth t r s (inl c.in-Number-text.is-text) taken }

pub returns-in-Number-text-2 : goal.returns-in-Number-text-2
returns-in-Number-text-2 c =
    let t = c.args.text.now in
    let r = c.in_ok-token.rest.now in
    let s = c.in-Number-text-2.field-0.now in
    let taken : Takes (BeginsWith (Token.number s)) t r = subst (λ k. Takes (BeginsWith (token_of k)) t r) c.in-Number-text-2.is c.in_ok-token.ensures.token in
    record { value = number_taken c.args.depth t r s (inr c.in-Number-text-2.is-text-2) taken }
