use Rattle.std.proofs.Common.{◌≡◌, eqb, true, false, get_or, sym, ◌∙◌, arith}
use Rattle.std.proofs.lemmas.Bool.{eq-eqb, ne_eqb}
use Rattle.pb_desk.proofs.FieldLemmas.{after_ends, after_more, field_ends, field_more}
use Rattle.pb_desk.proofs.entry.cut.Goals as goal

pub loop-i-preserved : goal.loop-i-preserved
loop-i-preserved c =
    let text = c.args.text.now in
    let i = c.loop-i.i in
    let other : eqb (get_or text i 0) 32 ≡ false = ne_eqb (get_or text i 0) 32 c.if-text-i-eq32.false in
    record {
      first = sym (field_more text i (omega arith) other) ∙ c.loop-i.invariant.first;
      rest = sym (after_more text i (omega arith) other) ∙ c.loop-i.invariant.rest;
    }

pub returns-then-text-i-eq32-clause-first : goal.returns-then-text-i-eq32-clause-first
returns-then-text-i-eq32-clause-first c =
    let text = c.args.text.now in
    let i = c.loop-i.i in
    let space : eqb (get_or text i 0) 32 ≡ true = eq-eqb (get_or text i 0) 32 c.if-text-i-eq32.true in
    c.front.ensures ∙ (sym (field_ends text i (omega arith) space) ∙ c.loop-i.invariant.first)

pub returns-then-text-i-eq32-clause-rest : goal.returns-then-text-i-eq32-clause-rest
returns-then-text-i-eq32-clause-rest c =
    let text = c.args.text.now in
    let i = c.loop-i.i in
    let space : eqb (get_or text i 0) 32 ≡ true = eq-eqb (get_or text i 0) 32 c.if-text-i-eq32.true in
    c.back.ensures ∙ (sym (after_ends text i (omega arith) space) ∙ c.loop-i.invariant.rest)
