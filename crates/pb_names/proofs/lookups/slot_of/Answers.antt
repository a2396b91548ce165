use Rattle.std.proofs.Common.{rules, arith, ap, ◌∙◌, ◌*◌, ◌+◌, bit_and}
use Rattle.pb_names.specs.Index.{slot}
use Rattle.pb_names.proofs.NameIndexes.{slot_of_none, slot_of_one}
use Rattle.pb_names.proofs.lookups.slot_of.Goals as goal

pub returns-clause-value : goal.returns-clause-value
unfolding slot
returns-clause-value c = search rules

pub returns-then-len-eq0-clause-value : goal.returns-then-len-eq0-clause-value
returns-then-len-eq0-clause-value c = slot_of_none c.args.greatest c.args.name.now (omega arith)

pub returns-then-len-eq1-clause-value : goal.returns-then-len-eq1-clause-value
returns-then-len-eq1-clause-value c =
    ap (λ byte. bit_and (1 + 19 * byte) c.args.greatest) c.byte_at.ensures.value ∙ slot_of_one c.args.greatest c.args.name.now (omega arith)
