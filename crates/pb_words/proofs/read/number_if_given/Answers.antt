use Rattle.std.proofs.Common.{◌≡◌, ℕ, false, true, subst}
use Rattle.clap.specs.Words.{found_of, rows_of}
use Rattle.pb_words.specs.Read.{HasNumberIn}
use Rattle.pb_words.proofs.ReadLemmas.{IfNone-of, no_number_given}
use Rattle.pb_words.proofs.read.number_if_given.Goals as goal

pub returns-in_err-number-clause-none : goal.returns-in_err-number-clause-none
returns-in_err-number-clause-none c =
    let rows = rows_of (found_of c.args.matches.now) in
    IfNone-of c.from_residual.result
    (no_number_given rows c.args.id.now c.args.least c.args.most
    (subst (λ (least : ℕ). (n : ℕ) → HasNumberIn rows c.args.id.now least c.args.most n → ⊥) c.from.ensures
    (subst (λ (most : ℕ). (n : ℕ) → HasNumberIn rows c.args.id.now c.from.result most n → ⊥) c.from-2.ensures c.in_err-number.ensures.none))
    (λ absent. let w : false ≡ true = c.if-is_absent.ensures.1 absent in cc))
