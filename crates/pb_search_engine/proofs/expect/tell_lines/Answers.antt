use Rattle.std.proofs.Common.{[], ◌∷◌, ℕ, ap, sym, subst, ◌∙◌}
use Rattle.pb_accept.specs.Sayings.{NoMemory}
use Rattle.pb_code.specs.Limits.{KeepsLimits}
use Rattle.pb_code.specs.Whole.{Code}
use Rattle.pb_command_io.specs.declared.status.Status.TheVariants as status
use Rattle.pb_options.specs.Lends.{lending_for}
use Rattle.pb_search_engine.specs.Requirements.{IsBadAsked, SpellsAsked}
use Rattle.pb_search_engine.specs.SaysExpected.{no_memory, no_prints}
use Rattle.pb_search_engine.specs.Sayings.{BadLine, Plain}
use Rattle.pb_search_engine.specs.declared.print_lines.PrintFault.TheVariants.{NotPrint}
use Rattle.pb_search_engine.proofs.ExpectLemmas.{asked_said}
use Rattle.pb_verifier.specs.Verified.{VerifiedCode}
use Rattle.pb_verifier.specs.declared.fault.VerifyFault.TheVariants.{OutOfLimits}
use Rattle.pb_voice.specs.Held.{at}
use Rattle.pb_voice.specs.Tellings.{Ends}
use Rattle.pb_search_engine.proofs.expect.tell_lines.Goals as goal

pub read_asked-requires : goal.read_asked-requires
read_asked-requires g c = subst KeepsLimits (sym c.code.ensures.code) (c.code.ensures.verified.faultless OutOfLimits)

pub returns-in-Ok : goal.returns-in-Ok
returns-in-Ok g c =
    let same = c.code.ensures.code ∙ ap (λ (v : VerifiedCode). v.code) c.verified.ensures in
    asked_said g.T.Teller.tells g.T.Teller.breaks (at g.O.Output.written g.O.Output.failures c.args.teller.now c.args.output.now)
    (at g.O.Output.written g.O.Output.failures c.tell_asked.new.teller c.tell_asked.new.output) c.tell_asked.result c.args.options.fair
    (lending_for c.args.options.lend) c.args.options.any_order c.args.compiled.now.verified.code c.args.compiled.now.labels c.args.options.states
    c.args.lines.now c.in-Ok.asked.requirements.items c.in-Ok.asked.prints.items
    (subst (λ (code : Code). SpellsAsked code c.args.lines.now c.in-Ok.asked.requirements.items c.in-Ok.asked.prints.items) same c.in-Ok.ensures.read)
    c.tell_asked.ensures

pub returns-in-Err-NotPrint : goal.returns-in-Err-NotPrint
returns-in-Err-NotPrint g c =
    let same = c.code.ensures.code ∙ ap (λ (v : VerifiedCode). v.code) c.verified.ensures in
    let place = c.in-Err-NotPrint.place in (
      BadLine place ∷ [],
      status.Refused,
      no_prints place (subst (λ (code : Code). IsBadAsked code c.args.lines.now (NotPrint place)) same (rw c.in-Err-NotPrint.field-0-is at c.in-Err-NotPrint.ensures.refused)),
      subst (λ (n : ℕ). Ends g.T.Teller.tells g.T.Teller.breaks (at g.O.Output.written g.O.Output.failures c.args.teller.now c.args.output.now)
          (BadLine n ∷ []) status.Refused (at g.O.Output.written g.O.Output.failures c.tell_last.new.teller c.tell_last.new.output) c.tell_last.result)
          c.in-Err-NotPrint.place-is c.tell_last.ensures,
    )

pub returns-in-Err-NoMemory : goal.returns-in-Err-NoMemory
returns-in-Err-NoMemory g c = (Plain NoMemory ∷ [], status.Memory, no_memory, c.tell_last-in-Err-NoMemory.ensures)
