use Rattle.std.proofs.Common.{◌∙◌, IfOk, List, ℕ, subst, sym}
use Rattle.pb_code.specs.Limits.{KeepsLimits}
use Rattle.pb_code.specs.Whole.{Code}
use Rattle.pb_search_tool.specs.Messages.{SaysOfPrintLines, said}
use Rattle.pb_search_engine.specs.Requirements.{IsBadAsked, SpellsAsked}
use Rattle.pb_verifier.specs.declared.fault.VerifyFault.TheVariants.{OutOfLimits}
use Rattle.pb_search_tool.proofs.prints.prints_message.Goals.{in-Ok, in-Err}
use Rattle.pb_search_tool.proofs.prints.prints_message.Goals as goal

pub read_asked-requires : goal.read_asked-requires
read_asked-requires c = subst KeepsLimits (sym c.code.ensures.code) (c.code.ensures.verified.faultless OutOfLimits)

pub unsaid_message-requires : goal.unsaid_message-requires
unsaid_message-requires c =
    subst (λ (code : Code). IsBadAsked code c.args.lines.text.now c.in-Err.fault) (c.code.ensures.code ∙ sym c.code-in-Err.ensures.code)
    c.in-Err.ensures.refused

pub returns : goal.returns
returns c =
    let code = c.args.verified.now.code in
    let before = c.args.lines.before in
    let lines = c.args.lines.text.now in
    elim c.match-read_asked.branch [
      | in-Ok w ↦
          subst (λ made. IfOk made (λ message. SaysOfPrintLines code before lines message.items)) (sym w.result-is)
          (subst (λ (told : List ℕ). SaysOfPrintLines code before lines told) (sym w.new.ensures.items)
          (said w.in-Ok.field-0.requirements.items w.in-Ok.field-0.prints.items
          (subst (λ (x : Code). SpellsAsked x lines w.in-Ok.field-0.requirements.items w.in-Ok.field-0.prints.items) c.code.ensures.code
          w.in-Ok.ensures.read)))
      | in-Err w ↦
          subst (λ made. IfOk made (λ message. SaysOfPrintLines code before lines message.items)) (sym w.result-is)
          (subst (λ (x : Code). IfOk w.unsaid_message.result (λ message. SaysOfPrintLines x before lines message.items))
          w.code-in-Err.ensures.code w.unsaid_message.ensures)
    ]
