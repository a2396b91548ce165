-- A text with the picks of a run, as it is written.
use Rattle.std.proofs.Common.{◌≡◌, ℕ, ◌<◌, ◌≤◌, List, ◌++◌, length, sym, ap, ◌∙◌, subst, append_assoc, codes, Result, Ok, Err, IfOk}
use Rattle.pb_base.specs.Lines.{NameTable, line}
use Rattle.pb_base.specs.declared.memory.NoMemory.{NoMemory}
use Rattle.pb_command_io.specs.declared.reply.Reply.{Reply}
use Rattle.pb_command_io.specs.declared.status.Status.{Status}
use Rattle.pb_command_io.specs.declared.status.Status.TheVariants.{Done, Refused}
use Rattle.pb_history.specs.declared.counted.CountedPick.{CountedPick}
use Rattle.pb_picks.specs.PickLines.{pick_lines}
use Rattle.pb_accept.specs.RunTexts.{IsEnded, SaysOfRunText, too_long, with_picks, written}

module _ (bytes : List ℕ) (names : NameTable) (picks : List CountedPick) (ended text whole : List ℕ) (is : IsEnded bytes ended)
    (mark : text ≡ ended ++ codes "%%\n") (lines : whole ≡ text ++ pick_lines names.processes picks) where
  whole_is : whole ≡ with_picks ended names picks
  whole_is =
      lines ∙ (ap (λ (t : List ℕ). t ++ pick_lines names.processes picks) mark
      ∙ append_assoc ended (codes "%%\n") (pick_lines names.processes picks))

  pub says_written : length whole ≤ 4194304 → SaysOfRunText bytes names picks whole Done
  says_written few =
      subst (λ (t : List ℕ). SaysOfRunText bytes names picks t Done) (sym whole_is)
      (written ended is (subst (λ (t : List ℕ). length t ≤ 4194304) whole_is few))

  pub says_too_long : 4194304 < length whole → SaysOfRunText bytes names picks (line (codes "refused output")) Refused
  says_too_long long = too_long ended is (subst (λ (t : List ℕ). 4194304 < length t) whole_is long)

-- a reply with the line that a text with picks is too long
pub reply_is_too_long : (r : Result Reply NoMemory) (SaysOf : List ℕ → Status → Type 0)
    → IfOk r (λ x. (x.text.items ≡ line (codes "refused output")) × (x.status ≡ Refused))
    → SaysOf (line (codes "refused output")) Refused → IfOk r (λ x. SaysOf x.text.items x.status)
reply_is_too_long (Ok r) SaysOf (text, status) says =
    subst (λ (t : List ℕ). SaysOf t r.status) (sym text) (subst (λ (s : Status). SaysOf (line (codes "refused output")) s) (sym status) says)
reply_is_too_long (Err e) SaysOf same says = tt
