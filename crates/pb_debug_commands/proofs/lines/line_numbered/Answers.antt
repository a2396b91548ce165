use Rattle.std.proofs.Common.{◌≡◌, ℕ, ◌+◌, ◌-◌, ◌<◌, ◌≤◌, List, length, take, drop, sym, ap, ◌∙◌, subst, arith}
use Rattle.std.proofs.lemmas.List.{length-drop, take_all}
use Rattle.pb_debug_commands.specs.Lines.{line_numbered}
use Rattle.pb_debug_commands.proofs.NumberedLines.{later_behind, no_later}
use Rattle.pb_debug_commands.proofs.lines.line_numbered.Goals as goal

pub loop-left-preserved : goal.loop-left-preserved
loop-left-preserved c =
    let rest = c.loop-left.rest.now in
    let left = c.loop-left.left in
    let end = c.in-Some.end in
    let some : 1 < left = omega arith in
    let size = length-drop (end + 1) rest in
    let was = c.loop-left.invariant.short in
    let all : take (length rest - (end + 1)) (drop (end + 1) rest) ≡ drop (end + 1) rest =
    take_all (length rest - (end + 1)) (drop (end + 1) rest) (omega (arith, size)) in
    let shorter : length (drop (end + 1) rest) ≤ length c.args.text.now = omega (arith, size, was) in
    record {
      same =
          ap (λ (bs : List ℕ). line_numbered bs (left - 1)) all
          ∙ (later_behind rest left end some c.in-Some.ensures.place ∙ c.loop-left.invariant.same);
      short = subst (λ (bs : List ℕ). length bs ≤ length c.args.text.now) (sym all) shorter;
    }

pub returns-in_default : goal.returns-in_default
returns-in_default c =
    let some : 1 < c.loop-left.left = omega arith in
    no_later c.loop-left.rest.now c.loop-left.left some c.in_default.ensures.place ∙ c.loop-left.invariant.same

pub returns : goal.returns
returns c =
    let one : c.loop-left.left ≡ 1 = omega arith in
    c.first_line.ensures ∙ (ap (line_numbered c.loop-left.rest.now) (sym one) ∙ c.loop-left.invariant.same)
